-- What stands at a place of a text, in words: longest runs, escaped bytes, control words, marks, and the three faults.
-- Assumes nothing.
use Rattle.std.specs.Prelude.{◌≡◌, ℕ, ◌+◌, ◌<◌, ◌≤◌, Bool, true, ◌⊎◌, List, length, Ok, Err, Result, slice_index}
use Rattle.std.specs.List.{between}
use Rattle.faults.specs.declared.Fault.{Fault}
use Rattle.faults.specs.declared.Cause.TheVariants.{BadByte, UnknownControl, WordLength}
use Rattle.faults.specs.Faults.{fault_at}
use Rattle.reader.specs.declared.classes.Class.TheVariants as class
use Rattle.reader.specs.declared.tokens.Control.{Control}
use Rattle.reader.specs.declared.tokens.Token.{Token}
use Rattle.reader.specs.declared.tokens.Token.TheVariants as token
use Rattle.reader.specs.declared.tokens.Lexeme.{Lexeme}
use Rattle.reader.specs.Classes.{class_of, InRange}
use Rattle.reader.specs.Tokens.{word_byte, blank_byte, name_byte, letters_of}

-- this byte stands at a place
abbrev pub Stands : ℕ → List ℕ → ℕ → Type 0
Stands b text k = (k < length text) × (slice_index text k ≡ b)

-- a byte that passes stands at a place
abbrev pub Passes : (ℕ → Bool) → List ℕ → ℕ → Type 0
Passes p text k = (k < length text) × (p (slice_index text k) ≡ true)

-- & # $ % _ { }
abbrev pub IsEscapable : ℕ → Type 0
IsEscapable b = (b ≡ 38) ⊎ ((b ≡ 35) ⊎ ((b ≡ 36) ⊎ ((b ≡ 37) ⊎ ((b ≡ 95) ⊎ ((b ≡ 123) ⊎ (b ≡ 125))))))

-- one of them stands at a place
abbrev pub Escapes : List ℕ → ℕ → Type 0
Escapes text k = (k < length text) × IsEscapable (slice_index text k)

-- from a up to e every byte passes, and none does at e
pub record Longest (p : ℕ → Bool) (text : List ℕ) (a e : ℕ) : Type 0 where
  pub onto : a ≤ e
  pub all : (k : ℕ) → a ≤ k → k < e → Passes p text k
  pub stops : Passes p text e → ⊥

-- a word of n bytes at w: a longest run of word bytes
pub record PlainWord (text : List ℕ) (place w n e : ℕ) : Type 0 where
  pub here : w ≡ place
  pub some : 1 ≤ n
  pub few : n ≤ 255
  pub run : Longest word_byte text place (place + n)
  pub behind : e ≡ place + n

-- the one byte behind a backslash, as a word
pub record EscapedWord (text : List ℕ) (place w n e : ℕ) : Type 0 where
  pub slash : Stands 92 text place
  pub byte : Escapes text (place + 1)
  pub here : w ≡ place + 1
  pub one : n ≡ 1
  pub behind : e ≡ place + 2

-- the longest run of letters behind a backslash, up to s, spells a control word
pub record Names (text : List ℕ) (place s : ℕ) (c : Control) : Type 0 where
  pub slash : Stands 92 text place
  pub run : Longest name_byte text (place + 1) s
  pub spells : between (place + 1) s text ≡ letters_of c

-- .. and all spaces behind it are skipped
abbrev pub ControlWord : List ℕ → ℕ → ℕ → Control → Type 0
ControlWord text place e c = (s : ℕ) × Names text place s c × Longest blank_byte text s e

-- a byte that is a token by itself
abbrev pub Mark : ℕ → List ℕ → ℕ → ℕ → Type 0
Mark b text place e = Stands b text place × (e ≡ place + 1)

-- the token at a place, which ends before e
abbrev pub TokenIs : List ℕ → ℕ → ℕ → Token → Type 0
TokenIs text place e token.End = (length text ≤ place) × (e ≡ place)
TokenIs text place e token.Space = (place < e) × Longest blank_byte text place e
TokenIs text place e (token.Word w n) = PlainWord text place w n e ⊎ EscapedWord text place w n e
TokenIs text place e (token.Control c) = ControlWord text place e c
TokenIs text place e token.Ampersand = Mark 38 text place e
TokenIs text place e token.Hash = Mark 35 text place e
TokenIs text place e token.OpenBrace = Mark 123 text place e
TokenIs text place e token.CloseBrace = Mark 125 text place e

-- a byte of the class bad
abbrev pub Stray : List ℕ → ℕ → Type 0
Stray text place = (place < length text) × (class_of (slice_index text place) ≡ class.Bad)

-- a backslash with neither an escaped byte nor a control word behind it
pub record Unknown (text : List ℕ) (place : ℕ) : Type 0 where
  pub slash : Stands 92 text place
  pub bare : Escapes text (place + 1) → ⊥
  pub nameless : (s : ℕ) (c : Control) → Names text place s c → ⊥

-- a longest run of more than 255 word bytes
abbrev pub TooLong : List ℕ → ℕ → Type 0
TooLong text place = (e : ℕ) × Longest word_byte text place e × (place + 255 < e)

-- why there is no token at a place
abbrev pub Refused : List ℕ → ℕ → Fault → Type 0
Refused text place f =
    ((f ≡ fault_at BadByte place) × Stray text place)
    ⊎ (((f ≡ fault_at UnknownControl place) × Unknown text place) ⊎ ((f ≡ fault_at WordLength place) × TooLong text place))

-- what is read at a place
abbrev pub Reads : List ℕ → ℕ → Result Lexeme Fault → Type 0
Reads text place (Ok l) = TokenIs text place l.end l.token
Reads text place (Err f) = Refused text place f

-- nothing else is read there
abbrev pub Alone : List ℕ → ℕ → Result Lexeme Fault → Type 0
Alone text place r = (s : Result Lexeme Fault) → Reads text place s → s ≡ r

-- no two control words have the same letters
abbrev pub LettersApart : Type 0
LettersApart = (c d : Control) → letters_of c ≡ letters_of d → c ≡ d

-- a token that lies within the text
pub record Forward (text : List ℕ) (place e : ℕ) : Type 0 where
  pub further : place < e
  pub inside : e ≤ length text

-- a word of n bytes at w, for a caller to cut out
pub record WordWithin (text : List ℕ) (place w n e : ℕ) : Type 0 where
  pub further : place < e
  pub inside : e ≤ length text
  pub from : place ≤ w
  pub upto : w + n ≤ e
  pub some : 1 ≤ n
  pub few : n ≤ 255
  pub bytes : (k : ℕ) → k < n → InRange (slice_index text (w + k))

-- how far a token reaches
abbrev pub Reaches : List ℕ → ℕ → ℕ → Token → Type 0
Reaches text place e token.End = (e ≡ place) × (length text ≤ place)
Reaches text place e token.Space = Forward text place e
Reaches text place e (token.Word w n) = WordWithin text place w n e
Reaches text place e (token.Control c) = Forward text place e
Reaches text place e token.Ampersand = Forward text place e
Reaches text place e token.Hash = Forward text place e
Reaches text place e token.OpenBrace = Forward text place e
Reaches text place e token.CloseBrace = Forward text place e

-- a token ends behind its place and within the text, and a fault stands at its place, within the text
abbrev pub Onward : List ℕ → ℕ → Result Lexeme Fault → Type 0
Onward text place (Ok l) = Reaches text place l.end l.token
Onward text place (Err f) = (f.place ≡ place) × (place < length text)
