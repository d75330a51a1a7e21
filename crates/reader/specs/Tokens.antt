-- The token at a place of a text, and the place behind it. Assumes nothing.
use Rattle.std.specs.Prelude.{ℕ, ◌+◌, Bool, true, false, cond, ◌||◌, List, [], ◌∷◌, take, drop, Some, None, Ok, Err, codes, Option, Result, ◌==◌, nat_le}
use Rattle.std.specs.List.{prefix_len}
use Rattle.std.specs.Str.{bytes_eq}
use Rattle.faults.specs.declared.Fault.{Fault}
use Rattle.faults.specs.declared.Cause.TheVariants.{BadByte, UnknownControl, WordLength}
use Rattle.faults.specs.Faults.{fault_at}
use Rattle.reader.specs.declared.classes.Class.{Class}
use Rattle.reader.specs.declared.classes.Class.TheVariants as class
use Rattle.reader.specs.declared.tokens.Control.{Control}
use Rattle.reader.specs.declared.tokens.Control.TheVariants as control
use Rattle.reader.specs.declared.tokens.Token.{Token}
use Rattle.reader.specs.declared.tokens.Token.TheVariants as token
use Rattle.reader.specs.declared.tokens.Lexeme.{Lexeme}
use Rattle.reader.specs.Classes.{class_of}

-- which classes may stand in a run
abbrev pub in_word : Class → Bool
in_word class.Bad = false
in_word class.Space = false
in_word class.Special = false
in_word class.Letter = true
in_word class.Other = true

abbrev pub in_blank : Class → Bool
in_blank class.Bad = false
in_blank class.Space = true
in_blank class.Special = false
in_blank class.Letter = false
in_blank class.Other = false

abbrev pub in_letters : Class → Bool
in_letters class.Bad = false
in_letters class.Space = false
in_letters class.Special = false
in_letters class.Letter = true
in_letters class.Other = false

-- bytes of a word, of a run of spaces, of a control word
abbrev pub word_byte : ℕ → Bool
word_byte b = in_word (class_of b)

abbrev pub blank_byte : ℕ → Bool
blank_byte b = in_blank (class_of b)

abbrev pub name_byte : ℕ → Bool
name_byte b = in_letters (class_of b)

-- & # $ % _ { }
abbrev pub escapable : ℕ → Bool
escapable b = b == 38 || (b == 35 || (b == 36 || (b == 37 || (b == 95 || (b == 123 || b == 125)))))

-- the letters of a control word
abbrev pub letters_of : Control → List ℕ
letters_of control.Kern = codes "kern"
letters_of control.Hfil = codes "hfil"
letters_of control.Tabskip = codes "tabskip"
letters_of control.Cr = codes "cr"
letters_of control.Omit = codes "omit"
letters_of control.Span = codes "span"
letters_of control.Noalign = codes "noalign"
letters_of control.Hrule = codes "hrule"
letters_of control.Vskip = codes "vskip"

abbrev pub controls : List Control
controls = control.Kern ∷ control.Hfil ∷ control.Tabskip ∷ control.Cr ∷ control.Omit ∷ control.Span ∷ control.Noalign ∷ control.Hrule ∷ control.Vskip ∷ []

-- the first of some control words with these letters
unfoldable pub first_spelled : List ℕ → List Control → Option Control
first_spelled l [] = None
first_spelled l (c ∷ cs) = cond (bytes_eq l (letters_of c)) (Some c) (first_spelled l cs)

-- the control word with these letters, if there is one
unfoldable pub spelled : List ℕ → Option Control
spelled l = first_spelled l controls

abbrev pub lexeme : Token → ℕ → Result Lexeme Fault
lexeme t e = Ok (record { token = t; end = e })

-- a control word, or the fault at its backslash, with the place behind it
abbrev pub controlled : Option Control → ℕ → ℕ → Result Lexeme Fault
controlled None place e = Err (fault_at UnknownControl place)
controlled (Some c) place e = lexeme (token.Control c) e

-- the longest run of letters behind a backslash, and the spaces behind that run
abbrev pub control_word : List ℕ → ℕ → Result Lexeme Fault
control_word bs place =
    controlled (spelled (take (prefix_len name_byte bs) bs)) place
    (place + 1 + prefix_len name_byte bs + prefix_len blank_byte (drop (prefix_len name_byte bs) bs))

-- what a backslash at a place begins, by all that stands behind it
abbrev pub after_backslash : List ℕ → ℕ → Result Lexeme Fault
after_backslash [] place = Err (fault_at UnknownControl place)
after_backslash (b ∷ bs) place = cond (escapable b) (lexeme (token.Word (place + 1) 1) (place + 2)) (control_word (b ∷ bs) place)

-- a run of word bytes at a place, by its length
abbrev pub word_of : ℕ → ℕ → Result Lexeme Fault
word_of n place = cond (nat_le n 255) (lexeme (token.Word place n) (place + n)) (Err (fault_at WordLength place))

-- the four marks, by their bytes
abbrev pub mark_of : ℕ → Token
mark_of b = cond (b == 38) token.Ampersand (cond (b == 35) token.Hash (cond (b == 123) token.OpenBrace token.CloseBrace))

-- a text that does not begin with a backslash, by the class of its first byte
abbrev pub by_class : Class → ℕ → List ℕ → ℕ → Result Lexeme Fault
by_class class.Bad b s place = Err (fault_at BadByte place)
by_class class.Space b s place = lexeme token.Space (place + prefix_len blank_byte s)
by_class class.Special b s place = lexeme (mark_of b) (place + 1)
by_class class.Letter b s place = word_of (prefix_len word_byte s) place
by_class class.Other b s place = word_of (prefix_len word_byte s) place

-- the token that begins what is left of a text at a place
abbrev pub token_of : List ℕ → ℕ → Result Lexeme Fault
token_of [] place = lexeme token.End place
token_of (b ∷ bs) place = cond (b == 92) (after_backslash bs place) (by_class (class_of b) b (b ∷ bs) place)

-- the token at a place of a text
unfoldable pub token_at : List ℕ → ℕ → Result Lexeme Fault
token_at text place = token_of (drop place text) place

-- the place behind the run of space bytes at a place
unfoldable pub spaces_end : List ℕ → ℕ → ℕ
spaces_end text place = place + prefix_len blank_byte (drop place text)
