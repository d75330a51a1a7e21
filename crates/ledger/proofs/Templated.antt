-- The templates of a preamble that is read are fine.
use Rattle.std.proofs.Common.{◌≡◌, ℕ, zero, suc, ◌<◌, ◌≤◌, true, List, [], ◌∷◌, ◌++◌, length, take, drop, nat_lt, ℤ, Ok, Err, Result, sym, refl, ap, subst, arith, length-append}
use Rattle.std.proofs.lemmas.Int.{ints}
use Rattle.std.proofs.lemmas.Bool.{cond_both, ltb-true}
use Rattle.std.proofs.lemmas.Bool.Decides.{nat_tests}
use Rattle.std.specs.Result.{is_ok}
use Rattle.faults.specs.declared.Fault.{Fault}
use Rattle.reader.specs.declared.tokens.Control.{Control}
use Rattle.reader.specs.declared.tokens.Control.TheVariants as control
use Rattle.reader.specs.declared.tokens.Lexeme.{Lexeme}
use Rattle.reader.specs.declared.tokens.Token.{Token}
use Rattle.reader.specs.declared.tokens.Token.TheVariants as token
use Rattle.reader.specs.Tokens.{token_at}
use Rattle.reader.specs.Reads.{Reaches, Onward}
use Rattle.reader.proofs.Reaching.{token-onward}
use Rattle.lengths.specs.declared.length.Length.{Length}
use Rattle.lengths.specs.Lengths.{length_at}
use Rattle.lengths.specs.Ranges.{NaturalRange}
use Rattle.lengths.specs.Gaps.{Parts, natural_fits}
use Rattle.lengths.specs.Glues.{GlueParts, glue_at}
use Rattle.lengths.proofs.Within.{length-within}
use Rattle.measure.specs.Words.{IsWord}
use Rattle.measure.specs.Asked.{characterless}
use Rattle.measure.proofs.Worded.{measured-word}
use Rattle.ledger.specs.Ledger.{Item, template_word, space, kern, hfil}
use Rattle.ledger.specs.Calls.{Template}
use Rattle.ledger.specs.Preambles.{Reading, Preamble, Outcome, goes_on, ends, refuses, bare, taking, word_taken, kern_taken, gap_taken, templated, parted, ended, hashed, onward, by_control, by_token, by_lexeme, step, read_by, preamble_of}
use Rattle.ledger.specs.Lawful.{fine, FineTemplate, FineTemplates}
use Rattle.ledger.proofs.Fines.{all-append, all-one}
use Rattle.ledger.proofs.Words.{word-is}

module _ {X : Type 0} (meaning : List ℕ → Result X ℕ) where
  -- no templates, and one more
  pub templates-none : FineTemplates meaning []
  templates-none c = record { u = refl; v = refl; few-u = omega arith; few-v = omega arith }

  pub templates-more : (ts : List Template) (t : Template) → FineTemplates meaning ts → FineTemplate meaning t → FineTemplates meaning (ts ++ t ∷ [])
  templates-more [] t h f zero = f
  templates-more [] t h f (suc c) = templates-none c
  templates-more (x ∷ xs) t h f zero = h zero
  templates-more (x ∷ xs) t h f (suc c) = templates-more xs t (λ i. h (suc i)) f c

  -- what holds while a preamble is read
  record Going (r : Reading) : Type 0 where
    before : FineTemplates meaning r.templates
    hand : FineTemplate meaning (record { u = r.u; v = r.v })

  -- .. and after a token
  abbrev After : Outcome → Type 0
  After (goes_on q) = Going q
  After (ends p) = FineTemplates meaning p.templates
  After (refuses f) = Unit {0}

  module _ (r : Reading) (h : Going r) where
    more-few : (is : List Item) (i : Item) → nat_lt (length is) 64 ≡ true → length (is ++ i ∷ []) ≤ 64
    more-few is i e = let lt : length is < 64 = ltb-true (length is) 64 e in let l = length-append is (i ∷ []) in omega arith

    taking-fine : (i : Item) (at end : ℕ) → fine meaning i ≡ true → After (taking r i at end)
    taking-fine i at end f = cond_both r.marked _ _ After
        (λ _. cond_both (nat_lt (length r.v) 64) _ _ After
        (λ e. record { before = h.before; hand = record { u = h.hand.u; v = all-append (fine meaning) r.v (i ∷ []) h.hand.v (all-one (fine meaning) i f); few-u = h.hand.few-u; few-v = more-few r.v i e } })
        (λ _. tt))
        (λ _. cond_both (nat_lt (length r.u) 64) _ _ After
        (λ e. record { before = h.before; hand = record { u = all-append (fine meaning) r.u (i ∷ []) h.hand.u (all-one (fine meaning) i f); v = h.hand.v; few-u = more-few r.u i e; few-v = h.hand.few-v } })
        (λ _. tt))

    word-fine : (at end : ℕ) (w : List ℕ) (m : Result X ℕ) → meaning w ≡ m → IsWord w → After (word_taken r m at w end)
    word-fine at end w (Ok x) e is = taking-fine (template_word at w) r.place end (ap is_ok (sym (measured-word meaning w is (Ok x) (ap characterless (sym e)))))
    word-fine at end w (Err p) e is = tt

    kern-fits : (z : ℤ) → NaturalRange z → natural_fits z ≡ true
    kern-fits z n = grind (arith, ints, nat_tests, n.0, n.1)

    kern-fine : (at : ℕ) (m : Result Length Fault) → ((l : Length) → m ≡ Ok l → NaturalRange l.sp) → After (kern_taken r at m)
    kern-fine at (Ok l) n = taking-fine (kern l.sp) at l.end (kern-fits l.sp (n l refl))
    kern-fine at (Err f) n = tt

    gap-fine : (m : Result GlueParts Fault) → After (gap_taken r m)
    gap-fine (Ok g) = record { before = h.before; hand = h.hand }
    gap-fine (Err f) = tt

    templated-fine : FineTemplates meaning (templated r)
    templated-fine = templates-more r.templates (record { u = r.u; v = r.v }) h.before h.hand

    parted-fine : (end : ℕ) → After (parted r end)
    parted-fine end = cond_both r.marked _ _ After
        (λ _. cond_both (nat_lt (length (templated r)) 32) _ _ After (λ _. record { before = templated-fine; hand = templates-none 0 }) (λ _. tt))
        (λ _. tt)

    ended-fine : (end : ℕ) → After (ended r end)
    ended-fine end = cond_both r.marked _ _ After (λ _. templated-fine) (λ _. tt)

    hashed-fine : (end : ℕ) → After (hashed r end)
    hashed-fine end = cond_both r.marked _ _ After (λ _. tt) (λ _. record { before = h.before; hand = h.hand })

    module _ (text : List ℕ) where
      control-fine : (end : ℕ) (c : Control) → After (by_control text meaning r end c)
      control-fine end control.Kern = kern-fine end (length_at text end) (λ l e. (length-within text end l e).0)
      control-fine end control.Hfil = taking-fine hfil r.place end refl
      control-fine end control.Tabskip = gap-fine (glue_at text end)
      control-fine end control.Cr = ended-fine end
      control-fine end control.Omit = tt
      control-fine end control.Span = tt
      control-fine end control.Noalign = tt
      control-fine end control.Hrule = tt
      control-fine end control.Vskip = tt

      token-fine : (end : ℕ) (t : Token) → Reaches text r.place end t → After (by_token text meaning r end t)
      token-fine end token.End o = tt
      token-fine end token.Space o = cond_both (bare r) _ _ After (λ _. record { before = h.before; hand = h.hand }) (λ _. taking-fine space r.place end refl)
      token-fine end (token.Word at n) o = word-fine at end (take n (drop at text)) (meaning (take n (drop at text))) refl (word-is text r.place at n end o)
      token-fine end (token.Control c) o = control-fine end c
      token-fine end token.Ampersand o = parted-fine end
      token-fine end token.Hash o = hashed-fine end
      token-fine end token.OpenBrace o = tt
      token-fine end token.CloseBrace o = tt

      lexeme-fine : (l : Result Lexeme Fault) → Onward text r.place l → After (by_lexeme text meaning r l)
      lexeme-fine (Ok l) o = token-fine l.end l.token o
      lexeme-fine (Err f) o = tt

      step-fine : After (step text meaning r)
      step-fine = lexeme-fine (token_at text r.place) (token-onward text r.place)

  module _ (text : List ℕ) (p : Preamble) where
    onward-fine : (o : Outcome) (k : Reading → Result Preamble Fault) → After o → ((q : Reading) → Going q → k q ≡ Ok p → FineTemplates meaning p.templates) → onward o k ≡ Ok p → FineTemplates meaning p.templates
    onward-fine (goes_on q) k a ih e = ih q a e
    onward-fine (ends d) k a ih e = let same : d ≡ p = cc in subst (λ (x : Preamble). FineTemplates meaning x.templates) same a
    onward-fine (refuses f) k a ih e = cc

    read-fine : (n : ℕ) (r : Reading) → Going r → read_by text meaning n r ≡ Ok p → FineTemplates meaning p.templates
    unfolding read_by
    read-fine zero r h e = cc
    read-fine (suc n) r h e = onward-fine (step text meaning r) (read_by text meaning n) (step-fine r h text) (read-fine n) e

    -- the law of preambles
    pub preamble-fine : (start : Parts) → preamble_of text meaning start ≡ Ok p → FineTemplates meaning p.templates
    preamble-fine start e = read-fine (suc (length text)) _ (record { before = templates-none; hand = templates-none 0 }) e
