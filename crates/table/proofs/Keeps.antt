-- Templates stay fine, and what holds of every ledger is kept by each call.
use Rattle.std.proofs.Common.{◌≡◌, ℕ, ◌≤◌, Bool, true, List, [], length, ℤ, Some, None, Ok, Err, Option, Result, sym, refl, subst}
use Rattle.faults.specs.declared.Fault.{Fault}
use Rattle.measure.specs.declared.measurer.Measurer.{Ghosts as Meaning}
use Rattle.extent.specs.declared.Extent.{Ghosts as Sides}
use Rattle.lengths.specs.Gaps.{Parts}
use Rattle.ledger.specs.Ledger.{Item, rule, gap, Ledger}
use Rattle.ledger.specs.Calls.{Template, take_verdict, omit_verdict, tab_verdict, span_verdict, lay_verdict, rule_verdict, gap_fits, opened, omits, starts, puts, tabs, carries, lays, on_open, ruled_by, gives_up}
use Rattle.ledger.specs.Naturals.{start_verdict, add_verdict}
use Rattle.ledger.specs.Preambles.{Preamble, preamble_of}
use Rattle.ledger.specs.Lawful.{fine, FineTemplates, FineSized, Lawful}
use Rattle.ledger.proofs.Lawfuls.{lawful-ruled, lawful-gives_up}
use Rattle.ledger.proofs.Steps.{lawful-opened, lawful-omits, lawful-starts, lawful-adds, lawful-tabs, lawful-carries, lawful-lays, lawful-rule}
use Rattle.ledger.proofs.Templated.{templates-none, templates-more, preamble-fine}
use Rattle.lines.specs.Lines.{bytes_read, ledger_after, line_of}
use Rattle.lines.specs.Laws.{ReadsLine}
use Rattle.lines.proofs.Laws.{reads-line}
use Rattle.lines.proofs.Keeps.{line-keeps}
use Rattle.rows.specs.declared.rows.Rows.{Rows}
use Rattle.rows.specs.declared.preamble.Preamble.{Preamble as Held}
use Rattle.rows.specs.Columns.{columns_in as templates_on}
use Rattle.rows.specs.Good.{templates_of}
use Rattle.rows.specs.Views.{templates_at, ledger_at, SoundAt, Stays}
use Rattle.rows.specs.Answers.{unless, followed}
use Rattle.table.specs.declared.table.Table.{Table}
use Rattle.table.specs.Making.{read_from, templates_made}
use Rattle.table.specs.Views.{templates_in, room_of, ledger_in, wide_in}

-- the templates of a table, read or refused
made-read : {X : Type 0} (text : List ℕ) (meaning : List ℕ → Result X ℕ) (g : Parts) (r : Result Preamble Fault) → preamble_of text meaning g ≡ r → FineTemplates meaning (templates_made r)
made-read text meaning g (Ok p) e = preamble-fine meaning text p g e
made-read text meaning g (Err f) e = templates-more meaning [] (record { u = []; v = [] }) (templates-none meaning) (templates-none meaning 0)

pub made-fine : {X : Type 0} (text : List ℕ) (meaning : List ℕ → Result X ℕ) (o : Option Parts) → FineTemplates meaning (templates_made (read_from text meaning o))
made-fine text meaning None = templates-more meaning [] (record { u = []; v = [] }) (templates-none meaning) (templates-none meaning 0)
made-fine text meaning (Some g) = made-read text meaning g (preamble_of text meaning g) refl

-- a line that a table read
pub line-read : {X E : Type 0} {m : Meaning X E} {s : Sides E} (t : Table X E m s) (r' : Rows E) (text : List ℕ) (o : Result (Option ℕ) Fault)
    → o ≡ bytes_read (line_of text (m.meaning t.measurer.now) (templates_in t) s.count (wide_in t) (room_of t) (ledger_in t))
    → ledger_at r' ≡ ledger_after (line_of text (m.meaning t.measurer.now) (templates_in t) s.count (wide_in t) (room_of t) (ledger_in t)) (ledger_in t)
    → ReadsLine text (m.meaning t.measurer.now) (templates_in t) s.count (wide_in t) (room_of t) (ledger_in t) (ledger_at r') o
line-read {m = m} {s = s} t r' text o a e =
    let law = λ (g : Ledger) (x : Result (Option ℕ) Fault). ReadsLine text (m.meaning t.measurer.now) (templates_in t) s.count (wide_in t) (room_of t) (ledger_in t) g x in
    let read = line_of text (m.meaning t.measurer.now) (templates_in t) s.count (wide_in t) (room_of t) (ledger_in t) in
    subst (law (ledger_at r')) (sym a)
    (subst (λ (g : Ledger). law g (bytes_read read)) (sym e) (reads-line text (m.meaning t.measurer.now) (templates_in t) s.count (wide_in t) (room_of t) (ledger_in t)))

-- a table after a call
module _ {X E : Type 0} {m : Meaning X E} {s : Sides E} (t : Table X E m s) (sized : FineSized (m.meaning t.measurer.now) s.count (wide_in t))
    (r' : Rows E) (stays : Stays t.rows r') (sound : SoundAt s.count s.num (wide_in t) r') where
  abbrev Law : Ledger → Type 0
  Law g = Lawful (m.meaning t.measurer.now) s.count (wide_in t) (templates_in t) g

  -- what its fields say
  pub record Stands : Type 0 where
    pub few : length (templates_on r'.preamble.columns.now) ≤ 32
    pub meant : SoundAt s.count s.num (wide_in t) r'
    pub fitting : FineTemplates (m.meaning t.measurer.now) (templates_at r')
    pub lawful : Lawful (m.meaning t.measurer.now) s.count (wide_in t) (templates_at r') (ledger_at r')

  stands-by : Law (ledger_at r') → Stands
  stands-by l = record {
    few = subst (λ (q : Held E). length (templates_on q.columns.now) ≤ 32) (sym stays.preamble) t.few;
    meant = sound;
    fitting = subst (λ (q : Held E). FineTemplates (m.meaning t.measurer.now) (templates_of q)) (sym stays.preamble) t.fitting;
    lawful = subst (λ (q : Held E). Lawful (m.meaning t.measurer.now) s.count (wide_in t) (templates_of q) (ledger_at r')) (sym stays.preamble) l;
  }

  -- a refused call changes nothing
  law-followed : (v : Option Fault) (next : Ledger) (o : Result (Unit {0}) Fault) → o ≡ unless v tt → (v ≡ None → Law (ledger_in t) → Law next) → Law (followed o (ledger_in t) next)
  law-followed None next (Ok x) a k = k refl t.lawful
  law-followed None next (Err f) a k = t.lawful
  law-followed (Some f) next (Ok x) a k = cc
  law-followed (Some f) next (Err h) a k = t.lawful

  after-call : (v : Option Fault) (next : Ledger) (o : Result (Unit {0}) Fault) → o ≡ unless v tt → ledger_at r' ≡ followed o (ledger_in t) next → (v ≡ None → Law (ledger_in t) → Law next) → Stands
  after-call v next o a e k = stands-by (subst Law (sym e) (law-followed v next o a k))

  abbrev g0 : Ledger
  g0 = ledger_in t

  abbrev P0 : List Template
  P0 = templates_in t

  pub after-take : (o : Result (Unit {0}) Fault) → o ≡ unless (take_verdict P0 (room_of t) g0) tt → ledger_at r' ≡ followed o g0 (opened g0) → Stands
  after-take o a e = after-call (take_verdict P0 (room_of t) g0) (opened g0) o a e (λ v l. lawful-opened (m.meaning t.measurer.now) s.count (wide_in t) P0 sized t.fitting g0 l)

  pub after-omit : (c : ℕ) (o : Result (Unit {0}) Fault) → o ≡ unless (omit_verdict g0 c) tt → ledger_at r' ≡ followed o g0 (on_open (omits g0) g0 g0.hand) → Stands
  after-omit c o a e = after-call (omit_verdict g0 c) (on_open (omits g0) g0 g0.hand) o a e (λ v l. lawful-omits (m.meaning t.measurer.now) s.count (wide_in t) P0 sized t.fitting c g0 v l)

  pub after-start : (c : ℕ) (o : Result (Unit {0}) Fault) → o ≡ unless (start_verdict s.count (wide_in t) P0 g0 c) tt → ledger_at r' ≡ followed o g0 (on_open (starts P0 g0) g0 g0.hand) → Stands
  after-start c o a e = after-call (start_verdict s.count (wide_in t) P0 g0 c) (on_open (starts P0 g0) g0 g0.hand) o a e (λ v l. lawful-starts (m.meaning t.measurer.now) s.count (wide_in t) P0 sized t.fitting c g0 v l)

  pub after-add : (i : Item) (o : Result (Unit {0}) Fault) → fine (m.meaning t.measurer.now) i ≡ true → o ≡ unless (add_verdict s.count (wide_in t) P0 (room_of t) g0 i) tt → ledger_at r' ≡ followed o g0 (on_open (puts i g0) g0 g0.hand) → Stands
  after-add i o f a e = after-call (add_verdict s.count (wide_in t) P0 (room_of t) g0 i) (on_open (puts i g0) g0 g0.hand) o a e (λ v l. lawful-adds (m.meaning t.measurer.now) s.count (wide_in t) P0 sized t.fitting i (room_of t) g0 f v l)

  pub after-tab : (c : ℕ) (o : Result (Unit {0}) Fault) → o ≡ unless (tab_verdict P0 (room_of t) g0 c) tt → ledger_at r' ≡ followed o g0 (on_open (tabs P0 g0) g0 g0.hand) → Stands
  after-tab c o a e = after-call (tab_verdict P0 (room_of t) g0 c) (on_open (tabs P0 g0) g0 g0.hand) o a e (λ v l. lawful-tabs (m.meaning t.measurer.now) s.count (wide_in t) P0 sized t.fitting g0 l)

  pub after-span : (c : ℕ) (o : Result (Unit {0}) Fault) → o ≡ unless (span_verdict P0 (room_of t) g0 c) tt → ledger_at r' ≡ followed o g0 (on_open (carries P0 g0) g0 g0.hand) → Stands
  after-span c o a e = after-call (span_verdict P0 (room_of t) g0 c) (on_open (carries P0 g0) g0 g0.hand) o a e (λ v l. lawful-carries (m.meaning t.measurer.now) s.count (wide_in t) P0 sized t.fitting (room_of t) c g0 v l)

  pub after-lay : (c : ℕ) (o : Result (Unit {0}) Fault) → o ≡ unless (lay_verdict g0 c) tt → ledger_at r' ≡ followed o g0 (on_open (lays P0 g0) g0 g0.hand) → Stands
  after-lay c o a e = after-call (lay_verdict g0 c) (on_open (lays P0 g0) g0 g0.hand) o a e (λ v l. lawful-lays (m.meaning t.measurer.now) s.count (wide_in t) P0 sized t.fitting g0 l)

  pub after-rule : (o : Result (Unit {0}) Fault) → o ≡ unless (rule_verdict P0 (room_of t) g0) tt → ledger_at r' ≡ followed o g0 (ruled_by rule g0) → Stands
  after-rule o a e = after-call (rule_verdict P0 (room_of t) g0) (ruled_by rule g0) o a e (λ v l. lawful-rule (m.meaning t.measurer.now) s.count (wide_in t) P0 sized t.fitting g0 l)

  pub after-gap : (z : ℤ) (o : Result (Unit {0}) Fault) → gap_fits z ≡ true → o ≡ unless (rule_verdict P0 (room_of t) g0) tt → ledger_at r' ≡ followed o g0 (ruled_by (gap z) g0) → Stands
  after-gap z o f a e = after-call (rule_verdict P0 (room_of t) g0) (ruled_by (gap z) g0) o a e (λ v l. lawful-ruled (m.meaning t.measurer.now) s.count (wide_in t) P0 (gap z) g0 f refl l)

  pub after-give_up : (b : Bool) → ledger_at r' ≡ gives_up b g0 → Stands
  after-give_up b e = stands-by (subst Law (sym e) (lawful-gives_up (m.meaning t.measurer.now) s.count (wide_in t) P0 b g0 t.lawful))

  pub after-line : (text : List ℕ) (o : Result (Option ℕ) Fault) → ReadsLine text (m.meaning t.measurer.now) P0 s.count (wide_in t) (room_of t) g0 (ledger_at r') o → Stands
  after-line text o h = stands-by (line-keeps text (m.meaning t.measurer.now) P0 s.count (wide_in t) (room_of t) sized t.fitting g0 (ledger_at r') o h t.lawful)
