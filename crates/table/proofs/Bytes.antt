-- The line text is what the memory holds of it. Assumes nothing.
use Rattle.std.proofs.Common.{◌≡◌, ℕ, List, [], ◌∷◌, ◌++◌, length, take, drop, sym, refl, ap, ◌∙◌, arith}
use Rattle.std.specs.List.{flat_map}
use Rattle.std.proofs.lemmas.List.{length-take, length-drop, take-append-drop}
use Rattle.measure.specs.declared.measurer.Measurer.{Ghosts as Meaning}
use Rattle.extent.specs.declared.Extent.{Ghosts as Sides}
use Rattle.ledger.specs.declared.records.ItemRecord.{ItemRecord}
use Rattle.ledger.specs.declared.records.ItemRecord.TheVariants.{Space, CellWord, TemplateWord, Kern, Hfil}
use Rattle.ledger.specs.Chunks.{chunks, total}
use Rattle.ledger.specs.Items.{taken, meant, decoded_items}
use Rattle.packer.specs.Laws.{cell_bytes, line_text}
use Rattle.packer.proofs.Sounds.{laid-items}
use Rattle.packer.proofs.Writes.{lines-items}
use Rattle.table.specs.declared.table.Table.{Table}
use Rattle.table.specs.Views.{ledger_in}

bytes-meant : (p : List ℕ) (i : ItemRecord) (t : List ℕ) → cell_bytes (meant p i (take (taken i) t)) ≡ take (taken i) t
bytes-meant p Space t = refl
bytes-meant p (CellWord n) t = refl
bytes-meant p (TemplateWord a n) t = refl
bytes-meant p (Kern z) t = refl
bytes-meant p Hfil t = refl

-- items that take exactly a text have its bytes
bytes-decoded : (p : List ℕ) (is : List ItemRecord) (t : List ℕ) → total taken is ≡ length t → flat_map cell_bytes (decoded_items p is t) ≡ t
unfolding chunks total
bytes-decoded p [] [] e = refl
bytes-decoded p [] (b ∷ t) e = absurd (omega arith)
bytes-decoded p (i ∷ is) t e =
    let l = length-drop (taken i) t in
    let rest = bytes-decoded p is (drop (taken i) t) (omega arith) in
    ap (λ (xs : List ℕ). xs ++ flat_map cell_bytes (decoded_items p is (drop (taken i) t))) (bytes-meant p i t)
    ∙ ap (λ (xs : List ℕ). take (taken i) t ++ xs) rest
    ∙ take-append-drop (taken i) t

pub text-is : {X E : Type 0} {m : Meaning X E} {s : Sides E} (t : Table X E m s) → take t.rows.draft.state.laid.text t.rows.draft.memory.text.now ≡ line_text (ledger_in t).lines
text-is t =
    let q = t.rows.preamble in
    let st = t.rows.draft.state in
    let d = t.rows.draft.memory in
    let fit = t.rows.good.fit in
    let short = length-take st.laid.text d.text.now in
    let exact : total taken (take st.laid.items d.items.now) ≡ length (take st.laid.text d.text.now) = let a = fit.laid-text in let b = fit.text in let c = fit.since_text in omega arith in
    sym (ap (flat_map cell_bytes) (sym (lines-items (ledger_in t).lines) ∙ laid-items q st d fit) ∙ bytes-decoded q.text.now (take st.laid.items d.items.now) (take st.laid.text d.text.now) exact)
