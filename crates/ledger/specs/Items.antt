-- What item records mean, over the bytes that they take of the line text. Assumes nothing.
use Rattle.std.specs.Prelude.{ℕ, ◌+◌, List, [], take, drop}
use Rattle.ledger.specs.declared.records.ItemRecord.{ItemRecord}
use Rattle.ledger.specs.declared.records.ItemRecord.TheVariants.{Space, CellWord, TemplateWord, Kern, Hfil}
use Rattle.ledger.specs.declared.records.Column.{Column}
use Rattle.ledger.specs.Chunks.{chunks}
use Rattle.ledger.specs.Ledger.{Item, cell_word, template_word, space, kern, hfil}
use Rattle.ledger.specs.Calls.{Template}

-- how many bytes of the line text an item takes
abbrev pub taken : ItemRecord → ℕ
taken Space = 0
taken (CellWord n) = n
taken (TemplateWord a n) = 0
taken (Kern z) = 0
taken Hfil = 0

-- what it is over these, with the preamble text p
abbrev pub meant : List ℕ → ItemRecord → List ℕ → Item
meant p Space w = space
meant p (CellWord n) w = cell_word w
meant p (TemplateWord a n) w = template_word a (take n (drop a p))
meant p (Kern z) w = kern z
meant p Hfil w = hfil

abbrev pub decoded_items : List ℕ → List ItemRecord → List ℕ → List Item
decoded_items p is t = chunks taken (meant p) is t

-- the items of a column's u and v parts
abbrev pub u_in : List ItemRecord → Column → List ItemRecord
u_in pieces c = take c.u (drop c.from pieces)

abbrev pub v_in : List ItemRecord → Column → List ItemRecord
v_in pieces c = take c.v (drop (c.from + c.u) pieces)

-- the template of a column
abbrev pub template_in : List ℕ → List ItemRecord → Column → Template
template_in p pieces c = record { u = decoded_items p (u_in pieces c) []; v = decoded_items p (v_in pieces c) [] }
