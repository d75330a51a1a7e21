-- What a table is: its lines and its open row, and what each call makes of them.
use Rattle.std.specs.Prelude.{ℕ, Bool, List, ℤ, Option}

-- An item: a word of a cell, a word of the preamble text with its place, a space, a kern, a hfil.
pub data Item : Type 0 where
  cell_word : List ℕ → Item
  template_word : ℕ → List ℕ → Item
  space : Item
  kern : ℤ → Item
  hfil : Item

pub record Entry : Type 0 where
  pub first : ℕ
  pub last : ℕ
  pub items : List Item

pub data Line : Type 0 where
  row : List Entry → Line
  rule : Line
  gap : ℤ → Line

-- The row in hand: its column, whether its cell is begun, whether that is omitted, the first column of the
-- entry being built, the entries finished and the items so far.
pub record OpenRow : Type 0 where
  pub column : ℕ
  pub begun : Bool
  pub omitted : Bool
  pub first : ℕ
  pub done : List Entry
  pub items : List Item

pub record Ledger : Type 0 where
  pub lines : List Line
  pub hand : Option OpenRow
