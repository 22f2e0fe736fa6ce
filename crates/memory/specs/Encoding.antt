-- How values stand in words and in cells.
use Rattle.std.specs.Prelude.{ℕ, ◌^◌, ◌<◌, true, false, List, ℤ, pos, FitsSigned, All}
use Rattle.std.proofs.Math.Option.{none, some}
use Rattle.std.specs.Int.{w64}
use Rattle.std.proofs.Common.{to_z, of_z}
use Rattle.semantics.specs.State.{Value, int, bool, array, Slot}
use Rattle.memory.specs.declared.cell.Cell.{Cell}

-- a value without its type
abbrev pub word : Value → ℕ
word (int z) = of_z w64 z
word (bool false) = 0
word (bool true) = 1
word (array p) = p

abbrev pub number : Value → ℤ
number (int z) = z
number (bool false) = pos 0
number (bool true) = pos 1
number (array p) = pos p

abbrev pub unset_cell : Cell
unset_cell = record { value = pos 0; mark = false }

abbrev pub set_cell : ℤ → Cell
set_cell z = record { value = z; mark = true }

abbrev pub cell_of : Slot → Cell
cell_of none = unset_cell
cell_of (some v) = set_cell (number v)

-- a word as it is put in a cell
abbrev pub cell_of_word : ℕ → Cell
cell_of_word w = set_cell (to_z w64 w)

-- what an `int` can be; a cell's number is below 2^63
abbrev pub InRange : Value → Type 0
InRange (int z) = FitsSigned w64 z
InRange (bool b) = Unit {0}
InRange (array p) = p < 2 ^ 63

abbrev pub AllInRange : List Value → Type 0
AllInRange = All InRange
