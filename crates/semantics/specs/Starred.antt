-- Runs of whole sheets, proved together.
use Rattle.std.specs.Prelude.{◌≡◌, ℕ, ◌+◌, true, false, List, [], ◌∷◌, ◌++◌, length, pos, negsuc, codes}
use Rattle.std.proofs.Math.Option.{none, some}
use Rattle.xi.specs.declared.stop.Stop.TheVariants.{Index, TooDeep}
use Rattle.semantics.specs.State.{Slot, int, bool, array}
use Rattle.semantics.specs.Rules.{slots_of}
use Rattle.semantics.specs.Runs.{Setup, after, Outcome, done, stopped}
use Rattle.semantics.specs.Readings.{smallest}
use Rattle.semantics.specs.Sheets.{on, over, empty_main, divides, two_empty, three_by_four, ratio_of, one_row_sheet, three_rows_sheet, counts, greets, parses, decides, oversteps, falls, computes}

-- the run has finished with these globals and cells, after so many nodes, with so many characters handed
pub record Finishes (S : Setup) (spent : ℕ) (globals cells : List Slot) (taken : ℕ) : Type 0 where
  pub outcome : (after S spent).outcome ≡ some done
  pub nodes : (after S spent).spent ≡ spent
  pub globals_are : (after S spent).core.store.globals ≡ globals
  pub cells_are : (after S spent).core.store.cells ≡ cells
  pub handed : length (after S spent).host.handed ≡ taken

-- cell 0, `main`'s empty array
abbrev pub cell0 : Slot
cell0 = some (int (pos 0))

-- an array of characters
abbrev pub text : List ℕ → List Slot
text t = some (int (pos (length t))) ∷ slots_of t

-- four unset elements
abbrev pub four_unset : List Slot
four_unset = some (int (pos 4)) ∷ none ∷ none ∷ none ∷ none ∷ []

pub record StarredExamples : Type 0 where
  -- `main(args:int[][]) {}` waits after grant 0 and finishes after 1
  pub waits : (after (on empty_main [] []) 0).outcome ≡ none
  pub finishes : Finishes (on empty_main [] []) 1 [] (cell0 ∷ []) 0
  -- -7 / 2 is -3, and -7 % 2 is -1
  pub seven : Finishes (over (divides (negsuc 6) (pos 2)) []) 9 (some (int (negsuc 2)) ∷ some (int (negsuc 0)) ∷ none ∷ []) (cell0 ∷ []) 0
  -- the smallest / -1 is the smallest, % gives 0
  pub least : Finishes (over (divides smallest (negsuc 0)) []) 9 (some (int smallest) ∷ some (int (pos 0)) ∷ none ∷ []) (cell0 ∷ []) 0
  -- `{} == {}` is false
  pub empty : Finishes (over two_empty []) 5 (none ∷ none ∷ some (bool false) ∷ []) (cell0 ∷ cell0 ∷ cell0 ∷ []) 0
  -- `int[3][4]` takes 19 cells
  pub nineteen : Finishes (over three_by_four []) 4 (none ∷ none ∷ none ∷ [])
      (cell0 ∷ (some (int (pos 3)) ∷ some (array 5) ∷ some (array 10) ∷ some (array 15) ∷ []) ++ four_unset ++ four_unset ++ four_unset) 0
  pub taken_cells : length (after (over three_by_four []) 4).core.store.cells ≡ 1 + 19
  -- `ratio(5,2)` is 3, `ratio(-5,2)` is -3
  pub half : Finishes (over (ratio_of (pos 5) (pos 2)) []) 5 (some (int (pos 3)) ∷ none ∷ none ∷ []) (cell0 ∷ []) 0
  pub minus_half : Finishes (over (ratio_of (negsuc 4) (pos 2)) []) 5 (some (int (negsuc 2)) ∷ none ∷ none ∷ []) (cell0 ∷ []) 0
  -- `12,3` without newline: one row, taken 4, then `eof`
  pub one_row : Finishes (over one_row_sheet (codes "12,3")) 5 (none ∷ none ∷ some (bool true) ∷ []) (cell0 ∷ text (codes "12,3")) 4
  -- `a`, 10, 10, `b`: rows `a`, empty, `b`; taken 4
  pub three_rows : Finishes (over three_rows_sheet (97 ∷ 10 ∷ 10 ∷ 98 ∷ [])) 9 (none ∷ none ∷ some (bool true) ∷ []) (cell0 ∷ text (codes "a") ++ text [] ++ text (codes "b")) 4

-- the run has come to an end in this way, after so many nodes, with this text written
pub record Ends (S : Setup) (spent : ℕ) (o : Outcome) (written : List ℕ) : Type 0 where
  pub outcome : (after S spent).outcome ≡ some o
  pub nodes : (after S spent).spent ≡ spent
  pub text_is : (after S spent).host.written ≡ written

-- runs that pin down what costs fuel, and where stops are
pub record FurtherExamples : Type 0 where
  -- a `while` costs one once, and its guard anew each round: 1 + 2 + 1 + 4 * 3 + 3 * 4
  pub loop : Finishes (over counts []) 28 (some (int (pos 3)) ∷ none ∷ none ∷ []) (cell0 ∷ []) 0
  -- operators have their operands in order
  pub arithmetic : Finishes (over computes []) 30 (some (int (pos 3)) ∷ some (int (negsuc 6)) ∷ some (bool true) ∷ []) (cell0 ∷ []) 0
  -- a text, the call, the statement, the body
  pub prints : Ends (over greets []) 4 done (104 ∷ 105 ∷ 10 ∷ [])
  -- targets cost nothing
  pub parses-text : Finishes (over parses []) 6 (some (int (negsuc 11)) ∷ none ∷ none ∷ []) (cell0 ∷ text (codes "-12")) 0
  -- the right part is not begun
  pub early : Finishes (over decides []) 4 (none ∷ none ∷ some (bool false) ∷ []) (cell0 ∷ []) 0
  -- the place is the element's node; what was written before stays
  pub index : Ends (over oversteps []) 9 (stopped Index 6) (codes "a")
  -- four calls may be open: the fifth stops, after its argument
  pub deep : Ends (over falls []) 16 (stopped TooDeep 1) []
