-- The globals of a sheet.
use Rattle.std.specs.Prelude.{ℕ, cond, ◌&&◌, ◌||◌, List, ℤ, Some, None, Option, ◌==◌, nat_le, nat_lt, slice_index}
use Rattle.std.specs.Int.{w64}
use Rattle.std.proofs.Common.{to_z}
use Rattle.xi.specs.declared.rule.Rule.TheVariants.{Range}
use Rattle.xi.specs.declared.program.GlobalVariable.{GlobalVariable}
use Rattle.sheet.specs.Outcome.{Outcome, good, bad, then, held}
use Rattle.sheet.specs.Fields.{pair, eight}

-- the first value of a global of the type t at p: given 0 means none, with the value 0; given 1 is for `int` and `bool`, with 0 or 1 for `bool`
abbrev pub first_value : ℕ → ℕ → ℕ → ℕ → Outcome (Option ℤ)
first_value p t given v =
    cond (given == 0) (cond (v == 0) (good None) (bad Range p))
    (cond (given == 1 && (t == 0 || (t == 1 && nat_le v 1))) (good (Some (to_z w64 v))) (bad Range p))

-- the global in twelve bytes at p, where there are n names
abbrev pub global_reads : ℕ → List ℤ → ℕ → ℕ → List ℕ → Outcome GlobalVariable
global_reads n cs e p w =
    then (held (nat_lt (pair w 0) n && nat_le (slice_index w 2) 9) Range p) (λ _.
    then (first_value p (slice_index w 2) (slice_index w 3) (eight w 4)) (λ v.
    good (record { name = pair w 0; ty = record { number = slice_index w 2 }; first = v })))
