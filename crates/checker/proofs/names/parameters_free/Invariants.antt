use Rattle.std.proofs.Common.{◌≡◌, ◌-◌, length}
use Rattle.sheet.specs.Outcome.{runs}
use Rattle.checker.specs.Checked.{parameters_free_of, parameters_free}
use Rattle.checker.proofs.names.parameters_free.Given as goal

-- what is left to test decides
abbrev pub invariant-loop-record : goal.invariant-loop-record
invariant-loop-record l =
    runs (λ i _. parameters_free_of l.sheet i) (length l.sheet.program.functions - l.record-index) l.record-index tt ≡ parameters_free l.sheet
