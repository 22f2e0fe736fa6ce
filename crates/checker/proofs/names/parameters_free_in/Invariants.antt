use Rattle.std.proofs.Common.{◌≡◌, ◌-◌, length}
use Rattle.sheet.specs.Outcome.{runs}
use Rattle.checker.specs.Checked.{parameter_free, parameters_free_in}
use Rattle.checker.proofs.names.parameters_free_in.Given as goal

-- what is left to test decides
abbrev pub invariant-loop-j : goal.invariant-loop-j
invariant-loop-j l = runs (λ j _. parameter_free l.globals l.parameters l.at j) (length l.parameters - l.j) l.j tt ≡ parameters_free_in l.globals l.parameters l.at
