use Rattle.std.proofs.Common.{◌≡◌, drop}
use Rattle.sheet.specs.Names.{identifier_from}
use Rattle.sheet.proofs.names.is_identifier.Given as goal

-- what is left to test decides
abbrev pub invariant-loop-i : goal.invariant-loop-i
invariant-loop-i l = identifier_from l.i (drop l.i l.w) ≡ identifier_from 0 l.w
