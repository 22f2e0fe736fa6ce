use Rattle.checker.proofs.ends.+ends.Given as goal

abbrev pub decreases-ends : goal.decreases-ends
decreases-ends l = l.node.number
