-- What is said of a part, by its number in the trees of the node.
use Rattle.std.proofs.Common.{◌≡◌, ℕ, sym}
use Rattle.checker.specs.declared.node_at.NodeAt.{NodeAt}
use Rattle.sheet.specs.Sheets.{Decoded}
use Rattle.checker.specs.Nodes.{whole}

pub at_part : {A : Type 0} (f : Decoded → ℕ → A) (n p : NodeAt) {k : ℕ} → p.trees.now ≡ n.trees.now → p.number ≡ k → f (whole n) k ≡ f (whole p) p.number
at_part f n p same is = λ j. f (sym same j).sheet (sym is j)
