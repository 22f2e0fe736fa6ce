use Rattle.std.proofs.Common.{false, sym, ap, ◌∙◌, subst}
use Rattle.xi.specs.declared.node.Node.{Node}
use Rattle.checker.specs.Facts.{PartsBelow}
use Rattle.checker.specs.Trees.{offset_of}
use Rattle.checker.specs.Walk.{type_of, call_of, after_node, after_all, after_of, ends_node, ends_of}
use Rattle.checker.proofs.Depth.{after-step, ends-step}
use Rattle.checker.proofs.node_at.NodeAt.statement_node.Goals as goal

pub returns : goal.returns
returns c =
    let D = c.args.self.trees.now.sheet in
    let n = c.args.self.number in
    let is = sym c.node_at.ensures.same in
    record {
      sized = c.node_at.ensures.sized;
      parts = subst (λ (d : Node). PartsBelow D.program n d) is (c.args.self.trees.now.falling n c.args.self.known);
      after = λ owed last Γ. after-step D c.args.self.trees.now.falling n c.args.self.known owed last Γ ∙ ap (after_node (type_of D Γ) (call_of D Γ) (after_of D owed false Γ) (λ ns. after_all (after_of D owed) ns Γ) D owed last Γ (offset_of D n)) is;
      ends = ends-step D c.args.self.trees.now.falling n c.args.self.known ∙ ap (ends_node (ends_of D.program) D.program) is;
    }
