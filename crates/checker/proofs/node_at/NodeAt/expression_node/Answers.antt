use Rattle.std.proofs.Common.{sym, ap, ◌∙◌, subst}
use Rattle.xi.specs.declared.node.Node.{Node}
use Rattle.checker.specs.Facts.{PartsBelow}
use Rattle.checker.specs.Trees.{offset_of}
use Rattle.checker.specs.Walk.{type_node, type_of, call_node}
use Rattle.checker.proofs.Depth.{type-step, call_step}
use Rattle.checker.proofs.node_at.NodeAt.expression_node.Goals as goal

pub returns : goal.returns
returns c =
    let D = c.args.self.trees.now.sheet in
    let n = c.args.self.number in
    let is = sym c.node_at.ensures.same in
    record {
      sized = c.node_at.ensures.sized;
      parts = subst (λ (d : Node). PartsBelow D.program n d) is (c.args.self.trees.now.falling n c.args.self.known);
      types = λ Γ. type-step D c.args.self.trees.now.falling n c.args.self.known Γ ∙ ap (type_node (type_of D Γ) D.program Γ (offset_of D n)) is;
      calls = λ Γ k. call_step D c.args.self.trees.now.falling n Γ k ∙ ap (call_node (type_of D Γ) D.program k (offset_of D n)) is;
    }
