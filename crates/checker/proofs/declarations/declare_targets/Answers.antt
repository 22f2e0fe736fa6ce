use Rattle.std.proofs.Common.{sym, refl, ◌∙◌}
use Rattle.sheet.proofs.Outcomes.{said_on}
use Rattle.xi.specs.Tree.{node_at}
use Rattle.xi.specs.Typing.{target_bindings}
use Rattle.checker.specs.Trees.{offset_of}
use Rattle.checker.specs.Walk.{declared_all, targets_declared}
use Rattle.checker.specs.Scopes.{scope_of}
use Rattle.checker.proofs.Parts.{at_part}
use Rattle.checker.proofs.Turns.{turn-bad, turn-good, turn_end}
use Rattle.checker.proofs.declarations.declare_targets.Goals as goal

pub returns-in_err-scope : goal.returns-in_err-scope
returns-in_err-scope c =
    let D = c.args.targets.node.trees.now.sheet in
    let part = at_part (λ D m. declared_all D.program (offset_of D m) (target_bindings (node_at D.program m)) (scope_of c.loop-target.scope)) c.args.targets.node c.part.result c.part.ensures.trees c.part.ensures.number in
    said_on _ _ _ _ _ _ c.from_residual.ensures.1 c.in_err-scope.ensures (λ k q e. sym c.loop-target.invariant ∙ turn-bad (targets_declared D) (λ n _ Γ. declared_all D.program (offset_of D n) (target_bindings (node_at D.program n)) Γ) (λ x xs s. refl) _ _ 0 _ c.loop-target-test.true k q (part ∙ e))

pub loop-target-preserved : goal.loop-target-preserved
loop-target-preserved c =
    let D = c.args.targets.node.trees.now.sheet in
    let part = at_part (λ D m. declared_all D.program (offset_of D m) (target_bindings (node_at D.program m)) (scope_of c.loop-target.scope)) c.args.targets.node c.part.result c.part.ensures.trees c.part.ensures.number in
    turn-good (targets_declared D) (λ n _ Γ. declared_all D.program (offset_of D n) (target_bindings (node_at D.program n)) Γ) (λ x xs s. refl) _ _ 0 _ c.loop-target-test.true _ (part ∙ c.in_ok-scope.ensures) ∙ c.loop-target.invariant

pub returns : goal.returns
returns c =
    sym c.loop-target.invariant ∙ turn_end (targets_declared c.args.targets.node.trees.now.sheet) (λ s. refl) _ _ _ c.loop-target-test.false
