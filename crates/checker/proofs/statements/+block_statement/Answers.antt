use Rattle.std.proofs.Common.{◌+◌, ◌==◌, length, get_or, sym, refl, ap, ◌∙◌}
use Rattle.sheet.proofs.Outcomes.{said_on}
use Rattle.xi.specs.Typing.{numbers_of}
use Rattle.checker.specs.Walk.{is_empty, after_all, after_of}
use Rattle.checker.specs.Scopes.{scope_of}
use Rattle.checker.proofs.Parts.{at_part}
use Rattle.checker.proofs.Returns.{last_entry}
use Rattle.checker.proofs.Turns.{turn-bad, turn-good, turn_end}
use Rattle.checker.proofs.statements.+block_statement.Goals as goal

pub block-returns-in_err-scope : goal.block-returns-in_err-scope
block-returns-in_err-scope t c =
    let go = after_of c.args.parts.node.trees.now.sheet (numbers_of c.args.owed.now) in
    let part = at_part (λ D. after_of D (numbers_of c.args.owed.now) (c.loop-i.i + 1 == length c.args.parts.numbers.now) (scope_of c.loop-i.scope)) c.args.parts.node c.part.result c.part.ensures.trees c.part.ensures.number in
    said_on _ _ _ _ _ _ c.from_residual.ensures.1 c.in_err-scope.ensures
    (λ k q e. sym c.loop-i.invariant ∙ turn-bad (after_all go) (λ n ns Γ. go (is_empty ns) Γ n) (λ x xs s. refl) c.args.parts.numbers.now c.loop-i.i 0 (scope_of c.loop-i.scope) c.loop-i-test.true k q (ap (λ l. go l (scope_of c.loop-i.scope) (get_or c.args.parts.numbers.now c.loop-i.i 0)) (last_entry _ _ c.loop-i-test.true) ∙ part ∙ e))

pub block-loop-i-preserved : goal.block-loop-i-preserved
block-loop-i-preserved t c =
    let go = after_of c.args.parts.node.trees.now.sheet (numbers_of c.args.owed.now) in
    let part = at_part (λ D. after_of D (numbers_of c.args.owed.now) (c.loop-i.i + 1 == length c.args.parts.numbers.now) (scope_of c.loop-i.scope)) c.args.parts.node c.part.result c.part.ensures.trees c.part.ensures.number in
    turn-good (after_all go) (λ n ns Γ. go (is_empty ns) Γ n) (λ x xs s. refl) c.args.parts.numbers.now c.loop-i.i 0 (scope_of c.loop-i.scope) c.loop-i-test.true _ (ap (λ l. go l (scope_of c.loop-i.scope) (get_or c.args.parts.numbers.now c.loop-i.i 0)) (last_entry _ _ c.loop-i-test.true) ∙ part ∙ c.in_ok-scope.ensures)
    ∙ c.loop-i.invariant

pub block-returns : goal.block-returns
block-returns t c =
    sym c.loop-i.invariant ∙ turn_end (after_all (after_of c.args.parts.node.trees.now.sheet (numbers_of c.args.owed.now))) (λ s. refl) _ _ _ c.loop-i-test.false
