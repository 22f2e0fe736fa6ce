use Rattle.std.proofs.Common.{◌≡◌, ℕ, ◌<◌, List, length, get_or, sym, ap, ◌∙◌, subst, arith, below_more}
use Rattle.std.proofs.lemmas.List.{get_or_default}
use Rattle.xi.specs.declared.node.Node.{Node}
use Rattle.xi.specs.declared.node.Node.TheVariants.{Discard}
use Rattle.xi.specs.Program.{Program}
use Rattle.xi.specs.Tree.{node_at}
use Rattle.checker.specs.Facts.{PartsBelow}
use Rattle.checker.specs.Trees.{parts_in, claimed_all, parts_claimed}
use Rattle.sheet.proofs.Outcomes.{said_on}
use Rattle.sheet.proofs.Steps.{step-bad, step-good}
use Rattle.checker.proofs.claims.claim_all.Goals as goal

node_is : (P : Program) (ds : List Node) (n : ℕ) (e : Node) → ds ≡ P.nodes → n < length ds → get_or ds n e ≡ node_at P n
node_is P ds n e same known = get_or_default ds n e Discard known ∙ ap (λ xs. get_or xs n Discard) same

pub returns-in_err-claim_parts-clause-said : goal.returns-in_err-claim_parts-clause-said
returns-in_err-claim_parts-clause-said c =
    let D = c.args.sheet.now in
    let more : c.loop-n.n < length D.program.nodes = omega (arith, ap length c.nodes-node-items.ensures.nodes) in
    let is = node_is D.program _ c.loop-n.n _ c.nodes-node-items.ensures.nodes c.loop-n-test.true in
    said_on _ _ _ _ _ _ c.from_residual.ensures.1 c.in_err-claim_parts.ensures.said (λ k q e. sym c.loop-n.invariant.0 ∙ step-bad (parts_claimed D) _ _ _ more k q (ap (λ d. claimed_all D c.loop-n.n (parts_in D.program d) c.loop-n.marks) (sym is) ∙ e))

pub loop-n-preserved : goal.loop-n-preserved
loop-n-preserved c =
    let D = c.args.sheet.now in
    let more : c.loop-n.n < length D.program.nodes = omega (arith, ap length c.nodes-node-items.ensures.nodes) in
    let is = node_is D.program _ c.loop-n.n _ c.nodes-node-items.ensures.nodes c.loop-n-test.true in (
      step-good (parts_claimed D) _ _ _ more _ (ap (λ d. claimed_all D c.loop-n.n (parts_in D.program d) c.loop-n.marks) (sym is) ∙ c.in_ok-claim_parts.ensures.said) ∙ c.loop-n.invariant.0,
      below_more (λ n. PartsBelow D.program n (node_at D.program n)) _ c.loop-n.invariant.1 (subst (λ (d : Node). PartsBelow D.program c.loop-n.n d) is c.in_ok-claim_parts.ensures.below),
    )
