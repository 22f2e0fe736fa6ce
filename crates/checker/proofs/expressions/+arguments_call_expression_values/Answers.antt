use Rattle.std.proofs.Common.{length, sym, refl, ap, ◌∙◌, rules}
use Rattle.sheet.proofs.Outcomes.{said_on}
use Rattle.checker.specs.Scopes.{scope_of, function_found}
use Rattle.checker.specs.Walk.{type_of}
use Rattle.checker.specs.Wants.{wanted_types}
use Rattle.checker.proofs.Calls.{call-bad, call-good, library-bad, library-good, by-call-bad, by-call-good}
use Rattle.checker.proofs.Parts.{at_part}
use Rattle.checker.proofs.Fitting.{fit-bad, fit-end, fit-kept, fit-lost}
use Rattle.checker.proofs.expressions.+arguments_call_expression_values.Goals as goal
use Rattle.checker.proofs.expressions.+arguments_call_expression_values.Goals.{values-then-not-is_wanted, values-else-not-is_wanted}

pub call-returns-in_err-arguments-in-Call : goal.call-returns-in_err-arguments-in-Call
call-returns-in_err-arguments-in-Call t c =
    record {
      said = said_on _ _ _ _ _ _ c.from_residual-in_err-arguments-in-Call.ensures.1 c.in_err-arguments-in-Call.ensures.said (call-bad c.args.node _ _ _ c.in-Call.run' _ c.parts.result _ _ (c.in-Call.ensures.calls _ _) (c.function_named-function.ensures.named ∙ ap function_found c.in_ok-function-in-Call.ensures.ok_part) c.parts.ensures.node c.parts.ensures.numbers c.parameters-parameters.ensures.items c.results-results.ensures);
      many = search rules;
    }

pub call-returns-in_err-arguments-in-LibraryCall : goal.call-returns-in_err-arguments-in-LibraryCall
call-returns-in_err-arguments-in-LibraryCall t c =
    record {
      said = said_on _ _ _ _ _ _ c.from_residual-in_err-arguments-in-LibraryCall.ensures.1 c.in_err-arguments-in-LibraryCall.ensures.said (library-bad c.args.node _ _ _ c.in-LibraryCall.run' c.parts-in-LibraryCall.result _ _ (c.in-LibraryCall.ensures.calls _ _) c.parts-in-LibraryCall.ensures.node c.parts-in-LibraryCall.ensures.numbers c.takes-types.ensures c.gives-results.ensures);
      many = search rules;
    }

pub call-returns-in_ok-arguments-in-Call : goal.call-returns-in_ok-arguments-in-Call
call-returns-in_ok-arguments-in-Call t c =
    record {
      said = call-good c.args.node _ _ _ c.in-Call.run' _ c.parts.result _ _ (c.in-Call.ensures.calls _ _) (c.function_named-function.ensures.named ∙ ap function_found c.in_ok-function-in-Call.ensures.ok_part) c.parts.ensures.node c.parts.ensures.numbers c.parameters-parameters.ensures.items c.results-results.ensures c.in_ok-arguments-in-Call.ensures.said;
      many = c.in_ok-arguments-in-Call.ensures.many;
    }

pub call-returns-in_ok-arguments-in-LibraryCall : goal.call-returns-in_ok-arguments-in-LibraryCall
call-returns-in_ok-arguments-in-LibraryCall t c =
    record {
      said = library-good c.args.node _ _ _ c.in-LibraryCall.run' c.parts-in-LibraryCall.result _ _ (c.in-LibraryCall.ensures.calls _ _) c.parts-in-LibraryCall.ensures.node c.parts-in-LibraryCall.ensures.numbers c.takes-types.ensures c.gives-results.ensures c.in_ok-arguments-in-LibraryCall.ensures.said;
      many = c.in_ok-arguments-in-LibraryCall.ensures.many;
    }

pub expression-returns-in_err-results-in-Call : goal.expression-returns-in_err-results-in-Call
expression-returns-in_err-results-in-Call t c =
    said_on _ _ _ _ _ _ c.from_residual-in_err-results-in-Call.ensures.1 c.in_err-results-in-Call.ensures.said (by-call-bad c.args.node _ c.expression_node.result (c.expression_node.ensures.types _) (c.expression_node.ensures.calls _ 1) c.in-Call.is)

pub expression-returns-in_ok-results-in-Call : goal.expression-returns-in_ok-results-in-Call
expression-returns-in_ok-results-in-Call t c =
    by-call-good c.args.node _ c.expression_node.result (c.expression_node.ensures.types _) (c.expression_node.ensures.calls _ 1) c.in-Call.is c.in_ok-results-in-Call.results.now _ refl c.in_ok-results-in-Call.ensures.said

pub values-returns-in_err-ty : goal.values-returns-in_err-ty
values-returns-in_err-ty t c =
    let go = type_of c.args.parts.node.trees.now.sheet (scope_of c.args.scope.now) in
    let part = at_part (λ D. type_of D (scope_of c.args.scope.now)) c.args.parts.node c.part.result c.part.ensures.trees c.part.ensures.number in
    said_on _ _ _ _ _ _ c.from_residual.ensures.1 c.in_err-ty.ensures (λ k q e. sym c.loop-i.invariant ∙ fit-bad go c.args.parts.numbers.now (wanted_types c.args.wanted (length c.args.parts.numbers.now)) _ _ c.loop-i-test.true k q (part ∙ e))

pub values-loop-i-preserved : goal.values-loop-i-preserved
values-loop-i-preserved t c =
    let go = type_of c.args.parts.node.trees.now.sheet (scope_of c.args.scope.now) in
    let ns = c.args.parts.numbers.now in
    let ws = wanted_types c.args.wanted (length ns) in
    let part = at_part (λ D. type_of D (scope_of c.args.scope.now)) c.args.parts.node c.part.result c.part.ensures.trees c.part.ensures.number in
    elim c.if-not-is_wanted.branch [
      | values-then-not-is_wanted w ↦ fit-lost go ns ws _ _ c.loop-i-test.true _ _ (part ∙ c.in_ok-ty.ensures) (sym w.if-not-is_wanted.true ∙ c.is_wanted.ensures) w.fit-is ∙ c.loop-i.invariant
      | values-else-not-is_wanted w ↦ fit-kept go ns ws _ _ c.loop-i-test.true _ _ (part ∙ c.in_ok-ty.ensures) (sym w.if-not-is_wanted.false ∙ c.is_wanted.ensures) w.fit-is ∙ c.loop-i.invariant
    ]

pub values-returns : goal.values-returns
values-returns t c =
    let go = type_of c.args.parts.node.trees.now.sheet (scope_of c.args.scope.now) in
    sym c.loop-i.invariant ∙ fit-end go c.args.parts.numbers.now (wanted_types c.args.wanted (length c.args.parts.numbers.now)) _ _ c.loop-i-test.false
