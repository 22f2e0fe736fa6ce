use Rattle.std.proofs.Common.{◌≡◌, ◌+◌, ◌*◌, rules, arith, ◌∙◌, sym, vec_items}
use Rattle.std.proofs.lemmas.Grind.{common_steps}
use Rattle.sheet.specs.Outcome.{good, bad}
use Rattle.sheet.specs.Functions.{parameters_of, results_of}
use Rattle.sheet.proofs.Outcomes.{said_on}
use Rattle.sheet.proofs.Items.{parameters_read, results_read}
use Rattle.sheet.proofs.functions.records.add_record.Goals as goal

pub returns-in_err-parameters-clause-said : goal.returns-in_err-parameters-clause-said
returns-in_err-parameters-clause-said c =
    said_on _ _ _ _ _ _ c.from_residual-in_err-parameters.ensures.1 c.in_err-parameters.ensures.said
    (λ k q e.
    let parameters : parameters_of c.args.known.names c.args.span.bytes.now c.args.span.at c.args.parameters (vec_items c.args.all.now.parameters) ≡ bad k q = sym (parameters_read _ _ _ _ _ _ _ c.part.ensures.bytes c.part.ensures.len c.part.ensures.at) ∙ e in
    search rules)

pub returns-in_err-results-clause-said : goal.returns-in_err-results-clause-said
returns-in_err-results-clause-said c =
    let parameters : parameters_of c.args.known.names c.args.span.bytes.now c.args.span.at c.args.parameters (vec_items c.args.all.now.parameters) ≡ good (vec_items c.add_items.new.all) = sym (parameters_read _ _ _ _ _ _ _ c.part.ensures.bytes c.part.ensures.len c.part.ensures.at) ∙ c.in_ok-parameters.ensures.said in
    said_on _ _ _ _ _ _ c.from_residual-in_err-results.ensures.1 c.in_err-results.ensures.said
    (λ k q e.
    let results : results_of c.args.span.bytes.now c.args.span.at (4 + 3 * c.args.parameters) c.args.results (vec_items c.args.all.now.results) ≡ bad k q = sym (results_read _ _ _ _ _ _ _ c.part-2.ensures.bytes c.part-2.ensures.len c.part-2.ensures.at) ∙ e in
    search rules)

pub returns-clause-said : goal.returns-clause-said
returns-clause-said c =
    let parameters : parameters_of c.args.known.names c.args.span.bytes.now c.args.span.at c.args.parameters (vec_items c.args.all.now.parameters) ≡ good (vec_items c.add_items.new.all) = sym (parameters_read _ _ _ _ _ _ _ c.part.ensures.bytes c.part.ensures.len c.part.ensures.at) ∙ c.in_ok-parameters.ensures.said in
    let results : results_of c.args.span.bytes.now c.args.span.at (4 + 3 * c.args.parameters) c.args.results (vec_items c.args.all.now.results) ≡ good (vec_items c.add_items-2.new.all) = sym (results_read _ _ _ _ _ _ _ c.part-2.ensures.bytes c.part-2.ensures.len c.part-2.ensures.at) ∙ c.in_ok-results.ensures.said in
    grind (arith, common_steps)
