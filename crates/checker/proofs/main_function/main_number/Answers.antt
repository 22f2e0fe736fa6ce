use Rattle.std.proofs.Common.{◌≡◌, ◌∙◌, refl, rules, tests}
use Rattle.std.proofs.lemmas.Iterator.{YieldsList-from_slice}
use Rattle.std.proofs.lemmas.Iterator.Adapters.{position_from-zero}
use Rattle.std.proofs.lemmas.Iterator.Search.{position_from_yields_List}
use Rattle.std.specs.List.{position_from}
use Rattle.sheet.specs.declared.functions.FunctionRecord.{FunctionRecord}
use Rattle.checker.specs.Checked.{is_main, main_in}
use Rattle.checker.proofs.Lookups.{looked_in}
use Rattle.checker.proofs.main_function.main_number.Goals as goal

pub returns : goal.returns
returns c =
    let P = c.args.sheet.now.program in
    let named = λ (r : FunctionRecord). is_main P r.function in
    let found : c.position.result ≡ position_from named 0 c.functions.result.now =
    position_from_yields_List named _ _ c.position.result c.position.ensures.ran (YieldsList-from_slice c.functions.result.now c.iter.ensures.rest) (λ x b q k. search (rules, tests)) ∙ position_from-zero named c.functions.result.now in
    rw (found, ← c.functions.ensures.functions) (looked_in (is_main P) (main_in P) refl (λ F Fs. refl) c.functions.result.now)
