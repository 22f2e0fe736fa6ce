use Rattle.std.proofs.Common.{◌≡◌, ◌<◌, length, vec_items, sym, ap, ◌∙◌, subst, arith}
use lib.ListN.{length-map}
use Rattle.std.proofs.lemmas.List.{get_or-map}
use Rattle.xi.specs.declared.program.Function.{Function}
use Rattle.sheet.specs.declared.functions.FunctionRecord.{FunctionRecord}
use Rattle.sheet.specs.Sheets.{Decoded}
use Rattle.checker.specs.Facts.{FunctionSized}
use Rattle.checker.specs.Held.{held_by}
use Rattle.checker.specs.Trees.{no_function, function_at}
use Rattle.checker.proofs.read_sheet.ReadSheet.function_at.Goals as goal

pub returns-clause-sized : goal.returns-clause-sized
unfolding held_by
returns-clause-sized c =
    let D = held_by c.self.inside.sheet in
    let records = vec_items c.self.inside.sheet.functions.records in
    let known : c.args.i < length D.program.functions = subst (λ (D : Decoded). c.args.i < length D.program.functions) (sym c.self.view_is) c.requires in
    let within : c.args.i < length records = omega (arith, length-map records (λ (r : FunctionRecord). r.function)) in
    let is : c.index.result.now.function ≡ function_at D.program c.args.i =
    ap (λ (r : FunctionRecord). r.function) c.index.ensures ∙ sym (get_or-map (λ (r : FunctionRecord). r.function) records c.args.i c.index.result.now no_function within)
    in
    subst (λ (D : Decoded). FunctionSized D.program c.index.result.now.function) c.self.view_is
    (subst (λ (F : Function). FunctionSized D.program F) (sym is) (c.self.invariant.functions c.args.i known))
