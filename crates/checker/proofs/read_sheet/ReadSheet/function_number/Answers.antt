use Rattle.std.proofs.Common.{◌==◌, refl}
use Rattle.xi.specs.declared.program.Function.{Function}
use Rattle.xi.specs.Typing.{function_named}
use Rattle.checker.proofs.Lookups.{looked_in}
use Rattle.checker.proofs.read_sheet.ReadSheet.function_number.Goals as goal

pub returns : goal.returns
returns c =
    rw (c.number_of.ensures, ← c.functions.ensures.functions)
    (looked_in (λ (F : Function). F.name == c.args.name) (λ Fs. function_named Fs c.args.name) refl (λ F Fs. refl) c.functions.result.now)
