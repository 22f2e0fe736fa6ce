use Rattle.std.proofs.Common.{◌==◌, refl}
use Rattle.xi.specs.declared.program.GlobalVariable.{GlobalVariable}
use Rattle.xi.specs.Typing.{global_type}
use Rattle.checker.specs.Checked.{no_global}
use Rattle.checker.proofs.Lookups.{looked}
use Rattle.checker.proofs.read_sheet.ReadSheet.global_number.Goals as goal

pub returns : goal.returns
returns c =
    rw (c.number_of.ensures, ← c.globals.ensures) (looked (λ (g : GlobalVariable). g.name == c.args.name) (λ (g : GlobalVariable). g.ty.number) (λ gs. global_type gs c.args.name) refl (λ g gs. refl) no_global c.globals.result.now)
