use Rattle.std.proofs.Common.{◌≡◌, arith, w16, w64, SFits, to_z, of_z, rules, length-drop, Option, None, ℕ, ap, ◌∙◌}
use Rattle.std.specs.Option.{option_or}
use Rattle.std.proofs.lemmas.Int.{to_z-of_z}
use Rattle.host.specs.Pieces.{separator_of}
use Rattle.host.proofs.Pieces.{piece_short, item-piece}
use Rattle.host.proofs.tiles.Piece.character.Goals as goal

pub overflow_add-self : goal.overflow_add-self
overflow_add-self c =
    let fits : SFits w16 c.args.self.now.height = search rules in
    let short = piece_short c.args.self.now.height (separator_of c.args.self.now) fits in
    let inside = simp length-drop at c.requires in
    omega arith

pub returns-in-None : goal.returns-in-None
returns-in-None c =
    let fits : SFits w16 c.args.self.now.height = search rules in
    let whole = item-piece c.args.self.now.height (separator_of c.args.self.now) c.args.self.now.taken c.args.j c.requires in
    let wide : SFits w64 c.args.self.now.height = record { sfits = omega (arith, fits.sfits) } in
    let same_height : to_z w64 (of_z w64 c.from.result) ≡ c.args.self.now.height = rw (c.from.ensures, to_z-of_z w16 c.args.self.now.height fits) (to_z-of_z w64 c.args.self.now.height wide) in
    let read = rw same_height at c.character.ensures in
    let none : ◌≡◌ {A = Option ℕ} None c.character.result = search rules in
    c.separator.ensures ∙ ap (λ o. option_or o (separator_of c.args.self.now)) (none ∙ read) ∙ whole
