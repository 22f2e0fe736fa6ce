use Rattle.std.proofs.Common.{◌+◌, ◌∷◌, ℤ, sym, refl, ap, ◌∙◌, arith, w16, SFits, rules}
use Rattle.std.proofs.lemmas.Int.{to_z-of_z}
use Rattle.host.proofs.Pieces.{unread_end, front-some, first_piece, unread-first_piece, first_piece-unread}
use Rattle.host.proofs.tiles.PiecesIterator.next.Goals as goal

pub returns-in_err-height-clause-steps : goal.returns-in_err-height-clause-steps
returns-in_err-height-clause-steps c = grind (arith, unread_end)

pub invariant_of-self-clause-unread : goal.invariant_of-self-clause-unread
invariant_of-self-clause-unread c = front-some c.args.self.now.width (c.args.self.now.index + 1) c.in_ok-height.rest.now

pub invariant_of-piece : goal.invariant_of-piece
invariant_of-piece c =
    let fits : SFits w16 c.in_ok-height.height.now = search rules in
    let same = c.in_ok-height.ensures.cases.0 ∙ ap (λ (h : ℤ). h ∷ c.in_ok-height.rest.now) (sym (to_z-of_z w16 c.in_ok-height.height.now fits)) in
    record { bounded = omega (arith, c.args.self.now.bounded); unread = first_piece-unread c.args.self.now.width c.args.self.now.index c.args.self.now.taken c.args.self.now.heights.now _ c.in_ok-height.rest.now _ same c.is_empty.ensures c.args.self.now.unread }

pub returns-clause-steps : goal.returns-clause-steps
returns-clause-steps c =
    let fits : SFits w16 c.in_ok-height.height.now = search rules in
    let same = c.in_ok-height.ensures.cases.0 ∙ ap (λ (h : ℤ). h ∷ c.in_ok-height.rest.now) (sym (to_z-of_z w16 c.in_ok-height.height.now fits)) in (
      unread-first_piece c.args.self.now.width c.args.self.now.index c.args.self.now.taken c.args.self.now.heights.now _ c.in_ok-height.rest.now _ same c.is_empty.ensures,
      first_piece c.args.self.now.width c.args.self.now.index c.args.self.now.taken c.args.self.now.heights.now _ c.in_ok-height.rest.now _ same c.is_empty.ensures,
      refl,
    )
