use Rattle.std.proofs.Common.{◌≡◌, ℕ, ◌<◌, eqb, List, [], ◌∷◌, map, length, get_or, drop, replicate, sym, refl, ap, ◌∙◌}
use lib.ListN.{length-map, length-replicate}
use Rattle.std.proofs.lemmas.List.{at_drop_more, get_or-map, get_or-replicate}
use Rattle.xi.specs.declared.node.Ty.{Ty}
use Rattle.xi.specs.declared.program.Parameter.{Parameter}
use Rattle.checker.specs.declared.wanted.Wanted.{Wanted}
use Rattle.xi.specs.Typing.{binding, types_of}
use Rattle.checker.specs.Wants.{wanted_types, begins}
use Rattle.checker.proofs.wanted.at.is_wanted.Goals as goal

each : (n i t w : ℕ) → i < n → eqb t w ≡ begins t (drop i (replicate n w))
each n i t w h =
    let within : i < length (replicate n w) = simp length-replicate h in
    sym (at_drop_more (begins t) (replicate n w) i 0 within ∙ ap (eqb t) (get_or-replicate n i w 0 h))

mapped : {A : Type 0} (f : A → ℕ) (xs : List A) (d : A) (i t : ℕ) → i < length xs → eqb t (f (get_or xs i d)) ≡ begins t (drop i (map f xs))
mapped f xs d i t h =
    let within : i < length (map f xs) = simp length-map h in
    sym (at_drop_more (begins t) (map f xs) i 0 within ∙ ap (eqb t) (get_or-map f xs i d 0 h))

abbrev type_of_parameter : Parameter → ℕ
type_of_parameter p = p.ty.number

types_of-map : (ps : List Parameter) → types_of (map (λ (p : Parameter). binding p.name p.ty) ps) ≡ map type_of_parameter ps
types_of-map [] = refl
types_of-map (p ∷ ps) = ap (λ ts. p.ty.number ∷ ts) (types_of-map ps)

-- what is wanted, w, is that
wants : {w v : Wanted} (n i t : ℕ) → w ≡ v → begins t (drop i (wanted_types v n)) ≡ begins t (drop i (wanted_types w n))
wants n i t e = ap (λ w. begins t (drop i (wanted_types w n))) (sym e)

pub returns-in-Each : goal.returns-in-Each
returns-in-Each c = c.eq.ensures ∙ each c.args.count c.args.i c.args.ty.number _ c.requires ∙ wants c.args.count c.args.i c.args.ty.number c.in-Each.is

pub returns-in-Some : goal.returns-in-Some
returns-in-Some c =
    let at = c.in-Some.ensures.lookup in
    c.eq-in-Some.ensures
    ∙ ap (λ (t : Ty). eqb c.args.ty.number t.number) at.1
    ∙ mapped (λ (t : Ty). t.number) c.in-Types.types.now _ c.args.i c.args.ty.number at.3.0
    ∙ wants c.args.count c.args.i c.args.ty.number c.in-Types.is

pub returns-in-Some-get : goal.returns-in-Some-get
returns-in-Some-get c =
    let at = c.in-Some-get.ensures.lookup in
    c.eq-in-Some-get.ensures
    ∙ ap (λ (p : Parameter). eqb c.args.ty.number p.ty.number) at.1
    ∙ mapped type_of_parameter c.in-Parameters.parameters.now _ c.args.i c.args.ty.number at.3.0
    ∙ ap (λ ws. begins c.args.ty.number (drop c.args.i ws)) (sym (types_of-map c.in-Parameters.parameters.now))
    ∙ wants c.args.count c.args.i c.args.ty.number c.in-Parameters.is
