use Rattle.std.proofs.Common.{◌≡◌, ℕ, ◌||◌, List, [], ◌∷◌, map, refl, ap, ◌∙◌, Bor}
use Rattle.std.specs.List.{list_any}
use Rattle.std.specs.Str.{bytes_eq}
use Rattle.sheet.specs.Names.{among}
use Rattle.sheet.proofs.names.is_among.Goals as goal

any_among : (w : List ℕ) (vs : List (Bor (List ℕ))) → list_any (λ v. bytes_eq v.now w) vs ≡ among w (map (λ v. v.now) vs)
any_among w [] = refl
any_among w (v ∷ vs) = ap (λ b. bytes_eq v.now w || b) (any_among w vs)

pub returns : goal.returns
returns c = c.contains.ensures.value ∙ any_among c.args.w.now c.args.words.now
