-- The claims of a node on its parts.
use Rattle.std.proofs.Common.{◌≡◌, ℕ, ◌+◌, ◌<◌, ◌≤◌, Bool, true, false, ◌&&◌, ltb, List, [], ◌∷◌, map, length, get_or, set, refl, ap, ◌∙◌, subst, arith}
use Rattle.std.proofs.lemmas.List.{get_or-set_same, length-set}
use Rattle.std.proofs.lemmas.Bool.{ltb-true, lt-ltb, and_parts}
use Rattle.xi.specs.Program.{Program}
use Rattle.xi.specs.Tree.{node_at, sort_of, suits, Part, Each, times}
use Rattle.xi.specs.declared.rule.Rule.TheVariants.{Tree as TreeRule}
use Rattle.sheet.specs.Outcome.{good}
use Rattle.sheet.specs.Sheets.{Decoded}
use Rattle.checker.specs.declared.mark.Mark.{Mark}
use Rattle.checker.specs.declared.mark.Mark.TheVariants.{Free, PartOf}
use Rattle.checker.specs.Trees.{offset_of, is_free, claimed, claimed_all}
use Rattle.checker.proofs.Chains.{good_same, then_splits, then_comes, held_splits}
use Rattle.checker.proofs.Marks.{used, Keeps, set-used, set_keeps, keeps_on, unused_free, times_here}

-- the numbers of the parts
abbrev pub numbers : List Part → List ℕ
numbers ps = map (λ (p : Part). p.number) ps

-- the part p of node n, claimed in v
pub record Held (P : Program) (n : ℕ) (v : List Mark) (p : Part) : Type 0 where
  pub smaller : p.number < n
  pub suited : suits p.place (sort_of (node_at P p.number)) ≡ true
  pub mark : get_or v p.number Free ≡ PartOf n

-- what the claims ps of node n make of the marks u
pub record Claimed (P : Program) (n : ℕ) (ps : List Part) (u v : List Mark) : Type 0 where
  pub size : length v ≡ length u
  pub counted : (k : ℕ) → used v k ≡ used u k + times k (numbers ps)
  pub kept : Keeps u v
  pub parts : Each (Held P n v) ps

-- there is room for the claims on these nodes
abbrev pub Roomy : List Mark → List ℕ → Type 0
Roomy u ks = (k : ℕ) → k < length u → used u k + times k ks ≤ 1

module _ (D : Decoded) (n : ℕ) where
  -- claims that were granted
  pub claims-were : (ps : List Part) (u v : List Mark) → n ≤ length u → claimed_all D n ps u ≡ good v → Claimed D.program n ps u v
  claims-were [] u v l q = subst (Claimed D.program n [] u) (good_same q) (record { size = refl; counted = λ k. omega arith; kept = λ k e. refl; parts = tt })
  claims-were (p ∷ ps) u v l q =
      let x = then_splits (claimed D n p u) (λ w. claimed_all D n ps w) q in
      let t : Bool = ltb p.number n && (suits p.place (sort_of (node_at D.program p.number)) && is_free (get_or u p.number Free)) in
      let y = held_splits t TreeRule (offset_of D n) (λ _. good (set u p.number (PartOf n))) x.1 in
      let a = and_parts (ltb p.number n) _ y.0 in
      let b = and_parts (suits p.place (sort_of (node_at D.program p.number))) _ a.1 in
      let s : p.number < n = ltb-true _ _ a.0 in
      let w : List Mark = set u p.number (PartOf n) in
      let z : length w ≡ length u = length-set u p.number (PartOf n) in
      let r = claims-were ps w v (omega arith) (ap (λ c. claimed_all D n ps c) (good_same y.1) ∙ x.2) in
      let m : get_or w p.number Free ≡ PartOf n = get_or-set_same u p.number (PartOf n) Free (omega arith) in
      let f : is_free (get_or w p.number Free) ≡ false = rw m refl in
      record {
        size = r.size ∙ z;
        counted = λ k. omega (arith, r.counted k, set-used u p.number (PartOf n) (omega arith) b.1 refl k);
        kept = keeps_on u w v (set_keeps u p.number (PartOf n) b.1) r.kept;
        parts = (record { smaller = s; suited = b.0; mark = r.kept p.number f ∙ m }, r.parts);
      }

  -- a claim on a free node that stands right is granted
  one-ready : (p : Part) (u : List Mark) → p.number < n → suits p.place (sort_of (node_at D.program p.number)) ≡ true → is_free (get_or u p.number Free) ≡ true → claimed D n p u ≡ good (set u p.number (PartOf n))
  one-ready p u l s f = rw (lt-ltb p.number n l, s, f)

  -- where there is room, the claims are granted
  pub claims-ready : (ps : List Part) (u : List Mark) → n ≤ length u → Each (λ (p : Part). (p.number < n) × (suits p.place (sort_of (node_at D.program p.number)) ≡ true)) ps → Roomy u (numbers ps) → (v : List Mark) × (claimed_all D n ps u ≡ good v)
  claims-ready [] u l s r = (u, refl)
  claims-ready (p ∷ ps) u l s r =
      let a : p.number < length u = omega (arith, s.0.0) in
      let z : used u p.number ≡ 0 = omega (arith, r p.number a, times_here p.number (numbers ps)) in
      let f : is_free (get_or u p.number Free) ≡ true = unused_free (get_or u p.number Free) z in
      let w : List Mark = set u p.number (PartOf n) in
      let e : length w ≡ length u = length-set u p.number (PartOf n) in
      then_comes (claimed D n p u) (λ c. claimed_all D n ps c) (w, one-ready p u s.0.0 s.0.1 f)
      (claims-ready ps w (omega arith) s.1 (λ k h. omega (arith, r k (omega arith), set-used u p.number (PartOf n) a f refl k)))
