-- The levels that the marks give.
use Rattle.std.proofs.Common.{◌≡◌, ℕ, zero, suc, ◌+◌, ◌<◌, ◌≤◌, List, length, get_or, set, sym, refl, ap, ◌∙◌, subst, ⊎_elim, arith}
use Rattle.std.proofs.lemmas.List.{get_or-set_same, get_or-set_other, length-set}
use Rattle.std.proofs.lemmas.Bool.{lt-ltb, cases_eq}
use Rattle.checker.specs.declared.mark.Mark.{Mark}
use Rattle.checker.specs.declared.mark.Mark.TheVariants.{Free, PartOf, Body}
use Rattle.checker.specs.Trees.{deeper, level_by, levels}

-- one level below level 32 or above is one more
pub deeper_is : (l : ℕ) → l ≤ 32 → deeper l ≡ l + 1
deeper_is l h = rw (lt-ltb l 33 (omega arith))

-- a mark's level depends on the level of the node that it names
by_same : (m : Mark) (v w : List ℕ) → ((j : ℕ) → m ≡ PartOf j → get_or v j 0 ≡ get_or w j 0) → level_by m v ≡ level_by m w
by_same Free v w h = refl
by_same (PartOf j) v w h = ap deeper (h j refl)
by_same Body v w h = refl

module _ (u : List Mark) where
  -- levels from j on stay
  kept : (j : ℕ) (v : List ℕ) (k : ℕ) → j ≤ k → get_or (levels u j v) k 0 ≡ get_or v k 0
  kept zero v k l = refl
  kept (suc j) v k l = kept j (set v j (level_by (get_or u j Free) v)) k (omega arith) ∙ get_or-set_other v j k (level_by (get_or u j Free) v) 0 (λ e. omega arith)

  module _ (n : ℕ) (upward : (m : ℕ) → get_or u n Free ≡ PartOf m → n < m) where
    -- the level of the last node
    level-last : (v : List ℕ) → n < length v → get_or (levels u (suc n) v) n 0 ≡ level_by (get_or u n Free) (levels u (suc n) v)
    level-last v l =
        let w : List ℕ = set v n (level_by (get_or u n Free) v) in
        kept n w n (omega arith) ∙ get_or-set_same v n (level_by (get_or u n Free) v) 0 l
        ∙ by_same (get_or u n Free) v (levels u n w) (λ j e. let h : n < j = upward j e in sym (kept n w j (omega arith) ∙ get_or-set_other v n j (level_by (get_or u n Free) v) 0 (λ q. omega arith)))

    -- each node has the level that its mark says
    pub level-is : (j : ℕ) (v : List ℕ) → n < j → n < length v → get_or (levels u j v) n 0 ≡ level_by (get_or u n Free) (levels u j v)
    level-is zero v h l = absurd (omega arith)
    level-is (suc j) v h l =
        let s : length (set v j (level_by (get_or u j Free) v)) ≡ length v = length-set v j (level_by (get_or u j Free) v) in
        ⊎_elim (λ (e : n ≡ j). subst (λ (i : ℕ). get_or (levels u (suc i) v) n 0 ≡ level_by (get_or u n Free) (levels u (suc i) v)) e (level-last v l))
        (λ (e : n ≡ j → ⊥). level-is j (set v j (level_by (get_or u j Free) v)) (omega arith) (omega arith)) (cases_eq n j)
