-- The tests of the tree pass where the nodes form trees.
use Rattle.std.proofs.Common.{◌≡◌, ℕ, zero, suc, ◌+◌, ◌<◌, ◌≤◌, true, false, not, leb, List, length, get_or, replicate, sym, refl, ap, ◌∙◌, subst, ⊎_elim, arith}
use Rattle.std.proofs.lemmas.List.{length-replicate, get_or-replicate, get_or_past}
use Rattle.std.proofs.lemmas.Bool.{leb-true, le-leb, not-true, not_from_false, cases_lt, cases_Bool}
use Rattle.xi.specs.declared.node.Node.{Node}
use Rattle.xi.specs.declared.node.Node.TheVariants.{Discard}
use Rattle.xi.specs.declared.program.Function.{Function}
use Rattle.xi.specs.declared.rule.Rule.TheVariants.{Tree as TreeRule}
use Rattle.xi.specs.Program.{Program}
use Rattle.xi.specs.Tree.{node_at, sort_of, suits, block_sort, Part, Each, parts_of, times, part_numbers, body_numbers, PartStands, BodyStands, Tree}
use Rattle.sheet.specs.Outcome.{good, then, held}
use Rattle.sheet.specs.Sheets.{Decoded}
use Rattle.checker.specs.declared.mark.Mark.{Mark}
use Rattle.checker.specs.declared.mark.Mark.TheVariants.{Free, PartOf, Body}
use Rattle.checker.specs.Trees.{offset_of, parts_in, is_free, nodes_claimed, bodies_claimed, all_used, deeper, level_by, levels, levels_held, tree_of}
use Rattle.sheet.proofs.Outcomes.{then_good}
use Rattle.checker.proofs.Chains.{then_splits, held-true, held_good, tests_were, tests_ready}
use Rattle.checker.proofs.Eaches.{each-onto, each_both}
use Rattle.checker.proofs.WalkDepth.{parts_same}
use Rattle.checker.proofs.Marks.{used, marked_used, times_append}
use Rattle.checker.proofs.Claiming.{Held, Roomy}
use Rattle.checker.proofs.AllClaims.{NodesHeld, BodyHeld, BodiesHeld, nodes-were, nodes-ready, bodies-were, bodies-ready}
use Rattle.checker.proofs.Levels.{deeper_is, level-is}
use Rattle.checker.proofs.Found.{part-found, in-bodies}

module _ (D : Decoded) where
  abbrev P : Program
  P = D.program

  abbrev N : ℕ
  N = length P.nodes

  -- no marks
  abbrev free : List Mark
  free = replicate N Free

  -- no node is used at the start
  unused : (k : ℕ) → k < N → used free k ≡ 0
  unused k l = rw (get_or-replicate N k Free Free l)

  -- one for each node
  free-length : length free ≡ N
  free-length = length-replicate N Free

  -- the levels that the marks v give
  abbrev level_in : List Mark → ℕ → ℕ
  level_in v n = get_or (levels v N (replicate N 0)) n 0

  -- a part that is claimed is one level deeper than its node
  level-of : (v : List Mark) (n k m : ℕ) → get_or v k Free ≡ PartOf n → k < n → k < N → m ≡ level_in v n → m ≤ 32 → level_in v k ≡ m + 1
  level-of v n k m e l h q s =
      level-is v k (λ j f. let g : PartOf n ≡ PartOf j = sym e ∙ f in let w : n ≡ j = cc in omega arith) N (replicate N 0) h (omega (arith, length-replicate {A = ℕ} N 0))
      ∙ ap (λ w. level_by w (levels v N (replicate N 0))) e ∙ ap deeper (sym q) ∙ deeper_is m s

  -- a body is at level 1
  body-level : (v : List Mark) (k : ℕ) → get_or v k Free ≡ Body → k < N → level_in v k ≡ 1
  body-level v k e h =
      level-is v k (λ j f. let g : Body ≡ PartOf j = sym e ∙ f in let z : ◌≡◌ {A = ℕ} 0 1 = cc in absurd (omega arith)) N (replicate N 0) h (omega (arith, length-replicate {A = ℕ} N 0))
      ∙ ap (λ w. level_by w (levels v N (replicate N 0))) e

  -- a node past the last has no parts
  past-parts : (R : Part → Type 0) (n : ℕ) → N ≤ n → Each R (parts_of P (node_at P n))
  past-parts R n l = subst (λ (d : Node). Each R (parts_of P d)) (sym (get_or_past P.nodes n Discard l)) tt

  module _ (u v : List Mark) (nodes : NodesHeld P 0 free u) (bodies : BodiesHeld P 0 u v) (all : (n : ℕ) → n < N → not (is_free (get_or v n Free)) ≡ true) (shallow : (n : ℕ) → n < N → leb (level_in v n) 32 ≡ true) where
    -- no node is below level 32
    low : (n : ℕ) → n < N → level_in v n ≤ 32
    low n l = leb-true _ _ (shallow n l)

    -- a part that was claimed stands right
    part-stands : (n : ℕ) → n < N → (p : Part) → Held P n u p → PartStands P (level_in v) n p
    part-stands n l p h =
        let m : get_or u p.number Free ≡ PartOf n = h.mark in
        let f : is_free (get_or u p.number Free) ≡ false = rw m refl in
        let s : p.number < n = h.smaller in
        record { smaller = s; suited = h.suited; below = level-of v n p.number (level_in v n) (bodies.kept p.number f ∙ m) s (omega arith) refl (low n l) }

    -- the nodes form trees
    is-tree : Tree P (level_in v)
    is-tree =
        record {
          parts = λ n. ⊎_elim (λ (l : n < N). subst (Each (PartStands P (level_in v) n)) (sym (parts_same P (node_at P n))) (each-onto (Held P n u) (PartStands P (level_in v) n) (part-stands n l) (parts_in P (node_at P n)) (nodes.parts n (omega arith) l)))
              (λ (l : N ≤ n). past-parts (PartStands P (level_in v) n) n l) (cases_lt n N);
          bodies = each-onto (BodyHeld P v) (BodyStands P (level_in v)) (λ F b. record { inside = b.inside; block = b.block; top = body-level v F.body b.mark b.inside }) P.functions bodies.bodies;
          once = λ n l. omega (arith, times_append n (part_numbers P P.nodes) (body_numbers P.functions), unused n l, nodes.counted n, bodies.counted n, marked_used (get_or v n Free) (not-true _ (all n l)));
          shallow = low;
        }

  -- what passes the tests of the tree is one
  pub tree-were : {s : Unit {0}} → tree_of D ≡ good s → (level : ℕ → ℕ) × Tree P level
  tree-were q =
      let x = then_splits (nodes_claimed D free) _ q in
      let a = nodes-were D N 0 free x.0 (omega arith) free-length x.1 in
      let y = then_splits (bodies_claimed D x.0) _ x.2 in
      let z : length x.0 ≡ length free = a.size in
      let b = bodies-were D (length P.functions) 0 x.0 y.0 (omega arith) (z ∙ free-length) y.1 in
      let w = then_splits (all_used D y.0) (λ _. levels_held D y.0) y.2 in (
        level_in y.0,
        is-tree x.0 y.0 a b
            (λ n l. held-true _ TreeRule (offset_of D n) (tests_were (λ n. held (not (is_free (get_or y.0 n Free))) TreeRule (offset_of D n)) N 0 _ w.1 n (omega arith) (omega arith)))
            (λ n l. held-true _ TreeRule (offset_of D n) (tests_were (λ n. held (leb (level_in y.0 n) 32) TreeRule (offset_of D n)) N 0 _ w.2 n (omega arith) (omega arith))),
      )

  module _ (level : ℕ → ℕ) (tree : Tree P level) where
    -- each part stands right
    pub stands : (n : ℕ) → Each (PartStands P level n) (parts_in P (node_at P n))
    stands n = subst (Each (PartStands P level n)) (parts_same P (node_at P n)) (tree.parts n)

    -- parts and bodies together are every node once
    pub both : (k : ℕ) → k < N → times k (part_numbers P P.nodes) + times k (body_numbers P.functions) ≡ 1
    both k l = sym (times_append k (part_numbers P P.nodes) (body_numbers P.functions)) ∙ tree.once k l

    -- there is room for all claims
    room : Roomy free (part_numbers P P.nodes)
    room k l = let h : k < N = omega (arith, free-length) in omega (arith, unused k h, both k h)

    module _ (u v : List Mark) (nodes : NodesHeld P 0 free u) (bodies : BodiesHeld P 0 u v) where
      -- each node has a mark
      marked : (k : ℕ) → k < N → not (is_free (get_or v k Free)) ≡ true
      marked k l =
          let e : used v k ≡ 1 = omega (arith, unused k l, both k l, nodes.counted k, bodies.counted k) in
          ⊎_elim (λ (f : is_free (get_or v k Free) ≡ true). let g : used v k ≡ 0 = rw f refl in absurd (omega arith)) (λ (f : is_free (get_or v k Free) ≡ false). not_from_false _ f) (cases_Bool (is_free (get_or v k Free)))

      -- what a part of node n has
      abbrev Has : ℕ → Part → Type 0
      Has n p = Held P n u p × PartStands P level n p

      -- each part has both
      has : (n : ℕ) → n < N → Each (Has n) (parts_in P (node_at P n))
      has n l = each_both (Held P n u) (PartStands P level n) (Has n) (λ p a b. (a, b)) (parts_in P (node_at P n)) (nodes.parts n (omega arith) l) (stands n)

      -- what a body has
      abbrev HasBody : Function → Type 0
      HasBody F = BodyHeld P v F × BodyStands P level F

      -- each body has both
      has-bodies : Each HasBody P.functions
      has-bodies = each_both (BodyHeld P v) (BodyStands P level) HasBody (λ F a b. (a, b)) P.functions bodies.bodies tree.bodies

      -- the levels are those of the tree
      levels-same : (f k : ℕ) → N ≤ k + f → k < N → level_in v k ≡ level k
      levels-same zero k h l = absurd (omega arith)
      levels-same (suc f) k h l = ⊎_elim (as-part (λ n a b. levels-same f n a b)) as-body (cases_lt 0 (times k (part_numbers P P.nodes)))
        where
          as-part : ((n : ℕ) → N ≤ n + f → n < N → level_in v n ≡ level n) → 0 < times k (part_numbers P P.nodes) → level_in v k ≡ level k
          as-part rec t =
              let x = part-found k P Has has t in
              let n : ℕ = x.0 in
              let p : Part = x.1 in
              let m : get_or u p.number Free ≡ PartOf n = x.4.0.mark in
              let g : is_free (get_or u p.number Free) ≡ false = rw m refl in
              let s : p.number < n = x.4.0.smaller in
              let e : p.number ≡ k = x.3 in
              let i = rec n (omega arith) x.2 in
              let w : level_in v p.number ≡ level n + 1 = level-of v n p.number (level n) (bodies.kept p.number g ∙ m) s (omega arith) (sym i) (tree.shallow n x.2) in
              subst (λ (j : ℕ). level_in v j ≡ level j) e (w ∙ sym x.4.1.below)

          as-body : times k (part_numbers P P.nodes) ≤ 0 → level_in v k ≡ level k
          as-body t =
              let x = in-bodies k HasBody P.functions has-bodies (omega (arith, both k l)) in
              let b : BodyHeld P v x.0 = x.2.0 in
              subst (λ (j : ℕ). level_in v j ≡ level j) x.1 (body-level v x.0.body b.mark b.inside ∙ sym x.2.1.top)

      -- no level is below 32
      low-enough : (k : ℕ) → k < N → leb (level_in v k) 32 ≡ true
      low-enough k l = let e = levels-same N k (omega arith) l in rw e (le-leb _ _ (tree.shallow k l))

      -- the tests behind the claims
      marks-pass : then (all_used D v) (λ _. levels_held D v) ≡ good tt
      marks-pass =
          then_good (λ _. levels_held D v) (tests_ready (λ n. held (not (is_free (get_or v n Free))) TreeRule (offset_of D n)) N 0 (λ n _ l. held_good _ TreeRule (offset_of D n) (marked n (omega arith))))
          ∙ tests_ready (λ n. held (leb (level_in v n) 32) TreeRule (offset_of D n)) N 0 (λ n _ l. held_good _ TreeRule (offset_of D n) (low-enough n (omega arith)))

    -- the claims of the nodes are granted
    nodes-granted : (u : List Mark) × (nodes_claimed D free ≡ good u)
    nodes-granted = nodes-ready D N 0 free (omega arith) free-length (λ n. each-onto (PartStands P level n) (λ p. (p.number < n) × (suits p.place (sort_of (node_at P p.number)) ≡ true)) (λ p s. (s.smaller, s.suited)) (parts_in P (node_at P n)) (stands n)) room

    module _ (u : List Mark) (granted : nodes_claimed D free ≡ good u) where
      -- what they make
      nodes-held : NodesHeld P 0 free u
      nodes-held = nodes-were D N 0 free u (omega arith) free-length granted

      -- there is a mark for each node
      as_long : length u ≡ N
      as_long = nodes-held.size ∙ free-length

      -- the claims of the bodies are granted
      bodies-granted : (v : List Mark) × (bodies_claimed D u ≡ good v)
      bodies-granted =
          bodies-ready D (length P.functions) 0 u (omega arith) as_long (each-onto (BodyStands P level) (λ F. (F.body < N) × (sort_of (node_at P F.body) ≡ block_sort)) (λ F b. (b.inside, b.block)) P.functions tree.bodies)
          (λ k l. let h : k < N = omega (arith, as_long) in omega (arith, unused k h, both k h, nodes-held.counted k))

      -- the tests in their order
      claims-pass : (v : List Mark) → bodies_claimed D u ≡ good v → tree_of D ≡ good tt
      claims-pass v e =
          then_good (λ w. then (bodies_claimed D w) (λ x. then (all_used D x) (λ _. levels_held D x))) granted
          ∙ then_good (λ x. then (all_used D x) (λ _. levels_held D x)) e ∙ marks-pass u v nodes-held (bodies-were D (length P.functions) 0 u v (omega arith) as_long e)

    -- a tree passes its tests
    pub tree-ready : tree_of D ≡ good tt
    tree-ready =
        let x = nodes-granted in
        let y = bodies-granted x.0 x.1 in
        claims-pass x.0 x.1 y.0 y.1
