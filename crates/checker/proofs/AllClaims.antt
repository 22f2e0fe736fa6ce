-- The claims of all nodes and of all bodies.
use Rattle.std.proofs.Common.{◌≡◌, ℕ, zero, suc, ◌+◌, ◌<◌, ◌≤◌, true, false, cond, ◌&&◌, eqb, ltb, List, [], length, get_or, drop, set, sym, refl, ap, ◌∙◌, subst, ⊎_elim, arith}
use Rattle.std.proofs.lemmas.List.{get_or-set_same, length-set, drop_more, drop_all}
use Rattle.std.proofs.lemmas.Bool.{ltb-true, lt-ltb, and_parts, cases_eq, false≢true}
use Rattle.xi.specs.declared.node.Node.TheVariants.{Discard}
use Rattle.xi.specs.declared.program.Function.{Function}
use Rattle.xi.specs.declared.rule.Rule.TheVariants.{Tree as TreeRule}
use Rattle.xi.specs.Program.{Program}
use Rattle.xi.specs.Tree.{node_at, Sort, value_sort, call_sort, statement_sort, return_sort, block_sort, target_sort, sort_of, suits, Part, Each, parts_of, times, part_numbers, body_numbers}
use Rattle.sheet.specs.Outcome.{good, runs}
use Rattle.sheet.specs.Sheets.{Decoded}
use Rattle.checker.specs.declared.mark.Mark.{Mark}
use Rattle.checker.specs.declared.mark.Mark.TheVariants.{Free, PartOf, Body}
use Rattle.checker.specs.Trees.{is_free, is_block, parts_in, parts_claimed, no_function, function_at, body_claimed}
use Rattle.checker.proofs.Chains.{good_same, then_splits, then_comes, held_splits}
use Rattle.checker.proofs.Eaches.{each-onto}
use Rattle.checker.proofs.WalkDepth.{parts_same}
use Rattle.checker.proofs.Marks.{used, Keeps, set-used, set_keeps, keeps_on, unused_free, times_append, times_here}
use Rattle.checker.proofs.Claiming.{numbers, Held, Roomy, claims-were, claims-ready}

-- a claim that was granted stays
held_on : (P : Program) (n : ℕ) (u v : List Mark) → Keeps u v → (p : Part) → Held P n u p → Held P n v p
held_on P n u v k p h =
    let m : get_or u p.number Free ≡ PartOf n = h.mark in
    let f : is_free (get_or u p.number Free) ≡ false = rw m refl in
    record { smaller = h.smaller; suited = h.suited; mark = k p.number f ∙ m }

-- the parts of the nodes from i on
pub part_times : (P : Program) (i k : ℕ) → i < length P.nodes → times k (part_numbers P (drop i P.nodes)) ≡ times k (numbers (parts_in P (node_at P i))) + times k (part_numbers P (drop (i + 1) P.nodes))
part_times P i k l =
    ap (λ ds. times k (part_numbers P ds)) (drop_more P.nodes i Discard l)
    ∙ times_append k (numbers (parts_of P (node_at P i))) (part_numbers P (drop (i + 1) P.nodes))
    ∙ ap (λ ps. times k (numbers ps) + times k (part_numbers P (drop (i + 1) P.nodes))) (parts_same P (node_at P i))

-- what the claims of the nodes from i on make of the marks u
pub record NodesHeld (P : Program) (i : ℕ) (u v : List Mark) : Type 0 where
  pub size : length v ≡ length u
  pub counted : (k : ℕ) → used v k ≡ used u k + times k (part_numbers P (drop i P.nodes))
  pub kept : Keeps u v
  pub parts : (n : ℕ) → i ≤ n → n < length P.nodes → Each (Held P n v) (parts_in P (node_at P n))

module _ (D : Decoded) where
  abbrev P : Program
  P = D.program

  -- claims of the nodes that were granted
  pub nodes-were : (m i : ℕ) (u v : List Mark) → m + i ≡ length P.nodes → length u ≡ length P.nodes → runs (parts_claimed D) m i u ≡ good v → NodesHeld P i u v
  nodes-were zero i u v a b q =
      let e : drop i P.nodes ≡ [] = drop_all i P.nodes (omega arith) in
      subst (NodesHeld P i u) (good_same q) (record { size = refl; counted = λ k. rw e (omega arith); kept = λ k f. refl; parts = λ n l h. absurd (omega arith) })
  nodes-were (suc m) i u v a b q =
      let x = then_splits (parts_claimed D i u) (λ w. runs (parts_claimed D) m (i + 1) w) q in
      let c = claims-were D i (parts_in P (node_at P i)) u x.0 (omega arith) x.1 in
      let z : length x.0 ≡ length u = c.size in
      let r = nodes-were m (i + 1) x.0 v (omega arith) (omega arith) x.2 in
      let here : Each (Held P i v) (parts_in P (node_at P i)) = each-onto (Held P i x.0) (Held P i v) (held_on P i x.0 v r.kept) (parts_in P (node_at P i)) c.parts in
      record {
        size = r.size ∙ z;
        counted = λ k. omega (arith, r.counted k, c.counted k, part_times P i k (omega arith));
        kept = keeps_on u x.0 v c.kept r.kept;
        parts = λ n l h. ⊎_elim (λ (e : n ≡ i). subst (λ (j : ℕ). Each (Held P j v) (parts_in P (node_at P j))) (sym e) here) (λ (e : n ≡ i → ⊥). r.parts n (omega arith) h) (cases_eq n i);
      }

  -- where there is room, the claims of the nodes are granted
  pub nodes-ready : (m i : ℕ) (u : List Mark) → m + i ≡ length P.nodes → length u ≡ length P.nodes → ((n : ℕ) → Each (λ (p : Part). (p.number < n) × (suits p.place (sort_of (node_at P p.number)) ≡ true)) (parts_in P (node_at P n))) →
      Roomy u (part_numbers P (drop i P.nodes)) → (v : List Mark) × (runs (parts_claimed D) m i u ≡ good v)
  nodes-ready zero i u a b s r = (u, refl)
  nodes-ready (suc m) i u a b s r =
      let x = claims-ready D i (parts_in P (node_at P i)) u (omega arith) (s i) (λ k h. omega (arith, r k h, part_times P i k (omega arith))) in
      let c = claims-were D i (parts_in P (node_at P i)) u x.0 (omega arith) x.1 in
      let z : length x.0 ≡ length u = c.size in
      let y = nodes-ready m (i + 1) x.0 (omega arith) (omega arith) s (λ k h. omega (arith, r k (omega arith), c.counted k, part_times P i k (omega arith))) in
      then_comes (parts_claimed D i u) (λ w. runs (parts_claimed D) m (i + 1) w) x y

-- the test for a block
block_is : (s : Sort) → is_block s ≡ true → s ≡ block_sort
block_is value_sort e = absurd (false≢true e)
block_is call_sort e = absurd (false≢true e)
block_is statement_sort e = absurd (false≢true e)
block_is return_sort e = absurd (false≢true e)
block_is block_sort e = refl
block_is target_sort e = absurd (false≢true e)

-- the body of F, claimed in v
pub record BodyHeld (P : Program) (v : List Mark) (F : Function) : Type 0 where
  pub inside : F.body < length P.nodes
  pub block : sort_of (node_at P F.body) ≡ block_sort
  pub mark : get_or v F.body Free ≡ Body

-- the bodies of the functions from i on
body_times : (P : Program) (i k : ℕ) → i < length P.functions → times k (body_numbers (drop i P.functions)) ≡ cond (eqb k (function_at P i).body) 1 0 + times k (body_numbers (drop (i + 1) P.functions))
body_times P i k l = ap (λ Fs. times k (body_numbers Fs)) (drop_more P.functions i no_function l)

-- what the claims of the functions from i on make of the marks u
pub record BodiesHeld (P : Program) (i : ℕ) (u v : List Mark) : Type 0 where
  pub size : length v ≡ length u
  pub counted : (k : ℕ) → used v k ≡ used u k + times k (body_numbers (drop i P.functions))
  pub kept : Keeps u v
  pub bodies : Each (BodyHeld P v) (drop i P.functions)

module _ (D : Decoded) where
  abbrev Q : Program
  Q = D.program

  -- the claim of a body that is a free block is granted
  body-ready : (i : ℕ) (u : List Mark) → (function_at Q i).body < length Q.nodes → sort_of (node_at Q (function_at Q i).body) ≡ block_sort → is_free (get_or u (function_at Q i).body Free) ≡ true → body_claimed D i u ≡ good (set u (function_at Q i).body Body)
  body-ready i u l s f = rw (lt-ltb (function_at Q i).body (length Q.nodes) l, s, f)

  -- claims of the bodies that were granted
  pub bodies-were : (m i : ℕ) (u v : List Mark) → m + i ≡ length Q.functions → length u ≡ length Q.nodes → runs (body_claimed D) m i u ≡ good v → BodiesHeld Q i u v
  bodies-were zero i u v a b q =
      let e : drop i Q.functions ≡ [] = drop_all i Q.functions (omega arith) in
      subst (BodiesHeld Q i u) (good_same q) (record { size = refl; counted = λ k. rw e (omega arith); kept = λ k f. refl; bodies = subst (Each (BodyHeld Q u)) (sym e) tt })
  bodies-were (suc m) i u v a b q =
      let x = then_splits (body_claimed D i u) (λ w. runs (body_claimed D) m (i + 1) w) q in
      let n : ℕ = (function_at Q i).body in
      let y = held_splits (ltb n (length Q.nodes) && (is_block (sort_of (node_at Q n)) && is_free (get_or u n Free))) TreeRule _ (λ _. good (set u n Body)) x.1 in
      let c = and_parts (ltb n (length Q.nodes)) _ y.0 in
      let d = and_parts (is_block (sort_of (node_at Q n))) _ c.1 in
      let s : n < length Q.nodes = ltb-true _ _ c.0 in
      let w : List Mark = set u n Body in
      let z : length w ≡ length u = length-set u n Body in
      let r = bodies-were m (i + 1) w v (omega arith) (omega arith) (ap (λ t. runs (body_claimed D) m (i + 1) t) (good_same y.1) ∙ x.2) in
      let k : get_or w n Free ≡ Body = get_or-set_same u n Body Free (omega arith) in
      let f : is_free (get_or w n Free) ≡ false = rw k refl in
      record {
        size = r.size ∙ z;
        counted = λ j. omega (arith, r.counted j, set-used u n Body (omega arith) d.1 refl j, body_times Q i j (omega arith));
        kept = keeps_on u w v (set_keeps u n Body d.1) r.kept;
        bodies = subst (Each (BodyHeld Q v)) (sym (drop_more Q.functions i no_function (omega arith))) (record { inside = s; block = block_is _ d.0; mark = r.kept n f ∙ k }, r.bodies);
      }

  -- where there is room, the claims of the bodies are granted
  pub bodies-ready : (m i : ℕ) (u : List Mark) → m + i ≡ length Q.functions → length u ≡ length Q.nodes → Each (λ (F : Function). (F.body < length Q.nodes) × (sort_of (node_at Q F.body) ≡ block_sort)) (drop i Q.functions) →
      Roomy u (body_numbers (drop i Q.functions)) → (v : List Mark) × (runs (body_claimed D) m i u ≡ good v)
  bodies-ready zero i u a b s r = (u, refl)
  bodies-ready (suc m) i u a b s r =
      let n : ℕ = (function_at Q i).body in
      let t = subst (Each (λ (F : Function). (F.body < length Q.nodes) × (sort_of (node_at Q F.body) ≡ block_sort))) (drop_more Q.functions i no_function (omega arith)) s in
      let l : n < length u = omega (arith, t.0.0) in
      let z : used u n ≡ 0 = omega (arith, r n l, body_times Q i n (omega arith), times_here n []) in
      let f : is_free (get_or u n Free) ≡ true = unused_free (get_or u n Free) z in
      let w : List Mark = set u n Body in
      let e : length w ≡ length u = length-set u n Body in
      then_comes (body_claimed D i u) (λ c. runs (body_claimed D) m (i + 1) c) (w, body-ready i u t.0.0 t.0.1 f)
      (bodies-ready m (i + 1) w (omega arith) (omega arith) t.1 (λ k h. omega (arith, r k (omega arith), set-used u n Body l f refl k, body_times Q i k (omega arith))))
