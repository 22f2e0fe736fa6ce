-- A number that stands among the parts or the bodies is a part of a node or a body.
use Rattle.std.proofs.Common.{◌≡◌, ℕ, zero, suc, ◌+◌, ◌<◌, ◌≤◌, false, eqb, List, [], ◌∷◌, length, drop, sym, ⊎_elim, arith}
use Rattle.std.proofs.lemmas.List.{drop_all}
use Rattle.std.proofs.lemmas.Bool.{cases_eq, cases_lt, ne_eqb}
use Rattle.xi.specs.declared.program.Function.{Function}
use Rattle.xi.specs.Program.{Program}
use Rattle.xi.specs.Tree.{node_at, Part, Each, times, part_numbers, body_numbers}
use Rattle.checker.specs.Trees.{parts_in}
use Rattle.checker.proofs.Claiming.{numbers}
use Rattle.checker.proofs.AllClaims.{part_times}

-- a number that is not the first stands behind
behind : (k m : ℕ) (ms : List ℕ) → (m ≡ k → ⊥) → 1 ≤ times k (m ∷ ms) → 1 ≤ times k ms
behind k m ms n h = let e : eqb k m ≡ false = ne_eqb k m (λ q. n (sym q)) in let g : 1 ≤ 0 + times k ms = rw e at h in omega arith

module _ (k : ℕ) where
  -- a number among the parts of a node
  in_parts : (R : Part → Type 0) (ps : List Part) → Each R ps → 1 ≤ times k (numbers ps) → (p : Part) × (p.number ≡ k) × R p
  in_parts R [] r h = absurd (omega arith)
  in_parts R (p ∷ ps) r h = ⊎_elim (λ (e : p.number ≡ k). (p, e, r.0)) (λ (n : p.number ≡ k → ⊥). in_parts R ps r.1 (behind k p.number (numbers ps) n h)) (cases_eq p.number k)

  -- a number among the bodies
  pub in-bodies : (R : Function → Type 0) (Fs : List Function) → Each R Fs → 1 ≤ times k (body_numbers Fs) → (F : Function) × (F.body ≡ k) × R F
  in-bodies R [] r h = absurd (omega arith)
  in-bodies R (F ∷ Fs) r h = ⊎_elim (λ (e : F.body ≡ k). (F, e, r.0)) (λ (n : F.body ≡ k → ⊥). in-bodies R Fs r.1 (behind k F.body (body_numbers Fs) n h)) (cases_eq F.body k)

  module _ (P : Program) (R : ℕ → Part → Type 0) (each : (n : ℕ) → n < length P.nodes → Each (R n) (parts_in P (node_at P n))) where
    -- a number among the parts of the nodes from i on
    in-nodes : (m i : ℕ) → m + i ≡ length P.nodes → 1 ≤ times k (part_numbers P (drop i P.nodes)) → (n : ℕ) × (p : Part) × (n < length P.nodes) × (p.number ≡ k) × R n p
    in-nodes zero i a h = let e : drop i P.nodes ≡ [] = drop_all i P.nodes (omega arith) in let g : 1 ≤ 0 = rw e at h in absurd (omega arith)
    in-nodes (suc m) i a h =
        let l : i < length P.nodes = omega arith in
        ⊎_elim (λ (z : 0 < times k (numbers (parts_in P (node_at P i)))). let x = in_parts (R i) (parts_in P (node_at P i)) (each i l) z in (i, x.0, l, x.1, x.2))
        (λ (z : times k (numbers (parts_in P (node_at P i))) ≤ 0). in-nodes m (i + 1) (omega arith) (omega (arith, part_times P i k l))) (cases_lt 0 (times k (numbers (parts_in P (node_at P i)))))

    -- a node that is a part is a part of some node
    pub part-found : 1 ≤ times k (part_numbers P P.nodes) → (n : ℕ) × (p : Part) × (n < length P.nodes) × (p.number ≡ k) × R n p
    part-found h = in-nodes (length P.nodes) 0 (omega arith) h
