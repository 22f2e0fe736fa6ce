-- The scope and the owed results of each node, from the tree alone: those of a body are its function's, and a node hands its own on to its parts.
use Rattle.std.proofs.Common.{◌≡◌, ℕ, zero, suc, ◌+◌, ◌<◌, ◌≤◌, true, cond, eqb, List, [], ◌∷◌, ◌++◌, map, length, drop, sym, refl, ap, ◌∙◌, subst, ⊎_elim, arith}
use Rattle.std.proofs.lemmas.List.{drop_all}
use Rattle.std.proofs.lemmas.Bool.{cases_eq, eq-eqb, ne_eqb}
use Rattle.xi.specs.declared.node.Node.{Node}
use Rattle.xi.specs.declared.program.Function.{Function}
use Rattle.xi.specs.Program.{Program}
use Rattle.xi.specs.Tree.{node_at, Sort, value_sort, call_sort, statement_sort, return_sort, block_sort, target_sort, sort_of, Part, first_parts, later_parts, parts_of, Each, PartStands, BodyStands, times, part_numbers, body_numbers, Tree}
use Rattle.xi.specs.Typing.{Scope, pushed, declared_by, parameters_of, results_of}
use Rattle.checker.specs.Trees.{parts_in}
use Rattle.checker.proofs.Eaches.{each-onto, each_both, each_append, each_left, each_right}
use Rattle.checker.proofs.WalkDepth.{parts_same}
use Rattle.checker.proofs.Marks.{times_append, times_here}
use Rattle.checker.proofs.Claiming.{numbers}
use Rattle.checker.proofs.AllClaims.{part_times}

-- the names in scope where a node begins, and the results that its function owes
pub record Standing : Type 0 where
  pub scope : Scope
  pub owed : List ℕ

-- a node with its standing
pub record Entry : Type 0 where
  pub number : ℕ
  pub standing : Standing

-- node n in the scope Γ of a function that owes ω
abbrev pub entry : ℕ → Scope → List ℕ → Entry
entry n Γ ω = record { number = n; standing = record { scope = Γ; owed = ω } }

-- the standing of node n
abbrev pub find : List Entry → ℕ → Standing
find [] n = record { scope = []; owed = [] }
find (e ∷ es) n = cond (eqb n e.number) e.standing (find es n)

-- the numbers of the nodes
abbrev pub keys : List Entry → List ℕ
keys es = map (λ (e : Entry). e.number) es

-- parts with their node's scope
abbrev pub inherit : Standing → List Part → List Entry
inherit s [] = []
inherit s (p ∷ ps) = entry p.number s.scope s.owed ∷ inherit s ps

-- entries of a block, each in the scope after the one before
abbrev pub follow : Program → List ℕ → Scope → List Part → List Entry
follow P ω Γ [] = []
follow P ω Γ (p ∷ ps) = entry p.number Γ ω ∷ follow P ω (pushed (declared_by P (node_at P p.number)) Γ) ps

-- the later parts of a node of that sort
abbrev pub later : Program → Standing → Sort → List Part → List Entry
later P s value_sort ps = inherit s ps
later P s call_sort ps = inherit s ps
later P s statement_sort ps = inherit s ps
later P s return_sort ps = inherit s ps
later P s block_sort ps = follow P s.owed s.scope ps
later P s target_sort ps = inherit s ps

-- what a node of that standing hands on
abbrev pub handed : Program → Standing → Node → List Entry
handed P s d = inherit s (first_parts P d) ++ later P s (sort_of d) (later_parts P d)

-- bodies with their functions' parameters and results
abbrev pub body_entries : Program → List Function → List Entry
body_entries P [] = []
body_entries P (F ∷ Fs) = entry F.body (pushed (parameters_of P F) []) (results_of P F) ∷ body_entries P Fs

-- what m nodes from i on hand on, and the bodies
abbrev pub placed : Program → ℕ → ℕ → List Entry
placed P zero i = body_entries P P.functions
placed P (suc m) i = handed P (find (placed P m (i + 1)) i) (node_at P i) ++ placed P m (i + 1)

-- where each node stands
abbrev pub places : Program → List Entry
places P = placed P (length P.nodes) 0

-- each entry stands in its own list
counted : (es : List Entry) → Each (λ e. 1 ≤ times e.number (keys es)) es
counted [] = tt
counted (x ∷ es) = (omega (arith, times_here x.number (keys es)), each-onto (λ e. 1 ≤ times e.number (keys es)) (λ e. 1 ≤ times e.number (keys (x ∷ es))) (λ e h. omega arith) es (counted es))

-- the first entry is found, and behind it each whose number is another
found-behind : (x : Entry) (es : List Entry) (e : Entry) → 1 ≤ times e.number (keys es) → times e.number (keys (x ∷ es)) ≤ 1 → find es e.number ≡ e.standing → find (x ∷ es) e.number ≡ e.standing
found-behind x es e a b f =
    ⊎_elim (λ (q : e.number ≡ x.number). let t : eqb e.number x.number ≡ true = eq-eqb _ _ q in let g : 1 + times e.number (keys es) ≤ 1 = rw t at b in absurd (omega arith))
    (λ (q : e.number ≡ x.number → ⊥). rw (ne_eqb _ _ q) f) (cases_eq e.number x.number)

-- where no number stands twice, each entry is found
pub found-each : (es : List Entry) → Each (λ e. times e.number (keys es) ≤ 1) es → Each (λ e. find es e.number ≡ e.standing) es
found-each [] h = tt
found-each (x ∷ es) h =
    let r = found-each es (each-onto (λ e. times e.number (keys (x ∷ es)) ≤ 1) (λ e. times e.number (keys es) ≤ 1) (λ e k. omega arith) es h.1) in (
      ap (λ b. cond b x.standing (find es x.number)) (eq-eqb x.number x.number refl),
      each_both (λ e. times e.number (keys (x ∷ es)) ≤ 1) (λ e. (1 ≤ times e.number (keys es)) × (find es e.number ≡ e.standing)) (λ e. find (x ∷ es) e.number ≡ e.standing)
          (λ e a b. found-behind x es e b.0 a b.1) es h.1 (each_both (λ e. 1 ≤ times e.number (keys es)) (λ e. find es e.number ≡ e.standing) (λ e. (1 ≤ times e.number (keys es)) × (find es e.number ≡ e.standing)) (λ e a b. (a, b)) es (counted es) r),
    )

-- entries of smaller numbers are passed over
pub found-past : (n : ℕ) (es fs : List Entry) → Each (λ (e : Entry). e.number < n) es → find (es ++ fs) n ≡ find fs n
found-past n [] fs h = refl
found-past n (e ∷ es) fs h = let l : e.number < n = h.0 in rw (ne_eqb n e.number (λ q. omega arith)) (found-past n es fs h.1)

-- the numbers of what is handed on are those of the parts
module _ (P : Program) where
  -- what holds of the parts' numbers, with their node's scope
  inherit-each : (Q : ℕ → Type 0) (s : Standing) (ps : List Part) → Each (λ (p : Part). Q p.number) ps → Each (λ (e : Entry). Q e.number) (inherit s ps)
  inherit-each Q s [] h = tt
  inherit-each Q s (p ∷ ps) h = (h.0, inherit-each Q s ps h.1)

  -- and of the entries of a block
  follow-each : (Q : ℕ → Type 0) (ω : List ℕ) (Γ : Scope) (ps : List Part) → Each (λ (p : Part). Q p.number) ps → Each (λ (e : Entry). Q e.number) (follow P ω Γ ps)
  follow-each Q ω Γ [] h = tt
  follow-each Q ω Γ (p ∷ ps) h = (h.0, follow-each Q ω (pushed (declared_by P (node_at P p.number)) Γ) ps h.1)

  -- and of later parts
  later-each : (Q : ℕ → Type 0) (s : Standing) (o : Sort) (ps : List Part) → Each (λ (p : Part). Q p.number) ps → Each (λ (e : Entry). Q e.number) (later P s o ps)
  later-each Q s value_sort ps h = inherit-each Q s ps h
  later-each Q s call_sort ps h = inherit-each Q s ps h
  later-each Q s statement_sort ps h = inherit-each Q s ps h
  later-each Q s return_sort ps h = inherit-each Q s ps h
  later-each Q s block_sort ps h = follow-each Q s.owed s.scope ps h
  later-each Q s target_sort ps h = inherit-each Q s ps h

  -- and of all parts
  handed-each : (Q : ℕ → Type 0) (s : Standing) (d : Node) → Each (λ (p : Part). Q p.number) (parts_of P d) → Each (λ (e : Entry). Q e.number) (handed P s d)
  handed-each Q s d h =
      each_append (λ (e : Entry). Q e.number) (inherit s (first_parts P d)) (later P s (sort_of d) (later_parts P d)) (inherit-each Q s (first_parts P d) (each_left (λ (p : Part). Q p.number) (first_parts P d) (later_parts P d) h))
      (later-each Q s (sort_of d) (later_parts P d) (each_right (λ (p : Part). Q p.number) (first_parts P d) (later_parts P d) h))

  -- the numbers of parts with their node's scope
  inherit-keys : (s : Standing) (ps : List Part) → keys (inherit s ps) ≡ numbers ps
  inherit-keys s [] = refl
  inherit-keys s (p ∷ ps) = ap (λ ks. p.number ∷ ks) (inherit-keys s ps)

  -- of the entries of a block
  follow-keys : (ω : List ℕ) (Γ : Scope) (ps : List Part) → keys (follow P ω Γ ps) ≡ numbers ps
  follow-keys ω Γ [] = refl
  follow-keys ω Γ (p ∷ ps) = ap (λ ks. p.number ∷ ks) (follow-keys ω (pushed (declared_by P (node_at P p.number)) Γ) ps)

  -- of later parts
  later-keys : (s : Standing) (o : Sort) (ps : List Part) → keys (later P s o ps) ≡ numbers ps
  later-keys s value_sort ps = inherit-keys s ps
  later-keys s call_sort ps = inherit-keys s ps
  later-keys s statement_sort ps = inherit-keys s ps
  later-keys s return_sort ps = inherit-keys s ps
  later-keys s block_sort ps = follow-keys s.owed s.scope ps
  later-keys s target_sort ps = inherit-keys s ps

  -- how often a number stands in two lists
  keys-times : (k : ℕ) (es fs : List Entry) → times k (keys (es ++ fs)) ≡ times k (keys es) + times k (keys fs)
  keys-times k [] fs = omega arith
  keys-times k (e ∷ es) fs = rw (keys-times k es fs) (omega arith)

  -- and in two lists of parts
  numbers-times : (k : ℕ) (ps qs : List Part) → times k (numbers (ps ++ qs)) ≡ times k (numbers ps) + times k (numbers qs)
  numbers-times k [] qs = omega arith
  numbers-times k (p ∷ ps) qs = rw (numbers-times k ps qs) (omega arith)

  -- how often a number is handed on
  handed-times : (k : ℕ) (s : Standing) (d : Node) → times k (keys (handed P s d)) ≡ times k (numbers (parts_in P d))
  handed-times k s d =
      keys-times k (inherit s (first_parts P d)) (later P s (sort_of d) (later_parts P d))
      ∙ (λ i. times k (inherit-keys s (first_parts P d) i) + times k (later-keys s (sort_of d) (later_parts P d) i))
      ∙ sym (numbers-times k (first_parts P d) (later_parts P d)) ∙ ap (λ ps. times k (numbers ps)) (parts_same P d)

  -- how often it is a body
  bodies-times : (k : ℕ) (Fs : List Function) → times k (keys (body_entries P Fs)) ≡ times k (body_numbers Fs)
  bodies-times k [] = refl
  bodies-times k (F ∷ Fs) = ap (λ n. cond (eqb k F.body) 1 0 + n) (bodies-times k Fs)

  -- how often it is one or the other
  placed-times : (k m i : ℕ) → m + i ≡ length P.nodes → times k (keys (placed P m i)) ≡ times k (part_numbers P (drop i P.nodes)) + times k (body_numbers P.functions)
  placed-times k zero i a =
      let e : drop i P.nodes ≡ [] = drop_all i P.nodes (omega arith) in
      rw e (omega (arith, bodies-times k P.functions))
  placed-times k (suc m) i a =
      let s : Standing = find (placed P m (i + 1)) i in
      omega (arith, keys-times k (handed P s (node_at P i)) (placed P m (i + 1)), handed-times k s (node_at P i), placed-times k m (i + 1) (omega arith), part_times P i k (omega arith))

module _ (P : Program) (level : ℕ → ℕ) (tree : Tree P level) where
  abbrev N : ℕ
  N = length P.nodes

  -- a node hands on smaller numbers
  handed-below : (s : Standing) (n : ℕ) → Each (λ (e : Entry). e.number < n) (handed P s (node_at P n))
  handed-below s n = handed-each P (λ k. k < n) s (node_at P n) (each-onto (PartStands P level n) (λ p. p.number < n) (λ p h. h.smaller) (parts_of P (node_at P n)) (tree.parts n))

  -- bodies are nodes
  bodies-inside : (Fs : List Function) → Each (BodyStands P level) Fs → Each (λ (e : Entry). e.number < N) (body_entries P Fs)
  bodies-inside [] h = tt
  bodies-inside (F ∷ Fs) h = (h.0.inside, bodies-inside Fs h.1)

  -- all entries are nodes
  placed-inside : (m i : ℕ) → m + i ≡ N → Each (λ (e : Entry). e.number < N) (placed P m i)
  placed-inside zero i a = bodies-inside P.functions tree.bodies
  placed-inside (suc m) i a =
      let s : Standing = find (placed P m (i + 1)) i in
      each_append (λ (e : Entry). e.number < N) (handed P s (node_at P i)) (placed P m (i + 1))
      (each-onto (λ (e : Entry). e.number < i) (λ (e : Entry). e.number < N) (λ e h. omega arith) (handed P s (node_at P i)) (handed-below s i)) (placed-inside m (i + 1) (omega arith))

  -- no number stands twice, so each entry is found
  each-found : Each (λ (e : Entry). find (places P) e.number ≡ e.standing) (places P)
  each-found =
      found-each (places P) (each-onto (λ (e : Entry). e.number < N) (λ (e : Entry). times e.number (keys (places P)) ≤ 1)
      (λ e l. omega (arith, placed-times P e.number N 0 (omega arith), tree.once e.number l, times_append e.number (part_numbers P P.nodes) (body_numbers P.functions))) (places P) (placed-inside N 0 (omega arith)))

  -- what holds of all entries holds of those that node n hands on
  handed-from : (Q : Entry → Type 0) (m i : ℕ) → m + i ≡ N → Each Q (placed P m i) → (n : ℕ) → i ≤ n → n < N → (s : Standing) × (find (placed P m i) n ≡ s) × Each Q (handed P s (node_at P n))
  handed-from Q zero i a h n l k = absurd (omega arith)
  handed-from Q (suc m) i a h n l k =
      let s : Standing = find (placed P m (i + 1)) i in
      let past : find (placed P (suc m) i) n ≡ find (placed P m (i + 1)) n =
      found-past n (handed P s (node_at P i)) (placed P m (i + 1)) (each-onto (λ (e : Entry). e.number < i) (λ (e : Entry). e.number < n) (λ e h. omega arith) (handed P s (node_at P i)) (handed-below s i)) in
      ⊎_elim (λ (e : n ≡ i). (find (placed P m (i + 1)) n, past, subst (λ (j : ℕ). Each Q (handed P (find (placed P m (i + 1)) j) (node_at P j))) (sym e) (each_left Q (handed P s (node_at P i)) (placed P m (i + 1)) h)))
      (λ (e : n ≡ i → ⊥). let r = handed-from Q m (i + 1) (omega arith) (each_right Q (handed P s (node_at P i)) (placed P m (i + 1)) h) n (omega arith) k in (r.0, past ∙ r.1, r.2)) (cases_eq n i)

  -- each part stands where its node puts it
  pub handed-found : (n : ℕ) → n < N → Each (λ (e : Entry). find (places P) e.number ≡ e.standing) (handed P (find (places P) n) (node_at P n))
  handed-found n l =
      let r = handed-from (λ e. find (places P) e.number ≡ e.standing) N 0 (omega arith) each-found n (omega arith) l in
      subst (λ (s : Standing). Each (λ (e : Entry). find (places P) e.number ≡ e.standing) (handed P s (node_at P n))) (sym r.1) r.2

  -- what holds of all entries holds of the bodies
  bodies-from : (Q : Entry → Type 0) (m i : ℕ) → Each Q (placed P m i) → Each Q (body_entries P P.functions)
  bodies-from Q zero i h = h
  bodies-from Q (suc m) i h = bodies-from Q m (i + 1) (each_right Q (handed P (find (placed P m (i + 1)) i) (node_at P i)) (placed P m (i + 1)) h)

  -- each body stands where its function puts it
  pub bodies-found : Each (λ (e : Entry). find (places P) e.number ≡ e.standing) (body_entries P P.functions)
  bodies-found = bodies-from (λ e. find (places P) e.number ≡ e.standing) N 0 each-found
