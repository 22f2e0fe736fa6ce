-- A sheet that passes every test obeys the rules.
use Rattle.std.proofs.Common.{◌≡◌, ℕ, zero, suc, ◌+◌, ◌<◌, ◌≤◌, true, false, not, ◌||◌, List, [], ◌∷◌, length, get_or, take, sym, refl, ◌∙◌, subst, ⊎_elim, arith}
use Rattle.std.proofs.lemmas.List.{get_or_past}
use Rattle.std.proofs.lemmas.Bool.{not-true, cases_lt}
use Rattle.xi.specs.declared.node.Node.{Node}
use Rattle.xi.specs.declared.node.Node.TheVariants.{Discard}
use Rattle.xi.specs.declared.program.Parameter.{Parameter}
use Rattle.xi.specs.declared.program.Function.{Function}
use Rattle.xi.specs.declared.rule.Rule.TheVariants.{Taken, Return, Main}
use Rattle.xi.specs.Program.{Program, items_of}
use Rattle.xi.specs.Tree.{node_at, sort_of, block_sort, Place, statement_place, suits, Part, parts_of, Each, times, part_numbers, PartStands, BodyStands, Tree}
use Rattle.xi.specs.Typing.{pushed, Tables, ScopesBy, Typed, Declarable, declared_by, ReturnsBy, parameters_of, results_of, EndsWith}
use Rattle.xi.specs.Obeys.{Within, InRange, FunctionObeys, Obeys}
use Rattle.sheet.specs.Outcome.{good, then}
use Rattle.sheet.specs.Sheets.{Decoded}
use Rattle.checker.specs.Trees.{offset_of, parts_in, no_function, function_at, tree_of}
use Rattle.checker.specs.Walk.{is_empty, after_of, ends_of}
use Rattle.checker.specs.Checked.{has_name, global_name, function_name, no_global, global_free, globals_free, function_free, functions_free, parameter_free, parameters_free_of, parameters_free, main_fits, main_in, main_held, body_held, bodies_held, names_held}
use Rattle.checker.specs.Exact.{ObeyingAccepted}
use Rattle.checker.proofs.Chains.{then_splits, held-true, tests_were}
use Rattle.checker.proofs.Eaches.{each-onto, each_both, each_at, each_from, each-given}
use Rattle.checker.proofs.WalkDepth.{PartsBelow, parts_same}
use Rattle.checker.proofs.Found.{part-found, in-bodies}
use Rattle.checker.proofs.Passes.{tree_below}
use Rattle.checker.proofs.TreeHeld.{stands, both, tree-were}
use Rattle.checker.proofs.NamesHeld.{distinct_from, parameters-from, run_length, main-was}
use Rattle.checker.proofs.EndsHeld.{ends-was}
use Rattle.checker.proofs.Went.{Went}
use Rattle.checker.proofs.WentStatements.{StatementWent}
use Rattle.checker.proofs.WalkScopes.{tables_of, type_is, first-scopes, later-scopes, BodyBegins, body-scopes}
use Rattle.checker.proofs.NodeWent.{scopes-in, Own, node-went, own-by, returns-by}

module _ (D : Decoded) (level : ℕ → ℕ) (tree : Tree D.program level) where
  abbrev P : Program
  P = D.program

  abbrev N : ℕ
  N = length P.nodes

  abbrev T : Tables
  T = tables_of D

  -- parts have smaller numbers
  below : PartsBelow P
  below = tree_below P level tree

  -- a part is what its place asks
  abbrev Suited : Part → Type 0
  Suited p = suits p.place (sort_of (node_at P p.number)) ≡ true

  -- so is each part of node n
  suited : (n : ℕ) → Each Suited (parts_in P (node_at P n))
  suited n = each-onto (PartStands P level n) Suited (λ p s. s.suited) (parts_in P (node_at P n)) (stands D level tree n)

  -- the scopes of the parts of node n
  scopes : (n : ℕ) → ScopesBy P T n (sort_of (node_at P n)) (parts_in P (node_at P n))
  scopes n = scopes-in P T n (node_at P n) (first-scopes D level tree n) (later-scopes D level tree n)

  -- the walk went well at node n, in its own scope
  pub record NodeWent (n : ℕ) : Type 0 where
    pub place : Place
    pub suits : suits place (sort_of (node_at P n)) ≡ true
    pub went : Went D (T.scope n) (T.owed n) place n

  -- the local rules of node n
  local : (n : ℕ) → NodeWent n → StatementWent D T n (node_at P n)
  local n w = node-went D below T (type_is D) n w.place w.suits (scopes n) (suited n) w.went

  -- the walk went well at the parts of node n
  parts-went : (n : ℕ) → NodeWent n → Each (λ (p : Part). NodeWent p.number) (parts_in P (node_at P n))
  parts-went n w =
      each_both Suited (Own D below T (type_is D)) (λ p. NodeWent p.number) (λ p s h. record { place = p.place; suits = s; went = h }) (parts_in P (node_at P n)) (suited n)
      (own-by D below T (type_is D) n (sort_of (node_at P n)) (parts_in P (node_at P n)) (scopes n) (local n w).parts)

  -- what a part of node n has
  abbrev Has : ℕ → Part → Type 0
  Has n p = (p.number < n) × (NodeWent n → NodeWent p.number)

  -- so has each part
  has : (n : ℕ) → n < N → Each (Has n) (parts_in P (node_at P n))
  has n l =
      each_both (PartStands P level n) (λ p. NodeWent n → NodeWent p.number) (Has n) (λ p s h. (s.smaller, h)) (parts_in P (node_at P n)) (stands D level tree n)
      (each-given (NodeWent n) (λ p. NodeWent p.number) (parts_in P (node_at P n)) (parts-went n))

  module _ (walked : Each (λ (F : Function). body_held D F ≡ good tt) P.functions) where
    -- what a body that was walked has
    body-went : (F : Function) → BodyStands P level F → BodyBegins D level tree F → body_held D F ≡ good tt → NodeWent F.body
    body-went F s b q =
        let k : sort_of (node_at P F.body) ≡ block_sort = s.block in
        let x = then_splits (after_of D (results_of P F) false (pushed (parameters_of P F) []) F.body) _ q in
        record {
          place = statement_place;
          suits = rw k refl;
          went = (false, x.0, (λ i. after_of D (b.1 i) false (b.0 i) F.body) ∙ x.1);
        }

    -- the walk went well at each body
    bodies-went : Each (λ (F : Function). NodeWent F.body) P.functions
    bodies-went =
        each_both (λ F. BodyStands P level F × BodyBegins D level tree F) (λ F. body_held D F ≡ good tt) (λ F. NodeWent F.body) (λ F c q. body-went F c.0 c.1 q) P.functions
        (each_both (BodyStands P level) (BodyBegins D level tree) (λ F. BodyStands P level F × BodyBegins D level tree F) (λ F a b. (a, b)) P.functions tree.bodies (body-scopes D level tree)) walked

    -- the walk went well at every node
    all-went : (f k : ℕ) → N ≤ k + f → k < N → NodeWent k
    all-went zero k h l = absurd (omega arith)
    all-went (suc f) k h l =
        ⊎_elim (λ (t : 0 < times k (part_numbers P P.nodes)).
        let x = part-found k P Has has t in
        let s : x.1.number < x.0 = x.4.0 in
        let e : x.1.number ≡ k = x.3 in
        subst NodeWent e (x.4.1 (all-went f x.0 (omega arith) x.2)))
        (λ (t : times k (part_numbers P P.nodes) ≤ 0).
        let x = in-bodies k (λ F. NodeWent F.body) P.functions bodies-went (omega (arith, both D level tree k l)) in
        subst NodeWent x.1 x.2) (cases_lt 0 (times k (part_numbers P P.nodes)))

    -- the local rules of every node
    went-at : (n : ℕ) → n < N → StatementWent D T n (node_at P n)
    went-at n l = local n (all-went N n (omega arith) l)

    -- what holds of each node there is, and of a node past the last, holds of all
    everywhere : (Q : ℕ → Node → Type 0) → ((n : ℕ) → n < N → Q n (node_at P n)) → ((n : ℕ) → Q n Discard) → (n : ℕ) → Q n (node_at P n)
    everywhere Q h k n = ⊎_elim (λ (l : n < N). h n l) (λ (l : N ≤ n). subst (Q n) (sym (get_or_past P.nodes n Discard l)) (k n)) (cases_lt n N)

    -- types
    pub all_typed : (n : ℕ) → Typed P T n (node_at P n)
    all_typed = everywhere (λ n d. Typed P T n d) (λ n l. (went-at n l).typed) (λ n. tt)

    -- names
    pub all-names : (n : ℕ) → Declarable P (T.scope n) (declared_by P (node_at P n))
    all-names = everywhere (λ n d. Declarable P (T.scope n) (declared_by P d)) (λ n l. (went-at n l).names) (λ n. tt)

    -- returns
    pub all-returns : (n : ℕ) → ReturnsBy P (sort_of (node_at P n)) (parts_of P (node_at P n))
    all-returns =
        everywhere (λ n d. ReturnsBy P (sort_of d) (parts_of P d))
        (λ n l. subst (ReturnsBy P (sort_of (node_at P n))) (sym (parts_same P (node_at P n))) (returns-by D below T (type_is D) (T.scope n) (T.owed n) (sort_of (node_at P n)) (parts_in P (node_at P n)) (suited n) (went-at n l).parts)) (λ n. tt)

    -- a body that must end does
    ending : (ts : List ℕ) (n : ℕ) → (is_empty ts || ends_of P n) ≡ true → EndsWith P ts (node_at P n)
    ending [] n h = tt
    ending (t ∷ ts) n h = ends-was P below n h

    -- the body of a function with results ends
    pub body-ends : (F : Function) → body_held D F ≡ good tt → EndsWith P (results_of P F) (node_at P F.body)
    body-ends F q =
        let x = then_splits (after_of D (results_of P F) false (pushed (parameters_of P F) []) F.body) _ q in
        ending (results_of P F) F.body (held-true (is_empty (results_of P F) || ends_of P F.body) Return (offset_of D F.body) x.2)

-- the rules, from what each test says
obeys : (D : Decoded) → InRange D.program → (level : ℕ → ℕ) → Tree D.program level →
    ((i : ℕ) → i < length D.program.globals → not (has_name global_name (take i D.program.globals) (get_or D.program.globals i no_global).name) ≡ true) →
    ((i : ℕ) → i < length D.program.functions → not (has_name function_name (take i D.program.functions) (function_at D.program i).name) ≡ true) →
    ((i : ℕ) → i < length D.program.functions → parameters_free_of D i ≡ good tt) → main_fits D.program (main_in D.program D.program.functions) ≡ true →
    ((i : ℕ) → i < length D.program.functions → body_held D (function_at D.program i) ≡ good tt) → Obeys D.program
obeys D ranges level tree gs fs ps main bs =
    record {
      ranges = ranges;
      level = level;
      tree = tree;
      tables = tables_of D;
      first_scopes = first-scopes D level tree;
      later_scopes = later-scopes D level tree;
      typed = all_typed D level tree walked;
      names = all-names D level tree walked;
      returns = all-returns D level tree walked;
      globals = distinct_from global_name no_global D.program.globals (λ i l. not-true _ (gs i l));
      functions = distinct_from function_name no_function D.program.functions (λ i l. not-true _ (fs i l));
      bodies = each_from (FunctionObeys D.program (tables_of D)) D.program.functions no_function function;
      main = main-was D.program main;
    }
  where
    walked : Each (λ (F : Function). body_held D F ≡ good tt) D.program.functions
    walked = each_from (λ (F : Function). body_held D F ≡ good tt) D.program.functions no_function bs

    free : (i : ℕ) → i < length D.program.functions → Declarable D.program [] (parameters_of D.program (function_at D.program i))
    free i l =
        let P : Program = D.program in
        let xs : List Parameter = items_of P.parameters (function_at P i).parameters in
        let w = each_at (λ (F : Function). Within (length P.parameters) 8 F.parameters × Within (length P.results) 8 F.results) P.functions i no_function l ranges.functions in
        let m : (function_at P i).parameters.count ≤ 8 = w.0.short in
        let s : length xs ≤ 8 = omega (arith, run_length P.parameters (function_at P i).parameters) in
        let p : ℕ = get_or D.function_places i 0 in
        parameters-from P xs (length xs) 0 [] (omega arith) s refl (λ x. refl) (λ j _ k. held-true _ Taken p (tests_were (parameter_free P.globals xs p) (length xs) 0 _ (ps i l) j (omega arith) (omega arith)))

    function : (i : ℕ) → i < length D.program.functions → FunctionObeys D.program (tables_of D) (function_at D.program i)
    function i l =
        let b = each_at (BodyBegins D level tree) D.program.functions i no_function l (body-scopes D level tree) in
        record { parameters = free i l; scope = b.0; owed = b.1; ends = body-ends D level tree walked (function_at D.program i) (bs i l) }

-- each test that went well, in the order of the tests
pub obeying_accepted : ObeyingAccepted
obeying_accepted D ranges q =
    let P : Program = D.program in
    let x = then_splits (tree_of D) (λ _. then (names_held D) (λ _. bodies_held D)) q in
    let y = then_splits (names_held D) (λ _. bodies_held D) x.2 in
    let a = then_splits (globals_free D) (λ _. then (functions_free D) (λ _. then (parameters_free D) (λ _. main_held D))) y.1 in
    let b = then_splits (functions_free D) (λ _. then (parameters_free D) (λ _. main_held D)) a.2 in
    let c = then_splits (parameters_free D) (λ _. main_held D) b.2 in
    let t = tree-were D x.1 in
    obeys D ranges t.0 t.1
    (λ i l. held-true _ Taken _ (tests_were (global_free D) (length P.globals) 0 _ a.1 i (omega arith) (omega arith)))
    (λ i l. held-true _ Taken _ (tests_were (function_free D) (length P.functions) 0 _ b.1 i (omega arith) (omega arith)))
    (λ i l. tests_were (parameters_free_of D) (length P.functions) 0 _ c.1 i (omega arith) (omega arith))
    (held-true (main_fits P (main_in P P.functions)) Main D.functions_at c.2)
    (λ i l. tests_were (λ j. body_held D (function_at P j)) (length P.functions) 0 _ y.2 i (omega arith) (omega arith))
