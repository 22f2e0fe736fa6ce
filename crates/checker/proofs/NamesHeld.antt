-- The names of globals, functions and parameters, and `main`.
use Rattle.std.proofs.Common.{◌≡◌, ℕ, zero, suc, ◌+◌, ◌<◌, ◌≤◌, Bool, true, false, cond, not, ◌&&◌, ◌||◌, eqb, List, [], ◌∷◌, ◌++◌, map, length, get_or, take, drop, sym, refl, ap, ◌∙◌, subst, ⊎_elim, le_of_suc-le-suc, not-suc-le-zero, arith}
use mathlib.Core.Option.{Option, none, some}
use Rattle.std.proofs.lemmas.List.{take_more, drop_more, drop_all, length-take}
use Rattle.std.proofs.lemmas.Bool.{and_parts, and_from, or_parts, or_from, not-true, not_from_false, cases_eq, eqb-true, cases_Bool, false≢true}
use Rattle.xi.specs.declared.program.GlobalVariable.{GlobalVariable}
use Rattle.xi.specs.declared.program.Parameter.{Parameter}
use Rattle.xi.specs.declared.program.Function.{Function}
use Rattle.xi.specs.declared.node.Run.{Run}
use Rattle.xi.specs.Program.{Program, items_of}
use Rattle.xi.specs.Tree.{times}
use Rattle.xi.specs.Typing.{Binding, binding, Scope, type_in, global_type, Declarable, parameters_of, results_of, types_of}
use Rattle.xi.specs.Obeys.{Distinct, main_in as main_among, MainObeys}
use Rattle.checker.specs.Walk.{is_some, is_empty}
use Rattle.checker.specs.Checked.{has_name, global_name, parameter_name, no_parameter, main_in, is_main, takes_rows, main_fits}

-- either order of two tests
or_swap : (a b : Bool) → (a || b) ≡ (b || a)
or_swap true true = refl
or_swap true false = refl
or_swap false true = refl
or_swap false false = refl

-- three tests
or_assoc : (a b c : Bool) → (a || (b || c)) ≡ ((a || b) || c)
or_assoc true b c = refl
or_assoc false b c = refl

module _ {A : Type 0} (name : A → ℕ) (d : A) where
  -- a number that is not among the names is no item's name
  none-at : (y : ℕ) (xs : List A) → times y (map name xs) ≡ 0 → (i : ℕ) → i < length xs → eqb y (name (get_or xs i d)) ≡ false
  none-at y [] e i l = absurd (not-suc-le-zero l)
  none-at y (x ∷ xs) e zero l =
      ⊎_elim (λ (h : eqb y (name x) ≡ true). let g : 1 + times y (map name xs) ≡ 0 = rw h at e in absurd (omega arith)) (λ (h : eqb y (name x) ≡ false). h) (cases_Bool (eqb y (name x)))
  none-at y (x ∷ xs) e (suc i) l = none-at y xs (omega arith) i (le_of_suc-le-suc l)

  -- a number that is no item's name is not among the names
  none_from : (y : ℕ) (xs : List A) → ((i : ℕ) → i < length xs → eqb y (name (get_or xs i d)) ≡ false) → times y (map name xs) ≡ 0
  none_from y [] h = refl
  none_from y (x ∷ xs) h = rw (h 0 (omega arith), none_from y xs (λ i l. h (suc i) (omega arith)))

  -- no name stands twice: none is the name of an earlier item
  pub distinct-at : (xs : List A) → Distinct (map name xs) → (i : ℕ) → i < length xs → has_name name (take i xs) (name (get_or xs i d)) ≡ false
  distinct-at [] h i l = absurd (not-suc-le-zero l)
  distinct-at (x ∷ xs) h zero l = refl
  distinct-at (x ∷ xs) h (suc i) l = or_from _ _ (none-at (name x) xs h.0 i (le_of_suc-le-suc l)) (distinct-at xs h.1 i (le_of_suc-le-suc l))

  -- and the other way
  pub distinct_from : (xs : List A) → ((i : ℕ) → i < length xs → has_name name (take i xs) (name (get_or xs i d)) ≡ false) → Distinct (map name xs)
  distinct_from [] h = tt
  distinct_from (x ∷ xs) h =
      (none_from (name x) xs (λ i l. (or_parts (eqb (name x) (name (get_or xs i d))) _ (h (suc i) (omega arith))).0), distinct_from xs (λ i l. (or_parts (eqb (name x) (name (get_or xs i d))) _ (h (suc i) (omega arith))).1))

  -- one item more at the end
  has_push : (xs : List A) (y : A) (x : ℕ) → has_name name (xs ++ y ∷ []) x ≡ (has_name name xs x || eqb (name y) x)
  has_push [] y x = or_swap (eqb (name y) x) false
  has_push (z ∷ xs) y x = rw (has_push xs y x) (or_assoc (eqb (name z) x) (has_name name xs x) (eqb (name y) x))

-- what is not there
some-none : {A : Type 0} (o : Option A) → is_some o ≡ false → o ≡ none
some-none none e = refl
some-none (some x) e = absurd (false≢true (sym e))

-- a first item that has the name, or a later one
some_first : (b : Bool) (t : ℕ) (o : Option ℕ) (c : Bool) → is_some o ≡ c → is_some (cond b (some t) o) ≡ (b || c)
some_first true t o c e = refl
some_first false t o c e = e

-- a name is among the globals where it has a type there
global_known : (gs : List GlobalVariable) (x : ℕ) → is_some (global_type gs x) ≡ has_name global_name gs x
global_known [] x = refl
global_known (g ∷ gs) x = some_first (eqb g.name x) g.ty.number (global_type gs x) _ (global_known gs x)

module _ (P : Program) (ps : List Parameter) where
  -- parameter i
  abbrev at : ℕ → Parameter
  at i = get_or ps i no_parameter

  -- parameter i has a free name
  abbrev pub free_name : ℕ → Bool
  free_name i = not (has_name global_name P.globals (at i).name) && not (has_name parameter_name (take i ps) (at i).name)

  -- a parameter as a name in scope
  abbrev bound : Parameter → Binding
  bound p = binding p.name p.ty

  -- the scope has the first j parameters
  abbrev Same : Scope → ℕ → Type 0
  Same Γ j = (x : ℕ) → is_some (type_in Γ x) ≡ has_name parameter_name (take j ps) x

  -- one parameter more
  same_more : (Γ : Scope) (j : ℕ) → j < length ps → Same Γ j → Same (bound (at j) ∷ Γ) (j + 1)
  same_more Γ j l s x =
      some_first (eqb (at j).name x) (at j).ty.number (type_in Γ x) _ (s x) ∙ or_swap (eqb (at j).name x) _
      ∙ sym (has_push parameter_name no_parameter (take j ps) (at j) x) ∙ ap (λ qs. has_name parameter_name qs x) (sym (take_more ps j no_parameter l))

  -- parameters with free names can be declared
  pub parameters-from : (m j : ℕ) (Γ : Scope) → m + j ≡ length ps → length ps ≤ 8 → length Γ ≡ j → Same Γ j → ((i : ℕ) → j ≤ i → i < length ps → free_name i ≡ true) → Declarable P Γ (map bound (drop j ps))
  parameters-from zero j Γ a b c s h = subst (λ (qs : List Parameter). Declarable P Γ (map bound qs)) (sym (drop_all j ps (omega arith))) tt
  parameters-from (suc m) j Γ a b c s h =
      let l : j < length ps = omega arith in
      let t = and_parts (not (has_name global_name P.globals (at j).name)) _ (h j (omega arith) l) in
      let g : global_type P.globals (at j).name ≡ none = some-none _ (global_known P.globals (at j).name ∙ not-true _ t.0) in
      let f : type_in Γ (at j).name ≡ none = some-none _ (s (at j).name ∙ not-true _ t.1) in
      subst (λ (qs : List Parameter). Declarable P Γ (map bound qs)) (sym (drop_more ps j no_parameter l))
      (f, g, omega arith, parameters-from m (j + 1) (bound (at j) ∷ Γ) (omega arith) b (omega arith) (same_more Γ j l s) (λ i k n. h i (omega arith) n))

  -- parameters that can be declared have free names
  pub parameters-at : (m j : ℕ) (Γ : Scope) → m + j ≡ length ps → Same Γ j → Declarable P Γ (map bound (drop j ps)) → (i : ℕ) → j ≤ i → i < length ps → free_name i ≡ true
  parameters-at zero j Γ a s h i k n = absurd (omega arith)
  parameters-at (suc m) j Γ a s h i k n =
      let l : j < length ps = omega arith in
      let t : Declarable P Γ (bound (at j) ∷ map bound (drop (j + 1) ps)) = subst (λ (qs : List Parameter). Declarable P Γ (map bound qs)) (drop_more ps j no_parameter l) h in
      let f : free_name j ≡ true = and_from _ _ (not_from_false _ (sym (global_known P.globals (at j).name) ∙ ap is_some t.1)) (not_from_false _ (sym (s (at j).name) ∙ ap is_some t.0)) in
      ⊎_elim (λ (e : i ≡ j). subst (λ (q : ℕ). free_name q ≡ true) (sym e) f) (λ (e : i ≡ j → ⊥). parameters-at m (j + 1) (bound (at j) ∷ Γ) (omega arith) (same_more Γ j l s) t.3 i (omega arith) n) (cases_eq i j)

-- a run has no more items than it says
pub run_length : {A : Type 0} (xs : List A) (r : Run) → length (items_of xs r) ≤ r.count
run_length xs r = omega (arith, length-take r.count (drop r.first xs))

-- `main`
module _ (P : Program) where
  -- both sides look `main` up alike
  main-same : (Fs : List Function) → main_in P Fs ≡ main_among P.names Fs
  main-same [] = refl
  main-same (F ∷ Fs) = ap (λ o. cond (is_main P F) (some F) o) (main-same Fs)

  -- a `main` that obeys passes
  pub main-ready : MainObeys P → main_fits P (main_in P P.functions) ≡ true
  main-ready M = rw (main-same P.functions, M.found, M.parameters, M.results)

  -- one parameter, of type 4
  rows_are : (bs : List Binding) → takes_rows (types_of bs) ≡ true → (x : ℕ) × (bs ≡ record { name = x; type = 4 } ∷ [])
  rows_are [] e = absurd (false≢true e)
  rows_are (b ∷ []) e = (b.name, ap (λ (t : ℕ). record { name = b.name; type = t } ∷ []) (eqb-true b.type 4 e))
  rows_are (b ∷ c ∷ bs) e = absurd (false≢true e)

  -- an empty list
  empty-is : {A : Type 0} (xs : List A) → is_empty xs ≡ true → xs ≡ []
  empty-is [] e = refl
  empty-is (x ∷ xs) e = absurd (false≢true e)

  -- a `main` that passes obeys
  main-found : (o : Option Function) → main_among P.names P.functions ≡ o → main_fits P o ≡ true → MainObeys P
  main-found none q e = absurd (false≢true e)
  main-found (some F) q e =
      let t = and_parts (takes_rows (types_of (parameters_of P F))) _ e in
      let r = rows_are (parameters_of P F) t.0 in
      record { function = F; found = q; argument = r.0; parameters = r.1; results = empty-is (results_of P F) t.1 }

  -- so it is where `main` is looked up
  pub main-was : main_fits P (main_in P P.functions) ≡ true → MainObeys P
  main-was e = main-found (main_in P P.functions) (sym (main-same P.functions)) e
