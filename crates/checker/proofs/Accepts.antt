-- A sheet that obeys the rules passes every test.
use Rattle.std.proofs.Common.{◌≡◌, ℕ, ◌<◌, true, false, ◌||◌, List, [], ◌∷◌, length, get_or, sym, refl, ◌∙◌, subst, arith}
use Rattle.std.proofs.lemmas.Bool.{not_from_false}
use Rattle.xi.specs.declared.program.Parameter.{Parameter}
use Rattle.xi.specs.declared.program.Function.{Function}
use Rattle.xi.specs.declared.rule.Rule.TheVariants.{Taken, Return, Main}
use Rattle.xi.specs.Program.{Program, items_of}
use Rattle.xi.specs.Tree.{node_at, sort_of, return_sort, block_sort, statement_place, suits, BodyStands}
use Rattle.xi.specs.Typing.{Scope, pushed, parameters_of, results_of, EndsWith}
use Rattle.xi.specs.Obeys.{FunctionObeys, Obeys}
use Rattle.sheet.specs.Outcome.{good, then, held}
use Rattle.sheet.specs.Sheets.{Decoded}
use Rattle.checker.specs.Trees.{offset_of, no_function, function_at}
use Rattle.checker.specs.Walk.{is_empty, ends_of}
use Rattle.checker.specs.Checked.{global_name, function_name, no_global, global_free, globals_free, function_free, functions_free, parameter_free, parameters_free_of, parameters_free, main_held, body_held, bodies_held, names_held}
use Rattle.checker.specs.Exact.{AcceptsObeying}
use Rattle.sheet.proofs.Outcomes.{then_good}
use Rattle.checker.proofs.Chains.{held_good, tests_ready}
use Rattle.checker.proofs.Eaches.{each_at, each_both}
use Rattle.checker.proofs.Asked.{Ready}
use Rattle.checker.proofs.Passes.{obeys-below, node-passes}
use Rattle.checker.proofs.TreeHeld.{tree-ready}
use Rattle.checker.proofs.NamesHeld.{distinct-at, parameters-at, main-ready}
use Rattle.checker.proofs.EndsHeld.{ends-ready}

module _ (D : Decoded) (O : Obeys D.program) where
  abbrev P : Program
  P = D.program

  -- what each function has
  abbrev Has : Function → Type 0
  Has F = FunctionObeys P O.tables F × BodyStands P O.level F

  -- every function has both
  function-has : (i : ℕ) → i < length P.functions → Has (function_at P i)
  function-has i l =
      each_at Has P.functions i no_function l (each_both (FunctionObeys P O.tables) (BodyStands P O.level) Has (λ F a b. (a, b)) P.functions O.bodies O.tree.bodies)

  -- the names of the globals pass
  globals-ready : globals_free D ≡ good tt
  globals-ready = tests_ready (global_free D) (length P.globals) 0 (λ i _ l. held_good _ Taken _ (not_from_false _ (distinct-at global_name no_global P.globals O.globals i (omega arith))))

  -- the names of the functions pass
  functions-ready : functions_free D ≡ good tt
  functions-ready = tests_ready (function_free D) (length P.functions) 0 (λ i _ l. held_good _ Taken _ (not_from_false _ (distinct-at function_name no_function P.functions O.functions i (omega arith))))

  -- the parameters of function i pass
  parameters-of : (i : ℕ) → i < length P.functions → parameters_free_of D i ≡ good tt
  parameters-of i l =
      let ps : List Parameter = items_of P.parameters (function_at P i).parameters in
      let p : ℕ = get_or D.function_places i 0 in
      tests_ready (parameter_free P.globals ps p) (length ps) 0 (λ j _ k. held_good _ Taken p (parameters-at P ps (length ps) 0 [] (omega arith) (λ x. refl) (function-has i l).0.parameters j (omega arith) (omega arith)))

  -- the parameters of all functions pass
  parameters-ready : parameters_free D ≡ good tt
  parameters-ready = tests_ready (parameters_free_of D) (length P.functions) 0 (λ i _ l. parameters-of i (omega arith))

  -- all names pass, and `main` does
  names-ready : names_held D ≡ good tt
  names-ready =
      then_good (λ _. then (functions_free D) (λ _. then (parameters_free D) (λ _. main_held D))) globals-ready
      ∙ then_good (λ _. then (parameters_free D) (λ _. main_held D)) functions-ready
      ∙ then_good (λ _. main_held D) parameters-ready
      ∙ held_good _ Main D.functions_at (main-ready P O.main)

  -- a body that must end does
  ending : (ts : List ℕ) (n : ℕ) → EndsWith P ts (node_at P n) → (is_empty ts || ends_of P n) ≡ true
  ending [] n h = refl
  ending (t ∷ ts) n h = ends-ready P (obeys-below D O) n h

  -- the body of a function passes
  body-ready : (F : Function) → Has F → body_held D F ≡ good tt
  body-ready F h =
      let b : sort_of (node_at P F.body) ≡ block_sort = h.1.block in
      let s : suits statement_place (sort_of (node_at P F.body)) ≡ true = rw b refl in
      let no : sort_of (node_at P F.body) ≡ return_sort → false ≡ true = λ e. let g : block_sort ≡ return_sort = sym b ∙ e in let z : ◌≡◌ {A = ℕ} 0 1 = cc in absurd (omega arith) in
      let r = subst (λ (ω : List ℕ). Ready D O.tables (pushed (parameters_of P F) []) ω statement_place F.body) h.0.owed
      (subst (λ (Γ : Scope). Ready D O.tables Γ (O.tables.owed F.body) statement_place F.body) h.0.scope (node-passes D O F.body statement_place s)) in
      then_good (λ _. held (is_empty (results_of P F) || ends_of P F.body) Return (offset_of D F.body)) (r false no) ∙ held_good _ Return _ (ending (results_of P F) F.body h.0.ends)

  -- all bodies pass
  bodies-ready : bodies_held D ≡ good tt
  bodies-ready = tests_ready (λ i. body_held D (function_at P i)) (length P.functions) 0 (λ i _ l. body-ready (function_at P i) (function-has i (omega arith)))

-- the tests in their order: the tree, the names, the bodies
pub accepts_obeying : AcceptsObeying
accepts_obeying D _ O =
    then_good (λ _. then (names_held D) (λ _. bodies_held D)) (tree-ready D O.level O.tree) ∙ then_good (λ _. bodies_held D) (names-ready D O) ∙ bodies-ready D O
