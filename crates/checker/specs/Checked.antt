-- Which sheets are accepted: reading, the tree, the names of globals, functions and parameters, `main`, and the bodies, in this order.
use Rattle.std.specs.Prelude.{◌≡◌, ℕ, ◌+◌, ◌*◌, ◌<◌, Bool, false, cond, not, ◌&&◌, ◌||◌, List, [], ◌∷◌, length, get_or, take, None, codes, ◌==◌, slice_index, slice_index_or}
use Rattle.std.proofs.Math.Option.{Option, none, some}
use Rattle.std.specs.Str.{bytes_eq}
use Rattle.xi.specs.declared.program.GlobalVariable.{GlobalVariable}
use Rattle.xi.specs.declared.program.Parameter.{Parameter}
use Rattle.xi.specs.declared.program.Function.{Function}
use Rattle.xi.specs.declared.rule.Rule.TheVariants.{Taken, Return, Main}
use Rattle.xi.specs.Program.{Program, items_of}
use Rattle.sheet.specs.Outcome.{Outcome, good, then, held, runs}
use Rattle.sheet.specs.Sheets.{Decoded, decoded_at}
use Rattle.xi.specs.Typing.{pushed, parameters_of, results_of, types_of}
use Rattle.checker.specs.Trees.{offset_of, function_at, tree_of}
use Rattle.checker.specs.Walk.{is_empty, after_of, ends_of}

-- one of the items has the name x
abbrev pub has_name : {A : Type 0} → (A → ℕ) → List A → ℕ → Bool
has_name name [] x = false
has_name name (a ∷ rest) x = name a == x || has_name name rest x

abbrev pub no_global : GlobalVariable
no_global = record { name = 0; ty = record { number = 0 }; first = None }

abbrev pub no_parameter : Parameter
no_parameter = record { name = 0; ty = record { number = 0 } }

abbrev pub global_name : GlobalVariable → ℕ
global_name g = g.name

abbrev pub function_name : Function → ℕ
function_name F = F.name

abbrev pub parameter_name : Parameter → ℕ
parameter_name p = p.name

-- no global has the name of an earlier one
abbrev pub global_free : Decoded → ℕ → Outcome (Unit {0})
global_free D i = held (not (has_name global_name (take i D.program.globals) (get_or D.program.globals i no_global).name)) Taken (D.globals_at + 12 * i)

abbrev pub globals_free : Decoded → Outcome (Unit {0})
globals_free D = runs (λ i _. global_free D i) (length D.program.globals) 0 tt

-- no function has the name of an earlier one
abbrev pub function_free : Decoded → ℕ → Outcome (Unit {0})
function_free D i = held (not (has_name function_name (take i D.program.functions) (function_at D.program i).name)) Taken (slice_index D.function_places i)

abbrev pub functions_free : Decoded → Outcome (Unit {0})
functions_free D = runs (λ i _. function_free D i) (length D.program.functions) 0 tt

-- no parameter of a function at p has the name of a global or of an earlier parameter of the function
abbrev pub parameter_free : List GlobalVariable → List Parameter → ℕ → ℕ → Outcome (Unit {0})
parameter_free gs ps p j = held (not (has_name global_name gs (get_or ps j no_parameter).name) && not (has_name parameter_name (take j ps) (get_or ps j no_parameter).name)) Taken p

abbrev pub parameters_free_in : List GlobalVariable → List Parameter → ℕ → Outcome (Unit {0})
parameters_free_in gs ps p = runs (λ j _. parameter_free gs ps p j) (length ps) 0 tt

abbrev pub parameters_free_of : Decoded → ℕ → Outcome (Unit {0})
parameters_free_of D i = parameters_free_in D.program.globals (items_of D.program.parameters (function_at D.program i).parameters) (slice_index D.function_places i)

abbrev pub parameters_free : Decoded → Outcome (Unit {0})
parameters_free D = runs (λ i _. parameters_free_of D i) (length D.program.functions) 0 tt

-- the function is named `main`
abbrev pub is_main : Program → Function → Bool
is_main P F = bytes_eq (slice_index_or P.names F.name []) (codes "main")

abbrev pub main_in : Program → List Function → Option Function
main_in P [] = none
main_in P (F ∷ Fs) = cond (is_main P F) (some F) (main_in P Fs)

-- `main` is function i
abbrev pub IsMain : Decoded → ℕ → Type 0
IsMain D i = (i < length D.program.functions) × (main_in D.program D.program.functions ≡ some (function_at D.program i))

-- `main` has one parameter, of type 4, and no results
abbrev pub takes_rows : List ℕ → Bool
takes_rows [] = false
takes_rows (t ∷ []) = t == 4
takes_rows (t ∷ u ∷ us) = false

abbrev pub main_fits : Program → Option Function → Bool
main_fits P none = false
main_fits P (some F) = takes_rows (types_of (parameters_of P F)) && is_empty (results_of P F)

abbrev pub main_held : Decoded → Outcome (Unit {0})
main_held D = held (main_fits D.program (main_in D.program D.program.functions)) Main D.functions_at

-- the body of the function F, and then that it ends where F has results
abbrev pub body_held : Decoded → Function → Outcome (Unit {0})
body_held D F =
    then (after_of D (results_of D.program F) false (pushed (parameters_of D.program F) []) F.body) (λ _.
    held (is_empty (results_of D.program F) || ends_of D.program F.body) Return (offset_of D F.body))

abbrev pub bodies_held : Decoded → Outcome (Unit {0})
bodies_held D = runs (λ i _. body_held D (function_at D.program i)) (length D.program.functions) 0 tt

abbrev pub names_held : Decoded → Outcome (Unit {0})
names_held D =
    then (globals_free D) (λ _.
    then (functions_free D) (λ _.
    then (parameters_free D) (λ _.
    main_held D)))

abbrev pub rules_held : Decoded → Outcome (Unit {0})
rules_held D = then (tree_of D) (λ _. then (names_held D) (λ _. bodies_held D))

abbrev pub checked_at : List ℕ → Outcome Decoded
checked_at bs = then (decoded_at bs) (λ D. then (rules_held D) (λ _. good D))
