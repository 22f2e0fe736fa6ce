-- Whole runs: never stuck, always typed.
use Rattle.std.proofs.Common.{◌≡◌, ℕ, zero, suc, ◌<◌, ◌≤◌, true, false, cond, ◌⊎◌, List, [], ◌∷◌, get_or, ℤ, Some, None, codes, Option as RustOption, sym, refl, ◌∙◌, subst, inl, inr, not-suc-le-zero, arith}
use mathlib.Core.Option.{Option, none, some, none-ne-some, some-injective}
use lib.ListN.{get_elem?}
use Rattle.std.specs.Str.{bytes_eq}
use Rattle.xi.specs.declared.program.GlobalVariable.{GlobalVariable}
use Rattle.xi.specs.declared.program.Function.{Function}
use Rattle.xi.specs.Program.{Program}
use Rattle.xi.specs.Tree.{Each, BodyStands}
use Rattle.xi.specs.Typing.{Binding, Scope, pushed, Tables, parameters_of}
use Rattle.xi.specs.Obeys.{FirstFits, main_in, main_of, FunctionObeys, MainObeys, Obeys}
use Rattle.semantics.specs.State.{Value, int, bool, array, Slot, Variable, Store, Task, Core, Limits, quiet, wrote, took, Move, element_type}
use Rattle.semantics.specs.Runs.{given_first, given_firsts, Config, Outcome, done, stopped, broken, moved, advance, free, settle, paid, turn, run, after, start, Setup, limits, waits, unless_ended, first_store, arguments, opening}
use Rattle.semantics.specs.Laws.{SpentOf}
use Rattle.semantics.specs.Sound.{Use, header, element, ArrayAt, Has, has_int, has_bool, has_array, Holds, unset, holds, Cell, is_header, is_element, no_cells, more_cells, no_values, Variables, no_variables, more_variables, Globals, no_globals, more_globals}
use Rattle.semantics.specs.Sound.{Point, live, Todo, no_tasks, to_begin, to_finish, to_leave, to_back, pass_end, pass_begin, pass_finish, pass_leave, pass_back, Owned, Heap, Sound, Good, goes_on, is_done, halts}
use Rattle.semantics.specs.Soundness.{OfType, an_int, a_bool, an_array, SlotOf, VariablesOf, no_variables_of, more_variables_of, GlobalsOf, no_globals_of, more_globals_of, IsElement, IsLength, CellsOf, NextIn, CallersOf, WellTyped, StandsAs, FirstOf, FirstsOf, Characters, Fits, GivenFirstsFit, NeverStuck, AfterIsSound}
use Rattle.semantics.proofs.Fuel.{unless-all}
use Rattle.semantics.proofs.Spent.{spends_granted}
use Rattle.semantics.proofs.Lists.{at_is, at_less, each-drop}
use Rattle.semantics.proofs.Cells.{cell_at, header_at, cells_length}
use Rattle.semantics.proofs.Begun.{few_declared, main-on}
use Rattle.semantics.proofs.Kept.{step_keeps_sound}

abbrev Unbroken : Option Outcome → Type 0
Unbroken none = Unit {0}
Unbroken (some done) = Unit {0}
Unbroken (some (stopped s n)) = Unit {0}
Unbroken (some broken) = ⊥

-- a run that is sound, and has not ended badly
record Fine (P : Program) (T : Tables) (V : ℕ → ℕ) (L : Limits) (g : Config) : Type 0 where
  unbroken : Unbroken g.outcome
  sound : Sound P T V L g.core
  text : Characters g.host.left

module _ (P : Program) (ok : Obeys P) (L : Limits) (small : L.cells ≤ 1048576) where
  abbrev T : Tables
  T = ok.tables

  abbrev V : ℕ → ℕ
  V = ok.level

  moved-fine : {m : Move} (g : Config) → Good P T V L m → Fine P T V L g → Fine P T V L (moved m g)
  moved-fine g (goes_on {e = quiet} s) F = record { unbroken = tt; sound = s; text = F.text }
  moved-fine g (goes_on {e = wrote t} s) F = record { unbroken = tt; sound = s; text = F.text }
  moved-fine g (goes_on {e = took n} s) F = record { unbroken = tt; sound = s; text = each-drop (λ (c : ℕ). c < 1114112) n g.host.left F.text }
  moved-fine g is_done F = record { unbroken = tt; sound = F.sound; text = F.text }
  moved-fine g halts F = record { unbroken = tt; sound = F.sound; text = F.text }

  advance-fine : (g : Config) → Fine P T V L g → Fine P T V L (advance P L g)
  unfolding advance
  advance-fine g F = moved-fine g (step_keeps_sound P ok L g.host g.core small F.text F.sound) F

  ended-fine : (x : Option Outcome) (g : Config) (f : Config → Config) → Fine P T V L g → Fine P T V L (f g) → Fine P T V L (unless_ended x g f)
  ended-fine none g f a b = b
  ended-fine (some o) g f a b = a

  free-fine : (m : ℕ) (g : Config) → Fine P T V L g → Fine P T V L (free P L m g)
  unfolding free
  free-fine zero g F = F
  free-fine (suc m) g F = ended-fine g.outcome g _ F (unless-all (Fine P T V L) (waits g.core.tasks) g _ F (free-fine m (advance P L g) (advance-fine g F)))

  turn-fine : (g : Config) → Fine P T V L g → Fine P T V L (turn P L g)
  unfolding turn settle
  turn-fine g F =
      ended-fine g.outcome g _ F
      (let A = advance-fine g F in free-fine _ (paid P L (advance P L g)) (record { unbroken = A.unbroken; sound = A.sound; text = A.text }))

  run-fine : (n : ℕ) (g : Config) → Fine P T V L g → Fine P T V L (run P L n g)
  unfolding run
  run-fine zero g F = F
  run-fine (suc n) g F = run-fine n (turn P L g) (turn-fine g F)

-- the start

main_each : (Q : Function → Type 0) (names : List (List ℕ)) (Fs : List Function) (F : Function) → Each Q Fs → main_in names Fs ≡ some F → Q F
main_each Q names [] F a e = absurd (none-ne-some F e)
main_each Q names (G ∷ Fs) F a e =
    (elim (bytes_eq (get_or names G.name []) (codes "main")) as (λ b. cond b (some G) (main_in names Fs) ≡ some F → Q F)
    [ true ↦ λ e. subst Q (some-injective _ _ e) a.0 | false ↦ λ e. main_each Q names Fs F a.1 e ]) e

abbrev K₀ : List Use
K₀ = header 0 2 ∷ []

first_holds : (K : List Use) (g : GlobalVariable) (c : Slot) → FirstOf g c → Holds K g.ty.number c
first_holds K g none f = unset
first_holds K g (some (int z)) f = holds (subst (λ (t : ℕ). Has K t (int z)) (sym f.0) (has_int f.1))
first_holds K g (some (bool b)) f = holds (subst (λ (t : ℕ). Has K t (bool b)) (sym f) has_bool)
first_holds K g (some (array p)) f = absurd f

firsts_hold : (K : List Use) (gs : List GlobalVariable) (cs : List Slot) → FirstsOf gs cs → Globals K gs cs
firsts_hold K [] [] f = no_globals
firsts_hold K [] (c ∷ cs) f = absurd f
firsts_hold K (g ∷ gs) [] f = absurd f
firsts_hold K (g ∷ gs) (c ∷ cs) f = more_globals (first_holds K g c f.0) (firsts_hold K gs cs f.1)

first_made : (cs : List Slot) (p n t : ℕ) → get_elem? K₀ p ≡ some (header n t) → element_type (first_store cs).made p ≡ some t
first_made cs zero n t e = cc
first_made cs (suc p) n t e = absurd (none-ne-some _ e)

first_owned : (q t : ℕ) → get_elem? K₀ q ≡ some (element t) → Owned K₀ q t
first_owned zero t e = absurd (let z : ◌≡◌ {A = ℕ} 0 1 = cc in let f : ⊥ = omega arith in f)
first_owned (suc q) t e = absurd (none-ne-some _ e)

first_heap : (cs : List Slot) → Heap K₀ (first_store cs)
first_heap cs = record { cells = more_cells is_header no_cells; made = first_made cs; owned = first_owned }

start_sound : (S : Setup) (F : Fits S) → Sound S.program F.obeys.tables F.obeys.level (limits S) (start S).core
start_sound S F = at-main (main_of P) (sym M.found)
  where
    P : Program
    P = S.program

    M : MainObeys P
    M = F.obeys.main

    G : Function
    G = M.function

    B : FunctionObeys P F.obeys.tables G
    B = main_each (FunctionObeys P F.obeys.tables) P.names P.functions G F.obeys.bodies M.found

    D : BodyStands P F.obeys.level G
    D = main_each (BodyStands P F.obeys.level) P.names P.functions G F.obeys.tree.bodies M.found

    b₀ : Binding
    b₀ = record { name = M.argument; type = 4 }

    empty : ArrayAt K₀ 0 2
    empty = record { size = 0; head = refl; body = λ i h. absurd (not-suc-le-zero h) }

    variables : Variables K₀ (pushed (b₀ ∷ []) []) (arguments (b₀ ∷ []))
    variables = more_variables {b = b₀} (holds (has_array empty)) no_variables

    at-main : (x : Option Function) → some G ≡ x → Sound P F.obeys.tables F.obeys.level (limits S) (opening P S.first x)
    at-main x e = subst (λ (x : Option Function). Sound P F.obeys.tables F.obeys.level (limits S) (opening P S.first x)) e
        (record {
          uses = K₀;
          owed = [];
          level = 0;
          scope = pushed (parameters_of P G) [];
          types = [];
          variables = subst (λ (bs : List Binding). Variables K₀ (pushed bs []) (arguments bs)) (sym M.parameters) variables;
          operands = no_values;
          tasks = main-on P F.obeys.tables F.obeys.level F.obeys.names K₀ G.body B.scope (B.owed ∙ M.results) (few_declared P (parameters_of P G) [] B.parameters (omega arith)) (omega (arith, D.top)) D.block;
          heap = first_heap S.first;
          globals = firsts_hold K₀ P.globals S.first F.first;
          fits = F.some_cells;
          calls = refl;
          deep = F.some_depth;
        })

-- what soundness says in the words of types

module _ {K : List Use} {s : Store} (h : Heap K s) where
  has_of : {t : ℕ} {v : Value} → Has K t v → OfType s.made t v
  has_of (has_int f) = an_int f
  has_of has_bool = a_bool
  has_of (has_array {t} {p} a) = an_array (h.made p a.size t a.head)

  slot_of : {t : ℕ} (c : Slot) → Holds K t c → SlotOf s.made t c
  slot_of none unset = tt
  slot_of (some v) (holds w) = has_of w

  variables-of : {Γ : Scope} {E : List Variable} → Variables K Γ E → VariablesOf s.made Γ E
  variables-of no_variables = no_variables_of
  variables-of (more_variables {c = c} w r) = more_variables_of refl (slot_of c w) (variables-of r)

  globals_of : {gs : List GlobalVariable} {cs : List Slot} → Globals K gs cs → GlobalsOf s.made gs cs
  globals_of no_globals = no_globals_of
  globals_of (more_globals {c = c} w r) = more_globals_of (slot_of c w) (globals_of r)

  callers-of : {P : Program} {T : Tables} {V : ℕ → ℕ} {r : List ℕ} {l : ℕ} {a : Point} {k : List Task} → Todo P T V K r l a k → CallersOf P T s.made k
  callers-of (no_tasks f) = tt
  callers-of (to_begin b c d) = callers-of d
  callers-of (to_finish b c d) = callers-of d
  callers-of (to_leave f g d) = callers-of d
  callers-of (to_back n f g i c e o d) = (record { place = n; call = c; variables = variables-of e }, callers-of d)
  callers-of pass_end = tt
  callers-of (pass_begin d) = callers-of d
  callers-of (pass_finish g d) = callers-of d
  callers-of (pass_leave g d) = callers-of d
  callers-of (pass_back n f g c e o d) = (record { place = n; call = c; variables = variables-of e }, callers-of d)

  cell-of : (q : ℕ) (v : Value) (u : Use) → get_elem? K q ≡ some u → (c : Slot) → Cell K u c → c ≡ some v → IsLength s q v ⊎ IsElement s q v
  cell-of q v (header n t) e c is_header w = inl (record { type = t; size = n; made = h.made q n t e; is = sym (some-injective _ _ w) })
  cell-of q v (element t) e c (is_element d) w =
      let o = h.owned q t e in
      inr (record {
        first = o.first;
        type = t;
        size = o.size;
        index = o.index;
        made = h.made o.first o.size t o.head;
        length = header_at o.first h.cells o.head;
        inside = o.inside;
        place = o.place;
        typed = value_of c d w;
      })
    where
      value_of : (c : Slot) → Holds K t c → c ≡ some v → OfType s.made t v
      value_of none unset w = absurd (none-ne-some v w)
      value_of (some x) (holds y) w = subst (λ (z : Value). OfType s.made t z) (some-injective _ _ w) (has_of y)

  cells_of : CellsOf s
  cells_of q v e =
      let u = at_is K q (subst (λ (n : ℕ). q < n) (sym (cells_length h.cells)) (at_less s.cells q e)) in
      let c = cell_at q h.cells u.1 in
      cell-of q v u.0 u.1 c.0 c.2 (some-injective _ _ (sym c.1 ∙ e))

next_in : {P : Program} {T : Tables} {V : ℕ → ℕ} {K : List Use} {r : List ℕ} {l : ℕ} {Γ : Scope} {ts : List ℕ} {k : List Task} → Todo P T V K r l (live Γ ts) k → NextIn T Γ k
next_in (no_tasks f) = tt
next_in (to_begin b c d) = refl
next_in (to_finish b c d) = refl
next_in (to_leave f g d) = tt
next_in (to_back n f g i c e o d) = tt

well_typed : {P : Program} {T : Tables} {V : ℕ → ℕ} {L : Limits} {c : Core} → Sound P T V L c → WellTyped P T c
well_typed S = record { scope = S.scope; here = next_in S.tasks; variables = variables-of S.heap S.variables; callers = callers-of S.heap S.tasks; globals = globals_of S.heap S.globals; cells = cells_of S.heap }

stands_as : (n : ℕ) (g : Config) (x : Option Outcome) → g.outcome ≡ x → Unbroken x → SpentOf n g → StandsAs n x g.spent
stands_as n g none e u s = s.all e
stands_as n g (some done) e u s = tt
stands_as n g (some (stopped t m)) e u s = tt
stands_as n g (some broken) e u s = absurd u

after_fine : (S : Setup) (F : Fits S) (n : ℕ) → Fine S.program F.obeys.tables F.obeys.level (limits S) (after S n)
unfolding after settle
after_fine S F n = run-fine S.program F.obeys (limits S) F.few_cells n _ (free-fine S.program F.obeys (limits S) F.few_cells _ (start S) (record { unbroken = tt; sound = start_sound S F; text = F.left }))

pub after_sound : AfterIsSound
after_sound S F n = (after_fine S F n).sound

pub never_stuck : NeverStuck
never_stuck S F n =
    let A = after_fine S F n in
    record {
      stands = stands_as n (after S n) (after S n).outcome refl A.unbroken (spends_granted S n);
      typed = well_typed A.sound;
      cells = A.sound.fits;
      calls = A.sound.calls;
      deep = A.sound.deep;
    }

-- first values that the sheet gives

first_fits : (g : GlobalVariable) (t : ℕ) (f : RustOption ℤ) → g.ty.number ≡ t → FirstFits t f → FirstOf g (given_first t f)
first_fits g t None e h = tt
first_fits g zero (Some z) e h = (e, h)
first_fits g (suc zero) (Some z) e h = e
first_fits g (suc (suc t)) (Some z) e h = tt

firsts_fit : (gs : List GlobalVariable) → Each (λ (g : GlobalVariable). (g.ty.number ≤ 9) × FirstFits g.ty.number g.first) gs → FirstsOf gs (given_firsts gs)
firsts_fit [] h = tt
firsts_fit (g ∷ gs) h = (first_fits g g.ty.number g.first refl h.0.1, firsts_fit gs h.1)

pub given_firsts_fit : GivenFirstsFit
given_firsts_fit P ok = firsts_fit P.globals ok.ranges.globals
