-- No run of a sheet that obeys the rules is stuck, and all that is set has its type.
use Rattle.std.specs.Prelude.{◌≡◌, ℕ, suc, ◌+◌, ◌<◌, ◌≤◌, Bool, ◌⊎◌, List, [], ◌∷◌, length, ℤ, pos, FitsSigned}
use Rattle.std.proofs.Math.Option.{Option, none, some}
use Rattle.std.proofs.Math.ListN.{get_elem?}
use Rattle.std.specs.Int.{w64}
use Rattle.xi.specs.declared.program.GlobalVariable.{GlobalVariable}
use Rattle.xi.specs.Program.{Program}
use Rattle.xi.specs.Tree.{node_at, call_sort, sort_of, Each}
use Rattle.xi.specs.Typing.{Binding, Scope, Tables}
use Rattle.xi.specs.Obeys.{Obeys}
use Rattle.semantics.specs.State.{Value, int, bool, array, Slot, Variable, Made, Store, Task, begin, finish, leave, back, Core, Host, Limits, element_type}
use Rattle.semantics.specs.Rules.{step}
use Rattle.semantics.specs.Runs.{Config, Outcome, done, stopped, broken, Setup, limits, given_firsts, after}
use Rattle.semantics.specs.Sound.{callers, Sound, Good}

-- the values of a type: 0 every `int`, 1 the two truths, t + 2 the arrays made for t
pub data OfType (M : List Made) : ℕ → Value → Type 0 where
  an_int : {z : ℤ} → FitsSigned w64 z → OfType M 0 (int z)
  a_bool : {b : Bool} → OfType M 1 (bool b)
  an_array : {t p : ℕ} → element_type M p ≡ some t → OfType M (suc (suc t)) (array p)

-- what is set has the type
abbrev pub SlotOf : List Made → ℕ → Slot → Type 0
SlotOf M t none = Unit {0}
SlotOf M t (some v) = OfType M t v

-- variables have the names of a scope, in its order, and each that is set a value of its declared type
pub data VariablesOf (M : List Made) : Scope → List Variable → Type 0 where
  no_variables_of : VariablesOf M [] []
  more_variables_of : {b : Binding} {v : Variable} {Γ : Scope} {E : List Variable} → v.name ≡ b.name → SlotOf M b.type v.slot → VariablesOf M Γ E → VariablesOf M (b ∷ Γ) (v ∷ E)

-- globals likewise
pub data GlobalsOf (M : List Made) : List GlobalVariable → List Slot → Type 0 where
  no_globals_of : GlobalsOf M [] []
  more_globals_of : {g : GlobalVariable} {c : Slot} {gs : List GlobalVariable} {cs : List Slot} → SlotOf M g.ty.number c → GlobalsOf M gs cs → GlobalsOf M (g ∷ gs) (c ∷ cs)

-- a cell that is set is the length of an array, or an element of one and of its type
pub record IsElement (s : Store) (q : ℕ) (v : Value) : Type 0 where
  pub first : ℕ
  pub type : ℕ
  pub size : ℕ
  pub index : ℕ
  pub made : element_type s.made first ≡ some type
  pub length : get_elem? s.cells first ≡ some (some (int (pos size)))
  pub inside : index < size
  pub place : q ≡ first + suc index
  pub typed : OfType s.made type v

pub record IsLength (s : Store) (q : ℕ) (v : Value) : Type 0 where
  pub type : ℕ
  pub size : ℕ
  pub made : element_type s.made q ≡ some type
  pub is : v ≡ int (pos size)

abbrev pub CellsOf : Store → Type 0
CellsOf s = (q : ℕ) (v : Value) → get_elem? s.cells q ≡ some (some v) → IsLength s q v ⊎ IsElement s q v

-- the variables are those in scope at the node that is next to begin or to finish
abbrev pub NextIn : Tables → Scope → List Task → Type 0
NextIn T Γ [] = Unit {0}
NextIn T Γ (begin n ∷ k) = T.scope n ≡ Γ
NextIn T Γ (finish n ∷ k) = T.scope n ≡ Γ
NextIn T Γ (leave m ∷ k) = Unit {0}
NextIn T Γ (back E O ∷ k) = Unit {0}

-- the variables of every other open call are those in scope at its call
pub record CallerOf (P : Program) (T : Tables) (M : List Made) (E : List Variable) : Type 0 where
  pub place : ℕ
  pub call : sort_of (node_at P place) ≡ call_sort
  pub variables : VariablesOf M (T.scope place) E

abbrev pub CallersOf : Program → Tables → List Made → List Task → Type 0
CallersOf P T M [] = Unit {0}
CallersOf P T M (begin n ∷ k) = CallersOf P T M k
CallersOf P T M (finish n ∷ k) = CallersOf P T M k
CallersOf P T M (leave m ∷ k) = CallersOf P T M k
CallersOf P T M (back E O ∷ k) = CallerOf P T M E × CallersOf P T M k

pub record WellTyped (P : Program) (T : Tables) (c : Core) : Type 0 where
  pub scope : Scope
  pub here : NextIn T scope c.tasks
  pub variables : VariablesOf c.store.made scope c.variables
  pub callers : CallersOf P T c.store.made c.tasks
  pub globals : GlobalsOf c.store.made P.globals c.store.globals
  pub cells : CellsOf c.store

-- finished, stopped, or waiting with all fuel spent; never without a next step
abbrev pub StandsAs : ℕ → Option Outcome → ℕ → Type 0
StandsAs granted none spent = spent ≡ granted
StandsAs granted (some done) spent = Unit {0}
StandsAs granted (some (stopped s n)) spent = Unit {0}
StandsAs granted (some broken) spent = ⊥

-- first values: of the type `int` or `bool`, or none
abbrev pub FirstOf : GlobalVariable → Slot → Type 0
FirstOf g none = Unit {0}
FirstOf g (some (int z)) = (g.ty.number ≡ 0) × FitsSigned w64 z
FirstOf g (some (bool b)) = g.ty.number ≡ 1
FirstOf g (some (array p)) = ⊥

abbrev pub FirstsOf : List GlobalVariable → List Slot → Type 0
FirstsOf [] [] = Unit {0}
FirstsOf [] (c ∷ cs) = ⊥
FirstsOf (g ∷ gs) [] = ⊥
FirstsOf (g ∷ gs) (c ∷ cs) = FirstOf g c × FirstsOf gs cs

-- the first values that the sheet itself gives fit
abbrev pub GivenFirstsFit : Type 0
GivenFirstsFit = (P : Program) → Obeys P → FirstsOf P.globals (given_firsts P.globals)

abbrev pub Characters : List ℕ → Type 0
Characters t = Each (λ (c : ℕ). c < 1114112) t

-- a set-up fits: the sheet obeys the rules, there are 1 to 2^20 cells, one call may be open, first values fit their globals, and what is left are characters
pub record Fits (S : Setup) : Type 0 where
  pub obeys : Obeys S.program
  pub some_cells : 1 ≤ S.cells
  pub few_cells : S.cells ≤ 1048576
  pub some_depth : 1 ≤ S.depth
  pub first : FirstsOf S.program.globals S.first
  pub left : Characters S.left

pub record NotStuck (S : Setup) (T : Tables) (granted : ℕ) (g : Config) : Type 0 where
  pub stands : StandsAs granted g.outcome g.spent
  pub typed : WellTyped S.program T g.core
  pub cells : length g.core.store.cells ≤ S.cells
  -- the depth is how many calls are open, and no more are than allowed
  pub calls : g.core.store.depth ≡ suc (callers g.core.tasks)
  pub deep : g.core.store.depth ≤ S.depth

-- every run, over any host and any fuel
abbrev pub NeverStuck : Type 0
NeverStuck = (S : Setup) (F : Fits S) (n : ℕ) → NotStuck S F.obeys.tables n (after S n)

-- one step from a sound place leads to a sound place, and is not stuck
abbrev pub StepKeepsSound : Type 0
StepKeepsSound = (P : Program) (O : Obeys P) (L : Limits) (h : Host) (c : Core) → L.cells ≤ 1048576 → Characters h.left → Sound P O.tables O.level L c → Good P O.tables O.level L (step P L h c)

-- every run stands sound
abbrev pub AfterIsSound : Type 0
AfterIsSound = (S : Setup) (F : Fits S) (n : ℕ) → Sound S.program F.obeys.tables F.obeys.level (limits S) (after S n).core

-- how many begun nodes of the open call have their own work to come
abbrev pub works : List Task → ℕ
works [] = 0
works (begin n ∷ k) = works k
works (finish n ∷ k) = suc (works k)
works (leave m ∷ k) = works k
works (back E O ∷ k) = 0

-- what a call needs: at most 64 variables, 16 operands for each of 32 levels, and 32 nodes at work
pub record SmallCall (E : List Variable) (O : List Value) (k : List Task) : Type 0 where
  pub variables : length E ≤ 64
  pub operands : length O ≤ 512
  pub nodes : works k ≤ 32

abbrev pub SmallCallers : List Task → Type 0
SmallCallers [] = Unit {0}
SmallCallers (begin n ∷ k) = SmallCallers k
SmallCallers (finish n ∷ k) = SmallCallers k
SmallCallers (leave m ∷ k) = SmallCallers k
SmallCallers (back E O ∷ k) = SmallCall E O k × SmallCallers k

pub record Small (c : Core) : Type 0 where
  pub here : SmallCall c.variables c.operands c.tasks
  pub callers : SmallCallers c.tasks

-- wherever a run is sound, every open call is small
abbrev pub SoundIsSmall : Type 0
SoundIsSmall = (P : Program) (O : Obeys P) (L : Limits) (c : Core) → Sound P O.tables O.level L c → Small c
