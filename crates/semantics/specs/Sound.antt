-- The invariant of a run: what is set has the type that the tables give it, and what is left to do fits variables and operands.
use Rattle.std.specs.Prelude.{◌≡◌, ℕ, suc, ◌+◌, ◌<◌, ◌≤◌, Bool, true, false, List, [], ◌∷◌, length, ℤ, pos, FitsSigned}
use Rattle.std.proofs.Math.Option.{none, some}
use Rattle.std.proofs.Math.ListN.{get_elem?}
use Rattle.std.specs.Int.{w64}
use Rattle.xi.specs.declared.node.Node.{Node}
use Rattle.xi.specs.declared.node.Node.TheVariants.{IfElse, Return, Block}
use Rattle.xi.specs.declared.node.Run.{Run}
use Rattle.xi.specs.declared.program.GlobalVariable.{GlobalVariable}
use Rattle.xi.specs.declared.stop.Stop.{Stop}
use Rattle.xi.specs.Program.{Program}
use Rattle.xi.specs.Tree.{node_at, entries_of, Sort, value_sort, call_sort, statement_sort, return_sort, block_sort, target_sort, sort_of, Part, first_parts}
use Rattle.xi.specs.Typing.{Binding, Scope, pushed, Tables, gives_of, gives, declared_by, last, Ends}
use Rattle.semantics.specs.State.{Value, int, bool, array, Slot, Variable, variable, Store, Task, begin, finish, leave, back, Core, Limits, Effect, Move, go, finished, stop, element_type, keep}

-- what a cell is for: the length of an array of so many elements of a type, or an element of a type
pub data Use : Type 0 where
  header : ℕ → ℕ → Use
  element : ℕ → Use

-- an array of elements t has its cells from p on
pub record ArrayAt (K : List Use) (p t : ℕ) : Type 0 where
  pub size : ℕ
  pub head : get_elem? K p ≡ some (header size t)
  pub body : (i : ℕ) → i < size → get_elem? K (p + suc i) ≡ some (element t)

-- a value has a type
pub data Has (K : List Use) : ℕ → Value → Type 0 where
  has_int : {z : ℤ} → FitsSigned w64 z → Has K 0 (int z)
  has_bool : {b : Bool} → Has K 1 (bool b)
  has_array : {t p : ℕ} → ArrayAt K p t → Has K (suc (suc t)) (array p)

-- a slot is unset or holds a value of the type
pub data Holds (K : List Use) (t : ℕ) : Slot → Type 0 where
  unset : Holds K t none
  holds : {v : Value} → Has K t v → Holds K t (some v)

pub data Cell (K : List Use) : Use → Slot → Type 0 where
  is_header : {n t : ℕ} → Cell K (header n t) (some (int (pos n)))
  is_element : {t : ℕ} {c : Slot} → Holds K t c → Cell K (element t) c

pub data Cells (K : List Use) : List Use → List Slot → Type 0 where
  no_cells : Cells K [] []
  more_cells : {u : Use} {c : Slot} {us : List Use} {cs : List Slot} → Cell K u c → Cells K us cs → Cells K (u ∷ us) (c ∷ cs)

-- values of types, in one order
pub data Values (K : List Use) : List ℕ → List Value → Type 0 where
  no_values : Values K [] []
  more_values : {t : ℕ} {v : Value} {ts : List ℕ} {vs : List Value} → Has K t v → Values K ts vs → Values K (t ∷ ts) (v ∷ vs)

pub data Variables (K : List Use) : Scope → List Variable → Type 0 where
  no_variables : Variables K [] []
  more_variables : {b : Binding} {c : Slot} {Γ : Scope} {E : List Variable} → Holds K b.type c → Variables K Γ E → Variables K (b ∷ Γ) (variable b.name c ∷ E)

pub data Globals (K : List Use) : List GlobalVariable → List Slot → Type 0 where
  no_globals : Globals K [] []
  more_globals : {g : GlobalVariable} {c : Slot} {gs : List GlobalVariable} {cs : List Slot} → Holds K g.ty.number c → Globals K gs cs → Globals K (g ∷ gs) (c ∷ cs)

-- where control comes to: nowhere, or into a scope with operands of types, newest first
pub data Point : Type 0 where
  nowhere : Point
  live : Scope → List ℕ → Point

-- a node other than a target is begun
abbrev pub begun : Sort → Bool
begun value_sort = true
begun call_sort = true
begun statement_sort = true
begun return_sort = true
begun block_sort = true
begun target_sort = false

-- the types of the operands once the parts are worked out
abbrev pub worked : Program → Tables → List Part → List ℕ → List ℕ
worked P T [] ts = ts
worked P T (p ∷ ps) ts = worked P T ps (pushed (gives P T p.number) ts)

-- where control comes to behind node n: on, or nowhere if the node ends, which only a statement does, with no operand pending
pub data Comes (P : Program) (T : Tables) (n : ℕ) : Node → List ℕ → Point → Type 0 where
  comes_on : {d : Node} {ts : List ℕ} → Comes P T n d ts (live (pushed (declared_by P d) (T.scope n)) (pushed (gives_of P T n d) ts))
  comes_return : {r : Run} → Comes P T n (Return r) [] nowhere
  comes_block : {r : Run} {m : ℕ} → last (entries_of P r) ≡ some m → Ends P (node_at P m) → Comes P T n (Block r) [] nowhere
  comes_if : {g a b : ℕ} → Ends P (node_at P a) → Ends P (node_at P b) → Comes P T n (IfElse g a b) [] nowhere

-- node n may begin under open nodes of level l: it is no target, lies deeper, and has at most 64 names in scope
pub record MayBegin (P : Program) (T : Tables) (V : ℕ → ℕ) (n l : ℕ) : Type 0 where
  pub runs : begun (sort_of (node_at P n)) ≡ true
  pub deeper : l < V n
  pub few : length (T.scope n) ≤ 64

-- the tasks fit a function with these results, under open nodes of a level, from a point on
-- a call begins and ends with no operand of its own, so that the tasks settle how many there are
pub data Todo (P : Program) (T : Tables) (V : ℕ → ℕ) (K : List Use) : List ℕ → ℕ → Point → List Task → Type 0 where
  no_tasks : {Γ : Scope} → length Γ ≤ 64 → Todo P T V K [] 0 (live Γ []) []
  to_begin : {n l : ℕ} {ts : List ℕ} {a : Point} {k : List Task} →
      MayBegin P T V n l → Comes P T n (node_at P n) ts a → Todo P T V K (T.owed n) l a k → Todo P T V K (T.owed n) l (live (T.scope n) ts) (begin n ∷ k)
  to_finish : {n l : ℕ} {ts : List ℕ} {a : Point} {k : List Task} →
      MayBegin P T V n l → Comes P T n (node_at P n) ts a → Todo P T V K (T.owed n) l a k → Todo P T V K (T.owed n) (V n) (live (T.scope n) (worked P T (first_parts P (node_at P n)) ts)) (finish n ∷ k)
  to_leave : {r : List ℕ} {l l' : ℕ} {Γ : Scope} {ts : List ℕ} {m : ℕ} {k : List Task} → l ≤ l' → length Γ ≤ 64 → Todo P T V K r l (live (keep m Γ) ts) k → Todo P T V K r l' (live Γ ts) (leave m ∷ k)
  -- a body without results is done, and its caller goes on behind the call n, with the variables in scope there
  to_back : {q : List ℕ} {l : ℕ} {Γ : Scope} {us : List ℕ} {E : List Variable} {O : List Value} {k : List Task} (n : ℕ) →
      length Γ ≤ 64 → l < 32 → length (T.scope n) ≤ 64 → sort_of (node_at P n) ≡ call_sort → Variables K (T.scope n) E → Values K us O → Todo P T V K q l (live (T.scope n) us) k →
      Todo P T V K [] 0 (live Γ []) (back E O ∷ k)
  -- nowhere: the tasks are passed over on the way to the caller
  pass_end : {l : ℕ} → Todo P T V K [] l nowhere []
  pass_begin : {r : List ℕ} {l n : ℕ} {k : List Task} → Todo P T V K r l nowhere k → Todo P T V K r l nowhere (begin n ∷ k)
  pass_finish : {r : List ℕ} {l l' n : ℕ} {k : List Task} → l < l' → Todo P T V K r l nowhere k → Todo P T V K r l' nowhere (finish n ∷ k)
  pass_leave : {r : List ℕ} {l l' m : ℕ} {k : List Task} → l ≤ l' → Todo P T V K r l nowhere k → Todo P T V K r l' nowhere (leave m ∷ k)
  pass_back : {r q : List ℕ} {l l' : ℕ} {us : List ℕ} {E : List Variable} {O : List Value} {k : List Task} (n : ℕ) →
      l < 32 → length (T.scope n) ≤ 64 → sort_of (node_at P n) ≡ call_sort → Variables K (T.scope n) E → Values K us O → Todo P T V K q l (live (T.scope n) (pushed r us)) k →
      Todo P T V K r l' nowhere (back E O ∷ k)

-- an element's cell lies in its array
pub record Owned (K : List Use) (q t : ℕ) : Type 0 where
  pub first : ℕ
  pub size : ℕ
  pub index : ℕ
  pub head : get_elem? K first ≡ some (header size t)
  pub inside : index < size
  pub place : q ≡ first + suc index

-- each cell holds what it is for, and the table of arrays has every array
pub record Heap (K : List Use) (s : Store) : Type 0 where
  pub cells : Cells K K s.cells
  pub made : (p n t : ℕ) → get_elem? K p ≡ some (header n t) → element_type s.made p ≡ some t
  pub owned : (q t : ℕ) → get_elem? K q ≡ some (element t) → Owned K q t

-- how many calls are open beside the current one
abbrev pub callers : List Task → ℕ
callers [] = 0
callers (begin n ∷ k) = callers k
callers (finish n ∷ k) = callers k
callers (leave m ∷ k) = callers k
callers (back E O ∷ k) = suc (callers k)

pub record Sound (P : Program) (T : Tables) (V : ℕ → ℕ) (L : Limits) (c : Core) : Type 0 where
  pub uses : List Use
  pub owed : List ℕ
  pub level : ℕ
  pub scope : Scope
  pub types : List ℕ
  pub variables : Variables uses scope c.variables
  pub operands : Values uses types c.operands
  pub tasks : Todo P T V uses owed level (live scope types) c.tasks
  pub heap : Heap uses c.store
  pub globals : Globals uses P.globals c.store.globals
  pub fits : length c.store.cells ≤ L.cells
  pub calls : c.store.depth ≡ suc (callers c.tasks)
  pub deep : c.store.depth ≤ L.depth

-- a move that keeps a run sound; none is stuck
pub data Good (P : Program) (T : Tables) (V : ℕ → ℕ) (L : Limits) : Move → Type 0 where
  goes_on : {c : Core} {e : Effect} → Sound P T V L c → Good P T V L (go c e)
  is_done : Good P T V L finished
  halts : {s : Stop} {n : ℕ} → Good P T V L (stop s n)
