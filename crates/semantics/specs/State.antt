-- Where a run stands: values, variables, cells, the tasks that are left, and the host.
use Rattle.std.specs.Prelude.{ℕ, suc, ◌-◌, Bool, cond, List, [], ◌∷◌, ◌++◌, length, take, drop, ℤ, pos, ◌==◌, slice_set}
use Rattle.std.proofs.Math.Option.{Option, none, some}
use Rattle.xi.specs.declared.program.GlobalVariable.{GlobalVariable}
use Rattle.xi.specs.declared.stop.Stop.{Stop}

-- an array is known by the number of its first cell
pub data Value : Type 0 where
  int : ℤ → Value
  bool : Bool → Value
  array : ℕ → Value

-- a cell or a variable is unset, or set to a value
abbrev pub Slot : Type 0
Slot = Option Value

pub record Variable : Type 0 where
  pub name : ℕ
  pub slot : Slot

abbrev pub variable : ℕ → Slot → Variable
variable x c = record { name = x; slot = c }

-- an array that was made: its first cell, and the type of its elements
pub record Made : Type 0 where
  pub first : ℕ
  pub element : ℕ

pub record Store : Type 0 where
  -- the cells in use: of an array of n the length, then n elements
  pub cells : List Slot
  -- the arrays made so far, newest first
  pub made : List Made
  -- the globals, in the order of the sheet
  pub globals : List Slot
  -- how many calls are open, `main` among them
  pub depth : ℕ

-- what is asked next: begin a node, do a begun node's own work, end a scope with so many variables left, go back to a caller
pub data Task : Type 0 where
  begin : ℕ → Task
  finish : ℕ → Task
  leave : ℕ → Task
  back : List Variable → List Value → Task

-- a run without its host: variables and operands newest first, tasks from the next on
pub record Core : Type 0 where
  pub variables : List Variable
  pub operands : List Value
  pub tasks : List Task
  pub store : Store

abbrev pub core : List Variable → List Value → List Task → Store → Core
core E O k s = record { variables = E; operands = O; tasks = k; store = s }

-- the characters handed to the script, those unread, those written, and how many more are taken
pub record Host : Type 0 where
  pub handed : List ℕ
  pub left : List ℕ
  pub written : List ℕ
  pub room : ℕ

pub record Limits : Type 0 where
  pub cells : ℕ
  pub depth : ℕ

-- what a step does to the host: nothing, or it writes a text, or hands over the next so many characters
pub data Effect : Type 0 where
  quiet : Effect
  wrote : List ℕ → Effect
  took : ℕ → Effect

pub data Move : Type 0 where
  go : Core → Effect → Move
  finished : Move
  stop : Stop → ℕ → Move
  stuck : Move

-- variables

abbrev pub find : List Variable → ℕ → Option Slot
find [] x = none
find (v ∷ E) x = cond (v.name == x) (some v.slot) (find E x)

abbrev pub put : List Variable → ℕ → Slot → List Variable
put [] x c = []
put (v ∷ E) x c = cond (v.name == x) (variable v.name c ∷ E) (v ∷ put E x c)

-- the last m of a list: the variables of before
abbrev pub keep : {A : Type 0} → ℕ → List A → List A
keep m l = drop (length l - m) l

abbrev pub find_global : List GlobalVariable → List Slot → ℕ → Option Slot
find_global [] cs x = none
find_global (g ∷ gs) [] x = none
find_global (g ∷ gs) (c ∷ cs) x = cond (g.name == x) (some c) (find_global gs cs x)

abbrev pub put_global : List GlobalVariable → List Slot → ℕ → Slot → List Slot
put_global [] cs x v = cs
put_global (g ∷ gs) [] x v = []
put_global (g ∷ gs) (c ∷ cs) x v = cond (g.name == x) (v ∷ cs) (c ∷ put_global gs cs x v)

-- cells

-- the element type of an array that was made
abbrev pub element_type : List Made → ℕ → Option ℕ
element_type [] p = none
element_type (m ∷ ms) p = cond (m.first == p) (some m.element) (element_type ms p)

-- a new array of the slots, in the next cells
abbrev pub grown : Store → ℕ → List Slot → Store
grown s t cs = record { cells = s.cells ++ (some (int (pos (length cs))) ∷ cs); made = record { first = length s.cells; element = t } ∷ s.made; globals = s.globals; depth = s.depth }

abbrev pub with_cell : Store → ℕ → Value → Store
with_cell s p v = record { cells = slice_set s.cells p (some v); made = s.made; globals = s.globals; depth = s.depth }

abbrev pub with_globals : Store → List Slot → Store
with_globals s g = record { cells = s.cells; made = s.made; globals = g; depth = s.depth }

abbrev pub with_depth : Store → ℕ → Store
with_depth s n = record { cells = s.cells; made = s.made; globals = s.globals; depth = n }

-- the m elements of the array at p
abbrev pub elements_at : Store → ℕ → ℕ → List Slot
elements_at s p m = take m (drop (suc p) s.cells)
