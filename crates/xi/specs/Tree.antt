-- The nodes of a sheet form trees: which parts a node has, what each place asks, and how deep a node lies.
use Rattle.std.specs.Prelude.{◌≡◌, ℕ, ◌+◌, ◌<◌, ◌≤◌, Bool, true, false, cond, List, [], ◌∷◌, ◌++◌, map, length, ◌==◌, slice_index_or}
use Rattle.xi.specs.declared.node.Node.{Node}
use Rattle.xi.specs.declared.node.Node.TheVariants.{Number, Truth, Text, Variable, Element, Length, Unary, Binary, Constructor, Call, LibraryCall}
use Rattle.xi.specs.declared.node.Node.TheVariants.{Declare, DeclareValue, DeclareCall, Assign, AssignElement, If, IfElse, While, Return, CallStatement, Target, Discard, Block}
use Rattle.xi.specs.declared.node.Operator.{Operator}
use Rattle.xi.specs.declared.node.Operator.TheVariants.{Add, Subtract, Multiply, Divide, Remainder, Less, LessEqual, Greater, GreaterEqual, Equal, NotEqual, And, Or}
use Rattle.xi.specs.declared.node.Run.{Run}
use Rattle.xi.specs.declared.program.Function.{Function}
use Rattle.xi.specs.Program.{Program, items_of}

-- the node of a number; a number that has none reads as a discarding target, which no run begins
abbrev pub node_at : Program → ℕ → Node
node_at P n = slice_index_or P.nodes n Discard

-- the entries of a run, which are node numbers
abbrev pub entries_of : Program → Run → List ℕ
entries_of P r = items_of P.entries r

-- what a node is to the place that it stands at
pub data Sort : Type 0 where
  value_sort : Sort
  call_sort : Sort
  statement_sort : Sort
  return_sort : Sort
  block_sort : Sort
  target_sort : Sort

abbrev pub sort_of : Node → Sort
sort_of (Number c) = value_sort
sort_of (Truth b) = value_sort
sort_of (Text r) = value_sort
sort_of (Variable x) = value_sort
sort_of (Element a i) = value_sort
sort_of (Length a) = value_sort
sort_of (Unary o a) = value_sort
sort_of (Binary o a b) = value_sort
sort_of (Constructor t r) = value_sort
sort_of (Call x r) = call_sort
sort_of (LibraryCall f r) = call_sort
sort_of (Declare x t r) = statement_sort
sort_of (DeclareValue x t a) = statement_sort
sort_of (DeclareCall a r) = statement_sort
sort_of (Assign x a) = statement_sort
sort_of (AssignElement a i b) = statement_sort
sort_of (If g a) = statement_sort
sort_of (IfElse g a b) = statement_sort
sort_of (While g a) = statement_sort
sort_of (Return r) = return_sort
sort_of (CallStatement a) = statement_sort
sort_of (Target x t) = target_sort
sort_of Discard = target_sort
sort_of (Block r) = block_sort

-- what a place asks
pub data Place : Type 0 where
  expression_place : Place
  call_place : Place
  statement_place : Place
  target_place : Place

abbrev pub suits : Place → Sort → Bool
suits expression_place value_sort = true
suits expression_place call_sort = true
suits expression_place statement_sort = false
suits expression_place return_sort = false
suits expression_place block_sort = false
suits expression_place target_sort = false
suits call_place value_sort = false
suits call_place call_sort = true
suits call_place statement_sort = false
suits call_place return_sort = false
suits call_place block_sort = false
suits call_place target_sort = false
suits statement_place value_sort = false
suits statement_place call_sort = false
suits statement_place statement_sort = true
suits statement_place return_sort = true
suits statement_place block_sort = true
suits statement_place target_sort = false
suits target_place value_sort = false
suits target_place call_sort = false
suits target_place statement_sort = false
suits target_place return_sort = false
suits target_place block_sort = false
suits target_place target_sort = true

-- a part of a node, by its number
pub record Part : Type 0 where
  pub number : ℕ
  pub place : Place

abbrev pub at : Place → ℕ → Part
at p n = record { number = n; place = p }

abbrev pub all : Place → List ℕ → List Part
all p ns = map (at p) ns

-- `&` and `|` leave the right part unbegun when the left decides
abbrev pub decides_early : Operator → Bool
decides_early Add = false
decides_early Subtract = false
decides_early Multiply = false
decides_early Divide = false
decides_early Remainder = false
decides_early Less = false
decides_early LessEqual = false
decides_early Greater = false
decides_early GreaterEqual = false
decides_early Equal = false
decides_early NotEqual = false
decides_early And = true
decides_early Or = true

-- the parts that are worked out, left to right, before the node's own work
abbrev pub first_parts : Program → Node → List Part
first_parts P (Number c) = []
first_parts P (Truth b) = []
first_parts P (Text r) = []
first_parts P (Variable x) = []
first_parts P (Element a i) = at expression_place a ∷ at expression_place i ∷ []
first_parts P (Length a) = at expression_place a ∷ []
first_parts P (Unary o a) = at expression_place a ∷ []
first_parts P (Binary o a b) = at expression_place a ∷ cond (decides_early o) [] (at expression_place b ∷ [])
first_parts P (Constructor t r) = all expression_place (entries_of P r)
first_parts P (Call x r) = all expression_place (entries_of P r)
first_parts P (LibraryCall f r) = all expression_place (entries_of P r)
first_parts P (Declare x t r) = all expression_place (entries_of P r)
first_parts P (DeclareValue x t a) = at expression_place a ∷ []
first_parts P (DeclareCall a r) = at call_place a ∷ []
first_parts P (Assign x a) = at expression_place a ∷ []
first_parts P (AssignElement a i b) = at expression_place a ∷ at expression_place i ∷ at expression_place b ∷ []
first_parts P (If g a) = at expression_place g ∷ []
first_parts P (IfElse g a b) = at expression_place g ∷ []
first_parts P (While g a) = at expression_place g ∷ []
first_parts P (Return r) = all expression_place (entries_of P r)
first_parts P (CallStatement a) = at call_place a ∷ []
first_parts P (Target x t) = []
first_parts P Discard = []
first_parts P (Block r) = []

-- the parts that the node's own work begins; the targets, which no run begins, are among them
abbrev pub later_parts : Program → Node → List Part
later_parts P (Number c) = []
later_parts P (Truth b) = []
later_parts P (Text r) = []
later_parts P (Variable x) = []
later_parts P (Element a i) = []
later_parts P (Length a) = []
later_parts P (Unary o a) = []
later_parts P (Binary o a b) = cond (decides_early o) (at expression_place b ∷ []) []
later_parts P (Constructor t r) = []
later_parts P (Call x r) = []
later_parts P (LibraryCall f r) = []
later_parts P (Declare x t r) = []
later_parts P (DeclareValue x t a) = []
later_parts P (DeclareCall a r) = all target_place (entries_of P r)
later_parts P (Assign x a) = []
later_parts P (AssignElement a i b) = []
later_parts P (If g a) = at statement_place a ∷ []
later_parts P (IfElse g a b) = at statement_place a ∷ at statement_place b ∷ []
later_parts P (While g a) = at statement_place a ∷ []
later_parts P (Return r) = []
later_parts P (CallStatement a) = []
later_parts P (Target x t) = []
later_parts P Discard = []
later_parts P (Block r) = all statement_place (entries_of P r)

-- all parts of a node, left to right
abbrev pub parts_of : Program → Node → List Part
parts_of P d = first_parts P d ++ later_parts P d

-- what holds of each item
abbrev pub Each : {A : Type 0} → (A → Type 0) → List A → Type 0
Each Q [] = Unit {0}
Each Q (x ∷ xs) = Q x × Each Q xs

-- a part has a smaller number than its node, is what its place asks, and lies one level below
pub record PartStands (P : Program) (level : ℕ → ℕ) (n : ℕ) (p : Part) : Type 0 where
  pub smaller : p.number < n
  pub suited : suits p.place (sort_of (node_at P p.number)) ≡ true
  pub below : level p.number ≡ level n + 1

-- how often a number stands in a list
abbrev pub times : ℕ → List ℕ → ℕ
times n [] = 0
times n (m ∷ ms) = cond (n == m) 1 0 + times n ms

abbrev pub part_numbers : Program → List Node → List ℕ
part_numbers P [] = []
part_numbers P (d ∷ ds) = map (λ (p : Part). p.number) (parts_of P d) ++ part_numbers P ds

abbrev pub body_numbers : List Function → List ℕ
body_numbers [] = []
body_numbers (F ∷ Fs) = F.body ∷ body_numbers Fs

-- a body is a block at level 1
pub record BodyStands (P : Program) (level : ℕ → ℕ) (F : Function) : Type 0 where
  pub inside : F.body < length P.nodes
  pub block : sort_of (node_at P F.body) ≡ block_sort
  pub top : level F.body ≡ 1

pub record Tree (P : Program) (level : ℕ → ℕ) : Type 0 where
  pub parts : (n : ℕ) → Each (PartStands P level n) (parts_of P (node_at P n))
  pub bodies : Each (BodyStands P level) P.functions
  -- every node is, once in all, a part of a node or a body
  pub once : (n : ℕ) → n < length P.nodes → times n (part_numbers P P.nodes ++ body_numbers P.functions) ≡ 1
  -- level 32 is the deepest
  pub shallow : (n : ℕ) → n < length P.nodes → level n ≤ 32
