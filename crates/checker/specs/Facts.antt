-- What the steps of the check know of a sheet: what reading grants, and that the parts of a node have smaller numbers.
use Rattle.std.specs.Prelude.{◌≡◌, ℕ, ◌+◌, ◌*◌, ◌^◌, ◌<◌, ◌≤◌, List, length, slice_index}
use Rattle.xi.specs.declared.node.Node.{Node}
use Rattle.xi.specs.declared.node.Node.TheVariants.{Number, Truth, Text, Variable, Element, Length, Unary, Binary, Constructor, Call, LibraryCall}
use Rattle.xi.specs.declared.node.Node.TheVariants.{Declare, DeclareValue, DeclareCall, Assign, AssignElement, If, IfElse, While, Return, CallStatement, Target, Discard, Block}
use Rattle.xi.specs.declared.node.Run.{Run}
use Rattle.xi.specs.declared.program.Function.{Function}
use Rattle.xi.specs.Program.{Program}
use Rattle.sheet.specs.Sheets.{Decoded}
use Rattle.xi.specs.Tree.{node_at, entries_of}
use Rattle.checker.specs.Trees.{function_at}

-- a run lies within a list of that length
abbrev pub Inside : ℕ → Run → Type 0
Inside size r = r.first + r.count ≤ size

-- the run of a node lies within the entries, and the elements of an array have at most type 7
abbrev pub Sized : Program → Node → Type 0
Sized P (Number c) = Unit {0}
Sized P (Truth b) = Unit {0}
Sized P (Text r) = Unit {0}
Sized P (Variable x) = Unit {0}
Sized P (Element a i) = Unit {0}
Sized P (Length a) = Unit {0}
Sized P (Unary o a) = Unit {0}
Sized P (Binary o a b) = Unit {0}
Sized P (Constructor t r) = Inside (length P.entries) r × (t.number ≤ 7)
Sized P (Call x r) = Inside (length P.entries) r
Sized P (LibraryCall f r) = Inside (length P.entries) r
Sized P (Declare x t r) = Inside (length P.entries) r
Sized P (DeclareValue x t a) = Unit {0}
Sized P (DeclareCall a r) = Inside (length P.entries) r
Sized P (Assign x a) = Unit {0}
Sized P (AssignElement a i b) = Unit {0}
Sized P (If g a) = Unit {0}
Sized P (IfElse g a b) = Unit {0}
Sized P (While g a) = Unit {0}
Sized P (Return r) = Inside (length P.entries) r
Sized P (CallStatement a) = Unit {0}
Sized P (Target x t) = Unit {0}
Sized P Discard = Unit {0}
Sized P (Block r) = Inside (length P.entries) r

-- a function's name is there, its runs lie within their lists, and it has few parameters
pub record FunctionSized (P : Program) (F : Function) : Type 0 where
  pub named : F.name < length P.names
  pub parameters : Inside (length P.parameters) F.parameters
  pub few : F.parameters.count ≤ 8
  pub results : Inside (length P.results) F.results

-- what reading grants
pub record Granted (D : Decoded) : Type 0 where
  pub nodes : (n : ℕ) → Sized D.program (node_at D.program n)
  pub node_offsets : D.nodes_at + 8 * length D.program.nodes < 2 ^ 64
  pub global_offsets : D.globals_at + 12 * length D.program.globals < 2 ^ 64
  pub places : length D.function_places ≡ length D.program.functions
  pub functions : (i : ℕ) → i < length D.program.functions → FunctionSized D.program (function_at D.program i)

-- each number of a list is below n
abbrev pub EachBelow : ℕ → List ℕ → Type 0
EachBelow n ns = (j : ℕ) → j < length ns → slice_index ns j < n

-- the parts of node n have smaller numbers
abbrev pub PartsBelow : Program → ℕ → Node → Type 0
PartsBelow P n (Number c) = Unit {0}
PartsBelow P n (Truth b) = Unit {0}
PartsBelow P n (Text r) = Unit {0}
PartsBelow P n (Variable x) = Unit {0}
PartsBelow P n (Element a i) = (a < n) × (i < n)
PartsBelow P n (Length a) = a < n
PartsBelow P n (Unary o a) = a < n
PartsBelow P n (Binary o a b) = (a < n) × (b < n)
PartsBelow P n (Constructor t r) = EachBelow n (entries_of P r)
PartsBelow P n (Call x r) = EachBelow n (entries_of P r)
PartsBelow P n (LibraryCall f r) = EachBelow n (entries_of P r)
PartsBelow P n (Declare x t r) = EachBelow n (entries_of P r)
PartsBelow P n (DeclareValue x t a) = a < n
PartsBelow P n (DeclareCall a r) = (a < n) × EachBelow n (entries_of P r)
PartsBelow P n (Assign x a) = a < n
PartsBelow P n (AssignElement a i b) = (a < n) × (i < n) × (b < n)
PartsBelow P n (If g a) = (g < n) × (a < n)
PartsBelow P n (IfElse g a b) = (g < n) × (a < n) × (b < n)
PartsBelow P n (While g a) = (g < n) × (a < n)
PartsBelow P n (Return r) = EachBelow n (entries_of P r)
PartsBelow P n (CallStatement a) = a < n
PartsBelow P n (Target x t) = Unit {0}
PartsBelow P n Discard = Unit {0}
PartsBelow P n (Block r) = EachBelow n (entries_of P r)

abbrev pub Falling : Program → Type 0
Falling P = (n : ℕ) → n < length P.nodes → PartsBelow P n (node_at P n)

-- each body is a node
abbrev pub Bodied : Program → Type 0
Bodied P = (i : ℕ) → i < length P.functions → (function_at P i).body < length P.nodes
