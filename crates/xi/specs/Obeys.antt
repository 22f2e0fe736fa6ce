-- A sheet that obeys the rules: what reading grants, and then tree, names and types.
use Rattle.std.specs.Prelude.{◌≡◌, ℕ, zero, suc, ◌+◌, ◌<◌, ◌≤◌, cond, List, [], ◌∷◌, map, length, ℤ, pos, Some, None, codes, Option as RustOption, FitsSigned, slice_index_or}
use Rattle.std.proofs.Math.Option.{Option, none, some}
use Rattle.std.specs.Int.{w64}
use Rattle.std.specs.Str.{bytes_eq}
use Rattle.xi.specs.declared.node.Node.{Node}
use Rattle.xi.specs.declared.node.Node.TheVariants.{Number, Truth, Text, Variable, Element, Length, Unary, Binary, Constructor, Call, LibraryCall}
use Rattle.xi.specs.declared.node.Node.TheVariants.{Declare, DeclareValue, DeclareCall, Assign, AssignElement, If, IfElse, While, Return, CallStatement, Target, Discard, Block}
use Rattle.xi.specs.declared.node.Run.{Run}
use Rattle.xi.specs.declared.node.Ty.{Ty}
use Rattle.xi.specs.declared.program.GlobalVariable.{GlobalVariable}
use Rattle.xi.specs.declared.program.Parameter.{Parameter}
use Rattle.xi.specs.declared.program.Function.{Function}
use Rattle.xi.specs.Program.{Program, items_of}
use Rattle.xi.specs.Tree.{node_at, sort_of, first_parts, later_parts, parts_of, Each, times, Tree}
use Rattle.xi.specs.Typing.{pushed, Tables, Inherit, ScopesBy, Typed, Declarable, declared_by, ReturnsBy, EndsWith, parameters_of, results_of}

-- a run lies within a list of that length, and has at most so many items
pub record Within (size most : ℕ) (r : Run) : Type 0 where
  pub inside : r.first + r.count ≤ size
  pub short : r.count ≤ most

-- a character is a number from 0 to 1114111
pub record Character (z : ℤ) : Type 0 where
  pub code : ℕ
  pub is : z ≡ pos code
  pub small : code < 1114112

-- how many dimensions a type has
abbrev pub depth_of : ℕ → ℕ
depth_of zero = 0
depth_of (suc zero) = 0
depth_of (suc (suc t)) = suc (depth_of t)

abbrev pub Ranged : Program → Node → Type 0
Ranged P (Number c) = c < length P.constants
Ranged P (Truth b) = Unit {0}
Ranged P (Text r) = Within (length P.constants) 255 r × Each Character (items_of P.constants r)
Ranged P (Variable x) = Unit {0}
Ranged P (Element a i) = Unit {0}
Ranged P (Length a) = Unit {0}
Ranged P (Unary o a) = Unit {0}
Ranged P (Binary o a b) = Unit {0}
Ranged P (Constructor t r) = Within (length P.entries) 16 r × (t.number ≤ 7)
Ranged P (Call x r) = Within (length P.entries) 8 r
Ranged P (LibraryCall f r) = Within (length P.entries) 8 r
Ranged P (Declare x t r) = Within (length P.entries) (depth_of t.number) r × (t.number ≤ 9)
Ranged P (DeclareValue x t a) = t.number ≤ 9
Ranged P (DeclareCall a r) = Within (length P.entries) 8 r × (1 ≤ r.count)
Ranged P (Assign x a) = Unit {0}
Ranged P (AssignElement a i b) = Unit {0}
Ranged P (If g a) = Unit {0}
Ranged P (IfElse g a b) = Unit {0}
Ranged P (While g a) = Unit {0}
Ranged P (Return r) = Within (length P.entries) 8 r
Ranged P (CallStatement a) = Unit {0}
Ranged P (Target x t) = t.number ≤ 9
Ranged P Discard = Unit {0}
Ranged P (Block r) = Within (length P.entries) 255 r

-- a first value is for `int` or `bool` alone, and of a `bool` 0 or 1
abbrev pub FirstFits : ℕ → RustOption ℤ → Type 0
FirstFits t None = Unit {0}
FirstFits zero (Some z) = FitsSigned w64 z
FirstFits (suc zero) (Some z) = (n : ℕ) × (z ≡ pos n) × (n ≤ 1)
FirstFits (suc (suc t)) (Some z) = ⊥

-- what reading a sheet grants
pub record InRange (P : Program) : Type 0 where
  pub constants : Each (FitsSigned w64) P.constants
  pub nodes : (n : ℕ) → Ranged P (node_at P n)
  pub globals : Each (λ (g : GlobalVariable). (g.ty.number ≤ 9) × FirstFits g.ty.number g.first) P.globals
  pub parameters : Each (λ (p : Parameter). p.ty.number ≤ 9) P.parameters
  pub results : Each (λ (t : Ty). t.number ≤ 9) P.results
  pub functions : Each (λ (F : Function). Within (length P.parameters) 8 F.parameters × Within (length P.results) 8 F.results) P.functions

-- no number stands twice
abbrev pub Distinct : List ℕ → Type 0
Distinct [] = Unit {0}
Distinct (x ∷ xs) = (times x xs ≡ 0) × Distinct xs

-- the function whose name is `main`
abbrev pub main_in : List (List ℕ) → List Function → Option Function
main_in names [] = none
main_in names (F ∷ Fs) = cond (bytes_eq (slice_index_or names F.name []) (codes "main")) (some F) (main_in names Fs)

abbrev pub main_of : Program → Option Function
main_of P = main_in P.names P.functions

-- a function: its parameters are free names, its body begins in their scope, owes its results, and ends if there are any
pub record FunctionObeys (P : Program) (T : Tables) (F : Function) : Type 0 where
  pub parameters : Declarable P [] (parameters_of P F)
  pub scope : T.scope F.body ≡ pushed (parameters_of P F) []
  pub owed : T.owed F.body ≡ results_of P F
  pub ends : EndsWith P (results_of P F) (node_at P F.body)

-- `main` has one parameter, of type 4, and no results
pub record MainObeys (P : Program) : Type 0 where
  pub function : Function
  pub found : main_of P ≡ some function
  pub argument : ℕ
  pub parameters : parameters_of P function ≡ record { name = argument; type = 4 } ∷ []
  pub results : results_of P function ≡ []

pub record Obeys (P : Program) : Type 0 where
  pub ranges : InRange P
  pub level : ℕ → ℕ
  pub tree : Tree P level
  pub tables : Tables
  pub first_scopes : (n : ℕ) → Inherit tables n (first_parts P (node_at P n))
  pub later_scopes : (n : ℕ) → ScopesBy P tables n (sort_of (node_at P n)) (later_parts P (node_at P n))
  pub typed : (n : ℕ) → Typed P tables n (node_at P n)
  pub names : (n : ℕ) → Declarable P (tables.scope n) (declared_by P (node_at P n))
  pub returns : (n : ℕ) → ReturnsBy P (sort_of (node_at P n)) (parts_of P (node_at P n))
  pub globals : Distinct (map (λ (g : GlobalVariable). g.name) P.globals)
  pub functions : Distinct (map (λ (F : Function). F.name) P.functions)
  pub bodies : Each (FunctionObeys P tables) P.functions
  pub main : MainObeys P
