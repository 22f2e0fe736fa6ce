-- Names and types, by tables: for each node the names in scope where it begins, the type of its value, and the results that its function owes.
-- One local rule for each kind of node says what its parts' tables must be.
use Rattle.std.specs.Prelude.{◌≡◌, ℕ, zero, suc, ◌<◌, cond, List, [], ◌∷◌, ◌++◌, map, length, replicate, ◌==◌}
use Rattle.std.proofs.Math.Option.{Option, none, some}
use Rattle.xi.specs.declared.node.Node.{Node}
use Rattle.xi.specs.declared.node.Node.TheVariants.{Number, Truth, Text, Variable, Element, Length, Unary, Binary, Constructor, Call, LibraryCall}
use Rattle.xi.specs.declared.node.Node.TheVariants.{Declare, DeclareValue, DeclareCall, Assign, AssignElement, If, IfElse, While, Return, CallStatement, Target, Discard, Block}
use Rattle.xi.specs.declared.node.UnaryOperator.{UnaryOperator}
use Rattle.xi.specs.declared.node.UnaryOperator.TheVariants.{Minus, Not}
use Rattle.xi.specs.declared.node.Operator.{Operator}
use Rattle.xi.specs.declared.node.Operator.TheVariants.{Add, Subtract, Multiply, Divide, Remainder, Less, LessEqual, Greater, GreaterEqual, Equal, NotEqual, And, Or}
use Rattle.xi.specs.declared.node.LibraryFunction.{LibraryFunction}
use Rattle.xi.specs.declared.node.LibraryFunction.TheVariants.{Print, Println, Readln, Getchar, Eof, ParseInt, UnparseInt, Ratio}
use Rattle.xi.specs.declared.node.Run.{Run}
use Rattle.xi.specs.declared.node.Ty.{Ty}
use Rattle.xi.specs.declared.program.GlobalVariable.{GlobalVariable}
use Rattle.xi.specs.declared.program.Parameter.{Parameter}
use Rattle.xi.specs.declared.program.Function.{Function}
use Rattle.xi.specs.Program.{Program, items_of}
use Rattle.xi.specs.Tree.{node_at, entries_of, Sort, value_sort, call_sort, statement_sort, return_sort, block_sort, target_sort, sort_of, Part, Each}

-- a name with the type that it was declared with: 0 `int`, 1 `bool`, t + 2 an array of t
pub record Binding : Type 0 where
  pub name : ℕ
  pub type : ℕ

abbrev pub binding : ℕ → Ty → Binding
binding x t = record { name = x; type = t.number }

-- parameters and locals in scope, newest first
abbrev pub Scope : Type 0
Scope = List Binding

-- things in order, each put before what was there
abbrev pub pushed : {A : Type 0} → List A → List A → List A
pushed [] r = r
pushed (x ∷ xs) r = pushed xs (x ∷ r)

abbrev pub type_in : Scope → ℕ → Option ℕ
type_in [] x = none
type_in (b ∷ Γ) x = cond (b.name == x) (some b.type) (type_in Γ x)

abbrev pub global_type : List GlobalVariable → ℕ → Option ℕ
global_type [] x = none
global_type (g ∷ gs) x = cond (g.name == x) (some g.ty.number) (global_type gs x)

abbrev pub or_else : {A : Type 0} → Option A → Option A → Option A
or_else none b = b
or_else (some a) b = some a

-- the type of the variable x: a local or parameter in scope, else a global
abbrev pub variable_type : Program → Scope → ℕ → Option ℕ
variable_type P Γ x = or_else (type_in Γ x) (global_type P.globals x)

-- functions have a name space of their own
abbrev pub function_named : List Function → ℕ → Option Function
function_named [] x = none
function_named (F ∷ Fs) x = cond (F.name == x) (some F) (function_named Fs x)

abbrev pub numbers_of : List Ty → List ℕ
numbers_of ts = map (λ (t : Ty). t.number) ts

-- the parameters of a function as names in scope, and its results' types, both in order
abbrev pub parameters_of : Program → Function → List Binding
parameters_of P F = map (λ (p : Parameter). binding p.name p.ty) (items_of P.parameters F.parameters)

abbrev pub results_of : Program → Function → List ℕ
results_of P F = numbers_of (items_of P.results F.results)

abbrev pub types_of : List Binding → List ℕ
types_of bs = map (λ (b : Binding). b.type) bs

-- the library
abbrev pub library_takes : LibraryFunction → List ℕ
library_takes Print = 2 ∷ []
library_takes Println = 2 ∷ []
library_takes Readln = []
library_takes Getchar = []
library_takes Eof = []
library_takes ParseInt = 2 ∷ []
library_takes UnparseInt = 0 ∷ []
library_takes Ratio = 0 ∷ 0 ∷ []

abbrev pub library_gives : LibraryFunction → List ℕ
library_gives Print = []
library_gives Println = []
library_gives Readln = 2 ∷ []
library_gives Getchar = 0 ∷ []
library_gives Eof = 1 ∷ []
library_gives ParseInt = 0 ∷ 1 ∷ []
library_gives UnparseInt = 2 ∷ []
library_gives Ratio = 0 ∷ []

pub record Tables : Type 0 where
  -- the names in scope where the node begins
  pub scope : ℕ → Scope
  -- the type of an expression; of a call, its function's results stand for it
  pub type : ℕ → ℕ
  -- the results of the function that the node belongs to
  pub owed : ℕ → List ℕ

abbrev pub named_results : Program → Option Function → List ℕ
named_results P none = []
named_results P (some F) = results_of P F

abbrev pub call_gives : Program → Node → List ℕ
call_gives P (Number c) = []
call_gives P (Truth b) = []
call_gives P (Text r) = []
call_gives P (Variable x) = []
call_gives P (Element a i) = []
call_gives P (Length a) = []
call_gives P (Unary o a) = []
call_gives P (Binary o a b) = []
call_gives P (Constructor t r) = []
call_gives P (Call x r) = named_results P (function_named P.functions x)
call_gives P (LibraryCall f r) = library_gives f
call_gives P (Declare x t r) = []
call_gives P (DeclareValue x t a) = []
call_gives P (DeclareCall a r) = []
call_gives P (Assign x a) = []
call_gives P (AssignElement a i b) = []
call_gives P (If g a) = []
call_gives P (IfElse g a b) = []
call_gives P (While g a) = []
call_gives P (Return r) = []
call_gives P (CallStatement a) = []
call_gives P (Target x t) = []
call_gives P Discard = []
call_gives P (Block r) = []

abbrev pub gives_as : Sort → ℕ → List ℕ → List ℕ
gives_as value_sort t rs = t ∷ []
gives_as call_sort t rs = rs
gives_as statement_sort t rs = []
gives_as return_sort t rs = []
gives_as block_sort t rs = []
gives_as target_sort t rs = []

-- the types of the values that a node gives, in order: an expression one, a call its results, a statement none
abbrev pub gives_of : Program → Tables → ℕ → Node → List ℕ
gives_of P T n d = gives_as (sort_of d) (T.type n) (call_gives P d)

abbrev pub gives : Program → Tables → ℕ → List ℕ
gives P T n = gives_of P T n (node_at P n)

-- each node gives one value, of the types in order
abbrev pub GiveEach : Program → Tables → List ℕ → List ℕ → Type 0
GiveEach P T [] [] = Unit {0}
GiveEach P T [] (t ∷ ts) = ⊥
GiveEach P T (e ∷ es) [] = ⊥
GiveEach P T (e ∷ es) (t ∷ ts) = (gives P T e ≡ t ∷ []) × GiveEach P T es ts

-- the name that a target declares; a discarding target has none
abbrev pub target_bindings : Node → List Binding
target_bindings (Number c) = []
target_bindings (Truth b) = []
target_bindings (Text r) = []
target_bindings (Variable x) = []
target_bindings (Element a i) = []
target_bindings (Length a) = []
target_bindings (Unary o a) = []
target_bindings (Binary o a b) = []
target_bindings (Constructor t r) = []
target_bindings (Call x r) = []
target_bindings (LibraryCall f r) = []
target_bindings (Declare x t r) = []
target_bindings (DeclareValue x t a) = []
target_bindings (DeclareCall a r) = []
target_bindings (Assign x a) = []
target_bindings (AssignElement a i b) = []
target_bindings (If g a) = []
target_bindings (IfElse g a b) = []
target_bindings (While g a) = []
target_bindings (Return r) = []
target_bindings (CallStatement a) = []
target_bindings (Target x t) = binding x t ∷ []
target_bindings Discard = []
target_bindings (Block r) = []

abbrev pub targets_bindings : Program → List ℕ → List Binding
targets_bindings P [] = []
targets_bindings P (a ∷ ns) = target_bindings (node_at P a) ++ targets_bindings P ns

-- the names that a statement adds to the scope behind it, in order
abbrev pub declared_by : Program → Node → List Binding
declared_by P (Number c) = []
declared_by P (Truth b) = []
declared_by P (Text r) = []
declared_by P (Variable x) = []
declared_by P (Element a i) = []
declared_by P (Length a) = []
declared_by P (Unary o a) = []
declared_by P (Binary o a b) = []
declared_by P (Constructor t r) = []
declared_by P (Call x r) = []
declared_by P (LibraryCall f r) = []
declared_by P (Declare x t r) = binding x t ∷ []
declared_by P (DeclareValue x t a) = binding x t ∷ []
declared_by P (DeclareCall a r) = targets_bindings P (entries_of P r)
declared_by P (Assign x a) = []
declared_by P (AssignElement a i b) = []
declared_by P (If g a) = []
declared_by P (IfElse g a b) = []
declared_by P (While g a) = []
declared_by P (Return r) = []
declared_by P (CallStatement a) = []
declared_by P (Target x t) = []
declared_by P Discard = []
declared_by P (Block r) = []

-- the names are not in scope before, are no globals', and 64 at most are in scope
abbrev pub Declarable : Program → Scope → List Binding → Type 0
Declarable P Γ [] = Unit {0}
Declarable P Γ (b ∷ bs) = (type_in Γ b.name ≡ none) × (global_type P.globals b.name ≡ none) × (length Γ < 64) × Declarable P (b ∷ Γ) bs

-- a part begins in the scope Γ, and belongs to the same function
pub record Begins (T : Tables) (n : ℕ) (Γ : Scope) (p : Part) : Type 0 where
  pub scope : T.scope p.number ≡ Γ
  pub owed : T.owed p.number ≡ T.owed n

-- the scope of a block's next entry is the scope after the one before
abbrev pub Follow : Program → Tables → ℕ → Scope → List Part → Type 0
Follow P T n Γ [] = Unit {0}
Follow P T n Γ (p ∷ ps) = Begins T n Γ p × Follow P T n (pushed (declared_by P (node_at P p.number)) Γ) ps

-- every other part has its node's scope
abbrev pub Inherit : Tables → ℕ → List Part → Type 0
Inherit T n ps = Each (Begins T n (T.scope n)) ps

abbrev pub ScopesBy : Program → Tables → ℕ → Sort → List Part → Type 0
ScopesBy P T n value_sort ps = Inherit T n ps
ScopesBy P T n call_sort ps = Inherit T n ps
ScopesBy P T n statement_sort ps = Inherit T n ps
ScopesBy P T n return_sort ps = Inherit T n ps
ScopesBy P T n block_sort ps = Follow P T n (T.scope n) ps
ScopesBy P T n target_sort ps = Inherit T n ps

-- `+` takes ints, or joins two arrays
abbrev pub Added : ℕ → Type 0
Added zero = Unit {0}
Added (suc zero) = ⊥
Added (suc (suc t)) = Unit {0}

-- operands of the type t, and a value of the type u
pub record Takes (P : Program) (T : Tables) (n a b t u : ℕ) : Type 0 where
  pub left : gives P T a ≡ t ∷ []
  pub right : gives P T b ≡ t ∷ []
  pub value : T.type n ≡ u

abbrev pub OperatorTyped : Program → Tables → ℕ → Operator → ℕ → ℕ → Type 0
OperatorTyped P T n Add a b = (t : ℕ) × Takes P T n a b t t × Added t
OperatorTyped P T n Subtract a b = Takes P T n a b 0 0
OperatorTyped P T n Multiply a b = Takes P T n a b 0 0
OperatorTyped P T n Divide a b = Takes P T n a b 0 0
OperatorTyped P T n Remainder a b = Takes P T n a b 0 0
OperatorTyped P T n Less a b = Takes P T n a b 0 1
OperatorTyped P T n LessEqual a b = Takes P T n a b 0 1
OperatorTyped P T n Greater a b = Takes P T n a b 0 1
OperatorTyped P T n GreaterEqual a b = Takes P T n a b 0 1
OperatorTyped P T n Equal a b = (t : ℕ) × Takes P T n a b t 1
OperatorTyped P T n NotEqual a b = (t : ℕ) × Takes P T n a b t 1
OperatorTyped P T n And a b = Takes P T n a b 1 1
OperatorTyped P T n Or a b = Takes P T n a b 1 1

abbrev pub UnaryTyped : Program → Tables → ℕ → UnaryOperator → ℕ → Type 0
UnaryTyped P T n Minus a = (gives P T a ≡ 0 ∷ []) × (T.type n ≡ 0)
UnaryTyped P T n Not a = (gives P T a ≡ 1 ∷ []) × (T.type n ≡ 1)

-- a target has its result's type; a discarding one fits any
abbrev pub BindingsHave : ℕ → List Binding → Type 0
BindingsHave t bs = Each (λ (b : Binding). b.type ≡ t) bs

abbrev pub TargetsFit : Program → List ℕ → List ℕ → Type 0
TargetsFit P [] [] = Unit {0}
TargetsFit P [] (t ∷ ts) = ⊥
TargetsFit P (a ∷ ns) [] = ⊥
TargetsFit P (a ∷ ns) (t ∷ ts) = BindingsHave t (target_bindings (node_at P a)) × TargetsFit P ns ts

-- the types of each kind of node
abbrev pub Typed : Program → Tables → ℕ → Node → Type 0
Typed P T n (Number c) = T.type n ≡ 0
Typed P T n (Truth b) = T.type n ≡ 1
Typed P T n (Text r) = T.type n ≡ 2
Typed P T n (Variable x) = variable_type P (T.scope n) x ≡ some (T.type n)
-- an index is an `int`
Typed P T n (Element a i) = (gives P T a ≡ suc (suc (T.type n)) ∷ []) × (gives P T i ≡ 0 ∷ [])
Typed P T n (Length a) = (t : ℕ) × (gives P T a ≡ suc (suc t) ∷ []) × (T.type n ≡ 0)
Typed P T n (Unary o a) = UnaryTyped P T n o a
Typed P T n (Binary o a b) = OperatorTyped P T n o a b
Typed P T n (Constructor t r) = GiveEach P T (entries_of P r) (replicate (length (entries_of P r)) t.number) × (T.type n ≡ suc (suc t.number))
-- arguments have exactly the parameters' types
Typed P T n (Call x r) = (F : Function) × (function_named P.functions x ≡ some F) × GiveEach P T (entries_of P r) (types_of (parameters_of P F))
Typed P T n (LibraryCall f r) = GiveEach P T (entries_of P r) (library_takes f)
-- a given length is an `int`
Typed P T n (Declare x t r) = GiveEach P T (entries_of P r) (replicate (length (entries_of P r)) 0)
Typed P T n (DeclareValue x t a) = gives P T a ≡ t.number ∷ []
-- one result for each target
Typed P T n (DeclareCall a r) = TargetsFit P (entries_of P r) (gives P T a)
Typed P T n (Assign x a) = (t : ℕ) × (variable_type P (T.scope n) x ≡ some t) × (gives P T a ≡ t ∷ [])
Typed P T n (AssignElement a i b) = (t : ℕ) × (gives P T a ≡ suc (suc t) ∷ []) × (gives P T i ≡ 0 ∷ []) × (gives P T b ≡ t ∷ [])
-- a guard is a `bool`
Typed P T n (If g a) = gives P T g ≡ 1 ∷ []
Typed P T n (IfElse g a b) = gives P T g ≡ 1 ∷ []
Typed P T n (While g a) = gives P T g ≡ 1 ∷ []
Typed P T n (Return r) = GiveEach P T (entries_of P r) (T.owed n)
-- a call as a statement has no result
Typed P T n (CallStatement a) = gives P T a ≡ []
Typed P T n (Target x t) = Unit {0}
Typed P T n Discard = Unit {0}
Typed P T n (Block r) = Unit {0}

-- a `return` stands nowhere but last in a block
abbrev pub NoReturns : Program → List Part → Type 0
NoReturns P ps = Each (λ (p : Part). (sort_of (node_at P p.number) ≡ return_sort) → ⊥) ps

abbrev pub OnlyLastReturns : Program → List Part → Type 0
OnlyLastReturns P [] = Unit {0}
OnlyLastReturns P (p ∷ []) = Unit {0}
OnlyLastReturns P (p ∷ q ∷ ps) = ((sort_of (node_at P p.number) ≡ return_sort) → ⊥) × OnlyLastReturns P (q ∷ ps)

abbrev pub ReturnsBy : Program → Sort → List Part → Type 0
ReturnsBy P value_sort ps = NoReturns P ps
ReturnsBy P call_sort ps = NoReturns P ps
ReturnsBy P statement_sort ps = NoReturns P ps
ReturnsBy P return_sort ps = NoReturns P ps
ReturnsBy P block_sort ps = OnlyLastReturns P ps
ReturnsBy P target_sort ps = NoReturns P ps

abbrev pub last : List ℕ → Option ℕ
last [] = none
last (n ∷ []) = some n
last (n ∷ m ∷ ms) = last (m ∷ ms)

-- a `return` ends, a block whose last entry ends, an `if` whose two parts end
pub data Ends (P : Program) : Node → Type 0 where
  return_ends : {r : Run} → Ends P (Return r)
  block_ends : {r : Run} (n : ℕ) → last (entries_of P r) ≡ some n → Ends P (node_at P n) → Ends P (Block r)
  if_ends : {g a b : ℕ} → Ends P (node_at P a) → Ends P (node_at P b) → Ends P (IfElse g a b)

-- with results, a body must end
abbrev pub EndsWith : Program → List ℕ → Node → Type 0
EndsWith P [] d = Unit {0}
EndsWith P (t ∷ ts) d = Ends P d
