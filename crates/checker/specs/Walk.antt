-- Names and types: the walk through a function's body, each node's tests in their order.
use Rattle.std.specs.Prelude.{ℕ, zero, suc, ◌+◌, ◌-◌, Bool, true, false, not, ◌&&◌, List, [], ◌∷◌, length, replicate, ◌==◌, nat_le, nat_lt}
use Rattle.std.proofs.Math.Option.{Option, none, some}
use Rattle.xi.specs.declared.node.Node.{Node}
use Rattle.xi.specs.declared.node.Node.TheVariants.{Number, Truth, Text, Variable, Element, Length, Unary, Binary, Constructor, Call, LibraryCall}
use Rattle.xi.specs.declared.node.Node.TheVariants.{Declare, DeclareValue, DeclareCall, Assign, AssignElement, If, IfElse, While, Return, CallStatement, Target, Discard, Block}
use Rattle.xi.specs.declared.node.UnaryOperator.{UnaryOperator}
use Rattle.xi.specs.declared.node.UnaryOperator.TheVariants.{Minus, Not}
use Rattle.xi.specs.declared.node.Operator.{Operator}
use Rattle.xi.specs.declared.node.Operator.TheVariants.{Add, Subtract, Multiply, Divide, Remainder, Less, LessEqual, Greater, GreaterEqual, Equal, NotEqual, And, Or}
use Rattle.xi.specs.declared.node.Ty.{Ty}
use Rattle.xi.specs.declared.rule.Rule.{Rule}
use Rattle.xi.specs.declared.rule.Rule.TheVariants.{Range, Tree as TreeRule, Unknown, Taken, «Type» as TypeRule, Count, Return as ReturnRule}
use Rattle.xi.specs.Program.{Program}
use Rattle.sheet.specs.Outcome.{Outcome, good, bad, then, held}
use Rattle.sheet.specs.Sheets.{Decoded}
use Rattle.xi.specs.Tree.{node_at, entries_of}
use Rattle.xi.specs.Typing.{Binding, binding, Scope, variable_type, function_named, parameters_of, results_of, types_of, library_takes, library_gives, target_bindings}
use Rattle.checker.specs.Trees.{offset_of}

-- what is looked up is there
abbrev pub known : {A : Type 0} → Option A → Rule → ℕ → Outcome A
known none k p = bad k p
known (some x) k p = good x

abbrev pub is_some : {A : Type 0} → Option A → Bool
is_some none = false
is_some (some x) = true

abbrev pub is_empty : {A : Type 0} → List A → Bool
is_empty [] = true
is_empty (x ∷ xs) = false

-- the types of the values of ns, in order, where go types one
abbrev pub types_each : (ℕ → Outcome ℕ) → List ℕ → Outcome (List ℕ)
types_each go [] = good []
types_each go (n ∷ ns) = then (go n) (λ t. then (types_each go ns) (λ ts. good (t ∷ ts)))

-- each type is the one that is wanted; how many there are is tested apart
abbrev pub agree : List ℕ → List ℕ → Bool
agree [] ws = true
agree (t ∷ ts) [] = false
agree (t ∷ ts) (w ∷ ws) = t == w && agree ts ws

-- whether the values of ns have the types ws
abbrev pub fitting : (ℕ → Outcome ℕ) → List ℕ → List ℕ → Outcome Bool
fitting go ns ws = then (types_each go ns) (λ ts. good (agree ts ws))

-- operands that are as they must be, and the type of the value
abbrev pub operands : Bool → ℕ → ℕ → Outcome ℕ
operands b p u = then (held b TypeRule p) (λ _. good u)

abbrev pub unary_gives : UnaryOperator → ℕ → ℕ → Outcome ℕ
unary_gives Minus t p = operands (t == 0) p 0
unary_gives Not t p = operands (t == 1) p 1

-- `+` takes ints, or joins two arrays of one type; `==` and `!=` take any one type
abbrev pub operator_gives : Operator → ℕ → ℕ → ℕ → Outcome ℕ
operator_gives Add t u p = operands (t == u && not (t == 1)) p t
operator_gives Subtract t u p = operands (t == 0 && u == 0) p 0
operator_gives Multiply t u p = operands (t == 0 && u == 0) p 0
operator_gives Divide t u p = operands (t == 0 && u == 0) p 0
operator_gives Remainder t u p = operands (t == 0 && u == 0) p 0
operator_gives Less t u p = operands (t == 0 && u == 0) p 1
operator_gives LessEqual t u p = operands (t == 0 && u == 0) p 1
operator_gives Greater t u p = operands (t == 0 && u == 0) p 1
operator_gives GreaterEqual t u p = operands (t == 0 && u == 0) p 1
operator_gives Equal t u p = operands (t == u) p 1
operator_gives NotEqual t u p = operands (t == u) p 1
operator_gives And t u p = operands (t == 1 && u == 1) p 1
operator_gives Or t u p = operands (t == 1 && u == 1) p 1

-- the arguments ns of a call at p where k results are asked, of what takes these types and gives m results
abbrev pub argued : (ℕ → Outcome ℕ) → List ℕ → ℕ → ℕ → List ℕ → ℕ → Outcome (Unit {0})
argued go ns k p takes m =
    then (held (length ns == length takes) Count p) (λ _.
    then (held (m == k) Count p) (λ _.
    then (fitting go ns takes) (λ b.
    held b TypeRule p)))

abbrev pub called : (ℕ → Outcome ℕ) → List ℕ → ℕ → ℕ → List ℕ → List ℕ → Outcome (List ℕ)
called go ns k p takes gives = then (argued go ns k p takes (length gives)) (λ _. good gives)

-- what the call d at p gives where k results are asked
abbrev pub call_node : (ℕ → Outcome ℕ) → Program → ℕ → ℕ → Node → Outcome (List ℕ)
call_node go P k p (Number c) = bad TreeRule p
call_node go P k p (Truth b) = bad TreeRule p
call_node go P k p (Text r) = bad TreeRule p
call_node go P k p (Variable x) = bad TreeRule p
call_node go P k p (Element a i) = bad TreeRule p
call_node go P k p (Length a) = bad TreeRule p
call_node go P k p (Unary o a) = bad TreeRule p
call_node go P k p (Binary o a b) = bad TreeRule p
call_node go P k p (Constructor t r) = bad TreeRule p
call_node go P k p (Call x r) =
    then (known (function_named P.functions x) Unknown p) (λ F. called go (entries_of P r) k p (types_of (parameters_of P F)) (results_of P F))
call_node go P k p (LibraryCall f r) = called go (entries_of P r) k p (library_takes f) (library_gives f)
call_node go P k p (Declare x t r) = bad TreeRule p
call_node go P k p (DeclareValue x t a) = bad TreeRule p
call_node go P k p (DeclareCall a r) = bad TreeRule p
call_node go P k p (Assign x a) = bad TreeRule p
call_node go P k p (AssignElement a i b) = bad TreeRule p
call_node go P k p (If g a) = bad TreeRule p
call_node go P k p (IfElse g a b) = bad TreeRule p
call_node go P k p (While g a) = bad TreeRule p
call_node go P k p (Return r) = bad TreeRule p
call_node go P k p (CallStatement a) = bad TreeRule p
call_node go P k p (Target x t) = bad TreeRule p
call_node go P k p Discard = bad TreeRule p
call_node go P k p (Block r) = bad TreeRule p

abbrev pub first_of : List ℕ → ℕ
first_of [] = 0
first_of (t ∷ ts) = t

-- the type of the expression d at p in the scope Γ, where go types its parts; a call is asked for one result
abbrev pub type_node : (ℕ → Outcome ℕ) → Program → Scope → ℕ → Node → Outcome ℕ
type_node go P Γ p (Number c) = good 0
type_node go P Γ p (Truth b) = good 1
type_node go P Γ p (Text r) = good 2
type_node go P Γ p (Variable x) = known (variable_type P Γ x) Unknown p
type_node go P Γ p (Element a i) = then (go a) (λ t. then (go i) (λ u. operands (nat_le 2 t && u == 0) p (t - 2)))
type_node go P Γ p (Length a) = then (go a) (λ t. operands (nat_le 2 t) p 0)
type_node go P Γ p (Unary o a) = then (go a) (λ t. unary_gives o t p)
type_node go P Γ p (Binary o a b) = then (go a) (λ t. then (go b) (λ u. operator_gives o t u p))
type_node go P Γ p (Constructor t r) =
    then (fitting go (entries_of P r) (replicate (length (entries_of P r)) t.number)) (λ b. operands b p (t.number + 2))
type_node go P Γ p (Call x r) = then (call_node go P 1 p (Call x r)) (λ ts. good (first_of ts))
type_node go P Γ p (LibraryCall f r) = then (call_node go P 1 p (LibraryCall f r)) (λ ts. good (first_of ts))
type_node go P Γ p (Declare x t r) = bad TreeRule p
type_node go P Γ p (DeclareValue x t a) = bad TreeRule p
type_node go P Γ p (DeclareCall a r) = bad TreeRule p
type_node go P Γ p (Assign x a) = bad TreeRule p
type_node go P Γ p (AssignElement a i b) = bad TreeRule p
type_node go P Γ p (If g a) = bad TreeRule p
type_node go P Γ p (IfElse g a b) = bad TreeRule p
type_node go P Γ p (While g a) = bad TreeRule p
type_node go P Γ p (Return r) = bad TreeRule p
type_node go P Γ p (CallStatement a) = bad TreeRule p
type_node go P Γ p (Target x t) = bad TreeRule p
type_node go P Γ p Discard = bad TreeRule p
type_node go P Γ p (Block r) = bad TreeRule p

-- the type of node n, at most k deep
abbrev pub type_at : Decoded → Scope → ℕ → ℕ → Outcome ℕ
type_at D Γ zero n = bad TreeRule 0
type_at D Γ (suc k) n = type_node (type_at D Γ k) D.program Γ (offset_of D n) (node_at D.program n)

-- the type of the expression n in the scope Γ: its parts have smaller numbers, so n deep is deep enough
unfoldable pub type_of : Decoded → Scope → ℕ → Outcome ℕ
type_of D Γ n = type_at D Γ (suc n) n

-- what the call n gives where k results are asked
unfoldable pub call_of : Decoded → Scope → ℕ → ℕ → Outcome (List ℕ)
call_of D Γ k n = call_node (type_of D Γ) D.program k (offset_of D n) (node_at D.program n)

-- the scope with one name more, declared at p
abbrev pub declared : Program → Scope → Binding → ℕ → Outcome Scope
declared P Γ b p =
    then (held (nat_lt (length Γ) 64) Range p) (λ _.
    then (held (not (is_some (variable_type P Γ b.name))) Taken p) (λ _.
    good (b ∷ Γ)))

abbrev pub declared_all : Program → ℕ → List Binding → Scope → Outcome Scope
declared_all P p [] Γ = good Γ
declared_all P p (b ∷ bs) Γ = then (declared P Γ b p) (λ Δ. declared_all P p bs Δ)

-- the names of the targets, one after another, each declared at its target
abbrev pub targets_declared : Decoded → List ℕ → Scope → Outcome Scope
targets_declared D [] Γ = good Γ
targets_declared D (n ∷ ns) Γ = then (declared_all D.program (offset_of D n) (target_bindings (node_at D.program n)) Γ) (λ Δ. targets_declared D ns Δ)

-- a target has its result's type; a discarding one fits any
abbrev pub bindings_have : ℕ → List Binding → Bool
bindings_have t [] = true
bindings_have t (b ∷ bs) = b.type == t && bindings_have t bs

abbrev pub targets_fit : Program → List ℕ → List ℕ → Bool
targets_fit P [] ts = true
targets_fit P (n ∷ ns) [] = false
targets_fit P (n ∷ ns) (t ∷ ts) = bindings_have t (target_bindings (node_at P n)) && targets_fit P ns ts

-- a declaration at p of the name x with the type t: with the lengths ns, or with the value a
abbrev pub declared_with_lengths : (ℕ → Outcome ℕ) → Program → Scope → ℕ → ℕ → Ty → List ℕ → Outcome Scope
declared_with_lengths type P Γ p x t ns =
    then (fitting type ns (replicate (length ns) 0)) (λ b.
    then (held b TypeRule p) (λ _.
    declared P Γ (binding x t) p))

abbrev pub declared_with_value : (ℕ → Outcome ℕ) → Program → Scope → ℕ → ℕ → Ty → ℕ → Outcome Scope
declared_with_value type P Γ p x t a =
    then (type a) (λ u.
    then (held (u == t.number) TypeRule p) (λ _.
    declared P Γ (binding x t) p))

-- a declaration at p of the targets ns by the call a
abbrev pub declared_by_call : (ℕ → ℕ → Outcome (List ℕ)) → Decoded → Scope → ℕ → ℕ → List ℕ → Outcome Scope
declared_by_call call D Γ p a ns =
    then (call (length ns) a) (λ ts.
    then (held (targets_fit D.program ns ts) TypeRule p) (λ _.
    targets_declared D ns Γ))

-- assignments at p: of a to the name x, of b to the element i of a
abbrev pub assigned : (ℕ → Outcome ℕ) → Program → Scope → ℕ → ℕ → ℕ → Outcome (Unit {0})
assigned type P Γ p x a =
    then (type a) (λ u.
    then (known (variable_type P Γ x) Unknown p) (λ t.
    held (u == t) TypeRule p))

abbrev pub element_assigned : (ℕ → Outcome ℕ) → ℕ → ℕ → ℕ → ℕ → Outcome (Unit {0})
element_assigned type p a i b =
    then (type a) (λ t.
    then (type i) (λ u.
    then (type b) (λ v.
    held (nat_le 2 t && (u == 0 && t - 2 == v)) TypeRule p)))

-- a return at p of the values ns, in a function that owes results of the types `owed`
abbrev pub returned : (ℕ → Outcome ℕ) → List ℕ → Bool → ℕ → List ℕ → Outcome (Unit {0})
returned type owed last p ns =
    then (fitting type ns owed) (λ b.
    then (held (length ns == length owed) Count p) (λ _.
    then (held b TypeRule p) (λ _.
    held last ReturnRule p)))

-- the entries of a block in order, where go takes one: it is told whether the entry is the last
abbrev pub after_all : (Bool → Scope → ℕ → Outcome Scope) → List ℕ → Scope → Outcome Scope
after_all go [] Γ = good Γ
after_all go (n ∷ ns) Γ = then (go (is_empty ns) Γ n) (λ Δ. after_all go ns Δ)

-- the scope after the statement d at p in the scope Γ, in a function that owes results of the types `owed`.
-- `type` types an expression, `call` a call, `lone` takes a statement under an `if` or a `while`, `block` the entries of a block.
abbrev pub after_node : (ℕ → Outcome ℕ) → (ℕ → ℕ → Outcome (List ℕ)) → (ℕ → Outcome Scope) → (List ℕ → Outcome Scope) → Decoded → List ℕ → Bool → Scope → ℕ → Node → Outcome Scope
after_node type call lone block D owed last Γ p (Number c) = bad TreeRule p
after_node type call lone block D owed last Γ p (Truth b) = bad TreeRule p
after_node type call lone block D owed last Γ p (Text r) = bad TreeRule p
after_node type call lone block D owed last Γ p (Variable x) = bad TreeRule p
after_node type call lone block D owed last Γ p (Element a i) = bad TreeRule p
after_node type call lone block D owed last Γ p (Length a) = bad TreeRule p
after_node type call lone block D owed last Γ p (Unary o a) = bad TreeRule p
after_node type call lone block D owed last Γ p (Binary o a b) = bad TreeRule p
after_node type call lone block D owed last Γ p (Constructor t r) = bad TreeRule p
after_node type call lone block D owed last Γ p (Call x r) = bad TreeRule p
after_node type call lone block D owed last Γ p (LibraryCall f r) = bad TreeRule p
after_node type call lone block D owed last Γ p (Declare x t r) = declared_with_lengths type D.program Γ p x t (entries_of D.program r)
after_node type call lone block D owed last Γ p (DeclareValue x t a) = declared_with_value type D.program Γ p x t a
after_node type call lone block D owed last Γ p (DeclareCall a r) = declared_by_call call D Γ p a (entries_of D.program r)
after_node type call lone block D owed last Γ p (Assign x a) = then (assigned type D.program Γ p x a) (λ _. good Γ)
after_node type call lone block D owed last Γ p (AssignElement a i b) = then (element_assigned type p a i b) (λ _. good Γ)
after_node type call lone block D owed last Γ p (If g a) =
    then (type g) (λ t.
    then (lone a) (λ _.
    then (held (t == 1) TypeRule p) (λ _.
    good Γ)))
after_node type call lone block D owed last Γ p (IfElse g a b) =
    then (type g) (λ t.
    then (lone a) (λ _.
    then (lone b) (λ _.
    then (held (t == 1) TypeRule p) (λ _.
    good Γ))))
after_node type call lone block D owed last Γ p (While g a) =
    then (type g) (λ t.
    then (lone a) (λ _.
    then (held (t == 1) TypeRule p) (λ _.
    good Γ)))
after_node type call lone block D owed last Γ p (Return r) = then (returned type owed last p (entries_of D.program r)) (λ _. good Γ)
after_node type call lone block D owed last Γ p (CallStatement a) = then (call 0 a) (λ _. good Γ)
after_node type call lone block D owed last Γ p (Target x t) = bad TreeRule p
after_node type call lone block D owed last Γ p Discard = bad TreeRule p
after_node type call lone block D owed last Γ p (Block r) = then (block (entries_of D.program r)) (λ _. good Γ)

-- the scope after node n, at most k deep
abbrev pub after_at : Decoded → List ℕ → ℕ → Bool → Scope → ℕ → Outcome Scope
after_at D owed zero last Γ n = bad TreeRule 0
after_at D owed (suc k) last Γ n =
    after_node (type_of D Γ) (call_of D Γ) (after_at D owed k false Γ) (λ ns. after_all (after_at D owed k) ns Γ) D owed last Γ (offset_of D n) (node_at D.program n)

-- the scope after the statement n in the scope Γ; `last` says whether it is the last entry of a block
unfoldable pub after_of : Decoded → List ℕ → Bool → Scope → ℕ → Outcome Scope
after_of D owed last Γ n = after_at D owed (suc n) last Γ n

-- the last entry of a block ends
abbrev pub ends_last : (ℕ → Bool) → List ℕ → Bool
ends_last go [] = false
ends_last go (n ∷ []) = go n
ends_last go (n ∷ m ∷ ms) = ends_last go (m ∷ ms)

-- a `return` ends, a block whose last entry ends, an `if` whose two parts end
abbrev pub ends_node : (ℕ → Bool) → Program → Node → Bool
ends_node go P (Number c) = false
ends_node go P (Truth b) = false
ends_node go P (Text r) = false
ends_node go P (Variable x) = false
ends_node go P (Element a i) = false
ends_node go P (Length a) = false
ends_node go P (Unary o a) = false
ends_node go P (Binary o a b) = false
ends_node go P (Constructor t r) = false
ends_node go P (Call x r) = false
ends_node go P (LibraryCall f r) = false
ends_node go P (Declare x t r) = false
ends_node go P (DeclareValue x t a) = false
ends_node go P (DeclareCall a r) = false
ends_node go P (Assign x a) = false
ends_node go P (AssignElement a i b) = false
ends_node go P (If g a) = false
ends_node go P (IfElse g a b) = go a && go b
ends_node go P (While g a) = false
ends_node go P (Return r) = true
ends_node go P (CallStatement a) = false
ends_node go P (Target x t) = false
ends_node go P Discard = false
ends_node go P (Block r) = ends_last go (entries_of P r)

abbrev pub ends_at : Program → ℕ → ℕ → Bool
ends_at P zero n = false
ends_at P (suc k) n = ends_node (ends_at P k) P (node_at P n)

-- the statement n ends with a return
unfoldable pub ends_of : Program → ℕ → Bool
ends_of P n = ends_at P (suc n) n
