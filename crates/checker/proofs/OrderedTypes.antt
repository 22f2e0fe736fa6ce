-- The types of expressions, as the first broken of their tests.
use Rattle.std.proofs.Common.{ℕ, zero, suc, false, List, [], ◌∷◌, map, refl}
use Rattle.xi.specs.declared.node.Node.{Node}
use Rattle.xi.specs.declared.node.Node.TheVariants.{Number, Truth, Text, Variable, Element, Length, Unary, Binary, Constructor, Call, LibraryCall}
use Rattle.xi.specs.declared.node.Node.TheVariants.{Declare, DeclareValue, DeclareCall, Assign, AssignElement, If, IfElse, While, Return, CallStatement, Target, Discard, Block}
use Rattle.xi.specs.declared.node.UnaryOperator.{UnaryOperator}
use Rattle.xi.specs.declared.node.UnaryOperator.TheVariants.{Minus, Not}
use Rattle.xi.specs.declared.node.Operator.{Operator}
use Rattle.xi.specs.declared.node.Operator.TheVariants.{Add, Subtract, Multiply, Divide, Remainder, Less, LessEqual, Greater, GreaterEqual, Equal, NotEqual, And, Or}
use Rattle.xi.specs.declared.rule.Rule.TheVariants.{Tree as TreeRule, Unknown, «Type» as TypeRule, Count}
use Rattle.xi.specs.Program.{Program}
use Rattle.sheet.specs.Outcome.{Outcome, bad, held}
use Rattle.sheet.specs.Sheets.{Decoded}
use Rattle.xi.specs.Tree.{node_at, entries_of}
use Rattle.xi.specs.Typing.{Scope, variable_type, function_named, parameters_of, results_of, types_of, library_takes, library_gives}
use Rattle.checker.specs.Trees.{offset_of, no_function}
use Rattle.checker.specs.Walk.{agree, fitting, unary_gives, operator_gives, called, call_node, first_of, type_node, type_at, type_of, call_of}
use Rattle.checker.specs.Tests.{Test, test, value_or, each, unary_fits, operator_fits, called_tests, call_tests, expression_tests, expression_at, tests_of_expression, tests_of_call}
use Rattle.checker.proofs.Ordered.{Gives, gives_good, gives-held, gives_then, gives-test, gives-known, gives_found, gives_value, gives-operands, gives-map, gives-each}

-- a refusal of the tree is a test that never holds
pub gives-never : {A : Type 0} (p : ℕ) (x : A) → Gives (bad TreeRule p) (test false TreeRule p ∷ []) x
gives-never p x = record { is = refl }

unary_given : (o : UnaryOperator) (t p : ℕ) → (u : ℕ) × Gives (unary_gives o t p) (test (unary_fits o t) TypeRule p ∷ []) u
unary_given Minus t p = (_, gives-operands _ p _)
unary_given Not t p = (_, gives-operands _ p _)

operator_given : (o : Operator) (t u p : ℕ) → (v : ℕ) × Gives (operator_gives o t u p) (test (operator_fits o t u) TypeRule p ∷ []) v
operator_given Add t u p = (_, gives-operands _ p _)
operator_given Subtract t u p = (_, gives-operands _ p _)
operator_given Multiply t u p = (_, gives-operands _ p _)
operator_given Divide t u p = (_, gives-operands _ p _)
operator_given Remainder t u p = (_, gives-operands _ p _)
operator_given Less t u p = (_, gives-operands _ p _)
operator_given LessEqual t u p = (_, gives-operands _ p _)
operator_given Greater t u p = (_, gives-operands _ p _)
operator_given GreaterEqual t u p = (_, gives-operands _ p _)
operator_given Equal t u p = (_, gives-operands _ p _)
operator_given NotEqual t u p = (_, gives-operands _ p _)
operator_given And t u p = (_, gives-operands _ p _)
operator_given Or t u p = (_, gives-operands _ p _)

module _ (go : ℕ → Outcome ℕ) (tests : ℕ → List Test) (type : ℕ → ℕ) (h : (n : ℕ) → Gives (go n) (tests n) (type n)) where
  pub fitting-given : (ns ws : List ℕ) → Gives (fitting go ns ws) (each tests ns) (agree (map type ns) ws)
  fitting-given ns ws = gives-map (λ ts. agree ts ws) (gives-each go tests type h ns)

  called-given : (ns : List ℕ) (k p : ℕ) (takes gives : List ℕ) → Gives (called go ns k p takes gives) (called_tests tests type ns k p takes gives) gives
  called-given ns k p takes gives =
      gives-map (λ _. gives)
      (gives-test _ Count p _ (gives-test _ Count p _
      (gives_then (λ b. held b TypeRule p) (fitting-given ns takes) (gives-held _ TypeRule p))))

  -- some value, which is none where a test fails
  pub call-given : (P : Program) (k p : ℕ) (d : Node) → (ts : List ℕ) × Gives (call_node go P k p d) (call_tests tests type P k p d) ts
  call-given P k p (Number c) = ([], gives-never p [])
  call-given P k p (Truth b) = ([], gives-never p [])
  call-given P k p (Text r) = ([], gives-never p [])
  call-given P k p (Variable x) = ([], gives-never p [])
  call-given P k p (Element a i) = ([], gives-never p [])
  call-given P k p (Length a) = ([], gives-never p [])
  call-given P k p (Unary o a) = ([], gives-never p [])
  call-given P k p (Binary o a b) = ([], gives-never p [])
  call-given P k p (Constructor t r) = ([], gives-never p [])
  call-given P k p (Call x r) =
      (_, gives-known no_function (function_named P.functions x) Unknown p (λ F. called go (entries_of P r) k p (types_of (parameters_of P F)) (results_of P F)) (called-given (entries_of P r) k p _ _))
  call-given P k p (LibraryCall f r) = (_, called-given (entries_of P r) k p (library_takes f) (library_gives f))
  call-given P k p (Declare x t r) = ([], gives-never p [])
  call-given P k p (DeclareValue x t a) = ([], gives-never p [])
  call-given P k p (DeclareCall a r) = ([], gives-never p [])
  call-given P k p (Assign x a) = ([], gives-never p [])
  call-given P k p (AssignElement a i b) = ([], gives-never p [])
  call-given P k p (If g a) = ([], gives-never p [])
  call-given P k p (IfElse g a b) = ([], gives-never p [])
  call-given P k p (While g a) = ([], gives-never p [])
  call-given P k p (Return r) = ([], gives-never p [])
  call-given P k p (CallStatement a) = ([], gives-never p [])
  call-given P k p (Target x t) = ([], gives-never p [])
  call-given P k p Discard = ([], gives-never p [])
  call-given P k p (Block r) = ([], gives-never p [])

  node-given : (P : Program) (Γ : Scope) (p : ℕ) (d : Node) → (t : ℕ) × Gives (type_node go P Γ p d) (expression_tests tests type P Γ p d) t
  node-given P Γ p (Number c) = (_, gives_good 0)
  node-given P Γ p (Truth b) = (_, gives_good 1)
  node-given P Γ p (Text r) = (_, gives_good 2)
  node-given P Γ p (Variable x) = (_, gives_found 0 (variable_type P Γ x) Unknown p)
  node-given P Γ p (Element a i) = (_, gives_then _ (h a) (gives_then _ (h i) (gives-operands _ p _)))
  node-given P Γ p (Length a) = (_, gives_then _ (h a) (gives-operands _ p _))
  node-given P Γ p (Unary o a) = (_, gives_then _ (h a) (unary_given o (type a) p).1)
  node-given P Γ p (Binary o a b) = (_, gives_then _ (h a) (gives_then _ (h b) (operator_given o (type a) (type b) p).1))
  node-given P Γ p (Constructor t r) = (_, gives_then _ (fitting-given (entries_of P r) _) (gives-operands _ p _))
  node-given P Γ p (Call x r) = (_, gives-map first_of (call-given P 1 p (Call x r)).1)
  node-given P Γ p (LibraryCall f r) = (_, gives-map first_of (call-given P 1 p (LibraryCall f r)).1)
  node-given P Γ p (Declare x t r) = (0, gives-never p 0)
  node-given P Γ p (DeclareValue x t a) = (0, gives-never p 0)
  node-given P Γ p (DeclareCall a r) = (0, gives-never p 0)
  node-given P Γ p (Assign x a) = (0, gives-never p 0)
  node-given P Γ p (AssignElement a i b) = (0, gives-never p 0)
  node-given P Γ p (If g a) = (0, gives-never p 0)
  node-given P Γ p (IfElse g a b) = (0, gives-never p 0)
  node-given P Γ p (While g a) = (0, gives-never p 0)
  node-given P Γ p (Return r) = (0, gives-never p 0)
  node-given P Γ p (CallStatement a) = (0, gives-never p 0)
  node-given P Γ p (Target x t) = (0, gives-never p 0)
  node-given P Γ p Discard = (0, gives-never p 0)
  node-given P Γ p (Block r) = (0, gives-never p 0)

type_given : (D : Decoded) (Γ : Scope) (k n : ℕ) → Gives (type_at D Γ k n) (expression_at D Γ k n) (value_or 0 (type_at D Γ k n))
type_given D Γ zero n = gives_value 0 (gives-never 0 0)
type_given D Γ (suc k) n =
    gives_value 0 (node-given (type_at D Γ k) (expression_at D Γ k) (λ m. value_or 0 (type_at D Γ k m)) (type_given D Γ k) D.program Γ (offset_of D n) (node_at D.program n)).1

-- the type of an expression, or the first broken of its tests
pub expression_ordered : (D : Decoded) (Γ : Scope) (n : ℕ) → Gives (type_of D Γ n) (tests_of_expression D Γ n) (value_or 0 (type_of D Γ n))
unfolding type_of tests_of_expression
expression_ordered D Γ n = type_given D Γ (suc n) n

pub call_ordered : (D : Decoded) (Γ : Scope) (k n : ℕ) → Gives (call_of D Γ k n) (tests_of_call D Γ k n) (value_or [] (call_of D Γ k n))
unfolding call_of tests_of_call
call_ordered D Γ k n =
    gives_value [] (call-given (type_of D Γ) (tests_of_expression D Γ) (λ m. value_or 0 (type_of D Γ m)) (expression_ordered D Γ) D.program k (offset_of D n) (node_at D.program n)).1
