-- The scopes after statements, as the first broken of their tests.
use Rattle.std.proofs.Common.{ℕ, zero, suc, Bool, false, List, [], ◌∷◌, map, length}
use Rattle.xi.specs.declared.node.Node.{Node}
use Rattle.xi.specs.declared.node.Node.TheVariants.{Number, Truth, Text, Variable, Element, Length, Unary, Binary, Constructor, Call, LibraryCall}
use Rattle.xi.specs.declared.node.Node.TheVariants.{Declare, DeclareValue, DeclareCall, Assign, AssignElement, If, IfElse, While, Return, CallStatement, Target, Discard, Block}
use Rattle.xi.specs.declared.rule.Rule.TheVariants.{Range, Unknown, Taken, «Type» as TypeRule, Count, Return as ReturnRule}
use Rattle.xi.specs.Program.{Program}
use Rattle.sheet.specs.Outcome.{Outcome}
use Rattle.sheet.specs.Sheets.{Decoded}
use Rattle.xi.specs.Tree.{node_at, entries_of}
use Rattle.xi.specs.Typing.{Binding, binding, Scope, pushed, variable_type, target_bindings}
use Rattle.checker.specs.Trees.{offset_of}
use Rattle.checker.specs.Walk.{is_empty, agree, fitting, declared, declared_all, targets_declared, after_all, after_node, after_at, after_of, type_of, call_of}
use Rattle.checker.specs.Tests.{Test, value_or, each, declaration_tests, declarations_tests, targets_tests, block_tests, statement_tests, statement_at, tests_of_statement, tests_of_expression, tests_of_call}
use Rattle.checker.proofs.Ordered.{Gives, gives_good, gives-held, gives_then, gives-test, gives-known, gives_value, gives-map}
use Rattle.checker.proofs.OrderedTypes.{gives-never, fitting-given, expression_ordered, call_ordered}

declared_given : (P : Program) (Γ : Scope) (b : Binding) (p : ℕ) → Gives (declared P Γ b p) (declaration_tests P Γ b p) (b ∷ Γ)
declared_given P Γ b p = gives-test _ Range p _ (gives-test _ Taken p _ (gives_good (b ∷ Γ)))

declarations_given : (P : Program) (p : ℕ) (bs : List Binding) (Γ : Scope) → Gives (declared_all P p bs Γ) (declarations_tests P p bs Γ) (pushed bs Γ)
declarations_given P p [] Γ = gives_good Γ
declarations_given P p (b ∷ bs) Γ = gives_then (λ Δ. declared_all P p bs Δ) (declared_given P Γ b p) (declarations_given P p bs (b ∷ Γ))

targets_given : (D : Decoded) (ns : List ℕ) (Γ : Scope) → (Δ : Scope) × Gives (targets_declared D ns Γ) (targets_tests D ns Γ) Δ
targets_given D [] Γ = (Γ, gives_good Γ)
targets_given D (n ∷ ns) Γ =
    (_, gives_then (λ Δ. targets_declared D ns Δ) (declarations_given D.program (offset_of D n) (target_bindings (node_at D.program n)) Γ) (targets_given D ns (pushed (target_bindings (node_at D.program n)) Γ)).1)

-- the entries of a block
block_given : (go : Bool → Scope → ℕ → Outcome Scope) (tests : Bool → Scope → ℕ → List Test) (scope : Bool → Scope → ℕ → Scope) → ((l : Bool) (Γ : Scope) (n : ℕ) → Gives (go l Γ n) (tests l Γ n) (scope l Γ n)) → (ns : List ℕ) (Γ : Scope) → (Δ : Scope) × Gives (after_all go ns Γ) (block_tests tests scope ns Γ) Δ
block_given go tests scope h [] Γ = (Γ, gives_good Γ)
block_given go tests scope h (n ∷ ns) Γ = (_, gives_then (λ Δ. after_all go ns Δ) (h (is_empty ns) Γ n) (block_given go tests scope h ns (scope (is_empty ns) Γ n)).1)

module _ (D : Decoded) (owed : List ℕ) (k : ℕ) (h : (l : Bool) (Γ : Scope) (n : ℕ) → Gives (after_at D owed k l Γ n) (statement_at D owed k l Γ n) (value_or Γ (after_at D owed k l Γ n))) where
  fits : (Γ : Scope) (ns ws : List ℕ) → Gives (fitting (type_of D Γ) ns ws) (each (tests_of_expression D Γ) ns) (agree (map (λ m. value_or 0 (type_of D Γ m)) ns) ws)
  fits Γ ns ws = fitting-given (type_of D Γ) (tests_of_expression D Γ) (λ m. value_or 0 (type_of D Γ m)) (expression_ordered D Γ) ns ws

  statement-given : (last : Bool) (Γ : Scope) (p : ℕ) (d : Node) → (Δ : Scope) × Gives (after_node (type_of D Γ) (call_of D Γ) (after_at D owed k false Γ) (λ ns. after_all (after_at D owed k) ns Γ) D owed last Γ p d) (statement_tests (tests_of_expression D Γ) (λ m. value_or 0 (type_of D Γ m)) (tests_of_call D Γ) (λ j m. value_or [] (call_of D Γ j m)) (statement_at D owed k false Γ) (λ ns. block_tests (statement_at D owed k) (λ l Δ m. value_or Δ (after_at D owed k l Δ m)) ns Γ) D owed last Γ p d) Δ
  statement-given last Γ p (Number c) = (Γ, gives-never p Γ)
  statement-given last Γ p (Truth b) = (Γ, gives-never p Γ)
  statement-given last Γ p (Text r) = (Γ, gives-never p Γ)
  statement-given last Γ p (Variable x) = (Γ, gives-never p Γ)
  statement-given last Γ p (Element a i) = (Γ, gives-never p Γ)
  statement-given last Γ p (Length a) = (Γ, gives-never p Γ)
  statement-given last Γ p (Unary o a) = (Γ, gives-never p Γ)
  statement-given last Γ p (Binary o a b) = (Γ, gives-never p Γ)
  statement-given last Γ p (Constructor t r) = (Γ, gives-never p Γ)
  statement-given last Γ p (Call x r) = (Γ, gives-never p Γ)
  statement-given last Γ p (LibraryCall f r) = (Γ, gives-never p Γ)
  statement-given last Γ p (Declare x t r) = (_, gives_then _ (fits Γ (entries_of D.program r) _) (gives-test _ TypeRule p _ (declared_given D.program Γ (binding x t) p)))
  statement-given last Γ p (DeclareValue x t a) = (_, gives_then _ (expression_ordered D Γ a) (gives-test _ TypeRule p _ (declared_given D.program Γ (binding x t) p)))
  statement-given last Γ p (DeclareCall a r) =
      (_, gives_then _ (call_ordered D Γ (length (entries_of D.program r)) a) (gives-test _ TypeRule p _ (targets_given D (entries_of D.program r) Γ).1))
  statement-given last Γ p (Assign x a) =
      (_, gives-map (λ _. Γ) (gives_then _ (expression_ordered D Γ a) (gives-known 0 (variable_type D.program Γ x) Unknown p _ (gives-held _ TypeRule p))))
  statement-given last Γ p (AssignElement a i b) =
      (_, gives-map (λ _. Γ) (gives_then _ (expression_ordered D Γ a) (gives_then _ (expression_ordered D Γ i) (gives_then _ (expression_ordered D Γ b) (gives-held _ TypeRule p)))))
  statement-given last Γ p (If g a) = (_, gives_then _ (expression_ordered D Γ g) (gives_then _ (h false Γ a) (gives-test _ TypeRule p _ (gives_good Γ))))
  statement-given last Γ p (IfElse g a b) =
      (_, gives_then _ (expression_ordered D Γ g) (gives_then _ (h false Γ a) (gives_then _ (h false Γ b) (gives-test _ TypeRule p _ (gives_good Γ)))))
  statement-given last Γ p (While g a) = (_, gives_then _ (expression_ordered D Γ g) (gives_then _ (h false Γ a) (gives-test _ TypeRule p _ (gives_good Γ))))
  statement-given last Γ p (Return r) =
      (_, gives-map (λ _. Γ) (gives_then _ (fits Γ (entries_of D.program r) owed) (gives-test _ Count p _ (gives-test _ TypeRule p _ (gives-held last ReturnRule p)))))
  statement-given last Γ p (CallStatement a) = (_, gives-map (λ _. Γ) (call_ordered D Γ 0 a))
  statement-given last Γ p (Target x t) = (Γ, gives-never p Γ)
  statement-given last Γ p Discard = (Γ, gives-never p Γ)
  statement-given last Γ p (Block r) =
      (_, gives-map (λ _. Γ) (block_given (after_at D owed k) (statement_at D owed k) (λ l Δ m. value_or Δ (after_at D owed k l Δ m)) h (entries_of D.program r) Γ).1)

after_given : (D : Decoded) (owed : List ℕ) (k : ℕ) (last : Bool) (Γ : Scope) (n : ℕ) → Gives (after_at D owed k last Γ n) (statement_at D owed k last Γ n) (value_or Γ (after_at D owed k last Γ n))
after_given D owed zero last Γ n = gives_value Γ (gives-never 0 Γ)
after_given D owed (suc k) last Γ n = gives_value Γ (statement-given D owed k (after_given D owed k) last Γ (offset_of D n) (node_at D.program n)).1

-- the scope after a statement, or the first broken of its tests
pub statement_ordered : (D : Decoded) (owed : List ℕ) (last : Bool) (Γ : Scope) (n : ℕ) → Gives (after_of D owed last Γ n) (tests_of_statement D owed last Γ n) (value_or Γ (after_of D owed last Γ n))
unfolding after_of tests_of_statement
statement_ordered D owed last Γ n = after_given D owed (suc n) last Γ n
