-- The tests of a sheet that was read, one after another in the order that is laid down: a test is a rule at a place, and whether it holds.
-- Where a test speaks of what an earlier one found (a type, a scope), it uses what the walk gives there, or a default where that was refused.
use Rattle.std.specs.Prelude.{◌≡◌, ℕ, zero, suc, ◌+◌, ◌-◌, ◌*◌, Bool, true, false, not, ◌&&◌, ◌||◌, List, [], ◌∷◌, ◌++◌, map, length, get_or, take, replicate, ◌==◌, nat_le, nat_lt, slice_index, slice_index_or, slice_set}
use Rattle.std.proofs.Math.Option.{Option, none, some}
use Rattle.xi.specs.declared.node.Node.{Node}
use Rattle.xi.specs.declared.node.Node.TheVariants.{Number, Truth, Text, Variable, Element, Length, Unary, Binary, Constructor, Call, LibraryCall}
use Rattle.xi.specs.declared.node.Node.TheVariants.{Declare, DeclareValue, DeclareCall, Assign, AssignElement, If, IfElse, While, Return, CallStatement, Target, Discard, Block}
use Rattle.xi.specs.declared.node.UnaryOperator.{UnaryOperator}
use Rattle.xi.specs.declared.node.UnaryOperator.TheVariants.{Minus, Not}
use Rattle.xi.specs.declared.node.Operator.{Operator}
use Rattle.xi.specs.declared.node.Operator.TheVariants.{Add, Subtract, Multiply, Divide, Remainder, Less, LessEqual, Greater, GreaterEqual, Equal, NotEqual, And, Or}
use Rattle.xi.specs.declared.program.GlobalVariable.{GlobalVariable}
use Rattle.xi.specs.declared.program.Parameter.{Parameter}
use Rattle.xi.specs.declared.rule.Rule.{Rule}
use Rattle.xi.specs.declared.rule.Rule.TheVariants.{Range, Tree as TreeRule, Unknown, Taken, «Type» as TypeRule, Count, Return as ReturnRule, Main}
use Rattle.xi.specs.Program.{Program, items_of}
use Rattle.sheet.specs.Outcome.{Outcome, good, bad, then, held}
use Rattle.sheet.specs.Sheets.{Decoded}
use Rattle.xi.specs.Tree.{node_at, entries_of, suits, sort_of, Part}
use Rattle.xi.specs.Typing.{Binding, binding, Scope, pushed, variable_type, function_named, parameters_of, results_of, types_of, library_takes, library_gives, target_bindings}
use Rattle.checker.specs.declared.mark.Mark.{Mark}
use Rattle.checker.specs.declared.mark.Mark.TheVariants.{Free, PartOf, Body}
use Rattle.checker.specs.Trees.{offset_of, no_function, function_at, parts_in, is_free, is_block, levels}
use Rattle.checker.specs.Walk.{is_some, is_empty, agree, targets_fit, type_at, type_of, call_of, after_at, ends_of}
use Rattle.checker.specs.Checked.{has_name, no_global, no_parameter, global_name, function_name, parameter_name, main_fits, main_in}

pub record Test : Type 0 where
  pub holds : Bool
  pub rule : Rule
  pub place : ℕ

abbrev pub test : Bool → Rule → ℕ → Test
test b k p = record { holds = b; rule = k; place = p }

-- the answer to tests in order: the first that does not hold
abbrev pub first_broken : List Test → Outcome (Unit {0})
first_broken [] = good tt
first_broken (t ∷ ts) = then (held t.holds t.rule t.place) (λ _. first_broken ts)

abbrev pub value_or : {A : Type 0} → A → Outcome A → A
value_or d (good x) = x
value_or d (bad k p) = d

abbrev pub or_else : {A : Type 0} → A → Option A → A
or_else d none = d
or_else d (some x) = x

-- the tests of each of the parts ns, in order
abbrev pub each : (ℕ → List Test) → List ℕ → List Test
each go [] = []
each go (n ∷ ns) = go n ++ each go ns

abbrev pub unary_fits : UnaryOperator → ℕ → Bool
unary_fits Minus t = t == 0
unary_fits Not t = t == 1

abbrev pub operator_fits : Operator → ℕ → ℕ → Bool
operator_fits Add t u = t == u && not (t == 1)
operator_fits Subtract t u = t == 0 && u == 0
operator_fits Multiply t u = t == 0 && u == 0
operator_fits Divide t u = t == 0 && u == 0
operator_fits Remainder t u = t == 0 && u == 0
operator_fits Less t u = t == 0 && u == 0
operator_fits LessEqual t u = t == 0 && u == 0
operator_fits Greater t u = t == 0 && u == 0
operator_fits GreaterEqual t u = t == 0 && u == 0
operator_fits Equal t u = t == u
operator_fits NotEqual t u = t == u
operator_fits And t u = t == 1 && u == 1
operator_fits Or t u = t == 1 && u == 1

-- a call at p of what takes and gives these types, where k results are asked: the counts, the arguments, and then their types
abbrev pub called_tests : (ℕ → List Test) → (ℕ → ℕ) → List ℕ → ℕ → ℕ → List ℕ → List ℕ → List Test
called_tests go type ns k p takes gives =
    test (length ns == length takes) Count p
    ∷ (test (length gives == k) Count p
    ∷ (each go ns ++ (test (agree (map type ns) takes) TypeRule p ∷ [])))

-- the function, and then the call of it
abbrev pub call_tests : (ℕ → List Test) → (ℕ → ℕ) → Program → ℕ → ℕ → Node → List Test
call_tests go type P k p (Number c) = test false TreeRule p ∷ []
call_tests go type P k p (Truth b) = test false TreeRule p ∷ []
call_tests go type P k p (Text r) = test false TreeRule p ∷ []
call_tests go type P k p (Variable x) = test false TreeRule p ∷ []
call_tests go type P k p (Element a i) = test false TreeRule p ∷ []
call_tests go type P k p (Length a) = test false TreeRule p ∷ []
call_tests go type P k p (Unary o a) = test false TreeRule p ∷ []
call_tests go type P k p (Binary o a b) = test false TreeRule p ∷ []
call_tests go type P k p (Constructor t r) = test false TreeRule p ∷ []
call_tests go type P k p (Call x r) =
    test (is_some (function_named P.functions x)) Unknown p
    ∷ called_tests go type (entries_of P r) k p (types_of (parameters_of P (or_else no_function (function_named P.functions x)))) (results_of P (or_else no_function (function_named P.functions x)))
call_tests go type P k p (LibraryCall f r) = called_tests go type (entries_of P r) k p (library_takes f) (library_gives f)
call_tests go type P k p (Declare x t r) = test false TreeRule p ∷ []
call_tests go type P k p (DeclareValue x t a) = test false TreeRule p ∷ []
call_tests go type P k p (DeclareCall a r) = test false TreeRule p ∷ []
call_tests go type P k p (Assign x a) = test false TreeRule p ∷ []
call_tests go type P k p (AssignElement a i b) = test false TreeRule p ∷ []
call_tests go type P k p (If g a) = test false TreeRule p ∷ []
call_tests go type P k p (IfElse g a b) = test false TreeRule p ∷ []
call_tests go type P k p (While g a) = test false TreeRule p ∷ []
call_tests go type P k p (Return r) = test false TreeRule p ∷ []
call_tests go type P k p (CallStatement a) = test false TreeRule p ∷ []
call_tests go type P k p (Target x t) = test false TreeRule p ∷ []
call_tests go type P k p Discard = test false TreeRule p ∷ []
call_tests go type P k p (Block r) = test false TreeRule p ∷ []

-- the parts of an expression left to right, and then its own test: go has the tests of a part, type its type
abbrev pub expression_tests : (ℕ → List Test) → (ℕ → ℕ) → Program → Scope → ℕ → Node → List Test
expression_tests go type P Γ p (Number c) = []
expression_tests go type P Γ p (Truth b) = []
expression_tests go type P Γ p (Text r) = []
expression_tests go type P Γ p (Variable x) = test (is_some (variable_type P Γ x)) Unknown p ∷ []
expression_tests go type P Γ p (Element a i) = go a ++ (go i ++ (test (nat_le 2 (type a) && type i == 0) TypeRule p ∷ []))
expression_tests go type P Γ p (Length a) = go a ++ (test (nat_le 2 (type a)) TypeRule p ∷ [])
expression_tests go type P Γ p (Unary o a) = go a ++ (test (unary_fits o (type a)) TypeRule p ∷ [])
expression_tests go type P Γ p (Binary o a b) = go a ++ (go b ++ (test (operator_fits o (type a) (type b)) TypeRule p ∷ []))
expression_tests go type P Γ p (Constructor t r) =
    each go (entries_of P r) ++ (test (agree (map type (entries_of P r)) (replicate (length (entries_of P r)) t.number)) TypeRule p ∷ [])
expression_tests go type P Γ p (Call x r) = call_tests go type P 1 p (Call x r)
expression_tests go type P Γ p (LibraryCall f r) = call_tests go type P 1 p (LibraryCall f r)
expression_tests go type P Γ p (Declare x t r) = test false TreeRule p ∷ []
expression_tests go type P Γ p (DeclareValue x t a) = test false TreeRule p ∷ []
expression_tests go type P Γ p (DeclareCall a r) = test false TreeRule p ∷ []
expression_tests go type P Γ p (Assign x a) = test false TreeRule p ∷ []
expression_tests go type P Γ p (AssignElement a i b) = test false TreeRule p ∷ []
expression_tests go type P Γ p (If g a) = test false TreeRule p ∷ []
expression_tests go type P Γ p (IfElse g a b) = test false TreeRule p ∷ []
expression_tests go type P Γ p (While g a) = test false TreeRule p ∷ []
expression_tests go type P Γ p (Return r) = test false TreeRule p ∷ []
expression_tests go type P Γ p (CallStatement a) = test false TreeRule p ∷ []
expression_tests go type P Γ p (Target x t) = test false TreeRule p ∷ []
expression_tests go type P Γ p Discard = test false TreeRule p ∷ []
expression_tests go type P Γ p (Block r) = test false TreeRule p ∷ []

-- the tests of the expression n in the scope Γ, at most k deep
abbrev pub expression_at : Decoded → Scope → ℕ → ℕ → List Test
expression_at D Γ zero n = test false TreeRule 0 ∷ []
expression_at D Γ (suc k) n = expression_tests (expression_at D Γ k) (λ m. value_or 0 (type_at D Γ k m)) D.program Γ (offset_of D n) (node_at D.program n)

unfoldable pub tests_of_expression : Decoded → Scope → ℕ → List Test
tests_of_expression D Γ n = expression_at D Γ (suc n) n

unfoldable pub tests_of_call : Decoded → Scope → ℕ → ℕ → List Test
tests_of_call D Γ k n = call_tests (tests_of_expression D Γ) (λ m. value_or 0 (type_of D Γ m)) D.program k (offset_of D n) (node_at D.program n)

-- a name that is declared at p: one of at most 64 in scope, and not taken
abbrev pub declaration_tests : Program → Scope → Binding → ℕ → List Test
declaration_tests P Γ b p = test (nat_lt (length Γ) 64) Range p ∷ (test (not (is_some (variable_type P Γ b.name))) Taken p ∷ [])

abbrev pub declarations_tests : Program → ℕ → List Binding → Scope → List Test
declarations_tests P p [] Γ = []
declarations_tests P p (b ∷ bs) Γ = declaration_tests P Γ b p ++ declarations_tests P p bs (b ∷ Γ)

-- the targets, one after another, each at its own place
abbrev pub targets_tests : Decoded → List ℕ → Scope → List Test
targets_tests D [] Γ = []
targets_tests D (n ∷ ns) Γ =
    declarations_tests D.program (offset_of D n) (target_bindings (node_at D.program n)) Γ
    ++ targets_tests D ns (pushed (target_bindings (node_at D.program n)) Γ)

-- the entries of a block in order: `go` has the tests of one, `scope` the scope behind it
abbrev pub block_tests : (Bool → Scope → ℕ → List Test) → (Bool → Scope → ℕ → Scope) → List ℕ → Scope → List Test
block_tests go scope [] Γ = []
block_tests go scope (n ∷ ns) Γ = go (is_empty ns) Γ n ++ block_tests go scope ns (scope (is_empty ns) Γ n)

-- the parts of a statement left to right, and then its own tests
abbrev pub statement_tests : (ℕ → List Test) → (ℕ → ℕ) → (ℕ → ℕ → List Test) → (ℕ → ℕ → List ℕ) → (ℕ → List Test) → (List ℕ → List Test) → Decoded → List ℕ → Bool → Scope → ℕ → Node → List Test
statement_tests go type call gives lone block D owed last Γ p (Number c) = test false TreeRule p ∷ []
statement_tests go type call gives lone block D owed last Γ p (Truth b) = test false TreeRule p ∷ []
statement_tests go type call gives lone block D owed last Γ p (Text r) = test false TreeRule p ∷ []
statement_tests go type call gives lone block D owed last Γ p (Variable x) = test false TreeRule p ∷ []
statement_tests go type call gives lone block D owed last Γ p (Element a i) = test false TreeRule p ∷ []
statement_tests go type call gives lone block D owed last Γ p (Length a) = test false TreeRule p ∷ []
statement_tests go type call gives lone block D owed last Γ p (Unary o a) = test false TreeRule p ∷ []
statement_tests go type call gives lone block D owed last Γ p (Binary o a b) = test false TreeRule p ∷ []
statement_tests go type call gives lone block D owed last Γ p (Constructor t r) = test false TreeRule p ∷ []
statement_tests go type call gives lone block D owed last Γ p (Call x r) = test false TreeRule p ∷ []
statement_tests go type call gives lone block D owed last Γ p (LibraryCall f r) = test false TreeRule p ∷ []
statement_tests go type call gives lone block D owed last Γ p (Declare x t r) =
    each go (entries_of D.program r)
    ++ (test (agree (map type (entries_of D.program r)) (replicate (length (entries_of D.program r)) 0)) TypeRule p
    ∷ declaration_tests D.program Γ (binding x t) p)
statement_tests go type call gives lone block D owed last Γ p (DeclareValue x t a) =
    go a ++ (test (type a == t.number) TypeRule p ∷ declaration_tests D.program Γ (binding x t) p)
statement_tests go type call gives lone block D owed last Γ p (DeclareCall a r) =
    call (length (entries_of D.program r)) a
    ++ (test (targets_fit D.program (entries_of D.program r) (gives (length (entries_of D.program r)) a)) TypeRule p
    ∷ targets_tests D (entries_of D.program r) Γ)
statement_tests go type call gives lone block D owed last Γ p (Assign x a) =
    go a
    ++ (test (is_some (variable_type D.program Γ x)) Unknown p
    ∷ (test (type a == or_else 0 (variable_type D.program Γ x)) TypeRule p ∷ []))
statement_tests go type call gives lone block D owed last Γ p (AssignElement a i b) =
    go a ++ (go i ++ (go b ++ (test (nat_le 2 (type a) && (type i == 0 && type a - 2 == type b)) TypeRule p ∷ [])))
statement_tests go type call gives lone block D owed last Γ p (If g a) = go g ++ (lone a ++ (test (type g == 1) TypeRule p ∷ []))
statement_tests go type call gives lone block D owed last Γ p (IfElse g a b) = go g ++ (lone a ++ (lone b ++ (test (type g == 1) TypeRule p ∷ [])))
statement_tests go type call gives lone block D owed last Γ p (While g a) = go g ++ (lone a ++ (test (type g == 1) TypeRule p ∷ []))
statement_tests go type call gives lone block D owed last Γ p (Return r) =
    each go (entries_of D.program r)
    ++ (test (length (entries_of D.program r) == length owed) Count p
    ∷ (test (agree (map type (entries_of D.program r)) owed) TypeRule p
    ∷ (test last ReturnRule p ∷ [])))
statement_tests go type call gives lone block D owed last Γ p (CallStatement a) = call 0 a
statement_tests go type call gives lone block D owed last Γ p (Target x t) = test false TreeRule p ∷ []
statement_tests go type call gives lone block D owed last Γ p Discard = test false TreeRule p ∷ []
statement_tests go type call gives lone block D owed last Γ p (Block r) = block (entries_of D.program r)

-- the tests of the statement n in the scope Γ, at most k deep
abbrev pub statement_at : Decoded → List ℕ → ℕ → Bool → Scope → ℕ → List Test
statement_at D owed zero last Γ n = test false TreeRule 0 ∷ []
statement_at D owed (suc k) last Γ n =
    statement_tests (tests_of_expression D Γ) (λ m. value_or 0 (type_of D Γ m)) (tests_of_call D Γ) (λ j m. value_or [] (call_of D Γ j m)) (statement_at D owed k false Γ)
    (λ ns. block_tests (statement_at D owed k) (λ l Δ m. value_or Δ (after_at D owed k l Δ m)) ns Γ) D owed last Γ (offset_of D n) (node_at D.program n)

unfoldable pub tests_of_statement : Decoded → List ℕ → Bool → Scope → ℕ → List Test
tests_of_statement D owed last Γ n = statement_at D owed (suc n) last Γ n

-- n steps, numbered from i on: their tests, and where they lead
abbrev pub step_tests : {S : Type 0} → (ℕ → S → List Test) → (ℕ → S → S) → ℕ → ℕ → S → List Test
step_tests tests next zero i s = []
step_tests tests next (suc n) i s = tests i s ++ step_tests tests next n (i + 1) (next i s)

abbrev pub steps_lead : {S : Type 0} → (ℕ → S → S) → ℕ → ℕ → S → S
steps_lead next zero i s = s
steps_lead next (suc n) i s = steps_lead next n (i + 1) (next i s)

-- the parts of node n are claimed in order: u has a mark for each node
abbrev pub claim_tests : Decoded → ℕ → List Part → List Mark → List Test
claim_tests D n [] u = []
claim_tests D n (p ∷ ps) u =
    test (nat_lt p.number n && (suits p.place (sort_of (node_at D.program p.number)) && is_free (slice_index_or u p.number Free))) TreeRule (offset_of D n)
    ∷ claim_tests D n ps (slice_set u p.number (PartOf n))

abbrev pub claim_marks : ℕ → List Part → List Mark → List Mark
claim_marks n [] u = u
claim_marks n (p ∷ ps) u = claim_marks n ps (slice_set u p.number (PartOf n))

abbrev pub node_tests : Decoded → ℕ → List Mark → List Test
node_tests D n u = claim_tests D n (parts_in D.program (node_at D.program n)) u

abbrev pub node_marks : Decoded → ℕ → List Mark → List Mark
node_marks D n u = claim_marks n (parts_in D.program (node_at D.program n)) u

abbrev pub body_tests : Decoded → ℕ → List Mark → List Test
body_tests D i u =
    test (nat_lt (function_at D.program i).body (length D.program.nodes) && (is_block (sort_of (node_at D.program (function_at D.program i).body)) && is_free (slice_index_or u (function_at D.program i).body Free))) TreeRule (slice_index D.function_places i)
    ∷ []

abbrev pub body_marks : Decoded → ℕ → List Mark → List Mark
body_marks D i u = slice_set u (function_at D.program i).body Body

-- the marks after all parts, and after all bodies
abbrev pub part_marks : Decoded → List Mark
part_marks D = steps_lead (node_marks D) (length D.program.nodes) 0 (replicate (length D.program.nodes) Free)

abbrev pub all_marks : Decoded → List Mark
all_marks D = steps_lead (body_marks D) (length D.program.functions) 0 (part_marks D)

abbrev pub used_tests : Decoded → ℕ → Unit {0} → List Test
used_tests D n _ = test (not (is_free (slice_index_or (all_marks D) n Free))) TreeRule (offset_of D n) ∷ []

abbrev pub shallow_tests : Decoded → ℕ → Unit {0} → List Test
shallow_tests D n _ = test (nat_le (slice_index (levels (all_marks D) (length D.program.nodes) (replicate (length D.program.nodes) 0)) n) 32) TreeRule (offset_of D n) ∷ []

-- a step that leads nowhere else
abbrev pub stays : ℕ → Unit {0} → Unit {0}
stays i s = tt

-- parts by node, bodies by function, unused nodes, nodes too deep
abbrev pub tree_tests : Decoded → List Test
tree_tests D =
    step_tests (node_tests D) (node_marks D) (length D.program.nodes) 0 (replicate (length D.program.nodes) Free)
    ++ (step_tests (body_tests D) (body_marks D) (length D.program.functions) 0 (part_marks D)
    ++ (step_tests (used_tests D) stays (length D.program.nodes) 0 tt
    ++ step_tests (shallow_tests D) stays (length D.program.nodes) 0 tt))

abbrev pub global_tests : Decoded → ℕ → Unit {0} → List Test
global_tests D i _ = test (not (has_name global_name (take i D.program.globals) (get_or D.program.globals i no_global).name)) Taken (D.globals_at + 12 * i) ∷ []

abbrev pub function_tests : Decoded → ℕ → Unit {0} → List Test
function_tests D i _ = test (not (has_name function_name (take i D.program.functions) (function_at D.program i).name)) Taken (slice_index D.function_places i) ∷ []

abbrev pub parameter_tests : List GlobalVariable → List Parameter → ℕ → ℕ → Unit {0} → List Test
parameter_tests gs ps p j _ = test (not (has_name global_name gs (get_or ps j no_parameter).name) && not (has_name parameter_name (take j ps) (get_or ps j no_parameter).name)) Taken p ∷ []

abbrev pub parameters_tests : Decoded → ℕ → Unit {0} → List Test
parameters_tests D i _ =
    step_tests (parameter_tests D.program.globals (items_of D.program.parameters (function_at D.program i).parameters) (slice_index D.function_places i)) stays
    (length (items_of D.program.parameters (function_at D.program i).parameters)) 0 tt

-- globals, function names, parameters by function, `main`
abbrev pub name_tests : Decoded → List Test
name_tests D =
    step_tests (global_tests D) stays (length D.program.globals) 0 tt
    ++ (step_tests (function_tests D) stays (length D.program.functions) 0 tt
    ++ (step_tests (parameters_tests D) stays (length D.program.functions) 0 tt
    ++ (test (main_fits D.program (main_in D.program D.program.functions)) Main D.functions_at ∷ [])))

-- a body, and at once that it ends where its function has results
abbrev pub function_body_tests : Decoded → ℕ → Unit {0} → List Test
function_body_tests D i _ =
    tests_of_statement D (results_of D.program (function_at D.program i)) false (pushed (parameters_of D.program (function_at D.program i)) []) (function_at D.program i).body
    ++ (test (is_empty (results_of D.program (function_at D.program i)) || ends_of D.program (function_at D.program i).body) ReturnRule (offset_of D (function_at D.program i).body) ∷ [])

-- all tests of a sheet that was read
abbrev pub tests_of : Decoded → List Test
tests_of D = tree_tests D ++ (name_tests D ++ step_tests (function_body_tests D) stays (length D.program.functions) 0 tt)

abbrev pub AllHold : List Test → Type 0
AllHold [] = Unit {0}
AllHold (t ∷ ts) = (t.holds ≡ true) × AllHold ts

-- the rule k at p is broken, and no test before it
pub record FirstBroken (ts : List Test) (k : Rule) (p : ℕ) : Type 0 where
  pub before : List Test
  pub behind : List Test
  pub order : ts ≡ before ++ (test false k p ∷ behind)
  pub hold : AllHold before
