-- The walk does not depend on how deep one may go, once that is deep enough.
use Rattle.std.proofs.Common.{◌≡◌, ℕ, zero, suc, ◌+◌, ◌-◌, ◌<◌, Bool, true, false, cond, ◌&&◌, eqb, leb, List, [], ◌∷◌, ◌++◌, length, replicate, refl, ap, append-nil, arith}
use Rattle.xi.specs.declared.node.Node.{Node}
use Rattle.xi.specs.declared.node.Node.TheVariants.{Number, Truth, Text, Variable, Element, Length, Unary, Binary, Constructor, Call, LibraryCall}
use Rattle.xi.specs.declared.node.Node.TheVariants.{Declare, DeclareValue, DeclareCall, Assign, AssignElement, If, IfElse, While, Return, CallStatement, Target, Discard, Block}
use Rattle.xi.specs.declared.rule.Rule.TheVariants.{«Type» as TypeRule, Count, Unknown}
use Rattle.xi.specs.Program.{Program}
use Rattle.xi.specs.Tree.{node_at, entries_of, Place, expression_place, statement_place, Part, all, decides_early, parts_of, Each}
use Rattle.xi.specs.Typing.{Scope, parameters_of, results_of, types_of, function_named, library_takes, library_gives}
use Rattle.sheet.specs.Outcome.{Outcome, good, then, held}
use Rattle.sheet.specs.Sheets.{Decoded}
use Rattle.checker.specs.Trees.{offset_of, parts_in}
use Rattle.checker.specs.Walk.{known, is_empty, types_each, agree, operands, unary_gives, operator_gives, called, call_node, first_of, type_node, type_at, type_of, call_of, after_all, after_node, after_at, after_of, ends_last, ends_node, ends_at, ends_of}

-- the parts are among the nodes before n
abbrev pub Below : ℕ → List Part → Type 0
Below n ps = Each (λ (p : Part). p.number < n) ps

-- the types of a run depend on its nodes alone
types_ext : (go go' : ℕ → Outcome ℕ) (n : ℕ) (π : Place) (ns : List ℕ) → Below n (all π ns) → ((l : ℕ) → l < n → go l ≡ go' l) → types_each go ns ≡ types_each go' ns
types_ext go go' n π [] b h = refl
types_ext go go' n π (a ∷ ns) b h = λ i. then (h a b.0 i) (λ t. then (types_ext go go' n π ns b.1 h i) (λ ts. good (t ∷ ts)))

-- a call asks its arguments alone
called_ext : (go go' : ℕ → Outcome ℕ) (ns : List ℕ) (k p : ℕ) (ts us : List ℕ) → types_each go ns ≡ types_each go' ns → called go ns k p ts us ≡ called go' ns k p ts us
called_ext go go' ns k p ts us e =
    λ i. then (then (held (eqb (length ns) (length ts)) Count p) (λ _.
    then (held (eqb (length us) k) Count p) (λ _.
    then (then (e i) (λ vs. good (agree vs ts))) (λ b.
    held b TypeRule p)))) (λ _. good us)

module _ (go go' : ℕ → Outcome ℕ) (P : Program) (n : ℕ) (h : (l : ℕ) → l < n → go l ≡ go' l) where
  -- a call depends on its parts alone
  pub call-ext : (k p : ℕ) (d : Node) → Below n (parts_in P d) → call_node go P k p d ≡ call_node go' P k p d
  call-ext k p (Number c) b = refl
  call-ext k p (Truth c) b = refl
  call-ext k p (Text r) b = refl
  call-ext k p (Variable x) b = refl
  call-ext k p (Element a i) b = refl
  call-ext k p (Length a) b = refl
  call-ext k p (Unary o a) b = refl
  call-ext k p (Binary o a c) b = refl
  call-ext k p (Constructor t r) b = refl
  call-ext k p (Call x r) b =
      λ i. then (known (function_named P.functions x) Unknown p) (λ F. called_ext go go' (entries_of P r) k p (types_of (parameters_of P F)) (results_of P F) (types_ext go go' n expression_place (entries_of P r) b h) i)
  call-ext k p (LibraryCall f r) b = called_ext go go' (entries_of P r) k p (library_takes f) (library_gives f) (types_ext go go' n expression_place (entries_of P r) b h)
  call-ext k p (Declare x t r) b = refl
  call-ext k p (DeclareValue x t a) b = refl
  call-ext k p (DeclareCall a r) b = refl
  call-ext k p (Assign x a) b = refl
  call-ext k p (AssignElement a i c) b = refl
  call-ext k p (If g a) b = refl
  call-ext k p (IfElse g a c) b = refl
  call-ext k p (While g a) b = refl
  call-ext k p (Return r) b = refl
  call-ext k p (CallStatement a) b = refl
  call-ext k p (Target x t) b = refl
  call-ext k p Discard b = refl
  call-ext k p (Block r) b = refl

  -- a type depends on the parts alone
  pub type-ext : (Γ : Scope) (p : ℕ) (d : Node) → Below n (parts_in P d) → type_node go P Γ p d ≡ type_node go' P Γ p d
  type-ext Γ p (Number c) b = refl
  type-ext Γ p (Truth c) b = refl
  type-ext Γ p (Text r) b = refl
  type-ext Γ p (Variable x) b = refl
  type-ext Γ p (Element a i) b = λ j. then (h a b.0 j) (λ t. then (h i b.1.0 j) (λ u. operands (leb 2 t && eqb u 0) p (t - 2)))
  type-ext Γ p (Length a) b = λ j. then (h a b.0 j) (λ t. operands (leb 2 t) p 0)
  type-ext Γ p (Unary o a) b = λ j. then (h a b.0 j) (λ t. unary_gives o t p)
  type-ext Γ p (Binary o a c) b = λ j. then (h a b.0 j) (λ t. then (h c b.1.0 j) (λ u. operator_gives o t u p))
  type-ext Γ p (Constructor t r) b =
      λ j. then (then (types_ext go go' n expression_place (entries_of P r) b h j) (λ ts. good (agree ts (replicate (length (entries_of P r)) t.number)))) (λ v. operands v p (t.number + 2))
  type-ext Γ p (Call x r) b = ap (λ o. then o (λ ts. good (first_of ts))) (call-ext 1 p (Call x r) b)
  type-ext Γ p (LibraryCall f r) b = ap (λ o. then o (λ ts. good (first_of ts))) (call-ext 1 p (LibraryCall f r) b)
  type-ext Γ p (Declare x t r) b = refl
  type-ext Γ p (DeclareValue x t a) b = refl
  type-ext Γ p (DeclareCall a r) b = refl
  type-ext Γ p (Assign x a) b = refl
  type-ext Γ p (AssignElement a i c) b = refl
  type-ext Γ p (If g a) b = refl
  type-ext Γ p (IfElse g a c) b = refl
  type-ext Γ p (While g a) b = refl
  type-ext Γ p (Return r) b = refl
  type-ext Γ p (CallStatement a) b = refl
  type-ext Γ p (Target x t) b = refl
  type-ext Γ p Discard b = refl
  type-ext Γ p (Block r) b = refl

-- the entries of a block depend on themselves alone
all_ext : (go go' : Bool → Scope → ℕ → Outcome Scope) (n : ℕ) (π : Place) (ns : List ℕ) (Γ : Scope) → Below n (all π ns) → ((v : Bool) (Δ : Scope) (l : ℕ) → l < n → go v Δ l ≡ go' v Δ l) → after_all go ns Γ ≡ after_all go' ns Γ
all_ext go go' n π [] Γ b h = refl
all_ext go go' n π (a ∷ ns) Γ b h = λ i. then (h (is_empty ns) Γ a b.0 i) (λ Δ. all_ext go go' n π ns Δ b.1 h i)

-- only the statements under a node matter, where its expressions are typed alike
after_ext : (type : ℕ → Outcome ℕ) (call : ℕ → ℕ → Outcome (List ℕ)) (go go' : Bool → Scope → ℕ → Outcome Scope) (D : Decoded) (owed : List ℕ) (v : Bool) (Γ : Scope) (p n : ℕ) (d : Node) →
    Below n (parts_in D.program d) → ((v : Bool) (Δ : Scope) (l : ℕ) → l < n → go v Δ l ≡ go' v Δ l) →
    after_node type call (go false Γ) (λ ns. after_all go ns Γ) D owed v Γ p d ≡ after_node type call (go' false Γ) (λ ns. after_all go' ns Γ) D owed v Γ p d
after_ext type call go go' D owed v Γ p n (Number c) b h = refl
after_ext type call go go' D owed v Γ p n (Truth c) b h = refl
after_ext type call go go' D owed v Γ p n (Text r) b h = refl
after_ext type call go go' D owed v Γ p n (Variable x) b h = refl
after_ext type call go go' D owed v Γ p n (Element a i) b h = refl
after_ext type call go go' D owed v Γ p n (Length a) b h = refl
after_ext type call go go' D owed v Γ p n (Unary o a) b h = refl
after_ext type call go go' D owed v Γ p n (Binary o a c) b h = refl
after_ext type call go go' D owed v Γ p n (Constructor t r) b h = refl
after_ext type call go go' D owed v Γ p n (Call x r) b h = refl
after_ext type call go go' D owed v Γ p n (LibraryCall f r) b h = refl
after_ext type call go go' D owed v Γ p n (Declare x t r) b h = refl
after_ext type call go go' D owed v Γ p n (DeclareValue x t a) b h = refl
after_ext type call go go' D owed v Γ p n (DeclareCall a r) b h = refl
after_ext type call go go' D owed v Γ p n (Assign x a) b h = refl
after_ext type call go go' D owed v Γ p n (AssignElement a i c) b h = refl
after_ext type call go go' D owed v Γ p n (If g a) b h =
    λ i. then (type g) (λ t. then (h false Γ a b.1.0 i) (λ _. then (held (eqb t 1) TypeRule p) (λ _. good Γ)))
after_ext type call go go' D owed v Γ p n (IfElse g a c) b h =
    λ i. then (type g) (λ t. then (h false Γ a b.1.0 i) (λ _. then (h false Γ c b.1.1.0 i) (λ _. then (held (eqb t 1) TypeRule p) (λ _. good Γ))))
after_ext type call go go' D owed v Γ p n (While g a) b h =
    λ i. then (type g) (λ t. then (h false Γ a b.1.0 i) (λ _. then (held (eqb t 1) TypeRule p) (λ _. good Γ)))
after_ext type call go go' D owed v Γ p n (Return r) b h = refl
after_ext type call go go' D owed v Γ p n (CallStatement a) b h = refl
after_ext type call go go' D owed v Γ p n (Target x t) b h = refl
after_ext type call go go' D owed v Γ p n Discard b h = refl
after_ext type call go go' D owed v Γ p n (Block r) b h = ap (λ o. then o (λ _. good Γ)) (all_ext go go' n statement_place (entries_of D.program r) Γ b h)

-- the end of a block depends on its entries alone
last_ext : (go go' : ℕ → Bool) (n : ℕ) (π : Place) (ns : List ℕ) → Below n (all π ns) → ((l : ℕ) → l < n → go l ≡ go' l) → ends_last go ns ≡ ends_last go' ns
last_ext go go' n π [] b h = refl
last_ext go go' n π (a ∷ []) b h = h a b.0
last_ext go go' n π (a ∷ c ∷ ns) b h = last_ext go go' n π (c ∷ ns) b.1 h

-- the end of a statement depends on its parts alone
ends_ext : (go go' : ℕ → Bool) (P : Program) (n : ℕ) (d : Node) → Below n (parts_in P d) → ((l : ℕ) → l < n → go l ≡ go' l) → ends_node go P d ≡ ends_node go' P d
ends_ext go go' P n (Number c) b h = refl
ends_ext go go' P n (Truth c) b h = refl
ends_ext go go' P n (Text r) b h = refl
ends_ext go go' P n (Variable x) b h = refl
ends_ext go go' P n (Element a i) b h = refl
ends_ext go go' P n (Length a) b h = refl
ends_ext go go' P n (Unary o a) b h = refl
ends_ext go go' P n (Binary o a c) b h = refl
ends_ext go go' P n (Constructor t r) b h = refl
ends_ext go go' P n (Call x r) b h = refl
ends_ext go go' P n (LibraryCall f r) b h = refl
ends_ext go go' P n (Declare x t r) b h = refl
ends_ext go go' P n (DeclareValue x t a) b h = refl
ends_ext go go' P n (DeclareCall a r) b h = refl
ends_ext go go' P n (Assign x a) b h = refl
ends_ext go go' P n (AssignElement a i c) b h = refl
ends_ext go go' P n (If g a) b h = refl
ends_ext go go' P n (IfElse g a c) b h = λ i. h a b.1.0 i && h c b.1.1.0 i
ends_ext go go' P n (While g a) b h = refl
ends_ext go go' P n (Return r) b h = refl
ends_ext go go' P n (CallStatement a) b h = refl
ends_ext go go' P n (Target x t) b h = refl
ends_ext go go' P n Discard b h = refl
ends_ext go go' P n (Block r) b h = last_ext go go' n statement_place (entries_of P r) b h

-- every part has a smaller number than its node
abbrev pub PartsBelow : Program → Type 0
PartsBelow P = (n : ℕ) → Below n (parts_in P (node_at P n))

module _ (D : Decoded) (below : PartsBelow D.program) where
  -- a type at any two depths that are deep enough
  type-same : (Γ : Scope) (j k n : ℕ) → n < j → n < k → type_at D Γ j n ≡ type_at D Γ k n
  type-same Γ zero k n g h = absurd (omega arith)
  type-same Γ (suc j) zero n g h = absurd (omega arith)
  type-same Γ (suc j) (suc k) n g h = type-ext (type_at D Γ j) (type_at D Γ k) D.program n (λ m l. type-same Γ j k m (omega arith) (omega arith)) Γ (offset_of D n) (node_at D.program n) (below n)

  -- a node is typed by its parts
  pub type-step : (Γ : Scope) (n : ℕ) → type_of D Γ n ≡ type_node (type_of D Γ) D.program Γ (offset_of D n) (node_at D.program n)
  unfolding type_of
  type-step Γ n = type-ext (type_at D Γ n) (λ m. type_at D Γ (suc m) m) D.program n (λ m l. type-same Γ n (suc m) m l (omega arith)) Γ (offset_of D n) (node_at D.program n) (below n)

  -- a statement at any two depths that are deep enough
  after_same : (owed : List ℕ) (j k n : ℕ) (v : Bool) (Γ : Scope) → n < j → n < k → after_at D owed j v Γ n ≡ after_at D owed k v Γ n
  after_same owed zero k n v Γ g h = absurd (omega arith)
  after_same owed (suc j) zero n v Γ g h = absurd (omega arith)
  after_same owed (suc j) (suc k) n v Γ g h =
      after_ext (type_of D Γ) (call_of D Γ) (after_at D owed j) (after_at D owed k) D owed v Γ (offset_of D n) n (node_at D.program n) (below n) (λ w Δ m l. after_same owed j k m w Δ (omega arith) (omega arith))

  -- a statement is taken by its parts
  pub after-step : (owed : List ℕ) (v : Bool) (Γ : Scope) (n : ℕ) →
      after_of D owed v Γ n ≡ after_node (type_of D Γ) (call_of D Γ) (after_of D owed false Γ) (λ ns. after_all (after_of D owed) ns Γ) D owed v Γ (offset_of D n) (node_at D.program n)
  unfolding after_of
  after-step owed v Γ n =
      after_ext (type_of D Γ) (call_of D Γ) (after_at D owed n) (λ w Δ m. after_at D owed (suc m) w Δ m) D owed v Γ (offset_of D n) n (node_at D.program n) (below n) (λ w Δ m l. after_same owed n (suc m) m w Δ l (omega arith))

module _ (P : Program) (below : PartsBelow P) where
  -- the end of a statement at any two depths that are deep enough
  ends_same : (j k n : ℕ) → n < j → n < k → ends_at P j n ≡ ends_at P k n
  ends_same zero k n g h = absurd (omega arith)
  ends_same (suc j) zero n g h = absurd (omega arith)
  ends_same (suc j) (suc k) n g h = ends_ext (ends_at P j) (ends_at P k) P n (node_at P n) (below n) (λ m l. ends_same j k m (omega arith) (omega arith))

  -- a statement ends by its parts
  pub ends-step : (n : ℕ) → ends_of P n ≡ ends_node (ends_of P) P (node_at P n)
  unfolding ends_of
  ends-step n = ends_ext (ends_at P n) (λ m. ends_at P (suc m) m) P n (node_at P n) (below n) (λ m l. ends_same n (suc m) m l (omega arith))

-- the right part stands once, first or later
early_same : (b : Bool) (p q : Part) → (p ∷ cond b [] (q ∷ [])) ++ cond b (q ∷ []) [] ≡ p ∷ q ∷ []
early_same true p q = refl
early_same false p q = refl

-- the parts that come first, and those that come later, are all
pub parts_same : (P : Program) (d : Node) → parts_of P d ≡ parts_in P d
parts_same P (Number c) = refl
parts_same P (Truth c) = refl
parts_same P (Text r) = refl
parts_same P (Variable x) = refl
parts_same P (Element a i) = refl
parts_same P (Length a) = refl
parts_same P (Unary o a) = refl
parts_same P (Binary o a c) = early_same (decides_early o) _ _
parts_same P (Constructor t r) = append-nil _
parts_same P (Call x r) = append-nil _
parts_same P (LibraryCall f r) = append-nil _
parts_same P (Declare x t r) = append-nil _
parts_same P (DeclareValue x t a) = refl
parts_same P (DeclareCall a r) = refl
parts_same P (Assign x a) = refl
parts_same P (AssignElement a i c) = refl
parts_same P (If g a) = refl
parts_same P (IfElse g a c) = refl
parts_same P (While g a) = refl
parts_same P (Return r) = append-nil _
parts_same P (CallStatement a) = refl
parts_same P (Target x t) = refl
parts_same P Discard = refl
parts_same P (Block r) = refl
