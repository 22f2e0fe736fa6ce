-- What the walk that went well says of a node, whatever its place.
use Rattle.std.proofs.Common.{◌≡◌, ℕ, Bool, true, false, eqb, List, [], ◌∷◌, length, replicate, sym, ap, ◌∙◌, arith}
use Rattle.std.proofs.lemmas.Bool.{eqb-true, false≢true}
use Rattle.xi.specs.declared.node.Node.{Node}
use Rattle.xi.specs.declared.node.Node.TheVariants.{Number, Truth, Text, Variable, Element, Length, Unary, Binary, Constructor, Call, LibraryCall}
use Rattle.xi.specs.declared.node.Node.TheVariants.{Declare, DeclareValue, DeclareCall, Assign, AssignElement, If, IfElse, While, Return, CallStatement, Target, Discard, Block}
use Rattle.xi.specs.declared.rule.Rule.TheVariants.{«Type» as TypeRule, Count, Unknown}
use Rattle.xi.specs.Program.{Program}
use Rattle.xi.specs.Tree.{entries_of, Sort, value_sort, call_sort, statement_sort, return_sort, block_sort, target_sort, sort_of, Place, expression_place, call_place, statement_place, target_place, suits}
use Rattle.xi.specs.Typing.{Scope, pushed, binding, Tables, named_results, call_gives, gives_of, function_named, parameters_of, results_of, types_of, library_takes, library_gives, declared_by}
use Rattle.sheet.specs.Outcome.{Outcome, good, then}
use Rattle.sheet.specs.Sheets.{Decoded}
use Rattle.checker.specs.Walk.{known, types_each, agree, fitting, called, call_node, first_of, type_node, type_of, call_of, targets_fit, after_node, after_of, argued, assigned, element_assigned, returned}
use Rattle.checker.proofs.Chains.{not_good, good_same, then_splits, held_splits, known_splits, held-true}
use Rattle.checker.proofs.Declaring.{declared-was, targets-were}

-- the walk went well at node a of that place, in the scope Γ of a function that owes ω
abbrev pub Went : Decoded → Scope → List ℕ → Place → ℕ → Type 0
Went D Γ ω expression_place a = (t : ℕ) × (type_of D Γ a ≡ good t)
Went D Γ ω call_place a = (k : ℕ) × (ts : List ℕ) × (call_of D Γ k a ≡ good ts)
Went D Γ ω statement_place a = (v : Bool) × (Δ : Scope) × (after_of D ω v Γ a ≡ good Δ)
Went D Γ ω target_place a = Unit {0}

-- a call that went well
pub record CallWas (go : ℕ → Outcome ℕ) (ns : List ℕ) (k : ℕ) (takes gives : List ℕ) : Type 0 where
  pub arguments : length ns ≡ length takes
  pub results : length gives ≡ k
  pub types : List ℕ
  pub typed : types_each go ns ≡ good types
  pub fit : agree types takes ≡ true

-- the types of a run that went well
pub fitting_was : (go : ℕ → Outcome ℕ) (ns ts : List ℕ) (b : Bool) → fitting go ns ts ≡ good b → (us : List ℕ) × (types_each go ns ≡ good us) × (agree us ts ≡ b)
fitting_was go ns ts b q = let x = then_splits (types_each go ns) (λ us. good (agree us ts)) q in (x.0, x.1, good_same x.2)

-- a call that went well, and what it gives
pub called_was : (go : ℕ → Outcome ℕ) (ns : List ℕ) (k p : ℕ) (takes gives us : List ℕ) → called go ns k p takes gives ≡ good us → CallWas go ns k takes gives × (gives ≡ us)
called_was go ns k p takes gives us q =
    let w = then_splits (argued go ns k p takes (length gives)) (λ _. good gives) q in
    let a = held_splits (eqb (length ns) (length takes)) Count p _ w.1 in
    let b = held_splits (eqb (length gives) k) Count p _ a.1 in
    let c = then_splits (fitting go ns takes) _ b.1 in
    let f = fitting_was go ns takes c.0 c.1 in
    (record { arguments = eqb-true _ _ a.0; results = eqb-true _ _ b.0; types = f.0; typed = f.1; fit = f.2 ∙ held-true c.0 TypeRule p c.2 }, good_same w.2)

-- the only one
pub first_is : (ts : List ℕ) (t : ℕ) → length ts ≡ 1 → first_of ts ≡ t → ts ≡ t ∷ []
first_is [] t l e = let z : ⊥ = omega arith in absurd z
first_is (u ∷ []) t l e = ap (λ x. x ∷ []) e
first_is (u ∷ v ∷ ts) t l e = let z : ⊥ = omega arith in absurd z

module _ (go : ℕ → Outcome ℕ) (P : Program) (T : Tables) (Γ : Scope) (p n : ℕ) where
  -- a call that went well gives what it is asked for
  pub call-gave : (k : ℕ) (d : Node) (ts : List ℕ) → call_node go P k p d ≡ good ts → (call_gives P d ≡ ts) × (length ts ≡ k)
  call-gave k (Number c) ts q = absurd (not_good q)
  call-gave k (Truth b) ts q = absurd (not_good q)
  call-gave k (Text r) ts q = absurd (not_good q)
  call-gave k (Variable x) ts q = absurd (not_good q)
  call-gave k (Element a i) ts q = absurd (not_good q)
  call-gave k (Length a) ts q = absurd (not_good q)
  call-gave k (Unary o a) ts q = absurd (not_good q)
  call-gave k (Binary o a b) ts q = absurd (not_good q)
  call-gave k (Constructor t r) ts q = absurd (not_good q)
  call-gave k (Call x r) ts q =
      let y = then_splits (known (function_named P.functions x) Unknown p) _ q in
      let z = called_was go (entries_of P r) k p (types_of (parameters_of P y.0)) (results_of P y.0) ts y.2 in
      (ap (named_results P) (known_splits (function_named P.functions x) Unknown p y.1) ∙ z.1, ap length (sym z.1) ∙ z.0.results)
  call-gave k (LibraryCall f r) ts q = let z = called_was go (entries_of P r) k p (library_takes f) (library_gives f) ts q in (z.1, ap length (sym z.1) ∙ z.0.results)
  call-gave k (Declare x t r) ts q = absurd (not_good q)
  call-gave k (DeclareValue x t a) ts q = absurd (not_good q)
  call-gave k (DeclareCall a r) ts q = absurd (not_good q)
  call-gave k (Assign x a) ts q = absurd (not_good q)
  call-gave k (AssignElement a i b) ts q = absurd (not_good q)
  call-gave k (If g a) ts q = absurd (not_good q)
  call-gave k (IfElse g a b) ts q = absurd (not_good q)
  call-gave k (While g a) ts q = absurd (not_good q)
  call-gave k (Return r) ts q = absurd (not_good q)
  call-gave k (CallStatement a) ts q = absurd (not_good q)
  call-gave k (Target x t) ts q = absurd (not_good q)
  call-gave k Discard ts q = absurd (not_good q)
  call-gave k (Block r) ts q = absurd (not_good q)

  -- a call that was asked for one result gives one
  one-gave : (d : Node) (t : ℕ) → then (call_node go P 1 p d) (λ ts. good (first_of ts)) ≡ good t → call_gives P d ≡ t ∷ []
  one-gave d t q =
      let x = then_splits (call_node go P 1 p d) (λ ts. good (first_of ts)) q in
      let y = call-gave 1 d x.0 x.1 in
      y.0 ∙ first_is x.0 t y.1 (good_same x.2)

  -- an expression that was typed gives one value, of its type
  pub node-gave : (d : Node) (t : ℕ) → T.type n ≡ t → type_node go P Γ p d ≡ good t → gives_of P T n d ≡ t ∷ []
  node-gave (Number c) t e q = ap (λ x. x ∷ []) e
  node-gave (Truth b) t e q = ap (λ x. x ∷ []) e
  node-gave (Text r) t e q = ap (λ x. x ∷ []) e
  node-gave (Variable x) t e q = ap (λ x. x ∷ []) e
  node-gave (Element a i) t e q = ap (λ x. x ∷ []) e
  node-gave (Length a) t e q = ap (λ x. x ∷ []) e
  node-gave (Unary o a) t e q = ap (λ x. x ∷ []) e
  node-gave (Binary o a b) t e q = ap (λ x. x ∷ []) e
  node-gave (Constructor u r) t e q = ap (λ x. x ∷ []) e
  node-gave (Call x r) t e q = one-gave (Call x r) t q
  node-gave (LibraryCall f r) t e q = one-gave (LibraryCall f r) t q
  node-gave (Declare x u r) t e q = absurd (not_good q)
  node-gave (DeclareValue x u a) t e q = absurd (not_good q)
  node-gave (DeclareCall a r) t e q = absurd (not_good q)
  node-gave (Assign x a) t e q = absurd (not_good q)
  node-gave (AssignElement a i b) t e q = absurd (not_good q)
  node-gave (If g a) t e q = absurd (not_good q)
  node-gave (IfElse g a b) t e q = absurd (not_good q)
  node-gave (While g a) t e q = absurd (not_good q)
  node-gave (Return r) t e q = absurd (not_good q)
  node-gave (CallStatement a) t e q = absurd (not_good q)
  node-gave (Target x u) t e q = absurd (not_good q)
  node-gave Discard t e q = absurd (not_good q)
  node-gave (Block r) t e q = absurd (not_good q)

-- the sort of a return
is_return : Sort → Bool
is_return value_sort = false
is_return call_sort = false
is_return statement_sort = false
is_return return_sort = true
is_return block_sort = false
is_return target_sort = false

-- no other sort is a return
pub no_return : (s : Sort) (π : Place) → suits π s ≡ true → suits π return_sort ≡ false → s ≡ return_sort → ⊥
no_return s π a b e = false≢true (sym b ∙ ap (suits π) (sym e) ∙ a)

module _ (type : ℕ → Outcome ℕ) (call : ℕ → ℕ → Outcome (List ℕ)) (lone : ℕ → Outcome Scope) (block : List ℕ → Outcome Scope) (D : Decoded) (ω : List ℕ) (Γ : Scope) (p : ℕ) where
  abbrev P : Program
  P = D.program

  -- a return that is not last is refused
  pub lone-return : (d : Node) (Δ : Scope) → after_node type call lone block D ω false Γ p d ≡ good Δ → sort_of d ≡ return_sort → ⊥
  unfolding is_return
  lone-return (Number c) Δ q e = not_good q
  lone-return (Truth b) Δ q e = not_good q
  lone-return (Text r) Δ q e = not_good q
  lone-return (Variable x) Δ q e = not_good q
  lone-return (Element a i) Δ q e = not_good q
  lone-return (Length a) Δ q e = not_good q
  lone-return (Unary o a) Δ q e = not_good q
  lone-return (Binary o a b) Δ q e = not_good q
  lone-return (Constructor t r) Δ q e = not_good q
  lone-return (Call x r) Δ q e = not_good q
  lone-return (LibraryCall f r) Δ q e = not_good q
  lone-return (Declare x t r) Δ q e = false≢true (ap is_return e)
  lone-return (DeclareValue x t a) Δ q e = false≢true (ap is_return e)
  lone-return (DeclareCall a r) Δ q e = false≢true (ap is_return e)
  lone-return (Assign x a) Δ q e = false≢true (ap is_return e)
  lone-return (AssignElement a i b) Δ q e = false≢true (ap is_return e)
  lone-return (If g a) Δ q e = false≢true (ap is_return e)
  lone-return (IfElse g a b) Δ q e = false≢true (ap is_return e)
  lone-return (While g a) Δ q e = false≢true (ap is_return e)
  lone-return (Return r) Δ q e =
      let w = then_splits (returned type ω false p (entries_of P r)) (λ _. good Γ) q in
      let a = then_splits (fitting type (entries_of P r) ω) _ w.1 in
      let b = held_splits (eqb (length (entries_of P r)) (length ω)) Count p _ a.2 in
      let c = held_splits a.0 TypeRule p _ b.1 in
      not_good c.1
  lone-return (CallStatement a) Δ q e = false≢true (ap is_return e)
  lone-return (Target x t) Δ q e = not_good q
  lone-return Discard Δ q e = not_good q
  lone-return (Block r) Δ q e = false≢true (ap is_return e)

  -- the scope after a statement has the names that it declares
  pub adds : (v : Bool) (d : Node) (Δ : Scope) → after_node type call lone block D ω v Γ p d ≡ good Δ → pushed (declared_by P d) Γ ≡ Δ
  adds v (Number c) Δ q = absurd (not_good q)
  adds v (Truth b) Δ q = absurd (not_good q)
  adds v (Text r) Δ q = absurd (not_good q)
  adds v (Variable x) Δ q = absurd (not_good q)
  adds v (Element a i) Δ q = absurd (not_good q)
  adds v (Length a) Δ q = absurd (not_good q)
  adds v (Unary o a) Δ q = absurd (not_good q)
  adds v (Binary o a b) Δ q = absurd (not_good q)
  adds v (Constructor t r) Δ q = absurd (not_good q)
  adds v (Call x r) Δ q = absurd (not_good q)
  adds v (LibraryCall f r) Δ q = absurd (not_good q)
  adds v (Declare x t r) Δ q =
      let a = then_splits (fitting type (entries_of P r) (replicate (length (entries_of P r)) 0)) _ q in
      let b = held_splits a.0 TypeRule p _ a.2 in
      (declared-was P Γ Δ (binding x t) p b.1).1
  adds v (DeclareValue x t c) Δ q =
      let a = then_splits (type c) _ q in
      let b = held_splits (eqb a.0 t.number) TypeRule p _ a.2 in
      (declared-was P Γ Δ (binding x t) p b.1).1
  adds v (DeclareCall c r) Δ q =
      let a = then_splits (call (length (entries_of P r)) c) _ q in
      let b = held_splits (targets_fit P (entries_of P r) a.0) TypeRule p _ a.2 in
      (targets-were D (entries_of P r) Γ Δ b.1).1
  adds v (Assign x c) Δ q = good_same (then_splits (assigned type P Γ p x c) (λ _. good Γ) q).2
  adds v (AssignElement c i e) Δ q = good_same (then_splits (element_assigned type p c i e) (λ _. good Γ) q).2
  adds v (If g c) Δ q =
      let a = then_splits (type g) _ q in
      let b = then_splits (lone c) _ a.2 in
      let e = held_splits (eqb a.0 1) TypeRule p _ b.2 in
      good_same e.1
  adds v (IfElse g c f) Δ q =
      let a = then_splits (type g) _ q in
      let b = then_splits (lone c) _ a.2 in
      let h = then_splits (lone f) _ b.2 in
      let e = held_splits (eqb a.0 1) TypeRule p _ h.2 in
      good_same e.1
  adds v (While g c) Δ q =
      let a = then_splits (type g) _ q in
      let b = then_splits (lone c) _ a.2 in
      let e = held_splits (eqb a.0 1) TypeRule p _ b.2 in
      good_same e.1
  adds v (Return r) Δ q = good_same (then_splits (returned type ω v p (entries_of P r)) (λ _. good Γ) q).2
  adds v (CallStatement c) Δ q = let a = then_splits (call 0 c) _ q in good_same a.2
  adds v (Target x t) Δ q = absurd (not_good q)
  adds v Discard Δ q = absurd (not_good q)
  adds v (Block r) Δ q = let a = then_splits (block (entries_of P r)) _ q in good_same a.2
