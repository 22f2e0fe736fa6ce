-- Where the local rules hold and the parts pass, the expression passes.
use Rattle.std.proofs.Common.{◌≡◌, ℕ, zero, suc, ◌+◌, ◌-◌, true, leb, List, [], ◌∷◌, length, replicate, sym, refl, ap, ◌∙◌, arith}
use Rattle.std.proofs.lemmas.Bool.{le-leb, ne_eqb, false≢true}
use Rattle.xi.specs.declared.node.Node.{Node}
use Rattle.xi.specs.declared.node.Node.TheVariants.{Number, Truth, Text, Variable, Element, Length, Unary, Binary, Constructor, Call, LibraryCall}
use Rattle.xi.specs.declared.node.Node.TheVariants.{Declare, DeclareValue, DeclareCall, Assign, AssignElement, If, IfElse, While, Return, CallStatement, Target, Discard, Block}
use Rattle.xi.specs.declared.node.UnaryOperator.{UnaryOperator}
use Rattle.xi.specs.declared.node.UnaryOperator.TheVariants.{Minus, Not}
use Rattle.xi.specs.declared.node.Operator.{Operator}
use Rattle.xi.specs.declared.node.Operator.TheVariants.{Add, Subtract, Multiply, Divide, Remainder, Less, LessEqual, Greater, GreaterEqual, Equal, NotEqual, And, Or}
use Rattle.xi.specs.Program.{Program}
use Rattle.xi.specs.Tree.{entries_of, sort_of, expression_place, call_place, suits, all}
use Rattle.xi.specs.Typing.{Scope, Tables, gives_of, call_gives, GiveEach, Added, Takes, OperatorTyped, UnaryTyped, Typed, parameters_of, results_of, types_of, library_takes, library_gives}
use Rattle.sheet.specs.Outcome.{good, then}
use Rattle.sheet.specs.Sheets.{Decoded}
use Rattle.checker.specs.Trees.{parts_in}
use Rattle.checker.specs.Walk.{operator_gives, called, call_node, first_of, type_node, type_of}
use Rattle.checker.proofs.Asked.{AllReady, eqb_same, agree_same, give_length, types-ready}

-- the only item
pub only : {t u : ℕ} → ◌≡◌ {A = List ℕ} (t ∷ []) (u ∷ []) → t ≡ u
only e = cc

-- two less than two more
two_more : (t : ℕ) → suc (suc t) - 2 ≡ t
two_more t = omega arith

-- two more
plus_two : (t : ℕ) → t + 2 ≡ suc (suc t)
plus_two t = omega arith

module _ (D : Decoded) (T : Tables) (n : ℕ) where
  abbrev P : Program
  P = D.program

  abbrev Γ : Scope
  Γ = T.scope n

  -- the walk passes the parts of d
  abbrev Parts : Node → Type 0
  Parts d = AllReady D T Γ (T.owed n) (parts_in P d)

  -- a call with arguments of the types that it takes
  called-ready : (es ts us : List ℕ) (p : ℕ) → AllReady D T Γ (T.owed n) (all expression_place es) → GiveEach P T es ts → called (type_of D Γ) es (length us) p ts us ≡ good us
  called-ready es ts us p r h = rw (give_length P T es ts h, eqb_same (length ts), eqb_same (length us), types-ready D T Γ (T.owed n) es ts r h, agree_same ts)

  -- a call gives its results
  pub call-ready : (p : ℕ) (d : Node) → suits call_place (sort_of d) ≡ true → Parts d → Typed P T n d → call_node (type_of D Γ) P (length (call_gives P d)) p d ≡ good (call_gives P d)
  call-ready p (Number c) s r h = absurd (false≢true s)
  call-ready p (Truth b) s r h = absurd (false≢true s)
  call-ready p (Text c) s r h = absurd (false≢true s)
  call-ready p (Variable x) s r h = absurd (false≢true s)
  call-ready p (Element a i) s r h = absurd (false≢true s)
  call-ready p (Length a) s r h = absurd (false≢true s)
  call-ready p (Unary o a) s r h = absurd (false≢true s)
  call-ready p (Binary o a b) s r h = absurd (false≢true s)
  call-ready p (Constructor t c) s r h = absurd (false≢true s)
  call-ready p (Call x c) s r h = rw h.1 (called-ready (entries_of P c) (types_of (parameters_of P h.0)) (results_of P h.0) p r h.2)
  call-ready p (LibraryCall f c) s r h = called-ready (entries_of P c) (library_takes f) (library_gives f) p r h
  call-ready p (Declare x t c) s r h = absurd (false≢true s)
  call-ready p (DeclareValue x t a) s r h = absurd (false≢true s)
  call-ready p (DeclareCall a c) s r h = absurd (false≢true s)
  call-ready p (Assign x a) s r h = absurd (false≢true s)
  call-ready p (AssignElement a i b) s r h = absurd (false≢true s)
  call-ready p (If g a) s r h = absurd (false≢true s)
  call-ready p (IfElse g a b) s r h = absurd (false≢true s)
  call-ready p (While g a) s r h = absurd (false≢true s)
  call-ready p (Return c) s r h = absurd (false≢true s)
  call-ready p (CallStatement a) s r h = absurd (false≢true s)
  call-ready p (Target x t) s r h = absurd (false≢true s)
  call-ready p Discard s r h = absurd (false≢true s)
  call-ready p (Block c) s r h = absurd (false≢true s)

  -- a unary operator
  unary-ready : (p : ℕ) (o : UnaryOperator) (a : ℕ) → Parts (Unary o a) → UnaryTyped P T n o a → type_node (type_of D Γ) P Γ p (Unary o a) ≡ good (T.type n)
  unary-ready p Minus a r h = rw (r.0 0 h.0, h.1)
  unary-ready p Not a r h = rw (r.0 1 h.0, h.1)

  -- operands of the type t
  takes-ready : (p : ℕ) (o : Operator) (a b t u : ℕ) → Parts (Binary o a b) → Takes P T n a b t u → operator_gives o t t p ≡ good u → type_node (type_of D Γ) P Γ p (Binary o a b) ≡ good (T.type n)
  takes-ready p o a b t u r h e = rw (r.0 t h.left, r.1.0 t h.right, h.value) e

  -- `+` at a type that can be added
  added-ready : (p t : ℕ) → Added t → operator_gives Add t t p ≡ good t
  added-ready p zero h = refl
  added-ready p (suc zero) h = absurd h
  added-ready p (suc (suc t)) h = rw (eqb_same (suc (suc t)), ne_eqb (suc (suc t)) 1 (λ e. omega arith))

  -- a binary operator
  operator-ready : (p : ℕ) (o : Operator) (a b : ℕ) → Parts (Binary o a b) → OperatorTyped P T n o a b → type_node (type_of D Γ) P Γ p (Binary o a b) ≡ good (T.type n)
  operator-ready p Add a b r h = takes-ready p Add a b h.0 h.0 r h.1 (added-ready p h.0 h.2)
  operator-ready p Subtract a b r h = takes-ready p Subtract a b 0 0 r h refl
  operator-ready p Multiply a b r h = takes-ready p Multiply a b 0 0 r h refl
  operator-ready p Divide a b r h = takes-ready p Divide a b 0 0 r h refl
  operator-ready p Remainder a b r h = takes-ready p Remainder a b 0 0 r h refl
  operator-ready p Less a b r h = takes-ready p Less a b 0 1 r h refl
  operator-ready p LessEqual a b r h = takes-ready p LessEqual a b 0 1 r h refl
  operator-ready p Greater a b r h = takes-ready p Greater a b 0 1 r h refl
  operator-ready p GreaterEqual a b r h = takes-ready p GreaterEqual a b 0 1 r h refl
  operator-ready p Equal a b r h = takes-ready p Equal a b h.0 1 r h.1 (rw (eqb_same h.0))
  operator-ready p NotEqual a b r h = takes-ready p NotEqual a b h.0 1 r h.1 (rw (eqb_same h.0))
  operator-ready p And a b r h = takes-ready p And a b 1 1 r h refl
  operator-ready p Or a b r h = takes-ready p Or a b 1 1 r h refl

  -- an expression that gives one value has its type
  pub type-ready : (p : ℕ) (d : Node) → suits expression_place (sort_of d) ≡ true → Parts d → Typed P T n d → (t : ℕ) → gives_of P T n d ≡ t ∷ [] → type_node (type_of D Γ) P Γ p d ≡ good t
  type-ready p (Number c) s r h t e = ap good (sym h ∙ only e)
  type-ready p (Truth b) s r h t e = ap good (sym h ∙ only e)
  type-ready p (Text c) s r h t e = ap good (sym h ∙ only e)
  type-ready p (Variable x) s r h t e = rw h (ap good (only e))
  type-ready p (Element a i) s r h t e =
      let l : leb 2 (suc (suc (T.type n))) ≡ true = le-leb _ _ (omega arith) in
      rw (r.0 _ h.0, r.1.0 0 h.1, l, two_more (T.type n)) (ap good (only e))
  type-ready p (Length a) s r h t e =
      let l : leb 2 (suc (suc h.0)) ≡ true = le-leb _ _ (omega arith) in
      rw (r.0 _ h.1, l) (ap good (sym h.2 ∙ only e))
  type-ready p (Unary o a) s r h t e = unary-ready p o a r h ∙ ap good (only e)
  type-ready p (Binary o a b) s r h t e = operator-ready p o a b r h ∙ ap good (only e)
  type-ready p (Constructor u c) s r h t e =
      rw (types-ready D T Γ (T.owed n) (entries_of P c) (replicate (length (entries_of P c)) u.number) r h.0, agree_same (replicate (length (entries_of P c)) u.number)) (ap good (plus_two u.number ∙ sym h.1 ∙ only e))
  type-ready p (Call x c) s r h t e =
      ap (λ (us : List ℕ). then (call_node (type_of D Γ) P (length us) p (Call x c)) (λ ts. good (first_of ts))) (sym e) ∙ ap (λ o. then o (λ ts. good (first_of ts))) (call-ready p (Call x c) refl r h) ∙ ap (λ us. good (first_of us)) e
  type-ready p (LibraryCall f c) s r h t e =
      ap (λ (us : List ℕ). then (call_node (type_of D Γ) P (length us) p (LibraryCall f c)) (λ ts. good (first_of ts))) (sym e) ∙ ap (λ o. then o (λ ts. good (first_of ts))) (call-ready p (LibraryCall f c) refl r h) ∙ ap (λ us. good (first_of us)) e
  type-ready p (Declare x u c) s r h t e = absurd (false≢true s)
  type-ready p (DeclareValue x u a) s r h t e = absurd (false≢true s)
  type-ready p (DeclareCall a c) s r h t e = absurd (false≢true s)
  type-ready p (Assign x a) s r h t e = absurd (false≢true s)
  type-ready p (AssignElement a i b) s r h t e = absurd (false≢true s)
  type-ready p (If g a) s r h t e = absurd (false≢true s)
  type-ready p (IfElse g a b) s r h t e = absurd (false≢true s)
  type-ready p (While g a) s r h t e = absurd (false≢true s)
  type-ready p (Return c) s r h t e = absurd (false≢true s)
  type-ready p (CallStatement a) s r h t e = absurd (false≢true s)
  type-ready p (Target x u) s r h t e = absurd (false≢true s)
  type-ready p Discard s r h t e = absurd (false≢true s)
  type-ready p (Block c) s r h t e = absurd (false≢true s)
