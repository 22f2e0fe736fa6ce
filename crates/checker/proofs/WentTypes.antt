-- Where the walk went well at an expression, its local rules hold and it went well at the parts.
use Rattle.std.proofs.Common.{◌≡◌, ℕ, zero, suc, ◌+◌, ◌-◌, ◌≤◌, Bool, true, false, not, ◌&&◌, eqb, leb, List, [], ◌∷◌, length, replicate, sym, refl, ap, ◌∙◌, subst, arith}
use mathlib.Core.Option.{Option, some}
use Rattle.std.proofs.lemmas.List.{length-replicate}
use Rattle.std.proofs.lemmas.Bool.{leb-true, eqb-true, and_parts, false≢true}
use Rattle.xi.specs.declared.node.Node.{Node}
use Rattle.xi.specs.declared.node.Node.TheVariants.{Number, Truth, Text, Variable, Element, Length, Unary, Binary, Constructor, Call, LibraryCall}
use Rattle.xi.specs.declared.node.Node.TheVariants.{Declare, DeclareValue, DeclareCall, Assign, AssignElement, If, IfElse, While, Return, CallStatement, Target, Discard, Block}
use Rattle.xi.specs.declared.node.UnaryOperator.{UnaryOperator}
use Rattle.xi.specs.declared.node.UnaryOperator.TheVariants.{Minus, Not}
use Rattle.xi.specs.declared.node.Operator.{Operator}
use Rattle.xi.specs.declared.node.Operator.TheVariants.{Add, Subtract, Multiply, Divide, Remainder, Less, LessEqual, Greater, GreaterEqual, Equal, NotEqual, And, Or}
use Rattle.xi.specs.declared.rule.Rule.TheVariants.{«Type» as TypeRule, Unknown}
use Rattle.xi.specs.Program.{Program}
use Rattle.xi.specs.Tree.{node_at, entries_of, Place, expression_place, call_place, statement_place, target_place, Part, at, all, Each}
use Rattle.xi.specs.Typing.{Scope, Tables, gives, GiveEach, Begins, Added, Takes, OperatorTyped, UnaryTyped, Typed, function_named, parameters_of, results_of, types_of, library_takes, library_gives, variable_type}
use Rattle.sheet.specs.Outcome.{good}
use Rattle.sheet.specs.Sheets.{Decoded}
use Rattle.checker.specs.Trees.{offset_of, parts_in}
use Rattle.checker.specs.Walk.{known, types_each, agree, fitting, operands, unary_gives, operator_gives, call_node, type_node, type_of, call_of, after_of}
use Rattle.checker.proofs.Chains.{not_good, good_same, then_splits, held_splits, known_splits}
use Rattle.checker.proofs.WalkDepth.{PartsBelow, type-step}
use Rattle.checker.proofs.Asked.{give_length}
use Rattle.checker.proofs.Went.{fitting_was, called_was, node-gave}

-- the walk went well at node a of that place, which is not the last of a block
abbrev pub Lone : Decoded → Scope → List ℕ → Place → ℕ → Type 0
Lone D Γ ω expression_place a = (t : ℕ) × (type_of D Γ a ≡ good t)
Lone D Γ ω call_place a = (k : ℕ) × (ts : List ℕ) × (call_of D Γ k a ≡ good ts)
Lone D Γ ω statement_place a = (Δ : Scope) × (after_of D ω false Γ a ≡ good Δ)
Lone D Γ ω target_place a = Unit {0}

-- so it did at each of the parts
abbrev pub AllLone : Decoded → Scope → List ℕ → List Part → Type 0
AllLone D Γ ω ps = Each (λ (p : Part). Lone D Γ ω p.place p.number) ps

-- types that agree, and are as many, are the same
pub agree_is : (ts ws : List ℕ) → length ts ≡ length ws → agree ts ws ≡ true → ts ≡ ws
agree_is [] [] l h = refl
agree_is [] (w ∷ ws) l h = let z : ⊥ = omega arith in absurd z
agree_is (t ∷ ts) [] l h = absurd (false≢true h)
agree_is (t ∷ ts) (w ∷ ws) l h =
    let x = and_parts (eqb t w) (agree ts ws) h in
    let e = eqb-true t w x.0 in
    let f = agree_is ts ws (omega arith) x.1 in
    cc

-- operands that went well
operands_were : (b : Bool) (p u t : ℕ) → operands b p u ≡ good t → (b ≡ true) × (u ≡ t)
operands_were b p u t q = let x = held_splits b TypeRule p (λ _. good u) q in (x.0, good_same x.1)

module _ (D : Decoded) (below : PartsBelow D.program) (T : Tables) (typed : (n t : ℕ) → type_of D (T.scope n) n ≡ good t → T.type n ≡ t) (n : ℕ) where
  abbrev P : Program
  P = D.program

  abbrev Γ : Scope
  Γ = T.scope n

  abbrev ω : List ℕ
  ω = T.owed n

  -- the parts begin in the scope of node n
  abbrev Starts : List Part → Type 0
  Starts ps = Each (Begins T n Γ) ps

  -- a part that was typed gives one value
  pub gave : (p : Part) (t : ℕ) → Begins T n Γ p → type_of D Γ p.number ≡ good t → gives P T p.number ≡ t ∷ []
  gave p t b q =
      let a : ℕ = p.number in
      let r : type_of D (T.scope a) a ≡ good t = ap (λ Δ. type_of D Δ a) b.scope ∙ q in
      node-gave (type_of D (T.scope a)) P T (T.scope a) (offset_of D a) a (node_at P a) t (typed a t r) (sym (type-step D below (T.scope a) a) ∙ r)

  -- the values of a run that went well
  pub types-went : (es ts : List ℕ) → Starts (all expression_place es) → types_each (type_of D Γ) es ≡ good ts → GiveEach P T es ts × AllLone D Γ ω (all expression_place es)
  types-went [] ts b q = subst (λ (us : List ℕ). GiveEach P T [] us × AllLone D Γ ω []) (good_same q) (tt, tt)
  types-went (e ∷ es) ts b q =
      let x = then_splits (type_of D Γ e) _ q in
      let y = then_splits (types_each (type_of D Γ) es) _ x.2 in
      let r = types-went es y.0 b.1 y.1 in
      subst (λ (us : List ℕ). GiveEach P T (e ∷ es) us × AllLone D Γ ω (all expression_place (e ∷ es))) (good_same y.2)
      ((gave (at expression_place e) x.0 b.0 x.1, r.0), ((x.0, x.1), r.1))

  -- a run whose values have the types ws
  pub run-went : (es ts ws : List ℕ) → Starts (all expression_place es) → types_each (type_of D Γ) es ≡ good ts → agree ts ws ≡ true → length es ≡ length ws → GiveEach P T es ws × AllLone D Γ ω (all expression_place es)
  run-went es ts ws b q h l =
      let r = types-went es ts b q in
      (subst (GiveEach P T es) (agree_is ts ws (sym (give_length P T es ts r.0) ∙ l) h) r.0, r.1)

  -- a call that went well
  pub call-went : (k p : ℕ) (d : Node) (ts : List ℕ) → Starts (parts_in P d) → call_node (type_of D Γ) P k p d ≡ good ts → Typed P T n d × AllLone D Γ ω (parts_in P d)
  call-went k p (Number c) ts b q = absurd (not_good q)
  call-went k p (Truth c) ts b q = absurd (not_good q)
  call-went k p (Text c) ts b q = absurd (not_good q)
  call-went k p (Variable x) ts b q = absurd (not_good q)
  call-went k p (Element a i) ts b q = absurd (not_good q)
  call-went k p (Length a) ts b q = absurd (not_good q)
  call-went k p (Unary o a) ts b q = absurd (not_good q)
  call-went k p (Binary o a c) ts b q = absurd (not_good q)
  call-went k p (Constructor t c) ts b q = absurd (not_good q)
  call-went k p (Call x c) ts b q =
      let y = then_splits (known (function_named P.functions x) Unknown p) _ q in
      let z = (called_was (type_of D Γ) (entries_of P c) k p (types_of (parameters_of P y.0)) (results_of P y.0) ts y.2).0 in
      let r = run-went (entries_of P c) z.types (types_of (parameters_of P y.0)) b z.typed z.fit z.arguments in
      ((y.0, known_splits (function_named P.functions x) Unknown p y.1, r.0), r.1)
  call-went k p (LibraryCall f c) ts b q =
      let z = (called_was (type_of D Γ) (entries_of P c) k p (library_takes f) (library_gives f) ts q).0 in
      run-went (entries_of P c) z.types (library_takes f) b z.typed z.fit z.arguments
  call-went k p (Declare x t c) ts b q = absurd (not_good q)
  call-went k p (DeclareValue x t a) ts b q = absurd (not_good q)
  call-went k p (DeclareCall a c) ts b q = absurd (not_good q)
  call-went k p (Assign x a) ts b q = absurd (not_good q)
  call-went k p (AssignElement a i c) ts b q = absurd (not_good q)
  call-went k p (If g a) ts b q = absurd (not_good q)
  call-went k p (IfElse g a c) ts b q = absurd (not_good q)
  call-went k p (While g a) ts b q = absurd (not_good q)
  call-went k p (Return c) ts b q = absurd (not_good q)
  call-went k p (CallStatement a) ts b q = absurd (not_good q)
  call-went k p (Target x t) ts b q = absurd (not_good q)
  call-went k p Discard ts b q = absurd (not_good q)
  call-went k p (Block c) ts b q = absurd (not_good q)

  -- a unary operator
  unary-went : (o : UnaryOperator) (p a t u : ℕ) → gives P T a ≡ t ∷ [] → T.type n ≡ u → unary_gives o t p ≡ good u → UnaryTyped P T n o a
  unary-went Minus p a t u g e q = let x = operands_were (eqb t 0) p 0 u q in (g ∙ ap (λ x. x ∷ []) (eqb-true _ _ x.0), e ∙ sym x.1)
  unary-went Not p a t u g e q = let x = operands_were (eqb t 1) p 1 u q in (g ∙ ap (λ x. x ∷ []) (eqb-true _ _ x.0), e ∙ sym x.1)

  -- both operands have the type w
  both-went : (p a b t u v w x : ℕ) → gives P T a ≡ t ∷ [] → gives P T b ≡ u ∷ [] → T.type n ≡ v → operands (eqb t w && eqb u w) p x ≡ good v → Takes P T n a b w x
  both-went p a b t u v w x g h e q =
      let y = operands_were (eqb t w && eqb u w) p x v q in
      let z = and_parts (eqb t w) (eqb u w) y.0 in
      record { left = g ∙ ap (λ x. x ∷ []) (eqb-true _ _ z.0); right = h ∙ ap (λ x. x ∷ []) (eqb-true _ _ z.1); value = e ∙ sym y.1 }

  -- both operands have one type
  equal-went : (p a b t u v : ℕ) → gives P T a ≡ t ∷ [] → gives P T b ≡ u ∷ [] → T.type n ≡ v → operands (eqb t u) p 1 ≡ good v → (w : ℕ) × Takes P T n a b w 1
  equal-went p a b t u v g h e q =
      let y = operands_were (eqb t u) p 1 v q in
      (t, record { left = g; right = h ∙ ap (λ x. x ∷ []) (sym (eqb-true _ _ y.0)); value = e ∙ sym y.1 })

  -- `+` at a type that can be added
  added-went : (t : ℕ) → not (eqb t 1) ≡ true → Added t
  added-went zero h = tt
  added-went (suc zero) h = absurd (false≢true h)
  added-went (suc (suc t)) h = tt

  -- a binary operator
  operator-went : (o : Operator) (p a b t u v : ℕ) → gives P T a ≡ t ∷ [] → gives P T b ≡ u ∷ [] → T.type n ≡ v → operator_gives o t u p ≡ good v → OperatorTyped P T n o a b
  operator-went Add p a b t u v g h e q =
      let y = operands_were (eqb t u && not (eqb t 1)) p t v q in
      let z = and_parts (eqb t u) (not (eqb t 1)) y.0 in
      (t, record { left = g; right = h ∙ ap (λ x. x ∷ []) (sym (eqb-true _ _ z.0)); value = e ∙ sym y.1 }, added-went t z.1)
  operator-went Subtract p a b t u v g h e q = both-went p a b t u v 0 0 g h e q
  operator-went Multiply p a b t u v g h e q = both-went p a b t u v 0 0 g h e q
  operator-went Divide p a b t u v g h e q = both-went p a b t u v 0 0 g h e q
  operator-went Remainder p a b t u v g h e q = both-went p a b t u v 0 0 g h e q
  operator-went Less p a b t u v g h e q = both-went p a b t u v 0 1 g h e q
  operator-went LessEqual p a b t u v g h e q = both-went p a b t u v 0 1 g h e q
  operator-went Greater p a b t u v g h e q = both-went p a b t u v 0 1 g h e q
  operator-went GreaterEqual p a b t u v g h e q = both-went p a b t u v 0 1 g h e q
  operator-went Equal p a b t u v g h e q = equal-went p a b t u v g h e q
  operator-went NotEqual p a b t u v g h e q = equal-went p a b t u v g h e q
  operator-went And p a b t u v g h e q = both-went p a b t u v 1 1 g h e q
  operator-went Or p a b t u v g h e q = both-went p a b t u v 1 1 g h e q

  -- an expression that went well
  pub type-went : (p : ℕ) (d : Node) (t : ℕ) → Starts (parts_in P d) → T.type n ≡ t → type_node (type_of D Γ) P Γ p d ≡ good t → Typed P T n d × AllLone D Γ ω (parts_in P d)
  type-went p (Number c) t b e q = (e ∙ sym (good_same q), tt)
  type-went p (Truth c) t b e q = (e ∙ sym (good_same q), tt)
  type-went p (Text c) t b e q = (e ∙ sym (good_same q), tt)
  type-went p (Variable x) t b e q = (known_splits (variable_type P Γ x) Unknown p q ∙ ap {B = Option ℕ} some (sym e), tt)
  type-went p (Element a i) t b e q =
      let x = then_splits (type_of D Γ a) _ q in
      let y = then_splits (type_of D Γ i) _ x.2 in
      let z = operands_were (leb 2 x.0 && eqb y.0 0) p (x.0 - 2) t y.2 in
      let w = and_parts (leb 2 x.0) (eqb y.0 0) z.0 in
      let l : 2 ≤ x.0 = leb-true _ _ w.0 in
      let m : x.0 - 2 ≡ t = z.1 in
      let s : x.0 ≡ suc (suc (T.type n)) = omega arith in
      ((gave (at expression_place a) x.0 b.0 x.1 ∙ ap (λ x. x ∷ []) s, gave (at expression_place i) y.0 b.1.0 y.1 ∙ ap (λ x. x ∷ []) (eqb-true _ _ w.1)), ((x.0, x.1), ((y.0, y.1), tt)))
  type-went p (Length a) t b e q =
      let x = then_splits (type_of D Γ a) _ q in
      let z = operands_were (leb 2 x.0) p 0 t x.2 in
      let l : 2 ≤ x.0 = leb-true _ _ z.0 in
      let s : x.0 ≡ suc (suc (x.0 - 2)) = omega arith in
      ((x.0 - 2, gave (at expression_place a) x.0 b.0 x.1 ∙ ap (λ x. x ∷ []) s, e ∙ sym z.1), ((x.0, x.1), tt))
  type-went p (Unary o a) t b e q =
      let x = then_splits (type_of D Γ a) _ q in
      (unary-went o p a x.0 t (gave (at expression_place a) x.0 b.0 x.1) e x.2, ((x.0, x.1), tt))
  type-went p (Binary o a c) t b e q =
      let x = then_splits (type_of D Γ a) _ q in
      let y = then_splits (type_of D Γ c) _ x.2 in
      (operator-went o p a c x.0 y.0 t (gave (at expression_place a) x.0 b.0 x.1) (gave (at expression_place c) y.0 b.1.0 y.1) e y.2, ((x.0, x.1), ((y.0, y.1), tt)))
  type-went p (Constructor u c) t b e q =
      let es : List ℕ = entries_of P c in
      let ws : List ℕ = replicate (length es) u.number in
      let x = then_splits (fitting (type_of D Γ) es ws) _ q in
      let y = fitting_was (type_of D Γ) es ws x.0 x.1 in
      let z = operands_were x.0 p (u.number + 2) t x.2 in
      let r = run-went es y.0 ws b y.1 (y.2 ∙ z.0) (sym (length-replicate (length es) u.number)) in
      let m : u.number + 2 ≡ t = z.1 in
      ((r.0, omega arith), r.1)
  type-went p (Call x c) t b e q = let y = then_splits (call_node (type_of D Γ) P 1 p (Call x c)) _ q in call-went 1 p (Call x c) y.0 b y.1
  type-went p (LibraryCall f c) t b e q = let y = then_splits (call_node (type_of D Γ) P 1 p (LibraryCall f c)) _ q in call-went 1 p (LibraryCall f c) y.0 b y.1
  type-went p (Declare x u c) t b e q = absurd (not_good q)
  type-went p (DeclareValue x u a) t b e q = absurd (not_good q)
  type-went p (DeclareCall a c) t b e q = absurd (not_good q)
  type-went p (Assign x a) t b e q = absurd (not_good q)
  type-went p (AssignElement a i c) t b e q = absurd (not_good q)
  type-went p (If g a) t b e q = absurd (not_good q)
  type-went p (IfElse g a c) t b e q = absurd (not_good q)
  type-went p (While g a) t b e q = absurd (not_good q)
  type-went p (Return c) t b e q = absurd (not_good q)
  type-went p (CallStatement a) t b e q = absurd (not_good q)
  type-went p (Target x u) t b e q = absurd (not_good q)
  type-went p Discard t b e q = absurd (not_good q)
  type-went p (Block c) t b e q = absurd (not_good q)
