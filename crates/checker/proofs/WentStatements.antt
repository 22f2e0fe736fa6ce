-- Where the walk went well at a statement, its local rules hold and it went well at the parts.
use Rattle.std.proofs.Common.{◌≡◌, ℕ, suc, ◌-◌, ◌≤◌, Bool, true, false, ◌&&◌, eqb, leb, List, [], ◌∷◌, length, replicate, sym, ap, ◌∙◌, arith}
use Rattle.std.proofs.lemmas.List.{length-replicate, nil_from_length}
use Rattle.std.proofs.lemmas.Bool.{leb-true, eqb-true, and_parts}
use Rattle.xi.specs.declared.node.Node.{Node}
use Rattle.xi.specs.declared.node.Node.TheVariants.{Number, Truth, Text, Variable, Element, Length, Unary, Binary, Constructor, Call, LibraryCall}
use Rattle.xi.specs.declared.node.Node.TheVariants.{Declare, DeclareValue, DeclareCall, Assign, AssignElement, If, IfElse, While, Return, CallStatement, Target, Discard, Block}
use Rattle.xi.specs.declared.rule.Rule.TheVariants.{«Type» as TypeRule, Unknown, Count}
use Rattle.xi.specs.Program.{Program}
use Rattle.xi.specs.Tree.{node_at, entries_of, Sort, value_sort, call_sort, statement_sort, return_sort, block_sort, target_sort, sort_of, expression_place, call_place, statement_place, target_place, suits, Part, at, all, Each}
use Rattle.xi.specs.Typing.{Scope, pushed, binding, Tables, gives, call_gives, Begins, ScopesBy, Typed, Declarable, declared_by, variable_type}
use Rattle.sheet.specs.Outcome.{Outcome, good}
use Rattle.sheet.specs.Sheets.{Decoded}
use Rattle.checker.specs.Trees.{offset_of, parts_in}
use Rattle.checker.specs.Walk.{known, is_empty, fitting, type_of, call_of, targets_fit, after_all, after_node, after_of, assigned, element_assigned, returned}
use Rattle.checker.proofs.Chains.{not_good, then_splits, held_splits, known_splits, held-true}
use Rattle.checker.proofs.WalkDepth.{PartsBelow, after-step}
use Rattle.checker.proofs.Declaring.{declared-was, fit-were, targets-were}
use Rattle.checker.proofs.Passes.{call_gives-gives_as}
use Rattle.checker.proofs.Went.{Went, fitting_was, call-gave, adds}
use Rattle.checker.proofs.WentTypes.{AllLone, gave, run-went}

-- the walk went well at the entries of a block
abbrev pub BlockWent : Decoded → List ℕ → Scope → List Part → Type 0
BlockWent D ω Γ [] = Unit {0}
BlockWent D ω Γ (p ∷ ps) = ((Δ : Scope) × (after_of D ω (is_empty ps) Γ p.number ≡ good Δ)) × Went D Γ ω p.place p.number × BlockWent D ω (pushed (declared_by D.program (node_at D.program p.number)) Γ) ps

-- the parts of a node of that sort
abbrev pub LoneBy : Decoded → List ℕ → Scope → Sort → List Part → Type 0
LoneBy D ω Γ value_sort ps = AllLone D Γ ω ps
LoneBy D ω Γ call_sort ps = AllLone D Γ ω ps
LoneBy D ω Γ statement_sort ps = AllLone D Γ ω ps
LoneBy D ω Γ return_sort ps = AllLone D Γ ω ps
LoneBy D ω Γ block_sort ps = BlockWent D ω Γ ps
LoneBy D ω Γ target_sort ps = AllLone D Γ ω ps

-- the local rules of a statement, and its parts
pub record StatementWent (D : Decoded) (T : Tables) (n : ℕ) (d : Node) : Type 0 where
  pub typed : Typed D.program T n d
  pub names : Declarable D.program (T.scope n) (declared_by D.program d)
  pub parts : LoneBy D (T.owed n) (T.scope n) (sort_of d) (parts_in D.program d)

module _ (D : Decoded) (below : PartsBelow D.program) where
  -- the scope after a node has the names that it declares
  pub after-adds : (ω : List ℕ) (v : Bool) (Γ : Scope) (a : ℕ) (Δ : Scope) → after_of D ω v Γ a ≡ good Δ → pushed (declared_by D.program (node_at D.program a)) Γ ≡ Δ
  after-adds ω v Γ a Δ q = adds (type_of D Γ) (call_of D Γ) (after_of D ω false Γ) (λ ns. after_all (after_of D ω) ns Γ) D ω Γ (offset_of D a) v (node_at D.program a) Δ (sym (after-step D below ω v Γ a) ∙ q)

  -- the entries of a block that went well
  block-went : (ω : List ℕ) (ns : List ℕ) (Γ Δ : Scope) → after_all (after_of D ω) ns Γ ≡ good Δ → BlockWent D ω Γ (all statement_place ns)
  block-went ω [] Γ Δ q = tt
  block-went ω (a ∷ []) Γ Δ q = let x = then_splits (after_of D ω true Γ a) _ q in ((x.0, x.1), (true, x.0, x.1), tt)
  block-went ω (a ∷ c ∷ ns) Γ Δ q =
      let x = then_splits (after_of D ω false Γ a) (λ Θ. after_all (after_of D ω) (c ∷ ns) Θ) q in
      let e = after-adds ω false Γ a x.0 x.1 in
      ((x.0, x.1), (false, x.0, x.1), block-went ω (c ∷ ns) (pushed (declared_by D.program (node_at D.program a)) Γ) Δ (ap (λ Θ. after_all (after_of D ω) (c ∷ ns) Θ) e ∙ x.2))

  -- nothing is asked of targets
  targets-lone : (Γ : Scope) (ω ns : List ℕ) → AllLone D Γ ω (all target_place ns)
  targets-lone Γ ω [] = tt
  targets-lone Γ ω (a ∷ ns) = (tt, targets-lone Γ ω ns)

  -- a call that went well gives its results
  call-results : (T : Tables) (Γ : Scope) (k a : ℕ) (ts : List ℕ) → suits call_place (sort_of (node_at D.program a)) ≡ true → call_of D Γ k a ≡ good ts → (gives D.program T a ≡ ts) × (length ts ≡ k)
  unfolding call_of
  call-results T Γ k a ts s q =
      let d : Node = node_at D.program a in
      let x = call-gave (type_of D Γ) D.program T Γ (offset_of D a) a k d ts q in
      (call_gives-gives_as (sort_of d) (T.type a) (call_gives D.program d) s ∙ x.0, x.1)

  module _ (T : Tables) (typed : (n t : ℕ) → type_of D (T.scope n) n ≡ good t → T.type n ≡ t) (n : ℕ) where
    abbrev P : Program
    P = D.program

    abbrev Γ : Scope
    Γ = T.scope n

    abbrev ω : List ℕ
    ω = T.owed n

    -- the walk at the statement d
    abbrev Walked : ℕ → Bool → Node → Outcome Scope
    Walked p v d = after_node (type_of D Γ) (call_of D Γ) (after_of D ω false Γ) (λ ns. after_all (after_of D ω) ns Γ) D ω v Γ p d

    -- an expression that was typed gives one value
    abbrev given : (a t : ℕ) → Begins T n Γ (at expression_place a) → type_of D Γ a ≡ good t → gives P T a ≡ t ∷ []
    given a t b q = gave D below T typed n (at expression_place a) t b q

    -- a statement that went well
    pub after-went : (p : ℕ) (v : Bool) (d : Node) (Δ : Scope) → ScopesBy P T n (sort_of d) (parts_in P d) → Each (λ (p : Part). suits p.place (sort_of (node_at P p.number)) ≡ true) (parts_in P d) → Walked p v d ≡ good Δ → StatementWent D T n d
    after-went p v (Number c) Δ b s q = absurd (not_good q)
    after-went p v (Truth c) Δ b s q = absurd (not_good q)
    after-went p v (Text c) Δ b s q = absurd (not_good q)
    after-went p v (Variable x) Δ b s q = absurd (not_good q)
    after-went p v (Element a i) Δ b s q = absurd (not_good q)
    after-went p v (Length a) Δ b s q = absurd (not_good q)
    after-went p v (Unary o a) Δ b s q = absurd (not_good q)
    after-went p v (Binary o a c) Δ b s q = absurd (not_good q)
    after-went p v (Constructor t c) Δ b s q = absurd (not_good q)
    after-went p v (Call x c) Δ b s q = absurd (not_good q)
    after-went p v (LibraryCall f c) Δ b s q = absurd (not_good q)
    after-went p v (Declare x t c) Δ b s q =
        let es : List ℕ = entries_of P c in
        let ws : List ℕ = replicate (length es) 0 in
        let y = then_splits (fitting (type_of D Γ) es ws) _ q in
        let z = fitting_was (type_of D Γ) es ws y.0 y.1 in
        let h = held_splits y.0 TypeRule p _ y.2 in
        let r = run-went D below T typed n es z.0 ws b z.1 (z.2 ∙ h.0) (sym (length-replicate {A = ℕ} (length es) 0)) in
        record { typed = r.0; names = (declared-was P Γ Δ (binding x t) p h.1).0; parts = r.1 }
    after-went p v (DeclareValue x t a) Δ b s q =
        let y = then_splits (type_of D Γ a) _ q in
        let h = held_splits (eqb y.0 t.number) TypeRule p _ y.2 in
        record { typed = given a y.0 b.0 y.1 ∙ ap (λ x. x ∷ []) (eqb-true _ _ h.0); names = (declared-was P Γ Δ (binding x t) p h.1).0; parts = ((y.0, y.1), tt) }
    after-went p v (DeclareCall a c) Δ b s q =
        let es : List ℕ = entries_of P c in
        let y = then_splits (call_of D Γ (length es) a) _ q in
        let g = call-results T Γ (length es) a y.0 s.0 y.1 in
        let h = held_splits (targets_fit P es y.0) TypeRule p _ y.2 in
        record {
          typed = rw g.0 (fit-were P es y.0 g.1 h.0);
          names = (targets-were D es Γ Δ h.1).0;
          parts = ((length es, y.0, y.1), targets-lone Γ ω es);
        }
    after-went p v (Assign x a) Δ b s q =
        let w = then_splits (assigned (type_of D Γ) P Γ p x a) (λ _. good Γ) q in
        let y = then_splits (type_of D Γ a) _ w.1 in
        let z = then_splits (known (variable_type P Γ x) Unknown p) _ y.2 in
        let h = held-true (eqb y.0 z.0) TypeRule p z.2 in
        record { typed = (z.0, known_splits (variable_type P Γ x) Unknown p z.1, given a y.0 b.0 y.1 ∙ ap (λ x. x ∷ []) (eqb-true _ _ h)); names = tt; parts = ((y.0, y.1), tt) }
    after-went p v (AssignElement a i c) Δ b s q =
        let w = then_splits (element_assigned (type_of D Γ) p a i c) (λ _. good Γ) q in
        let x = then_splits (type_of D Γ a) _ w.1 in
        let y = then_splits (type_of D Γ i) _ x.2 in
        let z = then_splits (type_of D Γ c) _ y.2 in
        let h = held-true (leb 2 x.0 && (eqb y.0 0 && eqb (x.0 - 2) z.0)) TypeRule p z.2 in
        let f = and_parts (leb 2 x.0) _ h in
        let g = and_parts (eqb y.0 0) _ f.1 in
        let l : 2 ≤ x.0 = leb-true _ _ f.0 in
        let m : x.0 - 2 ≡ z.0 = eqb-true _ _ g.1 in
        let e : x.0 ≡ suc (suc z.0) = omega arith in
        record {
          typed = (z.0, given a x.0 b.0 x.1 ∙ ap (λ x. x ∷ []) e, given i y.0 b.1.0 y.1 ∙ ap (λ x. x ∷ []) (eqb-true _ _ g.0), given c z.0 b.1.1.0 z.1);
          names = tt;
          parts = ((x.0, x.1), ((y.0, y.1), ((z.0, z.1), tt)));
        }
    after-went p v (If g a) Δ b s q =
        let x = then_splits (type_of D Γ g) _ q in
        let y = then_splits (after_of D ω false Γ a) _ x.2 in
        let h = held_splits (eqb x.0 1) TypeRule p _ y.2 in
        record { typed = given g x.0 b.0 x.1 ∙ ap (λ x. x ∷ []) (eqb-true _ _ h.0); names = tt; parts = ((x.0, x.1), ((y.0, y.1), tt)) }
    after-went p v (IfElse g a c) Δ b s q =
        let x = then_splits (type_of D Γ g) _ q in
        let y = then_splits (after_of D ω false Γ a) _ x.2 in
        let z = then_splits (after_of D ω false Γ c) _ y.2 in
        let h = held_splits (eqb x.0 1) TypeRule p _ z.2 in
        record { typed = given g x.0 b.0 x.1 ∙ ap (λ x. x ∷ []) (eqb-true _ _ h.0); names = tt; parts = ((x.0, x.1), ((y.0, y.1), ((z.0, z.1), tt))) }
    after-went p v (While g a) Δ b s q =
        let x = then_splits (type_of D Γ g) _ q in
        let y = then_splits (after_of D ω false Γ a) _ x.2 in
        let h = held_splits (eqb x.0 1) TypeRule p _ y.2 in
        record { typed = given g x.0 b.0 x.1 ∙ ap (λ x. x ∷ []) (eqb-true _ _ h.0); names = tt; parts = ((x.0, x.1), ((y.0, y.1), tt)) }
    after-went p v (Return c) Δ b s q =
        let es : List ℕ = entries_of P c in
        let w = then_splits (returned (type_of D Γ) ω v p es) (λ _. good Γ) q in
        let y = then_splits (fitting (type_of D Γ) es ω) _ w.1 in
        let z = fitting_was (type_of D Γ) es ω y.0 y.1 in
        let h = held_splits (eqb (length es) (length ω)) Count p _ y.2 in
        let g = held_splits y.0 TypeRule p _ h.1 in
        let r = run-went D below T typed n es z.0 ω b z.1 (z.2 ∙ g.0) (eqb-true _ _ h.0) in
        record { typed = r.0; names = tt; parts = r.1 }
    after-went p v (CallStatement a) Δ b s q =
        let y = then_splits (call_of D Γ 0 a) _ q in
        let g = call-results T Γ 0 a y.0 s.0 y.1 in
        record { typed = g.0 ∙ nil_from_length y.0 g.1; names = tt; parts = ((0, y.0, y.1), tt) }
    after-went p v (Target x t) Δ b s q = absurd (not_good q)
    after-went p v Discard Δ b s q = absurd (not_good q)
    after-went p v (Block c) Δ b s q = let y = then_splits (after_all (after_of D ω) (entries_of P c) Γ) _ q in record { typed = tt; names = tt; parts = block-went ω (entries_of P c) Γ y.0 y.1 }
