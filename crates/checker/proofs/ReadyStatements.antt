-- Where the local rules hold and the parts pass, the statement passes.
use Rattle.std.proofs.Common.{◌≡◌, ℕ, suc, ◌-◌, Bool, true, false, leb, List, [], ◌∷◌, length, replicate, sym, refl, ap, ◌∙◌, arith}
use Rattle.std.proofs.lemmas.Bool.{le-leb, false≢true}
use Rattle.xi.specs.declared.node.Node.{Node}
use Rattle.xi.specs.declared.node.Node.TheVariants.{Number, Truth, Text, Variable, Element, Length, Unary, Binary, Constructor, Call, LibraryCall}
use Rattle.xi.specs.declared.node.Node.TheVariants.{Declare, DeclareValue, DeclareCall, Assign, AssignElement, If, IfElse, While, Return, CallStatement, Target, Discard, Block}
use Rattle.xi.specs.Program.{Program}
use Rattle.xi.specs.Tree.{node_at, entries_of, Sort, value_sort, call_sort, statement_sort, return_sort, block_sort, target_sort, sort_of, expression_place, statement_place, suits, Part, all, first_parts, later_parts, parts_of}
use Rattle.xi.specs.Typing.{Scope, pushed, binding, Tables, gives, GiveEach, Typed, declared_by, Declarable, OnlyLastReturns, ReturnsBy}
use Rattle.sheet.specs.Outcome.{Outcome, good, then}
use Rattle.sheet.specs.Sheets.{Decoded}
use Rattle.checker.specs.Walk.{fitting, type_of, call_of, after_all, after_node, after_of}
use Rattle.checker.proofs.Asked.{Ready, AllReady, eqb_same, agree_same, give_length, types-ready}
use Rattle.checker.proofs.Declaring.{declared-ready, fit-ready, targets-ready}

-- the entries of a block pass, each in the scope after the one before
abbrev pub FollowReady : Decoded → Tables → List ℕ → Scope → List Part → Type 0
FollowReady D T ω Γ [] = Unit {0}
FollowReady D T ω Γ (p ∷ ps) = Ready D T Γ ω p.place p.number × FollowReady D T ω (pushed (declared_by D.program (node_at D.program p.number)) Γ) ps

-- the later parts of a node of that sort
abbrev pub ReadyBy : Decoded → Tables → List ℕ → Scope → Sort → List Part → Type 0
ReadyBy D T ω Γ value_sort ps = AllReady D T Γ ω ps
ReadyBy D T ω Γ call_sort ps = AllReady D T Γ ω ps
ReadyBy D T ω Γ statement_sort ps = AllReady D T Γ ω ps
ReadyBy D T ω Γ return_sort ps = AllReady D T Γ ω ps
ReadyBy D T ω Γ block_sort ps = FollowReady D T ω Γ ps
ReadyBy D T ω Γ target_sort ps = AllReady D T Γ ω ps

module _ (D : Decoded) (T : Tables) (n : ℕ) where
  abbrev P : Program
  P = D.program

  abbrev Γ : Scope
  Γ = T.scope n

  abbrev ω : List ℕ
  ω = T.owed n

  -- a run with the types that are asked
  fitting-ready : (es ts : List ℕ) → AllReady D T Γ ω (all expression_place es) → GiveEach P T es ts → fitting (type_of D Γ) es ts ≡ good true
  fitting-ready es ts r h = rw (types-ready D T Γ ω es ts r h, agree_same ts)

  -- the entries of a block pass
  block-ready : (ns : List ℕ) (Δ : Scope) → FollowReady D T ω Δ (all statement_place ns) → OnlyLastReturns P (all statement_place ns) → (Θ : Scope) × (after_all (after_of D ω) ns Δ ≡ good Θ)
  block-ready [] Δ r h = (Δ, refl)
  block-ready (a ∷ []) Δ r h = (pushed (declared_by P (node_at P a)) Δ, rw (r.0 true (λ _. refl)))
  block-ready (a ∷ c ∷ ns) Δ r h =
      let x = block-ready (c ∷ ns) (pushed (declared_by P (node_at P a)) Δ) r.1 h.1 in
      (x.0, ap (λ o. then o (λ Θ. after_all (after_of D ω) (c ∷ ns) Θ)) (r.0 false (λ e. absurd (h.0 e))) ∙ x.1)

  -- the walk at the statement d
  abbrev Walked : ℕ → Bool → Node → Outcome Scope
  Walked p v d = after_node (type_of D Γ) (call_of D Γ) (after_of D ω false Γ) (λ ns. after_all (after_of D ω) ns Γ) D ω v Γ p d

  -- a statement passes
  pub after-ready : (p : ℕ) (d : Node) → suits statement_place (sort_of d) ≡ true → AllReady D T Γ ω (first_parts P d) → ReadyBy D T ω Γ (sort_of d) (later_parts P d) → Typed P T n d → Declarable P Γ (declared_by P d) → ReturnsBy P (sort_of d) (parts_of P d) →
      (v : Bool) → (sort_of d ≡ return_sort → v ≡ true) → Walked p v d ≡ good (pushed (declared_by P d) Γ)
  after-ready p (Number c) s f l h b u v w = absurd (false≢true s)
  after-ready p (Truth c) s f l h b u v w = absurd (false≢true s)
  after-ready p (Text c) s f l h b u v w = absurd (false≢true s)
  after-ready p (Variable x) s f l h b u v w = absurd (false≢true s)
  after-ready p (Element a i) s f l h b u v w = absurd (false≢true s)
  after-ready p (Length a) s f l h b u v w = absurd (false≢true s)
  after-ready p (Unary o a) s f l h b u v w = absurd (false≢true s)
  after-ready p (Binary o a c) s f l h b u v w = absurd (false≢true s)
  after-ready p (Constructor t c) s f l h b u v w = absurd (false≢true s)
  after-ready p (Call x c) s f l h b u v w = absurd (false≢true s)
  after-ready p (LibraryCall g c) s f l h b u v w = absurd (false≢true s)
  after-ready p (Declare x t c) s f l h b u v w =
      rw (fitting-ready (entries_of P c) (replicate (length (entries_of P c)) 0) f h) (declared-ready P Γ (binding x t) p b.0 b.1 b.2)
  after-ready p (DeclareValue x t a) s f l h b u v w = rw (f.0 t.number h, eqb_same t.number) (declared-ready P Γ (binding x t) p b.0 b.1 b.2)
  after-ready p (DeclareCall a c) s f l h b u v w =
      let x = fit-ready P (entries_of P c) (gives P T a) h in
      rw (← x.1, f.0, x.0) (targets-ready D (entries_of P c) Γ b)
  after-ready p (Assign x a) s f l h b u v w = rw (f.0 h.0 h.2, h.1, eqb_same h.0)
  after-ready p (AssignElement a i c) s f l h b u v w =
      let k : leb 2 (suc (suc h.0)) ≡ true = le-leb _ _ (omega arith) in
      let m : suc (suc h.0) - 2 ≡ h.0 = omega arith in
      rw (f.0 _ h.1, f.1.0 0 h.2, f.1.1.0 h.0 h.3, k, m, eqb_same h.0)
  after-ready p (If g a) s f l h b u v w = rw (f.0 1 h, l.0 false (λ e. absurd (u.1.0 e)))
  after-ready p (IfElse g a c) s f l h b u v w = rw (f.0 1 h, l.0 false (λ e. absurd (u.1.0 e)), l.1.0 false (λ e. absurd (u.1.1.0 e)))
  after-ready p (While g a) s f l h b u v w = rw (f.0 1 h, l.0 false (λ e. absurd (u.1.0 e)))
  after-ready p (Return c) s f l h b u v w =
      rw (fitting-ready (entries_of P c) ω f h, give_length P T (entries_of P c) ω h, eqb_same (length ω), w refl)
  after-ready p (CallStatement a) s f l h b u v w =
      ap (λ (us : List ℕ). then (call_of D Γ (length us) a) (λ _. good Γ)) (sym h) ∙ ap (λ o. then o (λ _. good Γ)) f.0
  after-ready p (Target x t) s f l h b u v w = absurd (false≢true s)
  after-ready p Discard s f l h b u v w = absurd (false≢true s)
  after-ready p (Block c) s f l h b u v w = ap (λ o. then o (λ _. good Γ)) (block-ready (entries_of P c) Γ l u).1
