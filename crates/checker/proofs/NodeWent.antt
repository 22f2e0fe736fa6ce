-- Where the walk went well at a node, its local rules hold and it went well at each part, in the part's own scope.
use Rattle.std.proofs.Common.{◌≡◌, ℕ, true, false, List, [], ◌∷◌, sym, refl, ◌∙◌, subst}
use Rattle.std.proofs.lemmas.Bool.{false≢true}
use Rattle.xi.specs.declared.node.Node.{Node}
use Rattle.xi.specs.declared.node.Node.TheVariants.{Number, Truth, Text, Variable, Element, Length, Unary, Binary, Constructor, Call, LibraryCall}
use Rattle.xi.specs.declared.node.Node.TheVariants.{Declare, DeclareValue, DeclareCall, Assign, AssignElement, If, IfElse, While, Return, CallStatement, Target, Discard, Block}
use Rattle.xi.specs.Program.{Program}
use Rattle.xi.specs.Tree.{node_at, Sort, value_sort, call_sort, statement_sort, return_sort, block_sort, target_sort, sort_of, Place, expression_place, call_place, statement_place, target_place, suits, Part, first_parts, later_parts, parts_of, Each}
use Rattle.xi.specs.Typing.{Scope, pushed, Tables, Begins, Inherit, Follow, ScopesBy, Typed, declared_by, OnlyLastReturns, ReturnsBy}
use Rattle.sheet.specs.Outcome.{good}
use Rattle.sheet.specs.Sheets.{Decoded}
use Rattle.checker.specs.Trees.{offset_of, parts_in}
use Rattle.checker.specs.Walk.{type_of, call_of, after_all, after_of}
use Rattle.checker.proofs.Eaches.{each_both, each_append}
use Rattle.checker.proofs.WalkDepth.{PartsBelow, parts_same, type-step, after-step}
use Rattle.checker.proofs.Passes.{called_expression}
use Rattle.checker.proofs.Went.{Went, no_return, lone-return}
use Rattle.checker.proofs.WentTypes.{Lone, AllLone, call-went, type-went}
use Rattle.checker.proofs.WentStatements.{BlockWent, LoneBy, StatementWent, after-went}

module _ (P : Program) (T : Tables) (n : ℕ) where
  -- the scopes of all parts
  scopes-of : (d : Node) → Inherit T n (first_parts P d) → ScopesBy P T n (sort_of d) (later_parts P d) → ScopesBy P T n (sort_of d) (parts_of P d)
  scopes-of (Number c) f l = each_append (Begins T n (T.scope n)) (first_parts P (Number c)) (later_parts P (Number c)) f l
  scopes-of (Truth c) f l = each_append (Begins T n (T.scope n)) (first_parts P (Truth c)) (later_parts P (Truth c)) f l
  scopes-of (Text c) f l = each_append (Begins T n (T.scope n)) (first_parts P (Text c)) (later_parts P (Text c)) f l
  scopes-of (Variable x) f l = each_append (Begins T n (T.scope n)) (first_parts P (Variable x)) (later_parts P (Variable x)) f l
  scopes-of (Element a i) f l = each_append (Begins T n (T.scope n)) (first_parts P (Element a i)) (later_parts P (Element a i)) f l
  scopes-of (Length a) f l = each_append (Begins T n (T.scope n)) (first_parts P (Length a)) (later_parts P (Length a)) f l
  scopes-of (Unary o a) f l = each_append (Begins T n (T.scope n)) (first_parts P (Unary o a)) (later_parts P (Unary o a)) f l
  scopes-of (Binary o a c) f l = each_append (Begins T n (T.scope n)) (first_parts P (Binary o a c)) (later_parts P (Binary o a c)) f l
  scopes-of (Constructor t c) f l = each_append (Begins T n (T.scope n)) (first_parts P (Constructor t c)) (later_parts P (Constructor t c)) f l
  scopes-of (Call x c) f l = each_append (Begins T n (T.scope n)) (first_parts P (Call x c)) (later_parts P (Call x c)) f l
  scopes-of (LibraryCall g c) f l = each_append (Begins T n (T.scope n)) (first_parts P (LibraryCall g c)) (later_parts P (LibraryCall g c)) f l
  scopes-of (Declare x t c) f l = each_append (Begins T n (T.scope n)) (first_parts P (Declare x t c)) (later_parts P (Declare x t c)) f l
  scopes-of (DeclareValue x t a) f l = each_append (Begins T n (T.scope n)) (first_parts P (DeclareValue x t a)) (later_parts P (DeclareValue x t a)) f l
  scopes-of (DeclareCall a c) f l = each_append (Begins T n (T.scope n)) (first_parts P (DeclareCall a c)) (later_parts P (DeclareCall a c)) f l
  scopes-of (Assign x a) f l = each_append (Begins T n (T.scope n)) (first_parts P (Assign x a)) (later_parts P (Assign x a)) f l
  scopes-of (AssignElement a i c) f l = each_append (Begins T n (T.scope n)) (first_parts P (AssignElement a i c)) (later_parts P (AssignElement a i c)) f l
  scopes-of (If g a) f l = each_append (Begins T n (T.scope n)) (first_parts P (If g a)) (later_parts P (If g a)) f l
  scopes-of (IfElse g a c) f l = each_append (Begins T n (T.scope n)) (first_parts P (IfElse g a c)) (later_parts P (IfElse g a c)) f l
  scopes-of (While g a) f l = each_append (Begins T n (T.scope n)) (first_parts P (While g a)) (later_parts P (While g a)) f l
  scopes-of (Return c) f l = each_append (Begins T n (T.scope n)) (first_parts P (Return c)) (later_parts P (Return c)) f l
  scopes-of (CallStatement a) f l = each_append (Begins T n (T.scope n)) (first_parts P (CallStatement a)) (later_parts P (CallStatement a)) f l
  scopes-of (Target x t) f l = each_append (Begins T n (T.scope n)) (first_parts P (Target x t)) (later_parts P (Target x t)) f l
  scopes-of Discard f l = each_append (Begins T n (T.scope n)) (first_parts P Discard) (later_parts P Discard) f l
  scopes-of (Block c) f l = l

  -- the same, by the order of the parts
  pub scopes-in : (d : Node) → Inherit T n (first_parts P d) → ScopesBy P T n (sort_of d) (later_parts P d) → ScopesBy P T n (sort_of d) (parts_in P d)
  scopes-in d f l = subst (ScopesBy P T n (sort_of d)) (parts_same P d) (scopes-of d f l)

  -- the parts of an expression begin in its scope
  expression-starts : (s : Sort) (ps : List Part) → suits expression_place s ≡ true → ScopesBy P T n s ps → Inherit T n ps
  expression-starts value_sort ps e b = b
  expression-starts call_sort ps e b = b
  expression-starts statement_sort ps e b = absurd (false≢true e)
  expression-starts return_sort ps e b = absurd (false≢true e)
  expression-starts block_sort ps e b = absurd (false≢true e)
  expression-starts target_sort ps e b = absurd (false≢true e)

module _ (D : Decoded) (T : Tables) (n : ℕ) where
  -- an expression declares nothing
  expression-went : (d : Node) → suits expression_place (sort_of d) ≡ true → Typed D.program T n d × AllLone D (T.scope n) (T.owed n) (parts_in D.program d) → StatementWent D T n d
  expression-went (Number c) e h = record { typed = h.0; names = tt; parts = h.1 }
  expression-went (Truth c) e h = record { typed = h.0; names = tt; parts = h.1 }
  expression-went (Text c) e h = record { typed = h.0; names = tt; parts = h.1 }
  expression-went (Variable x) e h = record { typed = h.0; names = tt; parts = h.1 }
  expression-went (Element a i) e h = record { typed = h.0; names = tt; parts = h.1 }
  expression-went (Length a) e h = record { typed = h.0; names = tt; parts = h.1 }
  expression-went (Unary o a) e h = record { typed = h.0; names = tt; parts = h.1 }
  expression-went (Binary o a c) e h = record { typed = h.0; names = tt; parts = h.1 }
  expression-went (Constructor t c) e h = record { typed = h.0; names = tt; parts = h.1 }
  expression-went (Call x c) e h = record { typed = h.0; names = tt; parts = h.1 }
  expression-went (LibraryCall f c) e h = record { typed = h.0; names = tt; parts = h.1 }
  expression-went (Declare x t c) e h = absurd (false≢true e)
  expression-went (DeclareValue x t a) e h = absurd (false≢true e)
  expression-went (DeclareCall a c) e h = absurd (false≢true e)
  expression-went (Assign x a) e h = absurd (false≢true e)
  expression-went (AssignElement a i c) e h = absurd (false≢true e)
  expression-went (If g a) e h = absurd (false≢true e)
  expression-went (IfElse g a c) e h = absurd (false≢true e)
  expression-went (While g a) e h = absurd (false≢true e)
  expression-went (Return c) e h = absurd (false≢true e)
  expression-went (CallStatement a) e h = absurd (false≢true e)
  expression-went (Target x t) e h = absurd (false≢true e)
  expression-went Discard e h = absurd (false≢true e)
  expression-went (Block c) e h = absurd (false≢true e)

  -- a target asks nothing of its own
  target-went : (d : Node) → suits target_place (sort_of d) ≡ true → StatementWent D T n d
  target-went (Number c) e = absurd (false≢true e)
  target-went (Truth c) e = absurd (false≢true e)
  target-went (Text c) e = absurd (false≢true e)
  target-went (Variable x) e = absurd (false≢true e)
  target-went (Element a i) e = absurd (false≢true e)
  target-went (Length a) e = absurd (false≢true e)
  target-went (Unary o a) e = absurd (false≢true e)
  target-went (Binary o a c) e = absurd (false≢true e)
  target-went (Constructor t c) e = absurd (false≢true e)
  target-went (Call x c) e = absurd (false≢true e)
  target-went (LibraryCall f c) e = absurd (false≢true e)
  target-went (Declare x t c) e = absurd (false≢true e)
  target-went (DeclareValue x t a) e = absurd (false≢true e)
  target-went (DeclareCall a c) e = absurd (false≢true e)
  target-went (Assign x a) e = absurd (false≢true e)
  target-went (AssignElement a i c) e = absurd (false≢true e)
  target-went (If g a) e = absurd (false≢true e)
  target-went (IfElse g a c) e = absurd (false≢true e)
  target-went (While g a) e = absurd (false≢true e)
  target-went (Return c) e = absurd (false≢true e)
  target-went (CallStatement a) e = absurd (false≢true e)
  target-went (Target x t) e = record { typed = tt; names = tt; parts = tt }
  target-went Discard e = record { typed = tt; names = tt; parts = tt }
  target-went (Block c) e = absurd (false≢true e)

module _ (D : Decoded) (below : PartsBelow D.program) (T : Tables) (typed : (n t : ℕ) → type_of D (T.scope n) n ≡ good t → T.type n ≡ t) where
  abbrev P : Program
  P = D.program

  -- a part is what its place asks
  abbrev Suited : Part → Type 0
  Suited p = suits p.place (sort_of (node_at P p.number)) ≡ true

  -- the walk went well at a part, in the part's own scope
  abbrev pub Own : Part → Type 0
  Own p = Went D (T.scope p.number) (T.owed p.number) p.place p.number

  -- the local rules of node n
  pub node-went : (n : ℕ) (π : Place) → suits π (sort_of (node_at P n)) ≡ true → ScopesBy P T n (sort_of (node_at P n)) (parts_in P (node_at P n)) → Each Suited (parts_in P (node_at P n)) → Went D (T.scope n) (T.owed n) π n → StatementWent D T n (node_at P n)
  unfolding call_of
  node-went n expression_place e b s h =
      expression-went D T n (node_at P n) e (type-went D below T typed n (offset_of D n) (node_at P n) h.0 (expression-starts P T n (sort_of (node_at P n)) (parts_in P (node_at P n)) e b) (typed n h.0 h.1) (sym (type-step D below (T.scope n) n) ∙ h.1))
  node-went n call_place e b s h =
      let f = called_expression (sort_of (node_at P n)) e in
      expression-went D T n (node_at P n) f (call-went D below T typed n h.0 (offset_of D n) (node_at P n) h.1 (expression-starts P T n (sort_of (node_at P n)) (parts_in P (node_at P n)) f b) h.2)
  node-went n statement_place e b s h = after-went D below T typed n (offset_of D n) h.0 (node_at P n) h.1 b s (sym (after-step D below (T.owed n) h.0 (T.scope n) n) ∙ h.2)
  node-went n target_place e b s h = target-went D T n (node_at P n) e

  -- where it went well, whether last or not
  went : (Γ : Scope) (ω : List ℕ) (π : Place) (a : ℕ) → Lone D Γ ω π a → Went D Γ ω π a
  went Γ ω expression_place a h = h
  went Γ ω call_place a h = h
  went Γ ω statement_place a h = (false, h.0, h.1)
  went Γ ω target_place a h = tt

  -- a part's own scope is the one that it begins in
  own : (n : ℕ) (Γ : Scope) (p : Part) → Begins T n Γ p → Went D Γ (T.owed n) p.place p.number → Own p
  own n Γ p b h =
      subst (λ (Δ : Scope). Went D Δ (T.owed p.number) p.place p.number) (sym b.scope) (subst (λ (ω : List ℕ). Went D Γ ω p.place p.number) (sym b.owed) h)

  -- parts with their node's scope
  all_own : (n : ℕ) (ps : List Part) → Inherit T n ps → AllLone D (T.scope n) (T.owed n) ps → Each Own ps
  all_own n ps b h = each_both (Begins T n (T.scope n)) (λ p. Lone D (T.scope n) (T.owed n) p.place p.number) Own (λ p c k. own n (T.scope n) p c (went (T.scope n) (T.owed n) p.place p.number k)) ps b h

  -- entries of a block
  block-own : (n : ℕ) (Γ : Scope) (ps : List Part) → Follow P T n Γ ps → BlockWent D (T.owed n) Γ ps → Each Own ps
  block-own n Γ [] b h = tt
  block-own n Γ (p ∷ ps) b h = (own n Γ p b.0 h.1, block-own n (pushed (declared_by P (node_at P p.number)) Γ) ps b.1 h.2)

  -- the walk went well at all parts of a node of that sort
  pub own-by : (n : ℕ) (s : Sort) (ps : List Part) → ScopesBy P T n s ps → LoneBy D (T.owed n) (T.scope n) s ps → Each Own ps
  own-by n value_sort ps b h = all_own n ps b h
  own-by n call_sort ps b h = all_own n ps b h
  own-by n statement_sort ps b h = all_own n ps b h
  own-by n return_sort ps b h = all_own n ps b h
  own-by n block_sort ps b h = block-own n (T.scope n) ps b h
  own-by n target_sort ps b h = all_own n ps b h

  -- a statement that is not last is no return
  after-returns : (ω : List ℕ) (Γ : Scope) (a : ℕ) (Δ : Scope) → after_of D ω false Γ a ≡ good Δ → sort_of (node_at P a) ≡ return_sort → ⊥
  after-returns ω Γ a Δ q e = lone-return (type_of D Γ) (call_of D Γ) (after_of D ω false Γ) (λ ns. after_all (after_of D ω) ns Γ) D ω Γ (offset_of D a) (node_at P a) Δ (sym (after-step D below ω false Γ a) ∙ q) e

  -- a part that is not last in a block is no return
  lone-returns : (Γ : Scope) (ω : List ℕ) (π : Place) (a : ℕ) → suits π (sort_of (node_at P a)) ≡ true → Lone D Γ ω π a → sort_of (node_at P a) ≡ return_sort → ⊥
  lone-returns Γ ω expression_place a s h e = no_return (sort_of (node_at P a)) expression_place s refl e
  lone-returns Γ ω call_place a s h e = no_return (sort_of (node_at P a)) call_place s refl e
  lone-returns Γ ω statement_place a s h e = after-returns ω Γ a h.0 h.1 e
  lone-returns Γ ω target_place a s h e = no_return (sort_of (node_at P a)) target_place s refl e

  -- nor is any such part
  all-returns : (Γ : Scope) (ω : List ℕ) (ps : List Part) → Each Suited ps → AllLone D Γ ω ps → Each (λ (p : Part). (sort_of (node_at P p.number) ≡ return_sort) → ⊥) ps
  all-returns Γ ω ps s h = each_both Suited (λ p. Lone D Γ ω p.place p.number) (λ (p : Part). (sort_of (node_at P p.number) ≡ return_sort) → ⊥) (λ p t k. lone-returns Γ ω p.place p.number t k) ps s h

  -- in a block only the last entry is a return
  block-returns : (Γ : Scope) (ω : List ℕ) (ps : List Part) → BlockWent D ω Γ ps → OnlyLastReturns P ps
  block-returns Γ ω [] h = tt
  block-returns Γ ω (p ∷ []) h = tt
  block-returns Γ ω (p ∷ q ∷ ps) h = (after-returns ω Γ p.number h.0.0 h.0.1, block-returns (pushed (declared_by P (node_at P p.number)) Γ) ω (q ∷ ps) h.2)

  -- no return stands where it may not
  pub returns-by : (Γ : Scope) (ω : List ℕ) (s : Sort) (ps : List Part) → Each Suited ps → LoneBy D ω Γ s ps → ReturnsBy P s ps
  returns-by Γ ω value_sort ps s h = all-returns Γ ω ps s h
  returns-by Γ ω call_sort ps s h = all-returns Γ ω ps s h
  returns-by Γ ω statement_sort ps s h = all-returns Γ ω ps s h
  returns-by Γ ω return_sort ps s h = all-returns Γ ω ps s h
  returns-by Γ ω block_sort ps s h = block-returns Γ ω ps h
  returns-by Γ ω target_sort ps s h = all-returns Γ ω ps s h
