-- Beginning nodes under the invariant: first parts, lone statements, the entries of a block, a body.
use Rattle.std.proofs.Common.{◌≡◌, ℕ, ◌<◌, ◌≤◌, Bool, true, false, cond, List, [], ◌∷◌, ◌++◌, length, sym, refl, ap, subst, arith}
use mathlib.Core.Option.{some, none-ne-some, some-injective}
use mathlib.Core.Bool.{false≢true}
use Rattle.xi.specs.declared.node.Node.{Node}
use Rattle.xi.specs.declared.node.Node.TheVariants.{Number, Truth, Text, Variable as VariableNode, Element, Length, Unary, Binary, Constructor, Call, LibraryCall}
use Rattle.xi.specs.declared.node.Node.TheVariants.{Declare, DeclareValue, DeclareCall, Assign, AssignElement, If, IfElse, While, Return, CallStatement, Target, Discard, Block}
use Rattle.xi.specs.Program.{Program}
use Rattle.xi.specs.Tree.{node_at, entries_of, Sort, value_sort, call_sort, statement_sort, return_sort, block_sort, target_sort, sort_of, Place, expression_place, call_place, statement_place, target_place, suits}
use Rattle.xi.specs.Tree.{Part, at, all, decides_early, first_parts, Each, PartStands}
use Rattle.xi.specs.Typing.{Scope, pushed, Tables, call_gives, gives_as, gives, declared_by, Begins, Declarable, Inherit, Follow, last, Ends, return_ends, block_ends, if_ends, EndsWith}
use Rattle.semantics.specs.State.{Value, Variable, Task, begin, leave, back, keep}
use Rattle.semantics.specs.Rules.{begins}
use Rattle.semantics.specs.Sound.{Use, Values, Variables, Point, nowhere, live, begun, worked, Comes, comes_on, comes_return, comes_block, comes_if, Todo, no_tasks, to_begin, to_leave, to_back, pass_back, pass_leave}
use Rattle.semantics.proofs.Lists.{keep-pushed, pushed_append}

-- places and sorts

abbrev is_first : Place → Bool
is_first expression_place = true
is_first call_place = true
is_first statement_place = false
is_first target_place = false

abbrev in_expression : Sort → Bool
in_expression value_sort = true
in_expression call_sort = true
in_expression statement_sort = false
in_expression return_sort = false
in_expression block_sort = false
in_expression target_sort = false

first_sort : (p : Place) (s : Sort) → is_first p ≡ true → suits p s ≡ true → in_expression s ≡ true
first_sort expression_place value_sort f h = refl
first_sort expression_place call_sort f h = refl
first_sort expression_place statement_sort f h = absurd (false≢true h)
first_sort expression_place return_sort f h = absurd (false≢true h)
first_sort expression_place block_sort f h = absurd (false≢true h)
first_sort expression_place target_sort f h = absurd (false≢true h)
first_sort call_place value_sort f h = absurd (false≢true h)
first_sort call_place call_sort f h = refl
first_sort call_place statement_sort f h = absurd (false≢true h)
first_sort call_place return_sort f h = absurd (false≢true h)
first_sort call_place block_sort f h = absurd (false≢true h)
first_sort call_place target_sort f h = absurd (false≢true h)
first_sort statement_place s f h = absurd (false≢true f)
first_sort target_place s f h = absurd (false≢true f)

first-begun : (s : Sort) → in_expression s ≡ true → begun s ≡ true
first-begun value_sort h = refl
first-begun call_sort h = refl
first-begun statement_sort h = refl
first-begun return_sort h = refl
first-begun block_sort h = refl
first-begun target_sort h = absurd (false≢true h)

statement_begun : (s : Sort) → suits statement_place s ≡ true → begun s ≡ true
statement_begun value_sort h = refl
statement_begun call_sort h = refl
statement_begun statement_sort h = refl
statement_begun return_sort h = refl
statement_begun block_sort h = refl
statement_begun target_sort h = absurd (false≢true h)

statement_gives : (t : ℕ) (rs : List ℕ) (s : Sort) → suits statement_place s ≡ true → gives_as s t rs ≡ []
statement_gives t rs value_sort h = absurd (false≢true h)
statement_gives t rs call_sort h = absurd (false≢true h)
statement_gives t rs statement_sort h = refl
statement_gives t rs return_sort h = refl
statement_gives t rs block_sort h = refl
statement_gives t rs target_sort h = absurd (false≢true h)

-- an expression declares no name
no_names : (P : Program) (d : Node) → in_expression (sort_of d) ≡ true → declared_by P d ≡ []
no_names P (Number c) h = refl
no_names P (Truth b) h = refl
no_names P (Text r) h = refl
no_names P (VariableNode x) h = refl
no_names P (Element a i) h = refl
no_names P (Length a) h = refl
no_names P (Unary o a) h = refl
no_names P (Binary o a b) h = refl
no_names P (Constructor t r) h = refl
no_names P (Call x r) h = refl
no_names P (LibraryCall f r) h = refl
no_names P (Declare x t r) h = absurd (false≢true h)
no_names P (DeclareValue x t a) h = absurd (false≢true h)
no_names P (DeclareCall a r) h = absurd (false≢true h)
no_names P (Assign x a) h = refl
no_names P (AssignElement a i b) h = refl
no_names P (If g a) h = refl
no_names P (IfElse g a b) h = refl
no_names P (While g a) h = refl
no_names P (Return r) h = refl
no_names P (CallStatement a) h = refl
no_names P (Target x t) h = refl
no_names P Discard h = refl
no_names P (Block r) h = refl

expression_places : (es : List ℕ) → Each (λ (p : Part). is_first p.place ≡ true) (all expression_place es)
expression_places [] = tt
expression_places (e ∷ es) = (refl, expression_places es)

operand_places : (b : Bool) (n : ℕ) → Each (λ (p : Part). is_first p.place ≡ true) (cond b [] (at expression_place n ∷ []))
operand_places true n = tt
operand_places false n = (refl, tt)

-- first parts are expressions and calls
pub first-places : (P : Program) (d : Node) → Each (λ (p : Part). is_first p.place ≡ true) (first_parts P d)
first-places P (Number c) = tt
first-places P (Truth b) = tt
first-places P (Text r) = tt
first-places P (VariableNode x) = tt
first-places P (Element a i) = (refl, (refl, tt))
first-places P (Length a) = (refl, tt)
first-places P (Unary o a) = (refl, tt)
first-places P (Binary o a b) = (refl, operand_places (decides_early o) b)
first-places P (Constructor t r) = expression_places (entries_of P r)
first-places P (Call x r) = expression_places (entries_of P r)
first-places P (LibraryCall f r) = expression_places (entries_of P r)
first-places P (Declare x t r) = expression_places (entries_of P r)
first-places P (DeclareValue x t a) = (refl, tt)
first-places P (DeclareCall a r) = (refl, tt)
first-places P (Assign x a) = (refl, tt)
first-places P (AssignElement a i b) = (refl, (refl, (refl, tt)))
first-places P (If g a) = (refl, tt)
first-places P (IfElse g a b) = (refl, tt)
first-places P (While g a) = (refl, tt)
first-places P (Return r) = expression_places (entries_of P r)
first-places P (CallStatement a) = (refl, tt)
first-places P (Target x t) = tt
first-places P Discard = tt
first-places P (Block r) = tt

-- a node that ends leads nowhere
pub ends_nowhere : {P : Program} {T : Tables} {n : ℕ} {d : Node} → Ends P d → Comes P T n d [] nowhere
ends_nowhere return_ends = comes_return
ends_nowhere (block_ends n e h) = comes_block e h
ends_nowhere (if_ends a b) = comes_if a b

-- at most 64 names are in scope behind a declaration
pub few_declared : (P : Program) (bs Γ : Scope) → Declarable P Γ bs → length Γ ≤ 64 → length (pushed bs Γ) ≤ 64
few_declared P [] Γ d h = h
few_declared P (b ∷ bs) Γ d h = few_declared P bs (b ∷ Γ) d.3 d.2

module _ (P : Program) (T : Tables) (V : ℕ → ℕ) (names : (n : ℕ) → Declarable P (T.scope n) (declared_by P (node_at P n))) (K : List Use) where
  begin-at : {r : List ℕ} {l : ℕ} {Γ : Scope} {ts : List ℕ} {a : Point} {k : List Task} (n : ℕ) → T.scope n ≡ Γ → T.owed n ≡ r → length Γ ≤ 64 → l < V n → begun (sort_of (node_at P n)) ≡ true →
      Comes P T n (node_at P n) ts a → Todo P T V K r l a k → Todo P T V K r l (live Γ ts) (begin n ∷ k)
  begin-at {r} {l} {Γ} {ts} {a} {k} n e q f v b c d =
      subst (λ (Γ : Scope). Todo P T V K r l (live Γ ts) (begin n ∷ k)) e
      (subst (λ (r : List ℕ). Todo P T V K r l (live (T.scope n) ts) (begin n ∷ k)) q
      (to_begin (record { runs = b; deeper = v; few = subst (λ (Γ : Scope). length Γ ≤ 64) (sym e) f }) c (subst (λ (r : List ℕ). Todo P T V K r l a k) (sym q) d)))

  begin-on : {r : List ℕ} {l : ℕ} {Γ : Scope} {ts : List ℕ} {k : List Task} (n : ℕ) → T.scope n ≡ Γ → T.owed n ≡ r → length Γ ≤ 64 → l < V n → begun (sort_of (node_at P n)) ≡ true →
      Todo P T V K r l (live (pushed (declared_by P (node_at P n)) Γ) (pushed (gives P T n) ts)) k → Todo P T V K r l (live Γ ts) (begin n ∷ k)
  begin-on {r} {l} {Γ} {ts} {k} n e q f v b d =
      begin-at n e q f v b comes_on (subst (λ (Γ : Scope). Todo P T V K r l (live (pushed (declared_by P (node_at P n)) Γ) (pushed (gives P T n) ts)) k) (sym e) d)

  begin-ends : {r : List ℕ} {l : ℕ} {Γ : Scope} {k : List Task} (n : ℕ) → T.scope n ≡ Γ → T.owed n ≡ r → length Γ ≤ 64 → l < V n → begun (sort_of (node_at P n)) ≡ true →
      Ends P (node_at P n) → Todo P T V K r l nowhere k → Todo P T V K r l (live Γ []) (begin n ∷ k)
  begin-ends n e q f v b h d = begin-at n e q f v b (ends_nowhere h) d

  few-behind : {Γ : Scope} (n : ℕ) → T.scope n ≡ Γ → length Γ ≤ 64 → length (pushed (declared_by P (node_at P n)) Γ) ≤ 64
  few-behind {Γ} n e f = few_declared P (declared_by P (node_at P n)) Γ (subst (λ (Γ : Scope). Declarable P Γ (declared_by P (node_at P n))) e (names n)) f

  -- a part that is an expression or a call
  pub begin-first : {m l : ℕ} {Γ : Scope} {ts : List ℕ} {k : List Task} (p : Part) → is_first p.place ≡ true → PartStands P V m p → Begins T m Γ p → length Γ ≤ 64 → l ≤ V m →
      Todo P T V K (T.owed m) l (live Γ (pushed (gives P T p.number) ts)) k → Todo P T V K (T.owed m) l (live Γ ts) (begin p.number ∷ k)
  begin-first {m} {l} {Γ} {ts} {k} p f st b w v d =
      let i = first_sort p.place (sort_of (node_at P p.number)) f st.suited in
      begin-on p.number b.scope b.owed w (omega (arith, st.below)) (first-begun (sort_of (node_at P p.number)) i)
      (subst (λ (bs : Scope). Todo P T V K (T.owed m) l (live (pushed bs Γ) (pushed (gives P T p.number) ts)) k) (sym (no_names P (node_at P p.number) i)) d)

  pub begin-firsts : {m : ℕ} {k : List Task} (ps : List Part) (ts : List ℕ) → Each (λ (p : Part). is_first p.place ≡ true) ps → Each (PartStands P V m) ps → Inherit T m ps → length (T.scope m) ≤ 64 →
      Todo P T V K (T.owed m) (V m) (live (T.scope m) (worked P T ps ts)) k → Todo P T V K (T.owed m) (V m) (live (T.scope m) ts) (begins ps k)
  begin-firsts [] ts f st b w d = d
  begin-firsts {m} (p ∷ ps) ts f st b w d = begin-first p f.0 st.0 b.0 w (omega arith) (begin-firsts ps (pushed (gives P T p.number) ts) f.1 st.1 b.1 w d)

  -- a lone statement: its names end with it
  pub alone-on : {m j l : ℕ} {Γ : Scope} {ts : List ℕ} {k : List Task} (a : ℕ) → PartStands P V m (at statement_place a) → Begins T m Γ (at statement_place a) → length Γ ≤ 64 → l ≤ V m → length Γ ≡ j →
      Todo P T V K (T.owed m) l (live Γ ts) k → Todo P T V K (T.owed m) (V m) (live Γ ts) (begin a ∷ leave j ∷ k)
  alone-on {m} {j} {l} {Γ} {ts} {k} a st b w v e d =
      begin-on a b.scope b.owed w (omega (arith, st.below)) (statement_begun (sort_of (node_at P a)) st.suited)
      (subst (λ (g : List ℕ). Todo P T V K (T.owed m) (V m) (live (pushed (declared_by P (node_at P a)) Γ) (pushed g ts)) (leave j ∷ k)) (sym (statement_gives _ _ (sort_of (node_at P a)) st.suited))
      (to_leave v (few-behind a b.scope w) (subst (λ (j : ℕ). Todo P T V K (T.owed m) l (live (keep j (pushed (declared_by P (node_at P a)) Γ)) ts) k) e
      (subst (λ (Δ : Scope). Todo P T V K (T.owed m) l (live Δ ts) k) (sym (keep-pushed (declared_by P (node_at P a)) Γ)) d))))

  pub alone-ends : {m j l : ℕ} {Γ : Scope} {k : List Task} (a : ℕ) → PartStands P V m (at statement_place a) → Begins T m Γ (at statement_place a) → length Γ ≤ 64 → l ≤ V m → Ends P (node_at P a) →
      Todo P T V K (T.owed m) l nowhere k → Todo P T V K (T.owed m) (V m) (live Γ []) (begin a ∷ leave j ∷ k)
  alone-ends a st b w v h d = begin-ends a b.scope b.owed w (omega (arith, st.below)) (statement_begun (sort_of (node_at P a)) st.suited) h (pass_leave v d)

  -- the entries of a block, each in the scope after the one before
  entries-on : {m j l : ℕ} {ts : List ℕ} {k : List Task} (Γ : Scope) (es : List ℕ) (bs : Scope) → Each (PartStands P V m) (all statement_place es) →
      Follow P T m (pushed bs Γ) (all statement_place es) → length (pushed bs Γ) ≤ 64 → l ≤ V m → length Γ ≡ j → Todo P T V K (T.owed m) l (live Γ ts) k →
      Todo P T V K (T.owed m) (V m) (live (pushed bs Γ) ts) (begins (all statement_place es) (leave j ∷ k))
  entries-on {m} {j} {l} {ts} {k} Γ [] bs st b w v e d =
      to_leave v w (subst (λ (j : ℕ). Todo P T V K (T.owed m) l (live (keep j (pushed bs Γ)) ts) k) e (subst (λ (Δ : Scope). Todo P T V K (T.owed m) l (live Δ ts) k) (sym (keep-pushed bs Γ)) d))
  entries-on {m} {j} {l} {ts} {k} Γ (x ∷ es) bs st b w v e d =
      let q : pushed (bs ++ declared_by P (node_at P x)) Γ ≡ pushed (declared_by P (node_at P x)) (pushed bs Γ) = pushed_append bs (declared_by P (node_at P x)) Γ in
      begin-on x b.0.scope b.0.owed w (omega (arith, st.0.below)) (statement_begun (sort_of (node_at P x)) st.0.suited)
      (subst (λ (g : List ℕ). Todo P T V K (T.owed m) (V m) (live (pushed (declared_by P (node_at P x)) (pushed bs Γ)) (pushed g ts)) (begins (all statement_place es) (leave j ∷ k))) (sym (statement_gives _ _ (sort_of (node_at P x)) st.0.suited))
      (subst (λ (Δ : Scope). Todo P T V K (T.owed m) (V m) (live Δ ts) (begins (all statement_place es) (leave j ∷ k))) q
      (entries-on Γ es (bs ++ declared_by P (node_at P x)) st.1 (subst (λ (Δ : Scope). Follow P T m Δ (all statement_place es)) (sym q) b.1)
      (subst (λ (Δ : Scope). length Δ ≤ 64) (sym q) (few-behind x b.0.scope w)) v e d)))

  pub block_on : {m j l : ℕ} {ts : List ℕ} {k : List Task} (Γ : Scope) (es : List ℕ) → Each (PartStands P V m) (all statement_place es) → Follow P T m Γ (all statement_place es) → length Γ ≤ 64 → l ≤ V m → length Γ ≡ j →
      Todo P T V K (T.owed m) l (live Γ ts) k → Todo P T V K (T.owed m) (V m) (live Γ ts) (begins (all statement_place es) (leave j ∷ k))
  block_on Γ es st b w v e d = entries-on Γ es [] st b w v e d

  pub block-ends : {m l : ℕ} {k : List Task} (j : ℕ) (Γ : Scope) (es : List ℕ) (n : ℕ) → last es ≡ some n → Ends P (node_at P n) → Each (PartStands P V m) (all statement_place es) →
      Follow P T m Γ (all statement_place es) → length Γ ≤ 64 → l ≤ V m → Todo P T V K (T.owed m) l nowhere k → Todo P T V K (T.owed m) (V m) (live Γ []) (begins (all statement_place es) (leave j ∷ k))
  block-ends j Γ [] n q h st b w v d = absurd (none-ne-some _ q)
  block-ends j Γ (e ∷ []) n q h st b w v d =
      begin-ends e b.0.scope b.0.owed w (omega (arith, st.0.below)) (statement_begun (sort_of (node_at P e)) st.0.suited) (subst (λ (m : ℕ). Ends P (node_at P m)) (sym (some-injective _ _ q)) h) (pass_leave v d)
  block-ends {m} {k = k} j Γ (e ∷ f ∷ es) n q h st b w v d =
      begin-on e b.0.scope b.0.owed w (omega (arith, st.0.below)) (statement_begun (sort_of (node_at P e)) st.0.suited)
      (subst (λ (g : List ℕ). Todo P T V K (T.owed m) (V m) (live (pushed (declared_by P (node_at P e)) Γ) (pushed g [])) (begins (all statement_place (f ∷ es)) (leave j ∷ k))) (sym (statement_gives _ _ (sort_of (node_at P e)) st.0.suited))
      (block-ends j (pushed (declared_by P (node_at P e)) Γ) (f ∷ es) n q h st.1 b.1 (few-behind e b.0.scope w) v d))

  -- the body of `main`
  pub main-on : {Γ : Scope} (n : ℕ) → T.scope n ≡ Γ → T.owed n ≡ [] → length Γ ≤ 64 → 0 < V n → sort_of (node_at P n) ≡ block_sort → Todo P T V K [] 0 (live Γ []) (begin n ∷ [])
  main-on {Γ} n e w f v b =
      begin-on n e w f v (ap begun b) (subst (λ (g : List ℕ). Todo P T V K [] 0 (live (pushed (declared_by P (node_at P n)) Γ) (pushed g [])) []) (sym (ap (λ (s : Sort). gives_as s (T.type n) (call_gives P (node_at P n))) b)) (no_tasks (few-behind n e f)))

  -- a body, and behind it the caller
  pub body-on : {q : List ℕ} {l : ℕ} {Γ : Scope} {us : List ℕ} {E : List Variable} {O : List Value} {k : List Task} (n : ℕ) (r : List ℕ) (m : ℕ) → T.scope n ≡ Γ → T.owed n ≡ r → length Γ ≤ 64 → 0 < V n →
      sort_of (node_at P n) ≡ block_sort → EndsWith P r (node_at P n) → l < 32 → length (T.scope m) ≤ 64 → sort_of (node_at P m) ≡ call_sort → Variables K (T.scope m) E → Values K us O →
      Todo P T V K q l (live (T.scope m) (pushed r us)) k → Todo P T V K r 0 (live Γ []) (begin n ∷ back E O ∷ k)
  body-on {Γ = Γ} {E = E} {O} {k} n [] m e w f v b h x y c z o d =
      begin-on n e w f v (ap begun b) (subst (λ (g : List ℕ). Todo P T V K [] 0 (live (pushed (declared_by P (node_at P n)) Γ) (pushed g [])) (back E O ∷ k)) (sym (ap (λ (s : Sort). gives_as s (T.type n) (call_gives P (node_at P n))) b)) (to_back m (few-behind n e f) x y c z o d))
  body-on n (t ∷ ts) m e w f v b h x y c z o d = begin-ends n e w f v (ap begun b) h (pass_back m x y c z o d)
