-- Where a sheet obeys the rules, the walk passes every node, in the scope that its table has.
use Rattle.std.proofs.Common.{◌≡◌, ℕ, zero, suc, ◌<◌, true, List, [], ◌∷◌, ◌++◌, length, sym, refl, ◌∙◌, subst, arith}
use Rattle.std.proofs.lemmas.Bool.{false≢true}
use Rattle.xi.specs.Program.{Program}
use Rattle.xi.specs.Tree.{node_at, Sort, value_sort, call_sort, statement_sort, return_sort, block_sort, target_sort, sort_of, Place, expression_place, call_place, statement_place, target_place, suits, Part, first_parts, later_parts, parts_of, Each, PartStands, Tree}
use Rattle.xi.specs.Typing.{Scope, pushed, Tables, gives, gives_as, call_gives, Begins, ScopesBy, Follow, declared_by}
use Rattle.xi.specs.Obeys.{Obeys}
use Rattle.sheet.specs.Outcome.{good}
use Rattle.sheet.specs.Sheets.{Decoded}
use Rattle.checker.specs.Trees.{offset_of, parts_in}
use Rattle.checker.specs.Walk.{call_node, type_of, call_of}
use Rattle.checker.proofs.Eaches.{each-onto, each_both, each_append, each_left, each_right}
use Rattle.checker.proofs.WalkDepth.{Below, PartsBelow, parts_same, type-step, after-step}
use Rattle.checker.proofs.Asked.{Ready, AllReady}
use Rattle.checker.proofs.ReadyTypes.{call-ready, type-ready}
use Rattle.checker.proofs.ReadyStatements.{FollowReady, ReadyBy, after-ready}

-- a call gives its results
pub call_gives-gives_as : (s : Sort) (t : ℕ) (rs : List ℕ) → suits call_place s ≡ true → gives_as s t rs ≡ rs
call_gives-gives_as value_sort t rs e = absurd (false≢true e)
call_gives-gives_as call_sort t rs e = refl
call_gives-gives_as statement_sort t rs e = absurd (false≢true e)
call_gives-gives_as return_sort t rs e = absurd (false≢true e)
call_gives-gives_as block_sort t rs e = absurd (false≢true e)
call_gives-gives_as target_sort t rs e = absurd (false≢true e)

-- a call may stand where an expression is asked
pub called_expression : (s : Sort) → suits call_place s ≡ true → suits expression_place s ≡ true
called_expression value_sort e = absurd (false≢true e)
called_expression call_sort e = refl
called_expression statement_sort e = absurd (false≢true e)
called_expression return_sort e = absurd (false≢true e)
called_expression block_sort e = absurd (false≢true e)
called_expression target_sort e = absurd (false≢true e)

module _ (D : Decoded) (T : Tables) where
  -- the walk passes a part in the scope of its own table
  abbrev Own : Part → Type 0
  Own p = Ready D T (T.scope p.number) (T.owed p.number) p.place p.number

  -- a part in the scope that it begins in
  moved : (n : ℕ) (Γ : Scope) (p : Part) → Own p → Begins T n Γ p → Ready D T Γ (T.owed n) p.place p.number
  moved n Γ p r b =
      subst (λ (ω : List ℕ). Ready D T Γ ω p.place p.number) b.owed (subst (λ (Δ : Scope). Ready D T Δ (T.owed p.number) p.place p.number) b.scope r)

  -- parts with their node's scope
  all_moved : (n : ℕ) (Γ : Scope) (ps : List Part) → Each Own ps → Each (Begins T n Γ) ps → AllReady D T Γ (T.owed n) ps
  all_moved n Γ ps r b = each_both Own (Begins T n Γ) (λ p. Ready D T Γ (T.owed n) p.place p.number) (moved n Γ) ps r b

  -- entries of a block
  follow-moved : (n : ℕ) (Γ : Scope) (ps : List Part) → Each Own ps → Follow D.program T n Γ ps → FollowReady D T (T.owed n) Γ ps
  follow-moved n Γ [] r b = tt
  follow-moved n Γ (p ∷ ps) r b = (moved n Γ p r.0 b.0, follow-moved n (pushed (declared_by D.program (node_at D.program p.number)) Γ) ps r.1 b.1)

  -- the later parts of a node of that sort
  later-moved : (n : ℕ) (s : Sort) (ps : List Part) → Each Own ps → ScopesBy D.program T n s ps → ReadyBy D T (T.owed n) (T.scope n) s ps
  later-moved n value_sort ps r b = all_moved n (T.scope n) ps r b
  later-moved n call_sort ps r b = all_moved n (T.scope n) ps r b
  later-moved n statement_sort ps r b = all_moved n (T.scope n) ps r b
  later-moved n return_sort ps r b = all_moved n (T.scope n) ps r b
  later-moved n block_sort ps r b = follow-moved n (T.scope n) ps r b
  later-moved n target_sort ps r b = all_moved n (T.scope n) ps r b

  -- all parts of an expression
  expression-parts : (ω : List ℕ) (Γ : Scope) (s : Sort) (ps qs : List Part) → suits expression_place s ≡ true → AllReady D T Γ ω ps → ReadyBy D T ω Γ s qs → AllReady D T Γ ω (ps ++ qs)
  expression-parts ω Γ value_sort ps qs e f l = each_append (λ (p : Part). Ready D T Γ ω p.place p.number) ps qs f l
  expression-parts ω Γ call_sort ps qs e f l = each_append (λ (p : Part). Ready D T Γ ω p.place p.number) ps qs f l
  expression-parts ω Γ statement_sort ps qs e f l = absurd (false≢true e)
  expression-parts ω Γ return_sort ps qs e f l = absurd (false≢true e)
  expression-parts ω Γ block_sort ps qs e f l = absurd (false≢true e)
  expression-parts ω Γ target_sort ps qs e f l = absurd (false≢true e)

-- in a tree each part has a smaller number than its node
pub tree_below : (P : Program) (level : ℕ → ℕ) → Tree P level → PartsBelow P
tree_below P level tree n = subst (Below n) (parts_same P (node_at P n)) (each-onto (PartStands P level n) (λ p. p.number < n) (λ p s. s.smaller) (parts_of P (node_at P n)) (tree.parts n))

module _ (D : Decoded) (O : Obeys D.program) where
  abbrev P : Program
  P = D.program

  abbrev T : Tables
  T = O.tables

  -- parts have smaller numbers
  pub obeys-below : PartsBelow P
  obeys-below = tree_below P O.level O.tree

  module _ (n : ℕ) (own : Each (Own D T) (parts_of P (node_at P n))) where
    -- the parts that come first
    firsts : AllReady D T (T.scope n) (T.owed n) (first_parts P (node_at P n))
    firsts = all_moved D T n (T.scope n) (first_parts P (node_at P n)) (each_left (Own D T) (first_parts P (node_at P n)) (later_parts P (node_at P n)) own) (O.first_scopes n)

    -- the parts that come later
    laters : ReadyBy D T (T.owed n) (T.scope n) (sort_of (node_at P n)) (later_parts P (node_at P n))
    laters = later-moved D T n (sort_of (node_at P n)) (later_parts P (node_at P n)) (each_right (Own D T) (first_parts P (node_at P n)) (later_parts P (node_at P n)) own) (O.later_scopes n)

    -- all parts of an expression
    all-parts : suits expression_place (sort_of (node_at P n)) ≡ true → AllReady D T (T.scope n) (T.owed n) (parts_in P (node_at P n))
    all-parts s =
        subst (AllReady D T (T.scope n) (T.owed n)) (parts_same P (node_at P n)) (expression-parts D T (T.owed n) (T.scope n) (sort_of (node_at P n)) (first_parts P (node_at P n)) (later_parts P (node_at P n)) s firsts laters)

    -- the walk passes a node where it passes the parts
    from_parts : (π : Place) → suits π (sort_of (node_at P n)) ≡ true → Ready D T (T.scope n) (T.owed n) π n
    unfolding call_of
    from_parts expression_place s = λ t e. type-step D obeys-below (T.scope n) n ∙ type-ready D T n (offset_of D n) (node_at P n) s (all-parts s) (O.typed n) t e
    from_parts call_place s =
        let g : gives P T n ≡ call_gives P (node_at P n) = call_gives-gives_as (sort_of (node_at P n)) (T.type n) (call_gives P (node_at P n)) s in
        subst (λ (us : List ℕ). call_node (type_of D (T.scope n)) P (length us) (offset_of D n) (node_at P n) ≡ good us) (sym g)
        (call-ready D T n (offset_of D n) (node_at P n) s (all-parts (called_expression (sort_of (node_at P n)) s)) (O.typed n))
    from_parts statement_place s =
        λ v w. after-step D obeys-below (T.owed n) v (T.scope n) n ∙ after-ready D T n (offset_of D n) (node_at P n) s firsts laters (O.typed n) (O.names n) (O.returns n) v w
    from_parts target_place s = tt

  -- so it passes every node, to any depth
  passes : (k n : ℕ) → n < k → (π : Place) → suits π (sort_of (node_at P n)) ≡ true → Ready D T (T.scope n) (T.owed n) π n
  passes zero n l π s = absurd (omega arith)
  passes (suc k) n l π s =
      from_parts n (each-onto (PartStands P O.level n) (Own D T) (λ p q. let m : p.number < n = q.smaller in passes k p.number (omega arith) p.place q.suited) (parts_of P (node_at P n)) (O.tree.parts n)) π s

  -- the walk passes every node
  pub node-passes : (n : ℕ) (π : Place) → suits π (sort_of (node_at P n)) ≡ true → Ready D T (T.scope n) (T.owed n) π n
  node-passes n π s = passes (suc n) n (omega arith) π s
