-- Every open call of a sound run is small: by levels, operands of each node, and names in scope.
use Rattle.std.proofs.Common.{◌≡◌, ℕ, zero, suc, ◌+◌, ◌*◌, ◌≤◌, List, [], ◌∷◌, length, sym, ap, ◌∙◌, arith}
use Rattle.xi.specs.declared.node.Node.{Node}
use Rattle.xi.specs.declared.node.Node.TheVariants.{Number, Truth, Text, Variable as VariableNode, Element, Length, Unary, Binary, Constructor, Call, LibraryCall}
use Rattle.xi.specs.declared.node.Node.TheVariants.{Declare, DeclareValue, DeclareCall, Assign, AssignElement, If, IfElse, While, Return, CallStatement, Target, Discard, Block}
use Rattle.xi.specs.declared.node.UnaryOperator.TheVariants.{Minus, Not}
use Rattle.xi.specs.declared.node.Operator.{Operator}
use Rattle.xi.specs.declared.node.Operator.TheVariants.{Add, Subtract, Multiply, Divide, Remainder, Less, LessEqual, Greater, GreaterEqual, Equal, NotEqual, And, Or}
use Rattle.xi.specs.declared.node.Run.{Run}
use Rattle.xi.specs.Program.{Program}
use Rattle.xi.specs.Tree.{node_at, entries_of, all, expression_place, first_parts}
use Rattle.xi.specs.Typing.{Scope, pushed, Tables, gives, GiveEach, OperatorTyped, Typed}
use Rattle.xi.specs.Obeys.{depth_of, Within, Ranged, Obeys}
use Rattle.semantics.specs.State.{Task}
use Rattle.semantics.specs.Sound.{Use, Point, nowhere, live, worked, Comes, comes_on, comes_return, comes_block, comes_if, MayBegin, Todo, no_tasks, to_begin, to_finish, to_leave, to_back, pass_end, pass_begin, pass_finish, pass_leave, pass_back}
use Rattle.semantics.specs.Soundness.{works, SmallCallers, SoundIsSmall}
use Rattle.semantics.proofs.Lists.{length-pushed}
use Rattle.semantics.proofs.Cells.{variables_size}
use Rattle.semantics.proofs.Takers.{worked-each, each-length, targets_length, values_length}
use Rattle.semantics.proofs.Kept.{node_inside, entries_short}

module _ (P : Program) (T : Tables) where
  one_more : (a t : ℕ) (ts : List ℕ) → gives P T a ≡ t ∷ [] → length (pushed (gives P T a) ts) ≡ suc (length ts)
  one_more a t ts e = ap (λ (g : List ℕ). length (pushed g ts)) e

  many_more : (es us ts : List ℕ) → GiveEach P T es us → length (worked P T (all expression_place es) ts) ≡ length es + length ts
  many_more es us ts g = ap length (worked-each P T es us ts g) ∙ length-pushed us ts ∙ ap (λ (n : ℕ). n + length ts) (sym (each-length P T es us g))

  run_more : (m most : ℕ) (r : Run) (us ts : List ℕ) → Within m most r → most ≤ 16 → GiveEach P T (entries_of P r) us → length (worked P T (all expression_place (entries_of P r)) ts) ≤ length ts + 16
  run_more m most r us ts w h g = omega (arith, many_more (entries_of P r) us ts g, entries_short P.entries r, w.short)

  operands-few : (n : ℕ) (o : Operator) (a b : ℕ) (ts : List ℕ) → OperatorTyped P T n o a b → length (worked P T (first_parts P (Binary o a b)) ts) ≤ length ts + 16
  operands-few n Add a b ts t = omega (arith, one_more a t.0 ts t.1.left, one_more b t.0 (pushed (gives P T a) ts) t.1.right)
  operands-few n Subtract a b ts t = omega (arith, one_more a 0 ts t.left, one_more b 0 (pushed (gives P T a) ts) t.right)
  operands-few n Multiply a b ts t = omega (arith, one_more a 0 ts t.left, one_more b 0 (pushed (gives P T a) ts) t.right)
  operands-few n Divide a b ts t = omega (arith, one_more a 0 ts t.left, one_more b 0 (pushed (gives P T a) ts) t.right)
  operands-few n Remainder a b ts t = omega (arith, one_more a 0 ts t.left, one_more b 0 (pushed (gives P T a) ts) t.right)
  operands-few n Less a b ts t = omega (arith, one_more a 0 ts t.left, one_more b 0 (pushed (gives P T a) ts) t.right)
  operands-few n LessEqual a b ts t = omega (arith, one_more a 0 ts t.left, one_more b 0 (pushed (gives P T a) ts) t.right)
  operands-few n Greater a b ts t = omega (arith, one_more a 0 ts t.left, one_more b 0 (pushed (gives P T a) ts) t.right)
  operands-few n GreaterEqual a b ts t = omega (arith, one_more a 0 ts t.left, one_more b 0 (pushed (gives P T a) ts) t.right)
  operands-few n Equal a b ts t = omega (arith, one_more a t.0 ts t.1.left, one_more b t.0 (pushed (gives P T a) ts) t.1.right)
  operands-few n NotEqual a b ts t = omega (arith, one_more a t.0 ts t.1.left, one_more b t.0 (pushed (gives P T a) ts) t.1.right)
  operands-few n And a b ts t = omega (arith, one_more a 1 ts t.left)
  operands-few n Or a b ts t = omega (arith, one_more a 1 ts t.left)

  depth-few : (t : ℕ) → t ≤ 9 → depth_of t ≤ 16
  depth-few t h = omega (arith, depth_below t)
    where
      depth_below : (t : ℕ) → depth_of t ≤ t
      depth_below zero = omega arith
      depth_below (suc zero) = omega arith
      depth_below (suc (suc t)) = omega (arith, depth_below t)

  -- a node holds at most 16 operands of its own
  node-few : (n : ℕ) (d : Node) (ts : List ℕ) → Typed P T n d → Ranged P d → length (worked P T (first_parts P d) ts) ≤ length ts + 16
  node-few n (Number c) ts t r = omega arith
  node-few n (Truth b) ts t r = omega arith
  node-few n (Text c) ts t r = omega arith
  node-few n (VariableNode x) ts t r = omega arith
  node-few n (Element a i) ts t r = omega (arith, one_more a _ ts t.0, one_more i 0 (pushed (gives P T a) ts) t.1)
  node-few n (Length a) ts t r = omega (arith, one_more a _ ts t.1)
  node-few n (Unary Minus a) ts t r = omega (arith, one_more a 0 ts t.0)
  node-few n (Unary Not a) ts t r = omega (arith, one_more a 1 ts t.0)
  node-few n (Binary o a b) ts t r = operands-few n o a b ts t
  node-few n (Constructor u c) ts t r = run_more _ 16 c _ ts r.0 (omega arith) t.0
  node-few n (Call x c) ts t r = run_more _ 8 c _ ts r (omega arith) t.2
  node-few n (LibraryCall f c) ts t r = run_more _ 8 c _ ts r (omega arith) t
  node-few n (Declare x u c) ts t r = run_more _ (depth_of u.number) c _ ts r.0 (depth-few u.number r.1) t
  node-few n (DeclareValue x u a) ts t r = omega (arith, one_more a _ ts t)
  node-few n (DeclareCall a c) ts t r = omega (arith, length-pushed (gives P T a) ts, targets_length P (entries_of P c) (gives P T a) t, entries_short P.entries c, r.0.short)
  node-few n (Assign x a) ts t r = omega (arith, one_more a _ ts t.2)
  node-few n (AssignElement a i b) ts t r = omega (arith, one_more a _ ts t.1, one_more i 0 (pushed (gives P T a) ts) t.2, one_more b _ (pushed (gives P T i) (pushed (gives P T a) ts)) t.3)
  node-few n (If g a) ts t r = omega (arith, one_more g 1 ts t)
  node-few n (IfElse g a b) ts t r = omega (arith, one_more g 1 ts t)
  node-few n (While g a) ts t r = omega (arith, one_more g 1 ts t)
  node-few n (Return c) ts t r = run_more _ 8 c _ ts r (omega arith) t
  node-few n (CallStatement a) ts t r = omega (arith, ap (λ (g : List ℕ). length (pushed g ts)) t)
  node-few n (Target x u) ts t r = omega arith
  node-few n Discard ts t r = omega arith
  node-few n (Block c) ts t r = omega arith

module _ (P : Program) (ok : Obeys P) where
  abbrev T : Tables
  T = ok.tables

  abbrev V : ℕ → ℕ
  V = ok.level

  abbrev Bound : Point → ℕ → Type 0
  Bound nowhere l = Unit {0}
  Bound (live Γ ts) l = length ts ≤ 16 * l

  comes-bound : {n : ℕ} {d : Node} {ts : List ℕ} {a : Point} (l : ℕ) → Comes P T n d ts a → Bound a l → length ts ≤ 16 * l
  comes-bound {n} l (comes_on {d} {ts}) b = omega (arith, length-pushed (Rattle.xi.specs.Typing.gives_of P T n d) ts, b)
  comes-bound l comes_return b = omega arith
  comes-bound l (comes_block e h) b = omega arith
  comes-bound l (comes_if g h) b = omega arith

  shallow : {l : ℕ} (n : ℕ) → MayBegin P T V n l → V n ≤ 32
  shallow n mb = ok.tree.shallow n (node_inside P.nodes n mb.runs)

  module _ {K : List Use} where
    -- 16 operands for each level
    bound : {r : List ℕ} {l : ℕ} {a : Point} {k : List Task} → Todo P T V K r l a k → Bound a l
    bound (no_tasks f) = omega arith
    bound {l = l} (to_begin mb c d) = comes-bound l c (bound d)
    bound (to_finish {n} {l} {ts} mb c d) = omega (arith, comes-bound l c (bound d), node-few P T n (node_at P n) ts (ok.typed n) (ok.ranges.nodes n), mb.deeper)
    bound (to_leave h f d) = omega (arith, bound d)
    bound (to_back n g h f c e o d) = omega arith
    bound pass_end = tt
    bound (pass_begin d) = tt
    bound (pass_finish h d) = tt
    bound (pass_leave h d) = tt
    bound (pass_back n h f c e o d) = tt

    few-operands : {r : List ℕ} {l : ℕ} {Γ : Scope} {ts : List ℕ} {k : List Task} → Todo P T V K r l (live Γ ts) k → length ts ≤ 512
    few-operands (no_tasks f) = omega arith
    few-operands (to_begin {n} {l} mb c d) = omega (arith, comes-bound l c (bound d), mb.deeper, shallow n mb)
    few-operands (to_finish {n} {l} {ts} mb c d) = omega (arith, comes-bound l c (bound d), node-few P T n (node_at P n) ts (ok.typed n) (ok.ranges.nodes n), mb.deeper, shallow n mb)
    few-operands (to_leave h f d) = few-operands d
    few-operands (to_back n g h f c e o d) = omega arith

    few-names : {r : List ℕ} {l : ℕ} {Γ : Scope} {ts : List ℕ} {k : List Task} → Todo P T V K r l (live Γ ts) k → length Γ ≤ 64
    few-names (no_tasks f) = f
    few-names (to_begin mb c d) = mb.few
    few-names (to_finish mb c d) = mb.few
    few-names (to_leave h f d) = f
    few-names (to_back n g h f c e o d) = g

    -- nodes at work are of rising levels
    works-below : {r : List ℕ} {l : ℕ} {a : Point} {k : List Task} → Todo P T V K r l a k → works k ≤ l
    works-below (no_tasks f) = omega arith
    works-below (to_begin mb c d) = works-below d
    works-below (to_finish mb c d) = omega (arith, works-below d, mb.deeper)
    works-below (to_leave h f d) = omega (arith, works-below d)
    works-below (to_back n g h f c e o d) = omega arith
    works-below pass_end = omega arith
    works-below (pass_begin d) = works-below d
    works-below (pass_finish h d) = omega (arith, works-below d)
    works-below (pass_leave h d) = omega (arith, works-below d)
    works-below (pass_back n h f c e o d) = omega arith

    few-works : {r : List ℕ} {l : ℕ} {Γ : Scope} {ts : List ℕ} {k : List Task} → Todo P T V K r l (live Γ ts) k → works k ≤ 32
    few-works (no_tasks f) = omega arith
    few-works (to_begin {n} mb c d) = omega (arith, works-below d, mb.deeper, shallow n mb)
    few-works (to_finish {n} mb c d) = omega (arith, works-below d, mb.deeper, shallow n mb)
    few-works (to_leave h f d) = few-works d
    few-works (to_back n g h f c e o d) = omega arith

    small-callers : {r : List ℕ} {l : ℕ} {a : Point} {k : List Task} → Todo P T V K r l a k → SmallCallers k
    small-callers (no_tasks f) = tt
    small-callers (to_begin mb c d) = small-callers d
    small-callers (to_finish mb c d) = small-callers d
    small-callers (to_leave h f d) = small-callers d
    small-callers (to_back n g h f c e o d) = (record { variables = omega (arith, variables_size e); operands = omega (arith, values_length o, bound d); nodes = omega (arith, works-below d) }, small-callers d)
    small-callers pass_end = tt
    small-callers (pass_begin d) = small-callers d
    small-callers (pass_finish h d) = small-callers d
    small-callers (pass_leave h d) = small-callers d
    small-callers (pass_back {r = r} {us = us} n h f c e o d) =
        (record { variables = omega (arith, variables_size e); operands = omega (arith, values_length o, bound d, length-pushed r us); nodes = omega (arith, works-below d) }, small-callers d)

pub sound_is_small : SoundIsSmall
sound_is_small P O L c S =
    record {
      here = record { variables = omega (arith, variables_size S.variables, few-names P O S.tasks); operands = omega (arith, values_length S.operands, few-operands P O S.tasks); nodes = few-works P O S.tasks };
      callers = small-callers P O S.tasks;
    }
