-- A statement ends with a return where the test says so.
use Rattle.std.proofs.Common.{◌≡◌, ℕ, zero, suc, ◌<◌, Bool, true, List, [], ◌∷◌, sym, refl, ◌∙◌, arith}
use mathlib.Core.Option.{some}
use Rattle.std.proofs.lemmas.Bool.{and_parts, and_from, false≢true}
use Rattle.xi.specs.declared.node.Node.{Node}
use Rattle.xi.specs.declared.node.Node.TheVariants.{Number, Truth, Text, Variable, Element, Length, Unary, Binary, Constructor, Call, LibraryCall}
use Rattle.xi.specs.declared.node.Node.TheVariants.{Declare, DeclareValue, DeclareCall, Assign, AssignElement, If, IfElse, While, Return, CallStatement, Target, Discard, Block}
use Rattle.xi.specs.Program.{Program}
use Rattle.xi.specs.Tree.{node_at, entries_of, statement_place, Place, all}
use Rattle.xi.specs.Typing.{last, Ends, return_ends, block_ends, if_ends}
use Rattle.checker.specs.Trees.{parts_in}
use Rattle.checker.specs.Walk.{ends_last, ends_node, ends_of}
use Rattle.checker.proofs.WalkDepth.{Below, PartsBelow, ends-step}

-- a block whose last entry ends passes the test
last_ready : (go : ℕ → Bool) (ns : List ℕ) (n : ℕ) → last ns ≡ some n → go n ≡ true → ends_last go ns ≡ true
last_ready go [] n e h = let z : ◌≡◌ {A = ℕ} 0 1 = cc in absurd (omega arith)
last_ready go (m ∷ []) n e h = let q : m ≡ n = cc in rw q h
last_ready go (m ∷ k ∷ ns) n e h = last_ready go (k ∷ ns) n e h

-- a block that passes the test has a last entry that ends
last_was : (go : ℕ → Bool) (ns : List ℕ) → ends_last go ns ≡ true → (n : ℕ) × (last ns ≡ some n) × (go n ≡ true)
last_was go [] h = absurd (false≢true h)
last_was go (m ∷ []) h = (m, refl, h)
last_was go (m ∷ k ∷ ns) h = last_was go (k ∷ ns) h

-- the last of smaller numbers is smaller
last_below : (π : Place) (ns : List ℕ) (n k : ℕ) → Below k (all π ns) → last ns ≡ some n → n < k
last_below π [] n k b e = let z : ◌≡◌ {A = ℕ} 0 1 = cc in absurd (omega arith)
last_below π (m ∷ []) n k b e = let q : m ≡ n = cc in let l : m < k = b.0 in omega arith
last_below π (m ∷ j ∷ ns) n k b e = last_below π (j ∷ ns) n k b.1 e

module _ (P : Program) (below : PartsBelow P) where
  -- a node that ends passes the test
  node-ends : {d : Node} → Ends P d → ends_node (ends_of P) P d ≡ true
  node-ends return_ends = refl
  node-ends (block_ends {r} n e h) = last_ready (ends_of P) (entries_of P r) n e (ends-step P below n ∙ node-ends h)
  node-ends (if_ends {a = a} {b} h k) = and_from (ends_of P a) (ends_of P b) (ends-step P below a ∙ node-ends h) (ends-step P below b ∙ node-ends k)

  -- a statement that ends passes the test
  pub ends-ready : (n : ℕ) → Ends P (node_at P n) → ends_of P n ≡ true
  ends-ready n h = ends-step P below n ∙ node-ends h

  -- a node that passes the test ends, where its parts do
  from_parts : (n : ℕ) → ((m : ℕ) → m < n → ends_of P m ≡ true → Ends P (node_at P m)) → (d : Node) → Below n (parts_in P d) → ends_node (ends_of P) P d ≡ true → Ends P d
  from_parts n r (Number c) b e = absurd (false≢true e)
  from_parts n r (Truth c) b e = absurd (false≢true e)
  from_parts n r (Text c) b e = absurd (false≢true e)
  from_parts n r (Variable x) b e = absurd (false≢true e)
  from_parts n r (Element a i) b e = absurd (false≢true e)
  from_parts n r (Length a) b e = absurd (false≢true e)
  from_parts n r (Unary o a) b e = absurd (false≢true e)
  from_parts n r (Binary o a c) b e = absurd (false≢true e)
  from_parts n r (Constructor t c) b e = absurd (false≢true e)
  from_parts n r (Call x c) b e = absurd (false≢true e)
  from_parts n r (LibraryCall f c) b e = absurd (false≢true e)
  from_parts n r (Declare x t c) b e = absurd (false≢true e)
  from_parts n r (DeclareValue x t a) b e = absurd (false≢true e)
  from_parts n r (DeclareCall a c) b e = absurd (false≢true e)
  from_parts n r (Assign x a) b e = absurd (false≢true e)
  from_parts n r (AssignElement a i c) b e = absurd (false≢true e)
  from_parts n r (If g a) b e = absurd (false≢true e)
  from_parts n r (IfElse g a c) b e = let x = and_parts (ends_of P a) (ends_of P c) e in if_ends (r a b.1.0 x.0) (r c b.1.1.0 x.1)
  from_parts n r (While g a) b e = absurd (false≢true e)
  from_parts n r (Return c) b e = return_ends
  from_parts n r (CallStatement a) b e = absurd (false≢true e)
  from_parts n r (Target x t) b e = absurd (false≢true e)
  from_parts n r Discard b e = absurd (false≢true e)
  from_parts n r (Block c) b e = let x = last_was (ends_of P) (entries_of P c) e in block_ends x.0 x.1 (r x.0 (last_below statement_place (entries_of P c) x.0 n b x.1) x.2)

  -- the same to any depth
  ended : (k n : ℕ) → n < k → ends_of P n ≡ true → Ends P (node_at P n)
  ended zero n l e = absurd (omega arith)
  ended (suc k) n l e = from_parts n (λ m h q. ended k m (omega arith) q) (node_at P n) (below n) (sym (ends-step P below n) ∙ e)

  -- a statement that passes the test ends
  pub ends-was : (n : ℕ) → ends_of P n ≡ true → Ends P (node_at P n)
  ends-was n e = ended (suc n) n (omega arith) e
