-- The steps of the walk where the parts of every node have smaller numbers.
use Rattle.std.proofs.Common.{◌≡◌, ℕ, suc, ◌<◌, ◌≤◌, Bool, false, List, [], ◌∷◌, length, sym, refl, subst, ⊎_elim, arith}
use Rattle.std.proofs.lemmas.List.{get_or_past}
use Rattle.std.proofs.lemmas.Bool.{cases_lt}
use Rattle.xi.specs.declared.node.Node.{Node}
use Rattle.xi.specs.declared.node.Node.TheVariants.{Number, Truth, Text, Variable, Element, Length, Unary, Binary, Constructor, Call, LibraryCall}
use Rattle.xi.specs.declared.node.Node.TheVariants.{Declare, DeclareValue, DeclareCall, Assign, AssignElement, If, IfElse, While, Return, CallStatement, Target, Discard, Block}
use Rattle.xi.specs.Program.{Program}
use Rattle.xi.specs.Tree.{node_at, entries_of, Place, all}
use Rattle.xi.specs.Typing.{Scope}
use Rattle.sheet.specs.Sheets.{Decoded}
use Rattle.checker.specs.Trees.{offset_of, parts_in}
use Rattle.checker.specs.Facts.{EachBelow, PartsBelow, Falling}
use Rattle.checker.specs.Walk.{call_node, type_node, type_of, call_of, after_all, after_node, after_of, ends_node, ends_of}
use Rattle.checker.proofs.WalkDepth as walk
use Rattle.checker.proofs.WalkDepth.{Below}

each_below : (n : ℕ) (π : Place) (ns : List ℕ) → EachBelow n ns → Below n (all π ns)
each_below n π [] b = tt
each_below n π (m ∷ ms) b = (b 0 (omega arith), each_below n π ms (λ j h. b (suc j) (omega arith)))

node_below : (P : Program) (n : ℕ) (d : Node) → PartsBelow P n d → Below n (parts_in P d)
node_below P n (Number c) b = tt
node_below P n (Truth v) b = tt
node_below P n (Text r) b = tt
node_below P n (Variable x) b = tt
node_below P n (Element a i) b = (b.0, (b.1, tt))
node_below P n (Length a) b = (b, tt)
node_below P n (Unary o a) b = (b, tt)
node_below P n (Binary o a c) b = (b.0, (b.1, tt))
node_below P n (Constructor t r) b = each_below n _ (entries_of P r) b
node_below P n (Call x r) b = each_below n _ (entries_of P r) b
node_below P n (LibraryCall f r) b = each_below n _ (entries_of P r) b
node_below P n (Declare x t r) b = each_below n _ (entries_of P r) b
node_below P n (DeclareValue x t a) b = (b, tt)
node_below P n (DeclareCall a r) b = (b.0, each_below n _ (entries_of P r) b.1)
node_below P n (Assign x a) b = (b, tt)
node_below P n (AssignElement a i c) b = (b.0, (b.1, (b.2, tt)))
node_below P n (If g a) b = (b.0, (b.1, tt))
node_below P n (IfElse g a c) b = (b.0, (b.1, (b.2, tt)))
node_below P n (While g a) b = (b.0, (b.1, tt))
node_below P n (Return r) b = each_below n _ (entries_of P r) b
node_below P n (CallStatement a) b = (b, tt)
node_below P n (Target x t) b = tt
node_below P n Discard b = tt
node_below P n (Block r) b = each_below n _ (entries_of P r) b

module _ (D : Decoded) (falling : Falling D.program) where
  -- a number that has no node has no parts
  below : (n : ℕ) → Below n (parts_in D.program (node_at D.program n))
  below n =
      ⊎_elim
      (λ (l : n < length D.program.nodes). node_below D.program n (node_at D.program n) (falling n l))
      (λ (l : length D.program.nodes ≤ n). subst (λ (d : Node). Below n (parts_in D.program d)) (sym (get_or_past D.program.nodes n Discard l)) tt)
      (cases_lt n (length D.program.nodes))

  pub type-step : (n : ℕ) → n < length D.program.nodes → (Γ : Scope) → type_of D Γ n ≡ type_node (type_of D Γ) D.program Γ (offset_of D n) (node_at D.program n)
  type-step n l Γ = walk.type-step D below Γ n

  pub call_step : (n : ℕ) (Γ : Scope) (k : ℕ) → call_of D Γ k n ≡ call_node (type_of D Γ) D.program k (offset_of D n) (node_at D.program n)
  unfolding call_of
  call_step n Γ k = refl

  pub after-step : (n : ℕ) → n < length D.program.nodes → (owed : List ℕ) (last : Bool) (Γ : Scope) → after_of D owed last Γ n ≡ after_node (type_of D Γ) (call_of D Γ) (after_of D owed false Γ) (λ ns. after_all (after_of D owed) ns Γ) D owed last Γ (offset_of D n) (node_at D.program n)
  after-step n l owed last Γ = walk.after-step D below owed last Γ n

  pub ends-step : (n : ℕ) → n < length D.program.nodes → ends_of D.program n ≡ ends_node (ends_of D.program) D.program (node_at D.program n)
  ends-step n l = walk.ends-step D.program below n
