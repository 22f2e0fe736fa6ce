-- Each fact that the steps of the check know has at most one proof.
use Rattle.std.specs.Prelude.{ℕ, List}
use Rattle.std.specs.Coded.{×_prop, Unit-prop, le_prop}
use Rattle.xi.specs.declared.node.Node.{Node}
use Rattle.xi.specs.declared.node.Node.TheVariants.{Number, Truth, Text, Variable, Element, Length, Unary, Binary, Constructor, Call, LibraryCall}
use Rattle.xi.specs.declared.node.Node.TheVariants.{Declare, DeclareValue, DeclareCall, Assign, AssignElement, If, IfElse, While, Return, CallStatement, Target, Discard, Block}
use Rattle.xi.specs.Program.{Program}
use Rattle.xi.specs.Tree.{node_at, entries_of}
use Rattle.checker.specs.Facts.{EachBelow, PartsBelow, Falling, Bodied}

pub EachBelow-prop : (n : ℕ) (ns : List ℕ) → IsProp (EachBelow n ns)
EachBelow-prop n ns a b i = λ j h. le_prop (a j h) (b j h) i

pub PartsBelow-prop : (P : Program) (n : ℕ) (d : Node) → IsProp (PartsBelow P n d)
PartsBelow-prop P n (Number c) = Unit-prop
PartsBelow-prop P n (Truth b) = Unit-prop
PartsBelow-prop P n (Text r) = Unit-prop
PartsBelow-prop P n (Variable x) = Unit-prop
PartsBelow-prop P n (Element a i) = ×_prop le_prop le_prop
PartsBelow-prop P n (Length a) = le_prop
PartsBelow-prop P n (Unary o a) = le_prop
PartsBelow-prop P n (Binary o a b) = ×_prop le_prop le_prop
PartsBelow-prop P n (Constructor t r) = EachBelow-prop n (entries_of P r)
PartsBelow-prop P n (Call x r) = EachBelow-prop n (entries_of P r)
PartsBelow-prop P n (LibraryCall f r) = EachBelow-prop n (entries_of P r)
PartsBelow-prop P n (Declare x t r) = EachBelow-prop n (entries_of P r)
PartsBelow-prop P n (DeclareValue x t a) = le_prop
PartsBelow-prop P n (DeclareCall a r) = ×_prop le_prop (EachBelow-prop n (entries_of P r))
PartsBelow-prop P n (Assign x a) = le_prop
PartsBelow-prop P n (AssignElement a i b) = λ u v k. (le_prop u.0 v.0 k, le_prop u.1 v.1 k, le_prop u.2 v.2 k)
PartsBelow-prop P n (If g a) = ×_prop le_prop le_prop
PartsBelow-prop P n (IfElse g a b) = λ u v k. (le_prop u.0 v.0 k, le_prop u.1 v.1 k, le_prop u.2 v.2 k)
PartsBelow-prop P n (While g a) = ×_prop le_prop le_prop
PartsBelow-prop P n (Return r) = EachBelow-prop n (entries_of P r)
PartsBelow-prop P n (CallStatement a) = le_prop
PartsBelow-prop P n (Target x t) = Unit-prop
PartsBelow-prop P n Discard = Unit-prop
PartsBelow-prop P n (Block r) = EachBelow-prop n (entries_of P r)

pub Falling-prop : (P : Program) → IsProp (Falling P)
Falling-prop P a b i = λ n h. PartsBelow-prop P n (node_at P n) (a n h) (b n h) i

pub Bodied-prop : (P : Program) → IsProp (Bodied P)
Bodied-prop P a b i = λ n h. le_prop (a n h) (b n h) i
