-- One walk over the rules: what holds of stops and of the few ways in which a rule goes on holds of every rule.
use Rattle.std.proofs.Common.{ℕ, zero, suc, ◌+◌, ◌≤◌, Bool, true, false, cond, T, ltb, leb, List, [], ◌∷◌, ◌++◌, map, length, ℤ, pos, negsuc, leb→le}
use mathlib.Core.Option.{Option, none, some}
use lib.ListN.{get_elem?}
use Rattle.xi.specs.declared.node.Node.{Node}
use Rattle.xi.specs.declared.node.Node.TheVariants.{Number, Truth, Text, Variable as VariableNode, Element, Length, Unary, Binary, Constructor, Call, LibraryCall}
use Rattle.xi.specs.declared.node.Node.TheVariants.{Declare, DeclareValue, DeclareCall, Assign, AssignElement, If, IfElse, While, Return, CallStatement, Target, Discard, Block}
use Rattle.xi.specs.declared.node.UnaryOperator.TheVariants.{Minus, Not}
use Rattle.xi.specs.declared.node.Operator.{Operator}
use Rattle.xi.specs.declared.node.Operator.TheVariants.{Add, Subtract, Multiply, Divide, Remainder, Less, LessEqual, Greater, GreaterEqual, Equal, NotEqual, And, Or}
use Rattle.xi.specs.declared.node.LibraryFunction.{LibraryFunction}
use Rattle.xi.specs.declared.node.LibraryFunction.TheVariants.{Print, Println, Readln, Getchar, Eof, ParseInt, UnparseInt, Ratio}
use Rattle.xi.specs.declared.stop.Stop.{Stop}
use Rattle.xi.specs.declared.stop.Stop.TheVariants.{ZeroDivisor, Index, Unset, NegativeLength, CellsTooFew, TooDeep, RoomTooSmall, NoCharacter}
use Rattle.xi.specs.Program.{Program}
use Rattle.xi.specs.Tree.{entries_of, all, statement_place}
use Rattle.xi.specs.Typing.{Binding, or_else, function_named, parameters_of}
use Rattle.semantics.specs.State.{Value, int, bool, array, Slot, Variable, Store, Task, begin, finish, leave, core, Host, Limits}
use Rattle.semantics.specs.State.{quiet, wrote, took, Move, go, stop, stuck, find, find_global, element_type, grown, with_cell, elements_at}
use Rattle.semantics.specs.Numbers.{literal, numeral, is_character, cells_for}
use Rattle.semantics.specs.Rules.{take_any, take_int, take_bool, take_array, take_addend, take_values, known, read_slot, read_length, elements, within, element_cell, fits, make_array, begins, alone, bound, received_all, unwind}
use Rattle.semantics.specs.Rules.{lengths, declares, characters, integers, writes, slots_of, assigns, same, two_ints, is_zero, unless_zero, parsed, operates, serves, finishes}

module _ (Q : Move → Type 0) (bad : Q stuck) (n : ℕ) (no : (s : Stop) → Q (stop s n)) where
  pub any-all : (O : List Value) (f : Value → List Value → Move) → ((v : Value) (O : List Value) → Q (f v O)) → Q (take_any O f)
  any-all [] f h = bad
  any-all (v ∷ O) f h = h v O

  pub int-all : (O : List Value) (f : ℤ → List Value → Move) → ((v : ℤ) (O : List Value) → Q (f v O)) → Q (take_int O f)
  int-all [] f h = bad
  int-all (int v ∷ O) f h = h v O
  int-all (bool v ∷ O) f h = bad
  int-all (array v ∷ O) f h = bad

  pub bool-all : (O : List Value) (f : Bool → List Value → Move) → ((v : Bool) (O : List Value) → Q (f v O)) → Q (take_bool O f)
  bool-all [] f h = bad
  bool-all (int v ∷ O) f h = bad
  bool-all (bool v ∷ O) f h = h v O
  bool-all (array v ∷ O) f h = bad

  pub array-all : (O : List Value) (f : ℕ → List Value → Move) → ((v : ℕ) (O : List Value) → Q (f v O)) → Q (take_array O f)
  array-all [] f h = bad
  array-all (int v ∷ O) f h = bad
  array-all (bool v ∷ O) f h = bad
  array-all (array v ∷ O) f h = h v O

  addend-all : (O : List Value) (f : ℤ → List Value → Move) (g : ℕ → List Value → Move) → ((v : ℤ) (O : List Value) → Q (f v O)) → ((v : ℕ) (O : List Value) → Q (g v O)) → Q (take_addend O f g)
  addend-all [] f g h k = bad
  addend-all (int v ∷ O) f g h k = h v O
  addend-all (bool v ∷ O) f g h k = bad
  addend-all (array v ∷ O) f g h k = k v O

  values-all : (m : ℕ) (O vs : List Value) (f : List Value → List Value → Move) → ((vs O : List Value) → Q (f vs O)) → Q (take_values m O vs f)
  values-all zero O vs f h = h vs O
  values-all (suc m) [] vs f h = bad
  values-all (suc m) (v ∷ O) vs f h = values-all m O (v ∷ vs) f h

  known-all : {A : Type 0} (x : Option A) (f : A → Move) → ((a : A) → Q (f a)) → Q (known x f)
  known-all none f h = bad
  known-all (some a) f h = h a

  slot-all : (c : Slot) (f : Value → Move) → ((v : Value) → Q (f v)) → Q (read_slot n c f)
  slot-all none f h = no Unset
  slot-all (some v) f h = h v

  length-all : (c : Slot) (f : ℕ → Move) → ((m : ℕ) → Q (f m)) → Q (read_length c f)
  length-all none f h = bad
  length-all (some (int (pos m))) f h = h m
  length-all (some (int (negsuc m))) f h = bad
  length-all (some (bool b)) f h = bad
  length-all (some (array p)) f h = bad

  elements-all : (s : Store) (p : ℕ) (f : List Slot → Move) → ((cs : List Slot) → Q (f cs)) → Q (elements s p f)
  elements-all s p f h = known-all (get_elem? s.cells p) _ (λ c. length-all c _ (λ m. h (elements_at s p m)))

  cond-all : (b : Bool) (m m' : Move) → (T b → Q m) → Q m' → Q (cond b m m')
  cond-all true m m' h k = h tt
  cond-all false m m' h k = k

  within_all : (j : ℤ) (m : ℕ) (f : ℕ → Move) → ((i : ℕ) → Q (f i)) → Q (within n j m f)
  within_all (pos i) m f h = cond-all (ltb i m) _ _ (λ _. h i) (no Index)
  within_all (negsuc i) m f h = no Index

  cell-all : (s : Store) (p : ℕ) (j : ℤ) (f : ℕ → Move) → ((q : ℕ) → Q (f q)) → Q (element_cell n s p j f)
  cell-all s p j f h = known-all (get_elem? s.cells p) _ (λ c. length-all c _ (λ m. within_all j m _ (λ i. h (p + suc i))))

  fits_all : (L : Limits) (s : Store) (m : ℕ) (g : Move) → Q g → Q (fits L n s m g)
  fits_all L s m g h = cond-all (leb (length s.cells + m) L.cells) _ _ (λ _. h) (no CellsTooFew)

  bound_all : (bs : List Binding) (vs : List Value) (E : List Variable) (f : List Variable → Move) → ((E : List Variable) → Q (f E)) → Q (bound bs vs E f)
  bound_all [] [] E f h = h E
  bound_all [] (v ∷ vs) E f h = bad
  bound_all (b ∷ bs) [] E f h = bad
  bound_all (b ∷ bs) (v ∷ vs) E f h = bound_all bs vs _ f h

  received-all : (P : Program) (ns : List ℕ) (vs : List Value) (E : List Variable) (f : List Variable → Move) → ((E : List Variable) → Q (f E)) → Q (received_all P ns vs E f)
  received-all P [] [] E f h = h E
  received-all P [] (v ∷ vs) E f h = bad
  received-all P (a ∷ ns) [] E f h = bad
  received-all P (a ∷ ns) (v ∷ vs) E f h = received-all P ns vs _ f h

  lengths-all : (vs : List Value) (f : List ℕ → Move) → ((ms : List ℕ) → Q (f ms)) → Q (lengths n vs f)
  lengths-all [] f h = h []
  lengths-all (int (pos m) ∷ vs) f h = lengths-all vs _ (λ ms. h (m ∷ ms))
  lengths-all (int (negsuc m) ∷ vs) f h = no NegativeLength
  lengths-all (bool b ∷ vs) f h = bad
  lengths-all (array p ∷ vs) f h = bad

  characters-all : (cs : List Slot) (f : List ℕ → Move) → ((t : List ℕ) → Q (f t)) → Q (characters n cs f)
  characters-all [] f h = h []
  characters-all (none ∷ cs) f h = no Unset
  characters-all (some (int (pos c)) ∷ cs) f h = cond-all (is_character c) _ _ (λ _. characters-all cs _ (λ t. h (c ∷ t))) (no NoCharacter)
  characters-all (some (int (negsuc c)) ∷ cs) f h = no NoCharacter
  characters-all (some (bool b) ∷ cs) f h = bad
  characters-all (some (array p) ∷ cs) f h = bad

  integers-all : (cs : List Slot) (f : List ℤ → Move) → ((zs : List ℤ) → Q (f zs)) → Q (integers n cs f)
  integers-all [] f h = h []
  integers-all (none ∷ cs) f h = no Unset
  integers-all (some (int z) ∷ cs) f h = integers-all cs _ (λ zs. h (z ∷ zs))
  integers-all (some (bool b) ∷ cs) f h = bad
  integers-all (some (array p) ∷ cs) f h = bad

  assigns-all : (x y : Option Slot) (a b : Move) → Q a → Q b → Q (assigns x y a b)
  assigns-all (some c) y a b h k = h
  assigns-all none (some c) a b h k = k
  assigns-all none none a b h k = bad

  same-all : (v w : Value) (f : Bool → Move) → ((b : Bool) → Q (f b)) → Q (same v w f)
  same-all (int x) (int y) f h = h _
  same-all (int x) (bool y) f h = bad
  same-all (int x) (array y) f h = bad
  same-all (bool x) (int y) f h = bad
  same-all (bool x) (bool y) f h = h _
  same-all (bool x) (array y) f h = bad
  same-all (array x) (int y) f h = bad
  same-all (array x) (bool y) f h = bad
  same-all (array x) (array y) f h = h _

  two-all : (O : List Value) (f : ℤ → ℤ → List Value → Move) → ((x y : ℤ) (O : List Value) → Q (f x y O)) → Q (two_ints O f)
  two-all O f h = int-all O _ (λ y O. int-all O _ (λ x O. h x y O))

  zero-all : (y : ℤ) (m : Move) → Q m → Q (unless_zero n y m)
  zero-all y m h = cond-all (is_zero y) _ _ (λ _. no ZeroDivisor) h

  -- the ways in which a rule goes on
  module _ (P : Program) (L : Limits) (h : Host) (k : List Task)
      (on : (E : List Variable) (O : List Value) (s : Store) → Q (go (core E O k s) quiet))
      (waiting : (E : List Variable) (O : List Value) (a : ℕ) (j : List Task) (s : Store) → Q (go (core E O (begin a ∷ j) s) quiet))
      (leaving : (E : List Variable) (O : List Value) (m : ℕ) (s : Store) → Q (go (core E O (leave m ∷ k) s) quiet))
      (unwinding : (vs : List Value) (s : Store) → Q (unwind k vs s))
      (writing : (E : List Variable) (O : List Value) (t : List ℕ) (s : Store) → length t ≤ h.room → Q (go (core E O k s) (wrote t)))
      (taking : (E : List Variable) (O : List Value) (m : ℕ) (s : Store) → Q (go (core E O k s) (took m))) where
    writes-all : (t : List ℕ) (E : List Variable) (O : List Value) (s : Store) → Q (writes h n t (core E O k s))
    writes-all t E O s = cond-all (leb (length t) h.room) _ _ (λ b. writing E O t s (leb→le (length t) h.room b)) (no RoomTooSmall)

    make-all : (t : ℕ) (cs : List Slot) (E : List Variable) (O : List Value) (s : Store) → Q (make_array L n t cs E O k s quiet)
    make-all t cs E O s = fits_all L s (suc (length cs)) _ (on E (array (length s.cells) ∷ O) (grown s t cs))

    declares-all : (x t : ℕ) (es : List ℕ) (E : List Variable) (O : List Value) (s : Store) → Q (declares L n x t es E O k s)
    declares-all x t [] E O s = on _ O s
    declares-all x t (e ∷ es) E O s = values-all (suc (length es)) O [] _ (λ vs O. lengths-all vs _ (λ ms. fits_all L s (cells_for ms) _ (on _ O _)))

    choose : (E : List Variable) (O : List Value) (s : Store) (t : Bool) (i j : List Task) → Q (go (core E O i s) quiet) → Q (go (core E O j s) quiet) → Q (go (core E O (cond t i j) s) quiet)
    choose E O s true i j a b = a
    choose E O s false i j a b = b

    operates-all : (o : Operator) (b : ℕ) (E : List Variable) (O : List Value) (s : Store) → Q (operates P L h o n b E O k s)
    unfolding operates
    operates-all Add b E O s =
        addend-all O _ _ (λ y O. int-all O _ (λ x O. on E _ s))
        (λ q O. array-all O _ (λ p O. elements-all s p _ (λ xs. elements-all s q _ (λ ys. known-all (element_type s.made p) _ (λ t. make-all t (xs ++ ys) E O s)))))
    operates-all Subtract b E O s = two-all O _ (λ x y O. on E _ s)
    operates-all Multiply b E O s = two-all O _ (λ x y O. on E _ s)
    operates-all Divide b E O s = two-all O _ (λ x y O. zero-all y _ (on E _ s))
    operates-all Remainder b E O s = two-all O _ (λ x y O. zero-all y _ (on E _ s))
    operates-all Less b E O s = two-all O _ (λ x y O. on E _ s)
    operates-all LessEqual b E O s = two-all O _ (λ x y O. on E _ s)
    operates-all Greater b E O s = two-all O _ (λ x y O. on E _ s)
    operates-all GreaterEqual b E O s = two-all O _ (λ x y O. on E _ s)
    operates-all Equal b E O s = any-all O _ (λ w O. any-all O _ (λ v O. same-all v w _ (λ e. on E _ s)))
    operates-all NotEqual b E O s = any-all O _ (λ w O. any-all O _ (λ v O. same-all v w _ (λ e. on E _ s)))
    operates-all And b E O s = bool-all O _ (λ t O. cond-all t _ _ (λ _. waiting E O b k s) (on E _ s))
    operates-all Or b E O s = bool-all O _ (λ t O. cond-all t _ _ (λ _. on E _ s) (waiting E O b k s))

    serves-all : (f : LibraryFunction) (E : List Variable) (O : List Value) (s : Store) → Q (serves P L h f n E O k s)
    unfolding serves
    serves-all Print E O s = array-all O _ (λ p O. elements-all s p _ (λ cs. characters-all cs _ (λ t. writes-all t E O s)))
    serves-all Println E O s = array-all O _ (λ p O. elements-all s p _ (λ cs. characters-all cs _ (λ t. writes-all (t ++ (10 ∷ [])) E O s)))
    serves-all Readln E O s = fits_all L s _ _ (taking E _ _ _)
    serves-all Getchar E O s = taking E _ _ s
    serves-all Eof E O s = on E _ s
    serves-all ParseInt E O s = array-all O _ (λ p O. elements-all s p _ (λ cs. integers-all cs _ (λ zs. on E (parsed (literal zs) O) s)))
    serves-all UnparseInt E O s = int-all O _ (λ z O. make-all 0 (slots_of (numeral z)) E O s)
    serves-all Ratio E O s = two-all O _ (λ a b O. zero-all b _ (on E _ s))

    block-all : (es : List ℕ) (E : List Variable) (O : List Value) (s : Store) → Q (go (core E O (begins (all statement_place es) (leave (length E) ∷ k)) s) quiet)
    block-all [] E O s = leaving E O (length E) s
    block-all (e ∷ es) E O s = waiting E O e _ s

    pub finishes-all : (d : Node) (E : List Variable) (O : List Value) (s : Store) → Q (finishes P L h d n E O k s)
    unfolding finishes
    finishes-all (Number c) E O s = known-all (get_elem? P.constants c) _ (λ z. on E _ s)
    finishes-all (Truth b) E O s = on E _ s
    finishes-all (Text r) E O s = make-all 0 _ E O s
    finishes-all (VariableNode x) E O s = known-all (or_else (find E x) (find_global P.globals s.globals x)) _ (λ c. slot-all c _ (λ v. on E _ s))
    finishes-all (Element a i) E O s =
        int-all O _ (λ j O. array-all O _ (λ p O. cell-all s p j _ (λ q. known-all (get_elem? s.cells q) _ (λ c. slot-all c _ (λ v. on E (v ∷ O) s)))))
    finishes-all (Length a) E O s = array-all O _ (λ p O. known-all (get_elem? s.cells p) _ (λ c. length-all c _ (λ m. on E _ s)))
    finishes-all (Unary Minus a) E O s = int-all O _ (λ x O. on E _ s)
    finishes-all (Unary Not a) E O s = bool-all O _ (λ b O. on E _ s)
    finishes-all (Binary o a b) E O s = operates-all o b E O s
    finishes-all (Constructor t r) E O s = values-all (length (entries_of P r)) O [] _ (λ vs O. make-all t.number (map some vs) E O s)
    finishes-all (Call x r) E O s =
        values-all (length (entries_of P r)) O [] _ (λ vs O. known-all (function_named P.functions x) _ (λ F. bound_all (parameters_of P F) vs [] _ (λ E'.
        cond-all (ltb s.depth L.depth) _ _ (λ _. waiting E' [] F.body _ _) (no TooDeep))))
    finishes-all (LibraryCall f r) E O s = serves-all f E O s
    finishes-all (Declare x t r) E O s = declares-all x t.number (entries_of P r) E O s
    finishes-all (DeclareValue x t a) E O s = any-all O _ (λ v O. on _ O s)
    finishes-all (DeclareCall a r) E O s = values-all (length (entries_of P r)) O [] _ (λ vs O. received-all P (entries_of P r) vs E _ (λ E. on E O s))
    finishes-all (Assign x a) E O s = any-all O _ (λ v O. assigns-all (find E x) (find_global P.globals s.globals x) _ _ (on _ O s) (on E O _))
    finishes-all (AssignElement a i b) E O s = any-all O _ (λ v O. int-all O _ (λ j O. array-all O _ (λ p O. cell-all s p j _ (λ q. on E O (with_cell s q v)))))
    finishes-all (If g a) E O s = bool-all O _ (λ t O. choose E O s t (alone a E k) k (waiting E O a _ s) (on E O s))
    finishes-all (IfElse g a b) E O s = bool-all O _ (λ t O. choose E O s t (alone a E k) (alone b E k) (waiting E O a _ s) (waiting E O b _ s))
    finishes-all (While g a) E O s = bool-all O _ (λ t O. choose E O s t (alone a E (begin g ∷ finish n ∷ k)) k (waiting E O a _ s) (on E O s))
    finishes-all (Return r) E O s = values-all (length (entries_of P r)) O [] _ (λ vs O. unwinding vs s)
    finishes-all (CallStatement a) E O s = on E O s
    finishes-all (Target x t) E O s = bad
    finishes-all Discard E O s = bad
    finishes-all (Block r) E O s = block-all (entries_of P r) E O s
