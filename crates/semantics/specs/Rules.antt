-- The rules of a run: one step from where it stands.
use Rattle.std.specs.Prelude.{ℕ, zero, suc, ◌+◌, ◌-◌, Bool, true, false, cond, not, List, [], ◌∷◌, ◌++◌, map, length, ℤ, pos, negsuc, ◌+ℤ◌, ◌-ℤ◌, ◌*ℤ◌, neg_ℤ, ◌==◌, int_div, int_le, int_lt, int_rem, nat_le, nat_lt}
use Rattle.std.proofs.Math.Option.{Option, none, some}
use Rattle.std.proofs.Math.ListN.{get_elem?}
use mir.Syntax.{w64}
use Rattle.std.specs.Int.{int_wrap}
use Rattle.xi.specs.declared.node.Node.{Node}
use Rattle.xi.specs.declared.node.Node.TheVariants.{Number, Truth, Text, Variable as VariableNode, Element, Length, Unary, Binary, Constructor, Call, LibraryCall}
use Rattle.xi.specs.declared.node.Node.TheVariants.{Declare, DeclareValue, DeclareCall, Assign, AssignElement, If, IfElse, While, Return, CallStatement, Target, Discard, Block}
use Rattle.xi.specs.declared.node.UnaryOperator.TheVariants.{Minus, Not}
use Rattle.xi.specs.declared.node.Operator.{Operator}
use Rattle.xi.specs.declared.node.Operator.TheVariants.{Add, Subtract, Multiply, Divide, Remainder, Less, LessEqual, Greater, GreaterEqual, Equal, NotEqual, And, Or}
use Rattle.xi.specs.declared.node.LibraryFunction.{LibraryFunction}
use Rattle.xi.specs.declared.node.LibraryFunction.TheVariants.{Print, Println, Readln, Getchar, Eof, ParseInt, UnparseInt, Ratio}
use Rattle.xi.specs.declared.stop.Stop.TheVariants.{ZeroDivisor, Index, Unset, NegativeLength, CellsTooFew, TooDeep, RoomTooSmall, NoCharacter}
use Rattle.xi.specs.Program.{Program, items_of}
use Rattle.xi.specs.Tree.{node_at, entries_of, Part, first_parts, all, statement_place}
use Rattle.xi.specs.Typing.{Binding, pushed, or_else, function_named, parameters_of, target_bindings}
use Rattle.semantics.specs.State.{Value, int, bool, array, Slot, Variable, variable, Store, Task, begin, finish, leave, back, Core, core, Host, Limits}
use Rattle.semantics.specs.State.{Effect, quiet, wrote, took, Move, go, finished, stop, stuck, find, put, keep, find_global, put_global, element_type, grown, with_cell, with_globals, with_depth, elements_at}
use Rattle.semantics.specs.Numbers.{nearest, equalℤ, equal_bool, literal, numeral, row, row_takes, is_character, cells_for, element_of, nested}

-- operands, taken with the type that a rule asks; an operand of another type is stuck

abbrev pub take_any : List Value → (Value → List Value → Move) → Move
take_any [] f = stuck
take_any (v ∷ O) f = f v O

abbrev pub take_int : List Value → (ℤ → List Value → Move) → Move
take_int [] f = stuck
take_int (int z ∷ O) f = f z O
take_int (bool b ∷ O) f = stuck
take_int (array p ∷ O) f = stuck

abbrev pub take_bool : List Value → (Bool → List Value → Move) → Move
take_bool [] f = stuck
take_bool (int z ∷ O) f = stuck
take_bool (bool b ∷ O) f = f b O
take_bool (array p ∷ O) f = stuck

abbrev pub take_array : List Value → (ℕ → List Value → Move) → Move
take_array [] f = stuck
take_array (int z ∷ O) f = stuck
take_array (bool b ∷ O) f = stuck
take_array (array p ∷ O) f = f p O

-- an int or an array, each with its own rule
abbrev pub take_addend : List Value → (ℤ → List Value → Move) → (ℕ → List Value → Move) → Move
take_addend [] f g = stuck
take_addend (int z ∷ O) f g = f z O
take_addend (bool b ∷ O) f g = stuck
take_addend (array p ∷ O) f g = g p O

-- the last m operands, in order
abbrev pub take_values : ℕ → List Value → List Value → (List Value → List Value → Move) → Move
take_values zero O vs f = f vs O
take_values (suc m) [] vs f = stuck
take_values (suc m) (v ∷ O) vs f = take_values m O (v ∷ vs) f

-- what must be there
abbrev pub known : {A : Type 0} → Option A → (A → Move) → Move
known none f = stuck
known (some a) f = f a

-- a slot that is read: 20 where it is unset
abbrev pub read_slot : ℕ → Slot → (Value → Move) → Move
read_slot n none f = stop Unset n
read_slot n (some v) f = f v

-- the length cell of an array
abbrev pub read_length : Slot → (ℕ → Move) → Move
read_length none f = stuck
read_length (some (int (pos m))) f = f m
read_length (some (int (negsuc m))) f = stuck
read_length (some (bool b)) f = stuck
read_length (some (array p)) f = stuck

-- the elements of the array at p
abbrev pub elements : Store → ℕ → (List Slot → Move) → Move
elements s p f = known (get_elem? s.cells p) (λ c. read_length c (λ m. f (elements_at s p m)))

-- the cell of element j of the array at p: 19 where there is none
abbrev pub within : ℕ → ℤ → ℕ → (ℕ → Move) → Move
within n (pos i) m f = cond (nat_lt i m) (f i) (stop Index n)
within n (negsuc i) m f = stop Index n

abbrev pub element_cell : ℕ → Store → ℕ → ℤ → (ℕ → Move) → Move
element_cell n s p j f = known (get_elem? s.cells p) (λ c. read_length c (λ m. within n j m (λ i. f (p + suc i))))

-- room for so many more cells: 22 where there is not
abbrev pub fits : Limits → ℕ → Store → ℕ → Move → Move
fits L n s m go_on = cond (nat_le (length s.cells + m) L.cells) go_on (stop CellsTooFew n)

-- go on with one more operand
abbrev pub answer : List Variable → List Value → List Task → Store → Value → Move
answer E O k s v = go (core E (v ∷ O) k s) quiet

-- a new array is the answer
abbrev pub make_array : Limits → ℕ → ℕ → List Slot → List Variable → List Value → List Task → Store → Effect → Move
make_array L n t cs E O k s e = fits L n s (suc (length cs)) (go (core E (array (length s.cells) ∷ O) k (grown s t cs)) e)

abbrev pub begins : List Part → List Task → List Task
begins [] k = k
begins (p ∷ ps) k = begin p.number ∷ begins ps k

-- a lone statement is a block: its names end with it
abbrev pub alone : ℕ → List Variable → List Task → List Task
alone a E k = begin a ∷ leave (length E) ∷ k

-- names in order, each with its value
abbrev pub bound : List Binding → List Value → List Variable → (List Variable → Move) → Move
bound [] [] E f = f E
bound [] (v ∷ vs) E f = stuck
bound (b ∷ bs) [] E f = stuck
bound (b ∷ bs) (v ∷ vs) E f = bound bs vs (variable b.name (some v) ∷ E) f

-- the target's name has the value; a discarding target drops it
abbrev pub received : List Binding → Value → List Variable → List Variable
received [] v E = E
received (b ∷ bs) v E = received bs v (variable b.name (some v) ∷ E)

abbrev pub received_all : Program → List ℕ → List Value → List Variable → (List Variable → Move) → Move
received_all P [] [] E f = f E
received_all P [] (v ∷ vs) E f = stuck
received_all P (a ∷ ns) [] E f = stuck
received_all P (a ∷ ns) (v ∷ vs) E f = received_all P ns vs (received (target_bindings (node_at P a)) v E) f

-- back to the nearest caller with the results; from `main` the run is finished
abbrev pub unwind : List Task → List Value → Store → Move
unwind [] vs s = finished
unwind (begin n ∷ k) vs s = unwind k vs s
unwind (finish n ∷ k) vs s = unwind k vs s
unwind (leave m ∷ k) vs s = unwind k vs s
unwind (back E O ∷ k) vs s = go (core E (pushed vs O) k (with_depth s (s.depth - 1))) quiet

-- lengths as given: 21 where any is negative
abbrev pub lengths : ℕ → List Value → (List ℕ → Move) → Move
lengths n [] f = f []
lengths n (int (pos m) ∷ vs) f = lengths n vs (λ ms. f (m ∷ ms))
lengths n (int (negsuc m) ∷ vs) f = stop NegativeLength n
lengths n (bool b ∷ vs) f = stuck
lengths n (array p ∷ vs) f = stuck

-- a variable with arrays of the given lengths; without lengths it is unset
abbrev pub declares : Limits → ℕ → ℕ → ℕ → List ℕ → List Variable → List Value → List Task → Store → Move
declares L n x t [] E O k s = go (core (variable x none ∷ E) O k s) quiet
declares L n x t (e ∷ es) E O k s =
    take_values (suc (length es)) O [] (λ vs O. lengths n vs (λ ms. fits L n s (cells_for ms)
    (go (core (variable x (some (array (length s.cells))) ∷ E) O k (nested (element_of t) ms s)) quiet)))

-- the characters of an array, in order: 20 where one is unset, 25 where it is no character
abbrev pub characters : ℕ → List Slot → (List ℕ → Move) → Move
characters n [] f = f []
characters n (none ∷ cs) f = stop Unset n
characters n (some (int (pos c)) ∷ cs) f = cond (is_character c) (characters n cs (λ t. f (c ∷ t))) (stop NoCharacter n)
characters n (some (int (negsuc c)) ∷ cs) f = stop NoCharacter n
characters n (some (bool b) ∷ cs) f = stuck
characters n (some (array p) ∷ cs) f = stuck

-- the numbers in an array: 20 where one is unset
abbrev pub integers : ℕ → List Slot → (List ℤ → Move) → Move
integers n [] f = f []
integers n (none ∷ cs) f = stop Unset n
integers n (some (int z) ∷ cs) f = integers n cs (λ zs. f (z ∷ zs))
integers n (some (bool b) ∷ cs) f = stuck
integers n (some (array p) ∷ cs) f = stuck

-- write a text: 24 where there is less room
abbrev pub writes : Host → ℕ → List ℕ → Core → Move
writes h n t c = cond (nat_le (length t) h.room) (go c (wrote t)) (stop RoomTooSmall n)

-- a text as the slots of an array
abbrev pub slots_of : List ℕ → List Slot
slots_of t = map (λ (c : ℕ). some (int (pos c))) t

-- an assignment to the variable, a local one before a global one
abbrev pub assigns : Option Slot → Option Slot → Move → Move → Move
assigns (some c) g here there = here
assigns none (some c) here there = there
assigns none none here there = stuck

-- a value equals another of its type; arrays are equal when they are one array
abbrev pub same : Value → Value → (Bool → Move) → Move
same (int x) (int y) f = f (equalℤ x y)
same (int x) (bool y) f = stuck
same (int x) (array y) f = stuck
same (bool x) (int y) f = stuck
same (bool x) (bool y) f = f (equal_bool x y)
same (bool x) (array y) f = stuck
same (array x) (int y) f = stuck
same (array x) (bool y) f = stuck
same (array x) (array y) f = f (x == y)

abbrev pub two_ints : List Value → (ℤ → ℤ → List Value → Move) → Move
two_ints O f = take_int O (λ y O. take_int O (λ x O. f x y O))

abbrev pub is_zero : ℤ → Bool
is_zero (pos n) = n == 0
is_zero (negsuc n) = false

-- 18 where the divisor is 0
abbrev pub unless_zero : ℕ → ℤ → Move → Move
unless_zero n y go_on = cond (is_zero y) (stop ZeroDivisor n) go_on

-- what is read next: the first character left, or -1
abbrev pub next_character : List ℕ → ℤ
next_character [] = negsuc 0
next_character (c ∷ cs) = pos c

abbrev pub next_takes : List ℕ → ℕ
next_takes [] = 0
next_takes (c ∷ cs) = 1

abbrev pub at_end : List ℕ → Bool
at_end [] = true
at_end (c ∷ cs) = false

-- `parseInt` gives (n, true), or (0, false)
abbrev pub parsed : Option ℤ → List Value → List Value
parsed none O = bool false ∷ int (pos 0) ∷ O
parsed (some z) O = bool true ∷ int z ∷ O

module _ (P : Program) (L : Limits) (h : Host) where
  -- the operators; `+`, `-`, `*` work modulo 2^64, `/` drops the fraction, `%` takes the dividend's sign
  unfoldable pub operates : Operator → ℕ → ℕ → List Variable → List Value → List Task → Store → Move
  operates Add n b E O k s =
      take_addend O
      (λ y O. take_int O (λ x O. answer E O k s (int (int_wrap w64 (x +ℤ y)))))
      (λ q O. take_array O (λ p O. elements s p (λ xs. elements s q (λ ys. known (element_type s.made p) (λ t. make_array L n t (xs ++ ys) E O k s quiet)))))
  operates Subtract n b E O k s = two_ints O (λ x y O. answer E O k s (int (int_wrap w64 (x -ℤ y))))
  operates Multiply n b E O k s = two_ints O (λ x y O. answer E O k s (int (int_wrap w64 (x *ℤ y))))
  operates Divide n b E O k s = two_ints O (λ x y O. unless_zero n y (answer E O k s (int (int_wrap w64 (int_div x y)))))
  operates Remainder n b E O k s = two_ints O (λ x y O. unless_zero n y (answer E O k s (int (int_rem x y))))
  operates Less n b E O k s = two_ints O (λ x y O. answer E O k s (bool (int_lt x y)))
  operates LessEqual n b E O k s = two_ints O (λ x y O. answer E O k s (bool (int_le x y)))
  operates Greater n b E O k s = two_ints O (λ x y O. answer E O k s (bool (int_lt y x)))
  operates GreaterEqual n b E O k s = two_ints O (λ x y O. answer E O k s (bool (int_le y x)))
  operates Equal n b E O k s = take_any O (λ w O. take_any O (λ v O. same v w (λ e. answer E O k s (bool e))))
  operates NotEqual n b E O k s = take_any O (λ w O. take_any O (λ v O. same v w (λ e. answer E O k s (bool (not e)))))
  -- the right part is begun where the left does not decide
  operates And n b E O k s = take_bool O (λ t O. cond t (go (core E O (begin b ∷ k) s) quiet) (answer E O k s (bool false)))
  operates Or n b E O k s = take_bool O (λ t O. cond t (answer E O k s (bool true)) (go (core E O (begin b ∷ k) s) quiet))

  -- the library
  unfoldable pub serves : LibraryFunction → ℕ → List Variable → List Value → List Task → Store → Move
  serves Print n E O k s = take_array O (λ p O. elements s p (λ cs. characters n cs (λ t. writes h n t (core E O k s))))
  serves Println n E O k s = take_array O (λ p O. elements s p (λ cs. characters n cs (λ t. writes h n (t ++ (10 ∷ [])) (core E O k s))))
  serves Readln n E O k s = make_array L n 0 (slots_of (row h.left)) E O k s (took (row_takes h.left))
  serves Getchar n E O k s = go (core E (int (next_character h.left) ∷ O) k s) (took (next_takes h.left))
  serves Eof n E O k s = answer E O k s (bool (at_end h.left))
  serves ParseInt n E O k s = take_array O (λ p O. elements s p (λ cs. integers n cs (λ zs. go (core E (parsed (literal zs) O) k s) quiet)))
  serves UnparseInt n E O k s = take_int O (λ z O. make_array L n 0 (slots_of (numeral z)) E O k s quiet)
  serves Ratio n E O k s = two_ints O (λ a b O. unless_zero n b (answer E O k s (int (int_wrap w64 (nearest a b)))))

  -- a node's own work, once its first parts are worked out: one rule for each kind
  unfoldable pub finishes : Node → ℕ → List Variable → List Value → List Task → Store → Move
  unfolding operates serves
  finishes (Number c) n E O k s = known (get_elem? P.constants c) (λ z. answer E O k s (int z))
  finishes (Truth b) n E O k s = answer E O k s (bool b)
  finishes (Text r) n E O k s = make_array L n 0 (map (λ (z : ℤ). some (int z)) (items_of P.constants r)) E O k s quiet
  finishes (VariableNode x) n E O k s = known (or_else (find E x) (find_global P.globals s.globals x)) (λ c. read_slot n c (λ v. answer E O k s v))
  -- 19, then 20
  finishes (Element a i) n E O k s =
      take_int O (λ j O. take_array O (λ p O. element_cell n s p j (λ q. known (get_elem? s.cells q) (λ c. read_slot n c (λ v. answer E O k s v)))))
  finishes (Length a) n E O k s = take_array O (λ p O. known (get_elem? s.cells p) (λ c. read_length c (λ m. answer E O k s (int (pos m)))))
  finishes (Unary Minus a) n E O k s = take_int O (λ x O. answer E O k s (int (int_wrap w64 (neg_ℤ x))))
  finishes (Unary Not a) n E O k s = take_bool O (λ b O. answer E O k s (bool (not b)))
  finishes (Binary o a b) n E O k s = operates o n b E O k s
  finishes (Constructor t r) n E O k s = take_values (length (entries_of P r)) O [] (λ vs O. make_array L n t.number (map some vs) E O k s quiet)
  -- 23 comes after the arguments and before the body
  finishes (Call x r) n E O k s =
      take_values (length (entries_of P r)) O [] (λ vs O. known (function_named P.functions x) (λ F. bound (parameters_of P F) vs [] (λ E'.
      cond (nat_lt s.depth L.depth) (go (core E' [] (begin F.body ∷ back E O ∷ k) (with_depth s (suc s.depth))) quiet) (stop TooDeep n))))
  finishes (LibraryCall f r) n E O k s = serves f n E O k s
  finishes (Declare x t r) n E O k s = declares L n x t.number (entries_of P r) E O k s
  finishes (DeclareValue x t a) n E O k s = take_any O (λ v O. go (core (variable x (some v) ∷ E) O k s) quiet)
  finishes (DeclareCall a r) n E O k s = take_values (length (entries_of P r)) O [] (λ vs O. received_all P (entries_of P r) vs E (λ E. go (core E O k s) quiet))
  finishes (Assign x a) n E O k s =
      take_any O (λ v O. assigns (find E x) (find_global P.globals s.globals x)
      (go (core (put E x (some v)) O k s) quiet)
      (go (core E O k (with_globals s (put_global P.globals s.globals x (some v)))) quiet))
  finishes (AssignElement a i b) n E O k s =
      take_any O (λ v O. take_int O (λ j O. take_array O (λ p O. element_cell n s p j (λ q. go (core E O k (with_cell s q v)) quiet))))
  finishes (If g a) n E O k s = take_bool O (λ t O. go (core E O (cond t (alone a E k) k) s) quiet)
  finishes (IfElse g a b) n E O k s = take_bool O (λ t O. go (core E O (cond t (alone a E k) (alone b E k)) s) quiet)
  -- the guard is begun anew each round
  finishes (While g a) n E O k s = take_bool O (λ t O. go (core E O (cond t (alone a E (begin g ∷ finish n ∷ k)) k) s) quiet)
  finishes (Return r) n E O k s = take_values (length (entries_of P r)) O [] (λ vs O. unwind k vs s)
  finishes (CallStatement a) n E O k s = go (core E O k s) quiet
  -- a target is never begun
  finishes (Target x t) n E O k s = stuck
  finishes Discard n E O k s = stuck
  finishes (Block r) n E O k s = go (core E O (begins (all statement_place (entries_of P r)) (leave (length E) ∷ k)) s) quiet

  -- a node is begun by beginning its first parts, and then come those and its own work
  unfoldable pub does : Task → List Variable → List Value → List Task → Store → Move
  unfolding finishes
  does (begin n) E O k s = go (core E O (begins (first_parts P (node_at P n)) (finish n ∷ k)) s) quiet
  does (finish n) E O k s = finishes (node_at P n) n E O k s
  does (leave m) E O k s = go (core (keep m E) O k s) quiet
  -- a body without results is done
  does (back E' O') E O k s = go (core E' O' k (with_depth s (s.depth - 1))) quiet

  unfoldable pub next : List Task → List Variable → List Value → Store → Move
  unfolding does
  next [] E O s = finished
  next (t ∷ k) E O s = does t E O k s

  unfoldable pub step : Core → Move
  unfolding next int_wrap
  step c = next c.tasks c.variables c.operands c.store
