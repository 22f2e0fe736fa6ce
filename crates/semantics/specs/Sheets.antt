-- Sheets for the examples: each is a `main` whose body's entries come last, over a list of nodes.
use Rattle.std.specs.Prelude.{ℕ, false, List, [], ◌∷◌, ◌++◌, length, ℤ, pos, None, codes}
use Rattle.std.proofs.Math.Option.{none}
use Rattle.xi.specs.declared.node.Node.{Node}
use Rattle.xi.specs.declared.node.Run.{Run}
use Rattle.xi.specs.declared.node.Ty.{Ty}
use Rattle.xi.specs.declared.node.Node.TheVariants.{Number, Truth, Text, Variable as VariableNode, Element, Unary, Binary, Constructor, Call, LibraryCall, Declare, DeclareValue, DeclareCall, Assign, While, CallStatement, Target, Discard, Block}
use Rattle.xi.specs.declared.node.Operator.TheVariants.{Add, Subtract, Multiply, Divide, Remainder, Less, LessEqual, Greater, GreaterEqual, Equal, NotEqual, And}
use Rattle.xi.specs.declared.node.UnaryOperator.TheVariants.{Minus}
use Rattle.xi.specs.declared.node.LibraryFunction.TheVariants.{Print, Println, Readln, Eof, ParseInt, Ratio}
use Rattle.xi.specs.Program.{Program}
use Rattle.semantics.specs.State.{Slot}
use Rattle.semantics.specs.Runs.{Setup}

abbrev pub from : ℕ → ℕ → Run
from a c = record { first = a; count = c }

abbrev pub type : ℕ → Ty
type t = record { number = t }

abbrev pub main_name : List ℕ
main_name = codes "main"

abbrev pub args_name : List ℕ
args_name = codes "args"

-- `main(args:int[][])` with these nodes, its body last: names 0 `main`, 1 `args`, the globals 2 `x:int`, 3 `y:int`, 4 `z:bool`, and 5 `a`, 6 `b`, 7 `c`
abbrev pub sheet : List ℤ → List ℕ → List Node → List ℕ → Program
sheet constants entries nodes statements = record {
  names = main_name ∷ args_name ∷ codes "x" ∷ codes "y" ∷ codes "z" ∷ codes "a" ∷ codes "b" ∷ codes "c" ∷ [];
  constants = constants;
  entries = entries ++ statements;
  nodes = nodes ++ (Block (from (length entries) (length statements)) ∷ []);
  globals = record { name = 2; ty = type 0; first = None } ∷ record { name = 3; ty = type 0; first = None } ∷ record { name = 4; ty = type 1; first = None } ∷ [];
  functions = record { name = 0; parameters = from 0 1; results = from 0 0; body = length nodes } ∷ [];
  parameters = record { name = 1; ty = type 4 } ∷ [];
  results = [];
}

abbrev pub on : Program → List Slot → List ℕ → Setup
on P first left = record { program = P; cells = 1024; depth = 4; first = first; left = left; written = []; room = 4096 }

-- a sheet as above, its globals unset, over a host with this text left
abbrev pub over : Program → List ℕ → Setup
over P left = on P (none ∷ none ∷ none ∷ []) left

-- `main(args:int[][]) {}`
abbrev pub empty_main : Program
empty_main = record {
  names = main_name ∷ args_name ∷ [];
  constants = [];
  entries = [];
  nodes = Block (from 0 0) ∷ [];
  globals = [];
  functions = record { name = 0; parameters = from 0 1; results = from 0 0; body = 0 } ∷ [];
  parameters = record { name = 1; ty = type 4 } ∷ [];
  results = [];
}

-- `x = a / b  y = a % b`
abbrev pub divides : ℤ → ℤ → Program
divides a b = sheet (a ∷ b ∷ []) []
    (Number 0 ∷ Number 1 ∷ Binary Divide 0 1 ∷ Assign 2 2 ∷ Number 0 ∷ Number 1 ∷ Binary Remainder 4 5 ∷ Assign 3 6 ∷ []) (3 ∷ 7 ∷ [])

-- `z = {} == {}`
abbrev pub two_empty : Program
two_empty = sheet [] [] (Constructor (type 0) (from 0 0) ∷ Constructor (type 0) (from 0 0) ∷ Binary Equal 0 1 ∷ Assign 4 2 ∷ []) (3 ∷ [])

-- `a:int[3][4]`
abbrev pub three_by_four : Program
three_by_four = sheet (pos 3 ∷ pos 4 ∷ []) (0 ∷ 1 ∷ []) (Number 0 ∷ Number 1 ∷ Declare 5 (type 4) (from 0 2) ∷ []) (2 ∷ [])

-- `x = ratio(a, b)`
abbrev pub ratio_of : ℤ → ℤ → Program
ratio_of a b = sheet (a ∷ b ∷ []) (0 ∷ 1 ∷ []) (Number 0 ∷ Number 1 ∷ LibraryCall Ratio (from 0 2) ∷ Assign 2 2 ∷ []) (3 ∷ [])

-- `a:int[] = readln()  z = eof()`
abbrev pub one_row_sheet : Program
one_row_sheet = sheet [] [] (LibraryCall Readln (from 0 0) ∷ DeclareValue 5 (type 2) 0 ∷ LibraryCall Eof (from 0 0) ∷ Assign 4 2 ∷ []) (1 ∷ 3 ∷ [])

-- `a:int[] = readln()  b:int[] = readln()  c:int[] = readln()  z = eof()`
abbrev pub three_rows_sheet : Program
three_rows_sheet = sheet [] []
    (LibraryCall Readln (from 0 0) ∷ DeclareValue 5 (type 2) 0 ∷ LibraryCall Readln (from 0 0) ∷ DeclareValue 6 (type 2) 2 ∷ LibraryCall Readln (from 0 0) ∷ DeclareValue 7 (type 2) 4
    ∷ LibraryCall Eof (from 0 0) ∷ Assign 4 6 ∷ []) (1 ∷ 3 ∷ 5 ∷ 7 ∷ [])

-- `x = 0  while (x < 3) x = x + 1`
abbrev pub counts : Program
counts = sheet (pos 0 ∷ pos 3 ∷ pos 1 ∷ []) []
    (Number 0 ∷ Assign 2 0 ∷ VariableNode 2 ∷ Number 1 ∷ Binary Less 2 3 ∷ VariableNode 2 ∷ Number 2 ∷ Binary Add 5 6 ∷ Assign 2 7 ∷ While 4 8 ∷ []) (1 ∷ 9 ∷ [])

-- `println("hi")`
abbrev pub greets : Program
greets = sheet (pos 104 ∷ pos 105 ∷ []) (0 ∷ []) (Text (from 0 2) ∷ LibraryCall Println (from 0 1) ∷ CallStatement 1 ∷ []) (2 ∷ [])

-- `a:int, _ = parseInt("-12")  x = a`
abbrev pub parses : Program
parses = sheet (pos 45 ∷ pos 49 ∷ pos 50 ∷ []) (0 ∷ 2 ∷ 3 ∷ [])
    (Text (from 0 3) ∷ LibraryCall ParseInt (from 0 1) ∷ Target 5 (type 0) ∷ Discard ∷ DeclareCall 1 (from 1 2) ∷ VariableNode 5 ∷ Assign 2 5 ∷ []) (4 ∷ 6 ∷ [])

-- `z = false & (1 / 0 == 1)`
abbrev pub decides : Program
decides = sheet (pos 1 ∷ pos 0 ∷ []) []
    (Truth false ∷ Number 0 ∷ Number 1 ∷ Binary Divide 1 2 ∷ Number 0 ∷ Binary Equal 3 4 ∷ Binary And 0 5 ∷ Assign 4 6 ∷ []) (7 ∷ [])

-- `print("a")  x = {7}[1]`
abbrev pub oversteps : Program
oversteps = sheet (pos 97 ∷ pos 7 ∷ pos 1 ∷ []) (0 ∷ 3 ∷ [])
    (Text (from 0 1) ∷ LibraryCall Print (from 0 1) ∷ CallStatement 1 ∷ Number 1 ∷ Constructor (type 0) (from 1 1) ∷ Number 2 ∷ Element 4 5 ∷ Assign 2 6 ∷ []) (2 ∷ 7 ∷ [])

-- `main(args)`, which calls itself
abbrev pub falls : Program
falls = sheet [] (0 ∷ []) (VariableNode 1 ∷ Call 0 (from 0 1) ∷ CallStatement 1 ∷ []) (2 ∷ [])

-- `x = 9 - 2 * 3  y = -7  z = 1 < 2 & 2 <= 2 & 3 > 2 & 3 >= 3 & 1 != 2`
abbrev pub computes : Program
computes = sheet (pos 9 ∷ pos 2 ∷ pos 3 ∷ pos 7 ∷ pos 1 ∷ []) []
    (Number 0 ∷ Number 1 ∷ Number 2 ∷ Binary Multiply 1 2 ∷ Binary Subtract 0 3 ∷ Assign 2 4 ∷ Number 3 ∷ Unary Minus 6 ∷ Assign 3 7
    ∷ Number 4 ∷ Number 1 ∷ Binary Less 9 10 ∷ Number 1 ∷ Number 1 ∷ Binary LessEqual 12 13 ∷ Binary And 11 14 ∷ Number 2 ∷ Number 1 ∷ Binary Greater 16 17 ∷ Binary And 15 18
    ∷ Number 2 ∷ Number 2 ∷ Binary GreaterEqual 20 21 ∷ Binary And 19 22 ∷ Number 4 ∷ Number 1 ∷ Binary NotEqual 24 25 ∷ Binary And 23 26 ∷ Assign 4 27 ∷ []) (5 ∷ 8 ∷ 28 ∷ [])
