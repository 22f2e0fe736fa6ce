-- What the small numbers of a sheet stand for: operators, library functions and types.
use Rattle.std.specs.Prelude.{◌≡◌, ℕ, cond, Some, None, Option, Result, IfErr, ◌==◌, nat_le}
use Rattle.std.specs.Result.{result_ok}
use Rattle.xi.specs.declared.node.Operator.{Operator}
use Rattle.xi.specs.declared.node.Operator.TheVariants.{Add, Subtract, Multiply, Divide, Remainder, Less, LessEqual, Greater, GreaterEqual, Equal, NotEqual, And, Or}
use Rattle.xi.specs.declared.node.UnaryOperator.{UnaryOperator}
use Rattle.xi.specs.declared.node.UnaryOperator.TheVariants.{Minus, Not}
use Rattle.xi.specs.declared.node.LibraryFunction.{LibraryFunction}
use Rattle.xi.specs.declared.node.LibraryFunction.TheVariants.{Print, Println, Readln, Getchar, Eof, ParseInt, UnparseInt, Ratio}
use Rattle.xi.specs.declared.node.Ty.{Ty}
use Rattle.xi.specs.declared.node.UnknownNumber.{UnknownNumber}

abbrev pub unary_of : ℕ → Option UnaryOperator
unary_of s = cond (s == 1) (Some Minus) (cond (s == 2) (Some Not) None)

abbrev pub operator_of : ℕ → Option Operator
operator_of s =
    cond (s == 1) (Some Add)
    (cond (s == 2) (Some Subtract)
    (cond (s == 3) (Some Multiply)
    (cond (s == 4) (Some Divide)
    (cond (s == 5) (Some Remainder)
    (cond (s == 6) (Some Less)
    (cond (s == 7) (Some LessEqual)
    (cond (s == 8) (Some Greater)
    (cond (s == 9) (Some GreaterEqual)
    (cond (s == 10) (Some Equal)
    (cond (s == 11) (Some NotEqual)
    (cond (s == 12) (Some And)
    (cond (s == 13) (Some Or) None))))))))))))

abbrev pub library_of : ℕ → Option LibraryFunction
library_of s =
    cond (s == 1) (Some Print)
    (cond (s == 2) (Some Println)
    (cond (s == 3) (Some Readln)
    (cond (s == 4) (Some Getchar)
    (cond (s == 5) (Some Eof)
    (cond (s == 6) (Some ParseInt)
    (cond (s == 7) (Some UnparseInt)
    (cond (s == 8) (Some Ratio) None)))))))

-- the types that are written: 0 `int`, 1 `bool`, t + 2 an array of t, and at most four deep
abbrev pub type_of : ℕ → Option Ty
type_of t = cond (nat_le t 9) (Some (record { number = t })) None

-- the answer r to what n stands for by the table f: that, or an error with the number
abbrev pub Stands : {A : Type 0} → (ℕ → Option A) → ℕ → Result A UnknownNumber → Type 0
Stands f n r = (result_ok r ≡ f n) × IfErr r (λ e. e.0 ≡ n)
