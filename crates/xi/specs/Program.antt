-- What a sheet holds: its names, constants, entries, nodes, globals and functions.
use Rattle.std.specs.Prelude.{ℕ, List, take, drop, ℤ}
use Rattle.xi.specs.declared.node.Node.{Node}
use Rattle.xi.specs.declared.node.Run.{Run}
use Rattle.xi.specs.declared.node.Ty.{Ty}
use Rattle.xi.specs.declared.program.GlobalVariable.{GlobalVariable}
use Rattle.xi.specs.declared.program.Parameter.{Parameter}
use Rattle.xi.specs.declared.program.Function.{Function}

pub record Program : Type 0 where
  pub names : List (List ℕ)
  pub constants : List ℤ
  pub entries : List ℕ
  pub nodes : List Node
  pub globals : List GlobalVariable
  pub functions : List Function
  -- the parameters and the results of all functions, one after another
  pub parameters : List Parameter
  pub results : List Ty

-- the items of a run
abbrev pub items_of : {A : Type 0} → List A → Run → List A
items_of xs r = take r.count (drop r.first xs)
