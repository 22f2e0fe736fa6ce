-- The sheet of a node, the node's offset in it, and the types of the sheet's expressions.
use Rattle.std.specs.Prelude.{ℕ}
use Rattle.sheet.specs.Outcome.{Outcome}
use Rattle.sheet.specs.Sheets.{Decoded}
use Rattle.checker.specs.declared.node_at.NodeAt.{NodeAt}
use Rattle.checker.specs.declared.scope.Scope.{Scope}
use Rattle.checker.specs.Scopes.{scope_of}
use Rattle.checker.specs.Trees.{offset_of}
use Rattle.checker.specs.Walk.{type_of}

-- all that the sheet of the node holds
abbrev pub whole : NodeAt → Decoded
whole n = n.trees.now.sheet

abbrev pub offset_at : NodeAt → ℕ
offset_at n = offset_of (whole n) n.number

-- the types of the expressions of the node's sheet in the scope s
abbrev pub types_in : NodeAt → Scope → ℕ → Outcome ℕ
types_in n s = type_of (whole n) (scope_of s)
