-- The rules of the tree, in the order in which they are tested.
use Rattle.std.specs.Prelude.{ℕ, zero, suc, ◌+◌, ◌*◌, Bool, true, false, cond, not, ◌&&◌, List, [], ◌∷◌, length, replicate, nat_le, nat_lt, slice_index, slice_index_or, slice_set}
use Rattle.xi.specs.declared.node.Node.{Node}
use Rattle.xi.specs.declared.node.Node.TheVariants.{Number, Truth, Text, Variable, Element, Length, Unary, Binary, Constructor, Call as CallNode, LibraryCall}
use Rattle.xi.specs.declared.node.Node.TheVariants.{Declare, DeclareValue, DeclareCall, Assign, AssignElement, If, IfElse, While, Return, CallStatement, Target as TargetNode, Discard, Block}
use Rattle.xi.specs.declared.program.Function.{Function}
use Rattle.xi.specs.declared.rule.Rule.TheVariants.{Tree as TreeRule}
use Rattle.xi.specs.Program.{Program}
use Rattle.sheet.specs.Outcome.{Outcome, good, then, held, runs}
use Rattle.sheet.specs.Sheets.{Decoded}
use Rattle.checker.specs.declared.mark.Mark.{Mark}
use Rattle.checker.specs.declared.mark.Mark.TheVariants.{Free, PartOf, Body}
use Rattle.checker.specs.declared.place.Place.{Place as AskedPlace}
use Rattle.checker.specs.declared.place.Place.TheVariants.{Expression, Call, Statement, Target}
use Rattle.xi.specs.Tree.{node_at, entries_of, Sort, value_sort, call_sort, statement_sort, return_sort, block_sort, target_sort, sort_of, Place, expression_place, call_place, statement_place, target_place, suits, Part, at, all}

-- what the code calls a place
abbrev pub asked : AskedPlace → Place
asked Expression = expression_place
asked Call = call_place
asked Statement = statement_place
asked Target = target_place

-- the offset of node n
abbrev pub offset_of : Decoded → ℕ → ℕ
offset_of D n = D.nodes_at + 8 * n

-- the function of that number
abbrev pub no_function : Function
no_function = record { name = 0; parameters = record { first = 0; count = 0 }; results = record { first = 0; count = 0 }; body = 0 }

abbrev pub function_at : Program → ℕ → Function
function_at P i = slice_index_or P.functions i no_function

-- the parts of a node, left to right
abbrev pub parts_in : Program → Node → List Part
parts_in P (Number c) = []
parts_in P (Truth b) = []
parts_in P (Text r) = []
parts_in P (Variable x) = []
parts_in P (Element a i) = at expression_place a ∷ at expression_place i ∷ []
parts_in P (Length a) = at expression_place a ∷ []
parts_in P (Unary o a) = at expression_place a ∷ []
parts_in P (Binary o a b) = at expression_place a ∷ at expression_place b ∷ []
parts_in P (Constructor t r) = all expression_place (entries_of P r)
parts_in P (CallNode x r) = all expression_place (entries_of P r)
parts_in P (LibraryCall f r) = all expression_place (entries_of P r)
parts_in P (Declare x t r) = all expression_place (entries_of P r)
parts_in P (DeclareValue x t a) = at expression_place a ∷ []
parts_in P (DeclareCall a r) = at call_place a ∷ all target_place (entries_of P r)
parts_in P (Assign x a) = at expression_place a ∷ []
parts_in P (AssignElement a i b) = at expression_place a ∷ at expression_place i ∷ at expression_place b ∷ []
parts_in P (If g a) = at expression_place g ∷ at statement_place a ∷ []
parts_in P (IfElse g a b) = at expression_place g ∷ at statement_place a ∷ at statement_place b ∷ []
parts_in P (While g a) = at expression_place g ∷ at statement_place a ∷ []
parts_in P (Return r) = all expression_place (entries_of P r)
parts_in P (CallStatement a) = at call_place a ∷ []
parts_in P (TargetNode x t) = []
parts_in P Discard = []
parts_in P (Block r) = all statement_place (entries_of P r)

abbrev pub is_free : Mark → Bool
is_free Free = true
is_free (PartOf n) = false
is_free Body = false

abbrev pub is_block : Sort → Bool
is_block value_sort = false
is_block call_sort = false
is_block statement_sort = false
is_block return_sort = false
is_block block_sort = true
is_block target_sort = false

-- p is a part of node n: its number is smaller, it is what its place asks, and it is no part yet; u has a mark for each node
abbrev pub claimed : Decoded → ℕ → Part → List Mark → Outcome (List Mark)
claimed D n p u =
    then (held (nat_lt p.number n && (suits p.place (sort_of (node_at D.program p.number)) && is_free (slice_index_or u p.number Free))) TreeRule (offset_of D n)) (λ _.
    good (slice_set u p.number (PartOf n)))

abbrev pub claimed_all : Decoded → ℕ → List Part → List Mark → Outcome (List Mark)
claimed_all D n [] u = good u
claimed_all D n (p ∷ ps) u = then (claimed D n p u) (λ v. claimed_all D n ps v)

-- the parts of node n
abbrev pub parts_claimed : Decoded → ℕ → List Mark → Outcome (List Mark)
parts_claimed D n u = claimed_all D n (parts_in D.program (node_at D.program n)) u

abbrev pub nodes_claimed : Decoded → List Mark → Outcome (List Mark)
nodes_claimed D u = runs (parts_claimed D) (length D.program.nodes) 0 u

-- node n is the body of a function at p: a block that is no part and no body yet
abbrev pub claimed_as_body : Decoded → ℕ → ℕ → List Mark → Outcome (List Mark)
claimed_as_body D n p u =
    then (held (nat_lt n (length D.program.nodes) && (is_block (sort_of (node_at D.program n)) && is_free (slice_index_or u n Free))) TreeRule p) (λ _.
    good (slice_set u n Body))

-- the body of function i
abbrev pub body_claimed : Decoded → ℕ → List Mark → Outcome (List Mark)
body_claimed D i u = claimed_as_body D (function_at D.program i).body (slice_index D.function_places i) u

abbrev pub bodies_claimed : Decoded → List Mark → Outcome (List Mark)
bodies_claimed D u = runs (body_claimed D) (length D.program.functions) 0 u

-- every node is a part or a body
abbrev pub all_used : Decoded → List Mark → Outcome (Unit {0})
all_used D u = runs (λ n _. held (not (is_free (slice_index_or u n Free))) TreeRule (offset_of D n)) (length D.program.nodes) 0 tt

-- one level below l; all levels past 32 count as 33
abbrev pub deeper : ℕ → ℕ
deeper l = cond (nat_lt l 33) (l + 1) 33

-- the level of a node with the mark m: v has the levels of the nodes above it
abbrev pub level_by : Mark → List ℕ → ℕ
level_by Free v = 0
level_by (PartOf n) v = deeper (slice_index v n)
level_by Body v = 1

-- the levels of all nodes, where those from n on are in v
abbrev pub levels : List Mark → ℕ → List ℕ → List ℕ
levels u zero v = v
levels u (suc n) v = levels u n (slice_set v n (level_by (slice_index_or u n Free) v))

-- no node is below level 32
abbrev pub all_shallow : Decoded → List ℕ → Outcome (Unit {0})
all_shallow D v = runs (λ n _. held (nat_le (slice_index v n) 32) TreeRule (offset_of D n)) (length D.program.nodes) 0 tt

abbrev pub levels_held : Decoded → List Mark → Outcome (Unit {0})
levels_held D u = all_shallow D (levels u (length D.program.nodes) (replicate (length D.program.nodes) 0))

-- parts, bodies, unused nodes, levels
abbrev pub tree_of : Decoded → Outcome (Unit {0})
tree_of D =
    then (nodes_claimed D (replicate (length D.program.nodes) Free)) (λ u.
    then (bodies_claimed D u) (λ v.
    then (all_used D v) (λ _.
    levels_held D v)))
