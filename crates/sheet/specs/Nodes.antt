-- The nodes of a sheet: what the fields of a node stand for.
use Rattle.std.specs.Prelude.{ℕ, ◌+◌, ◌/◌, Bool, true, false, cond, ◌&&◌, List, length, take, drop, ℤ, pos, negsuc, Some, None, Option, ◌==◌, nat_le, nat_lt, slice_index}
use Rattle.std.specs.List.{list_all}
use Rattle.xi.specs.declared.node.Node.{Node}
use Rattle.xi.specs.declared.node.Node.TheVariants.{Number, Truth, Text, Variable, Element, Length, Unary, Binary, Constructor, Call, LibraryCall, Declare, DeclareValue, DeclareCall, Assign, AssignElement, If, IfElse, While, Return, CallStatement, Target, Discard, Block}
use Rattle.xi.specs.declared.node.Run.{Run}
use Rattle.xi.specs.declared.node.Ty.{Ty}
use Rattle.xi.specs.declared.rule.Rule.TheVariants.{Range}
use Rattle.xi.specs.Codes.{unary_of, operator_of, library_of}
use Rattle.sheet.specs.declared.nodes.RawNode.{RawNode}
use Rattle.sheet.specs.Outcome.{Outcome, good, bad}
use Rattle.sheet.specs.Fields.{pair}

abbrev pub is_character : ℤ → Bool
is_character (pos n) = nat_le n 1114111
is_character (negsuc n) = false

abbrev pub are_characters : List ℤ → Bool
are_characters cs = list_all is_character cs

-- the c constants from b on are a text
abbrev pub is_text : List ℤ → ℕ → ℕ → Bool
is_text cs b c = nat_le c 255 && (nat_le (b + c) (length cs) && are_characters (take c (drop b cs)))

-- the node, where the test holds
abbrev pub kept : Bool → Node → Option Node
kept true d = Some d
kept false d = None

-- the node with what s stands for, where it stands for something and the test holds
abbrev pub kept_with : {A : Type 0} → Bool → Option A → (A → Node) → Option Node
kept_with b None d = None
kept_with b (Some x) d = kept b (d x)

abbrev pub type_of : ℕ → Ty
type_of t = record { number = t }

abbrev pub run_of : RawNode → Run
run_of r = record { first = r.b; count = r.c }

-- the run has at most m items, and they are among n
abbrev pub run_within : RawNode → ℕ → ℕ → Bool
run_within r m n = nat_le r.c m && nat_le (r.b + r.c) n

-- Kinds 1 to 4: cs are the constants, n is the number of names.
abbrev pub leaf_of : ℕ → List ℤ → RawNode → Option Node
leaf_of n cs r =
    cond (r.kind == 1) (kept (r.s == 0 && (r.b == 0 && (r.c == 0 && nat_lt r.a (length cs)))) (Number r.a))
    (cond (r.kind == 2) (kept (r.s == 0 && (r.b == 0 && (r.c == 0 && nat_le r.a 1))) (Truth (r.a == 1)))
    (cond (r.kind == 3) (kept (r.s == 0 && (r.a == 0 && is_text cs r.b r.c)) (Text (run_of r)))
    (cond (r.kind == 4) (kept (r.s == 0 && (r.b == 0 && (r.c == 0 && nat_lt r.a n))) (Variable r.a))
    None)))

-- Kinds 5 to 8.
abbrev pub operation_of : RawNode → Option Node
operation_of r =
    cond (r.kind == 5) (kept (r.s == 0 && r.c == 0) (Element r.a r.b))
    (cond (r.kind == 6) (kept (r.s == 0 && (r.b == 0 && r.c == 0)) (Length r.a))
    (cond (r.kind == 7) (kept_with (r.b == 0 && r.c == 0) (unary_of r.s) (λ o. Unary o r.a))
    (cond (r.kind == 8) (kept_with (r.c == 0) (operator_of r.s) (λ o. Binary o r.a r.b))
    None)))

-- Kinds 9 to 11: n is the number of names, e of entries.
abbrev pub collection_of : ℕ → ℕ → RawNode → Option Node
collection_of n e r =
    cond (r.kind == 9) (kept (nat_le r.s 7 && (r.a == 0 && run_within r 16 e)) (Constructor (type_of r.s) (run_of r)))
    (cond (r.kind == 10) (kept (r.s == 0 && (nat_lt r.a n && run_within r 8 e)) (Call r.a (run_of r)))
    (cond (r.kind == 11) (kept_with (r.a == 0 && run_within r 8 e) (library_of r.s) (λ f. LibraryCall f (run_of r)))
    None))

-- Kinds 20 to 22: declarations. A type has half its number as its depth.
abbrev pub declaration_of : ℕ → ℕ → RawNode → Option Node
declaration_of n e r =
    cond (r.kind == 20) (kept (nat_le r.s 9 && (nat_lt r.a n && run_within r (r.s / 2) e)) (Declare r.a (type_of r.s) (run_of r)))
    (cond (r.kind == 21) (kept (nat_le r.s 9 && (nat_lt r.a n && r.c == 0)) (DeclareValue r.a (type_of r.s) r.b))
    (cond (r.kind == 22) (kept (r.s == 0 && (nat_lt 0 r.c && run_within r 8 e)) (DeclareCall r.a (run_of r)))
    None))

-- Kinds 23 to 29: statements that declare nothing.
abbrev pub statement_of : ℕ → ℕ → RawNode → Option Node
statement_of n e r =
    cond (r.kind == 23) (kept (r.s == 0 && (nat_lt r.a n && r.c == 0)) (Assign r.a r.b))
    (cond (r.kind == 24) (kept (r.s == 0) (AssignElement r.a r.b r.c))
    (cond (r.kind == 25) (kept (r.s == 0 && r.c == 0) (If r.a r.b))
    (cond (r.kind == 26) (kept (r.s == 0) (IfElse r.a r.b r.c))
    (cond (r.kind == 27) (kept (r.s == 0 && r.c == 0) (While r.a r.b))
    (cond (r.kind == 28) (kept (r.s == 0 && (r.a == 0 && run_within r 8 e)) (Return (run_of r)))
    (cond (r.kind == 29) (kept (r.s == 0 && (r.b == 0 && r.c == 0)) (CallStatement r.a))
    None))))))

-- Kinds 30 to 32: targets and blocks.
abbrev pub target_or_block_of : ℕ → ℕ → RawNode → Option Node
target_or_block_of n e r =
    cond (r.kind == 30) (kept (nat_le r.s 9 && (nat_lt r.a n && (r.b == 0 && r.c == 0))) (Target r.a (type_of r.s)))
    (cond (r.kind == 31) (kept (r.s == 0 && (r.a == 0 && (r.b == 0 && r.c == 0))) Discard)
    (cond (r.kind == 32) (kept (r.s == 0 && (r.a == 0 && run_within r 255 e)) (Block (run_of r)))
    None))

-- the node that the fields stand for, where there are n names, the constants cs and e entries; kinds that are not listed stand for none
abbrev pub node_of : ℕ → List ℤ → ℕ → RawNode → Option Node
node_of n cs e r =
    cond (nat_le r.kind 4) (leaf_of n cs r)
    (cond (nat_le r.kind 8) (operation_of r)
    (cond (nat_le r.kind 11) (collection_of n e r)
    (cond (nat_le r.kind 22) (declaration_of n e r)
    (cond (nat_le r.kind 29) (statement_of n e r)
    (target_or_block_of n e r)))))

-- the fields in the eight bytes of a node
abbrev pub raw_of : List ℕ → RawNode
raw_of w = record { kind = slice_index w 0; s = slice_index w 1; a = pair w 2; b = pair w 4; c = pair w 6 }

abbrev pub known : Option Node → ℕ → Outcome Node
known None p = bad Range p
known (Some d) p = good d

-- the node in eight bytes at p
abbrev pub node_reads : ℕ → List ℤ → ℕ → ℕ → List ℕ → Outcome Node
node_reads n cs e p w = known (node_of n cs e (raw_of w)) p
