-- What the bytes of a sheet stand for.
use Rattle.std.specs.Prelude.{ℕ, ◌+◌, List, length, ℤ, ◌==◌, nat_le, nat_lt, slice_index}
use Rattle.xi.specs.declared.node.Node.{Node}
use Rattle.xi.specs.declared.program.GlobalVariable.{GlobalVariable}
use Rattle.xi.specs.declared.rule.Rule.TheVariants.{Version, Bytes}
use Rattle.xi.specs.Program.{Program}
use Rattle.sheet.specs.Outcome.{Outcome, good, then, held}
use Rattle.sheet.specs.Fields.{pair, quad, signed_at, items_at}
use Rattle.sheet.specs.Names.{names_at}
use Rattle.sheet.specs.Nodes.{node_reads}
use Rattle.sheet.specs.Globals.{global_reads}
use Rattle.sheet.specs.Functions.{FunctionList, functions_at}

-- a sheet that was read: what it holds, and where: the offsets of the first node, the first global, the functions' count and each function
pub record Decoded : Type 0 where
  pub program : Program
  pub nodes_at : ℕ
  pub globals_at : ℕ
  pub functions_at : ℕ
  pub function_places : List ℕ

abbrev pub decoded_with : List (List ℕ) → List ℤ → List ℕ → List Node → List GlobalVariable → FunctionList → ℕ → ℕ → ℕ → Decoded
decoded_with ws cs es ds gs f d g q =
    record {
      program = record { names = ws; constants = cs; entries = es; nodes = ds; globals = gs; functions = f.records; parameters = f.parameters; results = f.results };
      nodes_at = d;
      globals_at = g;
      functions_at = q;
      function_places = f.places;
    }

-- the version, and the stated length
abbrev pub head_at : List ℕ → Outcome (Unit {0})
head_at bs =
    then (held (nat_lt 0 (length bs)) Bytes 0) (λ _.
    then (held (slice_index bs 0 == 1) Version 0) (λ _.
    then (held (nat_le 5 (length bs)) Bytes 1) (λ _.
    held (quad bs 1 == length bs) Bytes 1)))

-- the head, the six parts one after another, and the end
abbrev pub decoded_at : List ℕ → Outcome Decoded
decoded_at bs =
    then (head_at bs) (λ _.
    then (names_at bs 5) (λ ws.
    then (items_at 8 (λ _ w. good (signed_at w 0)) 1024 bs ws.1) (λ cs.
    then (items_at 2 (λ _ w. good (pair w 0)) 4096 bs cs.1) (λ es.
    then (items_at 8 (node_reads (length ws.0) cs.0 (length es.0)) 2048 bs es.1) (λ ds.
    then (items_at 12 (global_reads (length ws.0) cs.0 (length es.0)) 32 bs ds.1) (λ gs.
    then (functions_at (length ws.0) bs gs.1) (λ f.
    then (held (f.1 == length bs) Bytes f.1) (λ _.
    good (decoded_with ws.0 cs.0 es.0 ds.0 gs.0 f.0 (es.1 + 2) (ds.1 + 2) gs.1)))))))))
