-- The parts of a sheet, and what is still to read of it, part by part.
use Rattle.std.specs.Prelude.{ℕ, ◌+◌, List, length, ℤ, ◌==◌}
use Rattle.xi.specs.declared.node.Node.{Node}
use Rattle.xi.specs.declared.program.GlobalVariable.{GlobalVariable}
use Rattle.xi.specs.declared.rule.Rule.TheVariants.{Bytes}
use Rattle.sheet.specs.Outcome.{Outcome, good, then, held}
use Rattle.sheet.specs.Fields.{pair, signed_at, items_at}
use Rattle.sheet.specs.Nodes.{node_reads}
use Rattle.sheet.specs.Globals.{global_reads}
use Rattle.sheet.specs.Functions.{FunctionList, functions_at}
use Rattle.sheet.specs.Sheets.{Decoded, decoded_with}

abbrev pub constants_at : List ℕ → ℕ → Outcome (List ℤ × ℕ)
constants_at bs p = items_at 8 (λ _ w. good (signed_at w 0)) 1024 bs p

abbrev pub entries_at : List ℕ → ℕ → Outcome (List ℕ × ℕ)
entries_at bs p = items_at 2 (λ _ w. good (pair w 0)) 4096 bs p

-- bs are the bytes, and b, c and d the reader's as it begins each part; ws, cs and es were read, and n, ks and e are what is known of them
module _ (bs b c d : List ℕ) (ws : List (List ℕ)) (cs : List ℤ) (es : List ℕ) (n : ℕ) (ks : List ℤ) (e : ℕ) where
  abbrev pub end_on : List Node → List GlobalVariable → ℕ → ℕ → ℕ → FunctionList × ℕ → Outcome Decoded
  end_on ds gs p q r f = then (held (f.1 == length bs) Bytes f.1) (λ _. good (decoded_with ws cs es ds gs f.0 p q r))

  abbrev pub functions_on : List Node → ℕ → ℕ → List GlobalVariable × ℕ → Outcome Decoded
  functions_on ds p q gs = then (functions_at n d gs.1) (end_on ds gs.0 p q gs.1)

  abbrev pub globals_on : ℕ → List Node × ℕ → Outcome Decoded
  globals_on p ds = then (items_at 12 (global_reads n ks e) 32 c ds.1) (functions_on ds.0 p (ds.1 + 2))

  abbrev pub nodes_on : ℕ → Outcome Decoded
  nodes_on p = then (items_at 8 (node_reads n ks e) 2048 b p) (globals_on (p + 2))
