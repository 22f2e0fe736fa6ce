-- What a `Sheet` holds.
use Rattle.std.specs.Prelude.{map, vec_items}
use Rattle.sheet.specs.declared.sheet.Sheet.{Sheet}
use Rattle.sheet.specs.FunctionsOf.{functions_of}
use Rattle.sheet.specs.Sheets.{Decoded, decoded_with}

abbrev pub decoded_of : Sheet → Decoded
decoded_of s =
    decoded_with (map (λ w. w.now) (vec_items s.names)) (vec_items s.constants) (vec_items s.entries) (vec_items s.nodes) (vec_items s.globals) (functions_of s.functions) s.nodes_at s.globals_at s.functions_at
