-- A function's record, which has the function and its place.
use Rattle.std.proofs.Common.{◌≡◌, ℕ, ◌<◌, List, map, length, get_or, slice_index, sym, ap, ◌∙◌, subst, arith}
use lib.ListN.{length-map}
use Rattle.std.proofs.lemmas.List.{get_or-map}
use Rattle.xi.specs.declared.program.Function.{Function}
use Rattle.sheet.specs.declared.functions.FunctionRecord.{FunctionRecord}
use Rattle.sheet.specs.Sheets.{Decoded}
use Rattle.checker.specs.Trees.{no_function, function_at}
use Rattle.checker.specs.Facts.{FunctionSized, Granted}

module _ (D : Decoded) (rs : List FunctionRecord) (functions : map (λ (r : FunctionRecord). r.function) rs ≡ D.program.functions) where
  -- there is a record for each function
  pub record-count : length rs ≡ length D.program.functions
  record-count = sym (length-map rs (λ (r : FunctionRecord). r.function)) ∙ ap length functions

  -- so a record stands for a function
  pub record-known : (i : ℕ) → i < length rs → i < length D.program.functions
  record-known i h = omega (arith, record-count)

  module _ (i : ℕ) (d : FunctionRecord) (known : i < length rs) where
    pub record-function : (get_or rs i d).function ≡ function_at D.program i
    record-function = sym (get_or-map (λ (q : FunctionRecord). q.function) rs i d no_function known) ∙ ap (λ Fs. get_or Fs i no_function) functions

    pub record-place : map (λ (q : FunctionRecord). q.at) rs ≡ D.function_places → (get_or rs i d).at ≡ slice_index D.function_places i
    record-place places = sym (get_or-map (λ (q : FunctionRecord). q.at) rs i d 0 known) ∙ ap (λ ps. get_or ps i 0) places

    pub record-sized : Granted D → FunctionSized D.program (get_or rs i d).function
    record-sized granted = subst (λ (F : Function). FunctionSized D.program F) (sym record-function) (granted.functions i (record-known i known))
