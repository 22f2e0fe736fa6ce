-- The functions of a sheet. A record has a name, a count of parameters, each with a name and a type, a count of results, each a type, and a body.
use Rattle.std.specs.Prelude.{ℕ, ◌+◌, ◌*◌, ◌&&◌, List, [], ◌∷◌, ◌++◌, length, nat_le, nat_lt, slice_index}
use Rattle.xi.specs.declared.node.Ty.{Ty}
use Rattle.xi.specs.declared.program.Parameter.{Parameter}
use Rattle.xi.specs.declared.program.Function.{Function}
use Rattle.xi.specs.declared.rule.Rule.TheVariants.{Range}
use Rattle.sheet.specs.Outcome.{Outcome, good, then, held, runs}
use Rattle.sheet.specs.Fields.{pair, name_in, type_in, span_at, byte_at, part_at}

-- the functions, the offset of each, and all parameters and results one after another
pub record FunctionList : Type 0 where
  pub records : List Function
  pub places : List ℕ
  pub parameters : List Parameter
  pub results : List Ty

abbrev pub listed : List Function → List ℕ → List Parameter → List Ty → FunctionList
listed fs qs ps ts = record { records = fs; places = qs; parameters = ps; results = ts }

-- the parameter in three bytes, and the result in one, of the record at p, where there are n names
abbrev pub parameter_reads : ℕ → ℕ → List ℕ → Outcome Parameter
parameter_reads n p w = then (name_in n p w 0) (λ x. then (type_in p w 2) (λ t. good (record { name = x; ty = t })))

abbrev pub result_reads : ℕ → List ℕ → Outcome Ty
result_reads p w = type_in p w 0

-- the parameter at i of the record w, which is at p, after those of ps, where there are n names
abbrev pub parameter_item : ℕ → List ℕ → ℕ → ℕ → List Parameter → Outcome (List Parameter)
parameter_item n w p i ps =
    then (held (nat_lt (pair w i) n && nat_le (slice_index w (i + 2)) 9) Range p) (λ _.
    good (ps ++ record { name = pair w i; ty = record { number = slice_index w (i + 2) } } ∷ []))

abbrev pub result_item : List ℕ → ℕ → ℕ → List Ty → Outcome (List Ty)
result_item w p i ts = then (held (nat_le (slice_index w i) 9) Range p) (λ _. good (ts ++ record { number = slice_index w i } ∷ []))

abbrev pub parameters_of : ℕ → List ℕ → ℕ → ℕ → List Parameter → Outcome (List Parameter)
parameters_of n w p m ps = runs (λ i s. parameter_item n w p (3 + 3 * i) s) m 0 ps

-- k results, from i on
abbrev pub results_of : List ℕ → ℕ → ℕ → ℕ → List Ty → Outcome (List Ty)
results_of w p i k ts = runs (λ j s. result_item w p (i + j) s) k 0 ts

-- the function of m parameters and k results with the record w at p, after those of s
abbrev pub function_of : ℕ → ℕ → ℕ → ℕ → List ℕ → FunctionList → Outcome FunctionList
function_of n p m k w s =
    then (held (nat_lt (pair w 0) n && (nat_le m 8 && nat_le k 8)) Range p) (λ _.
    then (parameters_of n w p m s.parameters) (λ ps.
    then (results_of w p (4 + 3 * m) k s.results) (λ ts.
    good (listed
    (s.records ++ record {
      name = pair w 0;
      parameters = record { first = length s.parameters; count = m };
      results = record { first = length s.results; count = k };
      body = pair w (4 + 3 * m + k);
    } ∷ [])
    (s.places ++ p ∷ []) ps ts))))

-- reads a record at the second of s, and adds its function to those before it, the first of s; a record is as long as its own counts say
abbrev pub function_item : ℕ → List ℕ → FunctionList × ℕ → Outcome (FunctionList × ℕ)
function_item n bs s =
    then (byte_at bs s.1 2) (λ m.
    then (byte_at bs s.1 (3 + 3 * m)) (λ k.
    then (span_at bs s.1 (6 + 3 * m + k)) (λ w.
    then (function_of n s.1 m k w s.0) (λ t.
    good (t, s.1 + (6 + 3 * m + k))))))

abbrev pub functions_at : ℕ → List ℕ → ℕ → Outcome (FunctionList × ℕ)
functions_at n bs p = part_at (function_item n) (λ q. (listed [] [] [] [], q)) 64 bs p
