-- What `Functions` holds.
use Rattle.std.specs.Prelude.{map, vec_items}
use Rattle.sheet.specs.declared.functions.FunctionRecord.{FunctionRecord}
use Rattle.sheet.specs.declared.functions.Functions.{Functions}
use Rattle.sheet.specs.Functions.{FunctionList, listed}

abbrev pub functions_of : Functions → FunctionList
functions_of f = listed (map (λ (r : FunctionRecord). r.function) (vec_items f.records)) (map (λ (r : FunctionRecord). r.at) (vec_items f.records)) (vec_items f.parameters) (vec_items f.results)
