-- The types that are wanted of a run of so many values.
use Rattle.std.specs.Prelude.{ℕ, Bool, false, List, [], ◌∷◌, map, replicate, ◌==◌}
use Rattle.xi.specs.declared.program.Parameter.{Parameter}
use Rattle.checker.specs.declared.wanted.Wanted.{Wanted}
use Rattle.checker.specs.declared.wanted.Wanted.TheVariants.{Each, Types, Parameters}
use Rattle.xi.specs.Typing.{binding, numbers_of, types_of}

abbrev pub wanted_types : Wanted → ℕ → List ℕ
wanted_types (Each t) n = replicate n t.number
wanted_types (Types ts) n = numbers_of ts.now
wanted_types (Parameters ps) n = types_of (map (λ (p : Parameter). binding p.name p.ty) ps.now)

-- the type at the front is t
abbrev pub begins : ℕ → List ℕ → Bool
begins t [] = false
begins t (w ∷ ws) = t == w
