-- The smallest sheet obeys the rules.
use Rattle.std.proofs.Common.{◌≡◌, ℕ, zero, suc, ◌<◌, [], ◌∷◌, ◌++◌, refl, le_of_suc-le-suc, not-suc-le-zero, arith}
use Rattle.xi.specs.Tree.{node_at, sort_of, first_parts, later_parts, parts_of, part_numbers, body_numbers, times, Each, PartStands}
use Rattle.xi.specs.Typing.{Tables, Inherit, ScopesBy, Typed, Declarable, declared_by, ReturnsBy}
use Rattle.xi.specs.Obeys.{Ranged, Obeys}
use Rattle.semantics.specs.Sheets.{empty_main}

tables : Tables
tables = record { scope = λ n. record { name = 1; type = 4 } ∷ []; type = λ n. 0; owed = λ n. [] }

level : ℕ → ℕ
level n = 1

ranged : (n : ℕ) → Ranged empty_main (node_at empty_main n)
ranged zero = record { inside = omega arith; short = omega arith }
ranged (suc n) = tt

parts : (n : ℕ) → Each (PartStands empty_main level n) (parts_of empty_main (node_at empty_main n))
parts zero = tt
parts (suc n) = tt

once : (n : ℕ) → n < 1 → times n (part_numbers empty_main empty_main.nodes ++ body_numbers empty_main.functions) ≡ 1
once zero h = refl
once (suc n) h = absurd (not-suc-le-zero (le_of_suc-le-suc h))

first : (n : ℕ) → Inherit tables n (first_parts empty_main (node_at empty_main n))
first zero = tt
first (suc n) = tt

later : (n : ℕ) → ScopesBy empty_main tables n (sort_of (node_at empty_main n)) (later_parts empty_main (node_at empty_main n))
later zero = tt
later (suc n) = tt

typed : (n : ℕ) → Typed empty_main tables n (node_at empty_main n)
typed zero = tt
typed (suc n) = tt

names : (n : ℕ) → Declarable empty_main (tables.scope n) (declared_by empty_main (node_at empty_main n))
names zero = tt
names (suc n) = tt

returns : (n : ℕ) → ReturnsBy empty_main (sort_of (node_at empty_main n)) (parts_of empty_main (node_at empty_main n))
returns zero = tt
returns (suc n) = tt

pub smallest-obeys : Obeys empty_main
unfolding tables level
smallest-obeys = record {
  ranges = record {
    constants = tt;
    nodes = ranged;
    globals = tt;
    parameters = (omega arith, tt);
    results = tt;
    functions = ((record { inside = omega arith; short = omega arith }, record { inside = omega arith; short = omega arith }), tt);
  };
  level = level;
  tree = record { parts = parts; bodies = (record { inside = omega arith; block = refl; top = refl }, tt); once = once; shallow = λ n h. omega arith };
  tables = tables;
  first_scopes = first;
  later_scopes = later;
  typed = typed;
  names = names;
  returns = returns;
  globals = tt;
  functions = (refl, tt);
  bodies = (record { parameters = (refl, refl, omega arith, tt); scope = refl; owed = refl; ends = tt }, tt);
  main = record { function = record { name = 0; parameters = record { first = 0; count = 1 }; results = record { first = 0; count = 0 }; body = 0 }; found = refl; argument = 1; parameters = refl; results = refl };
}
