-- The smallest sheet: a `main` with an empty body. It is accepted, so it obeys the rules, and there is a sheet that does.
use Rattle.std.proofs.Common.{◌≡◌, ℕ, zero, suc, ◌<◌, Bool, true, ◌&&◌, ltb, List, [], ◌∷◌, get_or, codes, refl, arith}
use Rattle.std.proofs.lemmas.Bool.{ltb-true, and_parts}
use Rattle.xi.specs.declared.node.Node.TheVariants.{Block}
use Rattle.xi.specs.Obeys.{Obeys}
use Rattle.sheet.specs.Outcome.{good}
use Rattle.sheet.specs.Sheets.{Decoded}
use Rattle.checker.specs.Walk.{after_of, ends_of}
use Rattle.checker.specs.Checked.{checked_at}
use Rattle.checker.proofs.Exactly.{accepts_exactly}

-- its bytes
abbrev pub smallest : List ℕ
smallest =
    1 ∷ 0 ∷ 0 ∷ 0 ∷ 44 ∷ 0 ∷ 2 ∷ 4 ∷ 109 ∷ 97 ∷ 105 ∷ 110 ∷ 4 ∷ 97 ∷ 114 ∷ 103 ∷ 115 ∷ 0 ∷ 0 ∷ 0 ∷ 0 ∷ 0 ∷ 1 ∷ 32 ∷ 0 ∷ 0 ∷ 0 ∷ 0 ∷ 0 ∷ 0 ∷ 0 ∷ 0 ∷ 0 ∷ 0 ∷ 1 ∷ 0 ∷ 0 ∷ 1 ∷ 0 ∷ 1 ∷ 4 ∷ 0 ∷ 0 ∷ 0 ∷ []

-- what it stands for
abbrev pub sheet : Decoded
sheet =
    record {
      program = record {
        names = codes "main" ∷ codes "args" ∷ [];
        constants = [];
        entries = [];
        nodes = Block (record { first = 0; count = 0 }) ∷ [];
        globals = [];
        functions = record { name = 0; parameters = record { first = 0; count = 1 }; results = record { first = 0; count = 0 }; body = 0 } ∷ [];
        parameters = record { name = 1; ty = record { number = 4 } } ∷ [];
        results = [];
      };
      nodes_at = 23;
      globals_at = 33;
      functions_at = 33;
      function_places = 35 ∷ [];
    }

-- it is accepted
pub smallest_accepted : checked_at smallest ≡ good sheet
unfolding after_of ends_of
smallest_accepted = refl

-- the test for bytes
abbrev are_bytes : List ℕ → Bool
are_bytes [] = true
are_bytes (b ∷ bs) = ltb b 256 && are_bytes bs

-- bytes, by any place
bytes_at : (bs : List ℕ) → are_bytes bs ≡ true → (i : ℕ) → get_or bs i 0 < 256
bytes_at [] h i = omega arith
bytes_at (b ∷ bs) h zero = ltb-true b 256 (and_parts (ltb b 256) _ h).0
bytes_at (b ∷ bs) h (suc i) = bytes_at bs (and_parts (ltb b 256) _ h).1 i

-- so it obeys the rules
pub smallest-obeys : Obeys sheet.program
smallest-obeys = ((accepts_exactly smallest (bytes_at smallest refl) sheet).0 smallest_accepted).1
