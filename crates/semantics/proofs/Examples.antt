-- The examples, by computation.
use Rattle.std.proofs.Common.{refl}
use Rattle.semantics.specs.Runs.{after}
use Rattle.semantics.specs.Starred.{StarredExamples, FurtherExamples}

pub starred_examples : StarredExamples
unfolding after
starred_examples = record {
  waits = refl;
  finishes = record { outcome = refl; nodes = refl; globals_are = refl; cells_are = refl; handed = refl };
  seven = record { outcome = refl; nodes = refl; globals_are = refl; cells_are = refl; handed = refl };
  least = record { outcome = refl; nodes = refl; globals_are = refl; cells_are = refl; handed = refl };
  empty = record { outcome = refl; nodes = refl; globals_are = refl; cells_are = refl; handed = refl };
  nineteen = record { outcome = refl; nodes = refl; globals_are = refl; cells_are = refl; handed = refl };
  taken_cells = refl;
  half = record { outcome = refl; nodes = refl; globals_are = refl; cells_are = refl; handed = refl };
  minus_half = record { outcome = refl; nodes = refl; globals_are = refl; cells_are = refl; handed = refl };
  one_row = record { outcome = refl; nodes = refl; globals_are = refl; cells_are = refl; handed = refl };
  three_rows = record { outcome = refl; nodes = refl; globals_are = refl; cells_are = refl; handed = refl };
}

pub further_examples : FurtherExamples
unfolding after
further_examples = record {
  loop = record { outcome = refl; nodes = refl; globals_are = refl; cells_are = refl; handed = refl };
  arithmetic = record { outcome = refl; nodes = refl; globals_are = refl; cells_are = refl; handed = refl };
  prints = record { outcome = refl; nodes = refl; text_is = refl };
  parses-text = record { outcome = refl; nodes = refl; globals_are = refl; cells_are = refl; handed = refl };
  early = record { outcome = refl; nodes = refl; globals_are = refl; cells_are = refl; handed = refl };
  index = record { outcome = refl; nodes = refl; text_is = refl };
  deep = record { outcome = refl; nodes = refl; text_is = refl };
}
