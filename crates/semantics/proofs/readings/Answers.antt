use Rattle.semantics.proofs.readings.Goals as goal
use Rattle.semantics.proofs.Arithmetic.{wrapped_is_modulo, division_is_division, quotient_in_range, smallest-over_minus_one, nearest_is_nearest}
use Rattle.semantics.proofs.Decimal.{numeral_is_written}
use Rattle.semantics.proofs.Texts.{numeral_is_taken, row_is_row, one_row, literal_is_literal, literals_are_taken, nested-takes, nested_in_order}

pub returns : goal.returns
returns c = record {
  modulo = wrapped_is_modulo;
  division = division_is_division;
  quotient = quotient_in_range;
  smallest = smallest-over_minus_one;
  nearest = nearest_is_nearest;
  row = row_is_row;
  single = one_row;
  literal = literal_is_literal;
  taken = literals_are_taken;
  written = numeral_is_written;
  back = numeral_is_taken;
  cells = nested-takes;
  order = nested_in_order;
}
