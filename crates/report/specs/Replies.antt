-- What `sheetrun` prints.
use Rattle.std.specs.Prelude.{ℕ, min, cond, List, [], ◌∷◌, length, take, nat_lt}
use Rattle.xi.specs.Program.{Program}
use Rattle.sheet.specs.Outcome.{Outcome, good, bad}
use Rattle.sheet.specs.Fields.{quad}
use Rattle.sheet.specs.Sheets.{Decoded}
use Rattle.checker.specs.Checked.{checked_at}
use Rattle.report.specs.Lines.{refused_text, counted_text}

abbrev pub counts : Program → List ℕ
counts P = length P.names ∷ length P.constants ∷ length P.entries ∷ length P.nodes ∷ length P.globals ∷ length P.functions ∷ []

abbrev pub checked_text : Program → List ℕ
checked_text P = counted_text (counts P)

-- how many bytes of the input are the sheet: as many as it states, all where it states more or has no stated length
abbrev pub sheet_length : List ℕ → ℕ
sheet_length bs = cond (nat_lt (length bs) 5) (length bs) (min (quad bs 1) (length bs))

abbrev pub reply_of : Outcome Decoded → List ℕ
reply_of (good d) = checked_text d.program
reply_of (bad k p) = refused_text k p

abbrev pub reply_to : List ℕ → List ℕ
reply_to bs = reply_of (checked_at (take (sheet_length bs) bs))
