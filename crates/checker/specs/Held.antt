-- What a `Sheet` holds. Shut, so that the steps of the check speak of one value.
use Rattle.sheet.specs.declared.sheet.Sheet.{Sheet}
use Rattle.sheet.specs.Sheets.{Decoded}
use Rattle.sheet.specs.SheetsOf.{decoded_of}

unfoldable pub held_by : Sheet → Decoded
held_by s = decoded_of s
