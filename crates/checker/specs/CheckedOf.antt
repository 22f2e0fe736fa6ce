-- What a `CheckedSheet` holds.
use Rattle.sheet.specs.Sheets.{Decoded}
use Rattle.sheet.specs.SheetsOf.{decoded_of}
use Rattle.checker.specs.declared.checked.CheckedSheet.{CheckedSheet}

abbrev pub checked_of : CheckedSheet → Decoded
checked_of s = decoded_of s.sheet
