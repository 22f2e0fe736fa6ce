-- The number of each rule of a sheet and of each run stop.
use Rattle.std.specs.Prelude.{ℕ}
use Rattle.xi.specs.declared.rule.Rule.{Rule}
use Rattle.xi.specs.declared.rule.Rule.TheVariants.{Version, Bytes, Range, Name, Tree, Unknown, Taken, «Type» as TypeRule, Count, Return, Main}
use Rattle.xi.specs.declared.stop.Stop.{Stop}
use Rattle.xi.specs.declared.stop.Stop.TheVariants.{ZeroDivisor, Index, Unset, NegativeLength, CellsTooFew, TooDeep, RoomTooSmall, NoCharacter}

abbrev pub rule_number : Rule → ℕ
rule_number Version = 1
rule_number Bytes = 2
rule_number Range = 3
rule_number Name = 4
rule_number Tree = 5
rule_number Unknown = 6
rule_number Taken = 7
rule_number TypeRule = 8
rule_number Count = 9
rule_number Return = 10
rule_number Main = 11

abbrev pub stop_number : Stop → ℕ
stop_number ZeroDivisor = 18
stop_number Index = 19
stop_number Unset = 20
stop_number NegativeLength = 21
stop_number CellsTooFew = 22
stop_number TooDeep = 23
stop_number RoomTooSmall = 24
stop_number NoCharacter = 25
