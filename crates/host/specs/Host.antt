-- What a host has written, and its room.
use Rattle.std.specs.Prelude.{ℕ, List}
use Rattle.host.specs.Output as output
use Rattle.host.specs.declared.text.TextHost.{TextHost}

abbrev pub written : {S : Type 0} → TextHost S → List ℕ
written h = output.written h.out

abbrev pub room : {S : Type 0} → TextHost S → ℕ
room h = output.room h.out
