-- What is written to an output, and how much more it takes.
use Rattle.std.specs.Prelude.{ℕ, ◌-◌, List, length, take}
use Rattle.host.specs.declared.output.Output.{Output}

abbrev pub written : Output → List ℕ
written o = take o.used o.buffer.now

abbrev pub room : Output → ℕ
room o = length o.buffer.now - o.used
