-- What a byte host has left to read.
use Rattle.std.specs.Prelude.{ℕ, List}
use Rattle.host.specs.declared.text.TextHost.{TextHost}
use Rattle.host.specs.declared.bytes.ByteSource.{ByteSource}

abbrev pub left : TextHost ByteSource → List ℕ
left h = h.source.unread.now
