-- What a tile host has left to read.
use Rattle.std.specs.Prelude.{ℕ, List}
use Rattle.host.specs.Pieces.{unread}
use Rattle.host.specs.declared.text.TextHost.{TextHost}
use Rattle.host.specs.declared.tiles.TileSource.{TileSource}

abbrev pub left : TextHost TileSource → List ℕ
left h = unread h.source.pieces
