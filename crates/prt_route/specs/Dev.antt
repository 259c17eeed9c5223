-- The interface that a word names.
use Rattle.std.specs.Prelude.{if◌then◌else◌, Option, Some, None}
use Rattle.prt_addr.specs.Word.{Word}
use Rattle.prt_route.specs.Name.{is_name}

abbrev pub device : Word → Option Word
device w = if is_name w then Some w else None
