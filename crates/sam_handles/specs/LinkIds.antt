-- What an id is for C.
use Rattle.std.specs.Prelude.{ℕ, List, ◌++◌}
use Rattle.sam_mesg.specs.Spelling.{eight}
use Rattle.sam_link.specs.declared.hello.Id.{Id}

-- the 16 bytes of an id
abbrev pub id_bytes : Id → List ℕ
id_bytes id = eight id.first ++ eight id.last
