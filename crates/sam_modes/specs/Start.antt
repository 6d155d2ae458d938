-- The host that the program begins with.
use Rattle.std.specs.Prelude.{ℕ, List, [], ◌∷◌, codes}
use Rattle.sam_host.specs.Host.{PlainHost, new_host}

-- the host whose file 1 is named `file` and holds the text
unfoldable pub host_of : List ℕ → PlainHost
host_of text = new_host ((codes "file", text) ∷ [])
