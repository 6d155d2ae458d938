-- A program whose server begins with the texts of another: it takes a session over.
use Rattle.std.specs.Prelude.{List, map}
use Rattle.sam_link.specs.declared.hello.Id.{Id}
use Rattle.sam_text.specs.Files.{PlainFile}
use Rattle.sam_server.specs.DurableServers.{PlainDurableServer, new_durable_server}
use Rattle.sam_server.specs.Heirs.{AdoptsAll, joining}
use Rattle.sam_served.specs.Programs.{Act, IsServed, LeadsProgram, Program, new_program}

-- a program that has this server, whose records are of these files
abbrev pub program_with : Id → List PlainFile → PlainDurableServer → Program
program_with id files e = record (new_program id) { server = e; taken = map joining files }

-- The server that these files joined, as `heir` hands it out, is a program's from its beginning on: whatever calls follow, with any
-- crashes, they are a session of the definition
abbrev pub HeirsAreServed : Type 0
HeirsAreServed =
    (id : Id) (files : List PlainFile) (e : PlainDurableServer) (acts : List Act) (p : Program)
    → AdoptsAll (new_durable_server id) files e → LeadsProgram id (program_with id files e) acts p → IsServed id p
