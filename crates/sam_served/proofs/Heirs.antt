-- A program that takes a session over has made calls by which the files joined.
use Rattle.std.proofs.Common.{List, [], ◌∷◌, ◌++◌, map, Ok, sym, subst, append-nil, append_assoc}
use Rattle.std.specs.Str.{encode_utf8_all}
use Rattle.sam_link.specs.declared.hello.Id.{Id}
use Rattle.sam_text.specs.Files.{PlainFile}
use Rattle.sam_server.specs.DurableServers.{PlainDurableServer, new_durable_server}
use Rattle.sam_server.specs.Heirs.{AdoptsAll, joining}
use Rattle.sam_server.specs.Records.{PlainRecord}
use Rattle.sam_served.specs.Heirs.{HeirsAreServed}
use Rattle.sam_served.specs.Programs.{Act, AddFile, LeadsProgram, Program, Take, new_program}
use Rattle.sam_served.proofs.Programs.{programs_are_served}

-- the calls by which these files join, where the answer is a tag that no clause here asks for
abbrev adding : List PlainFile → List Act
adding [] = []
adding (file ∷ files) = Take (AddFile (encode_utf8_all file.name) (encode_utf8_all file.text) (Ok 0)) ∷ adding files

abbrev having : Id → List PlainRecord → PlainDurableServer → Program
having id taken d = record (new_program id) { server = d; taken = taken }

added : (id : Id) (files : List PlainFile) (taken : List PlainRecord) (d e : PlainDurableServer) (acts : List Act) (p : Program)
    → AdoptsAll d files e → LeadsProgram id (having id (taken ++ map joining files) e) acts p
    → LeadsProgram id (having id taken d) (adding files ++ acts) p
added id [] taken d e acts p is leads =
    subst (λ (x : PlainDurableServer). LeadsProgram id (having id taken x) acts p) is
    (subst (λ (l : List PlainRecord). LeadsProgram id (having id l e) acts p) (append-nil taken) leads)
added id (file ∷ files) taken d e acts p (m, adopts, rest) leads = (
  m,
  adopts.taken,
  adopts.fits,
  (λ some. tt),
  added id files (taken ++ joining file ∷ []) m e acts p rest
      (subst (λ (l : List PlainRecord). LeadsProgram id (having id l e) acts p)
      (sym (append_assoc taken (joining file ∷ []) (map joining files))) leads),
)

pub heirs_are_served : HeirsAreServed
heirs_are_served id files e acts p joins leads =
    programs_are_served id (adding files ++ acts) p (added id files [] (new_durable_server id) e acts p joins leads)
