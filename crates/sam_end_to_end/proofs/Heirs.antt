-- A session that begins with an heir is one whose program first adds the files.
use Rattle.std.proofs.Common.{ℕ, List, [], ◌∷◌, ◌++◌, map, Bool, Ok, refl, sym, subst, append-nil, append_assoc}
use Rattle.std.specs.Str.{encode_utf8_all}
use Rattle.sam_link.specs.declared.hello.Id.{Id}
use Rattle.sam_text.specs.Files.{PlainFile}
use Rattle.sam_server.specs.DurableServers.{PlainDurableServer, new_durable_server}
use Rattle.sam_server.specs.Heirs.{AdoptsAll, joining}
use Rattle.sam_server.specs.Records.{PlainRecord}
use Rattle.sam_served.specs.Programs.{AddFile, new_program}
use Rattle.sam_served.specs.Programs.Act.{Take}
use Rattle.sam_end_to_end.specs.Heirs.{HeirsAreSessions}
use Rattle.sam_end_to_end.specs.Sessions.{ByProgram, Event, Leads, Session, new_session}

-- the calls by which these files join, where the answer is a tag that no clause here asks for
abbrev adding : List PlainFile → List Event
adding [] = []
adding (file ∷ files) = ByProgram (Take (AddFile (encode_utf8_all file.name) (encode_utf8_all file.text) (Ok 0))) ∷ adding files

abbrev having : Id → Bool → ℕ → List PlainRecord → PlainDurableServer → Session
having id take_over now taken d =
    record (new_session id take_over now) { program = record (new_program id) { server = d; taken = taken } }

added : (id : Id) (take_over : Bool) (now : ℕ) (files : List PlainFile) (taken : List PlainRecord) (d e : PlainDurableServer)
    (events : List Event) (s : Session) → AdoptsAll d files e → Leads id (having id take_over now (taken ++ map joining files) e) events s
    → Leads id (having id take_over now taken d) (adding files ++ events) s
added id take_over now [] taken d e events s is leads =
    subst (λ (x : PlainDurableServer). Leads id (having id take_over now taken x) events s) is
    (subst (λ (l : List PlainRecord). Leads id (having id take_over now l e) events s) (append-nil taken) leads)
added id take_over now (file ∷ files) taken d e events s (m, adopts, rest) leads = (
  record (new_program id) { server = m; taken = taken ++ joining file ∷ [] },
  tt,
  (m, adopts.taken, adopts.fits, (λ some. tt), refl),
  added id take_over now files (taken ++ joining file ∷ []) m e events s rest
      (subst (λ (l : List PlainRecord). Leads id (having id take_over now l e) events s)
      (sym (append_assoc taken (joining file ∷ []) (map joining files))) leads),
)

pub heirs_are_sessions : HeirsAreSessions
heirs_are_sessions id take_over now files e events s adopts leads =
    (adding files ++ events, added id take_over now files [] (new_durable_server id) e events s adopts leads)
