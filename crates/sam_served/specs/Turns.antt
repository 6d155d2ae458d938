-- What a server does with a record, as calls of its link and of its endpoint.
use Rattle.std.specs.Prelude.{◌≡◌, List, [], flat_map}
use Rattle.sam_link.specs.Calls.{Call, DoesAll, bytes_of, handed, put}
use Rattle.sam_endpoint.specs.HostRuns.{Call as HostCall, Runs, came_in, went_out}
use Rattle.sam_server.specs.Servers.{PlainRecord, Server, Takes}

-- nothing is left of a packet that was handed on, all that the endpoint answered is put, and nothing that it is told to write is left there
pub record IsSettled (s : Server) : Type 0 where
  pub part : s.link.waiting.part ≡ []
  pub answers : s.host.pending_bytes ≡ []
  pub writes : s.host.writes ≡ []

-- these calls of the link and those of the endpoint lead from one server to the other: of what came all was taken in, and of what the
-- endpoint answered all was put
pub record Turns (s z : Server) : Type 0 where
  pub calls : List Call
  pub host_calls : List HostCall
  pub does : DoesAll s.link calls z.link
  pub runs : Runs s.host host_calls z.host
  pub took : flat_map came_in host_calls ≡ bytes_of (handed calls)
  pub put_all : bytes_of (put calls) ≡ flat_map went_out host_calls

abbrev pub TurnsAreCalls : Type 0
TurnsAreCalls = (s z : Server) (r : PlainRecord) → IsSettled s → Takes s r z → Turns s z × IsSettled z
