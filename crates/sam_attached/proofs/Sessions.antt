-- A session whose terminal is a client is one of two links, and of two endpoints.
use Rattle.std.proofs.Common.{◌≡◌, ℕ, List, ◌++◌, flat_map, sym, ap, subst, ◌∙◌}
use Rattle.sam_link.specs.Calls.{Call, bytes_of, handed, put}
use Rattle.sam_link.specs.Sessions.{StartsWith}
use Rattle.sam_line.specs.Calls.{handed_by as line_handed_by, put_by as line_put_by}
use Rattle.sam_line.proofs.SessionLaws.{sessions_are_links}
use Rattle.sam_endpoint.specs.HostRuns.{came_in as came_up, went_out as went_down}
use Rattle.sam_endpoint.specs.TermRuns.{came_in, went_out}
use Rattle.sam_joined.proofs.Linking.{linked_are_one_run}
use Rattle.sam_client.specs.Clients.{new_client}
use Rattle.sam_attached.specs.Sessions.{ClientsAreLinked, ClientsAreOneRun}
use Rattle.sam_attached.proofs.Runs.{clients_are_calls}

pub clients_are_linked : ClientsAreLinked
clients_are_linked id take_over now acts n s session =
    let sh = sessions_are_links id take_over now session.steps s session.leads in
    let calls = clients_are_calls (new_client id take_over now) n acts session.does session.going in
    let went : bytes_of (put sh.t.terminal_calls) ≡ flat_map went_out calls.end_calls =
    ap bytes_of (sh.puts_are ∙ ap (flat_map line_put_by) session.calls ∙ calls.puts) ∙ sym calls.sent in
    let came : bytes_of (handed sh.t.terminal_calls) ≡ flat_map came_in calls.end_calls ++ n.held =
    ap bytes_of (sh.hands_are ∙ ap (flat_map line_handed_by) session.calls ∙ calls.leaves) ∙ calls.received in
    record {
      end_calls = calls.end_calls;
      runs = calls.runs;
      steps = sh.steps;
      session = sh.t;
      leads = sh.leads;
      host_calls = sh.host_calls_are;
      puts = record { rest = n.ordered.overlay.end.pending_bytes; is = ap (λ (l : List ℕ). l ++ n.ordered.overlay.end.pending_bytes) (sym went) };
      takes = record { rest = n.held; is = came };
    }

pub clients_are_one_run : ClientsAreOneRun
clients_are_one_run given id take_over now acts n s host_calls e fine session fit host_runs takes puts =
    let l = clients_are_linked id take_over now acts n s session in
    let all = linked_are_one_run given id l.steps l.session host_calls l.end_calls e n.ordered.overlay.end fit host_runs l.runs fine l.leads (record {
      term_puts = l.puts;
      host_takes = subst (λ (calls : List Call). StartsWith (bytes_of (handed calls)) (flat_map came_up host_calls)) (sym l.host_calls) takes;
      host_puts = subst (λ (calls : List Call). StartsWith (flat_map went_down host_calls ++ e.pending_bytes) (bytes_of (put calls))) (sym l.host_calls) puts;
      term_takes = l.takes;
    }) in
    (l.end_calls, all.0, all.1, all.2, all.3, all.4, all.5)
