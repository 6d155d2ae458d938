-- Where a client says that the host has all, it has.
use Rattle.std.proofs.Common.{◌≡◌, ℕ, List, [], ◌++◌, flat_map, sym, ap, ◌∙◌, append-nil}
use Rattle.sam_mesg.specs.declared.tmesg.Tmesg.{Tmesg}
use Rattle.sam_frame.specs.Direction.{terminal}
use Rattle.sam_frame.specs.Stream.{stream_of}
use Rattle.sam_line.specs.Calls.{put_by as line_put_by}
use Rattle.sam_line.specs.Line as lines
use Rattle.sam_line.proofs.AllLaws.{has_all_is_true as line_has_all}
use Rattle.sam_endpoint.specs.TermRuns.{went_out}
use Rattle.sam_endpoint.proofs.TermEndpointRuns.{runs_lead}
use Rattle.sam_client.specs.Clients.{new_client}
use Rattle.sam_attached.specs.Delivery.{HasAllIsTrue}
use Rattle.sam_attached.proofs.Runs.{clients_are_calls}

nothing_left : (out pending whole : List ℕ) (unwritten : List Tmesg) → pending ≡ [] → unwritten ≡ []
    → (out ++ pending) ++ stream_of terminal unwritten ≡ whole → out ≡ whole
nothing_left out pending whole unwritten none written is =
    sym (append-nil out) ∙ ap (λ (l : List ℕ). out ++ l) (sym none) ∙ sym (append-nil (out ++ pending))
    ∙ ap (λ (m : List Tmesg). (out ++ pending) ++ stream_of terminal m) (sym written) ∙ is

pub has_all_is_true : HasAllIsTrue
has_all_is_true id take_over now acts n s fine session same all =
    let calls = clients_are_calls (new_client id take_over now) n acts session.does session.going in
    let lead = runs_lead calls.end_calls n.ordered.overlay.end calls.runs in
    let host = line_has_all id take_over now session.steps s fine session.leads (ap lines.has_all same ∙ all.acknowledged) in
    record {
      end_calls = calls.end_calls;
      done = lead;
      composed = sym calls.sent
          ∙ nothing_left (flat_map went_out calls.end_calls) n.ordered.overlay.end.pending_bytes (stream_of terminal lead.composed) n.ordered.overlay.end.unwritten
          all.sent.sent all.sent.idle.unwritten lead.bytes;
      there = sym calls.puts ∙ ap (flat_map line_put_by) (sym session.calls) ∙ host.there;
    }
