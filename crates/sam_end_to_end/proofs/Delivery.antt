-- Where a client says that the host has all, it has, whatever crashed.
use Rattle.std.proofs.Common.{◌≡◌, inl, inr, ℕ, ◌≤◌, List, [], ◌++◌, flat_map, sym, ap, ◌∙◌, arith, append-nil}
use Rattle.std.proofs.lemmas.Bool.{leb-true}
use Rattle.sam_mesg.specs.declared.tmesg.Tmesg.{Tmesg}
use Rattle.sam_frame.specs.Direction.{terminal}
use Rattle.sam_frame.specs.Stream.{stream_of}
use Rattle.sam_link.specs.Calls.{handed, put, waits}
use Rattle.sam_link.specs.End.{End}
use Rattle.sam_endpoint.specs.TermRuns.{went_out}
use Rattle.sam_endpoint.proofs.TermEndpointRuns.{runs_lead}
use Rattle.sam_server.specs.Servers.{Server}
use Rattle.sam_served.specs.Crashes.{AreLike}
use Rattle.sam_served.specs.Serving.{session_of}
use Rattle.sam_end_to_end.specs.Delivery.{HasAllIsTrue}
use Rattle.sam_end_to_end.proofs.Ends.{ends_there}
use Rattle.sam_end_to_end.proofs.Sessions.{linked}

nothing_left : (out pending whole : List ℕ) (unwritten : List Tmesg) → pending ≡ [] → unwritten ≡ []
    → (out ++ pending) ++ stream_of terminal unwritten ≡ whole → out ≡ whole
nothing_left out pending whole unwritten none written is =
    sym (append-nil out) ∙ ap (λ (l : List ℕ). out ++ l) (sym none) ∙ sym (append-nil (out ++ pending))
    ∙ ap (λ (m : List Tmesg). (out ++ pending) ++ stream_of terminal m) (sym written) ∙ is

like_waits : (a b : End) → AreLike a b → a.waiting ≡ b.waiting
like_waits a b (inl same) = ap (λ (e : End). e.waiting) same
like_waits a b (inr o) = ap (λ (e : End). e.waiting) o.0

pub has_all_is_true : HasAllIsTrue
has_all_is_true id take_over now events s fine leads all =
    let x = linked id take_over now events s leads in
    let sh = x.shadow in
    let o = sh.owed in
    let calls = x.calls in
    let served = x.served in
    let w = served.served in
    let y = x.session in
    let lead = runs_lead calls.end_calls s.client.ordered.overlay.end calls.runs in
    let due : s.client.line.question.due ≤ s.client.line.link.keeps.base =
    leb-true s.client.line.question.due s.client.line.link.keeps.base all.acknowledged in
    let base : w.terminal.keeps.base ≡ s.client.line.link.keeps.base = ap (λ (e : End). e.keeps.base) (served.terminal ∙ sh.terminal_is) in
    let there : put w.terminal_calls ≡ handed y.host_calls ++ waits y.host.waiting =
    ends_there id y.steps (session_of w y.host y.host_calls) o.first o.rest o.at fine y.leads (served.terminal_calls ∙ o.whole) o.does o.none
    (omega (arith, o.fewer, due, base)) in
    record {
      calls = calls;
      done = lead;
      composed = sym calls.sent
          ∙ nothing_left (flat_map went_out calls.end_calls) s.client.ordered.overlay.end.pending_bytes (stream_of terminal lead.composed)
          s.client.ordered.overlay.end.unwritten all.sent.sent all.sent.idle.unwritten lead.bytes;
      items = handed y.host_calls;
      waiting = y.host.waiting;
      there = sym calls.puts ∙ sym sh.puts_are ∙ ap put (sym served.terminal_calls) ∙ there;
      host = w.server.host;
      host_calls = y.answers;
      runs = y.runs;
      took = y.took;
      server = λ settled.
          let same : s.program.server.turn.server ≡ w.server = sym (served.server settled) in (
            ap (λ (k : Server). k.host) same,
            ap (λ (k : Server). k.link.waiting) same ∙ like_waits w.server.link y.host y.like,
          );
    }
