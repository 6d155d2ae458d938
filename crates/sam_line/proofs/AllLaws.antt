-- Where all is acknowledged, the host's link has all that was put.
use Rattle.std.proofs.Common.{◌≡◌, ℕ, ◌≤◌, inl, inr, List, [], ◌∷◌, ◌++◌, length, Bool, true, refl, sym, ap, subst, ◌∙◌, arith, append-nil}
use Rattle.std.proofs.lemmas.Bool.{leb-true}
use Rattle.std.specs.List.{flat_map}
use Rattle.sam_frame.specs.Stream.{FitInTurn, stream_of}
use Rattle.sam_link.specs.Calls.{Call, Does, Item, handed, items_in, waits}
use Rattle.sam_link.specs.End.{End}
use Rattle.sam_link.specs.Packets.{Packet, packets}
use Rattle.sam_link.specs.Sessions.{IsId, StartsWith, WasCarried, is_taken}
use Rattle.sam_link.specs.declared.hello.Id.{Id}
use Rattle.sam_link.proofs.SessionLaws.{Holds, packets_front, session_holds}
use Rattle.sam_line.specs.Calls.{LineCall, LineDoes, put_by}
use Rattle.sam_line.specs.Line as lines
use Rattle.sam_line.specs.Sessions.{ByHost, ByLine, HasAllIsTrue, LineLeads, LineSession, LineStep, WasBrought, host_did, line_did, new_line_session, outs}
use Rattle.sam_line.specs.declared.line.Line.{Line}
use Rattle.sam_line.proofs.Growing.{Grown, all_taken, front_all, front_then, grown, packets_grow, took_front}
use Rattle.sam_line.proofs.LineLaws.{with_last}
use Rattle.sam_line.proofs.Owing.{Owes, owes}
use Rattle.sam_line.proofs.SessionLaws.{Later, Shadow, first, host_step, line_step}

-- ## A session

-- of the packets that the terminal put, the first have all items; and no more bytes than these have are to be acknowledged
record Owed (id : Id) (s : LineSession) : Type 0 where
  shadow : Shadow id s
  holds : Holds id shadow.t
  front : List Packet
  starts : StartsWith holds.up_put front
  fit : FitInTurn packets 1 front
  all : flat_map items_in front ≡ flat_map put_by s.line_calls
  long : length (stream_of packets front) ≤ s.line.question.due

-- the terminal's own packets, as it counts them
put_count : (id : Id) (s : LineSession) (sh : Shadow id s) (x : Holds id sh.t) → length (stream_of packets x.up_put) ≡ lines.put_len s.line.link
put_count id s sh x = sym x.own_t.long ∙ ap lines.put_len sh.terminal_is

by_call : (id : Id) (s : LineSession) (call : LineCall) (n : Line) (o : Owed id s) → (later : Later id s o.shadow (line_did s call n))
    → Grown id later.next.t (stream_of packets o.holds.up_put) → Owes s.line call n → Owed id (line_did s call n)
by_call id s call n o later g (inl (none, same)) =
    let more = packets_grow g.holds.up_put o.holds.up_put g.holds.own_t.fit o.holds.own_t.fit g.grows in
    record {
      shadow = later.next;
      holds = g.holds;
      front = o.front;
      starts = front_then g.holds.up_put o.holds.up_put o.front more o.starts;
      fit = o.fit;
      all = o.all ∙ sym (with_last put_by s.line_calls call ∙ ap (λ (l : List Item). flat_map put_by s.line_calls ++ l) none ∙ append-nil (flat_map put_by s.line_calls));
      long = subst (λ k. length (stream_of packets o.front) ≤ k) (sym same) o.long;
    }
by_call id s call n o later g (inr all) =
    let count : length (stream_of packets g.holds.up_put) ≡ n.question.due = put_count id (line_did s call n) later.next g.holds ∙ sym all in
    record {
      shadow = later.next;
      holds = g.holds;
      front = g.holds.up_put;
      starts = front_all g.holds.up_put;
      fit = g.holds.own_t.fit;
      all = sym g.holds.own_t.puts ∙ later.next.puts_are;
      long = omega (arith, count);
    }

owed_line : (id : Id) (s : LineSession) (call : LineCall) (n : Line) → IsId id → Owed id s → LineDoes s.line call n
    → WasBrought s.line_calls s.host_calls call → Owed id (line_did s call n)
owed_line id s call n fine o does brought =
    let later = line_step id s call n o.shadow does brought in
    by_call id s call n o later (grown id later.more o.shadow.t later.next.t fine o.holds later.since) (owes s.line call n does)

owed_host : (id : Id) (s : LineSession) (call : Call) (h : End) → IsId id → Owed id s → Does s.host call h
    → (is_taken call ≡ true → WasCarried s.host_calls (outs s.line_calls) call) → Owed id (host_did s call h)
owed_host id s call h fine o does carried =
    let later = host_step id s call h o.shadow does carried in
    let g = grown id later.more o.shadow.t later.next.t fine o.holds later.since in
    let more = packets_grow g.holds.up_put o.holds.up_put g.holds.own_t.fit o.holds.own_t.fit g.grows in
    record {
      shadow = later.next;
      holds = g.holds;
      front = o.front;
      starts = front_then g.holds.up_put o.holds.up_put o.front more o.starts;
      fit = o.fit;
      all = o.all;
      long = o.long;
    }

owed_all : (id : Id) (s : LineSession) (steps : List LineStep) (z : LineSession) → IsId id → Owed id s → LineLeads s steps z → Owed id z
owed_all id s [] z fine o leads = subst (Owed id) (sym leads) o
owed_all id s (ByLine call ∷ steps) z fine o leads =
    owed_all id (line_did s call leads.0) steps z fine (owed_line id s call leads.0 fine o leads.1 leads.2) leads.3
owed_all id s (ByHost call ∷ steps) z fine o leads =
    owed_all id (host_did s call leads.0) steps z fine (owed_host id s call leads.0 fine o leads.1 leads.2) leads.3

owed_first : (id : Id) (take_over : Bool) (now : ℕ) → (sh : Shadow id (new_line_session id take_over now)) → Holds id sh.t
    → Owed id (new_line_session id take_over now)
owed_first id take_over now sh x = record {
  shadow = sh;
  holds = x;
  front = [];
  starts = record { rest = x.up_put; is = refl };
  fit = tt;
  all = refl;
  long = omega arith;
}

-- ## All came

pub has_all_is_true : HasAllIsTrue
has_all_is_true id take_over now steps s is leads all =
    let sh = first id take_over now in
    let begun = owed_first id take_over now sh (session_holds id sh.steps sh.t is sh.leads) in
    let o = owed_all id (new_line_session id take_over now) steps s is begun leads in
    let x = o.holds in
    let kept : s.line.link.keeps.base ≤ s.host.received =
    subst (λ (e : End). s.line.link.keeps.base ≤ e.received) o.shadow.host_is
    (subst (λ (e : End). e.keeps.base ≤ o.shadow.t.host.received) o.shadow.terminal_is x.joint.base_t) in
    let due : s.line.question.due ≤ s.host.received = omega (arith, kept, leb-true s.line.question.due s.line.link.keeps.base all) in
    let front : StartsWith x.up_taken o.front =
    took_front id o.shadow.t x o.front o.starts o.fit (subst (λ (e : End). length (stream_of packets o.front) ≤ e.received) (sym o.shadow.host_is)
    (omega (arith, o.long, due))) in
    let up : StartsWith x.up_put x.up_taken =
    packets_front o.shadow.t.terminal o.shadow.t.host o.shadow.t.terminal_calls o.shadow.t.host_calls x.up_put x.down_taken x.down_put x.up_taken x.own_t
    x.own_h x.joint.came_h in
    let items : flat_map items_in x.up_taken ≡ flat_map items_in o.front =
    all_taken x.up_put o.front x.up_taken (o.all ∙ sym o.shadow.puts_are ∙ x.own_t.puts) up front in
    let there : handed o.shadow.t.host_calls ++ waits o.shadow.t.host.waiting ≡ flat_map put_by s.line_calls = x.own_h.handed ∙ items ∙ o.all in
    record {
      received = due;
      there = sym there ∙ ap (λ (c : List Call). handed c ++ waits o.shadow.t.host.waiting) o.shadow.host_calls_are
          ∙ ap (λ (e : End). handed s.host_calls ++ waits e.waiting) o.shadow.host_is;
    }
