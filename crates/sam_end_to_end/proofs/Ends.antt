-- Where a link's host has acknowledged all up to the last item that the terminal put, all items came out at the host's end, or wait there.
use Rattle.std.proofs.Common.{◌≡◌, ℕ, zero, suc, ◌+◌, ◌≤◌, List, [], ◌∷◌, ◌++◌, length, refl, sym, ap, subst, ◌∙◌, arith, append-nil, append_assoc, length-append}
use Rattle.std.proofs.lemmas.Grind.{flat_map-append}
use Rattle.std.specs.List.{flat_map}
use Rattle.sam_link.specs.Calls.{Call, DoesAll, Item, handed, items_in, put, put_by, waits}
use Rattle.sam_link.specs.End.{End, fresh}
use Rattle.sam_link.specs.Sessions.{ByHost, ByTerminal, IsId, Leads, Session, StartsWith, Step, host_did, new_session, terminal_did}
use Rattle.sam_link.specs.declared.hello.Id.{Id}
use Rattle.sam_link.specs.declared.phase.Role.TheVariants.{Terminal}
use Rattle.sam_link.proofs.SessionLaws.{packets_front, session_holds}
use Rattle.sam_line.specs.Line.{put_len}
use Rattle.sam_line.proofs.Growing.{all_taken, front_all, front_then, grown, longer_front, packets_grow, took_front}
use Rattle.sam_server.proofs.One.{one_end}

-- ## Fronts

same_front : {A : Type 0} (a r b t : List A) → a ++ r ≡ b ++ t → length a ≡ length b → a ≡ b
same_front a r b t same long =
    let x = longer_front a r b t same (omega (arith, long)) in
    x.is ∙ ap (λ (l : List _). b ++ l) (nil_of x.rest (omega (arith, long, ap length x.is, length-append b x.rest))) ∙ append-nil b
  where
    nil_of : {A : Type 0} (l : List A) → length l ≡ 0 → l ≡ []
    nil_of [] is = refl
    nil_of (y ∷ l) is = absurd (omega (arith, is))

-- ## After the first calls of the terminal

-- where the terminal had made so many of its calls
record Split (s z : Session) (count : ℕ) : Type 0 where
  middle : Session
  before : List Step
  after : List Step
  first : List Call
  second : List Call
  begins : Leads s before middle
  goes_on : Leads middle after z
  does : DoesAll s.terminal first middle.terminal
  calls_are : middle.terminal_calls ≡ s.terminal_calls ++ first
  whole : z.terminal_calls ≡ (s.terminal_calls ++ first) ++ second
  counted : length first ≡ count

-- the calls of a later session go on from these
later_calls : (s z : Session) (steps : List Step) → Leads s steps z → StartsWith z.terminal_calls s.terminal_calls
later_calls s z [] is =
    subst (λ (x : Session). StartsWith x.terminal_calls s.terminal_calls) (sym is) (front_all s.terminal_calls)
later_calls s z (ByTerminal c ∷ steps) (t, does, carried, rest) =
    front_then z.terminal_calls (s.terminal_calls ++ c ∷ []) s.terminal_calls (later_calls (terminal_did s c t) z steps rest)
    (record { rest = c ∷ []; is = refl })
later_calls s z (ByHost c ∷ steps) (h, does, carried, rest) = later_calls (host_did s c h) z steps rest

split_here : (s z : Session) (steps : List Step) → Leads s steps z → Split s z 0
split_here s z steps leads =
    let more = later_calls s z steps leads in
    record {
      middle = s;
      before = [];
      after = steps;
      first = [];
      second = more.rest;
      begins = refl;
      goes_on = leads;
      does = refl;
      calls_are = sym (append-nil s.terminal_calls);
      whole = more.is ∙ ap (λ (l : List Call). l ++ more.rest) (sym (append-nil s.terminal_calls));
      counted = refl;
    }

split : (s z : Session) (steps : List Step) (count : ℕ) → Leads s steps z → length s.terminal_calls + count ≤ length z.terminal_calls
    → Split s z count
split s z steps zero leads more = split_here s z steps leads
split s z [] (suc n) is more = absurd (omega (arith, more, ap (λ (x : Session). length x.terminal_calls) is))
split s z (ByTerminal c ∷ steps) (suc n) (t, does, carried, rest) more =
    let x = split (terminal_did s c t) z steps n rest (omega (arith, more, length-append s.terminal_calls (c ∷ []))) in
    let calls = append_assoc s.terminal_calls (c ∷ []) x.first in
    record {
      middle = x.middle;
      before = ByTerminal c ∷ x.before;
      after = x.after;
      first = c ∷ x.first;
      second = x.second;
      begins = (t, does, carried, x.begins);
      goes_on = x.goes_on;
      does = (t, does, x.does);
      calls_are = x.calls_are ∙ calls;
      whole = x.whole ∙ ap (λ (l : List Call). l ++ x.second) calls;
      counted = omega (arith, x.counted);
    }
split s z (ByHost c ∷ steps) (suc n) (h, does, carried, rest) more =
    let x = split (host_did s c h) z steps (suc n) rest more in
    record {
      middle = x.middle;
      before = ByHost c ∷ x.before;
      after = x.after;
      first = x.first;
      second = x.second;
      begins = (h, does, carried, x.begins);
      goes_on = x.goes_on;
      does = x.does;
      calls_are = x.calls_are;
      whole = x.whole;
      counted = x.counted;
    }

-- ## All came

pub ends_there : (id : Id) (steps : List Step) (s : Session) (first rest : List Call) (at : End) → IsId id → Leads (new_session id) steps s
    → s.terminal_calls ≡ first ++ rest → DoesAll (fresh Terminal id) first at → put rest ≡ []
    → put_len at ≤ s.terminal.keeps.base → put s.terminal_calls ≡ handed s.host_calls ++ waits s.host.waiting
ends_there id steps s first rest at fine leads calls does none less =
    let x = split (new_session id) s steps (length first) leads (omega (arith, ap length calls, length-append first rest)) in
    let same : x.first ≡ first = same_front x.first x.second first rest (sym x.whole ∙ calls) x.counted in
    let at_is : x.middle.terminal ≡ at =
    one_end first (fresh Terminal id) x.middle.terminal at (subst (λ l. DoesAll (fresh Terminal id) l x.middle.terminal) same x.does) does in
    let m = session_holds id x.before x.middle fine x.begins in
    let g = grown id x.after x.middle s fine m x.goes_on in
    let h = g.holds in
    let starts = packets_grow h.up_put m.up_put h.own_t.fit m.own_t.fit g.grows in
    let all : flat_map items_in m.up_put ≡ put s.terminal_calls =
    sym m.own_t.puts ∙ ap put (x.calls_are ∙ same) ∙ sym (append-nil (put first)) ∙ ap (λ (l : List Item). put first ++ l) (sym none)
    ∙ sym (flat_map-append put_by first rest) ∙ ap put (sym calls) in
    let kept : s.terminal.keeps.base ≤ s.host.received = h.joint.base_t in
    let front = took_front id s h m.up_put starts m.own_t.fit (omega (arith, m.own_t.long, ap put_len at_is, less, kept)) in
    let up = packets_front s.terminal s.host s.terminal_calls s.host_calls h.up_put h.down_taken h.down_put h.up_taken h.own_t h.own_h h.joint.came_h in
    sym (h.own_h.handed ∙ all_taken h.up_put m.up_put h.up_taken (all ∙ h.own_t.puts) up front ∙ all)
