-- Each act of a client as calls of its parts.
use Rattle.std.proofs.Common.{◌≡◌, ℕ, List, [], ◌∷◌, ◌++◌, length, map, take, drop, min, flat_map, true, Option, Some, None, Result, Ok, Err, refl, sym, ap, subst, ◌∙◌, arith, append-nil}
use Rattle.std.proofs.lemmas.List.{length-replicate, length-take, take-append-le, take_all, take_min}
use Rattle.sam_pending.specs.Layers.{Layer}
use Rattle.sam_pending.specs.declared.fault.PendingFault.{PendingFault}
use Rattle.sam_pending.specs.declared.told.Dropped.{Dropped}
use Rattle.sam_runes.specs.Slots.{Slots}
use Rattle.sam_link.specs.Calls.{Item, bytes_of}
use Rattle.sam_link.specs.Calls.Item.{Byte, Note}
use Rattle.sam_link.specs.End.{End}
use Rattle.sam_link.specs.Inbox.{left_of, ready}
use Rattle.sam_line.specs.Calls.{LineCall, LineDoes, LineDoesAll, handed_by as line_handed_by, put_by as line_put_by}
use Rattle.sam_line.specs.Calls as of_line
use Rattle.sam_line.specs.Line.{GivesNote as LineGivesNote, TakesIn}
use Rattle.sam_line.specs.declared.line.Line.{Line}
use Rattle.sam_endpoint.specs.TermEndpoints.{PlainTermEndpoint}
use Rattle.sam_endpoint.specs.TermRuns as run
use Rattle.sam_endpoint.specs.TermRuns.{Call as EndCall, Runs as EndRuns, came_in, went_out}
use Rattle.sam_endpoint.specs.declared.fault.EndpointFault.TheVariants as ends
use Rattle.sam_endpoint.specs.declared.fault.TermStop.{TermStop}
use Rattle.sam_endpoint.specs.declared.step.BringFault.{BringFault}
use Rattle.sam_term.specs.declared.event.UserEvent.{UserEvent}
use Rattle.sam_overlay.specs.Calls.{Brings, DropsUpTo, PlainOverlay, PutsUpTo}
use Rattle.sam_overlay.specs.Ordered.{ActsNext}
use Rattle.sam_overlay.specs.Overlays.{edit_event}
use Rattle.sam_overlay.specs.Requests.{put_limit}
use Rattle.sam_overlay.specs.declared.fault.AskFault.{AskFault}
use Rattle.sam_overlay.specs.declared.fault.PutFault.{PutFault}
use Rattle.sam_overlay.specs.declared.fault.PutFault.TheVariants as unput
use Rattle.sam_overlay.specs.declared.fault.ReplaceFault.{ReplaceFault}
use Rattle.sam_overlay.specs.declared.ordered.OrderedOverlay.{OrderedOverlay}
use Rattle.sam_overlay.specs.declared.shown_change.Asked.{Asked}
use Rattle.sam_overlay.specs.declared.shown_change.Asked.TheVariants as asked
use Rattle.sam_overlay.specs.declared.shown_change.Put.{Put as Became}
use Rattle.sam_overlay.specs.declared.shown_change.Put.TheVariants as became
use Rattle.sam_overlay.specs.declared.shown_change.Turn.{Turn}
use Rattle.sam_overlay.specs.declared.shown_change.Turn.TheVariants as turn
use Rattle.sam_client.specs.Clients.{Act, Asks, Does, Edits, IsAlone}
use Rattle.sam_client.specs.Clients as act
use Rattle.sam_client.specs.Packets.{GivesNote, next_bytes, without_bytes}
use Rattle.sam_client.specs.declared.client.Client.{Client}
use Rattle.sam_attached.specs.Runs.{IsGoing, blank, left_by, line_calls, put_by, with_bytes}

-- as AreCalls, of one act
pub record OneCall (c : Client) (a : Act) (n : Client) : Type 0 where
  pub end_calls : List EndCall
  pub runs : EndRuns c.ordered.overlay.end end_calls n.ordered.overlay.end
  pub does : LineDoesAll c.line (line_calls a) n.line
  pub puts : flat_map line_put_by (line_calls a) ≡ put_by a
  pub leaves : flat_map line_handed_by (line_calls a) ≡ left_by a
  pub sent : flat_map went_out end_calls ≡ bytes_of (put_by a)
  pub received : c.held ++ bytes_of (left_by a) ≡ flat_map came_in end_calls ++ n.held

-- ## Calls of the terminal's end alone

-- these calls take nothing in and nothing out
record Quiet (e : PlainTermEndpoint) (g : PlainTermEndpoint) : Type 0 where
  pub calls : List EndCall
  pub runs : EndRuns e calls g
  pub out : flat_map went_out calls ≡ []
  pub came : flat_map came_in calls ≡ []

still : (e g : PlainTermEndpoint) → g ≡ e → Quiet e g
still e g same = record { calls = []; runs = same; out = refl; came = refl }

-- an act that the line doesn't see
unseen : (c n : Client) (a : Act) → line_calls a ≡ [] → put_by a ≡ [] → left_by a ≡ [] → Quiet c.ordered.overlay.end n.ordered.overlay.end → n.line ≡ c.line
    → n.held ≡ c.held → OneCall c a n
unseen c n a none no_put no_left quiet line held = record {
  end_calls = quiet.calls;
  runs = quiet.runs;
  does = subst (λ (calls : List LineCall). LineDoesAll c.line calls n.line) (sym none) line;
  puts = ap (flat_map line_put_by) none ∙ sym no_put;
  leaves = ap (flat_map line_handed_by) none ∙ sym no_left;
  sent = quiet.out ∙ ap bytes_of (sym no_put);
  received = ap (λ (items : List Item). c.held ++ bytes_of items) no_left ∙ append-nil c.held ∙ sym held
      ∙ ap (λ (came : List ℕ). came ++ n.held) (sym quiet.came);
}

edits_end : (o n : OrderedOverlay) (f p q : ℕ) (s : List ℕ) (answer : Result (Unit {0}) ReplaceFault) → Edits o f p q s answer n
    → n.overlay.end ≡ o.overlay.end
edits_end o n f p q s (Ok done) (tests, replaced, finds, others, end, putting, queue) = end
edits_end o n f p q s (Err why) (tests, same) = ap (λ (x : OrderedOverlay). x.overlay.end) same

asks_end : (o n : OrderedOverlay) (event : UserEvent) (answer : Result Asked AskFault) → Asks o event answer n → n.overlay.end ≡ o.overlay.end
asks_end o n event (Ok asked.New) asks = ap (λ (x : OrderedOverlay). x.overlay.end) asks.asked.taken
asks_end o n event (Ok (asked.Shares place)) asks = ap (λ (x : OrderedOverlay). x.overlay.end) asks.asked.same
asks_end o n event (Err why) asks = ap (λ (x : OrderedOverlay). x.overlay.end) asks.err

acts_end : (o n : OrderedOverlay) (answer : Result Turn PutFault) → ActsNext o answer n → Quiet o.overlay.end n.overlay.end
acts_end o n (Ok turn.Nothing) (none, same) = still o.overlay.end n.overlay.end (ap (λ (x : OrderedOverlay). x.overlay.end) same)
acts_end o n (Ok turn.NotYet) (yet, same) = still o.overlay.end n.overlay.end (ap (λ (x : OrderedOverlay). x.overlay.end) same)
acts_end o n (Ok turn.Request) acts =
    record { calls = run.BringEvent acts.request.event (Ok tt) ∷ []; runs = (n.overlay.end, acts.brings, refl); out = refl; came = refl }
acts_end o n (Err (unput.Stopped why)) (stops, same) = still o.overlay.end n.overlay.end (ap (λ (x : OrderedOverlay). x.overlay.end) same)
acts_end o n (Err unput.TooLong) acts = absurd acts
acts_end o n (Err unput.CountFull) (full, same) = still o.overlay.end n.overlay.end (ap (λ (x : OrderedOverlay). x.overlay.end) same)
acts_end o n (Err unput.OutOfMemory) same = still o.overlay.end n.overlay.end (ap (λ (x : OrderedOverlay). x.overlay.end) same)

puts_end : (m : Option ℕ) (o n : PlainOverlay) (f : ℕ) (answer : Result Became PutFault) → PutsUpTo m o f answer n → Quiet o.end n.end
puts_end m o n f (Ok became.Nothing) (rests, end, putting, none, cells) = still o.end n.end end
puts_end m o n f (Ok became.NotFree) (same, not) = still o.end n.end (ap (λ (x : PlainOverlay). x.end) same)
puts_end m o n f (Ok became.Edit) (free, l, e, waits, next, brings, layers, putting) =
    record { calls = run.BringEvent (edit_event f e) (Ok tt) ∷ []; runs = (n.end, brings, refl); out = refl; came = refl }
puts_end m o n f (Err (unput.Stopped why)) (stops, same) = still o.end n.end (ap (λ (x : PlainOverlay). x.end) same)
puts_end m o n f (Err unput.TooLong) (l, waits, full, same) = still o.end n.end (ap (λ (x : PlainOverlay). x.end) same)
puts_end m o n f (Err unput.CountFull) (full, same) = still o.end n.end (ap (λ (x : PlainOverlay). x.end) same)
puts_end m o n f (Err unput.OutOfMemory) same = still o.end n.end (ap (λ (x : PlainOverlay). x.end) same)

drops_end : (m : Option ℕ) (o n : PlainOverlay) (f : ℕ) (answer : Result (Option Dropped) PendingFault) → DropsUpTo m o f answer n → Quiet o.end n.end
drops_end m o n f (Ok None) (same, not) = still o.end n.end (ap (λ (x : PlainOverlay). x.end) same)
drops_end m o n f (Ok (Some d)) (putting, free, drops, others, end, puts) = still o.end n.end end
drops_end m o n f (Err why) (memory, same) = still o.end n.end (ap (λ (x : PlainOverlay). x.end) same)

-- ## Calls of the line alone

bytes_map : (bytes : List ℕ) → bytes_of (map Byte bytes) ≡ bytes
bytes_map [] = refl
bytes_map (byte ∷ bytes) = ap (λ (x : List ℕ). byte ∷ x) (bytes_map bytes)

alone_puts : (call : LineCall) → IsAlone call → line_put_by call ≡ []
alone_puts (of_line.Put bytes now answer) alone = absurd alone
alone_puts (of_line.PutNote bytes now answer) alone = absurd alone
alone_puts (of_line.TakeIn old count new) alone = absurd alone
alone_puts (of_line.NextNote old count new) alone = absurd alone
alone_puts _ alone = refl

alone_hands : (call : LineCall) → IsAlone call → line_handed_by call ≡ []
alone_hands (of_line.Put bytes now answer) alone = absurd alone
alone_hands (of_line.PutNote bytes now answer) alone = absurd alone
alone_hands (of_line.TakeIn old count new) alone = absurd alone
alone_hands (of_line.NextNote old count new) alone = absurd alone
alone_hands _ alone = refl

-- a call that the terminal's end doesn't see, and that moves no byte
beside : (c n : Client) (a : Act) (call : LineCall) → line_calls a ≡ call ∷ [] → LineDoes c.line call n.line → line_put_by call ≡ put_by a
    → line_handed_by call ≡ left_by a → bytes_of (put_by a) ≡ [] → bytes_of (left_by a) ≡ [] → n.ordered.overlay.end ≡ c.ordered.overlay.end → n.held ≡ c.held
    → OneCall c a n
beside c n a call is does puts hands no_put no_left end held = record {
  end_calls = [];
  runs = end;
  does = subst (λ (calls : List LineCall). LineDoesAll c.line calls n.line) (sym is) (n.line, does, refl);
  puts = ap (flat_map line_put_by) is ∙ append-nil (line_put_by call) ∙ puts;
  leaves = ap (flat_map line_handed_by) is ∙ append-nil (line_handed_by call) ∙ hands;
  sent = sym no_put;
  received = ap (λ (bytes : List ℕ). c.held ++ bytes) no_left ∙ append-nil c.held ∙ sym held;
}

-- ## Bytes that cross

filled : (bytes : List ℕ) → take (length bytes) (with_bytes bytes) ≡ bytes
filled bytes =
    take-append-le (length bytes) bytes (drop (length bytes) blank) (omega arith) ∙ take_all (length bytes) bytes (omega arith)

takes : (l n : Line) (bytes : List ℕ) → bytes ≡ next_bytes l → n ≡ without_bytes l → TakesIn l blank (length bytes) (with_bytes bytes) n
takes l n bytes is same =
    let part = (ready l.link.waiting).part in
    let count : length bytes ≡ min 4096 (length part) = ap length is ∙ length-take 4096 part in
    let front : take (length bytes) part ≡ bytes = ap (λ k. take k part) count ∙ take_min 4096 part ∙ sym is in
    let room : length blank ≡ 4096 = length-replicate {A = ℕ} 4096 0 in
    let link : n.link ≡ record l.link { waiting = left_of l.link.waiting (length bytes) } =
    ap (λ (x : Line). x.link) same ∙ ap (λ (b : List ℕ). record l.link { waiting = left_of l.link.waiting (length b) }) (sym is) in (
      (omega (arith, count, room), ap (λ (b : List ℕ). b ++ drop (length bytes) blank) (sym front), link),
      same ∙ ap (λ (e : End). record l { link = e }) (sym (ap (λ (x : Line). x.link) same)),
    )

gives : (l n : Line) (old note : List ℕ) → GivesNote l old true n note
    → LineGivesNote l blank (Some (length note)) (with_bytes note) n
gives l n old note (rest, is, short, same) =
    let link : n.link ≡ record l.link { waiting = record l.link.waiting { packets = rest } } = ap (λ (x : Line). x.link) same in (
      (
        (
          is ∙ ap (λ (e : End). Some (note, e.waiting.packets)) (sym link)
              ∙ ap (λ (b : List ℕ). Some (b, n.link.waiting.packets)) (sym (filled note)),
          ap (λ (e : End). e.waiting.part) link,
        ),
        link ∙ ap (λ w. record l.link { waiting = w }) (sym (ap (λ (e : End). e.waiting) link)),
      ),
      (short, ap (λ (b : List ℕ). b ++ drop (length note) blank) (sym (filled note))),
      same ∙ ap (λ (e : End). record l { link = e }) (sym link),
    )

brings_end : (e : PlainTermEndpoint) (ls : Slots Layer) (putting limit : Option ℕ) (n : PlainOverlay) (bytes : List ℕ) (why : BringFault TermStop)
    → Brings (record { end = e; layers = ls; putting = putting; limit = limit }) bytes (Err why) n → Quiet e n.end
brings_end e ls None limit n bytes why (brings, keeps) =
    record { calls = run.Bring bytes (Err why) ∷ []; runs = (n.end, brings, refl); out = refl; came = refl }
brings_end e ls (Some f) limit n bytes why (not, same) = still e n.end (ap (λ (x : PlainOverlay). x.end) same)

brought_end : (e : PlainTermEndpoint) (ls : Slots Layer) (putting limit : Option ℕ) (n : PlainOverlay) (bytes : List ℕ)
    → Brings (record { end = e; layers = ls; putting = putting; limit = limit }) bytes (Ok tt) n → EndRuns e (run.Bring bytes (Ok tt) ∷ []) n.end
brought_end e ls None limit n bytes (brings, keeps) = (n.end, brings, refl)
brought_end e ls (Some f) limit n bytes brings = absurd brings

-- ## All acts

abbrev end_in : Client → PlainTermEndpoint
end_in c = c.ordered.overlay.end

pub one_call : (c n : Client) (a : Act) → IsGoing a → Does c a n → OneCall c a n
one_call c n (act.OfLine call) going (alone, does, same) =
    beside c n (act.OfLine call) call refl does (alone_puts call alone) (alone_hands call alone) refl refl (ap end_in same)
    (ap (λ (x : Client). x.held) same)
one_call c n (act.Replace f p q s answer) going (edits, same) =
    unseen c n (act.Replace f p q s answer) refl refl refl
    (still c.ordered.overlay.end n.ordered.overlay.end (edits_end c.ordered n.ordered f p q s answer edits))
    (ap (λ (x : Client). x.line) same) (ap (λ (x : Client). x.held) same)
one_call c n (act.Request event answer) going (asks, same) =
    unseen c n (act.Request event answer) refl refl refl
    (still c.ordered.overlay.end n.ordered.overlay.end (asks_end c.ordered n.ordered event answer asks))
    (ap (λ (x : Client). x.line) same) (ap (λ (x : Client). x.held) same)
one_call c n (act.TakeBack f answer) going ((drops, cells), same) =
    unseen c n (act.TakeBack f answer) refl refl refl (drops_end (put_limit c.ordered.queue f) c.ordered.overlay n.ordered.overlay f answer drops)
    (ap (λ (x : Client). x.line) same) (ap (λ (x : Client). x.held) same)
one_call c n (act.TellRefusal oldest) going (is, same) =
    unseen c n (act.TellRefusal oldest) refl refl refl
    (record { calls = run.NextRefusal oldest ∷ []; runs = (is, ap end_in same); out = refl; came = refl })
    (ap (λ (x : Client). x.line) same) (ap (λ (x : Client). x.held) same)
one_call c n (act.Step (Ok x)) going ((steps, cells, putting, leads, texts), same) =
    unseen c n (act.Step (Ok x)) refl refl refl
    (record { calls = run.MakeStep (Ok x.step) ∷ []; runs = (n.ordered.overlay.end, steps, tt, refl); out = refl; came = refl })
    (ap (λ (x : Client). x.line) same) (ap (λ (x : Client). x.held) same)
one_call c n (act.Step (Err (ends.Stopped why))) going does = absurd going
one_call c n (act.Step (Err ends.Unfinished)) going ((steps, keeps, stops), same) =
    unseen c n (act.Step (Err ends.Unfinished)) refl refl refl
    (record { calls = run.MakeStep (Err ends.Unfinished) ∷ []; runs = (n.ordered.overlay.end, steps, tt, refl); out = refl; came = refl })
    (ap (λ (x : Client). x.line) same) (ap (λ (x : Client). x.held) same)
one_call c n (act.Step (Err ends.OutOfMemory)) going ((steps, keeps, stops), same) = absurd steps
one_call c n (act.Step (Err ends.CountFull)) going ((steps, keeps, stops), same) = absurd steps
one_call c n (act.ActNext answer) going (acts, same) =
    unseen c n (act.ActNext answer) refl refl refl (acts_end c.ordered n.ordered answer acts)
    (ap (λ (x : Client). x.line) same) (ap (λ (x : Client). x.held) same)
one_call c n (act.PutEdit f answer) going (puts, same) =
    unseen c n (act.PutEdit f answer) refl refl refl (puts_end (put_limit c.ordered.queue f) c.ordered.overlay n.ordered.overlay f answer puts)
    (ap (λ (x : Client). x.line) same) (ap (λ (x : Client). x.held) same)
one_call c n (act.Send bytes now (Ok done)) going (is, does, same) = record {
  end_calls = run.TakeOut bytes ∷ [];
  runs = ([], sym is ∙ sym (append-nil bytes), ap end_in same);
  does = (n.line, does, refl);
  puts = append-nil (map Byte bytes);
  leaves = refl;
  sent = append-nil bytes ∙ sym (bytes_map bytes);
  received = append-nil c.held ∙ sym (ap (λ (x : Client). x.held) same);
}
one_call c n (act.Send bytes now (Err why)) going (is, does, same) =
    beside c n (act.Send bytes now (Err why)) (of_line.Put bytes now (Err why)) refl does refl refl refl refl (ap end_in same)
    (ap (λ (x : Client). x.held) same)
one_call c n (act.SendNote bytes now (Ok done)) going (none, does, same) =
    beside c n (act.SendNote bytes now (Ok done)) (of_line.PutNote bytes now (Ok done)) refl does refl refl refl refl (ap end_in same)
    (ap (λ (x : Client). x.held) same)
one_call c n (act.SendNote bytes now (Err why)) going (none, does, same) =
    beside c n (act.SendNote bytes now (Err why)) (of_line.PutNote bytes now (Err why)) refl does refl refl refl refl (ap end_in same)
    (ap (λ (x : Client). x.held) same)
one_call c n (act.Fetch bytes) going ((none, ready), is, same) = record {
  end_calls = [];
  runs = ap end_in same;
  does = (n.line, takes c.line n.line bytes is (ap (λ (x : Client). x.line) same), refl);
  puts = refl;
  leaves = append-nil (map Byte (take (length bytes) (with_bytes bytes))) ∙ ap (map Byte) (filled bytes);
  sent = refl;
  received = ap (λ (held : List ℕ). held ++ bytes_of (map Byte bytes)) none ∙ bytes_map bytes ∙ sym (ap (λ (x : Client). x.held) same);
}
one_call c n (act.Bring bytes (Ok done)) going (is, brings, same) = record {
  end_calls = run.Bring bytes (Ok tt) ∷ [];
  runs = brought_end c.ordered.overlay.end c.ordered.overlay.layers c.ordered.overlay.putting c.ordered.overlay.limit n.ordered.overlay bytes brings;
  does = ap (λ (x : Client). x.line) same;
  puts = refl;
  leaves = refl;
  sent = refl;
  received = append-nil c.held ∙ sym is ∙ sym (append-nil bytes) ∙ sym (append-nil (bytes ++ []))
      ∙ ap (λ (held : List ℕ). (bytes ++ []) ++ held) (sym (ap (λ (x : Client). x.held) same));
}
one_call c n (act.Bring bytes (Err why)) going (is, brings, same) =
    unseen c n (act.Bring bytes (Err why)) refl refl refl
    (brings_end c.ordered.overlay.end c.ordered.overlay.layers c.ordered.overlay.putting c.ordered.overlay.limit n.ordered.overlay bytes why brings)
    (ap (λ (x : Client). x.line) same) (ap (λ (x : Client). x.held) same)
one_call c n (act.FetchNote None) going (got, none, same) =
    unseen c n (act.FetchNote None) refl refl refl (still c.ordered.overlay.end n.ordered.overlay.end (ap end_in same))
    (ap (λ (x : Client). x.line) same) (ap (λ (x : Client). x.held) same)
one_call c n (act.FetchNote (Some note)) going (got, given, same) =
    beside c n (act.FetchNote (Some note)) (of_line.NextNote blank (Some (length note)) (with_bytes note)) refl
    (gives c.line n.line c.note note given) refl (ap (λ (b : List ℕ). Note b ∷ []) (filled note)) refl refl (ap end_in same)
    (ap (λ (x : Client). x.held) same)
one_call c n (act.AskHost now answer) going (does, same) =
    beside c n (act.AskHost now answer) (of_line.Ask now answer) refl does refl refl refl refl (ap end_in same)
    (ap (λ (x : Client). x.held) same)
