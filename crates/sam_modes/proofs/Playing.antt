-- Where the program stands between two pieces.
use Rattle.sam_modes.proofs.Common.{◌≡◌, ◌∙◌, ℕ, ◌+◌, ◌-◌, ◌≤◌, List, [], ◌∷◌, ◌++◌, length, take, Option, None, Some, IfSome, IfErr, OnOk, Result, Ok, Err, inl, inr, refl, sym, ap, subst, append_assoc, append-nil, length-append, arith, Appends, Consumes, IsAtEnd, Appends-nil, Appends-trans, Consumes-nil, Consumes-trans, Consumes-whole, Tmesg, terminal, version_after, PlainHost, HostFault, Answer, answer, Served, served_on, serve, after_output, Stops, stop_at, Plays, Written, OnSide, Answers, StopsAt, MayEnd, of_host_stop, Stop, Frame, PlayFault}
use Rattle.sam_frame.specs.Direction.{host}
use Rattle.sam_frame.specs.Splitting.{Ends}
use Rattle.sam_frame.specs.Stream.{stream_of}
use Rattle.sam_frame.proofs.Cuttings.{Splits-longer, Shows-longer}
use Rattle.sam_endpoint.specs.declared.fault.HostStop.{HostStop}
use Rattle.sam_endpoint.specs.declared.fault.HostStop.TheVariants as reason
use Rattle.sam_endpoint.specs.HostEndpoints.{PlainHostEndpoint, Step, IsDone, Serves}
use Rattle.sam_endpoint.specs.HostRuns.{HasServed, HasStopped, begun_with, messages_in}
use Rattle.sam_endpoint.specs.Streams.{mesg_fault}
use Rattle.sam_endpoint.proofs.HostEndpointRuns.{Kept, KeptStop, all_answered, fed_done, kept_begun, kept_feed, kept_out, kept_stop}
use Rattle.sam_modes.specs.Limits.{most_input}
use Rattle.sam_modes.proofs.Serving.{served_then}

-- what was read is what the end took in, it goes on, and nothing waits in it
pub record Progress (h : PlainHost) (first now before after : Option (List ℕ)) (e : PlainHostEndpoint) (left : ℕ) : Type 0 where
  pub got : List ℕ
  pub wrote : List ℕ
  pub read : Consumes first now got
  pub count : length got + left ≡ most_input
  pub kept : Kept h got wrote [] [] e
  pub done : IsDone e
  pub goes : e.stop ≡ None
  pub written : Appends before after wrote
  pub sent : e.pending_bytes ≡ []

-- nothing was read
pub begins : (h : PlainHost) (first before : Option (List ℕ)) (e : PlainHostEndpoint) → e ≡ begun_with h → Progress h first first before before e most_input
begins h first before e is = subst (λ (x : PlainHostEndpoint). Progress h first first before before x most_input) (sym is) (record {
  got = [];
  wrote = [];
  read = Consumes-nil first;
  count = refl;
  kept = kept_begun h;
  done = (record { waiting = refl; unwritten = refl }, refl);
  goes = refl;
  written = Appends-nil before;
  sent = refl;
})

module _ {W : Type 0} (contents : W → Option (List ℕ)) where
  -- one more piece was read and answered
  pub goes_on : (h : PlainHost) (piece : List ℕ) (first now later before : Option (List ℕ)) (w x : W) (e g : PlainHostEndpoint) (left count : ℕ)
      → Progress h first now before (contents w) e left → Consumes now later piece → length piece ≡ count → count ≤ left
      → Answers contents e g w x piece (Ok tt) → Progress h first later before (contents x) g (left - count)
  goes_on h piece first now later before w x e g left count p reads size most (fed, feeds, wrote, is) =
      let ready = fed_done e fed piece feeds in
      let kept = kept_out h (p.got ++ piece) p.wrote [] [] fed.pending_bytes [] fed (sym (append-nil fed.pending_bytes)) (kept_feed h p.got p.wrote [] [] piece e fed (Ok tt) tt feeds p.kept) in
      subst (λ (y : PlainHostEndpoint). Progress h first later before (contents x) y (left - count)) (sym is) (record {
        got = p.got ++ piece;
        wrote = p.wrote ++ fed.pending_bytes;
        read = Consumes-trans first now later p.got piece p.read reads;
        count = simp length-append (omega (arith, p.count));
        kept = subst (λ (b : List ℕ). Kept h b (p.wrote ++ fed.pending_bytes) [] [] (record fed { pending_bytes = [] })) (append-nil (p.got ++ piece)) kept;
        done = (record { waiting = ready.0.0.waiting; unwritten = ready.0.0.unwritten }, ready.0.1);
        goes = ready.1;
        written = Appends-trans before (contents w) (contents x) _ _ p.written wrote;
        sent = refl;
      })

-- ---- what an end has served, the program plays

-- the bytes of the answers, where none is left to write
bytes_out : (h : PlainHost) (stream out : List ℕ) (e : PlainHostEndpoint) (s : HasServed h stream out [] [] e) → e.unwritten ≡ [] → out ++ e.pending_bytes ≡ stream_of host s.frames
bytes_out h stream out e s none = sym (append-nil (out ++ e.pending_bytes)) ∙ ap (λ fs. (out ++ e.pending_bytes) ++ stream_of host fs) (sym none) ∙ s.bytes

-- the messages that were answered and those that wait
served_all : (h : PlainHost) (stream out : List ℕ) (e : PlainHostEndpoint) (s : HasServed h stream out [] [] e) → serve h (messages_in s.steps ++ e.waiting) ≡ after_output (stream_of host s.frames) (serve e.host e.waiting)
served_all h stream out e s = served_then h e.host (messages_in s.steps) e.waiting s.frames s.writes
    (subst (λ (steps : List Step). Serves h steps s.frames s.writes e.host) (all_answered h.taken s.steps s.asides_are) s.serves)

-- all were answered
all_served : (h : PlainHost) (stream out : List ℕ) (e : PlainHostEndpoint) (s : HasServed h stream out [] [] e) → e.waiting ≡ [] → e.unwritten ≡ []
    → (out ++ e.pending_bytes ≡ (serve h (messages_in s.steps ++ e.waiting)).written) × ((serve h (messages_in s.steps ++ e.waiting)).end ≡ Ok e.host)
all_served h stream out e s none written =
    let all : serve h (messages_in s.steps ++ e.waiting) ≡ after_output (stream_of host s.frames) (serve e.host []) =
    served_all h stream out e s ∙ ap (λ ms. after_output (stream_of host s.frames) (serve e.host ms)) none in
    (bytes_out h stream out e s written ∙ sym (append-nil (stream_of host s.frames)) ∙ sym (ap (λ (r : Served). r.written) all), ap (λ (r : Served). r.end) all)

refused_on : (r : Answer) (why : HostFault) (ms : List Tmesg) → r ≡ Err why → served_on r (λ next. serve next ms) ≡ record { written = []; end = Err why }
refused_on r why ms is = ap (λ (a : Answer). served_on a (λ next. serve next ms)) is

-- the next is refused
next_refused : (h : PlainHost) (stream out : List ℕ) (e : PlainHostEndpoint) (s : HasServed h stream out [] [] e) (m : Tmesg) (rest : List Tmesg) (why : HostFault) → e.waiting ≡ m ∷ rest
    → answer e.host m ≡ Err why → e.unwritten ≡ [] → (out ++ e.pending_bytes ≡ (serve h (messages_in s.steps ++ e.waiting)).written) × ((serve h (messages_in s.steps ++ e.waiting)).end ≡ Err why)
next_refused h stream out e s m rest why waits refuses written =
    let all : serve h (messages_in s.steps ++ e.waiting) ≡ after_output (stream_of host s.frames) (record { written = []; end = Err why }) =
    served_all h stream out e s ∙ ap (λ ms. after_output (stream_of host s.frames) (serve e.host ms)) waits ∙ ap (after_output (stream_of host s.frames)) (refused_on (answer e.host m) why rest refuses) in
    (bytes_out h stream out e s written ∙ sym (append-nil (stream_of host s.frames)) ∙ sym (ap (λ (r : Served). r.written) all), ap (λ (r : Served). r.end) all)

-- a stream at whose end all is answered
plays_end : (h : PlainHost) (stream out : List ℕ) (e : PlainHostEndpoint) → HasServed h stream out [] [] e → IsDone e → Plays h stream (out ++ e.pending_bytes) (stop_at None e.framer.bytes)
plays_end h stream out e s (idle, none) =
    let all = all_served h stream out e s idle.waiting idle.unwritten in
    let version : ℕ = version_after terminal 1 (messages_in s.steps ++ e.waiting) in
    let open_end : Ends terminal version e.framer.bytes None = rw none at s.reads.ends in record {
      messages = messages_in s.steps ++ e.waiting;
      rest = e.framer.bytes;
      splits = s.reads.splits;
      output = all.0;
      stops = subst (λ r. Stops r version e.framer.bytes (stop_at None e.framer.bytes)) (sym all.1) (None, open_end, refl);
    }

-- a stream that stopped the end, whatever comes after it
plays_stop : (h : PlainHost) (stream out more : List ℕ) (e : PlainHostEndpoint) (why : HostStop) → HasServed h stream out [] [] e → HasStopped e why
    → Plays h (stream ++ more) (out ++ e.pending_bytes) (Some (of_host_stop why))
plays_stop h stream out more e (reason.Stream why) s (idle, shown) =
    let all = all_served h stream out e s idle.waiting idle.unwritten in
    let version : ℕ = version_after terminal 1 (messages_in s.steps ++ e.waiting) in
    let shows : Ends terminal version e.framer.bytes (Some (mesg_fault why)) = rw shown at s.reads.ends in record {
      messages = messages_in s.steps ++ e.waiting;
      rest = e.framer.bytes ++ more;
      splits = Splits-longer terminal 1 stream (messages_in s.steps ++ e.waiting) e.framer.bytes more s.reads.splits;
      output = all.0;
      stops =
          subst (λ r. Stops r version (e.framer.bytes ++ more) (Some (of_host_stop (reason.Stream why)))) (sym all.1)
          (Some (mesg_fault why), Shows-longer terminal version e.framer.bytes more (mesg_fault why) shows, refl);
    }
plays_stop h stream out more e (reason.Refused why) s (m, rest, waits, refuses, written) =
    let all = next_refused h stream out e s m rest why waits refuses written in
    let version : ℕ = version_after terminal 1 (messages_in s.steps ++ e.waiting) in record {
      messages = messages_in s.steps ++ e.waiting;
      rest = e.framer.bytes ++ more;
      splits = Splits-longer terminal 1 stream (messages_in s.steps ++ e.waiting) e.framer.bytes more s.reads.splits;
      output = all.0;
      stops = subst (λ r. Stops r version (e.framer.bytes ++ more) (Some (of_host_stop (reason.Refused why)))) (sym all.1) refl;
    }

-- known bytes were consumed, and more may be left
known : (first now : Option (List ℕ)) (got : List ℕ) (P : List ℕ → Type 0) → Consumes first now got → ((more : List ℕ) → P (got ++ more)) → IfSome first P
known first now got P e u = grind arith

-- of the piece that stopped the end all was taken in or nothing
stopped_in : (h : PlainHost) (got piece wrote unread : List ℕ) (e : PlainHostEndpoint) (why : HostStop) → KeptStop h got piece wrote [] [] why e
    → Plays h ((got ++ piece) ++ unread) (wrote ++ e.pending_bytes) (Some (of_host_stop why))
stopped_in h got piece wrote unread e why k = elim k.whole [
  | inl all ↦
      subst (λ (x : List ℕ). Plays h ((got ++ x) ++ unread) (wrote ++ e.pending_bytes) (Some (of_host_stop why))) all
      (plays_stop h (got ++ k.taken) wrote unread e why k.kept.served k.stops)
  | inr none ↦
      subst (λ (x : List ℕ). Plays h x (wrote ++ e.pending_bytes) (Some (of_host_stop why)))
      (ap (λ (x : List ℕ). (got ++ x) ++ (piece ++ unread)) none ∙ ap (λ (x : List ℕ). x ++ (piece ++ unread)) (append-nil got) ∙ sym (append_assoc got piece unread))
      (plays_stop h (got ++ k.taken) wrote (piece ++ unread) e why k.kept.served k.stops)
]

module _ {W : Type 0} (contents : W → Option (List ℕ)) where
  -- one more piece was read, and stopped the program
  pub stops : (h : PlainHost) (piece : List ℕ) (first now later before : Option (List ℕ)) (w x : W) (e g : PlainHostEndpoint) (left : ℕ) (s : Stop)
      → Progress h first now before (contents w) e left → Consumes now later piece → StopsAt contents e g w x piece s
      → Written first before (contents x) (λ input written. Plays h input written (Some s))
  stops h piece first now later before w x e g left s p reads (why, is, (fed, feeds, wrote, same)) =
      let k = kept_stop h p.got p.wrote [] [] piece e fed why p.goes feeds p.kept in
      known first later (p.got ++ piece) (λ input. (written : List ℕ) × Appends before (contents x) written × Plays h input written (Some s))
      (Consumes-trans first now later p.got piece p.read reads)
      (λ unread. (
        p.wrote ++ fed.pending_bytes,
        Appends-trans before (contents w) (contents x) _ _ p.written wrote,
        subst (λ t. Plays h ((p.got ++ piece) ++ unread) (p.wrote ++ fed.pending_bytes) (Some t)) (sym is) (stopped_in h p.got piece p.wrote unread fed why k),
      ))

-- what was played when nothing is pending
played : (h : PlainHost) (first now before after : Option (List ℕ)) (e : PlainHostEndpoint) (left : ℕ) (p : Progress h first now before after e left)
    → Plays h p.got p.wrote (stop_at None e.framer.bytes)
played h first now before after e left p =
    subst (λ (x : List ℕ). Plays h p.got x (stop_at None e.framer.bytes)) (ap (λ (x : List ℕ). p.wrote ++ x) p.sent ∙ append-nil p.wrote) (plays_end h p.got p.wrote e p.kept.served p.done)

-- a read of so many bytes, which are none only at the end of the input
abbrev pub Reads : Option (List ℕ) → Option (List ℕ) → ℕ → List ℕ → Type 0
Reads now later count buffer = Consumes now later (take count buffer) × (count ≡ 0 → IsAtEnd later)

-- the input is read to its end
ends_with : (h : PlainHost) (first now later before after : Option (List ℕ)) (e : PlainHostEndpoint) (left count : ℕ) (buffer : List ℕ) (s : Option Stop)
    → Progress h first now before after e left → Reads now later count buffer → count ≡ 0 → s ≡ stop_at None e.framer.bytes
    → Written first before after (λ input written. (length input ≤ most_input) × Plays h input written s)
ends_with h first now later before after e left count buffer s p reads zero stopped =
    let plays = played h first now before after e left p in
    let at_end = reads.1 zero in
    let none : Consumes now later [] = subst (λ n. Consumes now later (take n buffer)) zero reads.0 in
    let all : Consumes first later p.got = subst (λ (x : List ℕ). Consumes first later x) (append-nil p.got) (Consumes-trans first now later p.got [] p.read none) in
    let size = p.count in
    let written = p.written in
    grind (arith, Consumes-whole)

stop_empty : (rest : List ℕ) → rest ≡ [] → None ≡ stop_at None rest
stop_empty rest e = grind arith

stop_half : (rest : List ℕ) → (rest ≡ [] → ⊥) → Some (Frame 4) ≡ stop_at None rest
stop_half rest e = grind arith

only_plays : (input before after : Option (List ℕ)) (h : PlainHost) (s : Option Stop)
    → Written input before after (λ i w. (length i ≤ most_input) × Plays h i w s) → Written input before after (λ i w. Plays h i w s)
only_plays input before after h s e = grind arith

-- what the program answers there
pub ends_ok : (h : PlainHost) (first now later before after : Option (List ℕ)) (e : PlainHostEndpoint) (left count : ℕ) (buffer : List ℕ) (r : Result (Unit {0}) PlayFault)
    → Progress h first now before after e left → Reads now later count buffer → count ≡ 0 → MayEnd e.framer r
    → OnOk r (Written first before after (λ input written. (length input ≤ most_input) × Plays h input written None))
ends_ok h first now later before after e left count buffer (Ok done) p reads zero may =
    ends_with h first now later before after e left count buffer None p reads zero (stop_empty e.framer.bytes may)
ends_ok h first now later before after e left count buffer (Err why) p reads zero may = tt

pub ends_side : (h : PlainHost) (first now later before after : Option (List ℕ)) (e : PlainHostEndpoint) (left count : ℕ) (buffer : List ℕ) (r : Result (Unit {0}) PlayFault)
    → Progress h first now before after e left → Reads now later count buffer → count ≡ 0 → MayEnd e.framer r
    → IfErr r (λ f. OnSide f (λ s. Written first before after (λ input written. Plays h input written (Some s))))
ends_side h first now later before after e left count buffer (Ok done) p reads zero may = tt
ends_side h first now later before after e left count buffer (Err why) p reads zero may =
    subst (λ f. OnSide f (λ s. Written first before after (λ input written. Plays h input written (Some s)))) (sym may.0)
    (only_plays first before after h (Some (Frame 4)) (ends_with h first now later before after e left count buffer (Some (Frame 4)) p reads zero (stop_half e.framer.bytes may.1)))

-- ---- the faults of a side

pub on_side : (e : PlayFault) (P Q : Stop → Type 0) → ((s : Stop) → P s → Q s) → OnSide e P → OnSide e Q
on_side e P Q u w = grind arith
