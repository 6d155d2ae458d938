-- What every run of a host end comes to.
use Rattle.sam_endpoint.proofs.Common.{◌≡◌, refl, sym, ap, subst, ◌∙◌, inl, inr, ℕ, ◌+◌, ◌≤◌, ◌⊎◌, List, [], ◌∷◌, ◌++◌, flat_map, flat_map-append, Option, Some, None, Result, Ok, Err, length, length-append, append_assoc, append-nil, arith, All-append, All-nil, All-same, FitsH, option_map, map, chars, with_given, Tmesg, HFrame, host, terminal, Splits, stream_of, version_after, Held, stream_of-append, version_after-append, Splits-then, PlainHost, answer, HostStop, StreamFault, Gives, mesg_fault, PlainHostEndpoint, Answers, Feeds, FeedsAfter, GoesOn, IsIdle, Serves, TakesIn, Answer}
use Rattle.sam_mesg.specs.declared.fault.MesgFault.{MesgFault}
use Rattle.sam_frame.specs.Reading.{IsStream}
use Rattle.sam_frame.proofs.Cuttings.{Splits-longer}
use Rattle.sam_host.specs.Asides.{Aside, Joins, Marks}
use Rattle.sam_host.specs.Marking.{mark_frames, marked}
use Rattle.sam_host.specs.declared.fault.MarkFault.{MarkFault}
use Rattle.sam_host.proofs.SoundLaws.{answers_are_counted}
use Rattle.sam_endpoint.specs.declared.fault.AddFault.{AddFault}
use Rattle.sam_endpoint.specs.declared.fault.EndpointFault.{EndpointFault}
use Rattle.sam_endpoint.specs.declared.fault.EndpointFault.TheVariants as fault
use Rattle.sam_endpoint.specs.declared.step.BringFault.{BringFault}
use Rattle.sam_endpoint.specs.declared.step.BringFault.TheVariants as bring
use Rattle.sam_endpoint.specs.declared.step.HostStep.{HostStep}
use Rattle.sam_endpoint.specs.declared.step.HostStep.TheVariants as step
use Rattle.sam_endpoint.specs.Streams.{GoesOnAfter, if_taken}
use Rattle.sam_endpoint.specs.HostStepping.{BringsIn, Steps}
use Rattle.sam_endpoint.specs.declared.fault.HostStop.TheVariants as stop
use Rattle.sam_runes.specs.Checks.{first_of_checks}
use Rattle.sam_endpoint.specs.HostEndpoints.{FeedsIdle, IsDone, Adds, MayJoin, Step, Answered, Joined, Marked, add_checks, with_mark, Marks as MarksFile}
use Rattle.std.specs.Prelude.{drop, option_to_list, slice_get}
use Rattle.sam_endpoint.specs.HostRuns.{Call, Feed, Bring, MakeStep, AddFile, MarkDirty, TakeOut, NextWritten, HasServed, HasStopped, Runs, Stops, StopsServe, begun_with, came_in, went_out, handed_out, asides_by, messages_in, asides_after}
use Rattle.sam_endpoint.proofs.HostEndpointGoing.{serves_more}
use Rattle.sam_endpoint.proofs.HostEndpointStepping.{Went, steps_not, steps_on, went_nowhere}

abbrev pub Asides : Type 0
Asides = List (ℕ × Aside)

-- what the run keeps: what it comes to, and the version and the place at this point of the stream
pub record Kept (h : PlainHost) (stream out handed : List ℕ) (asides : Asides) (e : PlainHostEndpoint) : Type 0 where
  pub served : HasServed h stream out handed asides e
  pub version : e.framer.version ≡ version_after terminal 1 (messages_in served.steps ++ e.waiting)
  pub place : e.framer.offset + length e.framer.bytes ≡ length stream

-- ## What was done

-- messages that were answered after these steps
messages_more : (steps : List Step) (ms : List Tmesg) → messages_in (steps ++ map Answered ms) ≡ messages_in steps ++ ms
messages_more [] [] = refl
messages_more [] (m ∷ ms) = ap (λ (l : List Tmesg). m ∷ l) (messages_more [] ms)
messages_more (Answered m ∷ steps) ms = ap (λ (l : List Tmesg). m ∷ l) (messages_more steps ms)
messages_more (Joined file ∷ steps) ms = messages_more steps ms
messages_more (Marked f ∷ steps) ms = messages_more steps ms

asides_more : (count : ℕ) (steps : List Step) (ms : List Tmesg) → asides_after count (steps ++ map Answered ms) ≡ asides_after count steps
asides_more count [] [] = refl
asides_more count [] (m ∷ ms) = asides_more (count + 1) [] ms
asides_more count (Answered m ∷ steps) ms = asides_more (count + 1) steps ms
asides_more count (Joined file ∷ steps) ms = ap (λ (l : Asides). (count, Joins file) ∷ l) (asides_more count steps ms)
asides_more count (Marked f ∷ steps) ms = ap (λ (l : Asides). (count, Marks f) ∷ l) (asides_more count steps ms)

-- a file that joined or was marked after these steps
abbrev step_of : Aside → Step
step_of (Joins file) = Joined file
step_of (Marks f) = Marked f

message_none : (steps : List Step) (aside : Aside) → messages_in (steps ++ step_of aside ∷ []) ≡ messages_in steps
message_none [] (Joins file) = refl
message_none [] (Marks f) = refl
message_none (Answered m ∷ steps) aside = ap (λ (l : List Tmesg). m ∷ l) (message_none steps aside)
message_none (Joined first ∷ steps) aside = message_none steps aside
message_none (Marked first ∷ steps) aside = message_none steps aside

aside_last : (count last : ℕ) (steps : List Step) (aside : Aside) → last ≡ count + length (messages_in steps)
    → asides_after count (steps ++ step_of aside ∷ []) ≡ asides_after count steps ++ (last, aside) ∷ []
aside_last count last [] (Joins file) is = grind arith
aside_last count last [] (Marks f) is = grind arith
aside_last count last (Answered m ∷ steps) aside is = aside_last (count + 1) last steps aside (omega (arith, is))
aside_last count last (Joined first ∷ steps) aside is = ap (λ (l : Asides). (count, Joins first) ∷ l) (aside_last count last steps aside is)
aside_last count last (Marked first ∷ steps) aside is = ap (λ (l : Asides). (count, Marks first) ∷ l) (aside_last count last steps aside is)

-- each answer is counted
counted : (steps : List Step) (h k : PlainHost) (frames : List HFrame) (writes : List ℕ) → Serves h steps frames writes k → k.taken ≡ h.taken + length (messages_in steps)
counted [] h k frames writes s = grind arith
counted (Answered m ∷ steps) h k frames writes (j, first, rest, more, answered, is, noted, serves) =
    let one = (answers_are_counted h j m first answered).0 in
    let others = counted steps j k rest more serves in
    omega (arith, one, others)
counted (Joined file ∷ steps) h k frames writes (may, s) = counted steps (with_given h file) k frames writes s
counted (Marked f ∷ steps) h k frames writes (rest, may, is, s) = counted steps (marked h f) k rest writes s

-- no file joined or was marked before counting began
not_before : (count n : ℕ) (aside : Aside) (rest : Asides) (steps : List Step) → asides_after count steps ≡ (n, aside) ∷ rest → count ≤ n
not_before count n aside rest [] is = absurd (cc)
not_before count n aside rest (Answered m ∷ steps) is = let later = not_before (count + 1) n aside rest steps is in omega (arith, later)
not_before count n aside rest (Joined first ∷ steps) is = grind arith
not_before count n aside rest (Marked first ∷ steps) is = grind arith

-- where no file joined or was marked, all steps are answers
pub all_answered : (count : ℕ) (steps : List Step) → asides_after count steps ≡ [] → steps ≡ map Answered (messages_in steps)
all_answered count [] none = refl
all_answered count (Answered m ∷ steps) none = ap (λ (l : List Step). Answered m ∷ l) (all_answered (count + 1) steps none)
all_answered count (Joined file ∷ steps) none = absurd (cc)
all_answered count (Marked f ∷ steps) none = absurd (cc)

-- ## Steps

-- the bytes of these frames, once more of them were answered or told
bytes_on : (out : List ℕ) (e g : PlainHostEndpoint) (frames more : List HFrame) → (out ++ e.pending_bytes) ++ stream_of host e.unwritten ≡ stream_of host frames
    → g.pending_bytes ++ stream_of host g.unwritten ≡ e.pending_bytes ++ stream_of host (e.unwritten ++ more)
    → (out ++ g.pending_bytes) ++ stream_of host g.unwritten ≡ stream_of host (frames ++ more)
bytes_on out e g frames more p q = grind (arith, append_assoc, stream_of-append)

kept_answers : (h : PlainHost) (stream out handed : List ℕ) (asides : Asides) (e g : PlainHostEndpoint) (ms : List Tmesg) → Answers e ms g → Kept h stream out handed asides e → Kept h stream out handed asides g
kept_answers h stream out handed asides e g ms a kept =
    let s = kept.served in
    let whole : messages_in (s.steps ++ map Answered ms) ++ g.waiting ≡ messages_in s.steps ++ e.waiting = grind (arith, append_assoc, messages_more) in record {
      served = record {
        steps = s.steps ++ map Answered ms;
        frames = s.frames ++ a.frames;
        writes = s.writes ++ a.more;
        serves = serves_more h s.steps s.frames s.writes e.host (map Answered ms) a.frames a.more g.host s.serves a.serves;
        frames_fit = All-append (FitsH 2) s.frames a.frames s.frames_fit a.frames_fit;
        asides_are = asides_more h.taken s.steps ms ∙ s.asides_are;
        reads = grind (arith, whole);
        bytes = bytes_on out e g s.frames a.frames s.bytes a.bytes;
        written = grind (arith, append_assoc);
      };
      version = grind (arith, whole);
      place = grind arith;
    }

-- a piece after a stream
reads_more : (h k : Held) (stream piece : List ℕ) (before ms : List Tmesg) (broken_by : Option StreamFault) → Splits terminal 1 stream before h.bytes
    → h.version ≡ version_after terminal 1 before → Gives terminal h piece ms broken_by k
    → IsStream terminal 1 (stream ++ piece) (before ++ ms) k.bytes (option_map mesg_fault broken_by) × (k.version ≡ version_after terminal 1 (before ++ ms))
reads_more h k stream piece before ms broken_by splits version gives =
    grind (
      arith,
      (Splits-longer terminal 1 stream before h.bytes piece splits),
      (version_after-append terminal 1 before ms),
      (Splits-then terminal 1 (stream ++ piece) before (h.bytes ++ piece) ms k.bytes),
    )

-- and how long it is
place_after : (h k : Held) (stream piece : List ℕ) (ms : List Tmesg) → h.offset + length h.bytes ≡ length stream → k.offset ≡ h.offset + length (stream_of terminal ms)
    → h.bytes ++ piece ≡ stream_of terminal ms ++ k.bytes → k.offset + length k.bytes ≡ length (stream ++ piece)
place_after h k stream piece ms place offset whole =
    omega (arith, place, offset, ap length whole, length-append h.bytes piece, length-append (stream_of terminal ms) k.bytes, length-append stream piece)

place_more : (h k : Held) (stream piece : List ℕ) (ms : List Tmesg) (broken_by : Option StreamFault) → h.offset + length h.bytes ≡ length stream
    → Gives terminal h piece ms broken_by k → k.offset + length k.bytes ≡ length (stream ++ piece)
place_more h k stream piece ms None place gives = place_after h k stream piece ms place gives.gave.offset_is gives.gave.splits.whole
place_more h k stream piece ms (Some why) place gives = place_after h k stream piece ms place gives.1.gave.offset_is gives.1.gave.splits.whole

kept_piece : (h : PlainHost) (stream out handed : List ℕ) (asides : Asides) (piece : List ℕ) (e k : PlainHostEndpoint) → e.waiting ≡ [] → TakesIn e piece k → Kept h stream out handed asides e → Kept h (stream ++ piece) out handed asides k
kept_piece h stream out handed asides piece e k none (messages, broken_by, rest, gives, is) kept =
    let s = kept.served in
    let done : List Tmesg = messages_in s.steps in
    let all : done ++ e.waiting ≡ done = ap (λ (x : List Tmesg). done ++ x) none ∙ append-nil done in
    let splits : Splits terminal 1 stream done e.framer.bytes =
    subst (λ (x : List Tmesg). Splits terminal 1 stream x e.framer.bytes) all s.reads.splits in
    let version : e.framer.version ≡ version_after terminal 1 done = kept.version ∙ ap (λ (x : List Tmesg). version_after terminal 1 x) all in
    let more = reads_more e.framer rest stream piece done messages broken_by splits version gives in
    subst (λ (x : PlainHostEndpoint). Kept h (stream ++ piece) out handed asides x) (sym is) (record {
      served = record { steps = s.steps; frames = s.frames; writes = s.writes; serves = s.serves; frames_fit = s.frames_fit; asides_are = s.asides_are; reads = more.0; bytes = s.bytes; written = s.written };
      version = more.1;
      place = place_more e.framer rest stream piece messages broken_by kept.place gives;
    })

kept_goes_on : (h : PlainHost) (stream out handed : List ℕ) (asides : Asides) (e g : PlainHostEndpoint) (result : Answer) → GoesOnAfter result → GoesOn e result g → Kept h stream out handed asides e → Kept h stream out handed asides g
kept_goes_on h stream out handed asides e g (Ok done) goes on kept = kept_answers h stream out handed asides e g e.waiting on.0 kept
kept_goes_on h stream out handed asides e g (Err fault.Unfinished) goes (ms, a, going, left) kept = kept_answers h stream out handed asides e g ms a kept
kept_goes_on h stream out handed asides e g result u w q = grind arith

kept_same : (h : PlainHost) (stream out handed : List ℕ) (asides : Asides) (e g : PlainHostEndpoint) → g ≡ e → Kept h stream out handed asides e → Kept h (stream ++ []) out handed asides g
kept_same h stream out handed asides e g is kept = grind (arith, append-nil)

kept_idle : (h : PlainHost) (stream out handed : List ℕ) (asides : Asides) (piece : List ℕ) (e g : PlainHostEndpoint) (result : Answer) → GoesOnAfter result → e.waiting ≡ [] → FeedsIdle e piece result g
    → Kept h stream out handed asides e → Kept h (stream ++ came_in (Feed piece result)) out handed asides g
kept_idle h stream out handed asides piece e g (Ok done) goes none (inl (k, takes, on)) kept =
    kept_goes_on h (stream ++ piece) out handed asides k g (Ok done) goes on (kept_piece h stream out handed asides piece e k none takes kept)
kept_idle h stream out handed asides piece e g (Err fault.Unfinished) goes none (inl (k, takes, on)) kept =
    kept_goes_on h (stream ++ piece) out handed asides k g (Err fault.Unfinished) goes on (kept_piece h stream out handed asides piece e k none takes kept)
kept_idle h stream out handed asides piece e g (Err fault.OutOfMemory) goes none fed kept = kept_same h stream out handed asides e g (grind arith) kept
kept_idle h stream out handed asides piece e g (Err fault.CountFull) goes none fed kept = kept_same h stream out handed asides e g (grind arith) kept
kept_idle h stream out handed asides piece e g (Err (fault.Stopped why)) goes none fed kept = absurd goes
kept_idle h stream out handed asides piece e g (Ok done) goes none (inr fed) kept = absurd (grind arith)
kept_idle h stream out handed asides piece e g (Err fault.Unfinished) goes none (inr fed) kept = absurd (grind arith)

stopped_not : (result : Answer) (why : HostStop) → result ≡ Err (fault.Stopped why) → GoesOnAfter result → ⊥
stopped_not result why is goes = subst (λ (x : Answer). GoesOnAfter x) is goes

kept_after : (h : PlainHost) (stream out handed : List ℕ) (asides : Asides) (piece : List ℕ) (e k g : PlainHostEndpoint) (first result : Answer) → GoesOnAfter result → GoesOn e first k
    → FeedsAfter first k piece result g → Kept h stream out handed asides e → Kept h (stream ++ came_in (Feed piece result)) out handed asides g
kept_after h stream out handed asides piece e k g (Ok done) result goes on after kept =
    kept_idle h stream out handed asides piece k g result goes on.1.waiting after (kept_goes_on h stream out handed asides e k (Ok done) tt on kept)
kept_after h stream out handed asides piece e k g (Err fault.Unfinished) result goes on (is, same) kept =
    grind (arith, (kept_same h stream out handed asides k g same (kept_goes_on h stream out handed asides e k (Err fault.Unfinished) tt on kept)))
kept_after h stream out handed asides piece e k g first result u w q y = grind (arith, stopped_not)

pub kept_feed : (h : PlainHost) (stream out handed : List ℕ) (asides : Asides) (piece : List ℕ) (e g : PlainHostEndpoint) (result : Answer) → GoesOnAfter result → Feeds e piece result g → Kept h stream out handed asides e
    → Kept h (stream ++ came_in (Feed piece result)) out handed asides g
kept_feed h stream out handed asides piece e g result goes (inl (why, stops, is, same)) kept = absurd (stopped_not result why is goes)
kept_feed h stream out handed asides piece e g result goes (inr (going, k, first, on, after)) kept = kept_after h stream out handed asides piece e k g first result goes on after kept

-- a piece was brought, or was not
kept_brought : (h : PlainHost) (stream out handed : List ℕ) (asides : Asides) (piece : List ℕ) (e k : PlainHostEndpoint) (result : Result (Unit {0}) (BringFault HostStop)) → BringsIn e piece result k
    → Kept h stream out handed asides e → Kept h (stream ++ came_in (Bring piece result)) out handed asides k
kept_brought h stream out handed asides piece e k (Ok done) (ready, takes) kept = kept_piece h stream out handed asides piece e k ready.1.0.waiting takes kept
kept_brought h stream out handed asides piece e k (Err (bring.Stopped why)) (stops, same) kept = kept_same h stream out handed asides e k same kept
kept_brought h stream out handed asides piece e k (Err bring.Waiting) (goes, waits, same) kept = kept_same h stream out handed asides e k same kept
kept_brought h stream out handed asides piece e k (Err bring.CountFull) (ready, full, same) kept = kept_same h stream out handed asides e k same kept
kept_brought h stream out handed asides piece e k (Err bring.OutOfMemory) (ready, room, same) kept = kept_same h stream out handed asides e k same kept

-- an end that makes a step goes on
step_goes : (e k : PlainHostEndpoint) (done : HostStep) → Steps e (Ok done) k → e.stop ≡ None
step_goes e k step.Idle steps = steps.0.0
step_goes e k step.Wrote steps = steps.0
step_goes e k (step.Edited tag count) steps = steps.0.0
step_goes e k (step.Answered kind tag) steps = steps.0.0

went : (e k : PlainHostEndpoint) (done : HostStep) → Steps e (Ok done) k → Went e k
went e k done steps = steps_on e e k done (went_nowhere e (step_goes e k done steps)) steps

kept_stepped : (h : PlainHost) (stream out handed : List ℕ) (asides : Asides) (e k : PlainHostEndpoint) (result : Result HostStep (EndpointFault HostStop)) → GoesOnAfter result → Steps e result k
    → Kept h stream out handed asides e → Kept h stream out handed asides k
kept_stepped h stream out handed asides e k (Ok done) goes steps kept =
    let w = went e k done steps in kept_answers h stream out handed asides e k w.messages w.answers kept
kept_stepped h stream out handed asides e k (Err fault.Unfinished) goes (going, waits, same) kept = subst (λ (x : PlainHostEndpoint). Kept h stream out handed asides x) (sym same) kept
kept_stepped h stream out handed asides e k (Err fault.OutOfMemory) goes steps kept = absurd steps
kept_stepped h stream out handed asides e k (Err fault.CountFull) goes steps kept = absurd steps
kept_stepped h stream out handed asides e k (Err (fault.Stopped why)) goes steps kept = absurd goes

pub kept_out : (h : PlainHost) (stream out handed : List ℕ) (asides : Asides) (bytes rest : List ℕ) (e : PlainHostEndpoint) → e.pending_bytes ≡ bytes ++ rest → Kept h stream out handed asides e
    → Kept h (stream ++ []) (out ++ bytes) handed asides (record e { pending_bytes = rest })
kept_out h stream out handed asides bytes rest e is kept =
    let s = kept.served in
    subst (λ (x : List ℕ). Kept h x (out ++ bytes) handed asides (record e { pending_bytes = rest })) (sym (append-nil stream)) (record {
      served = record {
        steps = s.steps;
        frames = s.frames;
        writes = s.writes;
        serves = s.serves;
        frames_fit = s.frames_fit;
        asides_are = s.asides_are;
        reads = s.reads;
        bytes = ap (λ (x : List ℕ). x ++ stream_of host e.unwritten) (append_assoc out bytes rest ∙ ap (λ (x : List ℕ). out ++ x) (sym is)) ∙ s.bytes;
        written = s.written;
      };
      version = kept.version;
      place = kept.place;
    })

-- the oldest tag is handed out, if there is one
first_out : (handed waiting told : List ℕ) → handed ++ waiting ≡ told → (handed ++ option_to_list (slice_get waiting 0)) ++ drop 1 waiting ≡ told
first_out handed [] told is = grind (arith, append-nil)
first_out handed (tag ∷ waiting) told is = append_assoc handed (tag ∷ []) waiting ∙ is

kept_handed : (h : PlainHost) (stream out handed : List ℕ) (asides : Asides) (tag : Option ℕ) (e : PlainHostEndpoint) → tag ≡ slice_get e.writes 0 → Kept h stream out handed asides e
    → Kept h stream out (handed ++ option_to_list tag) asides (record e { writes = drop 1 e.writes })
kept_handed h stream out handed asides tag e is kept =
    let s = kept.served in
    subst (λ (x : Option ℕ). Kept h stream out (handed ++ option_to_list x) asides (record e { writes = drop 1 e.writes })) (sym is) (record {
      served = record {
        steps = s.steps;
        frames = s.frames;
        writes = s.writes;
        serves = s.serves;
        frames_fit = s.frames_fit;
        asides_are = s.asides_are;
        reads = s.reads;
        bytes = s.bytes;
        written = first_out handed e.writes s.writes s.written;
      };
      version = kept.version;
      place = kept.place;
    })

-- nothing stood against a file that joined
may_join : (e : PlainHostEndpoint) (name text : List ℕ) → first_of_checks (add_checks e name text) ≡ None → MayJoin e.host (chars name, chars text)
may_join e name text allowed = grind (arith, allowed)

-- a file joined, or was refused
pub kept_added : (h : PlainHost) (stream out handed : List ℕ) (asides : Asides) (count : ℕ) (name text : List ℕ) (result : Result ℕ AddFault) (e g : PlainHostEndpoint) → count ≡ e.host.taken
    → Adds e name text result g → Kept h stream out handed asides e → Kept h stream out handed (asides ++ asides_by (AddFile count name text result)) g
kept_added h stream out handed asides count name text (Ok tag) e g then (is, allowed, after) kept =
    let s = kept.served in
    let file : List ℕ × List ℕ = (chars name, chars text) in
    let same : messages_in (s.steps ++ Joined file ∷ []) ≡ messages_in s.steps = message_none s.steps (Joins file) in
    let place : count ≡ h.taken + length (messages_in s.steps) = then ∙ counted s.steps h e.host s.frames s.writes s.serves in
    subst (λ (x : PlainHostEndpoint). Kept h stream out handed (asides ++ (count, Joins file) ∷ []) x) (sym after) (record {
      served = record {
        steps = s.steps ++ Joined file ∷ [];
        frames = s.frames ++ [];
        writes = s.writes ++ [];
        serves = serves_more h s.steps s.frames s.writes e.host (Joined file ∷ []) [] [] (with_given e.host file) s.serves (may_join e name text allowed, (refl, refl, refl));
        frames_fit = All-same (FitsH 2) (s.frames ++ []) s.frames (append-nil s.frames) s.frames_fit;
        asides_are = aside_last h.taken count s.steps (Joins file) place ∙ ap (λ (l : Asides). l ++ (count, Joins file) ∷ []) s.asides_are;
        reads = grind (arith, same);
        bytes = s.bytes ∙ ap (stream_of host) (sym (append-nil s.frames));
        written = s.written ∙ sym (append-nil s.writes);
      };
      version = grind (arith, same);
      place = kept.place;
    })
kept_added h stream out handed asides count name text (Err why) e g then (is, after) kept = grind (arith, append-nil)

-- a file was marked, or was not
pub kept_marked : (h : PlainHost) (stream out handed : List ℕ) (asides : Asides) (count f : ℕ) (result : Result (Unit {0}) MarkFault) (e g : PlainHostEndpoint) → count ≡ e.host.taken
    → MarksFile e f result g → Kept h stream out handed asides e → Kept h stream out handed (asides ++ asides_by (MarkDirty count f result)) g
kept_marked h stream out handed asides count f (Ok done) e g then (may, fit, after) kept =
    let s = kept.served in
    let told : List HFrame = mark_frames e.host f in
    let same : messages_in (s.steps ++ Marked f ∷ []) ≡ messages_in s.steps = message_none s.steps (Marks f) in
    let place : count ≡ h.taken + length (messages_in s.steps) = then ∙ counted s.steps h e.host s.frames s.writes s.serves in
    subst (λ (x : PlainHostEndpoint). Kept h stream out handed (asides ++ (count, Marks f) ∷ []) x) (sym after) (record {
      served = record {
        steps = s.steps ++ Marked f ∷ [];
        frames = s.frames ++ told;
        writes = s.writes ++ [];
        serves = serves_more h s.steps s.frames s.writes e.host (Marked f ∷ []) told [] (marked e.host f) s.serves ([], may, sym (append-nil told), (refl, refl, refl));
        frames_fit = All-append (FitsH 2) s.frames told s.frames_fit fit;
        asides_are = aside_last h.taken count s.steps (Marks f) place ∙ ap (λ (l : Asides). l ++ (count, Marks f) ∷ []) s.asides_are;
        reads = grind (arith, same);
        bytes = bytes_on out e (with_mark e f) s.frames told s.bytes (append-nil (with_mark e f).pending_bytes);
        written = s.written ∙ sym (append-nil s.writes);
      };
      version = grind (arith, same);
      place = kept.place;
    })
kept_marked h stream out handed asides count f (Err why) e g then (is, after) kept = grind (arith, append-nil)

-- ## Stops

-- nothing was fed to an end of this host
pub kept_begun : (h : PlainHost) → Kept h [] [] [] [] (begun_with h)
kept_begun h = record {
  served = record { steps = []; frames = []; writes = []; serves = (refl, refl, refl); frames_fit = All-nil (FitsH 2); asides_are = refl; reads = record { splits = record { whole = refl; fit = tt }; ends = tt }; bytes = refl; written = refl };
  version = refl;
  place = refl;
}

-- a piece that was fed whole leaves nothing to do
pub fed_done : (e g : PlainHostEndpoint) (piece : List ℕ) → Feeds e piece (Ok tt) g → IsDone g × (g.stop ≡ None)
fed_done e g piece (inl (why, stops, is, same)) = absurd (cc)
fed_done e g piece (inr (going, k, Ok done, on, inl (m, takes, last))) = ((last.1, last.0.broken_by ∙ last.2), last.3)
fed_done e g piece (inr (going, k, Ok done, on, inr fed)) = absurd (grind arith)
fed_done e g piece (inr (going, k, Err why, on, after)) = absurd (grind arith)

feed_goes : (e g : PlainHostEndpoint) (piece : List ℕ) (result : Answer) → GoesOnAfter result → Feeds e piece result g → g.stop ≡ None
feed_goes e g piece result goes feeds = grind arith

bring_goes : (e k : PlainHostEndpoint) (piece : List ℕ) (result : Result (Unit {0}) (BringFault HostStop)) → e.stop ≡ None → BringsIn e piece result k → k.stop ≡ None
bring_goes e k piece (Ok done) goes (ready, (messages, broken_by, rest, gives, is)) = ap (λ (x : PlainHostEndpoint). x.stop) is ∙ goes
bring_goes e k piece (Err (bring.Stopped why)) goes (stops, same) = ap (λ (x : PlainHostEndpoint). x.stop) same ∙ goes
bring_goes e k piece (Err bring.Waiting) goes (going, waits, same) = ap (λ (x : PlainHostEndpoint). x.stop) same ∙ goes
bring_goes e k piece (Err bring.CountFull) goes (ready, full, same) = ap (λ (x : PlainHostEndpoint). x.stop) same ∙ goes
bring_goes e k piece (Err bring.OutOfMemory) goes (ready, room, same) = ap (λ (x : PlainHostEndpoint). x.stop) same ∙ goes

stepped_goes : (e k : PlainHostEndpoint) (result : Result HostStep (EndpointFault HostStop)) → GoesOnAfter result → Steps e result k → k.stop ≡ None
stepped_goes e k (Ok done) goes steps = (went e k done steps).goes
stepped_goes e k (Err fault.Unfinished) goes (going, waits, same) = ap (λ (x : PlainHostEndpoint). x.stop) same ∙ going
stepped_goes e k (Err fault.OutOfMemory) goes steps = absurd steps
stepped_goes e k (Err fault.CountFull) goes steps = absurd steps
stepped_goes e k (Err (fault.Stopped why)) goes steps = absurd goes

pub run_goes : (e g : PlainHostEndpoint) (calls : List Call) → e.stop ≡ None → Runs e calls g → g.stop ≡ None
run_goes e g [] goes is = grind arith
run_goes e g (Feed piece answer ∷ calls) goes (k, feeds, goes_on, runs) = run_goes k g calls (feed_goes e k piece answer goes_on feeds) runs
run_goes e g (Bring piece result ∷ calls) goes (k, brings, runs) = run_goes k g calls (bring_goes e k piece result goes brings) runs
run_goes e g (MakeStep result ∷ calls) goes (k, steps, goes_on, runs) = run_goes k g calls (stepped_goes e k result goes_on steps) runs
run_goes e g (AddFile count name text (Ok tag) ∷ calls) goes (k, then, adds, runs) = run_goes k g calls (ap (λ (x : PlainHostEndpoint). x.stop) adds.2 ∙ goes) runs
run_goes e g (AddFile count name text (Err why) ∷ calls) goes (k, then, adds, runs) = run_goes k g calls (ap (λ (x : PlainHostEndpoint). x.stop) adds.1 ∙ goes) runs
run_goes e g (MarkDirty count f (Ok done) ∷ calls) goes (k, then, marks, runs) = run_goes k g calls (ap (λ (x : PlainHostEndpoint). x.stop) marks.2 ∙ goes) runs
run_goes e g (MarkDirty count f (Err why) ∷ calls) goes (k, then, marks, runs) = run_goes k g calls (ap (λ (x : PlainHostEndpoint). x.stop) marks.1 ∙ goes) runs
run_goes e g (TakeOut bytes ∷ calls) goes (rest, is, runs) = run_goes (record e { pending_bytes = rest }) g calls goes runs
run_goes e g (NextWritten tag ∷ calls) goes (is, runs) = run_goes (record e { writes = drop 1 e.writes }) g calls goes runs

-- going on stopped the end
pub record KeptStop (h : PlainHost) (stream piece out handed : List ℕ) (asides : Asides) (why : HostStop) (g : PlainHostEndpoint) : Type 0 where
  pub taken : List ℕ
  pub whole : (taken ≡ piece) ⊎ (taken ≡ [])
  pub kept : Kept h (stream ++ taken) out handed asides g
  pub stops : HasStopped g why
  pub says : g.stop ≡ Some why

went_on : (h : PlainHost) (stream out handed : List ℕ) (asides : Asides) (e g : PlainHostEndpoint) (why : HostStop) → GoesOn e (Err (fault.Stopped why)) g → Kept h stream out handed asides e
    → Kept h stream out handed asides g × HasStopped g why × (g.stop ≡ Some why)
went_on h stream out handed asides e g (stop.Stream why) (a, idle, broken_by, says) kept = (kept_answers h stream out handed asides e g e.waiting a kept, (idle, a.broken_by ∙ broken_by), says)
went_on h stream out handed asides e g (stop.Refused why) (ms, m, rest, a, waits, refuses, written, says) kept = (kept_answers h stream out handed asides e g ms a kept, (m, rest, waits, refuses, written), says)

stopped_after : (h : PlainHost) (stream out handed : List ℕ) (asides : Asides) (piece : List ℕ) (e k g : PlainHostEndpoint) (first : Answer) (why : HostStop) → GoesOn e first k
    → FeedsAfter first k piece (Err (fault.Stopped why)) g → Kept h stream out handed asides e → KeptStop h stream piece out handed asides why g
stopped_after h stream out handed asides piece e k g (Ok done) why on (inl (m, takes, last)) kept =
    let s = went_on h (stream ++ piece) out handed asides m g why last (kept_piece h stream out handed asides piece k m on.1.waiting takes (kept_goes_on h stream out handed asides e k (Ok done) tt on kept)) in
    record { taken = piece; whole = inl refl; kept = s.0; stops = s.1; says = s.2 }
stopped_after h stream out handed asides piece e k g (Ok done) why on (inr fed) kept = absurd (grind arith)
stopped_after h stream out handed asides piece e k g (Err fault.Unfinished) why on (is, same) kept = absurd (cc)
stopped_after h stream out handed asides piece e k g (Err (fault.Stopped first)) why on (is, same) kept =
    let one : first ≡ why = cc in
    let s = went_on h stream out handed asides e k first on kept in
    subst (λ (x : PlainHostEndpoint). KeptStop h stream piece out handed asides why x) (sym same) (subst (λ (w : HostStop). KeptStop h stream piece out handed asides w k) one (record {
      taken = [];
      whole = inr refl;
      kept = subst (λ (x : List ℕ). Kept h x out handed asides k) (sym (append-nil stream)) s.0;
      stops = s.1;
      says = s.2;
    }))
stopped_after h stream out handed asides piece e k g (Err fault.OutOfMemory) why on after kept = absurd on
stopped_after h stream out handed asides piece e k g (Err fault.CountFull) why on after kept = absurd on

-- a piece stopped an end that went on
pub kept_stop : (h : PlainHost) (stream out handed : List ℕ) (asides : Asides) (piece : List ℕ) (e g : PlainHostEndpoint) (why : HostStop) → e.stop ≡ None → Feeds e piece (Err (fault.Stopped why)) g
    → Kept h stream out handed asides e → KeptStop h stream piece out handed asides why g
kept_stop h stream out handed asides piece e g why goes (inl (who, stops, is, same)) kept = absurd (cc)
kept_stop h stream out handed asides piece e g why goes (inr (going, k, first, on, after)) kept = stopped_after h stream out handed asides piece e k g first why on after kept

-- ## Runs

pub kept_run : (h : PlainHost) (stream out handed : List ℕ) (asides : Asides) (calls : List Call) (e g : PlainHostEndpoint) → Runs e calls g → Kept h stream out handed asides e
    → Kept h (stream ++ flat_map came_in calls) (out ++ flat_map went_out calls) (handed ++ flat_map handed_out calls) (asides ++ flat_map asides_by calls) g
kept_run h stream out handed asides [] e g is kept = grind (arith, append-nil)
kept_run h stream out handed asides (Feed piece answer ∷ calls) e g (k, feeds, goes, runs) kept =
    subst (λ (x : List ℕ). Kept h x (out ++ flat_map went_out calls) (handed ++ flat_map handed_out calls) (asides ++ flat_map asides_by calls) g)
    (append_assoc stream (came_in (Feed piece answer)) (flat_map came_in calls))
    (kept_run h (stream ++ came_in (Feed piece answer)) out handed asides calls k g runs (kept_feed h stream out handed asides piece e k answer goes feeds kept))
kept_run h stream out handed asides (Bring piece result ∷ calls) e g (k, brings, runs) kept =
    subst (λ (x : List ℕ). Kept h x (out ++ flat_map went_out calls) (handed ++ flat_map handed_out calls) (asides ++ flat_map asides_by calls) g)
    (append_assoc stream (came_in (Bring piece result)) (flat_map came_in calls))
    (kept_run h (stream ++ came_in (Bring piece result)) out handed asides calls k g runs (kept_brought h stream out handed asides piece e k result brings kept))
kept_run h stream out handed asides (MakeStep result ∷ calls) e g (k, steps, goes, runs) kept =
    kept_run h stream out handed asides calls k g runs (kept_stepped h stream out handed asides e k result goes steps kept)
kept_run h stream out handed asides (AddFile count name text result ∷ calls) e g (k, then, adds, runs) kept =
    subst (λ (x : Asides). Kept h (stream ++ flat_map came_in calls) (out ++ flat_map went_out calls) (handed ++ flat_map handed_out calls) x g)
    (append_assoc asides (asides_by (AddFile count name text result)) (flat_map asides_by calls))
    (kept_run h stream out handed (asides ++ asides_by (AddFile count name text result)) calls k g runs (kept_added h stream out handed asides count name text result e k then adds kept))
kept_run h stream out handed asides (MarkDirty count f result ∷ calls) e g (k, then, marks, runs) kept =
    subst (λ (x : Asides). Kept h (stream ++ flat_map came_in calls) (out ++ flat_map went_out calls) (handed ++ flat_map handed_out calls) x g)
    (append_assoc asides (asides_by (MarkDirty count f result)) (flat_map asides_by calls))
    (kept_run h stream out handed (asides ++ asides_by (MarkDirty count f result)) calls k g runs (kept_marked h stream out handed asides count f result e k then marks kept))
kept_run h stream out handed asides (TakeOut bytes ∷ calls) e g (rest, is, runs) kept =
    subst (λ (x : List ℕ). Kept h x (out ++ (bytes ++ flat_map went_out calls)) (handed ++ flat_map handed_out calls) (asides ++ flat_map asides_by calls) g)
    (append_assoc stream [] (flat_map came_in calls))
    (subst (λ (x : List ℕ). Kept h ((stream ++ []) ++ flat_map came_in calls) x (handed ++ flat_map handed_out calls) (asides ++ flat_map asides_by calls) g)
    (append_assoc out bytes (flat_map went_out calls))
    (kept_run h (stream ++ []) (out ++ bytes) handed asides calls (record e { pending_bytes = rest }) g runs (kept_out h stream out handed asides bytes rest e is kept)))
kept_run h stream out handed asides (NextWritten tag ∷ calls) e g (is, runs) kept =
    subst (λ (x : List ℕ). Kept h (stream ++ flat_map came_in calls) (out ++ flat_map went_out calls) x (asides ++ flat_map asides_by calls) g)
    (append_assoc handed (option_to_list tag) (flat_map handed_out calls))
    (kept_run h stream out (handed ++ option_to_list tag) asides calls (record e { writes = drop 1 e.writes }) g runs (kept_handed h stream out handed asides tag e is kept))

pub runs_serve : (h : PlainHost) (calls : List Call) (g : PlainHostEndpoint) → Runs (begun_with h) calls g
    → HasServed h (flat_map came_in calls) (flat_map went_out calls) (flat_map handed_out calls) (flat_map asides_by calls) g
runs_serve h calls g runs = (kept_run h [] [] [] [] calls (begun_with h) g runs (kept_begun h)).served

-- what a run comes to that has stopped
record Ended (h : PlainHost) (stream out handed : List ℕ) (asides : Asides) (why : HostStop) (g : PlainHostEndpoint) : Type 0 where
  pub served : HasServed h stream out handed asides g
  pub stops : HasStopped g why
  pub says : g.stop ≡ Some why

-- what came with the calls, and then with the last
last_brings : {A : Type 0} (brings : Call → List A) (calls : List Call) (last : Call) → flat_map brings (calls ++ last ∷ []) ≡ flat_map brings calls ++ brings last
last_brings brings calls last = flat_map-append brings calls (last ∷ []) ∙ ap (λ (x : List _). flat_map brings calls ++ x) (append-nil (brings last))

ended_as : (h : PlainHost) (s r o p m n : List ℕ) (f j : Asides) (why : HostStop) (g : PlainHostEndpoint) → r ≡ s → p ≡ o → n ≡ m → j ≡ f → Ended h s o m f why g → Ended h r p n j why g
ended_as h s r o p m n f j why g a b c d ended = grind arith

-- it was stopped before it took what the last call brought, or after
last_stops : (h : PlainHost) (stream out handed : List ℕ) (asides : Asides) (last : Call) (e g : PlainHostEndpoint) (why : HostStop) → e.stop ≡ None → Stops e last why g → Kept h stream out handed asides e
    → Ended h stream out handed asides why g ⊎ Ended h (stream ++ came_in last) (out ++ went_out last) (handed ++ handed_out last) (asides ++ asides_by last) why g
last_stops h stream out handed asides (Feed piece answer) e g why goes (feeds, is) kept =
    let s = kept_stop h stream out handed asides piece e g why goes (subst (λ (x : Answer). Feeds e piece x g) is feeds) kept in
    elim s.whole [
      | inl all ↦ inr (ended_as h (stream ++ s.taken) (stream ++ if_taken answer piece) out (out ++ []) handed (handed ++ []) asides (asides ++ []) why g
          (ap (λ (x : Answer). stream ++ if_taken x piece) is ∙ ap (λ (x : List ℕ). stream ++ x) (sym all)) (append-nil out) (append-nil handed) (append-nil asides)
          (record { served = s.kept.served; stops = s.stops; says = s.says }))
      | inr none ↦ inl (ended_as h (stream ++ s.taken) stream out out handed handed asides asides why g
          (sym (ap (λ (x : List ℕ). stream ++ x) none ∙ append-nil stream)) refl refl refl (record { served = s.kept.served; stops = s.stops; says = s.says }))
    ]
last_stops h stream out handed asides (Bring piece result) e g why goes stops kept = absurd stops
last_stops h stream out handed asides (MakeStep result) e g why goes (steps, is) kept =
    let failed : Steps e (Err (fault.Stopped why)) g = subst (λ (x : Result HostStep (EndpointFault HostStop)). Steps e x g) is steps in
    let s = went_on h stream out handed asides e g why (steps_not e e g (fault.Stopped why) (went_nowhere e goes) failed) kept in
    inl (record { served = s.0.served; stops = s.1; says = s.2 })
last_stops h stream out handed asides (AddFile count name text result) e g why goes stops kept = absurd stops
last_stops h stream out handed asides (MarkDirty count f result) e g why goes stops kept = absurd stops
last_stops h stream out handed asides (TakeOut bytes) e g why goes stops kept = absurd stops
last_stops h stream out handed asides (NextWritten tag) e g why goes stops kept = absurd stops

pub stops_serve : StopsServe
stops_serve h calls last e g why runs stops =
    elim (last_stops h (flat_map came_in calls) (flat_map went_out calls) (flat_map handed_out calls) (flat_map asides_by calls) last e g why
    (run_goes (begun_with h) e calls refl runs) stops (kept_run h [] [] [] [] calls (begun_with h) e runs (kept_begun h))) [
      | inl ended ↦ (calls, inr refl, ended.served, ended.stops, ended.says)
      | inr ended ↦ let all = ended_as h (flat_map came_in calls ++ came_in last) (flat_map came_in (calls ++ last ∷ [])) (flat_map went_out calls ++ went_out last)
          (flat_map went_out (calls ++ last ∷ [])) (flat_map handed_out calls ++ handed_out last) (flat_map handed_out (calls ++ last ∷ []))
          (flat_map asides_by calls ++ asides_by last) (flat_map asides_by (calls ++ last ∷ [])) why g
          (last_brings came_in calls last) (last_brings went_out calls last) (last_brings handed_out calls last) (last_brings asides_by calls last) ended in
          (calls ++ last ∷ [], inl refl, all.served, all.stops, all.says)
    ]

-- ## One outcome

abbrev Reads : Type 0
Reads =
    (version : ℕ) (bytes : List ℕ) (ms ns : List Tmesg) (z y : List ℕ) (o p : Option MesgFault)
    → IsStream terminal version bytes ms z o → IsStream terminal version bytes ns y p → (ms ≡ ns) × (z ≡ y) × (o ≡ p)

one_service : (h : PlainHost) (steps : List Step) (a b : List HFrame) (v w : List ℕ) (g k : PlainHost) → Serves h steps a v g → Serves h steps b w k → (g ≡ k) × (a ≡ b) × (v ≡ w)
one_service h [] a b v w g k p q = (p.2 ∙ sym q.2, p.0 ∙ sym q.0, p.1 ∙ sym q.1)
one_service h (Answered m ∷ steps) a b v w g k (h1, a1, a2, v2, ans1, af, vf, p) (k1, b1, b2, w2, ans2, bf, wf, q) = grind (arith, (one_service k1 steps a2 b2 v2 w2 g k))
one_service h (Joined file ∷ steps) a b v w g k (may, p) (also, q) = one_service (with_given h file) steps a b v w g k p q
one_service h (Marked f ∷ steps) a b v w g k (a2, may, af, p) (b2, also, bf, q) =
    let same = one_service (marked h f) steps a2 b2 v w g k p q in
    (same.0, af ∙ ap (λ (l : List HFrame). mark_frames h f ++ l) same.1 ∙ sym bf, same.2)

-- the messages, and where files joined and were marked, decide the steps
same_steps : (count : ℕ) (xs ys : List Step) → messages_in xs ≡ messages_in ys → asides_after count xs ≡ asides_after count ys → xs ≡ ys
same_steps count [] [] p q = refl
same_steps count [] (Answered m ∷ ys) p q = absurd (cc)
same_steps count [] (Joined file ∷ ys) p q = absurd (cc)
same_steps count [] (Marked f ∷ ys) p q = absurd (cc)
same_steps count (Answered m ∷ xs) [] p q = absurd (cc)
same_steps count (Joined file ∷ xs) [] p q = absurd (cc)
same_steps count (Marked f ∷ xs) [] p q = absurd (cc)
same_steps count (Answered m ∷ xs) (Answered n ∷ ys) p q = grind (arith, (same_steps (count + 1) xs ys))
same_steps count (Joined file ∷ xs) (Joined other ∷ ys) p q = grind (arith, (same_steps count xs ys))
same_steps count (Marked f ∷ xs) (Marked g ∷ ys) p q = grind (arith, (same_steps count xs ys))
same_steps count (Joined file ∷ xs) (Marked f ∷ ys) p q = grind arith
same_steps count (Marked f ∷ xs) (Joined file ∷ ys) p q = grind arith
same_steps count (Answered m ∷ xs) (Joined file ∷ ys) p q = let late = not_before (count + 1) count (Joins file) (asides_after count ys) xs q in absurd (omega (arith, late))
same_steps count (Joined file ∷ xs) (Answered m ∷ ys) p q = let late = not_before (count + 1) count (Joins file) (asides_after count xs) ys (sym q) in absurd (omega (arith, late))
same_steps count (Answered m ∷ xs) (Marked f ∷ ys) p q = let late = not_before (count + 1) count (Marks f) (asides_after count ys) xs q in absurd (omega (arith, late))
same_steps count (Marked f ∷ xs) (Answered m ∷ ys) p q = let late = not_before (count + 1) count (Marks f) (asides_after count xs) ys (sym q) in absurd (omega (arith, late))

same_behind : (o p : Option StreamFault) → option_map mesg_fault o ≡ option_map mesg_fault p → o ≡ p
same_behind o p e = grind arith

idle_reads : (h : PlainHost) (stream out handed : List ℕ) (asides : Asides) (e : PlainHostEndpoint) (s : HasServed h stream out handed asides e) → e.waiting ≡ []
    → IsStream terminal 1 stream (messages_in s.steps) e.framer.bytes (option_map mesg_fault e.broken_by)
idle_reads h stream out handed asides e s none = grind (arith, append-nil)

pub one_outcome : Reads → (h : PlainHost) (stream a b v w : List ℕ) (asides : Asides) (e g : PlainHostEndpoint) → HasServed h stream a v asides e → HasServed h stream b w asides g
    → IsIdle e → IsIdle g
    → (e.host ≡ g.host) × (a ++ e.pending_bytes ≡ b ++ g.pending_bytes) × (v ++ e.writes ≡ w ++ g.writes) × (e.broken_by ≡ g.broken_by)
one_outcome reads h stream a b v w asides e g s t i j =
    let one = reads 1 stream (messages_in s.steps) (messages_in t.steps) e.framer.bytes g.framer.bytes (option_map mesg_fault e.broken_by) (option_map mesg_fault g.broken_by)
    (idle_reads h stream a v asides e s i.waiting) (idle_reads h stream b w asides g t j.waiting) in
    let steps = same_steps h.taken s.steps t.steps one.0 (s.asides_are ∙ sym t.asides_are) in
    let same = one_service h t.steps s.frames t.frames s.writes t.writes e.host g.host (subst (λ (l : List Step). Serves h l s.frames s.writes e.host) steps s.serves) t.serves in
    (same.0, grind (arith, append-nil), s.written ∙ same.2 ∙ sym t.written, same_behind e.broken_by g.broken_by one.2)
