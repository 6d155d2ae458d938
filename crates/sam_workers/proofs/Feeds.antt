-- What a terminal composes for frames, and what stops it.
use Rattle.sam_workers.proofs.Common.{◌≡◌, ℕ, ◌≤◌, option_map, List, [], ◌∷◌, ◌++◌, length, Option, None, Some, Ok, Err, append-nil, append_assoc, length-append, arith, All, IsTrue, All-nil, Tmesg, Tack, MesgFault, fits_h, HFrame, host, FitInTurn, Feeds, FeedRefusal, GaveUpTo, Held, fault_of, PlainTerminal, Made, flushed, sends, sends_if, unchanged, requested, frame_outcome, made_unless, take_of, TermFault, TakesAll, Gives, FeedsTerminal, TakesOne, TakesUpTo, mesg_fault_number, of_fault, of_unfed, Stop}
use Rattle.sam_mesg.specs.declared.fault.MesgFault.TheVariants as wrong
use Rattle.sam_mesg.specs.declared.hmesg.Hmesg.{Hmesg}
use Rattle.sam_ends.specs.declared.stop.Stop.TheVariants as stop

-- ---- what fits at its place fits in version 2

pub all_fit : (version : ℕ) (frames : List HFrame) → FitInTurn host version frames → All (λ (f : HFrame). IsTrue (fits_h 2 f.msg)) frames
all_fit version [] fit = All-nil (λ (f : HFrame). IsTrue (fits_h 2 f.msg))
all_fit version (f ∷ frames) fit = grind (arith, (all_fit (host.after version f) frames fit.1))

-- ---- a frame makes a terminal compose two messages at most

few_sends : (t : PlainTerminal) (change : PlainTerminal → PlainTerminal) (m : Tmesg) → length (sends t change (m ∷ [])).1 ≤ 2
unfolding flushed
few_sends t change m = grind (arith, length-append)

few_sends_if : (m : Option Tmesg) (t : PlainTerminal) → length (sends_if m t).1 ≤ 2
few_sends_if None t = omega arith
few_sends_if (Some m) t = few_sends t (λ u. u) m

few_from : (t : PlainTerminal) (m : Hmesg) → length (frame_outcome t m).1 ≤ 2
unfolding requested
few_from t m = grind (arith, few_sends_if, (few_sends t unchanged Tack))

few_unless : (o : Option TermFault) (made : Made) (u : PlainTerminal) (ms : List Tmesg) → length made.1 ≤ 2 → made_unless o made ≡ Ok (u, ms) → length ms ≤ 2
few_unless o made u ms e w = grind arith

pub takes_few : (t u : PlainTerminal) (frame : HFrame) (ms : List Tmesg) → take_of t frame ≡ Ok (u, ms) → length ms ≤ 2
unfolding take_of
takes_few t u frame ms is = few_unless _ (frame_outcome t frame.msg) u ms (few_from t frame.msg) is

-- ---- one frame after another

pub takes_more : (t u v : PlainTerminal) (frames : List HFrame) (frame : HFrame) (ms some : List Tmesg)
    → TakesAll t frames ms u → take_of u frame ≡ Ok (v, some) → TakesAll t (frames ++ frame ∷ []) (ms ++ some) v
takes_more t u v [] frame ms some took is = grind (arith, (append-nil some))
takes_more t u v (f ∷ frames) frame ms some took is = grind (arith, append_assoc, (takes_more took.0 u v frames frame took.2 some took.5 is))

pub one_more : (t u v : PlainTerminal) (frames : List HFrame) (frame : HFrame) (before after : List Tmesg)
    → TakesAll t frames before u → TakesOne frame u v before after None → TakesAll t (frames ++ frame ∷ []) after v
one_more t u v frames frame before after took one = grind (arith, takes_more)

-- ---- what a piece came to

fed_by : (h : Held) (piece : List ℕ) (k : Held) (t u : PlainTerminal) (ms : List Tmesg) (frames : List HFrame) (o : Option MesgFault) (stopped : Option Stop)
    → Gives h piece k frames o → TakesUpTo frames (option_map (λ fault. stop.Frame (mesg_fault_number fault)) o) t u ms stopped → FeedsTerminal h piece k t u ms stopped
fed_by h piece k t u ms frames o stopped gives takes = grind arith

pub fed : (h : Held) (piece : List ℕ) (k : Held) (t u : PlainTerminal) (ms : List Tmesg) (frames : List HFrame) (o : Option MesgFault) (place : ℕ) (stopped : Option Stop)
    → GaveUpTo host h piece frames o place k → TakesUpTo frames (option_map of_fault o) t u ms stopped → FeedsTerminal h piece k t u ms stopped
fed h piece k t u ms frames None place stopped up takes = fed_by h piece k t u ms frames None stopped up.0 takes
fed h piece k t u ms frames (Some wrong.OutOfMemory) place stopped up takes = absurd up.shows
fed h piece k t u ms frames (Some why) place stopped up takes = fed_by h piece k t u ms frames (Some why) stopped (place, up) takes

pub not_fed : (h : Held) (piece : List ℕ) (k : Held) (t : PlainTerminal) (ms : List Tmesg) (why : FeedRefusal) (s : Stop)
    → Feeds host h piece (Err (fault_of why)) k → ms ≡ [] → s ≡ of_unfed why → FeedsTerminal h piece k t t ms (Some s)
not_fed h piece k t ms why s refused none is = grind arith
