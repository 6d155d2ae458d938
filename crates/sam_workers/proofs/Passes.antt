-- Where the host reader stands between two pieces.
use Rattle.sam_workers.proofs.Common.{◌≡◌, ◌∙◌, ℕ, ◌+◌, List, ◌++◌, length, Err, Option, None, Some, option_map, Bool, false, append-nil, append_assoc, length-append, arith, Vec, map-append, flat_map-append, HFrame, MesgFault, Direction, host, Splits, stream_of, Feeds, FeedRefusal, Held, GaveUpTo, fresh, gave_of, fault_of, version_after-append, stream_of-append, Came, splits_more, comes_more, items_of, IsEnded, StartsWith, LineView, PostView, TakeView, TakesNext, new_post, new_take, closed_post, items_of-append, bytes_of, of_fault, of_unfed, sent_on, Sends, PassesPiece, Passes, ReaderTold, Input, Stop}
use Rattle.std.specs.Option.{option_or}
use Rattle.sam_ends.specs.declared.ends.ReaderEnd.{ReaderEnd}
use Rattle.sam_workers.proofs.ApartTurns.{front_fits}

-- ---- what is sent on

pub sent_both : (p q r : PostView Input) (fs gs : List HFrame) → q ≡ sent_on p fs → r ≡ sent_on q gs → r ≡ sent_on p (fs ++ gs)
sent_both p q r fs gs a b = grind (arith, append_assoc, map-append)

-- ---- a stream in parts

-- frames that are not sent on are part of the rest
front_splits : {M : Type 0} (d : Direction M) (version : ℕ) (bytes : List ℕ) (ms ns : List M) (rest : List ℕ)
    → Splits d version bytes (ms ++ ns) rest → Splits d version bytes ms (stream_of d ns ++ rest)
front_splits d version bytes ms ns rest s = grind (arith, stream_of-append, append_assoc, front_fits)

-- ---- one piece

-- the frames were sent on, and then what is wrong after them stops it; or the gate stopped that
pub passed : (h : Held) (piece : List ℕ) (k : Held) (p q : PostView Input) (frames : List HFrame) (fault : Option MesgFault) (place : ℕ) (s : Option Stop)
    → GaveUpTo host h piece frames fault place k → Sends frames p q s → PassesPiece h piece k p q (option_or s (option_map of_fault fault))
passed h piece k p q frames None place None up sends = grind arith
passed h piece k p q frames (Some why) place None up sends = grind arith
passed h piece k p q frames fault place (Some s) up sends = grind (arith, (gave_of host h k piece frames fault place up), (front_splits host h.version (h.bytes ++ piece)))

pub not_passed : (h : Held) (piece : List ℕ) (k : Held) (p : PostView Input) (why : FeedRefusal)
    → h.failed ≡ false → Feeds host h piece (Err (fault_of why)) k → PassesPiece h piece k p p (Some (of_unfed why))
not_passed h piece k p why sound refused = grind (arith, append-nil)

-- ---- piece by piece

-- what was taken are the frames that were sent on, and what the framer holds
pub record SoFar (t u : TakeView (Vec ℕ)) (p q : PostView Input) (k : Held) : Type 0 where
  pub passed : List HFrame
  pub line_is : u.line ≡ t.line
  pub came : Came host fresh (bytes_of (items_of 0 u.taken)) passed k
  pub sent : q ≡ sent_on p passed

-- a piece that is taken joins the bytes at their end
pub bytes_taken : (u v : TakeView (Vec ℕ)) (i : ℕ) (piece : Vec ℕ) → u.line.senders ≡ 1 → TakesNext u (record { sender = i; load = Some piece }) v
    → bytes_of (items_of 0 v.taken) ≡ bytes_of (items_of 0 u.taken) ++ piece.items
bytes_taken u v i piece one next = grind (arith, append-nil, items_of-append, flat_map-append)

pub goes_on : (t u v : TakeView (Vec ℕ)) (p q r : PostView Input) (k e : Held) (i : ℕ) (piece : Vec ℕ) → t.line.senders ≡ 1
    → SoFar t u p q k → TakesNext u (record { sender = i; load = Some piece }) v → PassesPiece k piece.items e q r None → SoFar t v p r e
goes_on t u v p q r k e i piece one far next (frames, all, sent) = grind (
  arith,
  (bytes_taken u v i piece),
  (comes_more host fresh (bytes_of (items_of 0 u.taken)) far.passed k piece.items frames e far.came all),
  (sent_both p q r far.passed frames far.sent sent),
)

pub leaves : (t u v : TakeView (Vec ℕ)) (p q : PostView Input) (k : Held) (i : ℕ) → SoFar t u p q k → TakesNext u (record { sender = i; load = None }) v → SoFar t v p q k
leaves t u v p q k i far next = grind (arith, items_of-append, flat_map-append, append-nil)

-- how many bytes came with a piece
pub came_is : {M : Type 0} (d : Direction M) (bytes : List ℕ) (ms : List M) (k : Held) (piece : List ℕ) → Came d fresh bytes ms k
    → length (bytes ++ piece) ≡ k.offset + length k.bytes + length piece
came_is d bytes ms k piece came = grind (arith, length-append)

pub stops : (t u v : TakeView (Vec ℕ)) (p q r : PostView Input) (k e : Held) (i : ℕ) (piece : Vec ℕ) (s : Stop) → t.line.senders ≡ 1
    → SoFar t u p q k → TakesNext u (record { sender = i; load = Some piece }) v → PassesPiece k piece.items e q r (Some s) → Passes t v p r (Some s)
stops t u v p q r k e i piece s one far next (frames, rest, splits, sent, after) = grind (
  arith,
  (splits_more host fresh (bytes_of (items_of 0 u.taken)) far.passed k piece.items frames rest far.came splits),
  (version_after-append host 1 far.passed frames),
  (bytes_taken u v i piece),
  (came_is host (bytes_of (items_of 0 u.taken)) far.passed k piece.items far.came),
  (sent_both p q r far.passed frames far.sent sent),
)

-- ---- at the end

abbrev end_of : TakeView (Vec ℕ) → PostView Input → Bool → Option Stop → ReaderEnd
end_of t p passed s = record { take = t; post = p; passed = passed; stop = s }

-- it stopped, closed its post, and dropped what still came
pub left_told : (down events : LineView) (t u : TakeView (Vec ℕ)) (p q : PostView Input) (passed : Bool) (s : Stop)
    → Passes (new_take down) t (new_post events 2) p (Some s) → q ≡ closed_post p → u.line ≡ t.line → StartsWith u.taken t.taken
    → down.senders ≡ 1 → IsEnded u.line.senders u.taken → ReaderTold down events (end_of u q passed (Some s))
left_told down events t u p q passed s went closed line (more, taken) one ended =
    let dropped = bytes_of (items_of 0 more) in
    record {
      passed = went.passed;
      rest = went.rest ++ dropped;
      take_is = line ∙ went.line_is;
      post_is = grind arith;
      number_is = grind arith;
      fit = went.fit;
      got = grind (arith, items_of-append, flat_map-append, append_assoc);
      put = grind arith;
      closed = grind arith;
      drained = grind arith;
      stopped = grind (arith, items_of-append, flat_map-append, length-append);
    }
