-- What is left of a piece that was not taken.
use Rattle.std.proofs.Common.{◌≡◌, ℕ, ◌+◌, ◌-◌, ◌<◌, ◌≤◌, ◌⊎◌, List, [], ◌++◌, length, take, drop, Bool, Ok, Err, refl, sym, subst, ap, ◌∙◌}
use Rattle.std.specs.Prelude.{None, ◌||◌, if◌then◌else◌, nat_le}
use Rattle.std.proofs.Math.Seq.{take-append_seam}
use Rattle.sam_link.specs.End.{End, ended}
use Rattle.sam_link.specs.Feeding.{Feeds, FeedsInto, FeedsPlaces, GoesOn, IsFault, MayFeed, TakesSplit, ended_for, fed_to, has_come, read_to, said_to, tells, told}
use Rattle.sam_link.specs.Inbox.{Arrived, TakesAll, TakesPlaces, Waiting, items_among, lying, nothing, ready}
use Rattle.sam_link.specs.Keeping.{acknowledged}
use Rattle.sam_link.specs.Packets.{EndsIn, IsRead, IsSplit, Packet, asks, top_of}
use Rattle.sam_link.specs.declared.fault.FeedFault.{FeedFault}
use Rattle.sam_link.specs.declared.fault.FeedFault.TheVariants.{NotOpen, CountFull, OutOfMemory, Wrong, AckAhead}
use Rattle.sam_link.specs.declared.inbox.Marks.{Marks}
use Rattle.sam_link.specs.declared.inbox.Place.{Place}
use Rattle.sam_link.specs.declared.reading.Split.{Split}
use Rattle.sam_link.proofs.Rows.{items_is}

abbrev holds : End → List ℕ → End
holds e piece = record e { held = e.held ++ piece }

abbrev lets : ℕ → End → End
lets len n = record n { held = take len n.held }

back : (e n : End) (piece : List ℕ) → n ≡ holds e piece → lets (length e.held) n ≡ e
back e n piece is = ap (lets (length e.held)) is ∙ ap (λ held. record e { held = held }) (take-append_seam e.held piece)

abbrev fed_with : End → Bool → ℕ → List Packet → List ℕ → ℕ → End
fed_with e owes top items held count =
    record e {
      received = count;
      told = if tells e.keeps owes then count else e.told;
      keeps = acknowledged (told e.keeps owes count) top;
      held = held;
      waiting = record e.waiting { packets = e.waiting.packets ++ items };
    }

read_is : (e : End) (s : Split) (count : ℕ) (r : IsRead e.held s.count s.len s.said) → read_to e s count ≡ fed_to e r.ps (drop s.len e.held) count
read_is e s count r =
    ap (λ a. fed_with e (a || nat_le 16384 (count - e.told)) s.said.top (items_among s.count e.held) (drop s.len e.held) count) r.asked_is
    ∙ ap (λ t. fed_with e (asks r.ps || nat_le 16384 (count - e.told)) t (items_among s.count e.held) (drop s.len e.held) count) r.top_is
    ∙ ap (λ i. fed_with e (asks r.ps || nat_le 16384 (count - e.told)) (top_of r.ps) i (drop s.len e.held) count)
    (items_is e.held (drop s.len e.held) r.ps s.count r.front.splits.whole r.count_is r.front.splits.fit)

pub feed_done : (e n : End) (attempt : ℕ) (piece : List ℕ) (s : Split) → MayFeed e attempt piece → IsSplit (e.held ++ piece) s
    → TakesSplit (holds e piece) s (e.received + length piece) (Ok tt) n → Feeds e attempt piece (Ok tt) n
feed_done e n attempt piece s may split taken = (
  split.0.ps,
  s.len,
  may,
  split.0.front,
  subst (λ f. EndsIn (drop s.len (e.held ++ piece)) f) taken.0 split.1,
  subst (λ t. t ≤ e.keeps.base + e.keeps.sent) split.0.top_is taken.1,
  taken.2 ∙ read_is (holds e piece) s (e.received + length piece) split.0,
)

pub feed_failed : (e n m : End) (attempt : ℕ) (piece : List ℕ) (s : Split) (count : ℕ) (fault : FeedFault) → MayFeed e attempt piece
    → IsSplit (e.held ++ piece) s → TakesSplit (holds e piece) s count (Err fault) n → m ≡ ended_for fault (lets (length e.held) n)
    → Feeds e attempt piece (Err fault) m
feed_failed e n m attempt piece s count (Wrong fault) may split taken is = (
  split.0.ps,
  s.len,
  may,
  split.0.front,
  subst (λ f. EndsIn (drop s.len (e.held ++ piece)) f) taken.0 split.1,
  is ∙ ap ended (back e n piece taken.1),
)
feed_failed e n m attempt piece s count AckAhead may split taken is = (
  split.0.ps,
  s.len,
  may,
  split.0.front,
  subst (λ f. EndsIn (drop s.len (e.held ++ piece)) f) taken.0 split.1,
  subst (λ t. e.keeps.base + e.keeps.sent < t) split.0.top_is taken.1,
  is ∙ ap ended (back e n piece taken.2),
)
feed_failed e n m attempt piece s count OutOfMemory may split taken is = (may, is ∙ back e n piece taken)
feed_failed e n m attempt piece s count NotOpen may split taken is = absurd taken
feed_failed e n m attempt piece s count CountFull may split taken is = absurd taken

-- ## Straight into a buffer

abbrev starts : Arrived → ℕ → List ℕ → Waiting
starts a count piece = record a.waiting { packets = a.waiting.packets ++ items_among count (a.held ++ piece) }

whole_split : (e : End) (piece : List ℕ) (s : Split) → has_come e ≡ nothing → IsSplit piece s → IsSplit (e.held ++ piece) s
whole_split e piece s none split = subst (λ h. IsSplit (h ++ piece) s) (sym (ap (λ a. a.held) none)) split

-- a feed, and then `take_in` again and again
pub then_taken : (e m : End) (attempt : ℕ) (piece old new : List ℕ) (count : ℕ) (held : List ℕ) (w : Waiting) → Feeds e attempt piece (Ok tt) m
    → TakesAll m.waiting old count new w → held ≡ m.held → FeedsInto e attempt piece old (Ok count) new (record m { held = held; waiting = w })
then_taken e m attempt piece old new count held w fed takes same = (m, fed, takes, ap (λ h. record m { held = h; waiting = w }) same)

abbrev row_marks : Split → Marks
row_marks s = record { gone = 0; next = 0; whole = s.len; count = s.count }

-- a piece that goes into a buffer, where nothing was there before, leaves the same
pub passed_on : (e m : End) (attempt : ℕ) (piece : List ℕ) (s : Split) (old new : List ℕ) (count : ℕ) (first last : Marks) (a : Arrived) → MayFeed e attempt piece
    → has_come e ≡ nothing → IsSplit piece s → IsFault e s None → m ≡ said_to e s.said (e.received + length piece) → first ≡ row_marks s
    → TakesAll (lying first piece).waiting old count new (lying last piece).waiting → (lying last piece).held ≡ (lying first piece).held → a ≡ lying last piece
    → FeedsInto e attempt piece old (Ok count) new (record m { held = a.held; waiting = a.waiting })
passed_on e m attempt piece s old new count first last a may none split well m_is first_is takes held a_is =
    let read = read_to (holds e piece) s (e.received + length piece) in
    let whole = whole_split e piece s none split in
    let fed : Feeds e attempt piece (Ok tt) read = feed_done e read attempt piece s may whole (well.0, well.1, refl) in
    let from_row = subst (λ k. TakesAll (lying k piece).waiting old count new (lying last piece).waiting) first_is takes in
    let to_rest = subst (λ x. TakesAll (lying (row_marks s) piece).waiting old count new x.waiting) (sym a_is) from_row in
    let all : TakesAll read.waiting old count new a.waiting = subst (λ x. TakesAll (starts x s.count piece) old count new a.waiting) (sym none) to_rest in
    let rest : a.held ≡ read.held =
    ap (λ x. x.held) a_is ∙ held ∙ ap (λ k. (lying k piece).held) first_is ∙ ap (λ x. drop s.len (x.held ++ piece)) (sym none) in
    subst (λ x. FeedsInto e attempt piece old (Ok count) new (record x { held = a.held; waiting = a.waiting })) (sym m_is)
    (then_taken e read attempt piece old new count a.held a.waiting fed all rest)

-- ## By places

-- a piece whose data is taken where it lies, where nothing was there before
pub placed_on : (e m : End) (attempt : ℕ) (piece : List ℕ) (s : Split) (old new : List Place) (count : ℕ) (first last : Marks) (a : Arrived) → MayFeed e attempt piece
    → has_come e ≡ nothing → IsSplit piece s → IsFault e s None → m ≡ said_to e s.said (e.received + length piece) → first ≡ row_marks s
    → count ≤ length old → new ≡ take count new ++ drop count old → TakesPlaces piece (lying first piece).waiting (take count new) (lying last piece).waiting
    → (lying last piece).held ≡ (lying first piece).held → (count ≡ length old) ⊎ ((ready (lying last piece).waiting).part ≡ []) → a ≡ lying last piece
    → FeedsPlaces e attempt piece old (Ok count) new (record m { held = a.held; waiting = a.waiting })
placed_on e m attempt piece s old new count first last a may none split well m_is first_is inside others takes held end a_is =
    let read = read_to (holds e piece) s (e.received + length piece) in
    let whole = whole_split e piece s none split in
    let fed : Feeds e attempt piece (Ok tt) read = feed_done e read attempt piece s may whole (well.0, well.1, refl) in
    let from_row = subst (λ k. TakesPlaces piece (lying k piece).waiting (take count new) (lying last piece).waiting) first_is takes in
    let to_rest = subst (λ x. TakesPlaces piece (lying (row_marks s) piece).waiting (take count new) x.waiting) (sym a_is) from_row in
    let all : TakesPlaces piece read.waiting (take count new) a.waiting =
    subst (λ x. TakesPlaces piece (starts x s.count piece) (take count new) a.waiting) (sym none) to_rest in
    let rest : a.held ≡ read.held =
    ap (λ x. x.held) a_is ∙ held ∙ ap (λ k. (lying k piece).held) first_is ∙ ap (λ x. drop s.len (x.held ++ piece)) (sym none) in
    let goes : GoesOn (has_come e) count (length old) a.waiting =
    ((λ here. subst (λ x. (count ≡ length old) ⊎ ((ready x.waiting).part ≡ [])) (sym a_is) end), (λ some. absurd (some none))) in
    subst (λ x. FeedsPlaces e attempt piece old (Ok count) new (record x { held = a.held; waiting = a.waiting })) (sym m_is)
    (read, fed, inside, others, all, ap (λ h. record read { held = h; waiting = a.waiting }) rest, goes)
