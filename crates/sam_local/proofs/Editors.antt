-- Every editor that events lead to stands as both sides do where nothing is under way, and what an event does to it, by its messages.
use Rattle.sam_crossing.proofs.Common.{◌≡◌, ℕ, ◌+◌, ◌<◌, ◌≤◌, max_runes, Slots, PlainFile, given_slots, unsent_message, Bool, true, false, List, [], ◌∷◌, ◌++◌, length, map, Option, Some, None, is_some, unwrap_or, refl, sym, ap, ◌∙◌, subst, true≢false, arith, same_Some, option_map, not-false, ltb-false, append-nil, length-map, length-append, length-drop, length-take-le, slot, slot-map, slot-free_same, slot-free_other, Agrees, PartialText, load_cells, first_of_checks, Checks, PlainFiles, file_at, has_file, Tmesg, Hmesg, PlainHost, Reply, counted, reply_to, answers, reply_of, replied_then, Window, KnownFile, UserEvent, PlainTerminal, known_at, window_at, is_open, put_window, TermFault, frame_checks, event_checks, event_outcome, blank_window, Lens, Open, Fits_slot, HFile, Absent, Hidden, Named, Opened, Gone, IsSynced, InOrder, AllComeToSync, AreTidy, IsTidyWindow, at_file, action, run, effect, view, views, file_in, slot_of_window, took_bindname, took_data, took_grow, took_growdata, took_cut, took_unlockfile, took_close, took_exit}
use Rattle.sam_runes.proofs.CheckLaws.{none_holds}
use Rattle.sam_term.specs.Term.{past_end}
use Rattle.sam_term.specs.declared.event.UserEvent.TheVariants.{Typed, View, Load}
use Rattle.sam_term.specs.declared.event.Verdict.{Verdict}
use Rattle.sam_crossing.specs.Fold.{after_frames}
use Rattle.sam_crossing.specs.View.{slot_of}
use Rattle.sam_crossing.proofs.Acting.{event_goes}
use Rattle.sam_crossing.proofs.Dots.{tidy-ins, tidy-del}
use Rattle.sam_crossing.proofs.FrameMoves.{take_law}
use Rattle.sam_crossing.proofs.Passing.{Passed, passed}
use Rattle.sam_crossing.proofs.Runs.{stepped}
use Rattle.sam_crossing.proofs.Starting.{starts}
use Rattle.sam_crossing.proofs.Views.{tidy-put, tidy-window}
use Rattle.sam_local.specs.Local.{PlainEditor, whole_window, whole_file, at_rest, all_taken, answered_with, come_to, carried_unless, carried, Doing, Did, Joined, joined, done_on, files_in, new_editor}
use Rattle.sam_local.specs.Editing.{IsReached}
use Rattle.sam_runes.specs.Texts.{most_in_name}
use Rattle.sam_host.specs.Host.{with_given}
use Rattle.sam_host.specs.Laws.{AreGiven}
use Rattle.sam_crossing.specs.Joining.{with_more}
use Rattle.sam_crossing.proofs.MoreFiles.{nothing_more, one_more, order_more}
use Rattle.sam_local.proofs.Doings.{rest-more, opened_there}
use Rattle.sam_local.proofs.Sights.{sight-rest, rests}
use Rattle.sam_local.proofs.Ahead.{term_ahead, synced-ahead, come-to-is, window-put}
use Rattle.sam_local.proofs.Checks.{slot-whole, rest-window, agreed-length}
use Rattle.sam_local.proofs.Uncounted.{rest}
use Rattle.sam_local.proofs.Events.{altered, opens-alike, told}
use Rattle.sam_local.proofs.Acts.{IsApart, came-apart, wanted-none, no-gaps-shown}

-- ## Dots stay in their texts

place_of : (t : PlainTerminal) (f p : ℕ) (rest : Checks TermFault) → first_of_checks (past_end t f p ∷ rest) ≡ None → p ≤ length (window_at t f).rasp
place_of t f p rest e = ltb-false _ p (none_holds (past_end t f p) rest e).0

length-load : (r : PartialText) (p : ℕ) (s : List ℕ) → p + length s ≤ length r → length (load_cells r p s) ≡ length r
length-load r p s l = grind (arith, length-map, length-append, length-take-le, length-drop)

tidy_effect : (t : PlainTerminal) (m : Hmesg) → first_of_checks (frame_checks t m) ≡ None → AreTidy t → AreTidy (effect t m)
unfolding took_bindname took_data took_grow took_growdata took_cut took_unlockfile took_close took_exit
tidy_effect t m e u = grind (arith, tidy-window, tidy-put, tidy-ins, place_of, length-load, tidy-del, slot-map, slot-free_same, slot-free_other)

tidy-taken : (ms : List Hmesg) (t : PlainTerminal) → ((g : ℕ) → (v : Lens) × (run (at_file g ms) (view g t) ≡ Some v)) → AreTidy t → AreTidy (all_taken t ms)
tidy-taken [] t h tidy = tidy
tidy-taken (m ∷ ms) t h tidy =
    let moves = take_law t m (λ k. let s = stepped (action k m) (at_file k ms) (view k t) (h k).0 (h k).1 in (s.mid, s.moves)) in
    tidy-taken ms (effect t m) (λ k. ((h k).0, rw (moves.moves k) at (h k).1)) (tidy_effect t m moves.passes tidy)

-- ## Both sides at rest are in order

closed-blank : (t : PlainTerminal) (f : ℕ) → is_open t f ≡ false → window_at t f ≡ blank_window
closed-blank t f e = by (known_at t f).window e
  where
    by : (w : Option Window) → is_some w ≡ false → unwrap_or w blank_window ≡ blank_window
    by None e = refl
    by (Some w) e = absurd (true≢false e)

agrees-all : (s : List ℕ) → Agrees (map Some s) s
agrees-all [] = tt
agrees-all (c ∷ s) = (refl, agrees-all s)

opened-text : (fs : PlainFiles) (g : ℕ) (s : List ℕ) → file_in fs.slots g ≡ Opened s → s ≡ (file_at fs g).text
opened-text fs g s e = grind arith

fits-open : (file : HFile) (text : List ℕ) (r : PartialText) (k : ℕ) → ((s : List ℕ) → file ≡ Opened s → s ≡ text) → Fits_slot (Open r k) file
    → Fits_slot (Open (map Some text) 0) file
fits-open (Opened s) text r k e fits = (refl, subst (Agrees (map Some text)) (sym (e s refl)) (agrees-all text))
fits-open Absent text r k e fits = fits
fits-open (Hidden s) text r k e fits = fits
fits-open (Named s) text r k e fits = fits
fits-open Gone text r k e fits = fits

fits-whole : (s : Option KnownFile) (fs : PlainFiles) (g : ℕ) → Fits_slot (slot_of s) (file_in fs.slots g)
    → Fits_slot (slot_of (option_map (whole_file (file_at fs g).text) s)) (file_in fs.slots g)
fits-whole None fs g fits = fits
fits-whole (Some known) fs g fits = by known.window fits
  where
    by : (w : Option Window) → Fits_slot (slot_of_window w) (file_in fs.slots g) → Fits_slot (slot_of_window (option_map (whole_window (file_at fs g).text) w)) (file_in fs.slots g)
    by None fits = fits
    by (Some w) fits = fits-open (file_in fs.slots g) (file_at fs g).text w.rasp w.locks (opened-text fs g) fits

module _ (h : PlainHost) (t : PlainTerminal) (up : List Tmesg) (down : List Hmesg) (o : InOrder h t up down) where
  ahead_tidy : AreTidy (term_ahead h t up down o)
  ahead_tidy = tidy-taken (down ++ o.kept.frames) t (λ g. ((o.kept.each g).final, (o.kept.each g).runs)) o.tidy

  abbrev rest_of : PlainTerminal
  rest_of = (at_rest o.kept.ahead (term_ahead h t up down o)).term

  synced-rest : (g : ℕ) → IsSynced (view g rest_of) o.kept.ahead.is_done o.kept.ahead.version (file_in o.kept.ahead.files.slots g)
  synced-rest g =
      let s = synced-ahead h t up down o g in
      let z = term_ahead h t up down o in (
        refl,
        s.1,
        s.2,
        subst (λ (x : Option KnownFile). Fits_slot (slot_of x) (file_in o.kept.ahead.files.slots g)) (sym (slot-whole o.kept.ahead.files z.files 0 g g (omega arith)))
            (fits-whole (slot z.files g) o.kept.ahead.files g s.3),
      )

  tidy-rest : (f : ℕ) → IsTidyWindow (window_at rest_of f)
  tidy-rest f = by (is_open z f) refl
    where
      z : PlainTerminal
      z = term_ahead h t up down o

      by : (b : Bool) → is_open z f ≡ b → IsTidyWindow (window_at rest_of f)
      by true e =
          let tidy = ahead_tidy f in
          let same : length (map Some (file_at o.kept.ahead.files f).text) ≡ length (window_at z f).rasp =
          length-map (file_at o.kept.ahead.files f).text Some ∙ sym (agreed-length z o.kept.ahead.files f _ _ (synced-ahead h t up down o f) e) in
          subst IsTidyWindow (sym (rest-window o.kept.ahead z f e)) (tidy.0, subst (λ (n : ℕ). (window_at z f).dot.1 ≤ n) (sym same) tidy.1, subst (λ (n : ℕ). (window_at z f).view_start ≤ n) (sym same) tidy.2)
      by false e = subst IsTidyWindow (sym (closed-blank rest_of f (opens-alike rest_of z f (sight-rest o.kept.ahead z) ∙ e))) (omega arith, omega arith, omega arith)

  pub order-rest : InOrder (rest o.kept.ahead) (at_rest o.kept.ahead (term_ahead h t up down o)).term [] []
  order-rest = record { kept = kept; tidy = tidy-rest; unsent = tt }
    where
      kept : AllComeToSync (rest o.kept.ahead) (views rest_of) [] []
      kept = record {
        ahead = rest o.kept.ahead;
        frames = [];
        folds = refl;
        each = λ g. record { final = view g rest_of; runs = refl; synced = synced-rest g; guarded = tt; closed = λ e. absurd (true≢false (sym e)) };
        steady = record { sound = o.kept.steady.sound; announced = o.kept.steady.announced; fit = o.kept.steady.fit };
        versions = tt;
      }

-- ## Editors

-- both sides are in order with nothing under way, and at rest
pub record Stands (editor : PlainEditor) : Type 0 where
  pub order : InOrder editor.host editor.term [] []
  pub whole : at_rest editor.host editor.term ≡ editor

-- what both sides come to stands so
pub stands-come : (h : PlainHost) (t : PlainTerminal) (up : List Tmesg) (down : List Hmesg) → InOrder h t up down → Stands (come_to h t up down)
stands-come h t up down o =
    let z = term_ahead h t up down o in
    subst Stands (sym (come-to-is h t up down o))
    (record { order = order-rest h t up down o; whole = rests o.kept.ahead (at_rest o.kept.ahead z).term z (sight-rest o.kept.ahead z) })

stands-carried : (editor : PlainEditor) (e : UserEvent) → Stands editor → Stands (carried editor e)
stands-carried editor e s = by (first_of_checks (event_checks editor.term e)) refl
  where
    by : (v : Option Verdict) → first_of_checks (event_checks editor.term e) ≡ v → Stands (carried_unless v editor (event_outcome editor.term e))
    by (Some why) q = s
    by None q =
        let made = event_outcome editor.term e in
        stands-come editor.host made.0 made.1 [] (event_goes editor.host editor.term [] [] e s.order (passed editor.term e q))

-- so they are with a file that joins
stands-joined : (editor : PlainEditor) (file : List ℕ × List ℕ) → length file.0 ≤ most_in_name → length file.1 ≤ max_runes → Stands editor → Stands (joined editor file)
stands-joined editor file short long s =
    subst (λ (x : PlainEditor). Stands x) (ap (λ (h : PlainHost). record editor { host = h }) (sym (one_more editor.host file []) ∙ nothing_more (with_given editor.host file)))
    (record { order = order_more h t [] [] (file ∷ []) (short, long, tt) s.order (ap (answers (with_more h us)) none ∙ ap (λ (r : Reply). Some (with_more r.0 us, r.1)) same); whole = rest-more h t us given ∙ ap (λ (x : PlainEditor). record x { host = with_more x.host us }) s.whole })
  where
    h : PlainHost
    h = editor.host

    t : PlainTerminal
    t = editor.term

    us : Slots PlainFile
    us = given_slots (file ∷ [])

    -- the terminal of an editor at rest has nothing unsent
    none : unsent_message t.unsent ≡ []
    none = ap (λ (x : PlainEditor). unsent_message x.term.unsent) (sym s.whole)

    same : ◌≡◌ {A = Reply} (h, []) (s.order.kept.ahead, s.order.kept.frames)
    same = same_Some _ _ (ap (answers h) (sym none) ∙ s.order.kept.folds)

    given : (f : ℕ) → is_open t f ≡ true → f < length h.files.slots
    given f e =
        opened_there h.files f (slot t.files f) e
        (subst (λ (r : Reply). IsSynced (view f (all_taken t r.1)) r.0.is_done r.0.version (file_in r.0.files.slots f)) (sym same) (synced-ahead h t [] [] s.order f)).3

stands-on : (ds : List Doing) (editor : PlainEditor) → AreGiven (files_in ds) → Stands editor → Stands (done_on editor ds)
stands-on [] editor few s = s
stands-on (Did e ∷ ds) editor few s = stands-on ds (carried editor e) few (stands-carried editor e s)
stands-on (Joined file ∷ ds) editor few s = stands-on ds (joined editor file) few.2 (stands-joined editor file few.0 few.1 s)

pub reached-stands : (editor : PlainEditor) → IsReached editor → Stands editor
reached-stands editor r = subst Stands (sym r.is) (stands-on r.doings (new_editor r.given) r.joins (record { order = starts r.given r.limits; whole = refl }))

-- ## What an event does, by its messages

opens-both : (t : PlainTerminal) (fs : PlainFiles) (f : ℕ) (d : Bool) (n : ℕ) → IsSynced (view f t) d n (file_in fs.slots f) → is_open t f ≡ (file_at fs f).opened
opens-both t fs f d n s = grind arith

has-opened : (fs : PlainFiles) (f : ℕ) → (file_at fs f).opened ≡ true → has_file fs f ≡ true
has-opened fs f e = grind arith

-- the reply of a host that goes on, where it doesn't refuse
pub replied-is : (h : PlainHost) (m : Tmesg) (r : Reply) → h.is_done ≡ false → reply_of h m ≡ Some r → r ≡ (counted (reply_to h m).0, (reply_to h m).1)
replied-is h m r d e = grind arith

module _ (h : PlainHost) (t : PlainTerminal) (o : InOrder (rest h) (at_rest h t).term [] []) where
  abbrev term : PlainTerminal
  term = (at_rest h t).term

  pub synced-here : (g : ℕ) → IsSynced (view g (at_rest h t).term) h.is_done h.version (file_in h.files.slots g)
  synced-here g =
      subst (λ (r : Reply). IsSynced (view g (all_taken (at_rest h t).term ([] ++ r.1))) r.0.is_done r.0.version (file_in r.0.files.slots g)) (sym (same_Some _ _ o.kept.folds))
      (synced-ahead (rest h) (at_rest h t).term [] [] o g)

  pub open-here : (f : ℕ) → is_open t f ≡ is_open (at_rest h t).term f
  open-here f = sym (opens-alike (at_rest h t).term t f (sight-rest h t))

  -- a file that is known is open here where it is there, and is there
  pub opened-same : (f : ℕ) → is_open (at_rest h t).term f ≡ (file_at h.files f).opened
  opened-same f = opens-both (at_rest h t).term h.files f _ _ (synced-here f)

  pub has-open : (f : ℕ) → is_open (at_rest h t).term f ≡ true → has_file h.files f ≡ true
  has-open f e = has-opened h.files f (sym (opened-same f) ∙ e)

  apart-here : (e : UserEvent) → Passed (at_rest h t).term e → IsApart (at_rest h t).term e
  apart-here (Typed f []) p = tt
  apart-here (Typed f (c ∷ s)) p = λ x. refl
  apart-here (View f a n) p =
      let w : Window = record (window_at term f) { view_start = a; view_length = n } in
      wanted-none (put_window term f w) f (file_at h.files f).text
      (ap (λ (x : Window). x.rasp) (window-put term f w) ∙ ap (λ (x : Window). x.rasp) (rest-window h t f (open-here f ∙ not-false (is_open term f) p.opened)))
  apart-here (Load f a n) p =
      let w : Window = record (window_at term f) { view_start = a; view_length = n } in
      no-gaps-shown (put_window term f w) f (file_at h.files f).text
      (ap (λ (x : Window). x.rasp) (window-put term f w) ∙ ap (λ (x : Window). x.rasp) (rest-window h t f (open-here f ∙ not-false (is_open term f) p.opened)))
  apart-here e p = tt

  -- the host's replies, and where they lead
  pub record Acted (e : UserEvent) : Type 0 where
    pub reply : Reply
    pub folds : answers (rest h) (told (at_rest h t).term e) ≡ Some reply
    pub is : carried (at_rest h t) e ≡ at_rest reply.0 (all_taken (altered (at_rest h t).term e) reply.1)
    pub running : h.is_done ≡ false

  pub acted : (e : UserEvent) → first_of_checks (event_checks (at_rest h t).term e) ≡ None → Acted e
  acted e q =
      let p = passed term e q in
      let came = came-apart (rest h) term [] [] e p (apart-here e p) (event_goes (rest h) term [] [] e o p) in
      record {
        reply = came.reply;
        folds = came.folds;
        is =
            ap (λ (v : Option Verdict). carried_unless v (at_rest h t) (event_outcome term e)) q ∙ came.comes
            ∙ ap (answered_with (rest h) (altered term e) []) came.folds;
        running = sym (synced-here 0).1 ∙ p.here;
      }

  pub after-none : (e : UserEvent) → first_of_checks (event_checks (at_rest h t).term e) ≡ None → told (at_rest h t).term e ≡ []
      → carried (at_rest h t) e ≡ at_rest (rest h) (altered (at_rest h t).term e)
  after-none e q none =
      let a = acted e q in
      let same : (rest h, []) ≡ a.reply = same_Some _ _ (sym (ap (answers (rest h)) none) ∙ a.folds) in
      a.is ∙ sym (ap (λ (r : Reply). at_rest r.0 (all_taken (altered term e) r.1)) same)

  pub after-one : (e : UserEvent) (m : Tmesg) → first_of_checks (event_checks (at_rest h t).term e) ≡ None → told (at_rest h t).term e ≡ m ∷ []
      → carried (at_rest h t) e ≡ at_rest (reply_to (rest h) m).0 (all_taken (altered (at_rest h t).term e) (reply_to (rest h) m).1)
  after-one e m q one = by (reply_of (rest h) m) refl (sym (ap (answers (rest h)) one) ∙ a.folds)
    where
      a : Acted e
      a = acted e q

      by : (x : Option Reply) → reply_of (rest h) m ≡ x → replied_then x (λ k. Some (k, [])) ≡ Some a.reply
          → carried (at_rest h t) e ≡ at_rest (reply_to (rest h) m).0 (all_taken (altered (at_rest h t).term e) (reply_to (rest h) m).1)
      by None x y = absurd (grind arith)
      by (Some r) x y =
          a.is ∙ sym (ap (λ (s : Reply). at_rest s.0 (all_taken (altered term e) s.1)) (same_Some _ _ y))
          ∙ ap (λ (fs : List Hmesg). at_rest r.0 (all_taken (altered term e) fs)) (append-nil r.1)
          ∙ ap (λ (s : Reply). at_rest s.0 (all_taken (altered term e) s.1)) (replied-is (rest h) m r a.running x)

  pub after-two : (e : UserEvent) (m n : Tmesg) (k : PlainHost) → first_of_checks (event_checks (at_rest h t).term e) ≡ None
      → told (at_rest h t).term e ≡ m ∷ n ∷ [] → reply_to (rest h) m ≡ (k, (reply_to (rest h) m).1) → k.is_done ≡ false
      → carried (at_rest h t) e
      ≡ at_rest (reply_to (counted k) n).0 (all_taken (altered (at_rest h t).term e) ((reply_to (rest h) m).1 ++ (reply_to (counted k) n).1))
  after-two e m n k q two is running = by (reply_of (rest h) m) refl (sym (ap (answers (rest h)) two) ∙ a.folds)
    where
      a : Acted e
      a = acted e q

      second : (r : Reply) → reply_of (rest h) m ≡ Some r → (y : Option Reply) → reply_of r.0 n ≡ y → after_frames r.1 (replied_then y (λ j. Some (j, []))) ≡ Some a.reply
          → carried (at_rest h t) e ≡ at_rest (reply_to (counted k) n).0 (all_taken (altered (at_rest h t).term e) ((reply_to (rest h) m).1 ++ (reply_to (counted k) n).1))
      second r x None y z = absurd (grind arith)
      second r x (Some s) y z =
          let first : r ≡ (counted k, (reply_to (rest h) m).1) = replied-is (rest h) m r a.running x ∙ ap (λ (w : Reply). (counted w.0, (reply_to (rest h) m).1)) is in
          let later : s ≡ (counted (reply_to (counted k) n).0, (reply_to (counted k) n).1) = replied-is (counted k) n s running (sym (ap (λ (w : Reply). reply_of w.0 n) first) ∙ y) in
          a.is ∙ sym (ap (λ (w : Reply). at_rest w.0 (all_taken (altered term e) w.1)) (same_Some _ _ z))
          ∙ ap (λ (fs : List Hmesg). at_rest s.0 (all_taken (altered term e) (r.1 ++ fs))) (append-nil s.1)
          ∙ (λ i. at_rest (later i).0 (all_taken (altered term e) ((first i).1 ++ (later i).1)))

      by : (x : Option Reply) → reply_of (rest h) m ≡ x → replied_then x (λ j. replied_then (reply_of j n) (λ l. Some (l, []))) ≡ Some a.reply
          → carried (at_rest h t) e ≡ at_rest (reply_to (counted k) n).0 (all_taken (altered (at_rest h t).term e) ((reply_to (rest h) m).1 ++ (reply_to (counted k) n).1))
      by None x y = absurd (grind arith)
      by (Some r) x y = second r x (reply_of r.0 n) refl y
