-- Every run keeps what each step keeps: so it is as if there were no network.
use Rattle.sam_crossing.proofs.Common.{Agrees, PlainFile, known_at, blank_window, inl, inr, ◌≡◌, ℕ, Bool, true, false, not, ◌==◌, List, [], ◌∷◌, ◌++◌, Option, Some, None, refl, sym, ap, ◌∙◌, subst, is_some, arith, append-nil, append_assoc, same_Some, option_map, unwrap_or, map, is_empty, first_of_checks, PlainHost, PlainTerminal, event_checks, window_at, UserEvent, Tmesg, Hmesg, true≢false, and_parts, ◌&&◌, ◌||◌, is_open, is_file_locked, unsent_message, Window, Unsent, answers, InOrder, view, slot, blank_known, file_at}
use Rattle.std.proofs.Common.{option_and_then}
use Rattle.sam_term.specs.declared.records.KnownFile.{KnownFile}
use Rattle.sam_mesg.specs.declared.hmesg.HFrame.{HFrame}
use Rattle.sam_host.specs.Laws.{AreGiven}
use Rattle.sam_crossing.specs.World.{new_world, PlainWorld, step_of, run_of, mesgs, user_events, joined_files, marked_files, is_locked, is_quiet, WasReached}
use Rattle.sam_crossing.specs.declared.event.Event.{Event}
use Rattle.sam_crossing.specs.declared.event.Event.TheVariants.{User, Add, Mark}
use Rattle.sam_crossing.proofs.Passing.{free_at}
use Rattle.sam_crossing.proofs.Ordered.{free_shows}
use Rattle.sam_crossing.proofs.Lenses.{IsFree}
use Rattle.sam_crossing.proofs.OrderLaws.{joins_step, starts_in_order}
use Rattle.sam_local.specs.Local.{PlainEditor, AreMarkedAlike, clean_known, whole_file, whole_window, without_marks, Doing, Did, Joined, at_rest, answered_with, carried, carried_on, carried_all, carried_through, done_on, events_in, files_in, new_editor}
use Rattle.sam_local.specs.Worlds.{outlook, Order, in_order, order_after, order_on, doings_of, is_among, unwritten, unwritten_after, unwritten_on, IsWhereDone, ShowsFile, RefusesAs, IsAsIfLocal, EndsAsIfLocal, ShowsAsIfLocal, WasAsIfLocal, RunsComeInOrder, RunsAreAsIfLocal, RestIsAsIfLocal, OneRestForAll, AloneInOrder}
use Rattle.sam_crossing.proofs.DirtyFiles.{file-dirt}
use Rattle.sam_local.proofs.Gentle.{counted_in, counted-changed, counted-name}
use Rattle.sam_local.proofs.Marked.{Differs, alike-same, but-dirty, marked-alike}
use Rattle.sam_local.proofs.Dirtied.{EditorsAlike, alike-none}
use Rattle.sam_local.proofs.Blind.{blind-verdict, dirty_in, known-forget}
use Rattle.sam_local.proofs.Ahead.{come-to-is, term_ahead, window-is}
use Rattle.sam_local.proofs.Doings.{joined-all}
use Rattle.sam_local.specs.Editing.{IsReached}
use Rattle.sam_local.proofs.Names.{names_and_marks_agree}
use Rattle.sam_local.proofs.Checks.{slot-whole, kept-rest, term_rest, window-rest, open-rest, verdict-rest}
use Rattle.sam_local.proofs.Kept.{Goes, IsKept, Seen, comes-now, counts, later, seen_after, seen_on, step, unseen, with_joined}

-- ## Every run

-- what is said in a list of events, and what joins in it
said-first : (e : Event) (es : List Event) → user_events (e ∷ es) ≡ user_events (e ∷ []) ++ user_events es
said-first (User e) es = refl
said-first e es = refl

joins-first : (e : Event) (es : List Event) → joined_files (e ∷ es) ≡ joined_files (e ∷ []) ++ joined_files es
joins-first (Add name text) es = refl
joins-first e es = refl

-- what is marked in it
marks-first : (e : Event) (es : List Event) → marked_files (e ∷ es) ≡ marked_files (e ∷ []) ++ marked_files es
marks-first (Mark f) es = refl
marks-first e es = refl

record Ran (given : List (List ℕ × List ℕ)) (w last : PlainWorld) (es : List Event) (o p : Order) (seen : Seen) : Type 0 where
  kept : IsKept given last p (seen_on w es seen)
  said : events_in (in_order p) ++ last.term.held ≡ (events_in (in_order o) ++ w.term.held) ++ user_events es
  joins : files_in (in_order p) ≡ files_in (in_order o) ++ joined_files es

-- a step and then a run
runs-on : (given : List (List ℕ × List ℕ)) (w next last : PlainWorld) (e : Event) (es : List Event) (o p q : Order) (seen : Seen) → step_of w e ≡ Some next → Goes given w next e o p seen → Ran given next last es p q (seen_after w e seen)
    → Ran given w last (e ∷ es) o q seen
runs-on given w next last e es o p q seen s one rest = record {
  kept =
      let files = append_assoc seen.files (marked_files (e ∷ [])) (marked_files es) ∙ ap (λ (l : List ℕ). seen.files ++ l) (sym (marks-first e es)) in
      let live = ap (λ (x : Option PlainWorld). unwrap_or (option_map (λ next. unwritten_on next es (unwritten_after w e seen.live)) x) seen.live) (sym s) in
      subst (IsKept given last q) (λ i. record { files = files i; live = live i }) rest.kept;
  said =
      let before = events_in (in_order o) ++ w.term.held in
      rest.said ∙ ap (λ (l : List UserEvent). l ++ user_events es) one.said ∙ append_assoc before (user_events (e ∷ [])) (user_events es)
      ∙ ap (λ (l : List UserEvent). before ++ l) (sym (said-first e es));
  joins =
      let before = files_in (in_order o) in
      rest.joins ∙ ap (λ (l : List (List ℕ × List ℕ)). l ++ joined_files es) one.joins ∙ append_assoc before (joined_files (e ∷ [])) (joined_files es)
      ∙ ap (λ (l : List (List ℕ × List ℕ)). before ++ l) (sym (joins-first e es));
}

ran : (given : List (List ℕ × List ℕ)) (es : List Event) (w last : PlainWorld) (o : Order) (seen : Seen) → IsKept given w o seen → run_of w es ≡ Some last → Ran given w last es o (order_on w es o) seen
ran given [] w last o seen k r =
    subst (λ (v : PlainWorld). Ran given w v [] o o seen) (same_Some _ _ r)
    (record { kept = unseen k; said = sym (append-nil (events_in (in_order o) ++ w.term.held)); joins = sym (append-nil (files_in (in_order o))) })
ran given (e ∷ es) w last o seen k r = by (step_of w e) refl r (λ v z p later. ran given es v z p later)
  where
    by : (x : Option PlainWorld) → step_of w e ≡ x → option_and_then (λ next. run_of next es) x ≡ Some last
        → ((v z : PlainWorld) (o : Order) (seen : Seen) → IsKept given v o seen → run_of v es ≡ Some z → Ran given v z es o (order_on v es o) seen)
        → Ran given w last (e ∷ es) o (order_on w (e ∷ es) o) seen
    by None q x later = absurd (grind arith)
    by (Some next) q x later =
        let p = order_after w e next o in
        let one = step given w next o seen e k q in
        subst (λ (y : Option PlainWorld). Ran given w last (e ∷ es) o (unwrap_or (option_map (λ next. order_on next es (order_after w e next o)) y) o) seen) (sym q)
        (runs-on given w next last e es o p (order_on next es p) seen q one (later next last p (seen_after w e seen) one.kept x))

starts : (given : List (List ℕ × List ℕ)) → AreGiven given → IsKept given (new_world given) (record { settled = []; since = [] }) (record { files = []; live = λ f. false })
starts given fit = record {
  order = starts_in_order given fit;
  bound = λ f on. absurd (true≢false (sym on));
  marks = λ f. tt;
  limits = fit;
  fits = tt;
  comes = λ more few.
      let is : outlook (with_joined (new_world given) more) ≡ carried_through given (map Joined more ++ []) =
      sym (joined-all more (new_editor given)) ∙ ap (carried_through given) (sym (append-nil (map Joined more))) in
      record {
        marks = λ f. false;
        fewer = λ f on. on;
        alike = subst (EditorsAlike (λ f. false) (outlook (with_joined (new_world given) more))) is (alike-none (outlook (with_joined (new_world given) more)));
      };
}

-- ## Files that are free

or-both : (a b : Bool) → (a || b) ≡ false → (a ≡ false) × (b ≡ false)
or-both true b e = absurd (true≢false e)
or-both false b e = (refl, e)

shows : (given : List (List ℕ × List ℕ)) (w : PlainWorld) (order : Order) (seen : Seen) → IsKept given w order seen → (f : ℕ) → is_locked w.term f ≡ false → is_open w.term f ≡ true
    → ShowsFile seen.files w (carried_through given (in_order order)) f
shows given w order seen k f locked opened = record {
  opened = sym (ap (λ (x : KnownFile). is_some x.window) alike) ∙ open-rest w.host t w.up down o (counts seen) k.marks f here ∙ opened;
  runes = subst (Agrees (window_at t f).rasp) texts ((free_shows w.host t w.up down o f here).agrees (window_at t f) (window-is t f opened)).1;
  dot = sym (ap (λ (x : Window). x.dot) there);
  view_start = sym (ap (λ (x : Window). x.view_start) there);
  view_length = sym (ap (λ (x : Window). x.view_length) there);
  name = sym (counted-name (counts seen f) _ _ kept) ∙ ap (λ (x : KnownFile). x.name) alike;
  dirty = λ off.
      sym (ap (λ (x : KnownFile). x.dirty) (subst (λ (c : Bool). counted_in (not c) (known_at u f) ≡ counted_in (not c) (whole_file text (known_at t f))) off kept))
      ∙ ap (λ (x : PlainEditor). dirty_in x.term f) (sym ahead) ∙ now.alike.same f (unmarked (now.marks f) refl off);
  changed = sym (counted-changed (counts seen f) _ _ kept) ∙ ap (λ (x : KnownFile). x.changed) alike;
}
  where
    t : PlainTerminal
    t = w.term

    down : List Hmesg
    down = mesgs w.down

    o : InOrder w.host t w.up down
    o = k.order.ordered

    free : (t.command_lock ≡ false) × (is_file_locked t (Some f) ≡ false)
    free = or-both t.command_lock (is_file_locked t (Some f)) locked

    here : IsFree (view f t)
    here = free_at t f free.0 free.1

    u : PlainTerminal
    u = term_rest w.host t w.up down o (counts seen) k.marks

    editor : PlainEditor
    editor = carried_through given (in_order order)

    text : List ℕ
    text = (file_at o.kept.ahead.files f).text

    ahead : outlook w ≡ at_rest o.kept.ahead (term_ahead w.host t w.up down o)
    ahead = come-to-is w.host t w.up down o

    now : Differs seen.live (outlook w) editor
    now = comes-now given w order seen k

    -- what the editor keeps of the file, but for its mark
    alike : clean_known (known_at u f) ≡ clean_known (known_at editor.term f)
    alike =
        ap (λ (x : PlainEditor). clean_known (known_at x.term f)) (sym ahead) ∙ sym (known-forget (outlook w).term f)
        ∙ ap (λ (x : PlainTerminal). known_at x f) now.alike.term ∙ known-forget editor.term f

    texts : text ≡ (file_at editor.host.files f).text
    texts =
        ap (λ (x : PlainEditor). (file_at x.host.files f).text) (sym ahead) ∙ ap (λ (h : PlainHost). (file_at h.files f).text) now.alike.host
        ∙ ap (λ (x : PlainFile). x.text) (file-dirt now.marks editor.host.files f)

    kept : counted_in (counts seen f) (known_at u f) ≡ counted_in (counts seen f) (whole_file text (known_at t f))
    kept = kept-rest w.host t w.up down o (counts seen) k.marks f here opened

    there : window_at editor.term f ≡ whole_window text (window_at t f)
    there = sym (ap (λ (x : KnownFile). unwrap_or x.window blank_window) alike) ∙ window-rest w.host t w.up down o (counts seen) k.marks f here opened

    unmarked : (b : Bool) → now.marks f ≡ b → is_among seen.files f ≡ false → now.marks f ≡ false
    unmarked true q off = absurd (true≢false (sym (k.bound f (now.fewer f q)) ∙ off))
    unmarked false q off = q

refuses-as : (given : List (List ℕ × List ℕ)) (w : PlainWorld) (order : Order) (seen : Seen) → IsKept given w order seen → RefusesAs w (carried_through given (in_order order))
refuses-as given w order seen k e =
    let down = mesgs w.down in
    let o = k.order.ordered in
    let now = comes-now given w order seen k in
    let editor = carried_through given (in_order order) in
    let same : first_of_checks (event_checks (term_rest w.host w.term w.up down o (counts seen) k.marks) e) ≡ first_of_checks (event_checks editor.term e) =
    ap (λ (x : PlainEditor). first_of_checks (event_checks x.term e)) (sym (come-to-is w.host w.term w.up down o)) ∙ blind-verdict (outlook w).term editor.term e now.alike.term in
    elim (verdict-rest w.host w.term w.up down o (counts seen) k.marks e) [ inl waiting ↦ inl waiting | inr refused ↦ inr (refused ∙ same) ]

-- ## Where nothing is under way

quiet_is : (w : PlainWorld) → is_quiet w ≡ true → outlook w ≡ at_rest w.host w.term
quiet_is w e = by w.up w.down w.term.unsent refl refl refl e
  where
    by : (up : List Tmesg) (down : List HFrame) (unsent : Option Unsent) → w.up ≡ up → w.down ≡ down → w.term.unsent ≡ unsent
        → (not (is_some unsent) && is_empty up && is_empty down) ≡ true → outlook w ≡ at_rest w.host w.term
    by [] [] None eu ed en x = λ i. answered_with w.host w.term (mesgs (ed i)) (answers w.host (eu i ++ unsent_message (en i)))
    by up down unsent eu ed en x = absurd (grind arith)

-- ## Names and marks

rest-slot : (h : PlainHost) (t : PlainTerminal) (f : ℕ) → slot (at_rest h t).term.files f ≡ option_map (whole_file (file_at h.files f).text) (slot t.files f)
rest-slot h t f = slot-whole h.files t.files 0 f f (omega arith)

-- what is known of a file at rest
known-alike : (text : List ℕ) (s : Option KnownFile)
    → let known = unwrap_or s blank_known in
    let whole = unwrap_or (option_map (whole_file text) s) blank_known in
    (is_some (option_map (whole_file text) s) ≡ is_some s) × (whole.name ≡ known.name) × ((whole.dirty || whole.changed) ≡ (known.dirty || known.changed))
known-alike text None = (refl, refl, refl)
known-alike text (Some known) = (refl, refl, refl)

marked-rest : (h : PlainHost) (t : PlainTerminal) → AreMarkedAlike (at_rest h t).host (at_rest h t).term → AreMarkedAlike h t
marked-rest h t m = record {
  names = λ f e.
      let same = known-alike (file_at h.files f).text (slot t.files f) in
      let here = rest-slot h t f in
      sym (ap (λ (s : Option KnownFile). (unwrap_or s blank_known).name) here ∙ same.1) ∙ m.names f (ap is_some here ∙ same.0 ∙ e);
  marks = λ f z.
      let same = known-alike (file_at h.files f).text (slot t.files f) in
      let whole = ap (λ (s : Option KnownFile). (unwrap_or s blank_known).dirty || (unwrap_or s blank_known).changed) (rest-slot h t f) in
      ap (λ (x : Bool). not (f == 0) && x) (sym (whole ∙ same.2)) ∙ m.marks f z;
}

-- files that joined are within the limits
joins-given : (es : List Event) (w last : PlainWorld) → run_of w es ≡ Some last → AreGiven (joined_files es)
joins-given [] w last r = tt
joins-given (Add name text ∷ es) w last r = by (step_of w (Add name text)) refl r (joins-given es)
  where
    by : (x : Option PlainWorld) → step_of w (Add name text) ≡ x → option_and_then (λ next. run_of next es) x ≡ Some last → ((v z : PlainWorld) → run_of v es ≡ Some z → AreGiven (joined_files es))
        → AreGiven ((name, text) ∷ joined_files es)
    by None q x later = absurd (grind arith)
    by (Some next) q x later = let j = joins_step w next name text q in (j.short.0, j.short.1, later next last x)
joins-given (e ∷ es) w last r = by (step_of w e) r (joins-given es)
  where
    by : (x : Option PlainWorld) → option_and_then (λ next. run_of next es) x ≡ Some last → ((v z : PlainWorld) → run_of v es ≡ Some z → AreGiven (joined_files es)) → AreGiven (joined_files es)
    by None x later = absurd (grind arith)
    by (Some next) x later = later next last x

-- ## The laws

-- where both sides come to
where-done : (given : List (List ℕ × List ℕ)) (es : List Event) (x : PlainEditor) → ((f : ℕ) → unwritten given es f ≡ true → is_among (marked_files es) f ≡ true)
    → Differs (unwritten given es) x (carried_through given (doings_of given es)) → IsWhereDone given es x
where-done given es x bound d =
    let y = carried_through given (doings_of given es) in
    record {
      dirt = d.marks;
      only = d.fewer;
      differs = but-dirty d.marks x y d.alike;
      same = λ none. alike-same d.marks x y d.alike (λ f. clean f none (d.marks f) refl);
    }
  where
    clean : (f : ℕ) → marked_files es ≡ [] → (b : Bool) → d.marks f ≡ b → d.marks f ≡ false
    clean f none true q = absurd (true≢false (sym (sym (ap (λ (l : List ℕ). is_among l f) none) ∙ bound f (d.fewer f q))))
    clean f none false q = q

pub runs_come_in_order : RunsComeInOrder
runs_come_in_order given es w led =
    let fit = led.limits in
    let r = led.run in
    let seen : Seen = record { files = []; live = λ f. false } in
    let all = ran given es (new_world given) w (record { settled = []; since = [] }) seen (starts given fit) r in
    let last = seen_on (new_world given) es seen in
    let comes = comes-now given w _ last all.kept in
    let reached : IsReached (carried_through given (doings_of given es)) =
    record { given = given; doings = doings_of given es; limits = fit; joins = subst AreGiven (sym all.joins) (joins-given es (new_world given) w r); is = refl } in
    let alike = names_and_marks_agree (carried_through given (doings_of given es)) reached in
    record {
      events = sym all.said;
      files = sym all.joins;
      comes = where-done given es (outlook w) all.kept.bound comes;
      quiet = λ q. subst (IsWhereDone given es) (quiet_is w q) (where-done given es (outlook w) all.kept.bound comes);
      shows = shows given w _ last all.kept;
      refuses = refuses-as given w _ last all.kept;
      marks = λ q. marked-rest w.host w.term
          (subst (λ (x : PlainEditor). AreMarkedAlike x.host x.term) (quiet_is w q) (marked-alike comes.marks (outlook w) (carried_through given (doings_of given es)) comes.alike alike));
    }

-- doings of events alone
alone : (ds : List Doing) → files_in ds ≡ [] → ds ≡ map Did (events_in ds)
alone [] e = refl
alone (Did e ∷ ds) none = ap (λ (l : List Doing). Did e ∷ l) (alone ds none)
alone (Joined file ∷ ds) none = absurd (grind (arith, none))

carried-did : (es : List UserEvent) (editor : PlainEditor) → done_on editor (map Did es) ≡ carried_on editor es
carried-did [] editor = refl
carried-did (e ∷ es) editor = carried-did es (carried editor e)

pub carried-alone : (given : List (List ℕ × List ℕ)) (ds : List Doing) → files_in ds ≡ [] → carried_through given ds ≡ carried_all given (events_in ds)
carried-alone given ds none = ap (carried_through given) (alone ds none) ∙ carried-did (events_in ds) (new_editor given)

pub runs_are_as_if_local : RunsAreAsIfLocal
runs_are_as_if_local given es w led none unmarked =
    let x = runs_come_in_order given es w led in
    let same = carried-alone given (doings_of given es) (sym x.files ∙ none) in
    record {
      acted = events_in (doings_of given es);
      are = x.events;
      comes = x.comes.same unmarked ∙ same;
      quiet = λ q. (x.quiet q).same unmarked ∙ same;
      shows = λ f locked opened.
          subst (λ (marked : List ℕ). ShowsFile marked w (carried_all given (events_in (doings_of given es))) f) unmarked
          (subst (λ (editor : PlainEditor). ShowsFile (marked_files es) w editor f) same (x.shows f locked opened));
      refuses = subst (RefusesAs w) same x.refuses;
      marks = x.marks;
    }

none_held : (held : List UserEvent) → is_empty held ≡ true → held ≡ []
none_held held e = grind arith

-- nothing is held either: all that the user did has acted
pub rests : (given : List (List ℕ × List ℕ)) (said : List UserEvent) (w : PlainWorld) → IsAsIfLocal given said w → is_quiet w ≡ true → w.term.held ≡ []
    → at_rest w.host w.term ≡ carried_all given said
rests given said w l q none = l.quiet q ∙ ap (carried_all given) (sym (l.are ∙ ap (λ (es : List UserEvent). l.acted ++ es) none ∙ append-nil l.acted))

pub rest_is_as_if_local : RestIsAsIfLocal
rest_is_as_if_local given es w led e =
    let parts = and_parts (is_quiet w) (is_empty w.term.held) e in
    let x = runs_come_in_order given es w led in
    let all = ap (λ (held : List UserEvent). events_in (doings_of given es) ++ held) (none_held w.term.held parts.1) ∙ append-nil (events_in (doings_of given es)) in
    (x.quiet parts.0, sym all ∙ sym x.events)

pub one_rest_for_all : OneRestForAll
one_rest_for_all given es fs w v r q e a b =
    let x = (rest_is_as_if_local given es w r a).0 in
    let y = (rest_is_as_if_local given fs v q b).0 in (
      x.differs.same ∙ ap (λ (ds : List Doing). without_marks (carried_through given ds)) e ∙ sym y.differs.same,
      λ none nothing. x.same none ∙ ap (carried_through given) e ∙ sym (y.same nothing),
    )

pub alone_in_order : AloneInOrder
alone_in_order given es w led none e =
    let x = runs_come_in_order given es w led in
    alone (doings_of given es) (sym x.files ∙ none) ∙ ap (map Did) (rest_is_as_if_local given es w led e).1

-- ## One world

pub was_as_if_local : (w : PlainWorld) → WasReached w → WasAsIfLocal w
was_as_if_local w r = record { reached = r; is = λ given es led. runs_come_in_order given es w led }

pub ends_as_if_local : (w : PlainWorld) → is_quiet w ≡ true → EndsAsIfLocal w
ends_as_if_local w q given es led = (runs_come_in_order given es w led).quiet q

pub shows_as_if_local : (w : PlainWorld) (f : ℕ) → ShowsAsIfLocal w f
shows_as_if_local w f locked opened given es led = (runs_come_in_order given es w led).shows f locked opened
