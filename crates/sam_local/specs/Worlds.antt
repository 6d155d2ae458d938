-- Runs of the world beside the editor without a network.
use Rattle.std.specs.Prelude.{◌≡◌, ◌⊎◌, ℕ, ◌-◌, ◌==◌, true, false, ◌&&◌, ◌||◌, Bool, if◌then◌else◌, not, List, [], ◌∷◌, ◌++◌, length, map, take, Some, is_some, option_map, unwrap_or}
use Rattle.sam_runes.specs.Texts.{is_empty}
use Rattle.sam_runes.specs.Checks.{first_of_checks}
use Rattle.sam_rasp.specs.Rasp.{Agrees}
use Rattle.sam_text.specs.Files.{file_at}
use Rattle.sam_host.specs.Laws.{AreGiven}
use Rattle.sam_term.specs.declared.event.UserEvent.{UserEvent}
use Rattle.sam_term.specs.declared.event.UserEvent.TheVariants.{Check, Close, Cut, Dclick, Edit, Exit, GetSnarf, Load, Look, New, Open, OpenCmd, Paste, Scroll, Search, Select, Send, SetSnarf, Snarf, Typed, Version, View, Work, Write}
use Rattle.sam_term.specs.declared.event.UserEvent.TheVariants as event
use Rattle.sam_term.specs.declared.event.Verdict.TheVariants.{Waits}
use Rattle.sam_term.specs.Term.{PlainTerminal, event_checks, is_open, known_at, window_at}
use Rattle.sam_mesg.specs.declared.tmesg.Tmesg.{Tmesg}
use Rattle.sam_host.specs.Host.{PlainHost}
use Rattle.sam_crossing.specs.declared.event.Event.{Event}
use Rattle.sam_crossing.specs.declared.event.Event.TheVariants.{User, Add, Mark, Act, Flush, HostTake, TermTake}
use Rattle.sam_crossing.specs.Joining.{is_heard}
use Rattle.sam_crossing.specs.World.{PlainWorld, WasReached, new_world, step_of, run_of, is_quiet, is_locked, mesgs, user_events, joined_files, marked_files}
use Rattle.sam_local.specs.Local.{PlainEditor, AreMarkedAlike, IsButDirty, Doing, Did, Joined, at_rest, come_to, carried_all, carried_through, events_in, files_in, without_marks}

-- what the world comes to where nothing new is begun
abbrev pub outlook : PlainWorld → PlainEditor
outlook w = come_to w.host w.term w.up (mesgs w.down)

-- nothing is unsent, under way, or held
abbrev pub is_at_rest : PlainWorld → Bool
is_at_rest w = is_quiet w && is_empty w.term.held

-- the file is one of these
abbrev pub is_among : List ℕ → ℕ → Bool
is_among [] f = false
is_among (g ∷ gs) f = f == g || is_among gs f

-- An open file that is not locked is shown as in this editor: its name, its marks, its dot and its view, and its runes as far as they are
-- loaded. Of a file that was marked as dirty only the host's mark may be another
pub record ShowsFile (marked : List ℕ) (w : PlainWorld) (editor : PlainEditor) (f : ℕ) : Type 0 where
  pub opened : is_open editor.term f ≡ true
  pub runes : Agrees (window_at w.term f).rasp (file_at editor.host.files f).text
  pub dot : (window_at w.term f).dot ≡ (window_at editor.term f).dot
  pub view_start : (window_at w.term f).view_start ≡ (window_at editor.term f).view_start
  pub view_length : (window_at w.term f).view_length ≡ (window_at editor.term f).view_length
  pub name : (known_at w.term f).name ≡ (known_at editor.term f).name
  pub dirty : is_among marked f ≡ false → (known_at w.term f).dirty ≡ (known_at editor.term f).dirty
  pub changed : (known_at w.term f).changed ≡ (known_at editor.term f).changed

-- an event waits in this world, or just what stands against it in this editor stands against it here: nothing, or the same refusal
abbrev pub RefusesAs : PlainWorld → PlainEditor → Type 0
RefusesAs w editor =
    (e : UserEvent)
    → (first_of_checks (event_checks w.term e) ≡ Some Waits)
    ⊎ (first_of_checks (event_checks w.term e) ≡ first_of_checks (event_checks editor.term e))

-- ## The order of what was done

-- Where the files that join come among the events. `settled` is what the host has told the place of; `since` are the events that have
-- acted or were refused after that. A file joins between the two: before each event whose message the host has still to take, and after
-- each whose answer could tell which files there are
pub record Order : Type 0 where
  pub settled : List Doing
  pub since : List UserEvent

abbrev pub in_order : Order → List Doing
in_order o = o.settled ++ map Did o.since

-- the events that were held and are so no longer
abbrev pub let_go : PlainWorld → PlainWorld → List UserEvent
let_go w next = take (length w.term.held - length next.term.held) w.term.held

-- the host, which is not done, takes a Tversion or a Tstartnewfile
abbrev pub hears_first : PlainHost → List Tmesg → Bool
hears_first h [] = false
hears_first h (m ∷ ms) = is_heard h m

-- the order once an event has led from w to next
abbrev pub order_after : PlainWorld → Event → PlainWorld → Order → Order
order_after w (User e) next o = o
order_after w (Add name text) next o = record o { settled = o.settled ++ Joined (name, text) ∷ [] }
order_after w (Mark f) next o = o
order_after w Act next o = record o { since = o.since ++ let_go w next }
order_after w Flush next o = o
order_after w HostTake next o = if hears_first w.host w.up then record { settled = in_order o; since = [] } else o
order_after w TermTake next o = o

abbrev pub order_on : PlainWorld → List Event → Order → Order
order_on w [] o = o
order_on w (e ∷ es) o = unwrap_or (option_map (λ next. order_on next es (order_after w e next o)) (step_of w e)) o

-- all that was done in a run from these files, in its order: the events that have acted or were refused, and the files that joined
abbrev pub doings_of : List (List ℕ × List ℕ) → List Event → List Doing
doings_of given es = in_order (order_on (new_world given) es (record { settled = []; since = [] }))

-- ## Files that are marked

-- the event writes or closes the file
abbrev pub undoes : ℕ → UserEvent → Bool
undoes f (Typed g s) = false
undoes f (Select g p q) = false
undoes f (Cut g) = false
undoes f (Paste g) = false
undoes f (Snarf g) = false
undoes f (Look g) = false
undoes f (Search g) = false
undoes f (Send g) = false
undoes f (Dclick g p) = false
undoes f (Scroll g n) = false
undoes f (View g p n) = false
undoes f (Load g p n) = false
undoes f (Edit g p q s) = false
undoes f (Open g) = false
undoes f (Close g) = f == g
undoes f (Write g) = f == g
undoes f (Work g) = false
undoes f OpenCmd = false
undoes f New = false
undoes f Exit = false
undoes f (Check g) = false
undoes f GetSnarf = false
undoes f (SetSnarf s) = false
undoes f (Version v) = false
undoes f event.Flush = false

-- so does the oldest event that is held, and nothing stands against it
abbrev pub is_undone : PlainTerminal → List UserEvent → ℕ → Bool
is_undone t [] f = false
is_undone t (e ∷ es) f = not (is_some (first_of_checks (event_checks t e))) && undoes f e

-- the files that were marked and not written or closed since, once an event has led on from w
abbrev pub unwritten_after : PlainWorld → Event → (ℕ → Bool) → ℕ → Bool
unwritten_after w (User e) files = files
unwritten_after w (Add name text) files = files
unwritten_after w (Mark g) files = λ f. files f || f == g
unwritten_after w Act files = λ f. files f && not (is_undone w.term w.term.held f)
unwritten_after w Flush files = files
unwritten_after w HostTake files = files
unwritten_after w TermTake files = files

abbrev pub unwritten_on : PlainWorld → List Event → (ℕ → Bool) → ℕ → Bool
unwritten_on w [] files = files
unwritten_on w (e ∷ es) files = unwrap_or (option_map (λ next. unwritten_on next es (unwritten_after w e files)) (step_of w e)) files

-- the files that were marked in a run from these files, and of which no write and no close has acted since
abbrev pub unwritten : List (List ℕ × List ℕ) → List Event → ℕ → Bool
unwritten given es = unwritten_on (new_world given) es (λ f. false)

-- ## Where the world comes to

-- The editor is where the doings in the run of these events lead the editor without a network, but that files which were marked in the
-- run, and not written or closed since, may be dirty. Where none was marked it is just that
pub record IsWhereDone (given : List (List ℕ × List ℕ)) (es : List Event) (editor : PlainEditor) : Type 0 where
  pub dirt : ℕ → Bool
  pub only : (f : ℕ) → dirt f ≡ true → unwritten given es f ≡ true
  pub differs : IsButDirty dirt editor (carried_through given (doings_of given es))
  pub same : marked_files es ≡ [] → editor ≡ carried_through given (doings_of given es)

-- These events led from these files to w. What w comes to is where its doings, in their order, lead the editor without a network, but for
-- files that were marked as dirty. The doings are all files that joined, and all that the user did but what is still held; an event that
-- is refused does nothing there, too. Where nothing is unsent or under way, both sides are that, but for what `at_rest` forgets, and the
-- terminal has the host's names and marks. An open file that is not locked is shown as there. And whatever the user does next waits, or is
-- refused where and for what it is refused there
pub record ComesInOrder (given : List (List ℕ × List ℕ)) (es : List Event) (w : PlainWorld) : Type 0 where
  pub events : user_events es ≡ events_in (doings_of given es) ++ w.term.held
  pub files : joined_files es ≡ files_in (doings_of given es)
  pub comes : IsWhereDone given es (outlook w)
  pub quiet : is_quiet w ≡ true → IsWhereDone given es (at_rest w.host w.term)
  pub shows : (f : ℕ) → is_locked w.term f ≡ false → is_open w.term f ≡ true
      → ShowsFile (marked_files es) w (carried_through given (doings_of given es)) f
  pub refuses : RefusesAs w (carried_through given (doings_of given es))
  pub marks : is_quiet w ≡ true → AreMarkedAlike w.host w.term

-- So it is where no file joins or is marked: the user has done all of `said` on the way from these files to w, and what has acted of it or
-- was refused, all but what is still held, has done to what w comes to just what it does to the editor without a network
pub record IsAsIfLocal (given : List (List ℕ × List ℕ)) (said : List UserEvent) (w : PlainWorld) : Type 0 where
  pub acted : List UserEvent
  pub are : said ≡ acted ++ w.term.held
  pub comes : outlook w ≡ carried_all given acted
  pub quiet : is_quiet w ≡ true → at_rest w.host w.term ≡ carried_all given acted
  pub shows : (f : ℕ) → is_locked w.term f ≡ false → is_open w.term f ≡ true → ShowsFile [] w (carried_all given acted) f
  pub refuses : RefusesAs w (carried_all given acted)
  pub marks : is_quiet w ≡ true → AreMarkedAlike w.host w.term

-- ## One world

-- a run from files within the limits led to w
pub record HasLed (given : List (List ℕ × List ℕ)) (es : List Event) (w : PlainWorld) : Type 0 where
  pub limits : AreGiven given
  pub run : run_of (new_world given) es ≡ Some w

-- whichever run led to w, both sides are where what was done in it leads the editor without a network, but for what `at_rest` forgets, and
-- for files that were marked as dirty
abbrev pub EndsAsIfLocal : PlainWorld → Type 0
EndsAsIfLocal w =
    (given : List (List ℕ × List ℕ)) (es : List Event) → HasLed given es w
    → IsWhereDone given es (at_rest w.host w.term)

-- whichever run led to w, an open file that is not locked is shown as what was done in it leaves it in the editor without a network
abbrev pub ShowsAsIfLocal : PlainWorld → ℕ → Type 0
ShowsAsIfLocal w f =
    is_locked w.term f ≡ false → is_open w.term f ≡ true
    → (given : List (List ℕ × List ℕ)) (es : List Event) → HasLed given es w
    → ShowsFile (marked_files es) w (carried_through given (doings_of given es)) f

-- some run from files within the limits led to w, and w is as if there were no network
pub record WasAsIfLocal (w : PlainWorld) : Type 0 where
  pub reached : WasReached w
  pub is : (given : List (List ℕ × List ℕ)) (es : List Event) → HasLed given es w → ComesInOrder given es w

-- ## The laws

-- at every moment of every run
abbrev pub RunsComeInOrder : Type 0
RunsComeInOrder =
    (given : List (List ℕ × List ℕ)) (es : List Event) (w : PlainWorld) → HasLed given es w → ComesInOrder given es w

-- at every moment of every run in which no file joins or is marked
abbrev pub RunsAreAsIfLocal : Type 0
RunsAreAsIfLocal =
    (given : List (List ℕ × List ℕ)) (es : List Event) (w : PlainWorld) → HasLed given es w
    → joined_files es ≡ [] → marked_files es ≡ []
    → IsAsIfLocal given (user_events es) w

-- at rest both sides are where the same doings without a network end, but for what `at_rest` forgets and for files that were marked, and
-- these doings have all events of the user
abbrev pub RestIsAsIfLocal : Type 0
RestIsAsIfLocal =
    (given : List (List ℕ × List ℕ)) (es : List Event) (w : PlainWorld) → HasLed given es w → is_at_rest w ≡ true
    → IsWhereDone given es (at_rest w.host w.term) × (events_in (doings_of given es) ≡ user_events es)

-- so two runs in which the same was done in the same order, at rest, differ in nothing else but which files are dirty; and not in that,
-- where none was marked
abbrev pub OneRestForAll : Type 0
OneRestForAll =
    (given : List (List ℕ × List ℕ)) (es fs : List Event) (w v : PlainWorld)
    → HasLed given es w → HasLed given fs v → doings_of given es ≡ doings_of given fs
    → is_at_rest w ≡ true → is_at_rest v ≡ true
    → (without_marks (at_rest w.host w.term) ≡ without_marks (at_rest v.host v.term))
    × (marked_files es ≡ [] → marked_files fs ≡ [] → at_rest w.host w.term ≡ at_rest v.host v.term)

-- where no file joins, this is the order of the user's events
abbrev pub AloneInOrder : Type 0
AloneInOrder =
    (given : List (List ℕ × List ℕ)) (es : List Event) (w : PlainWorld) → HasLed given es w
    → joined_files es ≡ [] → is_at_rest w ≡ true → doings_of given es ≡ map Did (user_events es)
