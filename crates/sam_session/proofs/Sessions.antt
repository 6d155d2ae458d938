-- What a session of five threads comes to.
use Rattle.sam_session.proofs.Common.{◌≡◌, ◌≢◌, ◌∙◌, ◌⊎◌, inl, inr, ⊎_elim, refl, sym, ap, subst, arith, ℕ, ◌<◌, ◌≤◌, true, false, eqb, List, [], ◌∷◌, ◌++◌, length, map, Option, Some, None, IfSome, append-nil, HFrame, PlainScript, keys_of, mouse_of, Spells, User, Stop, Host, first_cause, of_cause, of_stops, IsWoven, HasAllUsers, PrintsSession, IsThreaded, IsSessionFault, IsThreadsFault, IsUnread, PlayFault, Side, OutOfMemory, Threads}
use Rattle.std.proofs.lemmas.Bool.Decides.{eqb_tells}
use Rattle.std.proofs.lemmas.List.Concat.{flat_map-cons}
use Rattle.sam_term.specs.declared.event.UserEvent.{UserEvent}
use Rattle.sam_term.specs.declared.event.UserEvent.TheVariants.{Exit}
use Rattle.sam_world.specs.Sides.{Each}
use Rattle.sam_crossing.specs.World.{user_events}
use Rattle.sam_local.specs.Local.{carried_all}
use Rattle.sam_script.specs.RunLines.{run_lines_of}
use Rattle.sam_script.specs.Script.{without_lines}
use Rattle.sam_script.specs.Show.{show_lines}
use Rattle.sam_queue.specs.declared.rule.Entry.{Entry}
use Rattle.sam_queue.specs.History.{items_of}
use Rattle.sam_queue.specs.Views.{LineView, PostView}
use Rattle.sam_ends.specs.Inputs.{users_in, user_of_load}
use Rattle.sam_session.specs.Session.{IsSession}
use Rattle.sam_settle.specs.Settled.{stops_of}
use Rattle.sam_ends.specs.WorkerEnds.{IsOwnExit}
use Rattle.sam_ends.specs.declared.ends.Ends.{Ends}
use Rattle.sam_ends.specs.declared.input.Input.{Input}
use Rattle.sam_settle.specs.declared.settled.Settled.{Settled}
use Rattle.sam_ends.specs.declared.stop.Stop.TheVariants as stop
use Rattle.sam_spawn.specs.declared.run.RunFault.{RunFault}
use Rattle.sam_session.specs.Threading.{of_run}
use Rattle.sam_settle.proofs.SettlingLists.{loaded, items_mine, items_other, nothing_joined, split_map, parts_of, senders_within}
use Rattle.sam_settle.proofs.SettlingClauses.{stop_none}
use Rattle.sam_session.proofs.Scripts.{weaker}
use Rattle.sam_modes.specs.Limits.{most_input}

-- ---- the events of keyboard and mouse are woven

-- an entry of the keyboard, of the mouse, and of the host reader, in front of others
keyed : (o : Option Input) (rest : List Input) (keys clicks events : List UserEvent) → loaded o ++ rest ≡ map User keys
    → ((more : List UserEvent) → rest ≡ map User more → IsWoven more clicks events) → IsWoven keys clicks (user_of_load o ++ events)
keyed None rest keys clicks events is then = then keys is
keyed (Some (Host frame)) rest [] clicks events is then = absurd (cc)
keyed (Some (Host frame)) rest (a ∷ keys) clicks events is then = let h : Host frame ≡ User a = cc in absurd (cc)
keyed (Some (User event)) rest [] clicks events is then = absurd (cc)
keyed (Some (User event)) rest (a ∷ keys) clicks events is then = grind arith

clicked : (o : Option Input) (rest : List Input) (keys clicks events : List UserEvent) → loaded o ++ rest ≡ map User clicks
    → ((more : List UserEvent) → rest ≡ map User more → IsWoven keys more events) → IsWoven keys clicks (user_of_load o ++ events)
clicked None rest keys clicks events is then = then clicks is
clicked (Some (Host frame)) rest keys [] events is then = absurd (cc)
clicked (Some (Host frame)) rest keys (a ∷ clicks) events is then = let h : Host frame ≡ User a = cc in absurd (cc)
clicked (Some (User event)) rest keys [] events is then = absurd (cc)
clicked (Some (User event)) rest keys (a ∷ clicks) events is then = grind arith

framed : (o : Option Input) (rest : List Input) (frames : List HFrame) (keys clicks events : List UserEvent) → loaded o ++ rest ≡ map Host frames
    → ((more : List HFrame) → rest ≡ map Host more → IsWoven keys clicks events) → IsWoven keys clicks (user_of_load o ++ events)
framed None rest frames keys clicks events is then = then frames is
framed (Some (User event)) rest (a ∷ frames) keys clicks events is then = let h : User event ≡ Host a = cc in absurd (cc)
framed (Some (Host frame)) rest (a ∷ frames) keys clicks events is then = let tail : rest ≡ map Host frames = cc in then frames tail
framed o rest frames keys clicks events e u = grind arith

unmapped : {A B : Type 0} (f : A → B) (xs : List A) → [] ≡ map f xs → xs ≡ []
unmapped f [] e = refl
unmapped f (x ∷ xs) e = absurd (cc)

-- keyboard and mouse put events and the host reader frames: the user's events among what was taken are those of both, woven
woven : (entries : List (Entry Input)) (keys clicks : List UserEvent) (frames : List HFrame) → Each (λ e. e.sender < 3) entries
    → items_of 0 entries ≡ map User keys → items_of 1 entries ≡ map User clicks → items_of 2 entries ≡ map Host frames → IsWoven keys clicks (users_in entries)
woven [] keys clicks frames within k c f = (unmapped User keys k, unmapped User clicks c)
woven (e ∷ entries) keys clicks frames within k c f =
    subst (λ l. IsWoven keys clicks l) (sym (flat_map-cons (λ (x : Entry Input). user_of_load x.load) e entries))
    (⊎_elim
    (λ (t : (eqb e.sender 0 ≡ true) × (e.sender ≡ 0)).
    let is = t.1 in
    let one = sym (items_other 1 e entries (λ h. omega arith)) ∙ c in
    let two = sym (items_other 2 e entries (λ h. omega arith)) ∙ f in
    keyed e.load (items_of 0 entries) keys clicks (users_in entries) (sym (items_mine 0 e entries is) ∙ k)
    (λ more rest. woven entries more clicks frames within.1 rest one two))
    (λ (t : (eqb e.sender 0 ≡ false) × (e.sender ≢ 0)).
    let none = sym (items_other 0 e entries t.1) ∙ k in
    ⊎_elim
    (λ (u : (eqb e.sender 1 ≡ true) × (e.sender ≡ 1)).
    let is = u.1 in
    let two = sym (items_other 2 e entries (λ h. omega arith)) ∙ f in
    clicked e.load (items_of 1 entries) keys clicks (users_in entries) (sym (items_mine 1 e entries is) ∙ c)
    (λ more rest. woven entries keys more frames within.1 none rest two))
    (λ (u : (eqb e.sender 1 ≡ false) × (e.sender ≢ 1)).
    let less = within.0 in
    let not_zero = t.1 in
    let not_one = u.1 in
    let is : e.sender ≡ 2 = omega arith in
    let one = sym (items_other 1 e entries u.1) ∙ c in
    framed e.load (items_of 2 entries) frames keys clicks (users_in entries) (sym (items_mine 2 e entries is) ∙ f)
    (λ more rest. woven entries keys clicks more within.1 none one rest))
    (eqb_tells e.sender 1))
    (eqb_tells e.sender 0))

-- ---- a session that nothing stopped

-- where there is no fault nothing stopped
none_stopped : (stops : List Stop) → of_stops stops ≡ None → stops ≡ []
none_stopped [] e = refl
none_stopped (why ∷ stops) e = go (first_cause (why ∷ stops)) e
  where
    go : (o : Option Stop) → of_cause o (why ∷ stops) ≡ None → why ∷ stops ≡ []
    go o e = grind arith

-- neither keyboard nor mouse was stopped
users_unstopped : (e : Ends) → stops_of e ≡ [] → (e.keyboard.stop ≡ None) × (e.mouse.stop ≡ None)
users_unstopped e none = grind (arith, nothing_joined, stop_none)

own_exit : (own : List UserEvent) (entries : List (Entry Input)) → IsOwnExit own entries → (own ≡ []) ⊎ (own ≡ Exit ∷ [])
own_exit own entries e = grind arith

all_users : (script : PlainScript) (refuses : ℕ → Type 0) (must : ℕ → Option ℕ → Type 0) (s : Settled) → IsSession script refuses must s → s.stops.items ≡ [] → HasAllUsers script s.schedule.items
all_users script refuses must s session none =
    let e : Ends = session.ends in
    let told = session.told in
    let whole = session.settled.whole none in
    let unstopped = users_unstopped e (sym session.settled.stops ∙ none) in
    let posts : List (PostView Input) = e.keyboard.post ∷ e.mouse.post ∷ e.reader.post ∷ [] in
    let reader = parts_of e.term.take posts session.settled.headline.events 2 e.reader.post refl (omega arith) told.reader.number_is in
    let frames = split_map Host (items_of 2 e.term.take.taken) reader.left told.reader.passed (reader.items ∙ told.reader.put) in
    let many : e.term.take.line.senders ≡ 3 = ap (λ (l : LineView). l.senders) told.term.take_is ∙ told.lines_are.2 in
    let within = subst (λ n. Each (λ (x : Entry Input). x.sender < n) e.term.take.taken) many (senders_within e.term.take posts session.settled.headline.events) in
    let keys = session.settled.drained.keyboard ∙ session.all_keys unstopped.0 in
    let clicks = session.settled.drained.mouse ∙ session.all_clicks unstopped.1 in (
      users_in e.term.take.taken,
      whole.events.0,
      whole.events.1,
      woven e.term.take.taken (keys_of script.lines) (mouse_of script.lines) frames.0 within keys clicks frames.2,
      own_exit whole.events.0 e.term.take.taken whole.events.2,
    )

-- ---- what a session prints, and why it does not

-- `left` is what the session left of the script
pub printed : (script left : PlainScript) (s : Settled) (lines : List ℕ) → IsSession script (λ _. ⊥) (λ _ _. ⊥) s → left ≡ without_lines script → of_stops s.stops.items ≡ None
    → lines ≡ run_lines_of left.files s.schedule.items ++ show_lines s.world → PrintsSession lines script
printed script left s lines session used unstopped is =
    let none = none_stopped s.stops.items unstopped in
    let whole = session.settled.whole none in (
      s.schedule.items,
      s.world,
      subst (λ (l : PlainScript). lines ≡ run_lines_of l.files s.schedule.items ++ show_lines s.world) used is,
      record {
        run = session.run;
        users = all_users script (λ _. ⊥) (λ _ _. ⊥) s session none;
        exited = whole.exited;
        settled = session.settled.headline.quiet s.schedule.items [] s.world (sym (append-nil s.schedule.items)) session.settled.headline.run whole.quiet;
        local = whole.local ∙ ap (λ files. carried_all files (user_events s.schedule.items)) session.files;
      },
    )

-- stops are never the fault of a script or a device
of_cause_is : (cause : Option Stop) (stops : List Stop) (e : PlayFault) → of_cause cause stops ≡ Some e → (P : PlayFault → Type 0) → ((why : Stop) → P (Side why)) → P Threads → P OutOfMemory → P e
of_cause_is cause stops e u P w q y = grind arith

pub not_run : (script : PlainScript) (why : RunFault) (e : PlayFault) → e ≡ of_run why → IsSessionFault script e
not_run script why e is = grind arith

stopped : (script : PlainScript) (s : Settled) (e : PlayFault) → IsSession script (λ _. ⊥) (λ _ _. ⊥) s → of_stops s.stops.items ≡ Some e → IsSessionFault script e
stopped script s e session is =
    of_cause_is (first_cause s.stops.items) s.stops.items e is (λ f. of_stops s.stops.items ≡ Some f → IsSessionFault script f) (λ why same. (s, same, session)) (λ same. tt) (λ same. tt) is

pub not_printed : (script : PlainScript) (s : Settled) (e : PlayFault) → IsSession script (λ _. ⊥) (λ _ _. ⊥) s → (e ≡ OutOfMemory) ⊎ (of_stops s.stops.items ≡ Some e)
    → IsSessionFault script e
not_printed script s e session (inl is) = subst (IsSessionFault script) (sym is) tt
not_printed script s e session (inr is) = stopped script s e session is

-- ---- the session of an input

pub session_shown : (input : Option (List ℕ)) (script : PlainScript) (lines : List ℕ) → IfSome input (λ i. (length i ≤ most_input) × Spells i script) → PrintsSession lines script
    → IfSome input (λ i. IsThreaded i lines)
session_shown input script lines read prints = grind (arith, weaker)

pub session_stops : (input : Option (List ℕ)) (script : PlainScript) (e : PlayFault) → IfSome input (λ i. (length i ≤ most_input) × Spells i script) → IsSessionFault script e
    → IfSome input (λ i. IsThreadsFault i e)
session_stops input script e read stop = grind (arith, weaker)

unread_first : (i : List ℕ) (e : PlayFault) → IsUnread i e → IsThreadsFault i e
unread_first i e u = grind arith

pub no_session : (input : Option (List ℕ)) (e : PlayFault) → IfSome input (λ i. IsUnread i e) → IfSome input (λ i. IsThreadsFault i e)
no_session input e read = weaker input (λ i. IsUnread i e) (λ i. IsThreadsFault i e) (λ i. unread_first i e) read
