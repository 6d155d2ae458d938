-- Two links between two endpoints are one line.
use Rattle.std.proofs.Common.{◌≡◌, refl, sym, ap, ◌∙◌, ℕ, Bool, true, false, ◌&&◌, List, [], ◌∷◌, ◌++◌, append_assoc, append-nil, arith, flat_map}
use Rattle.std.proofs.lemmas.Grind.{flat_map-append}
use Rattle.sam_runes.specs.Texts.{is_empty}
use Rattle.sam_link.specs.Calls.{Item, byte_of, bytes_of, handed, put, waits}
use Rattle.sam_link.specs.Meeting.{IsAllDown, IsAllUp}
use Rattle.sam_link.specs.Sessions.{Session, StartsWith}
use Rattle.sam_link.proofs.Meeting.{carried_is_all}
use Rattle.sam_link.proofs.SessionLaws.{links_carry}
use Rattle.sam_link.proofs.Turns.{turns_deliver}
use Rattle.sam_term.specs.declared.event.UserEvent.{UserEvent}
use Rattle.sam_endpoint.specs.HostEndpoints.{PlainHostEndpoint}
use Rattle.sam_endpoint.specs.HostRuns.{Call as HostCall, asides_by}
use Rattle.sam_endpoint.specs.TermEndpoints.{PlainTermEndpoint}
use Rattle.sam_endpoint.specs.TermRuns.{Call as TermCall, put_in}
use Rattle.sam_crossing.specs.World.{PlainWorld, is_quiet}
use Rattle.sam_local.specs.Local.{Did, Doing, Joined, PlainEditor, carried, carried_all, carried_on, carried_through, done_on, events_in, files_in, new_editor, clean_files}
use Rattle.sam_local.specs.Worlds.{doings_of, is_at_rest}
use Rattle.sam_apart.specs.Apart.{Asides, joined_in, marked_in}
use Rattle.sam_rest.specs.Rest.{HasRoom, IsDone}
use Rattle.sam_joined.specs.Calls.{Carry}
use Rattle.sam_joined.specs.Joined.{AreAsIfLocal, AreCarried, AreOneRun, IsAllCarried, both}
use Rattle.sam_joined.specs.Linked.{GoodLineCarries, HaveDone, HaveMoved, IsInTheText, LinkedAreOneRun, LinksAreOneLine, MovedIsCarried, NoCallStopsTheLinkedHost, NoCallStopsTheLinkedTerminal, TypedIsInTheText}
use Rattle.sam_joined.proofs.Calling.{calls_are_carried, no_call_stops_host, no_call_stops_term}
use Rattle.sam_joined.proofs.Carrying.{as_if_local, never_stuck}
use Rattle.sam_joined.proofs.Joining.{go_on, one_run}

-- first bytes of what went in at one side, then the link, then first bytes of what comes out at the other side
one_line : (went came : List ℕ) (puts takes : List Item) → StartsWith went (bytes_of puts) → StartsWith puts takes → StartsWith (bytes_of takes) came
    → StartsWith went came
one_line went came puts takes a b c = record {
  rest = c.rest ++ (bytes_of b.rest ++ a.rest);
  is = a.is ∙ ap (λ l. l ++ a.rest) (ap bytes_of b.is ∙ flat_map-append byte_of takes b.rest ∙ ap (λ l. l ++ bytes_of b.rest) c.is)
      ∙ grind (arith, append_assoc);
}

all_moved : (went came : List ℕ) (puts takes waiting : List Item) → went ≡ bytes_of puts → puts ≡ takes ++ waiting → bytes_of waiting ≡ [] → bytes_of takes ≡ came
    → went ≡ came ++ []
all_moved went came puts takes waiting a b none c =
    a ∙ ap bytes_of b ∙ flat_map-append byte_of takes waiting ∙ ap (λ l. bytes_of takes ++ l) none ∙ ap (λ l. l ++ []) c

pub links_are_one_line : LinksAreOneLine
links_are_one_line id steps s host_calls term_calls e g fine leads l =
    let c = links_carry id steps s fine leads in
    let up = one_line _ _ (put s.terminal_calls) (handed s.host_calls) l.term_puts c.up l.host_takes in
    let down = one_line _ _ (put s.host_calls) (handed s.terminal_calls) l.host_puts c.down l.term_takes in
    (up.rest, down.rest, record { upwards = up.is; downwards = down.is })

-- each direction, where all that was put came out or waits, and nothing waits
moved_all : (s : Session) (host_calls : List HostCall) (term_calls : List TermCall) (e : PlainHostEndpoint) (g : PlainTermEndpoint)
    → IsAllUp s → IsAllDown s → HaveMoved host_calls term_calls e g s → Carry host_calls term_calls [] [] e g
moved_all s host_calls term_calls e g up down m = record {
  upwards = all_moved _ _ (put s.terminal_calls) (handed s.host_calls) (waits s.host.waiting) m.term_put_all up m.none_wait_up m.host_took_all;
  downwards = all_moved _ _ (put s.host_calls) (handed s.terminal_calls) (waits s.terminal.waiting) m.host_put_all down m.none_wait_down m.term_took_all;
}

pub moved_is_carried : MovedIsCarried
moved_is_carried id steps s host_calls term_calls e g fine leads m =
    let c = carried_is_all id steps s fine leads m.carried in moved_all s host_calls term_calls e g c.up c.down m.moved

pub good_line_carries : GoodLineCarries
good_line_carries id steps s z host_calls term_calls e g fine leads turns moved =
    let all = turns_deliver id steps s z fine leads turns in moved_all z host_calls term_calls e g all.0 all.1 moved

pub linked_are_one_run : LinkedAreOneRun
linked_are_one_run given id steps s host_calls term_calls e g fit host_runs term_runs fine leads l =
    let line = links_are_one_line id steps s host_calls term_calls e g fine leads l in
    let c = calls_are_carried given host_calls term_calls line.0 line.1 e g fit host_runs term_runs line.2 in
    let files = flat_map asides_by host_calls in
    let said = flat_map put_in term_calls in
    let run = one_run given files said line.0 line.1 e g c in
    (line.0, line.1, c, run, go_on given files said line.0 line.1 e g c, as_if_local given files said line.0 line.1 e g c run)

pub no_call_stops_linked_host : NoCallStopsTheLinkedHost
no_call_stops_linked_host given id steps s host_calls last term_calls why k e g fit host_runs stops term_runs fine leads l =
    let line = links_are_one_line id steps s (host_calls ++ last ∷ []) term_calls e g fine leads l in
    let stopped = no_call_stops_host given host_calls last term_calls line.0 line.1 why k e g fit host_runs stops term_runs line.2 in
    (stopped.0, stopped.1, stopped.2, line.1, stopped.3, stopped.4)

pub no_call_stops_linked_term : NoCallStopsTheLinkedTerminal
no_call_stops_linked_term given id steps s host_calls term_calls last why e k g fit host_runs term_runs stops fine leads l =
    let line = links_are_one_line id steps s host_calls (term_calls ++ last ∷ []) e g fine leads l in
    let stopped = no_call_stops_term given host_calls term_calls last line.0 line.1 why e k g fit host_runs term_runs stops line.2 in
    (stopped.0, stopped.1, line.0, stopped.2, stopped.3, stopped.4)

-- ## What was typed

no_files : (ds : List Doing) (editor : PlainEditor) → files_in ds ≡ [] → done_on editor ds ≡ carried_on editor (events_in ds)
no_files [] editor none = refl
no_files (Did e ∷ ds) editor none = no_files ds (carried editor e) none
no_files (Joined file ∷ ds) editor none = absurd (cc)

no_events : (held : List UserEvent) (quiet : Bool) → (quiet && is_empty held) ≡ true → held ≡ []
no_events [] quiet rests = refl
no_events (e ∷ held) true rests = cc
no_events (e ∷ held) false rests = cc

none_held : (w : PlainWorld) → is_at_rest w ≡ true → w.term.held ≡ []
none_held w rests = no_events w.term.held (is_quiet w) rests

module _ (given : List (List ℕ × List ℕ)) (asides : Asides) (said : List UserEvent) (e : PlainHostEndpoint) (g : PlainTermEndpoint)
    (c : AreCarried given asides said [] [] e g) (d : HaveDone e g) (room : HasRoom (both e g)) where
  all_carried : IsAllCarried [] [] e g
  all_carried = record { none_up = refl; none_down = refl; host_idle = d.host_idle; term_idle = d.term_idle; none_unsent = d.none_unsent }

  pub is_done : IsDone (both e g)
  is_done = never_stuck given asides said [] [] e g c all_carried d.quiet room

  module _ (run : AreOneRun given asides said [] [] e g) where
    abbrev doings : List Doing
    doings = doings_of given run.events

    local : AreAsIfLocal run
    local = as_if_local given asides said [] [] e g c run

    acted : said ≡ events_in doings
    acted = local.events ∙ ap (λ (held : List UserEvent). events_in doings ++ held) (none_held (both e g) is_done.rests) ∙ append-nil (events_in doings)

    made : clean_files e.host.files ≡ clean_files (carried_through given doings).host.files
    made = ap (λ (editor : PlainEditor). editor.host.files) (local.carried all_carried).differs.same

    just : marked_in asides ≡ [] → e.host.files ≡ (carried_through given doings).host.files
    just none = ap (λ (editor : PlainEditor). editor.host.files) ((local.carried all_carried).same (sym local.marked ∙ none))

    -- where no file joined, these doings are what the user did
    users : joined_in asides ≡ [] → carried_through given doings ≡ carried_all given said
    users none = no_files doings (new_editor given) (sym local.files ∙ none) ∙ ap (carried_all given) (sym acted)

    pub in_the_text : IsInTheText run
    in_the_text = record {
      events = acted;
      files = made;
      marks = just;
      alone = λ none. (
        made ∙ ap (λ (editor : PlainEditor). clean_files editor.host.files) (users none),
        λ unmarked. just unmarked ∙ ap (λ (editor : PlainEditor). editor.host.files) (users none),
      );
    }

pub typed_is_in_the_text : TypedIsInTheText
typed_is_in_the_text given id steps s z host_calls term_calls e g fit host_runs term_runs fine leads turns moved done room =
    let line = good_line_carries id steps s z host_calls term_calls e g fine leads turns moved in
    let c = calls_are_carried given host_calls term_calls [] [] e g fit host_runs term_runs line in
    let files = flat_map asides_by host_calls in
    let said = flat_map put_in term_calls in
    (one_run given files said [] [] e g c, is_done given files said e g c done room, λ run. in_the_text given files said e g c done room run)
