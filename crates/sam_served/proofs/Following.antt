-- What follows for a session with crashes from what holds of one without.
use Rattle.std.proofs.Common.{ℕ, List, [], ◌++◌, flat_map, sym, ap, ◌∙◌, append-nil}
use Rattle.sam_link.proofs.Meeting.{honest_meet}
use Rattle.sam_link.proofs.SessionLaws.{links_carry}
use Rattle.sam_link.specs.Sessions.{Session}
use Rattle.sam_joined.proofs.Linking.{linked_are_one_run}
use Rattle.sam_served.specs.Sessions.{CrashedAreOneRun, CrashesCarry, ServedAreOneRun, ServedFindNoFault}
use Rattle.sam_served.proofs.Serving.{served_are_sessions, served_role}
use Rattle.sam_host.specs.Laws.{AreGiven}
use Rattle.sam_link.specs.Calls.Call.{Answer}
use Rattle.sam_endpoint.specs.HostRuns.{came_in}
use Rattle.sam_served.proofs.Crashing.{all_run, crashes_are_breaks, first_runs, host_role}
use Rattle.sam_served.proofs.Likes.{like_follows}
use Rattle.sam_served.specs.Crashes.{new_durable_session}

pub crashes_carry : CrashesCarry
crashes_carry id events w fine leads =
    let l = crashes_are_breaks id events w leads in
    let s : Session = record w.session { host = l.1 } in
    let r = all_run id events (new_durable_session id) w (first_runs id) leads in
    let c = links_carry id l.0 s fine l.2 in
    record {
      carries = record { up = c.up; down = c.down };
      host = λ call next does. let f = like_follows call w.session.host l.1 next (host_role id w r) l.3 does in
          (honest_meet id l.0 s call f.to fine l.2).1 f.does;
      terminal = λ call next. (honest_meet id l.0 s call next fine l.2).0;
    }

pub crashed_are_one_run : CrashedAreOneRun
crashed_are_one_run given id events w host_calls term_calls e g fit host_runs term_runs fine leads l =
    let m = crashes_are_breaks id events w leads in
    linked_are_one_run given id m.0 (record w.session { host = m.1 }) host_calls term_calls e g fit host_runs term_runs fine m.2
    (record { term_puts = l.term_puts; host_takes = l.host_takes; host_puts = l.host_puts; term_takes = l.term_takes })

-- ## Servers

pub served_find_no_fault : ServedFindNoFault
served_find_no_fault id events w hello answer next fine leads from does =
    let x = served_are_sessions id events w leads in
    let s : Session = record { terminal = w.terminal; host = x.host; terminal_calls = w.terminal_calls; host_calls = x.host_calls } in
    let f = like_follows (Answer hello answer) w.server.link x.host next (served_role id events w leads) x.like does in
    (honest_meet id x.steps s (Answer hello answer) f.to fine x.leads).1 f.does from

pub served_are_one_run : ServedAreOneRun
served_are_one_run id events w term_calls g fine leads term_runs puts takes =
    let x = served_are_sessions id events w leads in
    let s : Session = record { terminal = w.terminal; host = x.host; terminal_calls = w.terminal_calls; host_calls = x.host_calls } in
    let given : AreGiven [] = tt in
    let all = linked_are_one_run [] id x.steps s x.answers term_calls w.server.host g given x.runs term_runs fine x.leads
    (record {
      term_puts = puts;
      host_takes = record { rest = []; is = sym x.took ∙ sym (append-nil (flat_map came_in x.answers)) };
      host_puts = record { rest = w.server.host.pending_bytes; is = ap (λ (l : List ℕ). l ++ w.server.host.pending_bytes) (sym x.put_all) };
      term_takes = takes;
    }) in
    (x.answers, x.asides, all.0, all.1, all.2, all.3, all.4, all.5)
