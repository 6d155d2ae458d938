-- A turn that takes a record again.
use Rattle.std.proofs.Common.{◌≡◌, ℕ, List, true, false, Some, Option, Result, Ok, Err, sym, ap, ◌∙◌, subst, arith}
use Rattle.sam_runes.specs.Checks.{first_of_checks}
use Rattle.sam_link.specs.Calls.{Does}
use Rattle.sam_link.specs.Calls.Call.{Acknowledge, Ask, Feed, PutNote}
use Rattle.sam_link.specs.End.{End, AnswersBy, refusal_of}
use Rattle.sam_link.specs.declared.fault.FeedFault.{FeedFault}
use Rattle.sam_link.specs.declared.fault.FeedFault.TheVariants as feeds
use Rattle.sam_link.specs.declared.fault.NoteFault.{NoteFault}
use Rattle.sam_link.specs.declared.fault.NoteFault.TheVariants as notes
use Rattle.sam_link.specs.declared.hello.Hello.{Hello}
use Rattle.sam_link.specs.declared.hello.Refusal.{Refusal}
use Rattle.sam_link.specs.declared.keeping.PutFault.{PutFault}
use Rattle.sam_link.specs.declared.keeping.PutFault.TheVariants as puts
use Rattle.sam_link.specs.declared.phase.Role.{Role}
use Rattle.sam_link.specs.declared.phase.Role.TheVariants.{Host, Terminal}
use Rattle.sam_link.proofs.Feeds.{one_feed}
use Rattle.sam_host.specs.Marking.{mark_checks}
use Rattle.sam_host.specs.declared.fault.MarkFault.{MarkFault}
use Rattle.sam_host.specs.declared.fault.MarkFault.TheVariants as marks
use Rattle.sam_endpoint.specs.HostEndpoints.{Adds, IsAddFault, IsMarkFault, Marks, PlainHostEndpoint, add_checks}
use Rattle.sam_endpoint.specs.declared.fault.AddFault.{AddFault}
use Rattle.sam_endpoint.specs.declared.fault.AddFault.TheVariants as adds
use Rattle.sam_server.specs.HostLinks.{Answered}
use Rattle.sam_server.specs.Records.{Acknowledged, Asked, Called, Came, Done, Joined, Marked, Said, PlainRecord, Spells}
use Rattle.sam_server.specs.Recovering.{Refinished, Retaken, Retakes, told_of_add, told_of_feed, told_of_mark, told_of_note, told_of_put, told_of_turn}
use Rattle.sam_server.specs.Servers.{Server, Takes, all_given}
use Rattle.sam_server.specs.Turns.{DroppedEffect, Finished, Finishes, IsResting, PlainTurn, hosted, linked}
use Rattle.sam_server.specs.declared.recovery.RecoveryFault.{RecoveryFault}
use Rattle.sam_server.specs.declared.recovery.RecoveryFault.TheVariants as fault
use Rattle.sam_server.specs.declared.turn.TurnFault.{TurnFault}
use Rattle.sam_server.specs.declared.turn.TurnFault.TheVariants as turns
use Rattle.sam_server.proofs.DurableServers.{answered_waits, came_back, came_leads, done_back, done_leads, joined_rests, linked_rests, marked_back, marked_leads}

-- ## The rest of a turn

pub refinished : (t u : PlainTurn) (why : TurnFault) → Finished t (Err why) u → Refinished t (Err (told_of_turn why)) u
refinished t u turns.OutOfMemory ends = tt
refinished t u (turns.Stopped why) ends = ends

-- what is left of a turn leads where its record leads, and nowhere else
retaken_by : (t m u : PlainTurn) (r : PlainRecord) (result : Result (Unit {0}) RecoveryFault)
    → ((z : Server) → Finishes m z → Takes t.server r z) → ((z : Server) → Takes t.server r z → Finishes m z)
    → Refinished m result u → Retaken t r result u
retaken_by t m u r (Ok done) leads back ends = (leads u.server ends.0, ends.1)
retaken_by t m u r (Err fault.NotTaken) leads back ends = λ z takes. ends z (back z takes)
retaken_by t m u r (Err fault.OutOfMemory) leads back ends = tt
retaken_by t m u r (Err fault.NoRecord) leads back ends = ends

-- ## Files

pub joined_again : (t u : PlainTurn) (name text : List ℕ) (tag : ℕ) → IsResting t → u ≡ hosted t u.server.host
    → Adds t.server.host name text (Ok tag) u.server.host → Retaken t (Joined name text) (Ok tt) u
joined_again t u name text tag rests is does =
    ((tag, u.server.host, does, ap (λ (x : PlainTurn). x.server) is), joined_rests t u name text tag rests is does)

-- a file that is refused for another reason than memory may not join
add_not : (e k : PlainHostEndpoint) (name text : List ℕ) (tag : ℕ) (why : AddFault)
    → IsAddFault (first_of_checks (add_checks e name text)) why → Adds e name text (Ok tag) k → why ≡ adds.OutOfMemory
add_not e k name text tag why is does = subst (λ (x : Option AddFault). IsAddFault x why) does.1 is

pub joined_not : (t u : PlainTurn) (name text : List ℕ) (why : AddFault) → Adds t.server.host name text (Err why) u.server.host
    → Retaken t (Joined name text) (Err (told_of_add why)) u
joined_not t u name text adds.OutOfMemory is = tt
joined_not t u name text adds.NotText is =
    λ z takes. let e = add_not t.server.host takes.1 name text takes.0 adds.NotText is.0 takes.2 in cc
joined_not t u name text adds.TooLong is =
    λ z takes. let e = add_not t.server.host takes.1 name text takes.0 adds.TooLong is.0 takes.2 in cc
joined_not t u name text adds.NoTag is =
    λ z takes. let e = add_not t.server.host takes.1 name text takes.0 adds.NoTag is.0 takes.2 in cc

pub marked_again : (t m u : PlainTurn) (f : ℕ) (result : Result (Unit {0}) RecoveryFault) → IsResting t → m ≡ hosted t m.server.host
    → Marks t.server.host f (Ok tt) m.server.host → Refinished m result u → Retaken t (Marked f) result u
marked_again t m u f result rests is does ends =
    retaken_by t m u (Marked f) result
    (λ z left. marked_leads t m.server.host f z rests does (subst (λ (x : PlainTurn). Finishes x z) is left))
    (λ z takes. subst (λ (x : PlainTurn). Finishes x z) (sym is) (marked_back t m.server.host f z rests does takes)) ends

mark_not : (e k : PlainHostEndpoint) (f : ℕ) (why : MarkFault) → IsMarkFault (first_of_checks (mark_checks e.host f)) why
    → Marks e f (Ok tt) k → why ≡ marks.OutOfMemory
mark_not e k f why is does = subst (λ (x : Option MarkFault). IsMarkFault x why) does.0 is

pub marked_not : (t u : PlainTurn) (f : ℕ) (why : MarkFault) → Marks t.server.host f (Err why) u.server.host
    → Retaken t (Marked f) (Err (told_of_mark why)) u
marked_not t u f marks.OutOfMemory is = tt
marked_not t u f marks.NoFile is = λ z takes. let e = mark_not t.server.host takes.0 f marks.NoFile is.0 takes.1 in cc
marked_not t u f marks.CommandFile is = λ z takes. let e = mark_not t.server.host takes.0 f marks.CommandFile is.0 takes.1 in cc
marked_not t u f marks.NotAnnounced is = λ z takes. let e = mark_not t.server.host takes.0 f marks.NotAnnounced is.0 takes.1 in cc

-- ## The link

pub called_again : (t u : PlainTurn) (h : Hello) → IsResting t → u ≡ linked t u.server.link
    → Answered t.server.link h (Ok tt) u.server.link → Retaken t (Called h) (Ok tt) u
called_again t u h rests is does = (
  (u.server.link, does, ap (λ (x : PlainTurn). x.server) is),
  subst IsResting (sym is)
      (linked_rests t u.server.link (answered_waits t.server.link.role t.server.link u.server.link h does) rests),
)

answers_not : (role : Role) (e n : End) (h : Hello) (why : Refusal) → refusal_of e h ≡ Some why → AnswersBy role e h (Ok tt) n → ⊥
answers_not Host e n h why is does = cc (sym is ∙ does.0)
answers_not Terminal e n h why is does = does

pub called_not : (t u : PlainTurn) (h : Hello) (why : Refusal) → Answered t.server.link h (Err why) u.server.link
    → Retaken t (Called h) (Err fault.NotTaken) u
called_not t u h why is = λ z takes. answers_not t.server.link.role t.server.link takes.0 h why is.0 takes.1

pub came_again : (t m u : PlainTurn) (attempt : ℕ) (piece : List ℕ) (result : Result (Unit {0}) RecoveryFault) → IsResting t
    → m ≡ linked t m.server.link → Does t.server.link (Feed attempt piece (Ok tt)) m.server.link → Refinished m result u
    → Retaken t (Came attempt piece) result u
came_again t m u attempt piece result rests is does ends =
    retaken_by t m u (Came attempt piece) result
    (λ z left. came_leads t m.server.link attempt piece z rests does (subst (λ (x : PlainTurn). Finishes x z) is left))
    (λ z takes. subst (λ (x : PlainTurn). Finishes x z) (sym is) (came_back t m.server.link attempt piece z rests does takes)) ends

feed_not : (e n m : End) (attempt : ℕ) (piece : List ℕ) (why : FeedFault) → (why ≡ feeds.OutOfMemory → ⊥)
    → Does e (Feed attempt piece (Err why)) n → Does e (Feed attempt piece (Ok tt)) m → ⊥
feed_not e n m attempt piece why some is does =
    let same : Err why ≡ Ok tt = (one_feed e attempt piece (Err why) (Ok tt) n m is does (λ e. some (cc)) (λ e. cc)).0 in cc

pub came_not : (t u : PlainTurn) (attempt : ℕ) (piece : List ℕ) (why : FeedFault)
    → Does t.server.link (Feed attempt piece (Err why)) u.server.link → Retaken t (Came attempt piece) (Err (told_of_feed why)) u
came_not t u attempt piece feeds.OutOfMemory is = tt
came_not t u attempt piece feeds.NotOpen is =
    λ z takes. feed_not t.server.link u.server.link takes.0 attempt piece feeds.NotOpen (λ e. cc) is takes.1
came_not t u attempt piece feeds.CountFull is =
    λ z takes. feed_not t.server.link u.server.link takes.0 attempt piece feeds.CountFull (λ e. cc) is takes.1
came_not t u attempt piece (feeds.Wrong why) is =
    λ z takes. feed_not t.server.link u.server.link takes.0 attempt piece (feeds.Wrong why) (λ e. cc) is takes.1
came_not t u attempt piece feeds.AckAhead is =
    λ z takes. feed_not t.server.link u.server.link takes.0 attempt piece feeds.AckAhead (λ e. cc) is takes.1

pub said_again : (t u : PlainTurn) (message : List ℕ) → IsResting t → u ≡ linked t u.server.link
    → Does t.server.link (PutNote message (Ok tt)) u.server.link → Retaken t (Said message) (Ok tt) u
said_again t u message rests is does = (
  (u.server.link, does, ap (λ (x : PlainTurn). x.server) is),
  subst IsResting (sym is) (linked_rests t u.server.link (ap (λ (l : End). l.waiting) does.1) rests),
)

pub said_not : (t u : PlainTurn) (message : List ℕ) (why : NoteFault) → Does t.server.link (PutNote message (Err why)) u.server.link
    → Retaken t (Said message) (Err (told_of_note why)) u
said_not t u message notes.OutOfMemory is = tt
said_not t u message notes.TooLong is = λ z takes. omega (arith, is.0.0, takes.1.0.0)
said_not t u message notes.CountFull is = λ z takes. is.0.1.0 takes.1.0.1.0

pub acknowledged_again : (t u : PlainTurn) → IsResting t → u ≡ linked t u.server.link
    → Does t.server.link (Acknowledge (Ok tt)) u.server.link → Retaken t Acknowledged (Ok tt) u
acknowledged_again t u rests is does = (
  (u.server.link, does, ap (λ (x : PlainTurn). x.server) is),
  subst IsResting (sym is) (linked_rests t u.server.link (ap (λ (l : End). l.waiting) does.1) rests),
)

pub acknowledged_not : (t u : PlainTurn) (why : PutFault) → Does t.server.link (Acknowledge (Err why)) u.server.link
    → Retaken t Acknowledged (Err (told_of_put why)) u
acknowledged_not t u puts.OutOfMemory is = tt
acknowledged_not t u puts.CountFull is = λ z takes. is.0.0 takes.1.0.0

pub asked_again : (t u : PlainTurn) → IsResting t → u ≡ linked t u.server.link → Does t.server.link (Ask (Ok tt)) u.server.link
    → Retaken t Asked (Ok tt) u
asked_again t u rests is does = (
  (u.server.link, does, ap (λ (x : PlainTurn). x.server) is),
  subst IsResting (sym is) (linked_rests t u.server.link (ap (λ (l : End). l.waiting) does.1) rests),
)

pub asked_not : (t u : PlainTurn) (why : PutFault) → Does t.server.link (Ask (Err why)) u.server.link
    → Retaken t Asked (Err (told_of_put why)) u
asked_not t u puts.OutOfMemory is = tt
asked_not t u puts.CountFull is = λ z takes. is.0.0 takes.1.0.0

-- ## Effects

pub done_again : (t m u : PlainTurn) (ending : ℕ) (result : Result (Unit {0}) RecoveryFault) → IsResting t → DroppedEffect t true m
    → Refinished m result u → Retaken t (Done ending) result u
done_again t m u ending result rests dropped ends =
    retaken_by t m u (Done ending) result (λ z left. done_leads t m ending z rests dropped left)
    (λ z takes. done_back t m ending z rests dropped takes) ends

pub done_not : (t u : PlainTurn) (ending : ℕ) → DroppedEffect t false u → Retaken t (Done ending) (Err fault.NotTaken) u
done_not t u ending dropped = λ z takes. cc (sym takes.1 ∙ dropped.0)

-- ## What counts as given

-- a record that is not taken again
pub retakes_not : (t u v : PlainTurn) (r : PlainRecord) (bytes : List ℕ) (why : RecoveryFault)
    → u ≡ linked t (all_given t.server.link) → Spells r bytes → Retaken u r (Err why) v → Retakes t.server bytes (Err why)
retakes_not t u v r bytes fault.NoRecord is spells not = absurd not
retakes_not t u v r bytes fault.NotTaken is spells not =
    (r, spells, (λ n takes. not n (subst (λ (x : PlainTurn). Takes x.server r n) (sym is) takes)))
retakes_not t u v r bytes fault.OutOfMemory is spells not = (r, spells)
