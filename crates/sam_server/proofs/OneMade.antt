-- The records alone decide what is made of them.
use Rattle.std.proofs.Common.{◌≡◌, List, [], ◌∷◌, Option, None, Ok, refl, sym, ap, ◌∙◌, subst}
use Rattle.sam_link.specs.Calls.Call.{Acknowledge, Answer, Ask, Feed, Put, PutNote}
use Rattle.sam_link.specs.End.{End}
use Rattle.sam_endpoint.specs.HostEndpoints.{PlainHostEndpoint}
use Rattle.sam_server.specs.Servers.{Acknowledged, Asked, Called, Came, Done, Effect, Handles, Joined, Makes, Marked, OneIsMade, PlainRecord, PutsAnswers, Said, Server, Takes, Work, given, new_server, with_work}
use Rattle.sam_server.proofs.One.{one_does}
use Rattle.sam_server.proofs.Pauses.{one_pause, pause_quiet}

answers_one : (s a b : Server) → PutsAnswers s a → PutsAnswers s b → a ≡ b
answers_one s a b (l, does, is) (k, does_too, is_too) =
    is ∙ ap (λ (m : End). record s { link = m; host = record s.host { pending_bytes = [] } })
    (one_does (Put s.host.pending_bytes (Ok tt)) s.link l k does does_too) ∙ sym is_too

handles_one : (l : End) (host : PlainHostEndpoint) (effect : Option Effect) (a b : Server) → host.writes ≡ [] → Handles l host effect a
    → Handles l host effect b → a ≡ b
handles_one l host effect a b quiet (m, pauses, puts) (n, pauses_too, puts_too) =
    let same : m ≡ n = one_pause effect l.waiting.packets host m n quiet pauses pauses_too in
    answers_one (with_work l n) a b (subst (λ (w : Work). PutsAnswers (with_work l w) a) same puts) puts_too

by_link : (s a b : Server) (l k : End) → a ≡ record s { link = l } → b ≡ record s { link = k } → l ≡ k → a ≡ b
by_link s a b l k x y same = x ∙ ap (λ (m : End). record s { link = m }) same ∙ sym y

takes_one : (r : PlainRecord) (s a b : Server) → s.host.writes ≡ [] → Takes s r a → Takes s r b → a ≡ b
takes_one (Joined name text) s a b quiet (tag, k, adds, is) (other, j, adds_too, is_too) =
    is ∙ ap (λ (m : PlainHostEndpoint). record s { host = m }) (adds.2 ∙ sym adds_too.2) ∙ sym is_too
takes_one (Marked f) s a b quiet (k, marks, answers) (j, marks_too, answers_too) =
    answers_one (record s { host = k }) a b answers
    (subst (λ m. PutsAnswers (record s { host = m }) b) (marks_too.2 ∙ sym marks.2) answers_too)
takes_one (Called hello) s a b quiet (l, does, is) (k, does_too, is_too) =
    by_link s a b l k is is_too (one_does (Answer hello (Ok tt)) s.link l k does does_too)
takes_one (Came attempt piece) s a b quiet (l, does, handles) (k, does_too, handles_too) =
    let link : k ≡ l = one_does (Feed attempt piece (Ok tt)) s.link k l does_too does in
    handles_one l s.host s.effect a b quiet handles (subst (λ (m : End). Handles m s.host s.effect b) link handles_too)
takes_one (Said bytes) s a b quiet (l, does, is) (k, does_too, is_too) =
    by_link s a b l k is is_too (one_does (PutNote bytes (Ok tt)) s.link l k does does_too)
takes_one Acknowledged s a b quiet (l, does, is) (k, does_too, is_too) =
    by_link s a b l k is is_too (one_does (Acknowledge (Ok tt)) s.link l k does does_too)
takes_one Asked s a b quiet (l, does, is) (k, does_too, is_too) =
    by_link s a b l k is is_too (one_does (Ask (Ok tt)) s.link l k does does_too)
takes_one (Done ending) s a b quiet (d, p, handles) (e, q, handles_too) = handles_one s.link s.host None a b quiet handles handles_too

handles_quiet : (l : End) (host : PlainHostEndpoint) (effect : Option Effect) (z : Server) → host.writes ≡ [] → Handles l host effect z
    → z.host.writes ≡ []
handles_quiet l host effect z quiet (m, (n, pauses), (k, does, is)) =
    ap (λ (x : Server). x.host.writes) is
    ∙ pause_quiet n (record { packets = l.waiting.packets; host = host; effect = effect }) m quiet pauses

pub takes_quiet : (r : PlainRecord) (s z : Server) → s.host.writes ≡ [] → Takes s r z → z.host.writes ≡ []
takes_quiet (Joined name text) s z quiet (tag, k, adds, is) =
    ap (λ (x : Server). x.host.writes) is ∙ ap (λ (e : PlainHostEndpoint). e.writes) adds.2 ∙ quiet
takes_quiet (Marked f) s z quiet (k, marks, (l, does, is)) =
    ap (λ (x : Server). x.host.writes) is ∙ ap (λ (e : PlainHostEndpoint). e.writes) marks.2 ∙ quiet
takes_quiet (Called hello) s z quiet (l, does, is) = ap (λ (x : Server). x.host.writes) is ∙ quiet
takes_quiet (Came attempt piece) s z quiet (l, does, handles) = handles_quiet l s.host s.effect z quiet handles
takes_quiet (Said bytes) s z quiet (l, does, is) = ap (λ (x : Server). x.host.writes) is ∙ quiet
takes_quiet Acknowledged s z quiet (l, does, is) = ap (λ (x : Server). x.host.writes) is ∙ quiet
takes_quiet Asked s z quiet (l, does, is) = ap (λ (x : Server). x.host.writes) is ∙ quiet
takes_quiet (Done ending) s z quiet (d, p, handles) = handles_quiet s.link s.host None z quiet handles

makes_one : (rs : List PlainRecord) (s a b : Server) → s.host.writes ≡ [] → Makes s rs a → Makes s rs b → a ≡ b
makes_one [] s a b quiet x y = x ∙ sym y
makes_one (r ∷ rs) s a b quiet (m, takes, rest) (n, takes_too, rest_too) =
    makes_one rs m a b (takes_quiet r (given s) m quiet takes) rest
    (subst (λ k. Makes k rs b) (takes_one r (given s) n m quiet takes_too takes) rest_too)

pub one_is_made : OneIsMade
one_is_made id records a b x y = makes_one records (new_server id) a b refl x y
