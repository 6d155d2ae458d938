-- Acts of a client, one after another, as calls of its parts.
use Rattle.std.proofs.Common.{◌≡◌, ℕ, List, [], ◌∷◌, ◌++◌, drop, flat_map, refl, sym, ap, subst, ◌∙◌, append-nil, append_assoc}
use Rattle.std.proofs.lemmas.Grind.{flat_map-append}
use Rattle.sam_link.specs.Calls.{byte_of, bytes_of}
use Rattle.sam_line.specs.Calls.{LineCall, LineDoesAll, handed_by as line_handed_by, put_by as line_put_by}
use Rattle.sam_line.specs.declared.line.Line.{Line}
use Rattle.sam_endpoint.specs.TermEndpoints.{PlainTermEndpoint}
use Rattle.sam_endpoint.specs.TermRuns as run
use Rattle.sam_endpoint.specs.TermRuns.{Call as EndCall, Runs as EndRuns, came_in, went_out}
use Rattle.sam_client.specs.Clients.{Act}
use Rattle.sam_client.specs.declared.client.Client.{Client}
use Rattle.sam_attached.specs.Runs.{AreCalls, ClientsAreCalls, NotesComeBehind, left_by, line_calls, put_by}
use Rattle.sam_attached.proofs.Parts.{OneCall, one_call}

runs_then : (e k g : PlainTermEndpoint) (a b : List EndCall) → EndRuns e a k → EndRuns k b g → EndRuns e (a ++ b) g
runs_then e k g [] b same more = subst (λ (x : PlainTermEndpoint). EndRuns x b g) same more
runs_then e k g (run.Feed piece answer ∷ a) b (m, does, goes, rest) more = (m, does, goes, runs_then m k g a b rest more)
runs_then e k g (run.Bring piece result ∷ a) b (m, does, rest) more = (m, does, runs_then m k g a b rest more)
runs_then e k g (run.BringEvent event result ∷ a) b (m, does, rest) more = (m, does, runs_then m k g a b rest more)
runs_then e k g (run.MakeStep result ∷ a) b (m, does, goes, rest) more = (m, does, goes, runs_then m k g a b rest more)
runs_then e k g (run.Put event answer ∷ a) b (m, does, goes, rest) more = (m, does, goes, runs_then m k g a b rest more)
runs_then e k g (run.Flush answer ∷ a) b (m, does, goes, rest) more = (m, does, goes, runs_then m k g a b rest more)
runs_then e k g (run.TakeOut bytes ∷ a) b (left, is, rest) more =
    (left, is, runs_then (record e { pending_bytes = left }) k g a b rest more)
runs_then e k g (run.NextRefusal told ∷ a) b (is, rest) more = (is, runs_then (record e { refusals = drop 1 e.refusals }) k g a b rest more)
runs_then e k g (run.Changed kept ∷ a) b rest more = runs_then (record e { kept = kept }) k g a b rest more

pub line_then : (l m n : Line) (a b : List LineCall) → LineDoesAll l a m → LineDoesAll m b n → LineDoesAll l (a ++ b) n
line_then l m n [] b same more = subst (λ (x : Line). LineDoesAll x b n) same more
line_then l m n (call ∷ a) b (k, does, rest) more = (k, does, line_then k m n a b rest more)

both : {A B : Type 0} (f : A → List B) (a b : List A) (x y : List B) → flat_map f a ≡ x → flat_map f b ≡ y → flat_map f (a ++ b) ≡ x ++ y
both f a b x y first second =
    flat_map-append f a b ∙ ap (λ (l : List _). l ++ flat_map f b) first ∙ ap (λ (l : List _). x ++ l) second

join : (h a b x m y n : List ℕ) → h ++ a ≡ x ++ m → m ++ b ≡ y ++ n → h ++ (a ++ b) ≡ (x ++ y) ++ n
join h a b x m y n first second =
    sym (append_assoc h a b) ∙ ap (λ (l : List ℕ). l ++ b) first ∙ append_assoc x m b ∙ ap (λ (l : List ℕ). x ++ l) second
    ∙ sym (append_assoc x y n)

calls_then : (c m n : Client) (act : Act) (acts : List Act) → OneCall c act m → AreCalls m acts n → AreCalls c (act ∷ acts) n
calls_then c m n act acts one rest = record {
  end_calls = one.end_calls ++ rest.end_calls;
  runs = runs_then c.ordered.overlay.end m.ordered.overlay.end n.ordered.overlay.end one.end_calls rest.end_calls one.runs rest.runs;
  does = line_then c.line m.line n.line (line_calls act) (flat_map line_calls acts) one.does rest.does;
  puts = both line_put_by (line_calls act) (flat_map line_calls acts) (put_by act) (flat_map put_by acts) one.puts rest.puts;
  leaves = both line_handed_by (line_calls act) (flat_map line_calls acts) (left_by act) (flat_map left_by acts) one.leaves rest.leaves;
  sent = both went_out one.end_calls rest.end_calls (bytes_of (put_by act)) (bytes_of (flat_map put_by acts)) one.sent rest.sent
      ∙ sym (flat_map-append byte_of (put_by act) (flat_map put_by acts));
  received = ap (λ (l : List ℕ). c.held ++ l) (flat_map-append byte_of (left_by act) (flat_map left_by acts))
      ∙ join c.held (bytes_of (left_by act)) (bytes_of (flat_map left_by acts)) (flat_map came_in one.end_calls) m.held
      (flat_map came_in rest.end_calls) n.held one.received rest.received
      ∙ ap (λ (l : List ℕ). l ++ n.held) (sym (flat_map-append came_in one.end_calls rest.end_calls));
}

pub clients_are_calls : ClientsAreCalls
clients_are_calls c n [] same going = record {
  end_calls = [];
  runs = ap (λ (x : Client). x.ordered.overlay.end) same;
  does = ap (λ (x : Client). x.line) same;
  puts = refl;
  leaves = refl;
  sent = refl;
  received = append-nil c.held ∙ sym (ap (λ (x : Client). x.held) same);
}
clients_are_calls c n (act ∷ acts) (m, does, rest) (going, more) =
    calls_then c m n act acts (one_call c m act going does) (clients_are_calls m n acts rest more)

pub notes_come_behind : NotesComeBehind
notes_come_behind c m n acts note none does going (got, given, same) =
    let calls = clients_are_calls c m acts does going in (
      calls,
      ap (λ (held : List ℕ). held ++ bytes_of (flat_map left_by acts)) (sym none) ∙ calls.received
          ∙ ap (λ (held : List ℕ). flat_map came_in calls.end_calls ++ held) got.0 ∙ append-nil (flat_map came_in calls.end_calls),
    )
