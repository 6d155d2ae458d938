-- A client's line gets calls of a line, whatever the client does; so the laws of a line's clock hold of it.
use Rattle.std.proofs.Common.{◌≡◌, ℕ, List, [], ◌∷◌, flat_map, true, refl, sym, ap, subst, ◌∙◌}
use Rattle.std.specs.Prelude.{Any}
use Rattle.sam_line.specs.Calls.{LineDoesAll}
use Rattle.sam_line.specs.Clock.{after, at, says}
use Rattle.sam_line.specs.Laws.{said}
use Rattle.sam_line.specs.Line as lines
use Rattle.sam_line.specs.declared.clock.Clock.{Clock}
use Rattle.sam_line.specs.declared.clock.Tick.{Tick}
use Rattle.sam_line.specs.declared.clock.Tick.TheVariants as ticks
use Rattle.sam_line.specs.declared.line.Line.{Line}
use Rattle.sam_line.proofs.ClockLaws.{never_stuck}
use Rattle.sam_line.proofs.LineLaws.{lines_are_timely}
use Rattle.sam_client.specs.Clients.{Act, Does, DoesAll, new_client}
use Rattle.sam_client.specs.Clients as act
use Rattle.sam_client.specs.declared.client.Client.{Client}
use Rattle.sam_attached.specs.Runs.{line_calls}
use Rattle.sam_attached.specs.Times.{ClientsAreNeverStuck, ClientsAreTimely, tick}
use Rattle.sam_attached.proofs.Parts.{one_call}
use Rattle.sam_attached.proofs.Runs.{line_then}

line_goes : (c n : Client) (a : Act) → Does c a n → LineDoesAll c.line (line_calls a) n.line
line_goes c n (act.Step answer) does = ap (λ (x : Client). x.line) does.1
line_goes c n a does = (one_call c n a tt does).does

lines_go : (c n : Client) (acts : List Act) → DoesAll c acts n → LineDoesAll c.line (flat_map line_calls acts) n.line
lines_go c n [] same = ap (λ (x : Client). x.line) same
lines_go c n (a ∷ acts) (m, does, rest) =
    line_then c.line m.line n.line (line_calls a) (flat_map line_calls acts) (line_goes c m a does) (lines_go m n acts rest)

pub clients_are_timely : ClientsAreTimely
clients_are_timely id take_over now acts n does =
    lines_are_timely id take_over now (flat_map line_calls acts) n.line (lines_go (new_client id take_over now) n acts does)

-- ## Ticks

clock_after : (l : Line) (a : Tick) → (lines.after l a).clock ≡ after l.clock (lines.is_due l) a
clock_after l ticks.Nothing = refl
clock_after l ticks.Connect = refl
clock_after l ticks.Drop = refl
clock_after l ticks.Ask = refl

due_after : (l : Line) (a : Tick) → lines.is_due (lines.after l a) ≡ lines.is_due l
due_after l ticks.Nothing = refl
due_after l ticks.Connect = refl
due_after l ticks.Drop = refl
due_after l ticks.Ask = refl

-- a tick where an answer is due
record Ticked (l : Line) (now : ℕ) (a : Tick) (n : Line) : Type 0 where
  says_so : a ≡ says (at l.clock now) true
  clock : n.clock ≡ after (at l.clock now) true a
  due : lines.is_due n ≡ true

ticked : (c n : Client) (now : ℕ) (a : Tick) → lines.is_due c.line ≡ true → Does c (tick now a) n → Ticked c.line now a n.line
ticked c n now a due (alone, (says_so, is), same) = record {
  says_so = says_so ∙ ap (says (at c.line.clock now)) due;
  clock = ap (λ (l : Line). l.clock) is ∙ clock_after (lines.at c.line now) a ∙ ap (λ b. after (at c.line.clock now) b a) due;
  due = ap lines.is_due is ∙ due_after (lines.at c.line now) a ∙ due;
}

said_more : (c k : Clock) (now : ℕ) (a : Tick) (times : List ℕ) (rest : List Tick) → a ≡ says (at c now) true → k ≡ after (at c now) true a
    → said k true times ≡ rest → said c true (now ∷ times) ≡ a ∷ rest
said_more c k now a times rest is goes more =
    ap (λ (x : Tick). x ∷ said (after (at c now) true x) true times) (sym is) ∙ ap (λ (x : Clock). a ∷ said x true times) (sym goes)
    ∙ ap (λ (l : List Tick). a ∷ l) more

pub clients_are_never_stuck : ClientsAreNeverStuck
clients_are_never_stuck id take_over now acts c n first second third a b d does due found apart (m, one, (k, two, (z, three, same))) =
    let x = ticked c m first a due one in
    let y = ticked m k second b x.due two in
    let w = ticked k z third d y.due three in
    let all : said c.line.clock true (first ∷ second ∷ third ∷ []) ≡ a ∷ b ∷ d ∷ [] =
    said_more c.line.clock m.line.clock first a (second ∷ third ∷ []) (b ∷ d ∷ []) x.says_so x.clock
    (said_more m.line.clock k.line.clock second b (third ∷ []) (d ∷ []) y.says_so y.clock
    (said_more k.line.clock z.line.clock third d [] [] w.says_so w.clock refl)) in
    subst (λ (l : List Tick). Any (λ said. said ≡ ticks.Drop) l × Any (λ said. said ≡ ticks.Connect) l) all
    (never_stuck c.line.clock first second third (clients_are_timely id take_over now acts c does) found apart.begins apart.goes_on apart.ends)
