-- A program beside a session of the definition: their logs, bodies and marks, and what waits.
use Rattle.std.proofs.Common.{◌≡◌, ◌⊎◌, inl, inr, ℕ, zero, suc, ◌+◌, ◌<◌, ◌≤◌, length, take, drop, List, [], ◌∷◌, ◌++◌, map, Option, None, Some, refl, sym, ap, ◌∙◌, subst, append-nil, append_assoc, arith, length-append, take_all}
use Rattle.std.proofs.lemmas.List.{take-append-le}
use Rattle.std.specs.Prelude.{option_to_list, slice_get}
use Rattle.sam_link.specs.Calls.{Call, out, out_by}
use Rattle.sam_link.specs.End.{ended}
use Rattle.sam_link.specs.declared.hello.Id.{Id}
use Rattle.sam_server.specs.DurableServers.{due_before, LeftAt, begun}
use Rattle.sam_server.specs.Gates.{PlainGate, passed}
use Rattle.sam_server.specs.Records.{PlainRecord, Spells}
use Rattle.sam_server.specs.Servers.{Effect, Makes, Server, Takes, new_server}
use Rattle.sam_server.specs.Turns.{PlainTurn}
use Rattle.sam_server.specs.declared.gate.Mark.{Mark}
use Rattle.sam_server.specs.declared.server.Stage.{Stage}
use Rattle.sam_server.specs.declared.server.Stage.TheVariants.{Answering, Recording, Settled, Stopped}
use Rattle.sam_served.specs.Marks.{StandsAt}
use Rattle.sam_served.specs.Programs.{Program}
use Rattle.sam_served.specs.Recoveries.{SpellAll}
use Rattle.sam_served.specs.Serving.{ByTerminal, Crash, Did, Do, Entry, Event, LeadsServed, Served, Sync, Take, Took, WasBrought, calls_in, left_of, new_served, records_in}
use Rattle.sam_served.specs.Crashes.{went_out}
use Rattle.sam_served.proofs.Lefts.{TookNone, TookOut, either}

-- ## Events

pub leads_on : (id : Id) (events more : List Event) (v w z : Served) → LeadsServed id v events w → LeadsServed id w more z
    → LeadsServed id v (events ++ more) z
leads_on id [] more v w z leads last = subst (λ (x : Served). LeadsServed id x more z) leads last
leads_on id (ByTerminal call ∷ events) more v w z (t, does, carried, rest) last =
    (t, does, carried, leads_on id events more _ w z rest last)
leads_on id (Take r ∷ events) more v w z (t, takes, brought, rest) last = (t, takes, brought, leads_on id events more _ w z rest last)
leads_on id (Do call ∷ events) more v w z (l, does, may, rest) last = (l, does, may, leads_on id events more _ w z rest last)
leads_on id (Sync k ∷ events) more v w z (less, rest) last = (less, leads_on id events more _ w z rest last)
leads_on id (Crash k ∷ events) more v w z (m, less, made, rest) last = (m, less, made, leads_on id events more _ w z rest last)

pub records_did : (log : List Entry) (c : Call) → records_in (log ++ Did c ∷ []) ≡ records_in log
records_did [] c = refl
records_did (Took r ∷ log) c = ap (λ (l : List PlainRecord). r ∷ l) (records_did log c)
records_did (Did d ∷ log) c = records_did log c

pub records_took : (log : List Entry) (r : PlainRecord) → records_in (log ++ Took r ∷ []) ≡ records_in log ++ r ∷ []
records_took [] r = refl
records_took (Took s ∷ log) r = ap (λ (l : List PlainRecord). s ∷ l) (records_took log r)
records_took (Did d ∷ log) r = records_took log r

pub calls_did : (log : List Entry) (c : Call) → calls_in (log ++ Did c ∷ []) ≡ calls_in log ++ c ∷ []
calls_did [] c = refl
calls_did (Took r ∷ log) c = calls_did log c
calls_did (Did d ∷ log) c = ap (λ (l : List Call). d ∷ l) (calls_did log c)

pub calls_took : (log : List Entry) (r : PlainRecord) → calls_in (log ++ Took r ∷ []) ≡ calls_in log
calls_took [] r = refl
calls_took (Took s ∷ log) r = calls_took log r
calls_took (Did d ∷ log) r = ap (λ (l : List Call). d ∷ l) (calls_took log r)

pub out_more : (m : ℕ) (cs : List Call) (c : Call) → out m (cs ++ c ∷ []) ≡ out m cs ++ out_by m c
out_more m [] c = append-nil (out_by m c)
out_more m (d ∷ cs) c = ap (λ (l : List ℕ). out_by m d ++ l) (out_more m cs c) ∙ sym (append_assoc (out_by m d) (out m cs) (out_by m c))

-- ## What a crash leaves

none_by : (c : Call) → TookNone c ⊎ TookOut c → (log : List Entry) → records_in (left_of zero log) ≡ []
    → records_in (map Did (went_out c) ++ left_of zero log) ≡ []
none_by c (inl none) log same = ap (λ (l : List Call). records_in (map Did l ++ left_of zero log)) none.goes ∙ same
none_by c (inr took) log same = ap (λ (l : List Call). records_in (map Did l ++ left_of zero log)) took.stays ∙ same

none_left : (log : List Entry) → records_in (left_of zero log) ≡ []
none_left [] = refl
none_left (Took r ∷ log) = none_left log
none_left (Did c ∷ log) = none_by c (either c) log (none_left log)

pub records_left : (n : ℕ) (log : List Entry) → records_in (left_of n log) ≡ take n (records_in log)
records_left zero log = none_left log
records_left (suc n) [] = refl
records_left (suc n) (Took r ∷ log) = ap (λ (l : List PlainRecord). r ∷ l) (records_left n log)
records_left (suc n) (Did c ∷ log) = records_left (suc n) log

by_either : (m : ℕ) (c : Call) → TookNone c ⊎ TookOut c → (log : List Entry) → out m (calls_in (left_of zero log)) ≡ out m (calls_in log)
    → out m (calls_in (map Did (went_out c) ++ left_of zero log)) ≡ out m (calls_in (Did c ∷ log))
by_either m c (inl none) log same =
    ap (λ (l : List Call). out m (calls_in (map Did l ++ left_of zero log))) none.goes ∙ same
    ∙ ap (λ (l : List ℕ). l ++ out m (calls_in log)) (sym (none.silent m))
by_either m c (inr took) log same =
    ap (λ (l : List Call). out m (calls_in (map Did l ++ left_of zero log))) took.stays ∙ ap (λ (l : List ℕ). out_by m c ++ l) same

pub outs_left : (m n : ℕ) (log : List Entry) → out m (calls_in (left_of n log)) ≡ out m (calls_in log)
outs_left m n [] = refl
outs_left m zero (Took r ∷ log) = outs_left m zero log
outs_left m zero (Did c ∷ log) = by_either m c (either c) log (outs_left m zero log)
outs_left m (suc n) (Took r ∷ log) = outs_left m n log
outs_left m (suc n) (Did c ∷ log) = ap (λ (l : List ℕ). out_by m c ++ l) (outs_left m (suc n) log)

-- ## Bodies

pub spell_more : (rs : List PlainRecord) (bs : List (List ℕ)) (r : PlainRecord) (b : List ℕ) → SpellAll rs bs → Spells r b
    → SpellAll (rs ++ r ∷ []) (bs ++ b ∷ [])
spell_more [] [] r b all spells = (spells, tt)
spell_more [] (x ∷ bs) r b all spells = absurd all
spell_more (x ∷ rs) [] r b all spells = absurd all
spell_more (x ∷ rs) (y ∷ bs) r b (first, all) spells = (first, spell_more rs bs r b all spells)

pub spell_take : (n : ℕ) (rs : List PlainRecord) (xs bs : List (List ℕ)) → n ≤ length xs → SpellAll rs (xs ++ bs)
    → SpellAll (take n rs) (take n xs)
spell_take zero rs xs bs less all = tt
spell_take (suc n) rs [] bs less all = absurd (omega (arith, less))
spell_take (suc n) [] (a ∷ xs) bs less all = absurd all
spell_take (suc n) (r ∷ rs) (a ∷ xs) bs less (first, all) = (first, spell_take n rs xs bs (omega (arith, less)) all)

pub spell_long : (rs : List PlainRecord) (bs : List (List ℕ)) → SpellAll rs bs → length rs ≡ length bs
spell_long [] [] all = refl
spell_long [] (b ∷ bs) all = absurd all
spell_long (r ∷ rs) [] all = absurd all
spell_long (r ∷ rs) (b ∷ bs) (first, all) = ap suc (spell_long rs bs all)

-- the oldest body is handed out
pub handed_out : (journal records : List (List ℕ)) (body : Option (List ℕ)) → body ≡ slice_get records 0
    → journal ++ records ≡ (journal ++ option_to_list body) ++ drop 1 records
handed_out journal [] None is = sym (append-nil (journal ++ []))
handed_out journal [] (Some b) is = absurd (cc)
handed_out journal (r ∷ rs) None is = absurd (cc)
handed_out journal (r ∷ rs) (Some b) is =
    let same : b ≡ r = cc in
    ap (λ (x : List ℕ). journal ++ x ∷ rs) (sym same) ∙ sym (append_assoc journal (b ∷ []) rs)

-- ## Marks

-- behind the first so many records stand those of these marks, one each, and no more
abbrev pub Marks : Id → ℕ → List PlainRecord → List Mark → Type 0
Marks id n records [] = length records ≡ n
Marks id n records (mark ∷ marks) = (n < length records) × StandsAt id (take (n + 1) records) mark × Marks id (n + 1) records marks

pub marks_long : (id : Id) (n : ℕ) (records : List PlainRecord) (marks : List Mark) → Marks id n records marks
    → length records ≡ n + length marks
marks_long id n records [] is = omega (arith, is)
marks_long id n records (mark ∷ marks) (less, stands, more) = omega (arith, marks_long id (n + 1) records marks more)

pub marks_more : (id : Id) (n : ℕ) (records : List PlainRecord) (marks : List Mark) (r : PlainRecord) (mark : Mark) → Marks id n records marks
    → StandsAt id (records ++ r ∷ []) mark → Marks id n (records ++ r ∷ []) (marks ++ mark ∷ [])
marks_more id n records [] r mark is stands = (
  omega (arith, is, length-append records (r ∷ [])),
  subst (λ (l : List PlainRecord). StandsAt id l mark) (sym (take_all (n + 1) (records ++ r ∷ []) (omega (arith, is, length-append records (r ∷ []))))) stands,
  omega (arith, is, length-append records (r ∷ [])),
)
marks_more id n records (first ∷ marks) r mark (less, at_it, more) stands = (
  omega (arith, less, length-append records (r ∷ [])),
  subst (λ (l : List PlainRecord). StandsAt id l first) (sym (take-append-le (n + 1) records (r ∷ []) (omega (arith, less)))) at_it,
  marks_more id (n + 1) records marks r mark more stands,
)

-- so many more are durable
pub record Passed (id : Id) (n : ℕ) (records : List PlainRecord) (g : PlainGate) : Type 0 where
  pub base : StandsAt id (take n records) g.base
  pub marks : Marks id n records g.waiting

pub passes : (count : ℕ) (id : Id) (n : ℕ) (records : List PlainRecord) (base : Mark) (marks : List Mark) → count ≤ length marks
    → StandsAt id (take n records) base → Marks id n records marks → Passed id (n + count) records (passed count base marks)
passes zero id n records base marks less at_it all = record {
  base = subst (λ (k : ℕ). StandsAt id (take k records) base) (omega arith) at_it;
  marks = subst (λ (k : ℕ). Marks id k records marks) (omega arith) all;
}
passes (suc count) id n records base [] less at_it all = absurd (omega (arith, less))
passes (suc count) id n records base (mark ∷ marks) less at_it (fewer, next, all) =
    subst (λ (k : ℕ). Passed id k records (passed count mark marks)) (omega arith)
    (passes count id (n + 1) records mark marks (omega (arith, less)) next all)

-- ## What waits

-- the server is where the record leads, or its connection broke meanwhile
abbrev pub IsBrokenOf : Server → Server → Type 0
IsBrokenOf m z = (z ≡ m) ⊎ (z ≡ record m { link = ended m.link })

pub record Owing (stage : Stage) (t : PlainTurn) (owed : List ℕ) (begun : List PlainRecord) (s : Server) (taken : List PlainRecord)
    (calls : List Call) : Type 0 where
  pub r : PlainRecord
  pub begun_is : begun ≡ r ∷ []
  pub spells : Spells r owed
  pub brought : WasBrought taken calls r
  pub leads : (z : Server) → LeftAt stage t z → (m : Server) × Takes s r m × IsBrokenOf m z

abbrev pub At : Stage → PlainTurn → List ℕ → List PlainRecord → Server → List PlainRecord → List Call → Type 0
At Settled t owed begun s taken calls = (s ≡ t.server) × (begun ≡ [])
At Answering t owed begun s taken calls = Owing Answering t owed begun s taken calls
At Recording t owed begun s taken calls = Owing Recording t owed begun s taken calls
At (Stopped why) t owed begun s taken calls = Unit {0}

abbrev pub served_of : Program → Server → List Entry → ℕ → Served
served_of p s log durable =
    record { terminal = p.terminal; terminal_calls = p.terminal_calls; server = s; log = log; durable = durable }

-- Once so many records more are durable, whatever a crash leaves has this effect
abbrev pub DueAt : Id → ℕ → List PlainRecord → Option ℕ → Option Effect → Type 0
DueAt id n taken None effect = Unit {0}
DueAt id n taken (Some k) effect =
    (f : Effect) × (effect ≡ Some f)
    × ((j : ℕ) → n + k ≤ j → j ≤ length taken → (m : Server) × Makes (new_server id) (take j taken) m × (m.effect ≡ Some f))

-- the effect that a record waits to note as done is due no more
abbrev pub BegunDue : Option ℕ → List PlainRecord → Type 0
BegunDue due [] = Unit {0}
BegunDue due (r ∷ records) = due ≡ due_before r due

-- a program and a session of the definition
pub record Tied (id : Id) (p : Program) : Type 0 where
  pub events : List Event
  pub server : Server
  pub log : List Entry
  pub durable : ℕ
  pub leads : LeadsServed id (new_served id) events (served_of p server log durable)
  pub outs : (m : ℕ) → out m p.outs ≡ out m (calls_in log)
  pub records : records_in log ≡ p.taken
  pub bodies : SpellAll p.taken (p.journal ++ p.server.records)
  pub base : StandsAt id (take durable p.taken) p.server.gate.base
  pub marks : Marks id durable p.taken p.server.gate.waiting
  pub stage : At p.server.stage p.server.turn p.server.owed p.begun server p.taken p.terminal_calls
  pub due : DueAt id durable p.taken p.server.due server.effect
  pub waits : BegunDue p.server.due p.begun
