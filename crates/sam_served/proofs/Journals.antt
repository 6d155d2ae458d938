-- What a crash leaves of a journal's file is read, and is a crash of the program.
use Rattle.std.proofs.Common.{◌≡◌, ℕ, zero, suc, ◌+◌, ◌≤◌, length, take, List, [], ◌∷◌, ◌++◌, map, Result, Ok, refl, sym, ap, ◌∙◌, subst, arith}
use Rattle.std.proofs.lemmas.List.{length-map, length-take}
use Rattle.std.specs.Prelude.{min}
use Rattle.sam_journal.specs.Files.{AreRecords, Reads, file_bytes}
use Rattle.sam_journal.specs.Records.{Entry, size}
use Rattle.sam_journal.specs.declared.reading.Journal.{Journal}
use Rattle.sam_journal.specs.declared.reading.ReadFault.{ReadFault}
use Rattle.sam_journal.proofs.FileLaws.{fronts_are_read}
use Rattle.sam_link.specs.declared.hello.Id.{Id}
use Rattle.sam_server.specs.Servers.{Server, new_server}
use Rattle.sam_served.specs.Programs.{Act, LeadsProgram, Program, new_program}
use Rattle.sam_served.specs.Programs.Act.{Break, ByTerminal, Crash, Durable, GoOn, NextRecord, Take, TakeOut}
use Rattle.sam_served.specs.Recoveries.{RetakesAll}
use Rattle.sam_served.specs.Journals.{IsJournalOf, IsLeft, JournalsAreCrashes, gone_on}

-- ## Acts, one list behind another

pub acts_lead_on : (id : Id) (acts more : List Act) (p q z : Program) → LeadsProgram id p acts q → LeadsProgram id q more z
    → LeadsProgram id p (acts ++ more) z
acts_lead_on id [] more p q z leads last = subst (λ (x : Program). LeadsProgram id x more z) leads last
acts_lead_on id (ByTerminal c ∷ acts) more p q z (t, does, carried, rest) last =
    (t, does, carried, acts_lead_on id acts more _ q z rest last)
acts_lead_on id (Take taking ∷ acts) more p q z (e, takes, fits, brought, rest) last =
    (e, takes, fits, brought, acts_lead_on id acts more _ q z rest last)
acts_lead_on id (GoOn answer ∷ acts) more p q z (e, goes, rest) last = (e, goes, acts_lead_on id acts more _ q z rest last)
acts_lead_on id (Break attempt ∷ acts) more p q z rest last = acts_lead_on id acts more _ q z rest last
acts_lead_on id (NextRecord body ∷ acts) more p q z (is, rest) last = (is, acts_lead_on id acts more _ q z rest last)
acts_lead_on id (Durable count ∷ acts) more p q z (got, rest) last = (got, acts_lead_on id acts more _ q z rest last)
acts_lead_on id (TakeOut attempt old answer new ∷ acts) more p q z (e, takes, rest) last =
    (e, takes, acts_lead_on id acts more _ q z rest last)
acts_lead_on id (Crash n ∷ acts) more p q z (s, said, got, retakes, rest) last =
    (s, said, got, retakes, acts_lead_on id acts more _ q z rest last)

-- ## The first records of a file

same_front : (n : ℕ) (es : List Entry) → take (length (take n es)) es ≡ take n es
same_front zero es = refl
same_front (suc n) [] = refl
same_front (suc n) (e ∷ es) = ap (λ (l : List Entry). e ∷ l) (same_front n es)

bodies_front : (n : ℕ) (es : List Entry) → map (λ e. e.body) (take n es) ≡ take n (map (λ e. e.body) es)
bodies_front zero es = refl
bodies_front (suc n) [] = refl
bodies_front (suc n) (e ∷ es) = ap (λ (l : List (List ℕ)). e.body ∷ l) (bodies_front n es)

records_front : (place number n : ℕ) (es : List Entry) → AreRecords place number es → AreRecords place number (take n es)
records_front place number zero es are = tt
records_front place number (suc n) [] are = tt
records_front place number (suc n) (e ∷ es) (first, are) = (first, records_front (place + size e) (suc number) n es are)

-- ## A crash

-- What is left has this many records, and the program may go on from them
pub record GoesOnFrom (p : Program) (random : ℕ) (es : List Entry) (answer : Result Journal ReadFault) : Type 0 where
  pub count : ℕ
  pub read : answer ≡ Ok (record { random = random; count = count; end = length (file_bytes random (take count es)) })
  pub is : (s : Server) → IsJournalOf random (take count es) (gone_on p count s)
  pub said : length p.taken ≤ count + length p.server.gate.waiting
  pub got : count ≤ length p.journal
  pub bodies : map (λ e. e.body) (take count es) ≡ take count p.journal

from_front : (p : Program) (random : ℕ) (es : List Entry) (durable n : ℕ) (answer : Result Journal ReadFault)
    → IsJournalOf random es p → IsLeft random es p durable n → (count : ℕ)
    → (answer ≡ Ok (record { random = random; count = length (take count es); end = length (file_bytes random (take count es)) }))
    → ((all : ℕ) → all ≤ length es → length (file_bytes random (take all es)) ≤ n → all ≤ count) → GoesOnFrom p random es answer
from_front p random es durable n answer of left count read all =
    let k = length (take count es) in
    let few : k ≡ min count (length es) = length-take count es in
    let kept : durable ≤ count = all durable left.there left.has in
    let within : k ≤ length es = omega (arith, few) in
    let durable_kept : durable ≤ k = omega (arith, few, kept, left.there) in
    let bodies : map (λ e. e.body) (take k es) ≡ take k p.journal = bodies_front k es ∙ ap (λ (l : List (List ℕ)). take k l) of.bodies in
    record {
      count = k;
      read =
          subst (λ (front : List Entry). answer ≡ Ok (record { random = random; count = k; end = length (file_bytes random front) }))
          (sym (same_front count es)) read;
      is = λ s. record { is = (of.is.0, records_front 24 0 k es of.is.1); bodies = bodies };
      said = omega (arith, left.said, durable_kept);
      got = omega (arith, within, ap length of.bodies, length-map es (λ e. e.body));
      bodies = bodies;
    }

pub goes_on_from : (p : Program) (random : ℕ) (es : List Entry) (durable n : ℕ) (answer : Result Journal ReadFault)
    → IsJournalOf random es p → IsLeft random es p durable n → Reads (take n (file_bytes random es)) answer → GoesOnFrom p random es answer
goes_on_from p random es durable n answer of left reads =
    let front = fronts_are_read random es durable n answer of.is left.has left.within left.names reads in
    from_front p random es durable n answer of left front.0 front.1 front.2

pub journals_are_crashes : JournalsAreCrashes
journals_are_crashes id acts p random es durable n answer leads of left reads =
    let x = goes_on_from p random es durable n answer of left reads in
    record {
      count = x.count;
      read = x.read;
      is = x.is;
      leads = λ s retakes.
          acts_lead_on id acts (Crash x.count ∷ []) (new_program id) p (gone_on p x.count s) leads
          (s, x.said, x.got, subst (λ (l : List (List ℕ)). RetakesAll (new_server id) l s) x.bodies retakes, refl);
    }
