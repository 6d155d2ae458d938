-- What the code finds.
use Rattle.std.proofs.Common.{◌≡◌, ◌⊎◌, inl, inr, ℕ, ◌+◌, ◌<◌, ◌≤◌, ◌^◌, ◌↔◌, Bool, true, false, IsTrue, List, length, take, drop, Option, Some, None, refl, sym, ap, ◌∙◌, subst, arith, drop-drop}
use Rattle.std.proofs.lemmas.Bool.{cases_lt, false≢true}
use Rattle.std.specs.Prelude.{MatchOption}
use Rattle.std.specs.Option.{is_some}
use Rattle.sam_journal.specs.Files.{NamesMore, NamesMoreAt, NextIs}
use Rattle.sam_journal.specs.Records.{Entry, IsFound, NoneStands, Stands, eight, entry_of}
use Rattle.sam_journal.specs.declared.finding.Record.{Record}
use Rattle.sam_journal.specs.declared.reading.Next.{Next}
use Rattle.sam_journal.specs.declared.reading.Next.TheVariants.{End, Torn, Whole}
use Rattle.sam_journal.proofs.Records.{one_stands, same_eight, says}
use Rattle.sam_journal.proofs.Standing.{ends_inside, no_room}

-- ## The next one

pub other_number : (random place number : ℕ) (bytes : List ℕ) (found : Record) → IsFound random bytes place found → (found.number ≡ number → ⊥)
    → NoneStands random bytes place number
other_number random place number bytes found is other e s = other (one_stands random place found.number number (entry_of bytes found) e bytes is.stands s).0

pub none_next : (random place number : ℕ) (bytes : List ℕ) (next : Next) → NextIs random bytes place number next
    → ((found : Record) → next ≡ Whole found → ⊥) → NoneStands random bytes place number
none_next random place number bytes (Whole found) is not = absurd (not found refl)
none_next random place number bytes End is not = λ e s. no_room random place bytes (omega (arith, is)) number e s
none_next random place number bytes Torn is not = is.1

-- ## A record that names more

pub decided_not : (P : Type 0) → (P → ⊥) → IsTrue false ↔ P
decided_not P not = (λ no. absurd (false≢true no), λ p. absurd (not p))

durable_read : (random place number got : ℕ) (e : Entry) (bytes : List ℕ) → eight got ≡ take 8 (drop (place + 12) bytes) → got < 2 ^ 64
    → Stands random bytes place number e → e.durable ≡ got
durable_read random place number got e bytes read fits s =
    same_eight e.durable got s.is.durable_fits fits
    (sym (says random number e (drop place bytes) s.rest s.whole).durable_is ∙ ap (take 8) (drop-drop 12 place bytes) ∙ sym read)

pub no_room_to_name : (random place end : ℕ) (bytes : List ℕ) → length bytes < place + 28 → NamesMoreAt random bytes place end → ⊥
no_room_to_name random place end bytes less n = no_room random place bytes less n.0 n.1 n.2

pub names_less : (random place end got : ℕ) (bytes : List ℕ) → eight got ≡ take 8 (drop (place + 12) bytes) → got < 2 ^ 64 → got ≤ end
    → NamesMoreAt random bytes place end → ⊥
names_less random place end got bytes read fits most n =
    omega (arith, durable_read random place n.0 got n.1 bytes read fits n.2, n.3, most)

pub names_by : (random place end got : ℕ) (bytes : List ℕ) (found : Option Record) → eight got ≡ take 8 (drop (place + 12) bytes) → got < 2 ^ 64
    → end < got
    → MatchOption found ((number : ℕ) (e : Entry) → Stands random bytes place number e → ⊥) (λ one. IsFound random bytes place one)
    → IsTrue (is_some found) ↔ NamesMoreAt random bytes place end
names_by random place end got bytes (Some one) read fits more is = (
  λ yes. (one.number, entry_of bytes one, is.stands, omega (arith, durable_read random place one.number got (entry_of bytes one) bytes read fits is.stands, more)),
  λ n. refl,
)
names_by random place end got bytes None read fits more none =
    decided_not (NamesMoreAt random bytes place end) (λ n. none n.0 n.1 n.2)

-- ## All places

names_inside : (random place end : ℕ) (bytes : List ℕ) → NamesMoreAt random bytes place end → (end ≤ place) × (place < length bytes)
names_inside random place end bytes n =
    (omega (arith, n.2.is.durable_before, n.3), omega (arith, ends_inside random place n.0 n.1 bytes n.2))

pub named : (random place end : ℕ) (bytes : List ℕ) → NamesMoreAt random bytes place end → IsTrue true ↔ NamesMore random bytes end
named random place end bytes n = (λ yes. (place, n), λ m. refl)

pub not_named : (random last end : ℕ) (bytes : List ℕ) → length bytes ≤ last
    → ((p : ℕ) → end ≤ p → p < last → NamesMoreAt random bytes p end → ⊥) → IsTrue false ↔ NamesMore random bytes end
not_named random last end bytes all none =
    decided_not (NamesMore random bytes end)
    (λ m. let i = names_inside random m.0 end bytes m.1 in none m.0 i.0 (omega (arith, i.1, all)) m.1)

pub names_there : (random place end : ℕ) (bytes : List ℕ) (b : Bool) → b ≡ true → IsTrue b ↔ NamesMoreAt random bytes place end
    → NamesMoreAt random bytes place end
names_there random place end bytes b holds is = is.0 holds

pub names_not : (random place end : ℕ) (bytes : List ℕ) (b : Bool) → b ≡ false → IsTrue b ↔ NamesMoreAt random bytes place end
    → NamesMoreAt random bytes place end → ⊥
names_not random place end bytes b fails is n = false≢true (sym fails ∙ is.1 n)

not_at : (random place end p : ℕ) (bytes : List ℕ) → ((p : ℕ) → end ≤ p → p < place → NamesMoreAt random bytes p end → ⊥)
    → (NamesMoreAt random bytes place end → ⊥) → end ≤ p → NamesMoreAt random bytes p end → (p < place) ⊎ (place ≤ p) → p < place + 1 → ⊥
not_at random place end p bytes below here after n (inl less) before = below p after less n
not_at random place end p bytes below here after n (inr most) before =
    let same : p ≡ place = omega (arith, most, before) in here (subst (λ q. NamesMoreAt random bytes q end) same n)

pub not_below_more : (random place end : ℕ) (bytes : List ℕ) → ((p : ℕ) → end ≤ p → p < place → NamesMoreAt random bytes p end → ⊥)
    → (NamesMoreAt random bytes place end → ⊥) → (p : ℕ) → end ≤ p → p < place + 1 → NamesMoreAt random bytes p end → ⊥
not_below_more random place end bytes below here p after before n = not_at random place end p bytes below here after n (cases_lt p place) before
