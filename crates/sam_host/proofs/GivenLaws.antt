-- A host that is made from names and texts, a file further.
use Rattle.sam_host.proofs.Common.{common_steps, ◌≡◌, ℕ, ◌≤◌, List, [], ◌∷◌, ◌++◌, length, Some, refl, ap, ◌∙◌, subst, rules, arith, reverse, RoomyText, most_in_name, Slots, put_slot, put_slot-push, PlainFile, given_file, given_slots, new_host, with_given, AreNames, given_of}
use Rattle.std.proofs.lemmas.List.{reverse-append, reverse-reverse, nil_from_length}

abbrev pub Given : Type 0
Given = List ℕ × RoomyText

-- the last of all is the first where they are turned round
turned : (all rest : List Given) (g : Given) → all ≡ rest ++ g ∷ [] → reverse all ≡ g ∷ reverse rest
turned all rest g e = ap reverse e ∙ reverse-append rest (g ∷ [])

-- the file that is popped last stands after those that were added, in front of those that are left
pub given_step : (ss : Slots PlainFile) (all rest : List Given) (g : Given) → all ≡ rest ++ g ∷ []
    → put_slot ss (length ss) (given_file (g.0, g.1.runes)) ++ given_slots (given_of (reverse rest)) ≡ ss ++ given_slots (given_of (reverse all))
given_step ss all rest g e = search (rules, common_steps, put_slot-push)

pub names_step : (all rest : List Given) (g : Given) → all ≡ rest ++ g ∷ [] → AreNames (reverse all) → (length g.0 ≤ most_in_name) × AreNames (reverse rest)
names_step all rest g e h = subst AreNames (turned all rest g e) h

pub twice : (given turned : List Given) → turned ≡ reverse given → reverse turned ≡ given
twice given turned e = ap reverse e ∙ reverse-reverse given

-- a host that is made and then given one more file is as if it had been made with that file too
pub adds_given : (given : List (List ℕ × List ℕ)) (more : List ℕ × List ℕ) → with_given (new_host given) more ≡ new_host (given ++ more ∷ [])
adds_given given more = grind (arith, put_slot-push, behind)
  where
    behind : (given : List (List ℕ × List ℕ)) → given_slots (given ++ more ∷ []) ≡ given_slots given ++ Some (given_file more) ∷ []
    behind [] = refl
    behind (g ∷ gs) = ap (λ ss. Some (given_file g) ∷ ss) (behind gs)

-- what `new` rests on
pub ruleset new_facts = (twice, given_step, names_step, common_steps, nil_from_length)
