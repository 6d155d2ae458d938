-- A world with files that join now, and the steps in which the host has no part.
use Rattle.sam_rest.proofs.Common.{◌≡◌, ℕ, Bool, true, false, List, [], ◌∷◌, ◌++◌, Option, Some, Result, Ok, Err, refl, sym, ap, ◌∙◌, subst, PlainHost, PlainTerminal, Made, Acted, TermFault, HFrame, PlainWorld, step_of, after_act, after_compose, term_takes, take_of, mesgs, IsInOrder}
unfoldable use Rattle.sam_rest.proofs.Common.{act_of, flush_of}
use Rattle.sam_crossing.proofs.Common.{append_assoc, option_map, true≢false}
use Rattle.sam_runes.specs.Slots.{Slots}
use Rattle.sam_text.specs.Files.{PlainFile}
use Rattle.sam_host.specs.Host.{given_slots, with_given}
use Rattle.sam_host.specs.Laws.{AreGiven}
use Rattle.sam_crossing.specs.declared.event.Event.{Event}
use Rattle.sam_crossing.specs.declared.event.Event.TheVariants.{User, Add, Mark, Act, Flush, HostTake, TermTake}
use Rattle.sam_crossing.specs.Order.{InOrder}
use Rattle.sam_crossing.specs.Joining.{HasGiven, with_more}
use Rattle.sam_crossing.proofs.MoreFiles.{given-append, given_both, given_joined, nothing_more, one_more}

abbrev pub with_joined : PlainWorld → List (List ℕ × List ℕ) → PlainWorld
with_joined w more = record w { host = with_more w.host (given_slots more) }

pub both-more : (h : PlainHost) (more others : List (List ℕ × List ℕ)) → with_more (with_more h (given_slots more)) (given_slots others) ≡ with_more h (given_slots (more ++ others))
both-more h more others =
    ap (λ (ss : Slots PlainFile). record h { files = record h.files { slots = ss } })
    (append_assoc h.files.slots (given_slots more) (given_slots others) ∙ ap (λ (ss : Slots PlainFile). h.files.slots ++ ss) (sym (given-append more others)))

given-more : (more : List (List ℕ × List ℕ)) (h : PlainHost) → AreGiven more → HasGiven h.files → HasGiven (with_more h (given_slots more)).files
given-more [] h few g = subst (λ (k : PlainHost). HasGiven k.files) (sym (nothing_more h)) g
given-more (x ∷ more) h few g =
    subst (λ (k : PlainHost). HasGiven k.files) (one_more h x (given_slots more)) (given-more more (with_given h x) few.2 (given_joined h x few.1 g))

-- it is in order
pub order-joined : (w : PlainWorld) (more : List (List ℕ × List ℕ)) → AreGiven more → IsInOrder w → IsInOrder (with_joined w more)
order-joined w more few i = record {
  counted = record { all = i.counted.all; stamps = i.counted.stamps };
  given = given-more more w.host few i.given;
  ordered = i.joined more few;
  joined = λ others fit. subst (λ (h : PlainHost). InOrder h w.term w.up (mesgs w.down)) (sym (both-more w.host more others)) (i.joined (more ++ others) (given_both more others few fit));
}

-- the host has no part in the step
abbrev pub is_apart : Event → Bool
is_apart (User e) = true
is_apart (Add name text) = false
is_apart (Mark f) = false
is_apart Act = true
is_apart Flush = true
is_apart HostTake = false
is_apart TermTake = true

act-wider : (w : PlainWorld) (more : List (List ℕ × List ℕ)) (a : Result (PlainTerminal × Acted) TermFault) → after_act (with_joined w more) a ≡ option_map (λ v. with_joined v more) (after_act w a)
act-wider w more (Err why) = refl
act-wider w more (Ok p) = refl

compose-wider : (w : PlainWorld) (more : List (List ℕ × List ℕ)) (a : Result Made TermFault) → after_compose (with_joined w more) a ≡ option_map (λ v. with_joined v more) (after_compose w a)
compose-wider w more (Err why) = refl
compose-wider w more (Ok p) = refl

take-wider : (w : PlainWorld) (more : List (List ℕ × List ℕ)) (frames : List HFrame) → term_takes (with_joined w more) frames ≡ option_map (λ v. with_joined v more) (term_takes w frames)
take-wider w more [] = refl
take-wider w more (frame ∷ frames) = compose-wider (record w { down = frames }) more (take_of w.term frame)

-- so it leads there with the files, too
pub joined-step : (w next : PlainWorld) (e : Event) (more : List (List ℕ × List ℕ)) → is_apart e ≡ true → step_of w e ≡ Some next → step_of (with_joined w more) e ≡ Some (with_joined next more)
joined-step w next e more apart s = by e refl apart ∙ ap (λ (o : Option PlainWorld). option_map (λ v. with_joined v more) o) s
  where
    by : (x : Event) → e ≡ x → is_apart x ≡ true → step_of (with_joined w more) e ≡ option_map (λ v. with_joined v more) (step_of w e)
    by (User x) q k = ap (step_of (with_joined w more)) q ∙ sym (ap (λ (y : Event). option_map (λ v. with_joined v more) (step_of w y)) q)
    by (Add name text) q k = absurd (true≢false (sym k))
    by (Mark f) q k = absurd (true≢false (sym k))
    by Act q k = ap (step_of (with_joined w more)) q ∙ act-wider w more (act_of w.term) ∙ sym (ap (λ (y : Event). option_map (λ v. with_joined v more) (step_of w y)) q)
    by Flush q k = ap (step_of (with_joined w more)) q ∙ compose-wider w more (flush_of w.term) ∙ sym (ap (λ (y : Event). option_map (λ v. with_joined v more) (step_of w y)) q)
    by HostTake q k = absurd (true≢false (sym k))
    by TermTake q k = ap (step_of (with_joined w more)) q ∙ take-wider w more w.down ∙ sym (ap (λ (y : Event). option_map (λ v. with_joined v more) (step_of w y)) q)
