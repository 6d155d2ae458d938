-- After a Version the terminal knows every file of the host by its name.
use Rattle.std.proofs.Common.{◌≡◌, ℕ, zero, suc, ◌+◌, Bool, true, false, ◌==◌, List, [], ◌∷◌, ◌++◌, length, Option, Some, None, Result, Ok, Err, refl, sym, ap, ◌∙◌, subst, arith, option_and_then, unwrap_or}
use Rattle.std.proofs.lemmas.List.{map-append}
use Rattle.std.proofs.lemmas.Option.{same_Some}
use Rattle.sam_runes.specs.Slots.{slot}
use Rattle.sam_runes.specs.Checks.{first_of_checks}
use Rattle.sam_text.specs.Files.{PlainFile, PlainFiles, announce_all, blank_file, file_at, has_file, put_file}
use Rattle.sam_mesg.specs.declared.tmesg.Tmesg.{Tmesg}
use Rattle.sam_mesg.specs.declared.tmesg.Tmesg.TheVariants.{Tversion}
use Rattle.sam_mesg.specs.declared.hmesg.Hmesg.{Hmesg}
use Rattle.sam_mesg.specs.declared.hmesg.HFrame.{HFrame}
use Rattle.sam_host.specs.Host.{PlainHost, given_file, given_slots, new_host, reply_to}
use Rattle.sam_host.proofs.SoundLaws.{answer_is, of_answer}
unfoldable use Rattle.sam_host.specs.Host.{answer, reply_version}
use Rattle.sam_host.specs.declared.fault.HostFault.{HostFault}
use Rattle.sam_term.specs.Term.{PlainTerminal, Made, known_at, new_terminal, act_on, event_outcome, event_checks, frame_outcome, frame_checks, decided, made_unless}
use Rattle.std.specs.Prelude.{nat_lt}
use Rattle.sam_term.specs.declared.fault.TermFault.TheVariants as fault
unfoldable use Rattle.sam_term.specs.Term.{act_of, flush_of, flushed, take_of}
use Rattle.sam_term.specs.declared.event.Acted.{Acted}
use Rattle.sam_term.specs.declared.event.Acted.TheVariants.{Done}
use Rattle.sam_term.specs.declared.event.Verdict.TheVariants.{Waits, Refuses}
use Rattle.sam_term.specs.declared.event.UserEvent.{UserEvent}
use Rattle.sam_term.specs.declared.event.Verdict.{Verdict}
use Rattle.sam_term.specs.declared.fault.TermFault.{TermFault}
use Rattle.sam_crossing.proofs.Ordered.{mesgs_stamped}
use Rattle.sam_host.specs.Host.{told_dirty}
use Rattle.sam_host.specs.Marking.{marked}
use Rattle.sam_rest.proofs.Marked.{mark-frames}
use Rattle.sam_crossing.proofs.OrderLaws.{joins_step, marks_step}
use Rattle.sam_crossing.proofs.RunLaws.{counted-result, run_keeps}
use Rattle.sam_crossing.specs.World.{PlainWorld, after_answer, after_act, after_compose, host_takes, joined_files, mesgs, new_world, run_of, step_of, term_takes}
use Rattle.sam_crossing.specs.declared.event.Event.{Event}
use Rattle.sam_crossing.specs.declared.event.Event.TheVariants.{User, Add, Mark, Act, Flush, HostTake, TermTake}
use Rattle.sam_rest.specs.Names.{VersionTellsNames}
use Rattle.sam_rest.proofs.Announced.{mark_stays, Stays, announced_all, reply_stays}
use Rattle.sam_rest.proofs.HostNames.{mark_tells, IsNameOf, Tells, file-other, file-put, reply_tells}
use Rattle.sam_rest.proofs.TermNames.{Keeps, all_named, as_is, frame_names, keeps_event, keeps_flushed, name_of, named-append}

-- ## What every run keeps

-- once the terminal has taken what is under way, it knows each announced file by its name
record AreNamed (w : PlainWorld) : Type 0 where
  named : (g : ℕ) → IsNameOf w.host.files (suc g) (all_named (suc g) (mesgs w.down) (name_of w.term (suc g)))

-- a step of the terminal that keeps names
terminal_keeps : (w : PlainWorld) (t : PlainTerminal) (up : _) → AreNamed w → Keeps w.term t → AreNamed (record w { term = t; up = up })
terminal_keeps w t up a k = record { named = λ g. subst (λ (n : List ℕ). IsNameOf w.host.files (suc g) (all_named (suc g) (mesgs w.down) n)) (sym (k.same (suc g))) (a.named g) }

same_ok : {A E : Type 0} (x y : A) → ◌≡◌ {A = Result A E} (Ok x) (Ok y) → x ≡ y
same_ok x y e = cc

acted_names : (t : PlainTerminal) (held : List UserEvent) (r : PlainTerminal × Acted) → act_on t held ≡ Ok r → Keeps t r.0
acted_names t [] r e = subst (λ (x : PlainTerminal × Acted). Keeps t x.0) (same_ok _ _ e) (as_is t)
acted_names t (x ∷ es) r e = by (first_of_checks (event_checks t x)) e
  where
    u : PlainTerminal
    u = record t { held = es }

    by : (o : Option Verdict) → decided o t es (event_outcome u x) ≡ Ok r → Keeps t r.0
    by (Some Waits) e = subst (λ (x : PlainTerminal × Acted). Keeps t x.0) (same_ok _ _ e) (as_is t)
    by (Some (Refuses why)) e = subst (λ (x : PlainTerminal × Acted). Keeps t x.0) (same_ok _ _ e) (record { same = λ g. refl })
    by None e =
        let made = event_outcome u x in
        subst (λ (x : PlainTerminal × Acted). Keeps t x.0) (counted-result made.0.sent (made.0, Done made.1) r e) (record { same = (keeps_event u x).same })

act_step : (w next : PlainWorld) → AreNamed w → step_of w Act ≡ Some next → AreNamed next
unfolding act_of
act_step w next a s = by (act_on w.term w.term.held) refl s
  where
    by : (r : Result (PlainTerminal × Acted) TermFault) → act_on w.term w.term.held ≡ r → after_act w r ≡ Some next → AreNamed next
    by (Err why) q e = absurd (cc)
    by (Ok r) q e = subst AreNamed (same_Some _ _ e) (terminal_keeps w r.0 _ a (acted_names w.term w.term.held r q))

flush_step : (w next : PlainWorld) → AreNamed w → step_of w Flush ≡ Some next → AreNamed next
unfolding flush_of
flush_step w next a s = by (flush_of w.term) refl s
  where
    by : (r : Result Made TermFault) → flush_of w.term ≡ r → after_compose w r ≡ Some next → AreNamed next
    by (Err why) q e = absurd (cc)
    by (Ok r) q e =
        let is : flushed w.term ≡ r = counted-result (flushed w.term).0.sent (flushed w.term) r q in
        subst AreNamed (same_Some _ _ e) (terminal_keeps w r.0 _ a (subst (λ (x : Made). Keeps w.term x.0) is (keeps_flushed w.term)))

-- a frame that is taken
taken-outcome : (t : PlainTerminal) (frame : HFrame) (r : Made) → take_of t frame ≡ Ok r → frame_outcome t frame.msg ≡ r
unfolding take_of
taken-outcome t frame r q = by (first_of_checks ((nat_lt t.sent frame.seen, fault.FromTheFuture) ∷ frame_checks t frame.msg)) q
  where
    by : (o : Option TermFault) → made_unless o (frame_outcome t frame.msg) ≡ Ok r → frame_outcome t frame.msg ≡ r
    by (Some why) e = absurd (cc)
    by None e = counted-result (frame_outcome t frame.msg).0.sent (frame_outcome t frame.msg) r e

take_step : (w next : PlainWorld) (down : List HFrame) → w.down ≡ down → AreNamed w → term_takes w down ≡ Some next → AreNamed next
take_step w next [] is a s = absurd (cc)
take_step w next (frame ∷ frames) is a s = by (take_of w.term frame) refl s
  where
    by : (r : Result Made TermFault) → take_of w.term frame ≡ r → after_compose (record w { down = frames }) r ≡ Some next → AreNamed next
    by (Err why) q e = absurd (cc)
    by (Ok r) q e =
        let outcome = taken-outcome w.term frame r q in
        subst AreNamed (same_Some _ _ e) (record {
          named = λ g.
              let before : IsNameOf w.host.files (suc g) (all_named (suc g) (mesgs (frame ∷ frames)) (name_of w.term (suc g))) =
              subst (λ (l : List HFrame). IsNameOf w.host.files (suc g) (all_named (suc g) (mesgs l) (name_of w.term (suc g)))) is (a.named g) in
              subst (λ (n : List ℕ). IsNameOf w.host.files (suc g) (all_named (suc g) (mesgs frames) n))
              (sym (ap (λ (x : Made). name_of x.0 (suc g)) (sym outcome) ∙ frame_names w.term frame.msg (suc g))) before;
        })

-- an answer of the host
answer_names : (h k : PlainHost) (m : Tmesg) (frames : List HFrame) (g : ℕ) → answer h m ≡ Ok (k, frames) → Tells (suc g) h.files k.files (mesgs frames)
answer_names h k m frames g e =
    let P : PlainHost → List HFrame → Type 0 = λ k frames. Tells (suc g) h.files k.files (mesgs frames) in
    of_answer P h k m frames e (answer_is P h m (record { told = λ n is. is }) (λ allowed.
    subst (λ (l : List Hmesg). Tells (suc g) h.files (reply_to h m).0.files l) (sym (mesgs_stamped ((reply_to h m).0.taken + 1) (reply_to h m).1)) (reply_tells g h m)))

host_step : (w next : PlainWorld) (up : List Tmesg) → AreNamed w → host_takes w up ≡ Some next → AreNamed next
host_step w next [] a s = absurd (cc)
host_step w next (m ∷ ms) a s = by (answer w.host m) refl s
  where
    by : (r : Result (PlainHost × List HFrame) HostFault) → answer w.host m ≡ r → after_answer (record w { up = ms }) r ≡ Some next → AreNamed next
    by (Err why) q e = absurd (cc)
    by (Ok r) q e = subst AreNamed (same_Some _ _ e) (record {
      named = λ g.
          let n = name_of w.term (suc g) in
          subst (IsNameOf r.0.files (suc g)) (sym (ap (λ (l : List Hmesg). all_named (suc g) l n) (map-append _ w.down r.1) ∙ named-append (suc g) (mesgs w.down) (mesgs r.1) n))
          ((answer_names w.host r.0 m r.1 g q).told (all_named (suc g) (mesgs w.down) n) (a.named g));
    })

-- a file that joins is not announced
joined-name : (fs : PlainFiles) (file : List ℕ × List ℕ) (g : ℕ) (n : List ℕ) → IsNameOf fs g n → IsNameOf (put_file fs (length fs.slots) (given_file file)) g n
joined-name fs file g n is = by (length fs.slots == g) refl
  where
    none : false ≡ true → ⊥
    none e = cc

    by : (b : Bool) → (length fs.slots == g) ≡ b → IsNameOf (put_file fs (length fs.slots) (given_file file)) g n
    by true q a =
        let here = subst (λ (k : ℕ). file_at (put_file fs (length fs.slots) (given_file file)) k ≡ given_file file) (grind (arith, q)) (file-put fs (length fs.slots) (given_file file)) in
        absurd (none (sym (ap (λ (x : PlainFile). x.announced) here) ∙ a))
    by false q a =
        let other = file-other fs (length fs.slots) g (given_file file) q in
        is (sym (ap (λ (x : PlainFile). x.announced) other) ∙ a) ∙ sym (ap (λ (x : PlainFile). x.name) other)

named_step : (w : PlainWorld) (e : Event) (next : PlainWorld) → AreNamed w → step_of w e ≡ Some next → AreNamed next
named_step w (User x) next a s = subst AreNamed (same_Some _ _ s) (record { named = a.named })
named_step w (Add name text) next a s =
    let j = joins_step w next name text s in
    subst AreNamed (sym j.is) (record { named = λ g. joined-name w.host.files (name, text) (suc g) (all_named (suc g) (mesgs w.down) (name_of w.term (suc g))) (a.named g) })
named_step w (Mark f) next a s =
    let m = marks_step w next f s in
    subst AreNamed (sym m.is) (record {
      named = λ g.
          let n = name_of w.term (suc g) in
          subst (IsNameOf (marked w.host f).files (suc g)) (sym (ap (λ (l : List Hmesg). all_named (suc g) l n) (mark-frames w f) ∙ named-append (suc g) (mesgs w.down) (told_dirty w.host.files f) n))
          ((mark_tells (suc g) w.host f).told (all_named (suc g) (mesgs w.down) n) (a.named g));
    })
named_step w Act next a s = act_step w next a s
named_step w Flush next a s = flush_step w next a s
named_step w HostTake next a s = host_step w next w.up a s
named_step w TermTake next a s = take_step w next w.down refl a s

unannounced : (given : List (List ℕ × List ℕ)) (g : ℕ) → (unwrap_or (slot (given_slots given) g) blank_file).announced ≡ false
unannounced [] g = refl
unannounced (x ∷ given) zero = refl
unannounced (x ∷ given) (suc g) = unannounced given g

-- at the start no file is announced
starts : (given : List (List ℕ × List ℕ)) (g : ℕ) → IsNameOf (new_host given).files (suc g) (name_of new_terminal (suc g))
starts given g a = absurd (none (sym (unannounced given g) ∙ a))
  where
    none : false ≡ true → ⊥
    none e = cc

-- ## After a Version

-- every file of the host, but the command file, is announced
record AreTold (w : PlainWorld) : Type 0 where
  told : (g : ℕ) → has_file w.host.files (suc g) ≡ true → (file_at w.host.files (suc g)).announced ≡ true

-- where a file that was not announced is there after a change, it was there before
told_stays : (w : PlainWorld) (h : PlainHost) → AreTold w → ((g : ℕ) → Stays (suc g) w.host.files h.files) → (g : ℕ) → has_file h.files (suc g) ≡ true → (file_at h.files (suc g)).announced ≡ true
told_stays w h a s g there = by (file_at h.files (suc g)).announced refl
  where
    none : true ≡ false → ⊥
    none e = cc

    by : (b : Bool) → (file_at h.files (suc g)).announced ≡ b → (file_at h.files (suc g)).announced ≡ true
    by true q = q
    by false q = let before = (s g).stays there q in absurd (none (sym (a.told g before.0) ∙ before.1))

answer_stays : (h k : PlainHost) (m : Tmesg) (frames : List HFrame) (g : ℕ) → answer h m ≡ Ok (k, frames) → Stays (suc g) h.files k.files
answer_stays h k m frames g e =
    let P : PlainHost → List HFrame → Type 0 = λ k frames. Stays (suc g) h.files k.files in
    of_answer P h k m frames e (answer_is P h m (record { stays = λ there not. (there, not) }) (λ allowed. record { stays = (reply_stays g h m allowed).stays }))

first_none : (e : Event) (es : List Event) → joined_files (e ∷ es) ≡ [] → joined_files (e ∷ []) ≡ []
first_none (Add name text) es none = absurd (cc)
first_none e es none = refl

rest_none : (e : Event) (es : List Event) → joined_files (e ∷ es) ≡ [] → joined_files es ≡ []
rest_none (Add name text) es none = absurd (cc)
rest_none e es none = none

-- the event does nothing at the host
abbrev IsTerminals : Event → Type 0
IsTerminals (User x) = Unit {0}
IsTerminals (Add name text) = ⊥
IsTerminals (Mark f) = ⊥
IsTerminals Act = Unit {0}
IsTerminals Flush = Unit {0}
IsTerminals HostTake = ⊥
IsTerminals TermTake = Unit {0}

host_kept : (w : PlainWorld) (e : Event) (next : PlainWorld) → step_of w e ≡ Some next → IsTerminals e → next.host ≡ w.host
host_kept w e next s t = grind arith

-- a step at which no file joins
told_step : (w : PlainWorld) (e : Event) (next : PlainWorld) → joined_files (e ∷ []) ≡ [] → AreTold w → step_of w e ≡ Some next → AreTold next
told_step w (Add name text) next none a s = absurd (cc)
told_step w (Mark f) next none a s =
    let m = marks_step w next f s in
    subst AreTold (sym m.is) (record { told = told_stays w (marked w.host f) a (λ g. mark_stays g w.host f m.shown.0) })
told_step w HostTake next none a s = by_up w.up s
  where
    by_up : (up : List Tmesg) → host_takes w up ≡ Some next → AreTold next
    by_up [] s = absurd (cc)
    by_up (m ∷ ms) s = by (answer w.host m) refl s
      where
        by : (r : Result (PlainHost × List HFrame) HostFault) → answer w.host m ≡ r → after_answer (record w { up = ms }) r ≡ Some next → AreTold next
        by (Err why) q e = absurd (cc)
        by (Ok r) q e = subst AreTold (same_Some _ _ e) (record { told = told_stays w r.0 a (λ g. answer_stays w.host r.0 m r.1 g q) })
told_step w e next none a s = record { told = λ g. subst (λ (h : PlainHost). has_file h.files (suc g) ≡ true → (file_at h.files (suc g)).announced ≡ true) (sym (host_kept w e next s tt)) (a.told g) }

told_run : (w : PlainWorld) (es : List Event) (last : PlainWorld) → joined_files es ≡ [] → AreTold w → run_of w es ≡ Some last → AreTold last
told_run w [] last none a r = subst AreTold (same_Some _ _ r) a
told_run w (e ∷ es) last none a r = by (step_of w e) refl r (λ next. told_run next es last (rest_none e es none))
  where
    by : (o : Option PlainWorld) → step_of w e ≡ o → option_and_then (λ next. run_of next es) o ≡ Some last → ((next : PlainWorld) → AreTold next → run_of next es ≡ Some last → AreTold last) → AreTold last
    by None q x later = absurd (cc)
    by (Some next) q x later = later next (told_step w e next (first_none e es none) a q) x

version_files : (h k : PlainHost) (offered : ℕ) (frames : List HFrame) → h.is_done ≡ false → answer h (Tversion offered) ≡ Ok (k, frames) → k.files ≡ record h.files { slots = announce_all h.files.slots }
unfolding answer reply_version
version_files h k offered frames running e = grind arith

-- the answer to a Version announces every file
version_told : (h k : PlainHost) (offered : ℕ) (frames : List HFrame) → h.is_done ≡ false → answer h (Tversion offered) ≡ Ok (k, frames)
    → (g : ℕ) → has_file k.files (suc g) ≡ true → (file_at k.files (suc g)).announced ≡ true
version_told h k offered frames running e g some =
    let is = version_files h k offered frames running e in
    ap (λ (fs : PlainFiles). (file_at fs (suc g)).announced) is ∙ announced_all h.files.slots g (sym (ap (λ (fs : PlainFiles). has_file fs (suc g)) is) ∙ some)

pub version_tells_names : VersionTellsNames
version_tells_names given before after w v offered rest fit first running up r none none_down zero some there = absurd (omega (arith, some))
version_tells_names given before after w v offered rest fit first running up r none none_down (suc g) some there = by (answer w.host (Tversion offered)) refl r
  where
    named : AreNamed v
    named = run_keeps AreNamed named_step w (HostTake ∷ after) v (run_keeps AreNamed named_step (new_world given) before w (record { named = λ g. starts given g }) first) r

    last : AreTold v → (known_at v.term (suc g)).name ≡ (file_at v.host.files (suc g)).name
    last told = subst (λ (frames : List HFrame). IsNameOf v.host.files (suc g) (all_named (suc g) (mesgs frames) (name_of v.term (suc g)))) none_down (named.named g) (told.told g there)

    by : (x : Result (PlainHost × List HFrame) HostFault) → answer w.host (Tversion offered) ≡ x → run_of w (HostTake ∷ after) ≡ Some v → (known_at v.term (suc g)).name ≡ (file_at v.host.files (suc g)).name
    by (Err why) q r = absurd (grind (arith, q, up, r))
    by (Ok x) q r =
        let next : PlainWorld = record w { host = x.0; up = rest; down = w.down ++ x.1 } in
        let step : step_of w HostTake ≡ Some next = ap (host_takes w) up ∙ ap (after_answer (record w { up = rest })) q in
        let on : run_of next after ≡ Some v = sym (ap (λ (o : Option PlainWorld). option_and_then (λ n. run_of n after) o) step) ∙ r in
        last (told_run next after v none (record { told = version_told w.host x.0 offered x.1 running q }) on)
