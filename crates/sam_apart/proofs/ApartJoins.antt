-- Files that join a host, or are marked there, between two messages.
use Rattle.sam_apart.proofs.Common.{◌≡◌, ℕ, ◌+◌, ◌==◌, Bool, true, false, List, [], ◌∷◌, ◌++◌, map, append-nil, append_assoc, Option, Some, None, if◌then◌else◌, refl, sym, ap, ◌∙◌, subst, arith, same_Some, PlainHost, with_given, PlainWorld, step_of, run_of, user_events, joined_files, IsInOrder, steps_in_order, Each, each_append, HFrame, stamped, Aside, Joins, Marks, Asides, may_do, after_aside, aside_frames, asides_in, without_asides, joined_in, marked_in, Event}
use Rattle.sam_mesg.specs.declared.hmesg.Hmesg.{Hmesg}
use Rattle.sam_host.specs.Host.{told_dirty}
use Rattle.sam_crossing.specs.World.{joined_by, marked_by, marked_files}
use Rattle.sam_crossing.specs.declared.event.Event.TheVariants.{User, Add, Mark, Act, Flush, HostTake, TermTake}
use Rattle.sam_term.specs.declared.event.UserEvent.{UserEvent}

-- ## Events among which there are others

abbrev pub File : Type 0
File = List ℕ × List ℕ

abbrev pub event_of : Aside → Event
event_of (Joins file) = Add file.0 file.1
event_of (Marks f) = Mark f

-- these are done, one after another
abbrev pub adds : List Aside → List Event
adds asides = map event_of asides

abbrev pub at_count : ℕ → List Aside → Asides
at_count count asides = map (λ (aside : Aside). (count, aside)) asides

pub without-adds : (asides : List Aside) (es : List Event) → without_asides (adds asides ++ es) ≡ without_asides es
without-adds [] es = refl
without-adds (Joins file ∷ asides) es = without-adds asides es
without-adds (Marks f ∷ asides) es = without-adds asides es

pub asides-adds : (count : ℕ) (asides : List Aside) (es : List Event) → asides_in count (adds asides ++ es) ≡ at_count count asides ++ asides_in count es
asides-adds count [] es = refl
asides-adds count (Joins file ∷ asides) es = ap (λ (l : Asides). (count, Joins file) ∷ l) (asides-adds count asides es)
asides-adds count (Marks f ∷ asides) es = ap (λ (l : Asides). (count, Marks f) ∷ l) (asides-adds count asides es)

pub users-without : (es : List Event) → user_events (without_asides es) ≡ user_events es
users-without [] = refl
users-without (User e ∷ es) = ap (λ (l : List UserEvent). e ∷ l) (users-without es)
users-without (Add name text ∷ es) = users-without es
users-without (Mark f ∷ es) = users-without es
users-without (Act ∷ es) = users-without es
users-without (Flush ∷ es) = users-without es
users-without (HostTake ∷ es) = users-without es
users-without (TermTake ∷ es) = users-without es

pub files-joined : (count : ℕ) (es : List Event) → joined_files es ≡ joined_in (asides_in count es)
files-joined count [] = refl
files-joined count (User e ∷ es) = files-joined count es
files-joined count (Add name text ∷ es) = ap (λ (l : List File). (name, text) ∷ l) (files-joined count es)
files-joined count (Mark f ∷ es) = files-joined count es
files-joined count (Act ∷ es) = files-joined count es
files-joined count (Flush ∷ es) = files-joined count es
files-joined count (HostTake ∷ es) = files-joined (count + 1) es
files-joined count (TermTake ∷ es) = files-joined count es

pub files-marked : (count : ℕ) (es : List Event) → marked_files es ≡ marked_in (asides_in count es)
files-marked count [] = refl
files-marked count (User e ∷ es) = files-marked count es
files-marked count (Add name text ∷ es) = files-marked count es
files-marked count (Mark f ∷ es) = ap (λ (l : List ℕ). f ∷ l) (files-marked count es)
files-marked count (Act ∷ es) = files-marked count es
files-marked count (Flush ∷ es) = files-marked count es
files-marked count (HostTake ∷ es) = files-marked (count + 1) es
files-marked count (TermTake ∷ es) = files-marked count es

-- where nothing is done beside the messages, these are all events
pub none-without : (count : ℕ) (es : List Event) → asides_in count es ≡ [] → without_asides es ≡ es
none-without count [] none = refl
none-without count (User e ∷ es) none = ap (λ (l : List Event). User e ∷ l) (none-without count es none)
none-without count (Add name text ∷ es) none = absurd (cc)
none-without count (Mark f ∷ es) none = absurd (cc)
none-without count (Act ∷ es) none = ap (λ (l : List Event). Act ∷ l) (none-without count es none)
none-without count (Flush ∷ es) none = ap (λ (l : List Event). Flush ∷ l) (none-without count es none)
none-without count (HostTake ∷ es) none = ap (λ (l : List Event). HostTake ∷ l) (none-without (count + 1) es none)
none-without count (TermTake ∷ es) none = ap (λ (l : List Event). TermTake ∷ l) (none-without count es none)

-- ## What is done now

-- the host, the frames and what is done later, behind these frames
abbrev pub behind_frames : List HFrame → Option (PlainHost × (List HFrame × Asides)) → Option (PlainHost × (List HFrame × Asides))
behind_frames frames None = None
behind_frames frames (Some p) = Some (p.0, (frames ++ p.1.0, p.1.1))

-- the host once all is done that is done after as many messages as it has handled, the frames of that, and what is done later; none where
-- something may not be done
abbrev pub arrived : PlainHost → Asides → Option (PlainHost × (List HFrame × Asides))
arrived h [] = Some (h, ([], []))
arrived h (j ∷ asides) =
    if j.0 == h.taken then (if may_do h j.1 then behind_frames (aside_frames h j.1) (arrived (after_aside h j.1) asides) else None) else Some (h, ([], j ∷ asides))

-- the world after it
abbrev pub world_then : PlainWorld → PlainHost → List HFrame → PlainWorld
world_then w h frames = record w { host = h; down = w.down ++ frames }

-- so many steps of a world
pub record Arrives (w : PlainWorld) (asides : Asides) (p : PlainHost × (List HFrame × Asides)) : Type 0 where
  pub done_now : List Aside
  pub runs : (es : List Event) → run_of w (adds done_now ++ es) ≡ run_of (world_then w p.0 p.1.0) es
  pub are : asides ≡ at_count w.host.taken done_now ++ p.1.1
  pub order : IsInOrder w → IsInOrder (world_then w p.0 p.1.0)
  pub taken : p.0.taken ≡ w.host.taken
  pub version : p.0.version ≡ w.host.version
  pub done : p.0.is_done ≡ w.host.is_done
  pub stamps : Each (λ (frame : HFrame). frame.seen ≡ w.host.taken) p.1.0

nothing_then : (w : PlainWorld) → world_then w w.host [] ≡ w
nothing_then w = ap (λ (fs : List HFrame). record w { down = fs }) (append-nil w.down)

arrives_none : (w : PlainWorld) (asides : Asides) → Arrives w asides (w.host, ([], asides))
arrives_none w asides = record {
  done_now = [];
  runs = λ es. ap (λ (v : PlainWorld). run_of v es) (sym (nothing_then w));
  are = refl;
  order = λ i. subst IsInOrder (sym (nothing_then w)) i;
  taken = refl;
  version = refl;
  done = refl;
  stamps = tt;
}

each_stamped : (n : ℕ) (ms : List Hmesg) → Each (λ (frame : HFrame). frame.seen ≡ n) (stamped n ms)
each_stamped n [] = tt
each_stamped n (m ∷ ms) = (refl, each_stamped n ms)

-- one of them
record Does (w : PlainWorld) (a : Aside) : Type 0 where
  step : step_of w (event_of a) ≡ Some (world_then w (after_aside w.host a) (aside_frames w.host a))
  taken : (after_aside w.host a).taken ≡ w.host.taken
  version : (after_aside w.host a).version ≡ w.host.version
  done : (after_aside w.host a).is_done ≡ w.host.is_done
  stamps : Each (λ (frame : HFrame). frame.seen ≡ w.host.taken) (aside_frames w.host a)

does : (w : PlainWorld) (a : Aside) → may_do w.host a ≡ true → Does w a
does w (Joins file) may = record {
  step = ap (λ (b : Bool). if b then Some (joined_by w file.0 file.1) else None) may
      ∙ ap (λ (fs : List HFrame). Some (record w { host = with_given w.host file; down = fs })) (sym (append-nil w.down));
  taken = refl;
  version = refl;
  done = refl;
  stamps = tt;
}
does w (Marks f) may = record {
  step = ap (λ (b : Bool). if b then Some (marked_by w f) else None) may;
  taken = refl;
  version = refl;
  done = refl;
  stamps = each_stamped w.host.taken (told_dirty w.host.files f);
}

-- one, and then the others
arrives_more : (w : PlainWorld) (j : ℕ × Aside) (asides : Asides) (r : PlainHost × (List HFrame × Asides)) → j.0 ≡ w.host.taken → may_do w.host j.1 ≡ true
    → Arrives (world_then w (after_aside w.host j.1) (aside_frames w.host j.1)) asides r
    → Arrives w (j ∷ asides) (r.0, (aside_frames w.host j.1 ++ r.1.0, r.1.1))
arrives_more w j asides r here may a =
    let d = does w j.1 may in
    let v = world_then w (after_aside w.host j.1) (aside_frames w.host j.1) in
    let same : world_then v r.0 r.1.0 ≡ world_then w r.0 (aside_frames w.host j.1 ++ r.1.0) =
    ap (λ (fs : List HFrame). record w { host = r.0; down = fs }) (append_assoc w.down (aside_frames w.host j.1) r.1.0) in
    record {
      done_now = j.1 ∷ a.done_now;
      runs = λ es. rw d.step (a.runs es ∙ ap (λ (u : PlainWorld). run_of u es) same);
      are = ap (λ (n : ℕ). (n, j.1) ∷ asides) here ∙ ap (λ (l : Asides). (w.host.taken, j.1) ∷ l) (a.are ∙ ap (λ (n : ℕ). at_count n a.done_now ++ r.1.1) d.taken);
      order = λ i. subst IsInOrder same (a.order (steps_in_order w v (event_of j.1) i d.step));
      taken = a.taken ∙ d.taken;
      version = a.version ∙ d.version;
      done = a.done ∙ d.done;
      stamps = each_append (λ (frame : HFrame). frame.seen ≡ w.host.taken) (aside_frames w.host j.1) r.1.0 d.stamps
          (subst (λ (n : ℕ). Each (λ (frame : HFrame). frame.seen ≡ n) r.1.0) d.taken a.stamps);
    }

pub arrives : (asides : Asides) (w : PlainWorld) (p : PlainHost × (List HFrame × Asides)) → arrived w.host asides ≡ Some p → Arrives w asides p
arrives [] w p e = subst (Arrives w []) (same_Some _ _ e) (arrives_none w [])
arrives (j ∷ asides) w p e =
    by (j.0 == w.host.taken) (may_do w.host j.1) refl refl (arrives asides (world_then w (after_aside w.host j.1) (aside_frames w.host j.1))) e
  where
    later : Type 0
    later =
        (r : PlainHost × (List HFrame × Asides)) → arrived (after_aside w.host j.1) asides ≡ Some r
        → Arrives (world_then w (after_aside w.host j.1) (aside_frames w.host j.1)) asides r

    behind : (o : Option (PlainHost × (List HFrame × Asides))) → arrived (after_aside w.host j.1) asides ≡ o → (j.0 == w.host.taken) ≡ true → may_do w.host j.1 ≡ true → later
        → behind_frames (aside_frames w.host j.1) o ≡ Some p → Arrives w (j ∷ asides) p
    behind None q here may more e = absurd (grind (arith, e))
    behind (Some r) q here may more e = subst (Arrives w (j ∷ asides)) (same_Some _ _ e) (arrives_more w j asides r (grind (arith, here)) may (more r q))

    by : (here may : Bool) → (j.0 == w.host.taken) ≡ here → may_do w.host j.1 ≡ may → later
        → (if here then (if may then behind_frames (aside_frames w.host j.1) (arrived (after_aside w.host j.1) asides) else None) else Some (w.host, ([], j ∷ asides))) ≡ Some p
        → Arrives w (j ∷ asides) p
    by false may q x more e = subst (Arrives w (j ∷ asides)) (same_Some _ _ e) (arrives_none w (j ∷ asides))
    by true false q x more e = absurd (grind (arith, e))
    by true true q x more e = behind (arrived (after_aside w.host j.1) asides) refl q x more e
