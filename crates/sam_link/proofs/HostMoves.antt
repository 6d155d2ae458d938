-- What the host does keeps what holds of both ends.
use Rattle.std.proofs.Common.{◌≡◌, ℕ, ◌+◌, ◌<◌, ◌≤◌, List, [], ◌∷◌, ◌++◌, length, drop, Bool, true, false, refl, sym, ap, ◌∙◌, subst, arith, length-append, drop-drop, nat_le, ◌⊎◌, inl, inr, true≢false, ◌≢◌}
use Rattle.std.proofs.lemmas.Bool.Decides.{eqb_tells}
use Rattle.std.specs.Prelude.{max, ◌==◌, if◌then◌else◌}
use Rattle.sam_link.specs.End.{is_asking, is_up, may_send}
use Rattle.sam_link.specs.Feeding.{is_open}
use Rattle.sam_link.specs.Hellos.{IsHello, spelled}
use Rattle.sam_link.specs.Sessions.{StartsWith}
use Rattle.sam_link.specs.declared.hello.Hello.{Hello}
use Rattle.sam_link.specs.declared.hello.Id.{Id}
use Rattle.sam_link.specs.declared.phase.Phase.{Phase}
use Rattle.sam_link.specs.declared.phase.Phase.TheVariants.{Down, Asking, Open}
use Rattle.sam_link.proofs.Joint.{IsAnswer, IsCall, Joint, Sound, first_tail}
use Rattle.sam_link.proofs.Lines.{Line, at_most, drop_grows, starts_on, gone_on, read_in, went_on, behind_hello, comes_next, line_longer, line_read, longer, no_hello, none, same_hello}
use Rattle.sam_link.proofs.TerminalMoves.{more_to_go, other_at, same_at}
use Rattle.sam_link.proofs.Views.{Adds, Answers, Breaks, Goes, Takes, View, at, goes_on, moved}

pub adds : (id : Id) (t h : View) (more : List ℕ) (told top : ℕ) → Sound h → told ≤ max top h.told → h.top ≤ top → Joint id t h → Joint id t (moved h (Adds more told top))
adds id t h more told top sound says higher j = record {
  start = j.start;
  from = j.from;
  call = j.call;
  welcome = j.welcome;
  order = j.order;
  known = j.known;
  open_t = j.open_t;
  open_h = j.open_h;
  up_h = j.up_h;
  up_t = j.up_t;
  first = j.first;
  met = j.met;
  begins = j.begins;
  fits = j.fits;
  unsaid_t = j.unsaid_t;
  unsaid_h = j.unsaid_h;
  unfed_t = j.unfed_t;
  unfed_h = j.unfed_h;
  hellos_t = j.hellos_t;
  hellos_h = j.hellos_h;
  call_is = j.call_is;
  welcome_is = j.welcome_is;
  asks = j.asks;
  sends_t = j.sends_t;
  sends_h = λ o. more_to_go (h.went h.attempt) h.hello (spelled j.welcome) h.stream more h.given j.from sound.given j.from_in (j.sends_h o);
  unread = j.unread;
  up = j.up;
  down = λ same. line_longer h.stream (drop 42 (h.went h.attempt)) (t.fed h.attempt) more j.from t.received (j.down same);
  from_in = omega (arith, j.from_in, (length-append h.stream more));
  came_h = j.came_h;
  came_t = longer h.stream more t.came j.came_t;
  base_t = j.base_t;
  base_h = j.base_h;
  ahead_t = j.ahead_t;
  ahead_h = j.ahead_h;
  told_t = j.told_t;
  told_h = omega (arith, says, higher, j.told_h);
  start_in = j.start_in;
  from_base = j.from_base;
}

pub breaks : (id : Id) (t h : View) → Joint id t h → Joint id t (moved h Breaks)
breaks id t h j = record {
  start = j.start;
  from = j.from;
  call = j.call;
  welcome = j.welcome;
  order = j.order;
  known = j.known;
  open_t = j.open_t;
  open_h = λ e. absurd (true≢false (sym e));
  up_h = refl;
  up_t = j.up_t;
  first = j.first;
  met = j.met;
  begins = j.begins;
  fits = j.fits;
  unsaid_t = j.unsaid_t;
  unsaid_h = j.unsaid_h;
  unfed_t = j.unfed_t;
  unfed_h = j.unfed_h;
  hellos_t = j.hellos_t;
  hellos_h = j.hellos_h;
  call_is = j.call_is;
  welcome_is = λ e. absurd (true≢false (sym e));
  asks = j.asks;
  sends_t = j.sends_t;
  sends_h = λ e. absurd (true≢false (sym e));
  unread = j.unread;
  up = j.up;
  down = j.down;
  from_in = j.from_in;
  came_h = j.came_h;
  came_t = j.came_t;
  base_t = j.base_t;
  base_h = j.base_h;
  ahead_t = j.ahead_t;
  ahead_h = λ e. absurd (true≢false (sym e));
  told_t = j.told_t;
  told_h = j.told_h;
  start_in = j.start_in;
  from_base = j.from_base;
}

-- ## Bytes go

open_up : (p : Phase) → is_asking p ≡ false → is_up p ≡ true → is_open p ≡ true
open_up Down e u = u
open_up Asking e u = absurd (true≢false e)
open_up Open e u = refl

module _ (id : Id) (t h : View) (a b : ℕ) (j : Joint id t h) (up : is_up h.phase ≡ true) (whole : (b ≡ 0) ⊎ (drop a h.hello ≡ [])) where
  abbrev bytes : List ℕ
  bytes = goes_on h a b

  abbrev now : List ℕ
  now = h.went h.attempt ++ bytes

  is_now : is_open h.phase ≡ true
  is_now = open_up h.phase j.up_h up

  gone : bytes ++ (drop a h.hello ++ drop (h.given + b) h.stream) ≡ h.hello ++ drop h.given h.stream
  gone = rw (← drop-drop b h.given h.stream) (gone_on h.hello (drop h.given h.stream) a b whole)

  now_sends : now ++ (drop a h.hello ++ drop (h.given + b) h.stream) ≡ spelled j.welcome ++ drop j.from h.stream
  now_sends = went_on (h.went h.attempt) bytes (drop a h.hello ++ drop (h.given + b) h.stream) (h.hello ++ drop h.given h.stream)
      (spelled j.welcome ++ drop j.from h.stream) gone (j.sends_h is_now)

  now_hello : (x : Hello) → IsHello x → StartsWith now (spelled x) → IsAnswer id h.attempt j.start h.attempt x
  now_hello x is starts =
      let said = j.welcome_is is_now in
      let same : x ≡ j.welcome = same_hello x j.welcome now (drop a h.hello ++ drop (h.given + b) h.stream) (drop j.from h.stream) is said.0 starts now_sends in
      subst (λ (y : Hello). IsAnswer id h.attempt j.start h.attempt y) (sym same) said.1

  now_behind : StartsWith (drop j.from h.stream) (drop 42 now)
  now_behind = behind_hello j.welcome now (drop a h.hello ++ drop (h.given + b) h.stream) (drop j.from h.stream) now_sends

  went_now : (m : ℕ) → (m ≡ h.attempt) ⊎ (h.attempt ≢ m)
  went_now m = elim (eqb_tells h.attempt m) [ inl same ↦ inl (sym same.1) | inr other ↦ inr other.1 ]

  abbrev next : ℕ → List ℕ
  next m = h.went m ++ at h.attempt bytes m

  goes_hello : (m : ℕ) (x : Hello) → IsHello x → StartsWith (next m) (spelled x) → IsAnswer id h.attempt j.start m x
  goes_hello m x is starts = elim (went_now m) [
    | inl same ↦ subst (λ n. IsAnswer id h.attempt j.start n x) (sym same)
        (now_hello x is (subst (λ w. StartsWith w (spelled x)) (ap next same ∙ same_at h.attempt h.went bytes) starts))
    | inr other ↦ j.hellos_h m x is (subst (λ w. StartsWith w (spelled x)) (other_at h.attempt m h.went bytes other) starts)
  ]

  goes_down : h.attempt ≡ t.attempt → Line h.stream (drop 42 (next h.attempt)) (t.fed h.attempt) j.from t.received
  goes_down same = record {
    goes = rw (same_at h.attempt h.went bytes) now_behind;
    reads = starts_on (drop 42 (next h.attempt)) (drop 42 (h.went h.attempt)) (t.fed h.attempt) (drop_grows 42 (h.went h.attempt) (at h.attempt bytes h.attempt)) (j.down same).reads;
    count = (j.down same).count;
    inside = (j.down same).inside;
  }

  pub goes : Joint id t (moved h (Goes a b))
  goes = record {
    start = j.start;
    from = j.from;
    call = j.call;
    welcome = j.welcome;
    order = j.order;
    known = j.known;
    open_t = j.open_t;
    open_h = j.open_h;
    up_h = j.up_h;
    up_t = j.up_t;
    first = j.first;
    met = j.met;
    begins = j.begins;
    fits = j.fits;
    unsaid_t = j.unsaid_t;
    unsaid_h = λ m l. other_at h.attempt m h.went bytes (λ e. omega (arith, e, l)) ∙ j.unsaid_h m l;
    unfed_t = j.unfed_t;
    unfed_h = j.unfed_h;
    hellos_t = j.hellos_t;
    hellos_h = goes_hello;
    call_is = j.call_is;
    welcome_is = j.welcome_is;
    asks = j.asks;
    sends_t = j.sends_t;
    sends_h = λ o. ap (λ w. w ++ (drop a h.hello ++ drop (h.given + b) h.stream)) (same_at h.attempt h.went bytes) ∙ now_sends;
    unread = j.unread;
    up = j.up;
    down = goes_down;
    from_in = j.from_in;
    came_h = j.came_h;
    came_t = j.came_t;
    base_t = j.base_t;
    base_h = j.base_h;
    ahead_t = j.ahead_t;
    ahead_h = λ o. omega (arith, (j.ahead_h o));
    told_t = j.told_t;
    told_h = j.told_h;
    start_in = j.start_in;
    from_base = j.from_base;
  }

-- ## A piece comes

sends_when : (p : Phase) (n : ℕ) → may_send p n ≡ true → (n ≡ 1) ⊎ (is_open p ≡ true)
sends_when Down n s = absurd (true≢false (sym s))
sends_when Asking n s = inl (grind (arith, s))
sends_when Open n s = inr refl

no_front : (front rest : List ℕ) → [] ≡ front ++ rest → front ≡ []
no_front [] rest e = refl
no_front (x ∷ xs) rest e = absurd (omega (arith, (ap length e)))

tail_from : (b : Bool) (received : ℕ) (stream front : List ℕ) → (b ≡ true → received ≡ 0) → StartsWith (if b then stream else []) front → StartsWith (drop received stream) front
tail_from true received stream front zero s = rw (zero refl) s
tail_from false received stream front zero s = rw (no_front front s.rest s.is) (none (drop received stream))

first_from : (m received : ℕ) (stream front : List ℕ) → (m ≡ 1 → received ≡ 0) → StartsWith (first_tail m stream) front → StartsWith (drop received stream) front
first_from m received stream front zero s = tail_from (m == 1) received stream front (λ e. zero (grind (arith, e))) s

pub came_front : (id : Id) (t h : View) (piece : List ℕ) → Sound h → Joint id t h
    → StartsWith (drop 42 (t.went h.attempt)) (h.fed h.attempt ++ piece) → StartsWith t.stream (h.came ++ piece)
came_front id t h piece sound j carried =
    comes_next t.stream (drop 42 (t.went h.attempt)) (h.fed h.attempt) piece h.came j.start h.received j.up carried j.came_h sound.came

module _ (id : Id) (t h : View) (piece more : List ℕ) (acked told top : ℕ) (sound : Sound h) (sounds : Sound t) (j : Joint id t h)
    (open_now : is_open h.phase ≡ true) (carried : StartsWith (drop 42 (t.went h.attempt)) (h.fed h.attempt ++ piece))
    (known : acked ≤ t.received) (says : told ≤ max top h.told) (higher : h.top ≤ top) where
  here_or : may_send t.phase t.attempt ≡ true → h.attempt ≡ t.attempt
  here_or s = elim (sends_when t.phase t.attempt s) [
    | inl one ↦ omega (arith, one, j.order, (j.open_h open_now))
    | inr o ↦ j.open_t o
  ]

  takes_ahead : may_send t.phase t.attempt ≡ true → h.received + length piece ≤ t.given
  takes_ahead s =
      read_in (t.went h.attempt) t.hello t.stream (spelled j.call) (h.fed h.attempt ++ piece) (h.fed h.attempt) t.given j.start (h.received + length piece)
      sounds.given j.up.inside refl (rw (here_or s) (j.sends_t s))
      carried (omega (arith, j.up.count, (length-append (h.fed h.attempt) piece))) (omega (arith, j.up.count, (j.ahead_t s)))

  pub takes : Joint id t (moved h (Takes piece more acked told top))
  takes = record {
    start = j.start;
    from = j.from;
    call = j.call;
    welcome = j.welcome;
    order = j.order;
    known = j.known;
    open_t = j.open_t;
    open_h = j.open_h;
    up_h = j.up_h;
    up_t = j.up_t;
    first = λ z. absurd (omega (arith, z, (j.open_h open_now)));
    met = j.met;
    begins = j.begins;
    fits = j.fits;
    unsaid_t = j.unsaid_t;
    unsaid_h = j.unsaid_h;
    unfed_t = j.unfed_t;
    unfed_h = λ m l. other_at h.attempt m h.fed piece (λ e. omega (arith, e, l)) ∙ j.unfed_h m l;
    hellos_t = j.hellos_t;
    hellos_h = j.hellos_h;
    call_is = j.call_is;
    welcome_is = j.welcome_is;
    asks = j.asks;
    sends_t = j.sends_t;
    sends_h = λ o. more_to_go (h.went h.attempt) h.hello (spelled j.welcome) h.stream more h.given j.from sound.given j.from_in (j.sends_h o);
    unread = j.unread;
    up = rw (same_at h.attempt h.fed piece) (line_read t.stream (drop 42 (t.went h.attempt)) (h.fed h.attempt) piece j.start h.received j.up carried);
    down = λ same. line_longer h.stream (drop 42 (h.went h.attempt)) (t.fed h.attempt) more j.from t.received (j.down same);
    from_in = omega (arith, j.from_in, (length-append h.stream more));
    came_h = came_front id t h piece sound j carried;
    came_t = longer h.stream more t.came j.came_t;
    base_t = omega (arith, j.base_t);
    base_h = omega (arith, j.base_h, known);
    ahead_t = takes_ahead;
    ahead_h = j.ahead_h;
    told_t = j.told_t;
    told_h = omega (arith, says, higher, j.told_h);
    start_in = j.start_in;
    from_base = omega (arith, j.from_base);
  }

-- ## A call is answered

module _ (id : Id) (t h : View) (g w : Hello) (sound : Sound h) (sounds : Sound t) (j : Joint id t h) (is : IsHello g) (later : h.attempt < g.attempt)
    (carried : StartsWith (t.went g.attempt) (spelled g)) (fine : IsHello w) (says : IsAnswer id g.attempt h.received g.attempt w) where
  pub called : IsCall id h.known h.attempt t.received g.attempt g
  called = j.hellos_t g.attempt g is carried

  all_came : g.received ≡ t.received
  all_came = called.recent later

  dialled : g.attempt ≤ t.attempt
  dialled = elim (at_most g.attempt t.attempt (nat_le g.attempt t.attempt) refl) [
    | inl most ↦ most
    | inr less ↦ absurd (no_hello g (subst (λ v. StartsWith v (spelled g)) (j.unsaid_t g.attempt less) carried))
  ]

  not_open : is_open t.phase ≡ true → ⊥
  not_open o = omega (arith, (j.open_t o), later, dialled)

  answered_call : (m : ℕ) (x : Hello) → IsCall id h.known h.attempt t.received m x → IsCall id true g.attempt t.received m x
  answered_call m x c = record { id_is = c.id_is; attempt_is = c.attempt_is; word = c.word; goes_on = λ r. refl; recent = λ l. c.recent (omega (arith, l, later)) }

  said_before : (m : ℕ) (x : Hello) → StartsWith (h.went m) (spelled x) → IsAnswer id h.attempt j.start m x → IsAnswer id g.attempt h.received m x
  said_before m x starts c = record {
    id_is = c.id_is;
    attempt_is = c.attempt_is;
    word = c.word;
    recent = λ e. absurd (no_hello x (subst (λ v. StartsWith v (spelled x)) (j.unsaid_h m (omega (arith, e, later))) starts));
  }

  same_start : may_send t.phase t.attempt ≡ true → h.received ≡ j.start
  same_start s = elim (sends_when t.phase t.attempt s) [
    | inl one ↦ omega (arith, one, later, dialled, j.up.count, (j.first (omega (arith, one, later, dialled))))
    | inr o ↦ absurd (not_open o)
  ]

  none_fed : (m : ℕ) (fed : ℕ → List ℕ) → fed m ≡ [] → StartsWith (drop 42 (t.went g.attempt)) (fed m)
  none_fed m fed e = rw e (none (drop 42 (t.went g.attempt)))

  goes_from : StartsWith (drop h.received t.stream) (drop 42 (t.went g.attempt))
  goes_from = first_from g.attempt h.received t.stream (drop 42 (t.went g.attempt)) (λ one. j.first (omega (arith, one, later))) (j.unread g.attempt later)

  answered_up : Line t.stream (drop 42 (t.went g.attempt)) (h.fed g.attempt) h.received h.received
  answered_up = record {
    goes = goes_from;
    reads = none_fed g.attempt h.fed (j.unfed_h g.attempt later);
    count = omega (arith, (ap length (j.unfed_h g.attempt later)));
    inside = omega (arith, sound.came, (ap length j.came_h.is), (length-append h.came j.came_h.rest));
  }

  came_inside : g.received ≤ length h.stream
  came_inside = omega (arith, all_came, sounds.came, (ap length j.came_t.is), (length-append t.came j.came_t.rest))

  answered_down : g.attempt ≡ t.attempt → Line h.stream (drop 42 (h.went g.attempt)) (t.fed g.attempt) g.received t.received
  answered_down same = rw (j.unsaid_h g.attempt later, j.unfed_t g.attempt later) (record {
    goes = none (drop g.received h.stream);
    reads = none [];
    count = omega (arith, all_came);
    inside = came_inside;
  })

  pub answers : Joint id t (moved h (Answers g w))
  answers = record {
    start = h.received;
    from = g.received;
    call = j.call;
    welcome = w;
    order = dialled;
    known = λ k. refl;
    open_t = λ o. absurd (not_open o);
    open_h = λ o. omega (arith, later);
    up_h = refl;
    up_t = j.up_t;
    first = λ z. absurd (omega (arith, z, later));
    met = λ m. refl;
    begins = λ l. j.first (omega (arith, l, later));
    fits = j.fits;
    unsaid_t = j.unsaid_t;
    unsaid_h = λ m l. j.unsaid_h m (omega (arith, l, later));
    unfed_t = λ m l. j.unfed_t m (omega (arith, l, later));
    unfed_h = λ m l. j.unfed_h m (omega (arith, l, later));
    hellos_t = λ m x h_is s. answered_call m x (j.hellos_t m x h_is s);
    hellos_h = λ m x h_is s. said_before m x s (j.hellos_h m x h_is s);
    call_is = λ u. ((j.call_is u).0, answered_call t.attempt j.call (j.call_is u).1);
    welcome_is = λ o. (fine, says);
    asks = j.asks;
    sends_t = λ s. rw (same_start s) (j.sends_t s);
    sends_h = λ o. ap (λ v. v ++ (spelled w ++ drop g.received h.stream)) (j.unsaid_h g.attempt later);
    unread = λ m l. j.unread m (omega (arith, l, later));
    up = answered_up;
    down = answered_down;
    from_in = came_inside;
    came_h = j.came_h;
    came_t = j.came_t;
    base_t = j.base_t;
    base_h = omega (arith, all_came);
    ahead_t = j.ahead_t;
    ahead_h = λ o. omega (arith, all_came);
    told_t = λ same. omega (arith, sounds.told, all_came);
    told_h = omega arith;
    start_in = λ o. absurd (not_open o);
    from_base = omega arith;
  }
