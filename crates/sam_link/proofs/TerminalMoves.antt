-- What the terminal does keeps what holds of both ends.
use Rattle.std.proofs.Common.{◌≡◌, ℕ, ◌+◌, ◌<◌, ◌≤◌, ◌^◌, List, [], ◌++◌, length, drop, Bool, true, false, refl, sym, ap, ◌∙◌, subst, append_assoc, append-nil, arith, length-append, drop-drop, nat_le, ◌⊎◌, inl, inr, true≢false, ◌≢◌}
use Rattle.std.proofs.lemmas.List.{take-append-drop}
use Rattle.std.proofs.lemmas.Bool.Decides.{eqb_tells}
use Rattle.std.specs.Prelude.{max, ◌==◌, if◌then◌else◌}
use Rattle.sam_link.specs.End.{is_asking, is_call, is_resume, is_up, may_send}
use Rattle.sam_link.specs.Feeding.{is_open}
use Rattle.sam_link.specs.Hellos.{IsHello, spelled}
use Rattle.sam_link.specs.Sessions.{StartsWith}
use Rattle.sam_link.specs.declared.hello.Hello.{Hello}
use Rattle.sam_link.specs.declared.hello.Id.{Id}
use Rattle.sam_link.specs.declared.phase.Phase.{Phase}
use Rattle.sam_link.specs.declared.phase.Phase.TheVariants.{Down, Asking, Open}
use Rattle.sam_link.proofs.Joint.{IsCall, Joint, Sound, first_tail}
use Rattle.sam_link.proofs.Lines.{Line, at_most, drop_grows, starts_on, gone_on, read_in, went_on, behind_hello, comes_next, drop_more, hello_alone, line_longer, line_read, longer, no_hello, none, same_hello}
use Rattle.sam_link.proofs.Views.{Adds, Breaks, Dials, Goes, IsWelcomed, Takes, View, at, goes_on, moved}

-- ## Lists

-- bytes are put at the end, and what is to go grows by them
pub more_to_go : (went hello head stream more : List ℕ) (given start : ℕ) → given ≤ length stream → start ≤ length stream
    → went ++ (hello ++ drop given stream) ≡ head ++ drop start stream
    → went ++ (hello ++ drop given (stream ++ more)) ≡ head ++ drop start (stream ++ more)
more_to_go went hello head stream more given start one two e =
    rw (drop_more given stream more one, drop_more start stream more two) (grind (arith, append_assoc, e))

tail_longer : (b : Bool) (stream more front : List ℕ) → StartsWith (if b then stream else []) front → StartsWith (if b then stream ++ more else []) front
tail_longer true stream more front s = longer stream more front s
tail_longer false stream more front s = s

pub first_longer : (m : ℕ) (stream more front : List ℕ) → StartsWith (first_tail m stream) front → StartsWith (first_tail m (stream ++ more)) front
first_longer m stream more front s = tail_longer (m == 1) stream more front s

pub at_same : (n : ℕ) (bytes : List ℕ) → at n bytes n ≡ bytes
at_same n bytes = grind arith

pub at_other : (n m : ℕ) (bytes : List ℕ) → n ≢ m → at n bytes m ≡ []
at_other n m bytes other = grind (arith, other)

pub same_at : (n : ℕ) (went : ℕ → List ℕ) (bytes : List ℕ) → went n ++ at n bytes n ≡ went n ++ bytes
same_at n went bytes = ap (λ b. went n ++ b) (at_same n bytes)

pub other_at : (n m : ℕ) (went : ℕ → List ℕ) (bytes : List ℕ) → n ≢ m → went m ++ at n bytes m ≡ went m
other_at n m went bytes other = ap (λ b. went m ++ b) (at_other n m bytes other) ∙ append-nil (went m)

dial_sends : (a : ℕ) (went hello stream : List ℕ) (base start : ℕ) → (a + 1 == 1) ≡ true → went ≡ [] → (a ≡ 0 → base ≡ 0) → (a ≡ 0 → start ≡ 0)
    → went ++ (hello ++ drop base stream) ≡ hello ++ drop start stream
dial_sends a went hello stream base start one none zero begins = let is : a ≡ 0 = grind (arith, one) in rw (none, zero is, begins is) refl

dial_ahead : (a : ℕ) (received base : ℕ) → (a + 1 == 1) ≡ true → (a ≡ 0 → received ≡ 0) → received ≤ base
dial_ahead a received base one zero = let is : a ≡ 0 = grind (arith, one) in omega (arith, (zero is))

-- ## The moves

pub adds : (id : Id) (t h : View) (more : List ℕ) (told top : ℕ) → Sound t → told ≤ max top t.told → t.top ≤ top → Joint id t h → Joint id (moved t (Adds more told top)) h
adds id t h more told top sound says higher j = record {
  start = j.start;
  from = j.from;
  call = j.call;
  welcome = j.welcome;
  order = j.order;
  known = j.known;
  open_t = j.open_t;
  open_h = j.open_h;
  up_h = j.up_h;
  up_t = j.up_t;
  first = j.first;
  met = j.met;
  begins = j.begins;
  fits = j.fits;
  unsaid_t = j.unsaid_t;
  unsaid_h = j.unsaid_h;
  unfed_t = j.unfed_t;
  unfed_h = j.unfed_h;
  hellos_t = j.hellos_t;
  hellos_h = j.hellos_h;
  call_is = j.call_is;
  welcome_is = j.welcome_is;
  asks = j.asks;
  sends_t = λ s. more_to_go (t.went t.attempt) t.hello (spelled j.call) t.stream more t.given j.start sound.given j.up.inside (j.sends_t s);
  sends_h = j.sends_h;
  unread = λ m l. first_longer m t.stream more (drop 42 (t.went m)) (j.unread m l);
  up = line_longer t.stream (drop 42 (t.went h.attempt)) (h.fed h.attempt) more j.start h.received j.up;
  down = j.down;
  from_in = j.from_in;
  came_h = longer t.stream more h.came j.came_h;
  came_t = j.came_t;
  base_t = j.base_t;
  base_h = j.base_h;
  ahead_t = j.ahead_t;
  ahead_h = j.ahead_h;
  told_t = λ same. omega (arith, says, higher, (j.told_t same));
  told_h = j.told_h;
  start_in = j.start_in;
  from_base = j.from_base;
}

pub breaks : (id : Id) (t h : View) → Joint id t h → Joint id (moved t Breaks) h
breaks id t h j = record {
  start = j.start;
  from = j.from;
  call = j.call;
  welcome = j.welcome;
  order = j.order;
  known = j.known;
  open_t = λ e. grind (arith, e);
  open_h = j.open_h;
  up_h = j.up_h;
  up_t = λ e. grind (arith, e);
  first = j.first;
  met = j.met;
  begins = j.begins;
  fits = j.fits;
  unsaid_t = j.unsaid_t;
  unsaid_h = j.unsaid_h;
  unfed_t = j.unfed_t;
  unfed_h = j.unfed_h;
  hellos_t = j.hellos_t;
  hellos_h = j.hellos_h;
  call_is = λ e. absurd (true≢false (sym e));
  welcome_is = j.welcome_is;
  asks = λ e. absurd (true≢false (sym e));
  sends_t = λ e. absurd (true≢false (sym e));
  sends_h = j.sends_h;
  unread = j.unread;
  up = j.up;
  down = j.down;
  from_in = j.from_in;
  came_h = j.came_h;
  came_t = j.came_t;
  base_t = j.base_t;
  base_h = j.base_h;
  ahead_t = λ e. absurd (true≢false (sym e));
  ahead_h = j.ahead_h;
  told_t = j.told_t;
  told_h = j.told_h;
  start_in = λ e. absurd (true≢false (sym e));
  from_base = j.from_base;
}

-- ## Dialling

pub dialled_call : (id : Id) (t h : View) (x : Hello) → x.id ≡ id → x.attempt ≡ t.attempt + 1 → is_call x.what ≡ true → (is_resume x.what ≡ true → t.known ≡ true) → x.received ≡ t.received
    → (t.known ≡ true → h.known ≡ true) → IsCall id h.known h.attempt t.received (t.attempt + 1) x
dialled_call id t h x a b c d e k = record { id_is = a; attempt_is = b; word = c; goes_on = λ r. k (d r); recent = λ l. e }

pub dials : (id : Id) (t h : View) (x : Hello) → Sound t → t.attempt + 1 < 2 ^ 64 → IsHello x → IsCall id h.known h.attempt t.received (t.attempt + 1) x → Joint id t h → Joint id (moved t (Dials x)) h
dials id t h x sound fits is says j = record {
  start = j.start;
  from = j.from;
  call = x;
  welcome = j.welcome;
  order = omega (arith, j.order);
  known = j.known;
  open_t = λ e. absurd (true≢false (sym e));
  open_h = j.open_h;
  up_h = j.up_h;
  up_t = λ e. omega arith;
  first = j.first;
  met = j.met;
  begins = j.begins;
  fits = fits;
  unsaid_t = λ m l. j.unsaid_t m (omega (arith, l));
  unsaid_h = j.unsaid_h;
  unfed_t = j.unfed_t;
  unfed_h = j.unfed_h;
  hellos_t = j.hellos_t;
  hellos_h = j.hellos_h;
  call_is = λ e. (is, says);
  welcome_is = j.welcome_is;
  asks = λ e other. ap (λ b. b ++ spelled x) (j.unsaid_t (t.attempt + 1) (omega arith));
  sends_t = λ e. dial_sends t.attempt (t.went (t.attempt + 1)) (spelled x) t.stream t.base j.start e (j.unsaid_t (t.attempt + 1) (omega arith))
      (λ z. omega (arith, j.base_t, (j.first (omega (arith, z, j.order))))) (λ z. omega (arith, j.up.count, (j.first (omega (arith, z, j.order)))));
  sends_h = j.sends_h;
  unread = j.unread;
  up = j.up;
  down = λ same. absurd (omega (arith, same, j.order));
  from_in = j.from_in;
  came_h = j.came_h;
  came_t = j.came_t;
  base_t = j.base_t;
  base_h = j.base_h;
  ahead_t = λ e. dial_ahead t.attempt h.received t.base e (λ z. j.first (omega (arith, z, j.order)));
  ahead_h = j.ahead_h;
  told_t = λ same. absurd (omega (arith, same, j.order));
  told_h = j.told_h;
  start_in = λ e. absurd (true≢false (sym e));
  from_base = j.from_base;
}

-- ## Bytes go

which : (p : Phase) (n : ℕ) → is_up p ≡ true → (may_send p n ≡ true) ⊎ ((is_asking p ≡ true) × (n ≢ 1) × (may_send p n ≡ false))
which Down n e = absurd (true≢false (sym e))
which Asking n e = elim (eqb_tells n 1) [ inl one ↦ inl one.0 | inr other ↦ inr (refl, other.1, other.0) ]
which Open n e = inl refl

silent : (p : Phase) (n : ℕ) → is_asking p ≡ true → n ≢ 1 → may_send p n ≡ false
silent Down n e other = refl
silent Asking n e other = grind (arith, other)
silent Open n e other = absurd (true≢false (sym e))

sends_later : (p : Phase) (n : ℕ) → may_send p n ≡ true → n ≢ 1 → (is_open p ≡ true → ⊥) → ⊥
sends_later Down n s other shut = true≢false (sym s)
sends_later Asking n s other shut = other (grind (arith, s))
sends_later Open n s other shut = shut refl

module _ (id : Id) (t h : View) (a b : ℕ) (j : Joint id t h) (up : is_up t.phase ≡ true) (whole : (b ≡ 0) ⊎ (drop a t.hello ≡ []))
    (waits : may_send t.phase t.attempt ≡ false → b ≡ 0) where
  abbrev bytes : List ℕ
  bytes = goes_on t a b

  abbrev now : List ℕ
  now = t.went t.attempt ++ bytes

  gone : bytes ++ (drop a t.hello ++ drop (t.given + b) t.stream) ≡ t.hello ++ drop t.given t.stream
  gone = rw (← drop-drop b t.given t.stream) (gone_on t.hello (drop t.given t.stream) a b whole)

  now_sends : may_send t.phase t.attempt ≡ true → now ++ (drop a t.hello ++ drop (t.given + b) t.stream) ≡ spelled j.call ++ drop j.start t.stream
  now_sends s = went_on (t.went t.attempt) bytes (drop a t.hello ++ drop (t.given + b) t.stream) (t.hello ++ drop t.given t.stream)
      (spelled j.call ++ drop j.start t.stream) gone (j.sends_t s)

  now_asks : is_asking t.phase ≡ true → t.attempt ≢ 1 → may_send t.phase t.attempt ≡ false → now ++ drop a t.hello ≡ spelled j.call
  now_asks asks other wait = went_on (t.went t.attempt) bytes (drop a t.hello) t.hello (spelled j.call)
      (rw (waits wait) (grind (arith, (take-append-drop a t.hello), append-nil))) (j.asks asks other)

  -- the hello that stands in front, and what may stand behind it
  in_front : (ahead : List ℕ) × (tail : List ℕ) × (now ++ ahead ≡ spelled j.call ++ tail)
  in_front = elim (which t.phase t.attempt up) [
    | inl s ↦ (drop a t.hello ++ drop (t.given + b) t.stream, drop j.start t.stream, now_sends s)
    | inr w ↦ (drop a t.hello, [], now_asks w.0 w.1 w.2 ∙ sym (append-nil (spelled j.call)))
  ]

  now_hello : (x : Hello) → IsHello x → StartsWith now (spelled x) → IsCall id h.known h.attempt t.received t.attempt x
  now_hello x is starts =
      let known = j.call_is up in
      let same : x ≡ j.call = same_hello x j.call now in_front.0 in_front.1 is known.0 starts in_front.2 in
      subst (λ (y : Hello). IsCall id h.known h.attempt t.received t.attempt y) (sym same) known.1

  now_behind : StartsWith (drop j.start t.stream) (drop 42 now)
  now_behind = elim (which t.phase t.attempt up) [
    | inl s ↦ behind_hello j.call now (drop a t.hello ++ drop (t.given + b) t.stream) (drop j.start t.stream) (now_sends s)
    | inr w ↦ rw (hello_alone j.call now (drop a t.hello) (now_asks w.0 w.1 w.2)) (none (drop j.start t.stream))
  ]

  -- the host has not taken this connection yet
  now_unread : h.attempt < t.attempt → StartsWith (first_tail t.attempt t.stream) (drop 42 now)
  now_unread later = elim (eqb_tells t.attempt 1) [
    | inl one ↦ let zero : j.start ≡ 0 = omega (arith, j.up.count, (j.first (omega (arith, one.1, later)))) in
        rw (one.0) (subst (λ n. StartsWith (drop n t.stream) (drop 42 now)) zero now_behind)
    | inr other ↦ rw (other.0) (elim (which t.phase t.attempt up) [
      | inl s ↦ absurd (sends_later t.phase t.attempt s other.1 (λ e. omega (arith, later, (j.open_t e))))
      | inr w ↦ rw (hello_alone j.call now (drop a t.hello) (now_asks w.0 w.1 w.2)) (none [])
    ])
  ]

  went_now : (m : ℕ) → (m ≡ t.attempt) ⊎ (t.attempt ≢ m)
  went_now m = elim (eqb_tells t.attempt m) [ inl same ↦ inl (sym same.1) | inr other ↦ inr other.1 ]

  abbrev next : ℕ → List ℕ
  next m = t.went m ++ at t.attempt bytes m

  pub goes_hello : (m : ℕ) (x : Hello) → IsHello x → StartsWith (next m) (spelled x) → IsCall id h.known h.attempt t.received m x
  goes_hello m x is starts = elim (went_now m) [
    | inl same ↦ subst (λ n. IsCall id h.known h.attempt t.received n x) (sym same)
        (now_hello x is (subst (λ w. StartsWith w (spelled x)) (ap next same ∙ same_at t.attempt t.went bytes) starts))
    | inr other ↦ j.hellos_t m x is (subst (λ w. StartsWith w (spelled x)) (other_at t.attempt m t.went bytes other) starts)
  ]

  pub goes_unread : (m : ℕ) → h.attempt < m → StartsWith (first_tail m t.stream) (drop 42 (next m))
  goes_unread m later = elim (went_now m) [
    | inl same ↦ rw (same, same_at t.attempt t.went bytes) (now_unread (omega (arith, same, later)))
    | inr other ↦ rw (other_at t.attempt m t.went bytes other) (j.unread m later)
  ]

  pub goes_up : Line t.stream (drop 42 (next h.attempt)) (h.fed h.attempt) j.start h.received
  goes_up = elim (went_now h.attempt) [
    | inl same ↦ record {
      goes = rw (same, same_at t.attempt t.went bytes) now_behind;
      reads = starts_on (drop 42 (next h.attempt)) (drop 42 (t.went h.attempt)) (h.fed h.attempt) (drop_grows 42 (t.went h.attempt) (at t.attempt bytes h.attempt)) j.up.reads;
      count = j.up.count;
      inside = j.up.inside;
    }
    | inr other ↦ rw (other_at t.attempt h.attempt t.went bytes other) j.up
  ]

  pub goes : Joint id (moved t (Goes a b)) h
  goes = record {
    start = j.start;
    from = j.from;
    call = j.call;
    welcome = j.welcome;
    order = j.order;
    known = j.known;
    open_t = j.open_t;
    open_h = j.open_h;
    up_h = j.up_h;
    up_t = j.up_t;
    first = j.first;
    met = j.met;
    begins = j.begins;
    fits = j.fits;
    unsaid_t = λ m l. other_at t.attempt m t.went bytes (λ e. omega (arith, e, l)) ∙ j.unsaid_t m l;
    unsaid_h = j.unsaid_h;
    unfed_t = j.unfed_t;
    unfed_h = j.unfed_h;
    hellos_t = goes_hello;
    hellos_h = j.hellos_h;
    call_is = j.call_is;
    welcome_is = j.welcome_is;
    asks = λ e other. ap (λ w. w ++ drop a t.hello) (same_at t.attempt t.went bytes) ∙ now_asks e other (silent t.phase t.attempt e other);
    sends_t = λ s. ap (λ w. w ++ (drop a t.hello ++ drop (t.given + b) t.stream)) (same_at t.attempt t.went bytes) ∙ now_sends s;
    sends_h = j.sends_h;
    unread = goes_unread;
    up = goes_up;
    down = j.down;
    from_in = j.from_in;
    came_h = j.came_h;
    came_t = j.came_t;
    base_t = j.base_t;
    base_h = j.base_h;
    ahead_t = λ s. omega (arith, (j.ahead_t s));
    ahead_h = j.ahead_h;
    told_t = j.told_t;
    told_h = j.told_h;
    start_in = j.start_in;
    from_base = j.from_base;
  }

-- ## A piece comes

pub came_front : (id : Id) (t h : View) (piece : List ℕ) → Sound t → Joint id t h → is_open t.phase ≡ true
    → StartsWith (drop 42 (h.went t.attempt)) (t.fed t.attempt ++ piece) → StartsWith h.stream (t.came ++ piece)
came_front id t h piece sound j open_now carried =
    comes_next h.stream (drop 42 (h.went t.attempt)) (t.fed t.attempt) piece t.came j.from t.received
    (subst (λ n. Line h.stream (drop 42 (h.went n)) (t.fed n) j.from t.received) (j.open_t open_now) (j.down (j.open_t open_now))) carried j.came_t sound.came

module _ (id : Id) (t h : View) (piece more : List ℕ) (acked told top : ℕ) (sound : Sound t) (sounds : Sound h) (j : Joint id t h)
    (open_now : is_open t.phase ≡ true) (carried : StartsWith (drop 42 (h.went t.attempt)) (t.fed t.attempt ++ piece))
    (known : acked ≤ h.received) (says : told ≤ max top t.told) (higher : t.top ≤ top) where
  here : h.attempt ≡ t.attempt
  here = j.open_t open_now

  line : Line h.stream (drop 42 (h.went t.attempt)) (t.fed t.attempt) j.from t.received
  line = subst (λ n. Line h.stream (drop 42 (h.went n)) (t.fed n) j.from t.received) here (j.down here)

  call_still : (m : ℕ) (x : Hello) → (h.attempt < m → ⊥) → IsCall id h.known h.attempt t.received m x → IsCall id h.known h.attempt (t.received + length piece) m x
  call_still m x old c = record { id_is = c.id_is; attempt_is = c.attempt_is; word = c.word; goes_on = c.goes_on; recent = λ l. absurd (old l) }

  takes_ahead : is_open h.phase ≡ true → t.received + length piece ≤ h.given
  takes_ahead o =
      read_in (h.went t.attempt) h.hello h.stream (spelled j.welcome) (t.fed t.attempt ++ piece) (t.fed t.attempt) h.given j.from (t.received + length piece)
      sounds.given j.from_in refl (subst (λ n. h.went n ++ (h.hello ++ drop h.given h.stream) ≡ spelled j.welcome ++ drop j.from h.stream) here (j.sends_h o))
      carried (omega (arith, line.count, (length-append (t.fed t.attempt) piece))) (omega (arith, line.count, (j.ahead_h o)))

  pub takes : Joint id (moved t (Takes piece more acked told top)) h
  takes = record {
    start = j.start;
    from = j.from;
    call = j.call;
    welcome = j.welcome;
    order = j.order;
    known = j.known;
    open_t = j.open_t;
    open_h = j.open_h;
    up_h = j.up_h;
    up_t = j.up_t;
    first = j.first;
    met = j.met;
    begins = j.begins;
    fits = j.fits;
    unsaid_t = j.unsaid_t;
    unsaid_h = j.unsaid_h;
    unfed_t = λ m l. other_at t.attempt m t.fed piece (λ e. omega (arith, e, l, here)) ∙ j.unfed_t m l;
    unfed_h = j.unfed_h;
    hellos_t = λ m x is s. call_still m x (λ l. no_hello x (subst (λ w. StartsWith w (spelled x)) (j.unsaid_t m (omega (arith, l, here))) s)) (j.hellos_t m x is s);
    hellos_h = j.hellos_h;
    call_is = λ u. ((j.call_is u).0, call_still t.attempt j.call (λ l. omega (arith, l, here)) (j.call_is u).1);
    welcome_is = j.welcome_is;
    asks = j.asks;
    sends_t = λ s. more_to_go (t.went t.attempt) t.hello (spelled j.call) t.stream more t.given j.start sound.given j.up.inside (j.sends_t s);
    sends_h = j.sends_h;
    unread = λ m l. first_longer m t.stream more (drop 42 (t.went m)) (j.unread m l);
    up = line_longer t.stream (drop 42 (t.went h.attempt)) (h.fed h.attempt) more j.start h.received j.up;
    down = λ same. rw (here, same_at t.attempt t.fed piece) (line_read h.stream (drop 42 (h.went t.attempt)) (t.fed t.attempt) piece j.from t.received line carried);
    from_in = j.from_in;
    came_h = longer t.stream more h.came j.came_h;
    came_t = came_front id t h piece sound j open_now carried;
    base_t = omega (arith, j.base_t, known);
    base_h = omega (arith, j.base_h);
    ahead_t = j.ahead_t;
    ahead_h = takes_ahead;
    told_t = λ same. omega (arith, says, higher, (j.told_t same));
    told_h = j.told_h;
    start_in = λ o. omega (arith, (j.start_in o));
    from_base = j.from_base;
  }

-- ## A welcome

asking_sends : (p : Phase) (n : ℕ) → is_asking p ≡ true → (n == 1) ≡ true → may_send p n ≡ true
asking_sends Down n e one = absurd (true≢false (sym e))
asking_sends Asking n e one = one
asking_sends Open n e one = refl

asking_up : (p : Phase) → is_asking p ≡ true → is_up p ≡ true
asking_up Down e = e
asking_up Asking e = refl
asking_up Open e = refl

-- a hello of the host on the terminal's newest connection
pub answered_here : (id : Id) (t h : View) (x : Hello) (j : Joint id t h) → StartsWith (h.went t.attempt) (spelled x) → h.attempt ≡ t.attempt
answered_here id t h x j carried = elim (at_most t.attempt h.attempt (nat_le t.attempt h.attempt) refl) [
  | inl most ↦ omega (arith, most, j.order)
  | inr less ↦ absurd (no_hello x (subst (λ w. StartsWith w (spelled x)) (j.unsaid_h t.attempt less) carried))
]

pub at_start : (id : Id) (t h : View) (x : Hello) (j : Joint id t h) → IsHello x → StartsWith (h.went t.attempt) (spelled x) → x.received ≡ j.start
at_start id t h x j is carried = (j.hellos_h t.attempt x is carried).recent (sym (answered_here id t h x j carried))

module _ (id : Id) (t h : View) (x : Hello) (sound : Sound t) (j : Joint id t h) (asking : is_asking t.phase ≡ true) (is : IsHello x)
    (same : x.attempt ≡ t.attempt) (carried : StartsWith (h.went t.attempt) (spelled x)) (zero : t.attempt ≡ 1 → x.received ≡ 0) where
  taken : h.attempt ≡ t.attempt
  taken = answered_here id t h x j carried

  from_start : x.received ≡ j.start
  from_start = at_start id t h x j is carried

  went_so : t.went t.attempt ++ (t.hello ++ drop (if t.attempt == 1 then t.given else x.received) t.stream) ≡ spelled j.call ++ drop j.start t.stream
  went_so = elim (eqb_tells t.attempt 1) [
    | inl one ↦ rw (one.0) (j.sends_t (asking_sends t.phase t.attempt asking one.0))
    | inr other ↦ rw (other.0, from_start) (sym (append_assoc (t.went t.attempt) t.hello (drop j.start t.stream)) ∙ ap (λ w. w ++ drop j.start t.stream) (j.asks asking other.1))
  ]

  pub nothing_read : t.attempt ≢ 1 → h.received ≡ j.start
  nothing_read other =
      let none_went : drop 42 (t.went h.attempt) ≡ [] = rw taken (hello_alone j.call (t.went t.attempt) t.hello (j.asks asking other)) in
      omega (arith, j.up.count, (ap length j.up.reads.is), (ap length none_went), (length-append (h.fed h.attempt) j.up.reads.rest))

  base_so : (if t.attempt == 1 then t.base else x.received) ≤ h.received
  base_so = elim (eqb_tells t.attempt 1) [
    | inl one ↦ rw (one.0) j.base_t
    | inr other ↦ rw (other.0) (omega (arith, from_start, (nothing_read other.1)))
  ]

  ahead_so : h.received ≤ (if t.attempt == 1 then t.given else x.received)
  ahead_so = elim (eqb_tells t.attempt 1) [
    | inl one ↦ rw (one.0) (j.ahead_t (asking_sends t.phase t.attempt asking one.0))
    | inr other ↦ rw (other.0) (omega (arith, from_start, (nothing_read other.1)))
  ]

  start_so : j.start ≤ (if t.attempt == 1 then t.base else x.received)
  start_so = elim (eqb_tells t.attempt 1) [
    | inl one ↦ rw (one.0) (omega (arith, from_start, (zero one.1)))
    | inr other ↦ rw (other.0) (omega (arith, from_start))
  ]

  up_so : is_up t.phase ≡ true
  up_so = asking_up t.phase asking

  pub welcomed : Joint id (moved t (IsWelcomed x)) h
  welcomed = record {
    start = j.start;
    from = j.from;
    call = j.call;
    welcome = j.welcome;
    order = j.order;
    known = λ e. j.met (omega (arith, taken, (j.up_t up_so)));
    open_t = λ e. taken;
    open_h = j.open_h;
    up_h = j.up_h;
    up_t = λ e. j.up_t up_so;
    first = j.first;
    met = j.met;
    begins = j.begins;
    fits = j.fits;
    unsaid_t = j.unsaid_t;
    unsaid_h = j.unsaid_h;
    unfed_t = j.unfed_t;
    unfed_h = j.unfed_h;
    hellos_t = j.hellos_t;
    hellos_h = j.hellos_h;
    call_is = λ e. j.call_is up_so;
    welcome_is = j.welcome_is;
    asks = λ e. absurd (true≢false (sym e));
    sends_t = λ e. went_so;
    sends_h = j.sends_h;
    unread = j.unread;
    up = j.up;
    down = j.down;
    from_in = j.from_in;
    came_h = j.came_h;
    came_t = j.came_t;
    base_t = base_so;
    base_h = j.base_h;
    ahead_t = λ e. ahead_so;
    ahead_h = j.ahead_h;
    told_t = j.told_t;
    told_h = j.told_h;
    start_in = λ e. start_so;
    from_base = j.from_base;
  }
