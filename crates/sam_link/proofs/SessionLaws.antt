-- What holds of a session after any calls.
use Rattle.std.proofs.Common.{◌≡◌, ℕ, ◌≤◌, List, [], ◌∷◌, ◌++◌, drop, true, refl, sym, ap, ◌∙◌, subst, append_assoc, arith, true≢false}
use Rattle.std.specs.List.{flat_map}
use Rattle.sam_frame.specs.Stream.{stream_of}
use Rattle.sam_link.specs.Calls.{Call, handed, items_in, put, waits}
use Rattle.sam_link.specs.End.{End, fresh}
use Rattle.sam_link.specs.Hellos.{IsHello, spelled}
use Rattle.sam_link.specs.Packets.{Packet, packets, top_of}
use Rattle.sam_link.specs.Sessions.{ByHost, ByTerminal, IsId, Leads, LinksCarry, Session, StartsWith, Step, WasCarried, host_did, is_taken, new_session, terminal_did}
use Rattle.sam_link.specs.declared.hello.Hello.{Hello}
use Rattle.sam_link.specs.declared.hello.Id.{Id}
use Rattle.sam_link.specs.declared.hello.What.TheVariants as word
use Rattle.sam_link.specs.declared.phase.Role.{Role}
use Rattle.sam_link.specs.declared.phase.Role.TheVariants.{Terminal, Host}
use Rattle.sam_link.proofs.HostMoves as host
use Rattle.sam_link.proofs.Joint.{Joint, Sound}
use Rattle.sam_link.proofs.Lines.{Line, none, no_hello}
use Rattle.sam_link.proofs.OwnCalls.{step}
use Rattle.sam_link.proofs.OwnMoves.{May, Stepped, ToldBy, sound_of}
use Rattle.sam_link.proofs.PacketLaws.{front_read}
use Rattle.sam_link.proofs.Packing.{items_more, top_more}
use Rattle.sam_link.proofs.TerminalMoves as terminal
use Rattle.sam_link.proofs.Views.{Adds, Answers, Breaks, Dials, Goes, IsWelcomed, Move, Own, Stays, Takes, View, moved, view}

pub record Holds (id : Id) (s : Session) : Type 0 where
  pub up_put : List Packet  -- what the terminal put
  pub up_taken : List Packet  -- and the host took
  pub down_put : List Packet
  pub down_taken : List Packet
  pub own_t : Own s.terminal s.terminal_calls up_put down_taken
  pub own_h : Own s.host s.host_calls down_put up_taken
  pub joint : Joint id (view s.terminal s.terminal_calls up_put down_taken) (view s.host s.host_calls down_put up_taken)
  pub role_t : s.terminal.role ≡ Terminal
  pub role_h : s.host.role ≡ Host
  pub id_t : s.terminal.id ≡ id
  pub id_h : s.host.id ≡ id

-- ## What has come is a front of what was put, and so are its packets

pub packets_front : (a b : End) (cs ds : List Call) (ps qs rs us : List Packet) → Own a cs ps qs → Own b ds rs us → StartsWith (stream_of packets ps) (stream_of packets us ++ b.held)
    → StartsWith ps us
packets_front a b cs ds ps qs rs us o p front =
    let read = front_read ps us (stream_of packets us ++ b.held) front.rest b.held o.fit front.is (record { whole = refl; fit = p.taken_fit }) in
    record { rest = read.0; is = read.1 }

-- an acknowledgement that comes is of bytes that came
acks_known : (a n : End) (cs es : List Call) (ps qs us ks : List Packet) (acked : ℕ) → Own a cs ps qs → Own n es ks us
    → StartsWith (stream_of packets ps) (stream_of packets us ++ n.held) → acked ≤ top_of us → acked ≤ a.received
acks_known a n cs es ps qs us ks acked o p front most =
    let more = packets_front a n cs es ps qs ks us o p front in
    omega (arith, most, o.top, (ap top_of more.is), (top_more us more.rest))

pub two_roles : Terminal ≡ Host → ⊥
two_roles e = cc

-- ## The terminal does something

module _ (id : Id) (fine : IsId id) (s : Session) (x : Holds id s) (c : Call) (n : End) (st : Stepped s.terminal n s.terminal_calls c x.up_put x.down_taken)
    (carried : is_taken c ≡ true → WasCarried s.terminal_calls s.host_calls c) where
  abbrev t : View
  t = view s.terminal s.terminal_calls x.up_put x.down_taken

  abbrev h : View
  h = view s.host s.host_calls x.down_put x.up_taken

  sound_t : Sound t
  sound_t = sound_of s.terminal s.terminal_calls x.up_put x.down_taken x.own_t

  sound_h : Sound h
  sound_h = sound_of s.host s.host_calls x.down_put x.up_taken x.own_h

  pub up_moves : (m : Move) → m ≡ st.move → May s.terminal s.terminal_calls c st.taken_now m → ToldBy t m → Joint id t h → Joint id (moved t m) h
  up_moves Stays is may says j = j
  up_moves (Adds more told top) is may says j = terminal.adds id t h more told top sound_t says.0 says.1 j
  up_moves Breaks is may says j = terminal.breaks id t h j
  up_moves (Goes a b) is may says j = terminal.goes id t h a b j may.0 may.1 may.2
  up_moves (Takes piece more acked told top) is may says j =
      let piece_carried : StartsWith (drop 42 (h.went t.attempt)) (t.fed t.attempt ++ piece) = may.3 s.host_calls (carried may.2) in
      let front : StartsWith h.stream (t.came ++ piece) = terminal.came_front id t h piece sound_t j may.0 piece_carried in
      let came : stream_of packets st.taken_now ++ n.held ≡ t.came ++ piece = ap (λ (v : View). v.came) st.is ∙ ap (λ (k : Move). (moved t k).came) (sym is) in
      let known : acked ≤ h.received = acks_known s.host n s.host_calls (s.terminal_calls ++ c ∷ []) x.down_put x.up_taken st.taken_now st.put_now acked x.own_h st.own
      (subst (λ l. StartsWith h.stream l) (sym came) front) may.1 in
      terminal.takes id t h piece more acked told top sound_t sound_h j may.0 piece_carried known says.0 says.1
  up_moves (Dials g) is may says j =
      let named : g.id ≡ id = may.2 ∙ x.id_t in
      let hello : IsHello g = (
        omega (arith, fine.0, (ap (λ (i : Id). i.first) named)),
        omega (arith, fine.1, (ap (λ (i : Id). i.last) named)),
        omega (arith, may.1, may.3),
        omega (arith, may.6, x.own_t.fits),
      ) in
      terminal.dials id t h g sound_t may.1 hello (terminal.dialled_call id t h g named may.3 may.4 may.5 may.6 j.known) j
  up_moves (Answers g w) is may says j = absurd (two_roles (sym x.role_t ∙ may.0))
  up_moves (IsWelcomed w) is may says j =
      let hello = may.5 s.host_calls (carried may.4) in
      terminal.welcomed id t h w sound_t j may.1 hello.0 may.2 (subst (λ k. StartsWith (h.went k) (spelled w)) may.2 hello.1) may.3

  unfoldable pub terminal_keeps : Holds id (terminal_did s c n)
  terminal_keeps = record {
    up_put = st.put_now;
    up_taken = x.up_taken;
    down_put = x.down_put;
    down_taken = st.taken_now;
    own_t = st.own;
    own_h = x.own_h;
    joint = subst (λ v. Joint id v h) (sym st.is) (up_moves st.move refl st.may st.told x.joint);
    role_t = st.role ∙ x.role_t;
    role_h = x.role_h;
    id_t = st.id ∙ x.id_t;
    id_h = x.id_h;
  }

-- ## The host does something

module _ (id : Id) (fine : IsId id) (s : Session) (x : Holds id s) (c : Call) (n : End) (st : Stepped s.host n s.host_calls c x.down_put x.up_taken)
    (carried : is_taken c ≡ true → WasCarried s.host_calls s.terminal_calls c) where
  abbrev up_view : View
  up_view = view s.terminal s.terminal_calls x.up_put x.down_taken

  abbrev down_view : View
  down_view = view s.host s.host_calls x.down_put x.up_taken

  sound_up : Sound up_view
  sound_up = sound_of s.terminal s.terminal_calls x.up_put x.down_taken x.own_t

  sound_down : Sound down_view
  sound_down = sound_of s.host s.host_calls x.down_put x.up_taken x.own_h

  pub down_moves : (m : Move) → m ≡ st.move → May s.host s.host_calls c st.taken_now m → ToldBy down_view m → Joint id up_view down_view → Joint id up_view (moved down_view m)
  down_moves Stays is may says j = j
  down_moves (Adds more told top) is may says j = host.adds id up_view down_view more told top sound_down says.0 says.1 j
  down_moves Breaks is may says j = host.breaks id up_view down_view j
  down_moves (Goes a b) is may says j = host.goes id up_view down_view a b j may.0 may.1
  down_moves (Takes piece more acked told top) is may says j =
      let piece_carried : StartsWith (drop 42 (up_view.went down_view.attempt)) (down_view.fed down_view.attempt ++ piece) = may.3 s.terminal_calls (carried may.2) in
      let front : StartsWith up_view.stream (down_view.came ++ piece) = host.came_front id up_view down_view piece sound_down j piece_carried in
      let came : stream_of packets st.taken_now ++ n.held ≡ down_view.came ++ piece = ap (λ (v : View). v.came) st.is ∙ ap (λ (k : Move). (moved down_view k).came) (sym is) in
      let known : acked ≤ up_view.received = acks_known s.terminal n s.terminal_calls (s.host_calls ++ c ∷ []) x.up_put x.down_taken st.taken_now st.put_now acked x.own_t st.own
      (subst (λ l. StartsWith up_view.stream l) (sym came) front) may.1 in
      host.takes id up_view down_view piece more acked told top sound_down sound_up j may.0 piece_carried known says.0 says.1
  down_moves (Dials g) is may says j = absurd (two_roles (sym may.0 ∙ x.role_h))
  down_moves (Answers g w) is may says j =
      let hello = may.4 s.terminal_calls (carried may.3) in
      let named : w.id ≡ id = ap (λ (k : Hello). k.id) may.2 ∙ x.id_h in
      let numbered : w.attempt ≡ g.attempt = ap (λ (k : Hello). k.attempt) may.2 in
      let counted : w.received ≡ down_view.received = ap (λ (k : Hello). k.received) may.2 in
      let answer : IsHello w = (
        omega (arith, fine.0, (ap (λ (i : Id). i.first) named)),
        omega (arith, fine.1, (ap (λ (i : Id). i.last) named)),
        omega (arith, numbered, hello.0.2),
        omega (arith, counted, x.own_h.fits),
      ) in
      host.answers id up_view down_view g w sound_down sound_up j hello.0 may.1 hello.1 answer
      (record { id_is = named; attempt_is = numbered; word = ap (λ (k : Hello). k.what) may.2; recent = λ same. counted })
  down_moves (IsWelcomed w) is may says j = absurd (two_roles (sym may.0 ∙ x.role_h))

  unfoldable pub host_keeps : Holds id (host_did s c n)
  host_keeps = record {
    up_put = x.up_put;
    up_taken = st.taken_now;
    down_put = st.put_now;
    down_taken = x.down_taken;
    own_t = x.own_t;
    own_h = st.own;
    joint = subst (λ v. Joint id up_view v) (sym st.is) (down_moves st.move refl st.may st.told x.joint);
    role_t = x.role_t;
    role_h = st.role ∙ x.role_h;
    id_t = x.id_t;
    id_h = st.id ∙ x.id_h;
  }

-- ## Any run

own_first : (id : Id) (role : Role) → Own (fresh role id) [] [] []
own_first id role = record {
  fit = tt;
  kept = refl;
  long = omega arith;
  inside = omega arith;
  counted = omega arith;
  puts = refl;
  top = omega arith;
  told = omega arith;
  taken_fit = tt;
  came = refl;
  unread = tt;
  handed = refl;
  acked = omega arith;
  short = λ r. omega arith;
  fits = omega arith;
}

no_line : Line [] [] [] 0 0
no_line = record { goes = none []; reads = none []; count = omega arith; inside = omega arith }

joint_first : (id : Id) → Joint id (view (fresh Terminal id) [] [] []) (view (fresh Host id) [] [] [])
joint_first id = record {
  start = 0;
  from = 0;
  call = record { what = word.Welcome; id = id; attempt = 0; received = 0 };
  welcome = record { what = word.Welcome; id = id; attempt = 0; received = 0 };
  order = omega arith;
  known = λ e. absurd (true≢false (sym e));
  open_t = λ e. absurd (true≢false (sym e));
  open_h = λ e. absurd (true≢false (sym e));
  up_h = refl;
  up_t = λ e. absurd (true≢false (sym e));
  first = λ e. refl;
  met = λ l. absurd (omega (arith, l));
  begins = λ l. refl;
  fits = omega arith;
  unsaid_t = λ m l. refl;
  unsaid_h = λ m l. refl;
  unfed_t = λ m l. refl;
  unfed_h = λ m l. refl;
  hellos_t = λ m y is s. absurd (no_hello y s);
  hellos_h = λ m y is s. absurd (no_hello y s);
  call_is = λ e. absurd (true≢false (sym e));
  welcome_is = λ e. absurd (true≢false (sym e));
  asks = λ e. absurd (true≢false (sym e));
  sends_t = λ e. absurd (true≢false (sym e));
  sends_h = λ e. absurd (true≢false (sym e));
  unread = λ m l. none _;
  up = no_line;
  down = λ same. no_line;
  from_in = omega arith;
  came_h = none [];
  came_t = none [];
  base_t = omega arith;
  base_h = omega arith;
  ahead_t = λ e. omega arith;
  ahead_h = λ e. omega arith;
  told_t = λ same. omega arith;
  told_h = omega arith;
  start_in = λ e. omega arith;
  from_base = omega arith;
}

pub first_holds : (id : Id) → Holds id (new_session id)
first_holds id = record {
  up_put = [];
  up_taken = [];
  down_put = [];
  down_taken = [];
  own_t = own_first id Terminal;
  own_h = own_first id Host;
  joint = joint_first id;
  role_t = refl;
  role_h = refl;
  id_t = refl;
  id_h = refl;
}

pub all_hold : (id : Id) (steps : List Step) (s z : Session) → IsId id → Holds id s → Leads s steps z → Holds id z
all_hold id [] s z fine x leads = subst (λ k. Holds id k) (sym leads) x
all_hold id (ByTerminal c ∷ steps) s z fine x (n, does, carried, rest) =
    all_hold id steps (terminal_did s c n) z fine
    (terminal_keeps id fine s x c n (step c s.terminal n s.terminal_calls x.up_put x.down_taken x.own_t does) carried) rest
all_hold id (ByHost c ∷ steps) s z fine x (n, does, carried, rest) =
    all_hold id steps (host_did s c n) z fine
    (host_keeps id fine s x c n (step c s.host n s.host_calls x.down_put x.up_taken x.own_h does) carried) rest

pub session_holds : (id : Id) (steps : List Step) (s : Session) → IsId id → Leads (new_session id) steps s → Holds id s
session_holds id steps s fine leads = all_hold id steps (new_session id) s fine (first_holds id) leads

-- ## What comes out

carries_one : (a b : End) (cs ds : List Call) (ps qs rs us : List Packet) → Own a cs ps qs → Own b ds rs us → StartsWith (stream_of packets ps) (stream_of packets us ++ b.held)
    → StartsWith (put cs) (handed ds)
carries_one a b cs ds ps qs rs us o p front =
    let more = packets_front a b cs ds ps qs rs us o p front in
    record {
      rest = waits b.waiting ++ flat_map items_in more.rest;
      is = o.puts ∙ ap (λ l. flat_map items_in l) more.is ∙ items_more us more.rest ∙ ap (λ l. l ++ flat_map items_in more.rest) (sym p.handed)
          ∙ append_assoc (handed ds) (waits b.waiting) (flat_map items_in more.rest);
    }

pub links_carry : LinksCarry
links_carry id steps s fine leads =
    let x = session_holds id steps s fine leads in
    record {
      up = carries_one s.terminal s.host s.terminal_calls s.host_calls x.up_put x.down_taken x.down_put x.up_taken x.own_t x.own_h x.joint.came_h;
      down = carries_one s.host s.terminal s.host_calls s.terminal_calls x.down_put x.up_taken x.up_put x.down_taken x.own_h x.own_t x.joint.came_t;
    }
