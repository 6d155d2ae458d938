-- What the terminal's packets of a later session of two links have to do with those of an earlier one.
use Rattle.std.proofs.Common.{◌≡◌, ℕ, ◌≤◌, List, [], ◌∷◌, ◌++◌, length, take, drop, None, refl, sym, ap, subst, ◌∙◌, arith, append-nil, append_assoc, length-append}
use Rattle.std.proofs.lemmas.List.{take-append-drop, take-append-le, take_at}
use Rattle.std.specs.List.{flat_map}
use Rattle.sam_frame.specs.Stream.{FitInTurn, stream_of}
use Rattle.sam_frame.proofs.Fronts.{stream_of-append}
use Rattle.sam_frame.proofs.Unique.{reads_on}
use Rattle.sam_link.specs.Calls.{Call, Item, items_in}
use Rattle.sam_link.specs.End.{End}
use Rattle.sam_link.specs.Packets.{Packet, packets}
use Rattle.sam_link.specs.Sessions.{ByHost, ByTerminal, IsId, Leads, Session, StartsWith, Step, host_did, terminal_did}
use Rattle.sam_link.specs.declared.hello.Id.{Id}
use Rattle.sam_link.proofs.OwnCalls.{step}
use Rattle.sam_link.proofs.OwnMoves.{Stepped}
use Rattle.sam_link.proofs.PacketLaws.{front_read, packets_sound}
use Rattle.sam_link.proofs.Packing.{items_more}
use Rattle.sam_link.proofs.SessionLaws.{Holds}
unfoldable use Rattle.sam_link.proofs.SessionLaws.{host_keeps, terminal_keeps}
use Rattle.sam_link.proofs.Views.{Adds, Move, Takes, View, moved, view}

-- ## Fronts

pub front_all : {A : Type 0} (xs : List A) → StartsWith xs xs
front_all xs = record { rest = []; is = sym (append-nil xs) }

pub front_then : {A : Type 0} (xs ys zs : List A) → StartsWith xs ys → StartsWith ys zs → StartsWith xs zs
front_then xs ys zs a b = record { rest = b.rest ++ a.rest; is = a.is ∙ ap (λ (l : List _). l ++ a.rest) b.is ∙ append_assoc zs b.rest a.rest }

-- of two fronts the longer one starts with the other
pub longer_front : {A : Type 0} (a r b t : List A) → a ++ r ≡ b ++ t → length b ≤ length a → StartsWith a b
longer_front a r b t same less =
    let front : take (length b) a ≡ b =
    sym (take-append-le (length b) a r less) ∙ ap (take (length b)) same ∙ take_at b t (length b) refl in
    record { rest = drop (length b) a; is = sym (take-append-drop (length b) a) ∙ ap (λ (l : List _). l ++ drop (length b) a) front }

pub none_more : {A : Type 0} (a b : List A) → a ++ b ≡ a → b ≡ []
none_more a [] same = refl
none_more a (x ∷ b) same = absurd (omega (arith, ap length same, length-append a (x ∷ b)))

pub none_first : {A : Type 0} (a b : List A) → a ++ b ≡ [] → a ≡ []
none_first [] b same = refl
none_first (x ∷ a) b same = absurd (omega (arith, ap length same))

-- ## What the terminal's link put stays put

stream_grows : (v : View) (m : Move) → StartsWith (moved v m).stream v.stream
stream_grows v (Adds more told top) = record { rest = more; is = refl }
stream_grows v (Takes piece more acked told top) = record { rest = more; is = refl }
stream_grows v m = front_all v.stream

put_grows : (e n : End) (cs : List Call) (c : Call) (ps qs : List Packet) → (st : Stepped e n cs c ps qs)
    → StartsWith (stream_of packets st.put_now) (stream_of packets ps)
put_grows e n cs c ps qs st = subst (λ (v : View). StartsWith v.stream (stream_of packets ps)) (sym st.is) (stream_grows (view e cs ps qs) st.move)

-- a later session, in which the terminal's packets go on from these
pub record Grown (id : Id) (z : Session) (stream : List ℕ) : Type 0 where
  pub holds : Holds id z
  pub grows : StartsWith (stream_of packets holds.up_put) stream

pub grown : (id : Id) (steps : List Step) (s z : Session) → IsId id → (x : Holds id s) → Leads s steps z → Grown id z (stream_of packets x.up_put)
unfolding terminal_keeps host_keeps
grown id [] s z fine x leads =
    subst (λ k. Grown id k (stream_of packets x.up_put)) (sym leads) (record { holds = x; grows = front_all (stream_of packets x.up_put) })
grown id (ByTerminal c ∷ steps) s z fine x (n, does, carried, rest) =
    let st = step c s.terminal n s.terminal_calls x.up_put x.down_taken x.own_t does in
    let y = terminal_keeps id fine s x c n st carried in
    let later = grown id steps (terminal_did s c n) z fine y rest in
    record {
      holds = later.holds;
      grows = front_then (stream_of packets later.holds.up_put) (stream_of packets st.put_now) (stream_of packets x.up_put) later.grows
          (put_grows s.terminal n s.terminal_calls c x.up_put x.down_taken st);
    }
grown id (ByHost c ∷ steps) s z fine x (n, does, carried, rest) =
    let st = step c s.host n s.host_calls x.down_put x.up_taken x.own_h does in
    let y = host_keeps id fine s x c n st carried in
    let later = grown id steps (host_did s c n) z fine y rest in
    record { holds = later.holds; grows = later.grows }

-- ## All came

-- packets whose stream goes on from that of others go on from these
pub packets_grow : (ps qs : List Packet) → FitInTurn packets 1 ps → FitInTurn packets 1 qs → StartsWith (stream_of packets ps) (stream_of packets qs)
    → StartsWith ps qs
packets_grow ps qs fit fine grows =
    let read = front_read ps qs (stream_of packets qs) grows.rest [] fit grows.is
    (record { whole = sym (append-nil (stream_of packets qs)); fit = fine }) in
    record { rest = read.0; is = read.1 }

-- what the host took has the first packets, as far as they came
pub took_front : (id : Id) (t : Session) (x : Holds id t) (front : List Packet) → StartsWith x.up_put front → FitInTurn packets 1 front
    → length (stream_of packets front) ≤ t.host.received → StartsWith x.up_taken front
took_front id t x front starts fit less =
    let came = x.joint.came_h in
    let bytes : List ℕ = stream_of packets x.up_taken ++ t.host.held in
    let whole : bytes ++ came.rest ≡ stream_of packets front ++ stream_of packets starts.rest =
    sym came.is ∙ ap (stream_of packets) starts.is ∙ stream_of-append packets front starts.rest in
    let inside = longer_front bytes came.rest (stream_of packets front) (stream_of packets starts.rest) whole (omega (arith, less, x.own_h.came)) in
    let read = reads_on packets packets_sound 1 bytes front x.up_taken inside.rest t.host.held None (record { whole = inside.is; fit = fit })
    (record { whole = refl; fit = x.own_h.taken_fit }) x.own_h.unread in
    record { rest = read.0; is = read.1 }

-- the packets behind the first have nothing for the program
pub all_taken : (puts front taken : List Packet) → flat_map items_in front ≡ flat_map items_in puts → StartsWith puts taken → StartsWith taken front
    → flat_map items_in taken ≡ flat_map items_in front
all_taken puts front taken all up inside =
    let items : List Packet → List Item = flat_map items_in in
    let whole : items puts ≡ items front ++ (items inside.rest ++ items up.rest) =
    ap items up.is ∙ items_more taken up.rest ∙ ap (λ (l : List Item). l ++ items up.rest) (ap items inside.is ∙ items_more front inside.rest)
    ∙ append_assoc (items front) (items inside.rest) (items up.rest) in
    let none : items inside.rest ++ items up.rest ≡ [] = none_more (items front) (items inside.rest ++ items up.rest) (sym (all ∙ whole)) in
    let first : items inside.rest ≡ [] = none_first (items inside.rest) (items up.rest) none in
    ap items inside.is ∙ items_more front inside.rest ∙ ap (λ (l : List Item). items front ++ l) first ∙ append-nil (items front)
