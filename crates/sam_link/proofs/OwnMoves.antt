-- What each call does to an end, in the words of what two ends are told by.
use Rattle.std.proofs.Common.{◌≡◌, ℕ, ◌+◌, ◌-◌, ◌<◌, ◌≤◌, ◌^◌, List, [], ◌∷◌, ◌++◌, length, take, drop, map, Bool, true, false, Ok, refl, sym, ap, ◌∙◌, subst, append_assoc, append-nil, arith, length-append, length-drop, length-take, drop-drop, nat_le, ◌⊎◌, inl, inr, true≢false, ◌&&◌, ◌||◌}
use Rattle.std.proofs.lemmas.Grind.{flat_map-append}
use Rattle.std.proofs.Math.ListN.{drop_of_length-le}
use Rattle.std.proofs.Math.Seq.{take-append_seam}
use Rattle.std.specs.List.{flat_map}
use Rattle.std.specs.Prelude.{max, min, ◌==◌, if◌then◌else◌}
use Rattle.sam_frame.specs.Splitting.{Front}
use Rattle.sam_frame.specs.Stream.{FitInTurn, IsOpen, stream_of}
use Rattle.sam_frame.proofs.Fronts.{stream_of-append}
use Rattle.sam_link.specs.Calls.{Call, Item, Byte, fed, fed_by, handed, handed_by, items_in, out, out_by, put_by, waits}
use Rattle.sam_link.specs.Calls.Call.{Feed, TakeOut}
use Rattle.sam_link.specs.End.{End, called, ended, first_word, from_hello, from_kept, going, gone, is_asking, is_call, is_resume, is_up, may_send, says}
use Rattle.sam_link.specs.Feeding.{fed_to, owes, has_room, is_open, tells}
use Rattle.sam_link.specs.Inbox.{Waiting, items_of}
use Rattle.sam_link.specs.Keeping.{Keeps, acknowledged, begun, HasRoom}
use Rattle.sam_link.specs.Keeping.{put as put_bytes}
use Rattle.sam_link.specs.Packets.{Packet, asks, packets, top_of}
use Rattle.sam_link.specs.Sessions.{IsFrom, StartsWith, WasCarried, is_taken}
use Rattle.sam_link.specs.declared.hello.Hello.{Hello}
use Rattle.sam_link.specs.declared.phase.Phase.TheVariants.{Open}
use Rattle.sam_link.specs.declared.phase.Role.TheVariants.{Terminal, Host}
use Rattle.sam_link.specs.declared.hello.What.TheVariants as word
use Rattle.sam_link.proofs.Joint.{Sound}
use Rattle.sam_link.proofs.Lines.{all, at_most, drop_more}
use Rattle.sam_link.proofs.Packing.{ack_fit, ack_if, ack_items, ack_long, ack_top, fit_more, items_are, items_more, told_keeps, top_more}
use Rattle.sam_link.proofs.Views.{Adds, Answers, Breaks, Dials, Goes, IsWelcomed, Move, Own, Stays, Takes, View, at, goes_on, moved, view}

pub sound_of : (e : End) (cs : List Call) (ps qs : List Packet) → Own e cs ps qs → Sound (view e cs ps qs)
sound_of e cs ps qs o = record {
  base = omega arith;
  given = omega (arith, o.long, o.inside);
  came = o.came;
  told = o.told;
  top = o.top;
  fits = o.fits;
}

pub with_last : {A B : Type 0} (f : A → List B) (xs : List A) (x : A) → flat_map f (xs ++ x ∷ []) ≡ flat_map f xs ++ f x
with_last f xs x = flat_map-append f xs (x ∷ []) ∙ ap (λ (l : List _). flat_map f xs ++ l) (append-nil (f x))

without : {A B : Type 0} (f : A → List B) (xs : List A) (x : A) → f x ≡ [] → flat_map f (xs ++ x ∷ []) ≡ flat_map f xs
without f xs x none = with_last f xs x ∙ ap (λ (l : List _). flat_map f xs ++ l) none ∙ append-nil (flat_map f xs)

-- two views are the same, part by part
record Same (v w : View) : Type 0 where
  attempt : v.attempt ≡ w.attempt
  phase : v.phase ≡ w.phase
  known : v.known ≡ w.known
  hello : v.hello ≡ w.hello
  base : v.base ≡ w.base
  given : v.given ≡ w.given
  received : v.received ≡ w.received
  told : v.told ≡ w.told
  top : v.top ≡ w.top
  stream : v.stream ≡ w.stream
  came : v.came ≡ w.came
  went : (m : ℕ) → v.went m ≡ w.went m
  fed : (m : ℕ) → v.fed m ≡ w.fed m

same_view : (v w : View) → Same v w → v ≡ w
same_view v w s = λ i. record {
  attempt = s.attempt i;
  phase = s.phase i;
  known = s.known i;
  hello = s.hello i;
  base = s.base i;
  given = s.given i;
  received = s.received i;
  told = s.told i;
  top = s.top i;
  stream = s.stream i;
  came = s.came i;
  went = λ m. s.went m i;
  fed = λ m. s.fed m i;
}

-- what the other end has to know of a move
abbrev pub May : End → List Call → Call → List Packet → Move → Type 0
May e cs c qs Stays = Unit {0}
May e cs c qs (Adds more told top) = Unit {0}
May e cs c qs Breaks = Unit {0}
May e cs c qs (Goes a b) =
    (is_up e.phase ≡ true) × ((b ≡ 0) ⊎ (drop a e.hello ≡ [])) × (may_send e.phase e.attempt ≡ false → b ≡ 0)
May e cs c qs (Takes piece more acked told top) =
    (is_open e.phase ≡ true) × (acked ≤ top_of qs) × (is_taken c ≡ true)
    × ((theirs : List Call) → WasCarried cs theirs c → StartsWith (drop 42 (out e.attempt theirs)) (fed e.attempt cs ++ piece))
May e cs c qs (Dials g) =
    (e.role ≡ Terminal) × (e.attempt + 1 < 2 ^ 64)
    × (g.id ≡ e.id) × (g.attempt ≡ e.attempt + 1) × (is_call g.what ≡ true) × (is_resume g.what ≡ true → e.is_known ≡ true) × (g.received ≡ e.received)
May e cs c qs (Answers g w) =
    (e.role ≡ Host) × (e.attempt < g.attempt) × (w ≡ record { what = word.Welcome; id = e.id; attempt = g.attempt; received = e.received }) × (is_taken c ≡ true)
    × ((theirs : List Call) → WasCarried cs theirs c → IsFrom theirs g)
May e cs c qs (IsWelcomed x) =
    (e.role ≡ Terminal) × (is_asking e.phase ≡ true) × (x.attempt ≡ e.attempt) × (e.attempt ≡ 1 → x.received ≡ 0) × (is_taken c ≡ true)
    × ((theirs : List Call) → WasCarried cs theirs c → IsFrom theirs x)

abbrev pub ToldBy : View → Move → Type 0
ToldBy v (Adds more told top) = (told ≤ max top v.told) × (v.top ≤ top)
ToldBy v (Takes piece more acked told top) = (told ≤ max top v.told) × (v.top ≤ top)
ToldBy v _ = Unit {0}

-- a call, as one move
pub record Stepped (e n : End) (cs : List Call) (c : Call) (ps qs : List Packet) : Type 0 where
  pub put_now : List Packet
  pub taken_now : List Packet
  pub move : Move
  pub own : Own n (cs ++ c ∷ []) put_now taken_now
  pub extends : StartsWith taken_now qs
  pub is : view n (cs ++ c ∷ []) put_now taken_now ≡ moved (view e cs ps qs) move
  pub may : May e cs c taken_now move
  pub told : ToldBy (view e cs ps qs) move
  pub role : n.role ≡ e.role
  pub id : n.id ≡ e.id

-- ## A call that changes nothing but what waits

pub stays : (e : End) (cs : List Call) (c : Call) (ps qs : List Packet) (w : Waiting) → Own e cs ps qs → ((m : ℕ) → out_by m c ≡ []) → ((m : ℕ) → fed_by m c ≡ [])
    → put_by c ≡ [] → handed_by c ++ waits w ≡ waits e.waiting → Stepped e (record e { waiting = w }) cs c ps qs
stays e cs c ps qs w o no_out no_feed no_put same = record {
  put_now = ps;
  taken_now = qs;
  extends = all qs;
  move = Stays;
  own = record {
    fit = o.fit;
    kept = o.kept;
    long = o.long;
    inside = o.inside;
    counted = o.counted;
    puts = without put_by cs c no_put ∙ o.puts;
    top = o.top;
    told = o.told;
    taken_fit = o.taken_fit;
    came = o.came;
    unread = o.unread;
    handed = ap (λ l. l ++ waits w) (with_last handed_by cs c) ∙ append_assoc (handed cs) (handed_by c) (waits w) ∙ ap (λ l. handed cs ++ l) same ∙ o.handed;
    acked = o.acked;
    short = o.short;
    fits = o.fits;
  };
  is = same_view _ _ (record {
    attempt = refl;
    phase = refl;
    known = refl;
    hello = refl;
    base = refl;
    given = refl;
    received = refl;
    told = refl;
    top = refl;
    stream = refl;
    came = refl;
    went = λ m. without (out_by m) cs c (no_out m);
    fed = λ m. without (fed_by m) cs c (no_feed m);
  });
  may = tt;
  told = tt;
  role = refl;
  id = refl;
}

-- a refusal
pub refused : (e n : End) (cs : List Call) (c : Call) (ps qs : List Packet) → Own e cs ps qs → ((m : ℕ) → out_by m c ≡ []) → ((m : ℕ) → fed_by m c ≡ [])
    → put_by c ≡ [] → handed_by c ≡ [] → n ≡ e → Stepped e n cs c ps qs
refused e n cs c ps qs o no_out no_feed no_put no_hand is =
    subst (λ k. Stepped e k cs c ps qs) (sym is) (stays e cs c ps qs e.waiting o no_out no_feed no_put (ap (λ l. l ++ waits e.waiting) no_hand))

-- ## Packets are put

room_less : (k : Keeps) (bytes : List ℕ) → has_room (put_bytes k bytes) 11 ≡ true → has_room k 11 ≡ true
room_less k bytes e = grind (arith, e, (length-append k.kept bytes))

pub adds : (e n : End) (cs : List Call) (c : Call) (ps qs more : List Packet) (told : ℕ) → Own e cs ps qs → ((m : ℕ) → out_by m c ≡ []) → ((m : ℕ) → fed_by m c ≡ [])
    → put_by c ≡ flat_map items_in more → handed_by c ≡ [] → FitInTurn packets 1 more → top_of more ≤ e.received → e.told ≤ told → told ≤ e.received
    → told ≤ max (top_of more) e.told → HasRoom e.keeps (length (stream_of packets more))
    → n ≡ record e { keeps = put_bytes e.keeps (stream_of packets more); told = told } → Stepped e n cs c ps qs
adds e n cs c ps qs more told o no_out no_feed puts no_hand fit top before told_in says room is =
    subst (λ k. Stepped e k cs c ps qs) (sym is) (record {
      put_now = ps ++ more;
      taken_now = qs;
      extends = all qs;
      move = Adds (stream_of packets more) told (top_of (ps ++ more));
      own = record {
        fit = fit_more ps more o.fit fit;
        kept = ap (λ l. l ++ stream_of packets more) o.kept ∙ sym (drop_more e.keeps.base (stream_of packets ps) (stream_of packets more) (omega (arith, o.long)))
            ∙ ap (λ l. drop e.keeps.base l) (sym (stream_of-append packets ps more));
        long = omega (
          arith,
          o.long,
          (length-append e.keeps.kept (stream_of packets more)),
          (ap length (stream_of-append packets ps more)),
          (length-append (stream_of packets ps) (stream_of packets more)),
        );
        inside = omega (arith, o.inside, (length-append e.keeps.kept (stream_of packets more)));
        counted = omega (arith, room, o.long, (ap length (stream_of-append packets ps more)), (length-append (stream_of packets ps) (stream_of packets more)));
        puts = with_last put_by cs c ∙ ap (λ l. l ++ put_by c) o.puts ∙ ap (λ l. flat_map items_in ps ++ l) puts ∙ sym (items_more ps more);
        top = omega (arith, o.top, top, (top_more ps more));
        told = told_in;
        taken_fit = o.taken_fit;
        came = o.came;
        unread = o.unread;
        handed = ap (λ l. l ++ waits e.waiting) (without handed_by cs c no_hand) ∙ o.handed;
        acked = o.acked;
        short = λ r. omega (arith, before, (o.short (room_less e.keeps (stream_of packets more) r)));
        fits = o.fits;
      };
      is = same_view _ _ (record {
        attempt = refl;
        phase = refl;
        known = refl;
        hello = refl;
        base = refl;
        given = refl;
        received = refl;
        told = refl;
        top = refl;
        stream = stream_of-append packets ps more;
        came = refl;
        went = λ m. without (out_by m) cs c (no_out m);
        fed = λ m. without (fed_by m) cs c (no_feed m);
      });
      may = tt;
      told = (omega (arith, says, (top_more ps more)), omega (arith, (top_more ps more)));
      role = refl;
      id = refl;
    })

-- ## The connection is over

pub over : (e n : End) (cs : List Call) (c : Call) (ps qs : List Packet) → Own e cs ps qs → ((m : ℕ) → out_by m c ≡ []) → ((m : ℕ) → fed_by m c ≡ [])
    → put_by c ≡ [] → handed_by c ≡ [] → n ≡ ended e → Stepped e n cs c ps qs
over e n cs c ps qs o no_out no_feed no_put no_hand is = subst (λ k. Stepped e k cs c ps qs) (sym is) (record {
  put_now = ps;
  taken_now = qs;
  extends = all qs;
  move = Breaks;
  own = record {
    fit = o.fit;
    kept = o.kept;
    long = o.long;
    inside = o.inside;
    counted = o.counted;
    puts = without put_by cs c no_put ∙ o.puts;
    top = o.top;
    told = o.told;
    taken_fit = o.taken_fit;
    came = o.came;
    unread = o.unread;
    handed = ap (λ l. l ++ waits e.waiting) (without handed_by cs c no_hand) ∙ o.handed;
    acked = o.acked;
    short = o.short;
    fits = o.fits;
  };
  is = same_view _ _ (record {
    attempt = refl;
    phase = refl;
    known = refl;
    hello = refl;
    base = refl;
    given = refl;
    received = refl;
    told = refl;
    top = refl;
    stream = refl;
    came = refl;
    went = λ m. without (out_by m) cs c (no_out m);
    fed = λ m. without (fed_by m) cs c (no_feed m);
  });
  may = tt;
  told = tt;
  role = refl;
  id = refl;
})

-- ## Connections begin

first_call : (known take_over : Bool) → is_call (first_word known take_over) ≡ true
first_call true take_over = refl
first_call false true = refl
first_call false false = refl

first_known : (known take_over : Bool) → is_resume (first_word known take_over) ≡ true → known ≡ true
first_known true take_over e = refl
first_known false true e = absurd (true≢false (sym e))
first_known false false e = absurd (true≢false (sym e))

pub dials : (e n : End) (cs : List Call) (c : Call) (ps qs : List Packet) (take_over : Bool) → Own e cs ps qs → ((m : ℕ) → out_by m c ≡ []) → ((m : ℕ) → fed_by m c ≡ [])
    → put_by c ≡ [] → handed_by c ≡ [] → e.role ≡ Terminal → e.attempt + 1 < 2 ^ 64 → n ≡ called e take_over
    → Stepped e n cs c ps qs
dials e n cs c ps qs take_over o no_out no_feed no_put no_hand terminal fits is = subst (λ k. Stepped e k cs c ps qs) (sym is) (record {
  put_now = ps;
  taken_now = qs;
  extends = all qs;
  move = Dials (record { what = first_word e.is_known take_over; id = e.id; attempt = e.attempt + 1; received = e.received });
  own = record {
    fit = o.fit;
    kept = o.kept;
    long = o.long;
    inside = omega arith;
    counted = o.counted;
    puts = without put_by cs c no_put ∙ o.puts;
    top = o.top;
    told = omega arith;
    taken_fit = o.taken_fit;
    came = o.came;
    unread = o.unread;
    handed = ap (λ l. l ++ waits e.waiting) (without handed_by cs c no_hand) ∙ o.handed;
    acked = o.acked;
    short = λ r. omega arith;
    fits = o.fits;
  };
  is = same_view _ _ (record {
    attempt = refl;
    phase = refl;
    known = refl;
    hello = refl;
    base = refl;
    given = omega arith;
    received = refl;
    told = refl;
    top = refl;
    stream = refl;
    came = refl;
    went = λ m. without (out_by m) cs c (no_out m);
    fed = λ m. without (fed_by m) cs c (no_feed m);
  });
  may = (terminal, fits, refl, refl, first_call e.is_known take_over, first_known e.is_known take_over, refl);
  told = tt;
  role = refl;
  id = refl;
})

begun_kept : (k : Keeps) (count : ℕ) (stream : List ℕ) → k.kept ≡ drop k.base stream → k.base ≤ count → drop (count - k.base) k.kept ≡ drop count stream
begun_kept k count stream e l = let there : k.base + (count - k.base) ≡ count = omega (arith, l) in
    ap (λ b. drop (count - k.base) b) e ∙ drop-drop (count - k.base) k.base stream ∙ grind (arith, there)

pub answers : (e n : End) (cs : List Call) (c : Call) (ps qs : List Packet) (g : Hello) → Own e cs ps qs → ((m : ℕ) → out_by m c ≡ []) → ((m : ℕ) → fed_by m c ≡ [])
    → put_by c ≡ [] → handed_by c ≡ [] → e.role ≡ Host → e.attempt < g.attempt
    → e.keeps.base ≤ g.received → g.received ≤ e.keeps.base + length e.keeps.kept → is_taken c ≡ true → ((theirs : List Call) → WasCarried cs theirs c → IsFrom theirs g)
    → n ≡ says (record e { attempt = g.attempt; phase = Open; is_known = true; keeps = begun e.keeps g.received }) word.Welcome → Stepped e n cs c ps qs
answers e n cs c ps qs g o no_out no_feed no_put no_hand host later least most taken carried is = subst (λ k. Stepped e k cs c ps qs) (sym is) (record {
  put_now = ps;
  taken_now = qs;
  extends = all qs;
  move = Answers g (record { what = word.Welcome; id = e.id; attempt = g.attempt; received = e.received });
  own = record {
    fit = o.fit;
    kept = begun_kept e.keeps g.received (stream_of packets ps) o.kept least;
    long = omega (arith, o.long, least, most, (length-drop (g.received - e.keeps.base) e.keeps.kept));
    inside = omega arith;
    counted = o.counted;
    puts = without put_by cs c no_put ∙ o.puts;
    top = o.top;
    told = omega arith;
    taken_fit = o.taken_fit;
    came = o.came;
    unread = o.unread;
    handed = ap (λ l. l ++ waits e.waiting) (without handed_by cs c no_hand) ∙ o.handed;
    acked = omega (arith, o.acked, least);
    short = λ r. omega arith;
    fits = o.fits;
  };
  is = same_view _ _ (record {
    attempt = refl;
    phase = refl;
    known = refl;
    hello = refl;
    base = refl;
    given = omega arith;
    received = refl;
    told = refl;
    top = refl;
    stream = refl;
    came = refl;
    went = λ m. without (out_by m) cs c (no_out m);
    fed = λ m. without (fed_by m) cs c (no_feed m);
  });
  may = (host, later, refl, taken, carried);
  told = tt;
  role = refl;
  id = refl;
})

room_again : (k : Keeps) (count : ℕ) → k.base ≤ count → count ≤ k.base + length k.kept → has_room (begun k count) 11 ≡ true → has_room k 11 ≡ true
room_again k count least most e = grind (arith, e, least, most, (length-drop (count - k.base) k.kept))

pub welcomed_first : (e n : End) (cs : List Call) (c : Call) (ps qs : List Packet) (x : Hello) → Own e cs ps qs → ((m : ℕ) → out_by m c ≡ []) → ((m : ℕ) → fed_by m c ≡ [])
    → put_by c ≡ [] → handed_by c ≡ [] → e.role ≡ Terminal → is_asking e.phase ≡ true
    → x.attempt ≡ e.attempt → (e.attempt == 1) ≡ true → x.received ≡ 0 → is_taken c ≡ true → ((theirs : List Call) → WasCarried cs theirs c → IsFrom theirs x)
    → n ≡ record e { phase = Open; is_known = true } → Stepped e n cs c ps qs
welcomed_first e n cs c ps qs x o no_out no_feed no_put no_hand terminal asking same one zero taken carried is = subst (λ k. Stepped e k cs c ps qs) (sym is) (record {
  put_now = ps;
  taken_now = qs;
  extends = all qs;
  move = IsWelcomed x;
  own = record {
    fit = o.fit;
    kept = o.kept;
    long = o.long;
    inside = o.inside;
    counted = o.counted;
    puts = without put_by cs c no_put ∙ o.puts;
    top = o.top;
    told = o.told;
    taken_fit = o.taken_fit;
    came = o.came;
    unread = o.unread;
    handed = ap (λ l. l ++ waits e.waiting) (without handed_by cs c no_hand) ∙ o.handed;
    acked = o.acked;
    short = o.short;
    fits = o.fits;
  };
  is = same_view _ _ (record {
    attempt = refl;
    phase = refl;
    known = refl;
    hello = refl;
    base = rw one refl;
    given = rw one refl;
    received = refl;
    told = refl;
    top = refl;
    stream = refl;
    came = refl;
    went = λ m. without (out_by m) cs c (no_out m);
    fed = λ m. without (fed_by m) cs c (no_feed m);
  });
  may = (terminal, asking, same, λ first. zero, taken, carried);
  told = tt;
  role = refl;
  id = refl;
})

pub welcomed_later : (e n : End) (cs : List Call) (c : Call) (ps qs : List Packet) (x : Hello) → Own e cs ps qs → ((m : ℕ) → out_by m c ≡ []) → ((m : ℕ) → fed_by m c ≡ [])
    → put_by c ≡ [] → handed_by c ≡ [] → e.role ≡ Terminal → is_asking e.phase ≡ true
    → x.attempt ≡ e.attempt → (e.attempt == 1) ≡ false → e.keeps.base ≤ x.received → x.received ≤ e.keeps.base + length e.keeps.kept → is_taken c ≡ true
    → ((theirs : List Call) → WasCarried cs theirs c → IsFrom theirs x)
    → n ≡ record e { phase = Open; is_known = true; keeps = begun e.keeps x.received } → Stepped e n cs c ps qs
welcomed_later e n cs c ps qs x o no_out no_feed no_put no_hand terminal asking same one least most taken carried is = subst (λ k. Stepped e k cs c ps qs) (sym is) (record {
  put_now = ps;
  taken_now = qs;
  extends = all qs;
  move = IsWelcomed x;
  own = record {
    fit = o.fit;
    kept = begun_kept e.keeps x.received (stream_of packets ps) o.kept least;
    long = omega (arith, o.long, least, most, (length-drop (x.received - e.keeps.base) e.keeps.kept));
    inside = omega arith;
    counted = o.counted;
    puts = without put_by cs c no_put ∙ o.puts;
    top = o.top;
    told = o.told;
    taken_fit = o.taken_fit;
    came = o.came;
    unread = o.unread;
    handed = ap (λ l. l ++ waits e.waiting) (without handed_by cs c no_hand) ∙ o.handed;
    acked = omega (arith, o.acked, least);
    short = λ r. o.short (room_again e.keeps x.received least most r);
    fits = o.fits;
  };
  is = same_view _ _ (record {
    attempt = refl;
    phase = refl;
    known = refl;
    hello = refl;
    base = rw one refl;
    given = rw one (omega arith);
    received = refl;
    told = refl;
    top = refl;
    stream = refl;
    came = refl;
    went = λ m. without (out_by m) cs c (no_out m);
    fed = λ m. without (fed_by m) cs c (no_feed m);
  });
  may = (terminal, asking, same, λ first. absurd (grind (arith, one, first)), taken, carried);
  told = tt;
  role = refl;
  id = refl;
})

-- ## Bytes go out

some_hello : (hello : List ℕ) (room : ℕ) → (room - min (length hello) room ≡ 0) ⊎ (drop (min (length hello) room) hello ≡ [])
some_hello hello room = elim (at_most (length hello) room (nat_le (length hello) room) refl) [
  | inl fits ↦ inr (drop_of_length-le hello {i = min (length hello) room} (omega (arith, fits)))
  | inr more ↦ inl (omega (arith, more))
]

hello_first : (hello : List ℕ) (room rest : ℕ) (b : Bool) → ((if b then min rest (room - min (length hello) room) else 0) ≡ 0) ⊎ (drop (min (length hello) room) hello ≡ [])
hello_first hello room rest b = elim (some_hello hello room) [ inl none ↦ inl (grind (arith, none)) | inr whole ↦ inr whole ]

kept_in : (b : Bool) (rest room : ℕ) → (if b then min rest room else 0) ≤ rest
kept_in true rest room = omega arith
kept_in false rest room = omega arith

pub took_front : (front behind whole : List ℕ) (count : ℕ) → whole ≡ front ++ behind → count ≡ length front → take count whole ≡ front
took_front front behind whole count are long = grind (arith, are, long, take-append_seam)

out_there : (m attempt here : ℕ) (bytes went : List ℕ) → attempt ≡ here → bytes ≡ went → (if attempt == m then bytes else []) ≡ at here went m
out_there m attempt here bytes went same is = rw (same, is) refl

pub takes_out : (e n : End) (cs : List Call) (ps qs : List Packet) (attempt count : ℕ) (old new : List ℕ) → Own e cs ps qs → is_up e.phase ≡ true → attempt ≡ e.attempt
    → count ≡ from_hello e (length old) + from_kept e (length old) → new ≡ going e (length old) ++ drop count old → n ≡ gone e (length old)
    → Stepped e n cs (TakeOut attempt old (Ok count) new) ps qs
takes_out e n cs ps qs attempt count old new o up same long are is =
    let c : Call = TakeOut attempt old (Ok count) new in
    let a : ℕ = from_hello e (length old) in
    let b : ℕ = from_kept e (length old) in
    let inside : b ≤ length e.keeps.kept - e.keeps.sent = kept_in (may_send e.phase e.attempt) (length e.keeps.kept - e.keeps.sent) (length old - a) in
    let ahead : drop (e.keeps.base + e.keeps.sent) (stream_of packets ps) ≡ drop e.keeps.sent e.keeps.kept =
    sym (ap (λ l. drop e.keeps.sent l) o.kept ∙ drop-drop e.keeps.sent e.keeps.base (stream_of packets ps)) in
    let went : take count new ≡ going e (length old) = took_front (going e (length old)) (drop count old) new count are (omega (
      arith,
      long,
      inside,
      (length-append (take a e.hello) (take b (drop e.keeps.sent e.keeps.kept))),
      (length-take a e.hello),
      (length-take b (drop e.keeps.sent e.keeps.kept)),
      (length-drop e.keeps.sent e.keeps.kept),
    )) in
    subst (λ k. Stepped e k cs c ps qs) (sym is) (record {
      put_now = ps;
      taken_now = qs;
      extends = all qs;
      move = Goes a b;
      own = record {
        fit = o.fit;
        kept = o.kept;
        long = o.long;
        inside = omega (arith, inside, o.inside);
        counted = o.counted;
        puts = without put_by cs c refl ∙ o.puts;
        top = o.top;
        told = o.told;
        taken_fit = o.taken_fit;
        came = o.came;
        unread = o.unread;
        handed = ap (λ l. l ++ waits e.waiting) (without handed_by cs c refl) ∙ o.handed;
        acked = o.acked;
        short = o.short;
        fits = o.fits;
      };
      is = same_view _ _ (record {
        attempt = refl;
        phase = refl;
        known = refl;
        hello = refl;
        base = refl;
        given = omega arith;
        received = refl;
        told = refl;
        top = refl;
        stream = refl;
        came = refl;
        went = λ m. with_last (out_by m) cs c ∙ ap (λ l. out m cs ++ l) (out_there m attempt e.attempt (take count new) (goes_on (view e cs ps qs) a b) same (went ∙ ap (λ l. take a e.hello ++ take b l) (sym ahead)));
        fed = λ m. without (fed_by m) cs c refl;
      });
      may = (up, hello_first e.hello (length old) (length e.keeps.kept - e.keeps.sent) (may_send e.phase e.attempt), λ wait. rw wait refl);
      told = tt;
      role = refl;
      id = refl;
    })

-- ## A piece comes

short_by : (asked late room : Bool) (count told : ℕ) → late ≡ nat_le 16384 (count - told) → told ≤ count → room ≡ true
    → count < (if ((asked || late) && room) then count else told) + 16384
short_by true late true count told is l r = omega arith
short_by false true true count told is l r = omega arith
short_by false false true count told is l r = let early : count - told < 16384 = grind (arith, is) in omega (arith, early)
short_by asked late false count told is l r = absurd (true≢false (sym r))

ack_room : (k : Keeps) (owed : Bool) → k.base + length k.kept < 2 ^ 64 → k.base + length k.kept + (if tells k owed then 11 else 0) < 2 ^ 64
ack_room k true l = grind (arith, l)
ack_room k false l = omega (arith, l)

room_left : (k : Keeps) (bytes : List ℕ) (top : ℕ) → top ≤ k.base + k.sent → k.sent ≤ length k.kept → has_room (acknowledged (put_bytes k bytes) top) 11 ≡ true → has_room k 11 ≡ true
room_left k bytes top l inside e = grind (arith, e, l, inside, (length-append k.kept bytes), (length-drop (top - k.base) (k.kept ++ bytes)))

told_in : (b : Bool) (count told : ℕ) → told ≤ count → (if b then count else told) ≤ count
told_in true count told l = omega arith
told_in false count told l = l

ack_in : (b : Bool) (count : ℕ) → (if b then count else 0) ≤ count
ack_in true count = omega arith
ack_in false count = omega arith

told_by_top : (b : Bool) (count told top : ℕ) → (if b then count else 0) ≤ top → (if b then count else told) ≤ max top told
told_by_top true count told top l = omega (arith, l)
told_by_top false count told top l = omega arith

kept_acked : (k : Keeps) (stream bytes : List ℕ) (top : ℕ) → k.kept ≡ drop k.base stream → k.base ≤ length stream
    → drop (top - k.base) (k.kept ++ bytes) ≡ drop (max k.base top) (stream ++ bytes)
kept_acked k stream bytes top e inside = let there : k.base + (top - k.base) ≡ max k.base top = omega arith in
    ap (λ l. drop (top - k.base) (l ++ bytes)) e ∙ ap (λ l. drop (top - k.base) l) (sym (drop_more k.base stream bytes inside))
    ∙ drop-drop (top - k.base) k.base (stream ++ bytes) ∙ grind (arith, there)

fed_there : (m attempt here : ℕ) (piece : List ℕ) → attempt ≡ here → (if attempt == m then piece else []) ≡ at here piece m
fed_there m attempt here piece same = rw same refl

waits_more : (w : Waiting) (new : List Packet) (before all : List Item) → before ++ waits w ≡ all
    → before ++ waits (record w { packets = w.packets ++ items_of new }) ≡ all ++ flat_map items_in new
waits_more w new before all e =
    ap (λ l. before ++ (map Byte w.part ++ l)) (items_more w.packets (items_of new) ∙ ap (λ l. flat_map items_in w.packets ++ l) (items_are new))
    ∙ grind (arith, append_assoc, e)

pub takes : (e n : End) (cs : List Call) (ps qs new : List Packet) (attempt len : ℕ) (piece : List ℕ) → Own e cs ps qs → is_open e.phase ≡ true → attempt ≡ e.attempt
    → e.received + length piece < 2 ^ 64 → Front packets 1 (e.held ++ piece) new 1 len → IsOpen packets 1 (drop len (e.held ++ piece))
    → top_of new ≤ e.keeps.base + e.keeps.sent → n ≡ fed_to e new (drop len (e.held ++ piece)) (e.received + length piece)
    → Stepped e n cs (Feed attempt piece (Ok tt)) ps qs
takes e n cs ps qs new attempt len piece o open_now same fits front unread top is =
    let c : Call = Feed attempt piece (Ok tt) in
    let count : ℕ = e.received + length piece in
    let owed : Bool = owes e new count in
    let b : Bool = tells e.keeps owed in
    let more : List Packet = ack_if b count in
    let bytes : List ℕ = stream_of packets more in
    let held : List ℕ = drop len (e.held ++ piece) in
    let stream : List ℕ = stream_of packets ps in
    let became : n ≡ record e {
      received = count;
      told = if b then count else e.told;
      keeps = acknowledged (put_bytes e.keeps bytes) (top_of new);
      held = held;
      waiting = record e.waiting { packets = e.waiting.packets ++ items_of new };
    } = is ∙ ap (λ (k : Keeps). record e {
      received = count;
      told = if b then count else e.told;
      keeps = acknowledged k (top_of new);
      held = held;
      waiting = record e.waiting { packets = e.waiting.packets ++ items_of new };
    }) (told_keeps e.keeps owed count) in
    let grows : stream_of packets (ps ++ more) ≡ stream ++ bytes = stream_of-append packets ps more in
    let came : stream_of packets (qs ++ new) ++ held ≡ (stream_of packets qs ++ e.held) ++ piece =
    ap (λ l. l ++ held) (stream_of-append packets qs new) ∙ append_assoc (stream_of packets qs) (stream_of packets new) held
    ∙ ap (λ l. stream_of packets qs ++ l) (sym front.splits.whole) ∙ sym (append_assoc (stream_of packets qs) e.held piece) in
    let long : length bytes ≡ (if b then 11 else 0) = ack_long b count in
    let acked : top_of more ≤ count = subst (λ k. k ≤ count) (sym (ack_top b count)) (ack_in b count) in
    subst (λ k. Stepped e k cs c ps qs) (sym became) (record {
      put_now = ps ++ more;
      taken_now = qs ++ new;
      extends = record { rest = new; is = refl };
      move = Takes piece bytes (top_of new) (if b then count else e.told) (top_of (ps ++ more));
      own = record {
        fit = fit_more ps more o.fit (ack_fit b count fits);
        kept = kept_acked e.keeps stream bytes (top_of new) o.kept (omega (arith, o.long)) ∙ ap (λ l. drop (max e.keeps.base (top_of new)) l) (sym grows);
        long = omega (
          arith,
          o.long,
          o.inside,
          top,
          (ap length grows),
          (length-append stream bytes),
          (length-append e.keeps.kept bytes),
          (length-drop (top_of new - e.keeps.base) (e.keeps.kept ++ bytes)),
        );
        inside = omega (arith, o.inside, top, (length-append e.keeps.kept bytes), (length-drop (top_of new - e.keeps.base) (e.keeps.kept ++ bytes)));
        counted = omega (
          arith,
          (ap length grows),
          (length-append stream bytes),
          long,
          o.long,
          o.counted,
          (ack_room e.keeps owed (omega (arith, o.long, o.counted))),
        );
        puts = without put_by cs c refl ∙ o.puts ∙ sym (items_more ps more ∙ ap (λ l. flat_map items_in ps ++ l) (ack_items b count) ∙ append-nil (flat_map items_in ps));
        top = omega (arith, o.top, acked, (top_more ps more));
        told = told_in b count e.told (omega (arith, o.told));
        taken_fit = fit_more qs new o.taken_fit front.splits.fit;
        came = omega (arith, o.came, (ap length came), (length-append (stream_of packets qs ++ e.held) piece));
        unread = unread;
        handed = waits_more e.waiting new (handed (cs ++ c ∷ [])) (flat_map items_in qs) (ap (λ l. l ++ waits e.waiting) (without handed_by cs c refl) ∙ o.handed) ∙ sym (items_more qs new);
        acked = omega (arith, o.acked, (top_more qs new));
        short = λ r. short_by (asks new) (nat_le 16384 (count - e.told)) (has_room e.keeps 11) count e.told refl (omega (arith, o.told))
            (room_left e.keeps bytes (top_of new) top o.inside r);
        fits = fits;
      };
      is = same_view _ _ (record {
        attempt = refl;
        phase = refl;
        known = refl;
        hello = refl;
        base = refl;
        given = omega (arith, top, o.inside);
        received = refl;
        told = refl;
        top = refl;
        stream = grows;
        came = came;
        went = λ m. without (out_by m) cs c refl;
        fed = λ m. with_last (fed_by m) cs c ∙ ap (λ l. fed m cs ++ l) (fed_there m attempt e.attempt piece same);
      });
      may = (open_now, omega (arith, (top_more qs new)), refl, λ theirs carried. rw (← same) carried);
      told = (told_by_top b count e.told (top_of (ps ++ more)) (omega (arith, (ack_top b count), (top_more ps more))), omega (arith, (top_more ps more)));
      role = refl;
      id = refl;
    })
