-- What of an end the laws of two ends speak of, and how calls change it.
use Rattle.std.proofs.Common.{◌≡◌, ℕ, ◌+◌, ◌<◌, ◌≤◌, ◌^◌, List, [], ◌++◌, length, take, drop, Bool, true}
use Rattle.std.specs.Prelude.{max, ◌==◌, if◌then◌else◌}
use Rattle.sam_frame.specs.Stream.{FitInTurn, IsOpen, stream_of}
use Rattle.sam_link.specs.Calls.{Call, fed, handed, items_in, out, put, waits}
use Rattle.sam_link.specs.End.{End}
use Rattle.sam_link.specs.Feeding.{has_room}
use Rattle.sam_link.specs.Hellos.{spelled}
use Rattle.sam_link.specs.Packets.{Packet, packets, top_of}
use Rattle.sam_link.specs.declared.hello.Hello.{Hello}
use Rattle.sam_link.specs.declared.phase.Phase.{Phase}
use Rattle.sam_link.specs.declared.phase.Phase.TheVariants.{Down, Asking, Open}
use Rattle.std.specs.List.{flat_map}

-- one end as the other sees it
pub record View : Type 0 where
  pub attempt : ℕ
  pub phase : Phase
  pub known : Bool
  pub hello : List ℕ
  pub base : ℕ
  pub given : ℕ  -- up to where this connection has been given the stream
  pub received : ℕ
  pub told : ℕ
  pub top : ℕ  -- the greatest count that it acknowledged
  pub stream : List ℕ
  pub came : List ℕ
  pub went : ℕ → List ℕ
  pub fed : ℕ → List ℕ

abbrev pub view : End → List Call → List Packet → List Packet → View
view e cs ps qs =
    record {
      attempt = e.attempt;
      phase = e.phase;
      known = e.is_known;
      hello = e.hello;
      base = e.keeps.base;
      given = e.keeps.base + e.keeps.sent;
      received = e.received;
      told = e.told;
      top = top_of ps;
      stream = stream_of packets ps;
      came = stream_of packets qs ++ e.held;
      went = λ m. out m cs;
      fed = λ m. fed m cs;
    }

-- what one end knows of itself: it put the packets ps, and took the packets qs
pub record Own (e : End) (cs : List Call) (ps qs : List Packet) : Type 0 where
  pub fit : FitInTurn packets 1 ps
  pub kept : e.keeps.kept ≡ drop e.keeps.base (stream_of packets ps)
  pub long : e.keeps.base + length e.keeps.kept ≡ length (stream_of packets ps)
  pub inside : e.keeps.sent ≤ length e.keeps.kept
  pub counted : length (stream_of packets ps) < 2 ^ 64
  pub puts : put cs ≡ flat_map items_in ps
  pub top : top_of ps ≤ e.received
  pub told : e.told ≤ e.received
  pub taken_fit : FitInTurn packets 1 qs
  pub came : e.received ≡ length (stream_of packets qs ++ e.held)
  pub unread : IsOpen packets 1 e.held
  pub handed : handed cs ++ waits e.waiting ≡ flat_map items_in qs
  pub acked : top_of qs ≤ e.keeps.base
  pub short : has_room e.keeps 11 ≡ true → e.received < e.told + 16384
  pub fits : e.received < 2 ^ 64

-- ## What a call does to a view

abbrev pub at : ℕ → List ℕ → ℕ → List ℕ
at n bytes m = if n == m then bytes else []

pub data Move : Type 0 where
  Stays : Move
  Adds : List ℕ → ℕ → ℕ → Move
  Breaks : Move
  Goes : ℕ → ℕ → Move
  Takes : List ℕ → List ℕ → ℕ → ℕ → ℕ → Move
  Dials : Hello → Move
  Answers : Hello → Hello → Move
  IsWelcomed : Hello → Move

abbrev pub goes_on : View → ℕ → ℕ → List ℕ
goes_on v a b = take a v.hello ++ take b (drop v.given v.stream)

abbrev pub moved : View → Move → View
moved v Stays = v
moved v (Adds more told top) = record v { stream = v.stream ++ more; told = told; top = top }
moved v Breaks = record v { phase = Down; hello = [] }
moved v (Goes a b) = record v { hello = drop a v.hello; given = v.given + b; went = λ m. v.went m ++ at v.attempt (goes_on v a b) m }
moved v (Takes piece more acked told top) =
    record v {
      received = v.received + length piece;
      came = v.came ++ piece;
      fed = λ m. v.fed m ++ at v.attempt piece m;
      base = max v.base acked;
      stream = v.stream ++ more;
      told = told;
      top = top;
    }
moved v (Dials g) = record v { attempt = v.attempt + 1; phase = Asking; hello = spelled g; given = v.base; told = v.received }
moved v (Answers g w) =
    record v { attempt = g.attempt; phase = Open; known = true; hello = spelled w; base = g.received; given = g.received; told = v.received }
moved v (IsWelcomed w) =
    record v {
      phase = Open;
      known = true;
      base = if v.attempt == 1 then v.base else w.received;
      given = if v.attempt == 1 then v.given else w.received;
    }
