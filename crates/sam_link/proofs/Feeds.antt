-- A piece has one answer, but for memory.
use Rattle.std.proofs.Common.{◌≡◌, ℕ, List, ◌++◌, length, drop, Ok, Err, None, Some, Option, refl, sym, subst, ap, ◌∙◌, arith, true≢false}
use Rattle.sam_mesg.specs.declared.fault.MesgFault.{MesgFault}
use Rattle.sam_frame.specs.Splitting.{Ends, Front}
use Rattle.sam_frame.specs.Stream.{stream_of}
use Rattle.sam_frame.proofs.Unique.{one_split}
use Rattle.sam_link.specs.Feeding.{OneFeed, fed}
use Rattle.sam_link.specs.Packets.{Packet, mesg_fault, packets, top_of}
use Rattle.sam_link.specs.declared.fault.FeedFault.TheVariants.{NotOpen, CountFull, OutOfMemory, Wrong, AckAhead}
use Rattle.sam_link.specs.declared.reading.PacketFault.{PacketFault}
use Rattle.sam_link.specs.declared.reading.PacketFault.TheVariants.{BadKind, BadLength}
use Rattle.sam_link.proofs.PacketLaws.{packets_sound}
use Rattle.sam_link.proofs.Packing.{same_version}

-- what was read up to its end, or up to a fault
record Read (bytes : List ℕ) (ps : List Packet) (len : ℕ) (fault : Option MesgFault) : Type 0 where
  front : Front packets 1 bytes ps 1 len
  ends : Ends packets 1 (drop len bytes) fault

one_read : (bytes : List ℕ) (ps qs : List Packet) (len more : ℕ) (a b : Option MesgFault) → Read bytes ps len a → Read bytes qs more b
    → (ps ≡ qs) × (len ≡ more) × (a ≡ b)
one_read bytes ps qs len more a b r s =
    let both = one_split packets packets_sound 1 bytes ps qs (drop len bytes) (drop more bytes) a b r.front.splits
    (subst (λ v. Ends packets v (drop len bytes) a) (sym (same_version ps)) r.ends) s.front.splits
    (subst (λ v. Ends packets v (drop more bytes) b) (sym (same_version qs)) s.ends) in
    (both.0, r.front.len_is ∙ ap (λ ps. length (stream_of packets ps)) both.0 ∙ sym s.front.len_is, both.2)

one_fault : (a b : PacketFault) → mesg_fault a ≡ mesg_fault b → a ≡ b
one_fault BadKind BadKind e = refl
one_fault BadLength BadLength e = refl
one_fault BadKind BadLength e = cc
one_fault BadLength BadKind e = cc

some_fault : (a b : PacketFault) → Some (mesg_fault a) ≡ Some (mesg_fault b) → mesg_fault a ≡ mesg_fault b
some_fault a b e = cc

none_wrong : (a : PacketFault) → None ≡ Some (mesg_fault a) → ⊥
none_wrong a e = cc

pub one_feed : OneFeed
one_feed e attempt piece (Err OutOfMemory) b n m c d some other = absurd (some refl)
one_feed e attempt piece a (Err OutOfMemory) n m c d some other = absurd (other refl)
one_feed e attempt piece (Ok x) (Ok y) n m (ps, len, may, front, unread, top, is) (qs, more, may2, front2, unread2, top2, is2) some other =
    let both = one_read (e.held ++ piece) ps qs len more None None (record { front = front; ends = unread }) (record { front = front2; ends = unread2 }) in
    (refl, is ∙ ap (λ ps. fed e piece ps len) both.0 ∙ ap (λ k. fed e piece qs k) both.1 ∙ sym is2)
one_feed e attempt piece (Ok x) (Err (Wrong why)) n m (ps, len, may, front, unread, top, is) (qs, more, may2, front2, shows, is2) some other =
    absurd (none_wrong why (one_read (e.held ++ piece) ps qs len more None (Some (mesg_fault why)) (record { front = front; ends = unread }) (record { front = front2; ends = shows })).2)
one_feed e attempt piece (Ok x) (Err AckAhead) n m (ps, len, may, front, unread, top, is) (qs, more, may2, front2, unread2, ahead, is2) some other =
    let both = one_read (e.held ++ piece) ps qs len more None None (record { front = front; ends = unread }) (record { front = front2; ends = unread2 }) in
    absurd (omega (arith, top, ahead, (ap top_of both.0)))
one_feed e attempt piece (Ok x) (Err NotOpen) n m (ps, len, may, front, unread, top, is) d some other = absurd (true≢false (sym may.0 ∙ d.0))
one_feed e attempt piece (Ok x) (Err CountFull) n m (ps, len, may, front, unread, top, is) d some other = absurd (omega (arith, may.1, d.1))
one_feed e attempt piece (Err (Wrong why)) (Ok y) n m (ps, len, may, front, shows, is) (qs, more, may2, front2, unread, top, is2) some other =
    absurd (none_wrong why (sym (one_read (e.held ++ piece) ps qs len more (Some (mesg_fault why)) None (record { front = front; ends = shows }) (record { front = front2; ends = unread })).2))
one_feed e attempt piece (Err (Wrong why)) (Err (Wrong what)) n m (ps, len, may, front, shows, is) (qs, more, may2, front2, shows2, is2) some other =
    let both = one_read (e.held ++ piece) ps qs len more (Some (mesg_fault why)) (Some (mesg_fault what)) (record { front = front; ends = shows }) (record { front = front2; ends = shows2 }) in
    (ap (λ f. Err (Wrong f)) (one_fault why what (some_fault why what both.2)), is ∙ sym is2)
one_feed e attempt piece (Err (Wrong why)) (Err AckAhead) n m (ps, len, may, front, shows, is) (qs, more, may2, front2, unread, ahead, is2) some other =
    absurd (none_wrong why (sym (one_read (e.held ++ piece) ps qs len more (Some (mesg_fault why)) None (record { front = front; ends = shows }) (record { front = front2; ends = unread })).2))
one_feed e attempt piece (Err (Wrong why)) (Err NotOpen) n m (ps, len, may, front, shows, is) d some other = absurd (true≢false (sym may.0 ∙ d.0))
one_feed e attempt piece (Err (Wrong why)) (Err CountFull) n m (ps, len, may, front, shows, is) d some other = absurd (omega (arith, may.1, d.1))
one_feed e attempt piece (Err AckAhead) (Ok y) n m (ps, len, may, front, unread, ahead, is) (qs, more, may2, front2, unread2, top, is2) some other =
    let both = one_read (e.held ++ piece) ps qs len more None None (record { front = front; ends = unread }) (record { front = front2; ends = unread2 }) in
    absurd (omega (arith, top, ahead, (ap top_of both.0)))
one_feed e attempt piece (Err AckAhead) (Err (Wrong why)) n m (ps, len, may, front, unread, ahead, is) (qs, more, may2, front2, shows, is2) some other =
    absurd (none_wrong why (one_read (e.held ++ piece) ps qs len more None (Some (mesg_fault why)) (record { front = front; ends = unread }) (record { front = front2; ends = shows })).2)
one_feed e attempt piece (Err AckAhead) (Err AckAhead) n m (ps, len, may, front, unread, ahead, is) (qs, more, may2, front2, unread2, ahead2, is2) some other = (refl, is ∙ sym is2)
one_feed e attempt piece (Err AckAhead) (Err NotOpen) n m (ps, len, may, front, unread, ahead, is) d some other = absurd (true≢false (sym may.0 ∙ d.0))
one_feed e attempt piece (Err AckAhead) (Err CountFull) n m (ps, len, may, front, unread, ahead, is) d some other = absurd (omega (arith, may.1, d.1))
one_feed e attempt piece (Err NotOpen) (Ok y) n m c (qs, more, may, front, unread, top, is) some other = absurd (true≢false (sym may.0 ∙ c.0))
one_feed e attempt piece (Err NotOpen) (Err (Wrong why)) n m c (qs, more, may, front, shows, is) some other = absurd (true≢false (sym may.0 ∙ c.0))
one_feed e attempt piece (Err NotOpen) (Err AckAhead) n m c (qs, more, may, front, unread, ahead, is) some other = absurd (true≢false (sym may.0 ∙ c.0))
one_feed e attempt piece (Err NotOpen) (Err NotOpen) n m c d some other = (refl, c.1 ∙ sym d.1)
one_feed e attempt piece (Err NotOpen) (Err CountFull) n m c d some other = absurd (true≢false (sym d.0 ∙ c.0))
one_feed e attempt piece (Err CountFull) (Ok y) n m c (qs, more, may, front, unread, top, is) some other = absurd (omega (arith, may.1, c.1))
one_feed e attempt piece (Err CountFull) (Err (Wrong why)) n m c (qs, more, may, front, shows, is) some other = absurd (omega (arith, may.1, c.1))
one_feed e attempt piece (Err CountFull) (Err AckAhead) n m c (qs, more, may, front, unread, ahead, is) some other = absurd (omega (arith, may.1, c.1))
one_feed e attempt piece (Err CountFull) (Err NotOpen) n m c d some other = absurd (true≢false (sym c.0 ∙ d.0))
one_feed e attempt piece (Err CountFull) (Err CountFull) n m c d some other = (refl, c.2 ∙ sym d.2)
