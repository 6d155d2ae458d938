use Rattle.sam_queue.proofs.Common.{◌≡◌, [], ◌∷◌, ◌++◌, length, sym, refl, ◌∙◌, append_assoc, append-nil, arith, length-set, into_iter_items, items_of, slice_get_read, nil_from_length}
use Rattle.sam_queue.proofs.Sorts.{room_left, sender_within, sorted_item, sorted_mark}
use Rattle.sam_queue.proofs.auditing.sort_out.Goals as goal

pub push_reserved-requires : goal.push_reserved-requires
push_reserved-requires g c =
    let inv = c.loop-entry.invariant in
    let before = c.loop-entry.yielded in
    let e = c.in-Some.entry in
    let split = (λ k. before ++ sym c.in-Some.ensures.steps.0 k) ∙ inv.all in
    let within = sender_within (length c.args.left.now.items) before (into_iter_items c.next.new.self) c.args.entries.items e c.requires.senders split in
    let here = slice_get_read c.loop-entry.left.items _ e.sender c.index_mut.result.now refl (omega (arith, inv.many, within)) c.index_mut.ensures.value in
    let room = room_left (length c.args.entries.items) e.sender before (into_iter_items c.next.new.self) c.args.entries.items e
    c.loop-entry.left.items c.index_mut.result.now inv.sorted here split refl in
    omega (arith, room, c.index_mut.result.now.ok.0)

pub loop-entry-preserved-in-Some-load : goal.loop-entry-preserved-in-Some-load
loop-entry-preserved-in-Some-load g c =
    let inv = c.loop-entry.invariant in
    let before = c.loop-entry.yielded in
    let e = c.in-Some.entry in
    let split = (λ k. before ++ sym c.in-Some.ensures.steps.0 k) ∙ inv.all in
    let within = sender_within (length c.args.left.now.items) before (into_iter_items c.next.new.self) c.args.entries.items e c.requires.senders split in
    let here = slice_get_read c.loop-entry.left.items _ e.sender c.index_mut.result.now refl (omega (arith, inv.many, within)) c.index_mut.ensures.value in
    record {
      goes_on = (tt, tt);
      all = append_assoc before (e ∷ []) (into_iter_items c.next.new.self) ∙ split;
      many = length-set c.loop-entry.left.items e.sender c.push_reserved.new.self ∙ inv.many;
      sorted = sorted_item (length c.args.entries.items) before c.loop-entry.left.items e c.in-Some-load.item
          c.index_mut.result.now c.push_reserved.new.self inv.sorted c.in-Some-load.is here c.push_reserved.ensures.items c.push_reserved.ensures.capacity;
    }

pub loop-entry-preserved : goal.loop-entry-preserved
loop-entry-preserved g c =
    let before = c.loop-entry.yielded in
    let split = (λ k. before ++ sym c.in-Some.ensures.steps.0 k) ∙ c.loop-entry.invariant.all in
    record {
      goes_on = (tt, tt);
      all = append_assoc before (c.in-Some.entry ∷ []) (into_iter_items c.next.new.self) ∙ split;
      many = c.loop-entry.invariant.many;
      sorted = sorted_mark (length c.args.entries.items) before c.loop-entry.left.items c.in-Some.entry c.loop-entry.invariant.sorted c.in_default.is;
    }

pub returns-clause-sorted : goal.returns-clause-sorted
returns-clause-sorted g c =
    let inv = c.loop-entry.invariant in
    let it = c.loop-entry.entry-iterator in
    let done : into_iter_items it ≡ [] = nil_from_length (into_iter_items it) (omega (arith, c.in-None.ensures.steps.0, it.rest.ok)) in
    let all : c.loop-entry.yielded ≡ c.args.entries.items = sym (append-nil c.loop-entry.yielded) ∙ (λ k. c.loop-entry.yielded ++ sym done k) ∙ inv.all in
    λ k v is. (inv.sorted k v is).0 ∙ (λ i. items_of k (all i))
