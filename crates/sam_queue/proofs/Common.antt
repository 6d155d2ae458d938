-- What the proofs of this crate cite most from its definitions and from the crates below.
pub use Rattle.std.proofs.Common.{All, Bool, List, None, Option, Some, Vec, [], ap, append-nil, append_assoc, arith, cond, eq-eqb, eqb, false, filter_map, get_or-set_other, get_or-set_same, inl, inr, length, length-append, length-set, map, ne_eqb, refl, rules, set, slice_get, subst, suc, sym, true, vec_capacity, vec_len, zero, ℕ, ⊎_elim, ◌++◌, ◌+◌, ◌<◌, ◌||◌, ◌∙◌, ◌∷◌, ◌≡◌, ◌≢◌, ◌≤◌, ◌⊎◌}
pub use Rattle.std.proofs.lemmas.Bool.Decides.{eqb_tells}
pub use Rattle.std.proofs.lemmas.List.{length-map, nil_from_length}
pub use Rattle.std.proofs.lemmas.List.Elements.{All-cons, All-contains, All-head, All-nil, All-push, All-tail, All-weaker, Contains-append_right, filter_map-append}
pub use Rattle.std.proofs.lemmas.Option.{slice_get_read, slice_get_within}
pub use Rattle.std.specs.Global.{Global}
pub use Rattle.std.specs.Vec.Iter.{into_iter_items}
pub use Rattle.crossbeam_queue.specs.Fifo.{Forks, Held, Learns, Merges, Pops, Pushes}
pub use Rattle.crossbeam_queue.specs.Passes.{IsSamePass, view}
pub use Rattle.sam_queue.specs.Audits.{Accounted, AllAccounted, ArePostsOf, HasHistory}
pub use Rattle.sam_queue.specs.History.{IsEnded, StartsWith, all_of, has_left, has_mark, items_of, loads}
pub use Rattle.sam_queue.specs.Marks.{Marks}
pub use Rattle.sam_queue.specs.Ports.{HasAllPosts, HasNoPosts, IsRest, maker, post_in, received_of, seen_in, sent_of, take_in, taken_in, took_all, with_posts}
pub use Rattle.sam_queue.specs.Rule.{Fits, FitsTake, Fresh, Ruled, Stands, State, Takes, Tells, Whole, closed_with, first_port, next_post, put_with, received_with, with_entry, with_made, with_post, with_sender}
pub use Rattle.sam_queue.specs.Sorts.{IsRoom, IsSorted, IsSortedInto}
pub use Rattle.sam_queue.specs.Views.{CanBeFull, LineSizes, LineView, PostView, TakeView, new_post}
pub use Rattle.sam_queue.specs.declared.rule.Entry.{Entry}
pub use Rattle.sam_queue.specs.declared.rule.Port.{Port}
pub use Rattle.sam_queue.specs.declared.rule.Port.TheVariants.{Receives, Sends, Spent}
pub use Rattle.sam_queue.specs.declared.rule.Received.{Received}
pub use Rattle.sam_queue.specs.declared.rule.Sent.{Sent}
pub use lib.ListN.{get_elem?}
pub use mathlib.Core.Option.{some, some-injective, some-ne-none}
