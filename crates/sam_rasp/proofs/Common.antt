-- What the proofs of this crate cite most from its definitions and from the crates below.
pub use Rattle.std.proofs.Common.{Bool, List, None, Option, Some, [], ap, append-nil, append_assoc, arith, drop, drop-drop, drop_at, false, get_or, inl, inr, insert, length, length-append, length-drop, length-set, length-take, map, max, min, option_map, refl, replicate, reverse, rules, set, slice_get, subst, suc, sym, take, take-append-drop, take-take, true, zero, ℕ, ◌++◌, ◌+◌, ◌-◌, ◌<◌, ◌↔◌, ◌∙◌, ◌∷◌, ◌≡◌, ◌≤◌, ◌⊎◌}
pub use Rattle.std.proofs.lemmas.Grind.{common_steps}
pub use Rattle.std.proofs.lemmas.List.{drop-append-le, drop-map, drop-replicate, drop-take, drop_all, length-map, length-replicate, length-reverse, map-append, replicate-append-replicate, replicate_more, reverse-append, reverse-reverse, take-append-le, take-map, take-replicate}
pub use Rattle.std.proofs.lemmas.List.Concat.{flat_map-append}
pub use Rattle.std.specs.List.{prefix_len}
pub use Rattle.sam_rasp.specs.Rasp.{Agrees, PartialText, del_cells, first_gaps, gaps_in_front, has_rune, hole_within, ins_cells, is_sort, load_cells, run_of}
pub use Rattle.sam_rasp.specs.Rows.{NoneEmpty, gaps_of, members_of, most_kept}
pub use Rattle.sam_rasp.specs.Sections.{IsFilled, IsNormal, StaysApart, cells, cells_of, is_loaded, size}
pub use Rattle.sam_rasp.specs.declared.section.Section.{Section}
pub use Rattle.sam_rasp.specs.declared.section.Section.TheVariants.{Hole, Loaded}
pub use Rattle.sam_runes.specs.Texts.{del, ins, most_in_message, part}
