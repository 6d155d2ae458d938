-- What a handle owns.
use Rattle.std.specs.Prelude.{ℕ, None, Option, Some}
use mir.Syntax.{Ty}
use base.Fml.{Fml, ftrue}
use denote.RattleType.{RattleType}
use denote.RawPtr.{Ptr}
use Rattle.std.specs.Box.Ownership.{box_owns}
use Rattle.std.specs.Coded.{Coded, coded_option}
use Rattle.std.specs.Global.{Global}
use Rattle.std_heap.specs.contracts.GlobalAllocator.TheImpl.{ghosts}
use Rattle.sam_endpoint.specs.contracts.host_endpoint.HostEndpoint.{the_row as HostEndpoint}
use Rattle.sam_endpoint.specs.contracts.term_endpoint.TermEndpoint.{the_row as TermEndpoint}
use Rattle.sam_line.specs.contracts.line.Line.{the_row as Line}
use Rattle.sam_link.specs.contracts.link.Link.{the_row as Link}
use Rattle.sam_shown.specs.contracts.shown_end.ShownEnd.{the_row as ShownEnd}

-- what a box of this value owns, its token being the right to free the block; nothing where there is no value
abbrev pub holds : (Ty → Ptr → Fml) → (R : RattleType) → Ptr → Option R.Denot → Fml
holds token R at None = ftrue
holds token R at (Some value) = box_owns token R at value

-- the same of an end in C's heap
abbrev pub holds_host : Global → Ptr → Option HostEndpoint.Denot → Fml
holds_host alloc = holds (ghosts.dealloc_token alloc) HostEndpoint

abbrev pub holds_term : Global → Ptr → Option TermEndpoint.Denot → Fml
holds_term alloc = holds (ghosts.dealloc_token alloc) TermEndpoint

abbrev pub holds_link : Global → Ptr → Option Link.Denot → Fml
holds_link alloc = holds (ghosts.dealloc_token alloc) Link

abbrev pub holds_line : Global → Ptr → Option Line.Denot → Fml
holds_line alloc = holds (ghosts.dealloc_token alloc) Line

abbrev pub holds_overlay : Global → Ptr → Option ShownEnd.Denot → Fml
holds_overlay alloc = holds (ghosts.dealloc_token alloc) ShownEnd

abbrev pub held_host_coded : Coded (Option HostEndpoint.Denot)
held_host_coded = coded_option HostEndpoint.coded

abbrev pub held_term_coded : Coded (Option TermEndpoint.Denot)
held_term_coded = coded_option TermEndpoint.coded

abbrev pub held_link_coded : Coded (Option Link.Denot)
held_link_coded = coded_option Link.coded

abbrev pub held_line_coded : Coded (Option Line.Denot)
held_line_coded = coded_option Line.coded

abbrev pub held_overlay_coded : Coded (Option ShownEnd.Denot)
held_overlay_coded = coded_option ShownEnd.coded

-- "sam host", "sam term", "sam link", "sam line" and "sam over", the first letter in the highest byte
abbrev pub host_mark : ℕ
host_mark = 8314046373061161844

abbrev pub term_mark : ℕ
term_mark = 8314046373261832813

abbrev pub link_mark : ℕ
link_mark = 8314046373127876203

abbrev pub line_mark : ℕ
line_mark = 8314046373127876197

abbrev pub overlay_mark : ℕ
overlay_mark = 8314046373179057522
