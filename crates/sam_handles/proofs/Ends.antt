-- The ends as what a box in C's heap holds, and each handle beside the parts of such a box.
use denote.Param.Laws.{Laws}
use mir.Syntax.{dnil, impl, tnil}
use Rattle.std_heap.specs.contracts.Global as Heap
use Rattle.std_heap.specs.contracts.GlobalAllocator.TheImpl.{dict, ghosts}
use Rattle.std_heap.proofs.Global.TheLaws as heap
use Rattle.sam_endpoint.specs.contracts.host_endpoint.HostEndpoint.{the_row as HostEndpoint}
use Rattle.sam_endpoint.proofs.host_endpoint.HostEndpoint.TheLaws.{the_row_laws as host_endpoint}
use Rattle.sam_endpoint.specs.contracts.term_endpoint.TermEndpoint.{the_row as TermEndpoint}
use Rattle.sam_endpoint.proofs.term_endpoint.TermEndpoint.TheLaws.{the_row_laws as term_endpoint}
use Rattle.sam_line.specs.contracts.line.Line.{the_row as Line}
use Rattle.sam_line.proofs.line.Line.TheLaws.{the_row_laws as line}
use Rattle.sam_link.specs.contracts.link.Link.{the_row as Link}
use Rattle.sam_link.proofs.link.Link.TheLaws.{the_row_laws as link}
use Rattle.sam_shown.specs.contracts.shown_end.ShownEnd.{the_row as ShownEnd}
use Rattle.sam_shown.proofs.shown_end.ShownEnd.TheLaws.{the_row_laws as shown_end}
use Rattle.sam_handles.proofs.Walks.{[], Bx, RattleType, Slot, plain}
use Rattle.sam_handles.specs.contracts.handle.HeldHost as HeldHost
use Rattle.sam_handles.specs.contracts.handle.HeldLine as HeldLine
use Rattle.sam_handles.specs.contracts.handle.HeldLink as HeldLink
use Rattle.sam_handles.specs.contracts.handle.HeldOverlay as HeldOverlay
use Rattle.sam_handles.specs.contracts.handle.HeldTerm as HeldTerm
use Rattle.sam_handles.specs.contracts.parts.Parts as Parts

abbrev pub boxed : (end : RattleType) → Laws end → Bx
boxed end laws = record { row = end; laws = laws; al = record { row = Heap.the_row; laws = heap.the_row_laws; g = ghosts; d = dict; drops = impl [] tnil dnil } }

abbrev pub HostBox : Bx
HostBox = boxed HostEndpoint host_endpoint

abbrev pub HostParts : Slot 0
HostParts = plain (λ _. Parts.the_row HostEndpoint Heap.the_row ghosts)

abbrev pub HeldHosts : Slot 0
HeldHosts = plain (λ _. HeldHost.the_row)

abbrev pub TermBox : Bx
TermBox = boxed TermEndpoint term_endpoint

abbrev pub TermParts : Slot 0
TermParts = plain (λ _. Parts.the_row TermEndpoint Heap.the_row ghosts)

abbrev pub HeldTerms : Slot 0
HeldTerms = plain (λ _. HeldTerm.the_row)

abbrev pub LinkBox : Bx
LinkBox = boxed Link link

abbrev pub LinkParts : Slot 0
LinkParts = plain (λ _. Parts.the_row Link Heap.the_row ghosts)

abbrev pub HeldLinks : Slot 0
HeldLinks = plain (λ _. HeldLink.the_row)

abbrev pub LineBox : Bx
LineBox = boxed Line line

abbrev pub LineParts : Slot 0
LineParts = plain (λ _. Parts.the_row Line Heap.the_row ghosts)

abbrev pub HeldLines : Slot 0
HeldLines = plain (λ _. HeldLine.the_row)

abbrev pub OverlayBox : Bx
OverlayBox = boxed ShownEnd shown_end

abbrev pub OverlayParts : Slot 0
OverlayParts = plain (λ _. Parts.the_row ShownEnd Heap.the_row ghosts)

abbrev pub HeldOverlays : Slot 0
HeldOverlays = plain (λ _. HeldOverlay.the_row)
