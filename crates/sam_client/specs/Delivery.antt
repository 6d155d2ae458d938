-- What of the user's a client still has to give to the host.
use Rattle.std.specs.Prelude.{◌≡◌, ℕ, ◌^◌, Bool, true, ◌||◌, [], None}
use Rattle.sam_endpoint.specs.TermEndpoints.{IsIdle}
use Rattle.sam_line.specs.Line as lines
use Rattle.sam_overlay.specs.Calls.{has_edit_at}
use Rattle.sam_overlay.specs.Outcomes.{NoneWaits}
use Rattle.sam_overlay.specs.declared.ordered.OrderedOverlay.{OrderedOverlay}
use Rattle.sam_term.specs.Term.{is_changed}
use Rattle.sam_client.specs.declared.client.Client.{Client}

-- no request and no edit waits, no event is held, no rune that was typed is unsent, no frame waits to be answered, and all that was
-- composed was taken
pub record HasSent (o : OrderedOverlay) : Type 0 where
  pub asked : o.queue ≡ []
  pub put : NoneWaits o.overlay.layers 0 (2 ^ 16)
  pub acted : o.overlay.end.term.held ≡ []
  pub composed : o.overlay.end.term.unsent ≡ None
  pub idle : IsIdle o.overlay.end
  pub sent : o.overlay.end.pending_bytes ≡ []

-- and the host's end of the link has acknowledged it
pub record HasAll (c : Client) : Type 0 where
  pub sent : HasSent c.ordered
  pub acknowledged : lines.has_all c.line ≡ true

-- what is shown of the file may differ from what was written last: an edit waits over it, or its rasp may
abbrev pub is_unsaved : Client → ℕ → Bool
is_unsaved c f = has_edit_at c.ordered.overlay f || is_changed c.ordered.overlay.end.term f
