-- What a terminal's log says.
use Rattle.std.specs.Prelude.{List, [], ◌∷◌}
use Rattle.sam_term.specs.declared.event.UserEvent.{UserEvent}
use Rattle.sam_sides.specs.declared.log.TermLog.{TermLog}
use Rattle.sam_sides.specs.declared.log.TermLog.TheVariants as log

-- the user events of a log, in order
abbrev pub logged_users : List TermLog → List UserEvent
logged_users [] = []
logged_users (log.User e ∷ es) = e ∷ logged_users es
logged_users (log.Act ∷ es) = logged_users es
logged_users (log.Flush ∷ es) = logged_users es
logged_users (log.Take k ∷ es) = logged_users es
