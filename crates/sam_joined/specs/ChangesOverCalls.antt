-- What changed in a text of a terminal endpoint between two times that this was asked.
use Rattle.std.specs.Prelude.{◌≡◌, ◌≢◌, ◌⊎◌, ℕ, List, [], ◌∷◌, length, Some, Ok}
use Rattle.std.specs.declared.alloc.AllocError.{AllocError}
use Rattle.sam_rasp.specs.Rasp.{PartialText}
use Rattle.sam_term.specs.Sound.{IsSound}
use Rattle.sam_term.specs.Term.{rasp_at}
use Rattle.sam_endpoint.specs.Changes.{IsChange, IsKept, asked, kept_at}
use Rattle.sam_endpoint.specs.TermEndpoints.{PlainTermEndpoint, Asks, new_term_endpoint}
use Rattle.sam_endpoint.specs.TermRuns.{Call, Runs, Stops}
use Rattle.sam_endpoint.specs.TermRuns as run
use Rattle.sam_endpoint.specs.declared.changes.Change.{Change}
use Rattle.sam_endpoint.specs.declared.fault.TermStop.{TermStop}

-- the call leads from one end to the other, and perhaps stops it
abbrev pub Does : PlainTermEndpoint → Call → PlainTermEndpoint → Type 0
Does e made g = Runs e (made ∷ []) g ⊎ ((why : TermStop) × Stops e made why g)

-- these calls lead from one end to the other, each allowed where it is made
abbrev pub DoAll : (PlainTermEndpoint → Call → Type 0) → PlainTermEndpoint → List Call → PlainTermEndpoint → Type 0
DoAll Allowed e [] g = g ≡ e
DoAll Allowed e (made ∷ calls) g = (k : PlainTermEndpoint) × Allowed e made × Does e made k × DoAll Allowed k calls g

abbrev pub Any : PlainTermEndpoint → Call → Type 0
Any e made = Unit {0}

-- the call hands out no change of the file f: if it asks what changed, nothing is handed out, or the change of another file
abbrev pub Spares : ℕ → PlainTermEndpoint → Call → Type 0
Spares f e (run.Changed kept) = (kept ≡ e.kept) ⊎ ((g : ℕ) × (g ≢ f) × (kept ≡ asked e.kept g (length (rasp_at e.term g))))
Spares f e (run.Feed piece answer) = Unit {0}
Spares f e (run.Bring piece result) = Unit {0}
Spares f e (run.BringEvent event result) = Unit {0}
Spares f e (run.MakeStep result) = Unit {0}
Spares f e (run.Put event answer) = Unit {0}
Spares f e (run.Flush answer) = Unit {0}
Spares f e (run.TakeOut bytes) = Unit {0}
Spares f e (run.NextRefusal told) = Unit {0}

-- ## The laws

-- whatever the calls were, the terminal is sound
abbrev pub TerminalsStaySound : Type 0
TerminalsStaySound = (calls : List Call) (e : PlainTermEndpoint) → DoAll Any new_term_endpoint calls e → IsSound e.term

-- what is kept of a text stays kept over all calls but those that hand out its change
abbrev pub CallsKeep : Type 0
CallsKeep =
    (old : PartialText) (f : ℕ) (calls : List Call) (e g : PlainTermEndpoint) → IsSound e.term → DoAll (Spares f) e calls g
    → IsKept old (rasp_at e.term f) (kept_at e.kept f) → IsKept old (rasp_at g.term f) (kept_at g.kept f)

-- between two times that it is asked of a text what changed, it changed by just what the second answer says
abbrev pub ChangesAreExact : Type 0
ChangesAreExact =
    (f : ℕ) (before between : List Call) (e a b g : PlainTermEndpoint) (first second : Change)
    → DoAll Any new_term_endpoint before e → Asks {E = AllocError} e f (Ok (Some first)) a
    → DoAll (Spares f) a between b → Asks {E = AllocError} b f (Ok (Some second)) g
    → IsChange (rasp_at e.term f) (rasp_at b.term f) second

-- and the first answer says by what it differs from an empty text
abbrev pub FirstChangeIsExact : Type 0
FirstChangeIsExact =
    (f : ℕ) (before : List Call) (b g : PlainTermEndpoint) (first : Change)
    → DoAll (Spares f) new_term_endpoint before b → Asks {E = AllocError} b f (Ok (Some first)) g
    → IsChange [] (rasp_at b.term f) first
