-- What a frame of the host does at one file, and which frames go with a change of version.
use Rattle.std.specs.Prelude.{◌≡◌, ℕ, Bool, true, false, ◌||◌, if◌then◌else◌, ◌==◌, List, [], ◌∷◌, map}
use Rattle.sam_runes.specs.Texts.{common_version}
use Rattle.sam_mesg.specs.declared.hmesg.Hmesg.{Hmesg}
use Rattle.sam_mesg.specs.declared.hmesg.Hmesg.TheVariants.{Hversion, Hbindname, Hcurrent, Hnewname, Hmovname, Hgrow, Hcheck, Hunlock, Hdata, Horigin, Hunlockfile, Hsetdot, Hgrowdata, Hmoveto, Hclean, Hdirty, Hcut, Hsetpat, Hdelname, Hclose, Hsetsnarf, Hsnarflen, Hack, Hexit}
use Rattle.sam_crossing.specs.Lens.{Action, Skip, Needs_known, Needs_open, Join, Bind, Close, Leave, Grow, Fill, Insert, Cut, Place, Change, Free_file, Free_command, Exit}

abbrev pub only : Bool → Action → Action
only true a = a
only false a = Skip

-- what the frame does at file g. A version 0 changes nothing
abbrev pub action : ℕ → Hmesg → Action
action g (Hversion v) = if v == 0 then Skip else Change (common_version v)
action g (Hbindname f) = only (g == f) Bind
action g (Hcurrent f) = only (g == f) Needs_known
action g (Hnewname f) = only (g == f) Join
action g (Hmovname f s) = only (g == f) Needs_known
action g (Hgrow f p n) = only (g == f) (Grow p n)
action g (Hcheck f) = only (g == f) Needs_open
action g Hunlock = Free_command
action g (Hdata f p s) = only (g == f) (Fill p s)
action g (Horigin f p) = only (g == f) (Place p p)
action g (Hunlockfile f) = only (g == f) Free_file
action g (Hsetdot f p q) = only (g == f) (Place p q)
action g (Hgrowdata f p s) = only (g == f) (Insert p s)
action g (Hmoveto f p) = only (g == f) (Place p p)
action g (Hclean f) = only (g == f) Needs_known
action g (Hdirty f) = only (g == f) Needs_known
action g (Hcut f p n) = only (g == f) (Cut p n)
action g (Hsetpat s) = Skip
action g (Hdelname f) = only (g == f) Leave
action g (Hclose f) = only (g == f) Close
action g (Hsetsnarf s) = Skip
action g (Hsnarflen n) = Skip
action g Hack = Skip
action g Hexit = Exit

abbrev pub at_file : ℕ → List Hmesg → List Action
at_file g frames = map (action g) frames

abbrev pub is_unlock : Hmesg → Bool
is_unlock (Hversion v) = false
is_unlock (Hbindname f) = false
is_unlock (Hcurrent f) = false
is_unlock (Hnewname f) = false
is_unlock (Hmovname f s) = false
is_unlock (Hgrow f p n) = false
is_unlock (Hcheck f) = false
is_unlock Hunlock = true
is_unlock (Hdata f p s) = false
is_unlock (Horigin f p) = false
is_unlock (Hunlockfile f) = false
is_unlock (Hsetdot f p q) = false
is_unlock (Hgrowdata f p s) = false
is_unlock (Hmoveto f p) = false
is_unlock (Hclean f) = false
is_unlock (Hdirty f) = false
is_unlock (Hcut f p n) = false
is_unlock (Hsetpat s) = false
is_unlock (Hdelname f) = false
is_unlock (Hclose f) = false
is_unlock (Hsetsnarf s) = false
is_unlock (Hsnarflen n) = false
is_unlock Hack = false
is_unlock Hexit = false

abbrev pub unlocks_command : List Hmesg → Bool
unlocks_command [] = false
unlocks_command (m ∷ ms) = is_unlock m || unlocks_command ms

abbrev pub is_version : Hmesg → Bool
is_version (Hversion v) = true
is_version (Hbindname f) = false
is_version (Hcurrent f) = false
is_version (Hnewname f) = false
is_version (Hmovname f s) = false
is_version (Hgrow f p n) = false
is_version (Hcheck f) = false
is_version Hunlock = false
is_version (Hdata f p s) = false
is_version (Horigin f p) = false
is_version (Hunlockfile f) = false
is_version (Hsetdot f p q) = false
is_version (Hgrowdata f p s) = false
is_version (Hmoveto f p) = false
is_version (Hclean f) = false
is_version (Hdirty f) = false
is_version (Hcut f p n) = false
is_version (Hsetpat s) = false
is_version (Hdelname f) = false
is_version (Hclose f) = false
is_version (Hsetsnarf s) = false
is_version (Hsnarflen n) = false
is_version Hack = false
is_version Hexit = false

-- after each Hversion stands an Hunlock
abbrev pub VersionsGuarded : List Hmesg → Type 0
VersionsGuarded [] = Unit
VersionsGuarded (m ∷ ms) = (is_version m ≡ true → unlocks_command ms ≡ true) × VersionsGuarded ms
