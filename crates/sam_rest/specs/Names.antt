-- The names by which the terminal knows the host's files.
use Rattle.std.specs.Prelude.{◌≡◌, ℕ, ◌<◌, true, false, List, [], ◌∷◌, Some}
use Rattle.sam_text.specs.Files.{file_at, has_file}
use Rattle.sam_mesg.specs.declared.tmesg.Tmesg.{Tmesg}
use Rattle.sam_mesg.specs.declared.tmesg.Tmesg.TheVariants.{Tversion}
use Rattle.sam_host.specs.Laws.{AreGiven}
use Rattle.sam_term.specs.Term.{known_at}
use Rattle.sam_crossing.specs.World.{PlainWorld, joined_files, new_world, run_of}
use Rattle.sam_crossing.specs.declared.event.Event.{Event}
use Rattle.sam_crossing.specs.declared.event.Event.TheVariants.{HostTake}

-- A host that is not done takes a Tversion, and then no file joins. Wherever no frame is under way to the terminal, it knows each file of
-- the host by the name that the host has for it. The command file is left out, whose name the answer to Tstartcmdfile brings
abbrev pub VersionTellsNames : Type 0
VersionTellsNames =
    (given : List (List ℕ × List ℕ)) (before after : List Event) (w v : PlainWorld) (offered : ℕ) (rest : List Tmesg)
    → AreGiven given → run_of (new_world given) before ≡ Some w → w.host.is_done ≡ false → w.up ≡ Tversion offered ∷ rest
    → run_of w (HostTake ∷ after) ≡ Some v → joined_files after ≡ [] → v.down ≡ []
    → (f : ℕ) → 0 < f → has_file v.host.files f ≡ true → (known_at v.term f).name ≡ (file_at v.host.files f).name
