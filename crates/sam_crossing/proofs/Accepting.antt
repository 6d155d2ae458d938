-- A message that the crossing lets come to the host, and what the host then owes: from synced lenses, the message and the host's own
-- answer to it lead to synced lenses.
use Rattle.sam_crossing.proofs.Common.{◌≡◌, ℕ, ◌+◌, ◌<◌, ◌≤◌, true, false, ◌==◌, length, None, max_runes, first_of_checks, file_at, Tmesg, PlainHost, host_checks, reply_to, Lens, Gone, IsCommandFile, IsSynced, ComesToSync, at_file, file_in, HasFiles, IsSteady}
use Rattle.sam_crossing.proofs.HostFiles.{Opens, IsThere, is_there}
use Rattle.sam_crossing.proofs.Changes.{Need, Nothing, Positive, InOpen, AtPlace, InRange, HasRoom, Startable, NamedOpen, NamedRange, need_of, changed, change_by}

-- the file is there and open, and the places lie in its text
abbrev pub IsMet : PlainHost → Need → Type 0
IsMet h Nothing = Unit
IsMet h (Positive n) = 0 < n
IsMet h (InOpen f) = Opens h.files f
IsMet h (AtPlace f p) = Opens h.files f × (p ≤ length (file_at h.files f).text)
IsMet h (InRange f p q) = Opens h.files f × (p ≤ q) × (q ≤ length (file_at h.files f).text)
IsMet h (HasRoom f p s) = Opens h.files f × (p ≤ length (file_at h.files f).text) × (length (file_at h.files f).text + length s ≤ max_runes)
IsMet h (Startable f) = IsThere h.files f true × ((f == 0) ≡ false)
IsMet h (NamedOpen f) = Opens h.files f × ((f == 0) ≡ false)
IsMet h (NamedRange f p q) = Opens h.files f × (p ≤ q) × (q ≤ length (file_at h.files f).text) × ((f == 0) ≡ false)

-- what the host may rest on
abbrev pub Accepted : PlainHost → Tmesg → Type 0
Accepted h m = IsMet h (need_of m)

-- a host that goes on answering
pub record Ready (h : PlainHost) : Type 0 where
  pub steady : IsSteady h
  pub running : h.is_done ≡ false

-- the host doesn't refuse the message; at each file the terminal's own change and then the frames lead from synced to synced; no file
-- that was closed comes back; and the host has its files
pub record Synced (h : PlainHost) (m : Tmesg) : Type 0 where
  pub passes : first_of_checks (host_checks h m) ≡ None
  pub each : (g : ℕ) (w : Lens) → IsSynced w h.is_done h.version (file_in h.files.slots g)
      → ComesToSync (at_file g (reply_to h m).1) (changed (change_by m) g w) (reply_to h m).0.is_done (reply_to h m).0.version (file_in (reply_to h m).0.files.slots g)
  pub gone : (g : ℕ) → file_in h.files.slots g ≡ Gone → file_in (reply_to h m).0.files.slots g ≡ Gone
  pub sound : HasFiles (reply_to h m).0.files

-- tag 0 is there, open or not announced
pub first_there : (h : PlainHost) → Ready h → IsThere h.files 0 false
first_there h r = is_there h.files 0 false IsCommandFile (λ c. c) (λ c. c) (λ t c. c) r.steady.sound.commands
