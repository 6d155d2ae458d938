-- What follows for both sides where all is in order: no refusal, agreement where nothing is under way, and ahead of time.
use Rattle.sam_crossing.proofs.Common.{common_steps, ◌≡◌, ℕ, suc, false, ◌==◌, List, [], ◌∷◌, ◌++◌, Some, None, Ok, refl, arith, rules, most_count, Slots, Agrees, PlainFiles, file_at, Tmesg, Hmesg, PlainHost, Reply, answer, stamped, PlainTerminal, window_of, is_open, is_any_locked, window_in, Window, KnownFile, view, reply_of, InOrder}
use Rattle.sam_crossing.specs.World.{mesgs}
use Rattle.sam_crossing.proofs.Lenses.{IsFree}
use Rattle.sam_crossing.proofs.AllComeToSync.{kept_free}

-- ## The host goes on

-- it answers the first message, and all stays in order
pub record HostGoes (h : PlainHost) (t : PlainTerminal) (m : Tmesg) (up : List Tmesg) (down : List Hmesg) : Type 0 where
  pub reply : Reply
  pub answers_it : reply_of h m ≡ Some reply
  pub next : InOrder reply.0 t up (down ++ reply.1)

pub host_goes : (h : PlainHost) (t : PlainTerminal) (m : Tmesg) (up : List Tmesg) (down : List Hmesg) → InOrder h t (m ∷ up) down → HostGoes h t m up down
host_goes h t m up down o = search (rules, common_steps)

pub mesgs_stamped : (n : ℕ) (ms : List Hmesg) → mesgs (stamped n ms) ≡ ms
mesgs_stamped n [] = refl
mesgs_stamped n (m ∷ ms) = grind (arith, (mesgs_stamped n ms))

-- the answer with its stamps, where the count allows one more
pub answer_is : (h : PlainHost) (m : Tmesg) (r : Reply) → reply_of h m ≡ Some r → (h.taken == most_count) ≡ false → answer h m ≡ Ok (r.0, stamped r.0.taken r.1)
unfolding answer
answer_is h m r e full = grind arith

-- ## Free files, ahead of time

-- what a synced lens says of its file
pub record Shows (t : PlainTerminal) (fs : PlainFiles) (f : ℕ) : Type 0 where
  pub opened : is_open t f ≡ (file_at fs f).opened
  pub agrees : (w : Window) → window_of t f ≡ Some w → (w.locks ≡ 0) × Agrees w.rasp (file_at fs f).text

-- a free file is shown as the host will have it
pub free_shows : (h : PlainHost) (t : PlainTerminal) (up : List Tmesg) (down : List Hmesg) (o : InOrder h t up down) (f : ℕ) → IsFree (view f t) → Shows t o.kept.ahead.files f
free_shows h t up down o f free = grind (arith, kept_free)

-- ## Nothing under way

none_any : (ss : Slots KnownFile) → ((g : ℕ) → (window_in ss g).locks ≡ 0) → is_any_locked ss ≡ false
none_any [] h = refl
none_any (k ∷ ss) h = grind (arith, (none_any ss (λ g. h (suc g))), (h 0))

-- no lock, agreement, and the same files open
pub record Settled (h : PlainHost) (t : PlainTerminal) : Type 0 where
  pub command : t.command_lock ≡ false
  pub locks : is_any_locked t.files ≡ false
  pub shows : (f : ℕ) → Shows t h.files f

pub quiet_settles : (h : PlainHost) (t : PlainTerminal) → InOrder h t [] [] → t.unsent ≡ None → Settled h t
quiet_settles h t o e = grind (arith, none_any)
