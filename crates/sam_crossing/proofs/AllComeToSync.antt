-- How the invariant at one file is carried on.
use Rattle.sam_crossing.proofs.Common.{◌≡◌, ℕ, min, Bool, true, false, ◌||◌, List, [], ◌∷◌, ◌++◌, length, take, drop, Option, Some, ◌⊎◌, inl, inr, sym, ap, ◌∙◌, true≢false, arith, append-nil, length-take, length-drop, nat_le, le-leb, drop_min, take_min, or_left, or_cases, or_parts, most_in_message, load_cells, Agrees, length_agrees, agrees_loaded, Open, Lens, lens, Action, run, frees, IsGuarded, closes, HFile, Opened, Gone, IsSynced, ComesToSync}
use Rattle.sam_crossing.proofs.Lenses.{IsFree, IsOpen, IsAlike, locked_more, exited_of, exits, AreSkips, CanRequest, request_actions}
use Rattle.sam_crossing.proofs.Runs.{run-append_some, still, runs_more, exited_after, RunsMore}

frees-append : (s u : List Action) → frees s ≡ true → frees (s ++ u) ≡ true
frees-append [] u e = absurd (true≢false (sym e))
frees-append (a ∷ s) u e = grind (arith, (frees-append s u))

pub guarded-append : (s u : List Action) → IsGuarded s → IsGuarded u → IsGuarded (s ++ u)
guarded-append [] u g h = h
guarded-append (a ∷ s) u g h = grind (arith, frees-append, guarded-append s u)

pub closes-append : (s u : List Action) → closes (s ++ u) ≡ true → (closes s ≡ true) ⊎ (closes u ≡ true)
closes-append [] u e = inr e
closes-append (a ∷ s) u e = grind (arith, (closes-append s u))

-- frames are answered from the synced state
pub kept_append : (s u : List Action) (v : Lens) (d d2 : Bool) (n n2 : ℕ) (file file2 : HFile) → ComesToSync s v d n file → ((w : Lens) → IsSynced w d n file → ComesToSync u w d2 n2 file2)
    → (file ≡ Gone → file2 ≡ Gone) → ComesToSync (s ++ u) v d2 n2 file2
kept_append s u v d d2 n n2 file file2 k on gone = grind (arith, run-append_some, guarded-append, closes-append)

-- the user acts on a free file: what is under way doesn't notice
pub kept_act : (s u : List Action) (v x : Lens) (d d2 : Bool) (n n2 : ℕ) (file file2 : HFile) → ComesToSync s v d n file → IsFree v → IsAlike v x → (IsSynced v d n file → ComesToSync u x d2 n2 file2)
    → (file ≡ Gone → file2 ≡ Gone) → ComesToSync (s ++ u) x d2 n2 file2
kept_act s u v x d d2 n n2 file file2 k free alike on gone =
    grind (arith, (still s v k.final x free k.guarded alike k.runs), (run-append_some s u x x), (guarded-append s u k.guarded), (closes-append s u))

-- a lens is alike to itself
pub alike_same : (v : Lens) → IsAlike v v
alike_same v = grind arith

-- the synced state of a free file is the present one
pub kept_free : (s : List Action) (v : Lens) (d : Bool) (n : ℕ) (file : HFile) → ComesToSync s v d n file → IsFree v → IsSynced v d n file
kept_free s v d n file k free = grind (arith, (still s v k.final v free k.guarded (alike_same v) k.runs))

-- a synced lens, by what the host has
pub record SettledOpen (w : Lens) (d : Bool) (n : ℕ) (file : HFile) : Type 0 where
  pub rasp : List (Option ℕ)
  pub text : List ℕ
  pub is : w ≡ lens false d n (Open rasp 0)
  pub opened : file ≡ Opened text
  pub agrees : Agrees rasp text

pub synced_open : (w : Lens) (d : Bool) (n : ℕ) (file : HFile) → IsOpen w → IsSynced w d n file → SettledOpen w d n file
synced_open w d n file e u = grind arith

pub kept_more : (s : List Action) (v : Lens) (d : Bool) (n : ℕ) (file : HFile) → ComesToSync s v d n file → ComesToSync (s ++ []) v d n file
kept_more s v d n file k = grind (arith, append-nil)

-- the answer to a Trequest frees its lock, and loads what agrees
pub kept_data : (d : Bool) (n : ℕ) (r : List (Option ℕ)) (t : List ℕ) (p m : ℕ) → d ≡ false → Agrees r t → ComesToSync (request_actions d (Opened t) p m) (lens false d n (Open r 1)) d n (Opened t)
kept_data d n r t p m e a = rw e (record {
  final = lens false false n (Open (load_cells r (min p (length t)) (take (min m most_in_message) (drop p t))) 0);
  runs = grind (arith, length_agrees, length-take, length-drop, nat_le, le-leb);
  synced = grind (arith, length_agrees, length-take, length-drop, take_min, drop_min, agrees_loaded);
  guarded = grind arith;
  closed = grind arith;
})

-- a Trequest that the terminal composes while it takes a frame, and its answer
pub kept_request : (s : List Action) (v : Lens) (d : Bool) (n : ℕ) (file : HFile) (p m : ℕ) → ComesToSync s v d n file → IsOpen v → exited_of v ≡ false
    → CanRequest d file × ComesToSync (s ++ request_actions d file p m) (locked_more v) d n file
kept_request s v d n file p m k o e = go (runs_more s v k.final o k.runs)
  where
    exited : d ≡ (exits s || exited_of v)
    exited = grind (arith, k.synced, (exited_after s v k.final k.runs))

    running : (t : List ℕ) → file ≡ Opened t → (closes s ≡ true → file ≡ Gone) → (x : Lens) → run s (locked_more v) ≡ Some x → ComesToSync (request_actions d (Opened t) p m) x d n (Opened t)
        → CanRequest d file × ComesToSync (s ++ request_actions d file p m) (locked_more v) d n file
    running t q gone x r loads = grind (arith, run-append_some, guarded-append, closes-append)

    go : RunsMore s v k.final → CanRequest d file × ComesToSync (s ++ request_actions d file p m) (locked_more v) d n file
    go (inl h) = grind (arith, kept_more, exited, or_left, (or_cases (closes s) (exits s) h.0))
    go (inr h) =
        let so = synced_open k.final d n file h.0 k.synced in
        let none : d ≡ false = grind (arith, exited, (or_parts (closes s) (exits s) h.2)) in
        running so.text so.opened k.closed (lens false d n (Open so.rasp 1)) (h.1 ∙ ap (λ (y : Lens). Some (locked_more y)) so.is) (kept_data d n so.rasp so.text p m none so.agrees)

-- frames of other files change nothing
pub kept_skips : (u : List Action) (w : Lens) (d : Bool) (n : ℕ) (file : HFile) → AreSkips u → IsSynced w d n file → ComesToSync u w d n file
kept_skips [] w d n file a x = grind arith
kept_skips (a ∷ u) w d n file q x = grind (arith, (kept_skips u w d n file q.1 x))
