-- Where no lens refuses a frame the terminal doesn't, and each lens moves as the frame's action says.
use Rattle.sam_crossing.proofs.Common.{◌≡◌, ℕ, arith, ◌≢◌, ◌==◌, Some, refl, eqb-true, eq-eqb, slot, put_slot, slot-put_same, slot-put_other, slot-free_same, slot-free_other, slot-map, Hmesg, Hbindname, Hcurrent, Hnewname, Hmovname, Hgrow, Hcheck, Hdata, Horigin, Hunlockfile, Hsetdot, Hgrowdata, Hmoveto, Hclean, Hdirty, Hcut, Hdelname, Hclose, KnownFile, PlainTerminal, requested, took_bindname, took_data, took_grow, took_growdata, took_cut, took_unlockfile, took_close, took_exit, lens, Action, move, only, slot_of_window, view, NoneRefuses, Moves}

-- a frame of the file f moves the lens of f, and no other
tagged : (f : ℕ) (a : Action) (t t2 : PlainTerminal) → t2.command_lock ≡ t.command_lock → t2.has_exited ≡ t.has_exited → t2.version ≡ t.version
    → ((g : ℕ) → f ≢ g → slot t2.files g ≡ slot t.files g) → move a (view f t) ≡ Some (view f t2) → (g : ℕ) → move (only (g == f) a) (view g t) ≡ Some (view g t2)
tagged f a t t2 ec ee ev others here g = grind (arith, eqb-true)

-- so too where another file is put at f
put_moves : (f : ℕ) (a : Action) (t : PlainTerminal) (x : KnownFile) → move a (view f t) ≡ Some (lens t.command_lock t.has_exited t.version (slot_of_window x.window)) → (g : ℕ)
    → move (only (g == f) a) (view g t) ≡ Some (view g (record t { files = put_slot t.files f x }))
put_moves f a t x here g =
    tagged f a t (record t { files = put_slot t.files f x }) refl refl refl (grind (arith, slot-put_other)) (grind (arith, here, slot-put_same)) g

pub take_law : (t : PlainTerminal) (m : Hmesg) → NoneRefuses t m → Moves t m
unfolding requested took_bindname took_data took_grow took_growdata took_cut took_unlockfile took_close took_exit
take_law t (Hbindname f) h = grind (arith, (h f).1, (eq-eqb f f refl), put_moves)
take_law t (Hcurrent f) h = grind (arith, (h f).1, (eq-eqb f f refl), tagged)
take_law t (Hnewname f) h = grind (arith, (h f).1, (eq-eqb f f refl), put_moves)
take_law t (Hmovname f s) h = grind (arith, (h f).1, (eq-eqb f f refl), put_moves)
take_law t (Hgrow f p n) h = grind (arith, (h f).1, (eq-eqb f f refl), put_moves)
take_law t (Hcheck f) h = grind (arith, (h f).1, (eq-eqb f f refl), tagged)
take_law t (Hdata f p s) h = grind (arith, (h f).1, (eq-eqb f f refl), put_moves)
take_law t (Horigin f p) h = grind (arith, (h f).1, (eq-eqb f f refl), put_moves)
take_law t (Hunlockfile f) h = grind (arith, (h f).1, (eq-eqb f f refl), put_moves)
take_law t (Hsetdot f p q) h = grind (arith, (h f).1, (eq-eqb f f refl), put_moves)
take_law t (Hgrowdata f p s) h = grind (arith, (h f).1, (eq-eqb f f refl), put_moves)
take_law t (Hmoveto f p) h = grind (arith, (h f).1, (eq-eqb f f refl), put_moves)
take_law t (Hclean f) h = grind (arith, (h f).1, (eq-eqb f f refl), put_moves)
take_law t (Hdirty f) h = grind (arith, (h f).1, (eq-eqb f f refl), put_moves)
take_law t (Hcut f p n) h = grind (arith, (h f).1, (eq-eqb f f refl), put_moves)
take_law t (Hdelname f) h = grind (arith, (h f).1, (eq-eqb f f refl), tagged, slot-free_other, slot-free_same)
take_law t (Hclose f) h = grind (arith, (h f).1, (eq-eqb f f refl), put_moves)
take_law t m h = grind (arith, (h 0).1, (λ (g : ℕ). (h g).1), slot-map)
