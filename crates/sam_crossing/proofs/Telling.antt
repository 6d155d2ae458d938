-- What frames about one open file tell: they take a partial text that agrees with one text to one that agrees with another.
use Rattle.sam_crossing.proofs.Common.{common_steps, ◌≡◌, ℕ, ◌+◌, ◌-◌, ◌≤◌, Bool, true, false, ◌&&◌, ◌==◌, List, [], ◌∷◌, ◌++◌, length, map, replicate, take, drop, Option, Some, None, refl, sym, ap, ◌∙◌, subst, arith, append-nil, take-append-drop, nat_le, nat_lt, le-leb, rules, flat_map, map-append, ins, del, max_runes, del-nothing, length-del, ins_cells, del_cells, Agrees, length_agrees, agrees_typed, agrees_grown, agrees_removed, PlainFile, PlainFiles, file_at, Hmesg, Hmovname, Hcheck, Horigin, Hsetdot, Hmoveto, Hclean, Hdirty, Hcut, Hsetpat, when, when_given, grown, told_length, told_edit, Open, lens, Action, Skip, Needs_known, Needs_open, Grow, Insert, Cut, Place, move, run, closes, action, at_file, only}
use Rattle.sam_runes.specs.declared.edit.Edit.{Edit}
use Rattle.sam_runes.specs.Edits.{edited, all_edited, EditsFit}
use Rattle.sam_crossing.proofs.Lenses.{AreSkips}
use Rattle.sam_crossing.proofs.Runs.{run-append_some, if_true}
use Rattle.sam_crossing.proofs.Guards.{no_close_behind}

-- ## Actions at an open file, whatever locks are held

pub record Ends (acts : List Action) (c e : Bool) (n : ℕ) (r : List (Option ℕ)) (k : ℕ) (t : List ℕ) : Type 0 where
  pub rasp : List (Option ℕ)
  pub is : run acts (lens c e n (Open r k)) ≡ Some (lens c e n (Open rasp k))
  pub agrees : Agrees rasp t

-- what agrees with t agrees with t2 after them
pub record Rewrites (acts : List Action) (t t2 : List ℕ) : Type 0 where
  pub runs : (c e : Bool) (n : ℕ) (r : List (Option ℕ)) (k : ℕ) → Agrees r t → Ends acts c e n r k t2
  pub no_close : closes acts ≡ false

pub rewrites_nothing : (t : List ℕ) → Rewrites [] t t
rewrites_nothing t = record { runs = λ c e n r k a. record { rasp = r; is = refl; agrees = a }; no_close = refl }

pub rewrites-append : (u w : List Action) (t t2 t3 : List ℕ) → Rewrites u t t2 → Rewrites w t2 t3 → Rewrites (u ++ w) t t3
rewrites-append u w t t2 t3 x y = record {
  runs = λ c e n r k a.
      let one = x.runs c e n r k a in
      let two = y.runs c e n one.rasp k one.agrees in
      record { rasp = two.rasp; is = run-append_some u w (lens c e n (Open r k)) (lens c e n (Open one.rasp k)) one.is ∙ two.is; agrees = two.agrees };
  no_close = grind (arith, no_close_behind);
}

-- one action, by its move
pub rewrites_one : (a : Action) (t t2 : List ℕ) (to : List (Option ℕ) → List (Option ℕ)) → (closes (a ∷ []) ≡ false)
    → ((c e : Bool) (n : ℕ) (r : List (Option ℕ)) (k : ℕ) → Agrees r t → move a (lens c e n (Open r k)) ≡ Some (lens c e n (Open (to r) k)))
    → ((r : List (Option ℕ)) → Agrees r t → Agrees (to r) t2) → Rewrites (a ∷ []) t t2
rewrites_one a t t2 to close moves agrees = grind arith

pub rewrites_known : (t : List ℕ) → Rewrites (Needs_known ∷ []) t t
rewrites_known t = rewrites_one Needs_known t t (λ r. r) refl (λ c e n r k a. refl) (λ r a. a)

rewrites_open : (t : List ℕ) → Rewrites (Needs_open ∷ []) t t
rewrites_open t = rewrites_one Needs_open t t (λ r. r) refl (λ c e n r k a. refl) (λ r a. a)

rewrites_skip : (t : List ℕ) → Rewrites (Skip ∷ []) t t
rewrites_skip t = rewrites_one Skip t t (λ r. r) refl (λ c e n r k a. refl) (λ r a. a)

rewrites_place : (p q : ℕ) (t : List ℕ) → p ≤ q → q ≤ length t → Rewrites (Place p q ∷ []) t t
rewrites_place p q t l l2 = grind (arith, length_agrees)

room_passes : (p m : ℕ) (r : List (Option ℕ)) (t : List ℕ) → Agrees r t → p ≤ length t → length t + m ≤ max_runes → (nat_le p (length r) && nat_le (length r + m) max_runes) ≡ true
room_passes p m r t a l room = grind (arith, length_agrees)

rewrites_insert : (p : ℕ) (s t : List ℕ) → p ≤ length t → length t + length s ≤ max_runes → Rewrites (Insert p s ∷ []) t (ins t p s)
rewrites_insert p s t l room =
    rewrites_one (Insert p s) t (ins t p s) (λ r. ins_cells r p (map Some s)) refl (λ c e n r k a. if_true _ _ (room_passes p (length s) r t a l room)) (λ r a. agrees_typed r t s p a)

rewrites_grow : (p : ℕ) (s t : List ℕ) → p ≤ length t → length t + length s ≤ max_runes → Rewrites (Grow p (length s) ∷ []) t (ins t p s)
rewrites_grow p s t l room =
    rewrites_one (Grow p (length s)) t (ins t p s) (λ r. ins_cells r p (replicate (length s) None)) refl (λ c e n r k a. if_true _ _ (room_passes p (length s) r t a l room))
    (λ r a. agrees_grown r t s p a)

rewrites_cut : (p m : ℕ) (t : List ℕ) → p + m ≤ length t → Rewrites (Cut p m ∷ []) t (del t p (p + m))
rewrites_cut p m t l = rewrites_one (Cut p m) t (del t p (p + m)) (λ r. del_cells r p (p + m)) refl
    (λ c e n r k a. let l2 : p + m ≤ length r = omega (arith, length_agrees r t a) in if_true _ _ (le-leb _ _ l2)) (λ r a. agrees_removed r t p (p + m) a)

-- ## Frames about the file f alone

pub record Told (f : ℕ) (frames : List Hmesg) (t t2 : List ℕ) : Type 0 where
  pub acts : List Action
  pub tells : (g : ℕ) → at_file g frames ≡ map (only (g == f)) acts
  pub rewrites : Rewrites acts t t2

map_only : (acts : List Action) → map (only true) acts ≡ acts
map_only [] = refl
map_only (a ∷ acts) = ap (λ (u : List Action). a ∷ u) (map_only acts)

-- at the file itself, and at another
pub tells_there : (f g : ℕ) (frames : List Hmesg) (acts : List Action) → at_file g frames ≡ map (only (g == f)) acts → (g == f) ≡ true → at_file g frames ≡ acts
tells_there f g frames acts tells e = tells ∙ ap (λ (b : Bool). map (only b) acts) e ∙ map_only acts

pub tells_elsewhere : (f g : ℕ) (frames : List Hmesg) (acts : List Action) → at_file g frames ≡ map (only (g == f)) acts → (g == f) ≡ false → AreSkips (at_file g frames)
tells_elsewhere f g frames acts tells e = subst AreSkips (sym (tells ∙ ap (λ (b : Bool). map (only b) acts) e)) (skips acts)
  where
    skips : (acts : List Action) → AreSkips (map (only false) acts)
    skips [] = tt
    skips (a ∷ acts) = (refl, skips acts)

pub told_nothing : (f : ℕ) (t : List ℕ) → Told f [] t t
told_nothing f t = record { acts = []; tells = λ g. refl; rewrites = rewrites_nothing t }

pub told-append : (f : ℕ) (a b : List Hmesg) (t t2 t3 : List ℕ) → Told f a t t2 → Told f b t2 t3 → Told f (a ++ b) t t3
told-append f a b t t2 t3 x y = grind (arith, map-append, (rewrites-append x.acts y.acts t t2 t3 x.rewrites y.rewrites))

pub told_one : (f : ℕ) (m : Hmesg) (a : Action) (t t2 : List ℕ) → ((g : ℕ) → action g m ≡ only (g == f) a) → Rewrites (a ∷ []) t t2 → Told f (m ∷ []) t t2
told_one f m a t t2 e r = record { acts = a ∷ []; tells = λ g. ap (λ (x : Action). x ∷ []) (e g); rewrites = r }

pub told_when : (b : Bool) (f : ℕ) (frames : List Hmesg) (t t2 : List ℕ) → (b ≡ true → Told f frames t t2) → (b ≡ false → t ≡ t2) → Told f (when b frames) t t2
unfolding when
told_when b f frames t t2 e u = grind (arith, told_nothing)

-- frames that change no text
pub told_if : (b : Bool) (f : ℕ) (frames : List Hmesg) (t : List ℕ) → Told f frames t t → Told f (when b frames) t t
told_if b f frames t x = told_when b f frames t t (λ e. x) (λ e. refl)

pub told_given : {A : Type 0} (o : Option A) (f : ℕ) (frame : A → Hmesg) (t : List ℕ) → ((x : A) → o ≡ Some x → Told f (frame x ∷ []) t t) → Told f (when_given o frame) t t
unfolding when_given
told_given o f frame t e = grind (arith, told_nothing)

pub told_origin : (f p : ℕ) (t : List ℕ) → p ≤ length t → Told f (Horigin f p ∷ []) t t
told_origin f p t l = told_one f (Horigin f p) (Place p p) t t (λ g. refl) (rewrites_place p p t (omega arith) l)

pub told_move : (f p : ℕ) (t : List ℕ) → p ≤ length t → Told f (Hmoveto f p ∷ []) t t
told_move f p t l = told_one f (Hmoveto f p) (Place p p) t t (λ g. refl) (rewrites_place p p t (omega arith) l)

pub told_dot : (f p q : ℕ) (t : List ℕ) → p ≤ q → q ≤ length t → Told f (Hsetdot f p q ∷ []) t t
told_dot f p q t l l2 = told_one f (Hsetdot f p q) (Place p q) t t (λ g. refl) (rewrites_place p q t l l2)

pub told_check : (f : ℕ) (t : List ℕ) → Told f (Hcheck f ∷ []) t t
told_check f t = told_one f (Hcheck f) Needs_open t t (λ g. refl) (rewrites_open t)

pub told_clean : (f : ℕ) (t : List ℕ) → Told f (Hclean f ∷ []) t t
told_clean f t = told_one f (Hclean f) Needs_known t t (λ g. refl) (rewrites_known t)

pub told_dirty : (f : ℕ) (t : List ℕ) → Told f (Hdirty f ∷ []) t t
told_dirty f t = told_one f (Hdirty f) Needs_known t t (λ g. refl) (rewrites_known t)

pub told_name : (f : ℕ) (s t : List ℕ) → Told f (Hmovname f s ∷ []) t t
told_name f s t = told_one f (Hmovname f s) Needs_known t t (λ g. refl) (rewrites_known t)

pub told_pattern : (f : ℕ) (s t : List ℕ) → Told f (Hsetpat s ∷ []) t t
told_pattern f s t = grind (arith, (rewrites_skip t))

-- ## Runes that come and go

ins-nothing : (t : List ℕ) (p : ℕ) → t ≡ ins t p []
ins-nothing t p = sym (ap (λ (x : List ℕ). x ++ drop p t) (append-nil (take p t)) ∙ take-append-drop p t)

-- what is put in, in full or by its length
pub told_grown : (fs : PlainFiles) (f p : ℕ) (s t : List ℕ) → (file_at fs f).opened ≡ true → p ≤ length t → length t + length s ≤ max_runes → Told f (grown fs f p s) t (ins t p s)
unfolding grown
told_grown fs f p s t o l room = grind (arith, (rewrites_insert p s t l room), (rewrites_grow p s t l room), told_when, (ins-nothing t p))

told_cut : (f p q : ℕ) (t : List ℕ) → p ≤ q → q ≤ length t → Told f (when (nat_lt p q) (Hcut f p (q - p) ∷ [])) t (del t p q)
told_cut f p q t l l2 = grind (arith, (told_when (nat_lt p q) f (Hcut f p (q - p) ∷ []) t (del t p q)), (rewrites_cut p (q - p) t), (del-nothing t p q))

told_one_edit : (fs : PlainFiles) (f : ℕ) (e : Edit) (t : List ℕ) → (file_at fs f).opened ≡ true → e.p ≤ e.q → e.q ≤ length t → length t + length e.text ≤ max_runes + (e.q - e.p)
    → Told f (told_edit fs f e) t (edited t e)
unfolding told_edit
told_one_edit fs f e t o l l2 room = grind (
  arith,
  (length-del t e.p e.q l l2),
  (told-append f (when (nat_lt e.p e.q) (Hcut f e.p (e.q - e.p) ∷ [])) (grown fs f e.p e.text) t),
  (told_cut f e.p e.q t l l2),
  (told_grown fs f e.p e.text),
)

-- edits one after another
pub told_edits : (fs : PlainFiles) (f : ℕ) (es : List Edit) (t : List ℕ) → (file_at fs f).opened ≡ true → EditsFit t es → Told f (flat_map (told_edit fs f) es) t (all_edited t es)
told_edits fs f [] t o fit = told_nothing f t
told_edits fs f (e ∷ es) t o fit =
    told-append f (told_edit fs f e) (flat_map (told_edit fs f) es) t (edited t e) (all_edited (edited t e) es) (told_one_edit fs f e t o fit.0 fit.1 fit.2) (told_edits fs f es (edited t e) o fit.3)

-- the length of a text whose window is new
pub told_opened : (f : ℕ) (x : PlainFile) → length x.text ≤ max_runes → Told f (told_length f x) [] x.text
unfolding told_length
told_opened f x room = search (rules, common_steps, told_when, rewrites_grow)
