-- Behind each frame of an answer that names or marks a file stands one that frees a lock.
use Rattle.sam_crossing.proofs.Common.{◌≡◌, ℕ, Bool, true, false, ◌==◌, ◌||◌, ◌&&◌, ◌+◌, if◌then◌else◌, List, [], ◌∷◌, ◌++◌, length, Option, Some, None, refl, sym, ap, subst, true≢false, arith, same_Some, is_empty, ends_line, max_runes, nat_lt, Range, Tmesg, Tversion, Tstartcmdfile, Tstartfile, Ttype, Tpaste, Tstartnewfile, Tclose, Tlook, Tsearch, Tsend, Texit, Hmesg, Hcheck, Hsetdot, Hunlockfile, PlainFiles, file_at, PlainHost, Reply, HostFault, counted, host_checks, first_of_checks, reply_to, reply_found, grown, when, answers, reply_of, replied_then, at_file, frees}
unfoldable use Rattle.sam_host.proofs.EachFrame.{replies_opened}
use Rattle.sam_host.proofs.EachFrame.{Ends, Command, Nothing, end_frames, reply_ends}
use Rattle.sam_host.specs.Host.{told_dirty, told_paste}
use Rattle.sam_crossing.specs.Fold.{replied, after_frames}
use Rattle.sam_local.proofs.Gentle.{MarksGuarded}

-- ## Lists of frames

frees-first : (f : ℕ) (xs ys : List Hmesg) → frees (at_file f xs) ≡ true → frees (at_file f (xs ++ ys)) ≡ true
frees-first f [] ys e = absurd (true≢false (sym e))
frees-first f (m ∷ xs) ys e = grind (arith, (frees-first f xs ys))

frees-last : (f : ℕ) (xs ys : List Hmesg) → frees (at_file f ys) ≡ true → frees (at_file f (xs ++ ys)) ≡ true
frees-last f [] ys e = e
frees-last f (m ∷ xs) ys e = grind (arith, (frees-last f xs ys))

pub marks-both : (b : Bool) (f : ℕ) (xs ys : List Hmesg) → MarksGuarded b f xs → MarksGuarded b f ys → MarksGuarded b f (xs ++ ys)
marks-both b f [] ys c d = d
marks-both b f (m ∷ xs) ys c d = ((λ e. frees-first f xs ys (c.0 e)), marks-both b f xs ys c.1 d)

-- all that stands before a frame that frees
marks-before : (f : ℕ) (xs ys : List Hmesg) → frees (at_file f ys) ≡ true → MarksGuarded true f ys → MarksGuarded true f (xs ++ ys)
marks-before f [] ys e d = d
marks-before f (m ∷ xs) ys e d = ((λ c. frees-last f xs ys e), marks-before f xs ys e d)

command-ends : {Q : List ℕ → Type 0} (f : ℕ) (frames : List Hmesg) → Ends Q Command frames → MarksGuarded true f frames
command-ends f frames e = subst (MarksGuarded true f) (sym e.is) (by e.quits)
  where
    by : (b : Bool) → MarksGuarded true f (e.front ++ end_frames Command b)
    by true = marks-before f e.front _ refl ((λ c. absurd (true≢false (sym c))), tt)
    by false = marks-before f e.front _ refl ((λ c. absurd (true≢false (sym c))), tt)

-- ## The kinds

abbrev Anyone : List ℕ → Type 0
Anyone s = Unit {0}

marks-grown : (f : ℕ) (fs : PlainFiles) (g p : ℕ) (s : List ℕ) → MarksGuarded true f (grown fs g p s)
unfolding grown when
marks-grown f fs g p s = grind arith

-- a frame that makes another file dirty
pub marks-dirty : (f : ℕ) (fs : PlainFiles) (g : ℕ) → (f == g) ≡ false → MarksGuarded true f (told_dirty fs g)
unfolding when
marks-dirty f fs g e = grind (arith, e)

-- where such frames don't count
pub marks-idle : (f : ℕ) (fs : PlainFiles) (g : ℕ) → MarksGuarded false f (told_dirty fs g)
unfolding when
marks-idle f fs g = grind arith

marks-found : (f : ℕ) (h : PlainHost) (g : ℕ) (d : Option Range) (frames : List Hmesg) → MarksGuarded true f frames → MarksGuarded true f (reply_found h g d frames).1
marks-found f h g d frames c = grind (arith, (marks-both true))

marks-if : (f : ℕ) (b : Bool) (x y : Reply) → MarksGuarded true f x.1 → MarksGuarded true f y.1 → MarksGuarded true f (if b then x else y).1
marks-if f true x y c d = c
marks-if f false x y c d = d

marks-pasted : (f : ℕ) (fs : PlainFiles) (g p : ℕ) (s : List ℕ) → MarksGuarded true f (told_paste fs g p s)
marks-pasted f fs g p s = by (f == g) refl
  where
    last : List Hmesg
    last = Hsetdot g p (p + length s) ∷ Hcheck g ∷ Hunlockfile g ∷ []

    none : MarksGuarded true f last
    none = let no : (b : Bool) → false ≡ true → b ≡ true = λ b c. absurd (true≢false (sym c)) in (no _, (no _, (no _, tt)))

    by : (b : Bool) → (f == g) ≡ b → MarksGuarded true f ((grown fs g p s ++ told_dirty fs g) ++ last)
    by true e = marks-before f (grown fs g p s ++ told_dirty fs g) last (rw e refl) none
    by false e = marks-both true f (grown fs g p s ++ told_dirty fs g) last (marks-both true f (grown fs g p s) (told_dirty fs g) (marks-grown f fs g p s) (marks-dirty f fs g e)) none

marks-typed : (f : ℕ) (b : Bool) (x : Reply) (k : PlainHost) → Ends Anyone (if b then Command else Nothing) (if b then x else (k, [])).1
    → MarksGuarded true f (if b then x else (k, [])).1
marks-typed f true x k e = command-ends f x.1 e
marks-typed f false x k e = tt

pub marks-reply : (f : ℕ) (h : PlainHost) (m : Tmesg) → MarksGuarded true f (reply_to h m).1
unfolding replies_opened when
marks-reply f h (Tversion v) =
    ((λ c. absurd (true≢false (sym c))), command-ends f _ (reply_ends Anyone (λ s l. tt) h (Tversion v) (λ g. tt)))
marks-reply f h Tstartcmdfile = command-ends f _ (reply_ends Anyone (λ s l. tt) h Tstartcmdfile (λ g. tt))
marks-reply f h (Tstartfile g) = command-ends f _ (reply_ends Anyone (λ s l. tt) h (Tstartfile g) (λ g. tt))
marks-reply f h (Ttype g p s) = marks-typed f ((g == 0) && ends_line s) _ _ (reply_ends Anyone (λ s l. tt) h (Ttype g p s) (λ g. tt))
marks-reply f h (Tpaste g p) =
    marks-if f (is_empty h.files.snarf || nat_lt max_runes (length (file_at h.files g).text + length h.files.snarf)) (h, Hunlockfile g ∷ []) _
    ((λ c. absurd (true≢false (sym c))), tt) (marks-pasted f h.files g p h.files.snarf)
marks-reply f h Tstartnewfile = command-ends f _ (reply_ends Anyone (λ s l. tt) h Tstartnewfile (λ g. tt))
marks-reply f h (Tclose g) = command-ends f _ (reply_ends Anyone (λ s l. tt) h (Tclose g) (λ g. tt))
marks-reply f h (Tlook g p q) = grind (arith, marks-found)
marks-reply f h (Tsearch g p q) = marks-found f h g _ [] tt
marks-reply f h (Tsend g p q) = command-ends f _ (reply_ends Anyone (λ s l. tt) h (Tsend g p q) (λ g. tt))
marks-reply f h Texit = command-ends f _ (reply_ends Anyone (λ s l. tt) h Texit (λ g. tt))
marks-reply f h m = grind arith

-- ## Answers

pub marks-reply_of : (f : ℕ) (h : PlainHost) (m : Tmesg) (r : Reply) → reply_of h m ≡ Some r → MarksGuarded true f r.1
marks-reply_of f h m r e = by h.is_done e
  where
    checked : (o : Option HostFault) → replied o (reply_to h m) ≡ Some r → MarksGuarded true f r.1
    checked None e = subst (MarksGuarded true f) (ap (λ (x : Reply). x.1) (same_Some _ _ e)) (marks-reply f h m)
    checked (Some why) e = grind arith

    by : (b : Bool) → (if b then Some (counted h, []) else replied (first_of_checks (host_checks h m)) (reply_to h m)) ≡ Some r → MarksGuarded true f r.1
    by true e = subst (MarksGuarded true f) (ap (λ (x : Reply). x.1) (same_Some _ _ e)) tt
    by false e = checked (first_of_checks (host_checks h m)) e

pub marks-answers : (f : ℕ) (ms : List Tmesg) (h : PlainHost) (r : Reply) → answers h ms ≡ Some r → MarksGuarded true f r.1
marks-answers f [] h r e = subst (MarksGuarded true f) (ap (λ (x : Reply). x.1) (same_Some _ _ e)) tt
marks-answers f (m ∷ ms) h r e = by (reply_of h m) refl e (marks-answers f ms)
  where
    by : (o : Option Reply) → reply_of h m ≡ o → replied_then o (λ k. answers k ms) ≡ Some r → ((k : PlainHost) (x : Reply) → answers k ms ≡ Some x → MarksGuarded true f x.1)
        → MarksGuarded true f r.1
    by None q e more = grind arith
    by (Some s) q e more = go (answers s.0 ms) refl e
      where
        go : (o : Option Reply) → answers s.0 ms ≡ o → after_frames s.1 o ≡ Some r → MarksGuarded true f r.1
        go None v w = grind arith
        go (Some y) v w = subst (MarksGuarded true f) (ap (λ (x : Reply). x.1) (same_Some _ _ w)) (marks-both true f s.1 y.1 (marks-reply_of f h m s q) (more s.0 y v))
