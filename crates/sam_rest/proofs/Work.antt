-- How much is left to do: a number that each step but an act lowers.
use Rattle.sam_crossing.proofs.Common.{◌≡◌, ℕ, ◌+◌, ◌<◌, ◌≤◌, Bool, true, false, not, ◌==◌, ◌&&◌, ◌-◌, min, option_map, same_Some, if◌then◌else◌, List, [], ◌∷◌, ◌++◌, length, length-append, Option, Some, None, ◌⊎◌, inl, inr, refl, sym, ap, ◌∙◌, subst, arith, append-nil, append_assoc, eq-eqb, eqb-true, is_command_line, Tmesg, Trequest, Tack, Hmesg, Hcheck, Hunlockfile, Hack, Hdata, PlainHost, Reply, counted, Unsent, PlainTerminal, Made, window_at, is_open, frame_outcome, slot-put_same, took_unlockfile, composed, flushed, unsent_message, most_in_message, PartialText, Lens, Action, AllComeToSync, InOrder, file_in, IsHeldBack, at_file, action, answers, reply_of, replied_then, effect, view, views}
use Rattle.std.specs.Prelude.{◌*◌}
use Rattle.sam_rasp.specs.Rasp.{hole_within}
use Rattle.sam_term.specs.Term.{wanted, sends_if, request_for, view_end, front_of}
unfoldable use Rattle.sam_term.specs.Term.{stretches}
use Rattle.sam_term.specs.Loading.{AreOfGaps}
use Rattle.sam_term.proofs.Loads.{stretches-some}
use Rattle.sam_term.proofs.Stretches.{load_law}
use Rattle.sam_crossing.specs.Fold.{after_frames}
use Rattle.sam_crossing.specs.View.{composed_for}
use Rattle.sam_crossing.proofs.Lenses.{IsOpen, locked_more, AreSkips}
use Rattle.sam_crossing.proofs.Folds as folds
use Rattle.sam_crossing.proofs.FrameMoves.{take_law}
use Rattle.sam_crossing.proofs.Views.{view-put, view-composed, unsent-flushed, unsent-composed}
use Rattle.sam_crossing.proofs.Guards.{at_file-append}
use Rattle.sam_local.proofs.Takes.{unsent-left}
use Rattle.sam_rest.proofs.Actions.{fills, left, AwaitsAll, awaits-quiet, NoAnswer, Answer, answered_how}
use Rattle.sam_rest.proofs.Gaps.{wants, wants-skips, wants-first, wants-less, IsGap, data_at, data_of, data_actions, rasp_of, gaps_in, late}
use Rattle.sam_rest.proofs.Frames.{request-none, request-data}
use Rattle.sam_rest.proofs.Kept.{frames_of, coming_to, AreAwaited, awaited-plain, data-there, data-elsewhere, coming-one}
use Rattle.sam_rest.proofs.Steps.{taken, composes-is}

-- ## The number

-- all frames that come once the host has answered what is under way and the unsent runes
abbrev pub coming : PlainHost → PlainTerminal → List Tmesg → List Hmesg → List Hmesg
coming h t up down = down ++ frames_of (answers h (up ++ unsent_message t.unsent))

-- a frame that may bring a request about weighs 4 for all that its file wants
abbrev pub weight : (ℕ → ℕ) → Hmesg → ℕ
weight w (Hcheck f) = 2 + 4 * w f
weight w (Hunlockfile f) = 2 + 4 * w f
weight w m = 2

abbrev pub weigh : (ℕ → ℕ) → List Hmesg → ℕ
weigh w [] = 0
weigh w (m ∷ ms) = weight w m + weigh w ms

-- what each file wants, by these frames and what the terminal shows
abbrev pub all_wants : List Hmesg → (ℕ → Lens) → ℕ → ℕ
all_wants frames vs f = wants (at_file f frames) (vs f)

abbrev pub work_of : ℕ → ℕ → List Hmesg → (ℕ → Lens) → ℕ
work_of up unsent frames vs = up + 2 * unsent + weigh (all_wants frames vs) frames

-- how much is left to do
unfoldable pub work : PlainHost → PlainTerminal → List Tmesg → List Hmesg → ℕ
work h t up down = work_of (length up) (length (unsent_message t.unsent)) (coming h t up down) (views t)

-- ## Weights

weight-less : (v w : ℕ → ℕ) (m : Hmesg) → ((f : ℕ) → v f ≤ w f) → weight v m ≤ weight w m
weight-less v w (Hcheck f) l = omega (arith, l f)
weight-less v w (Hunlockfile f) l = omega (arith, l f)
weight-less v w m l = grind arith

weigh-less : (v w : ℕ → ℕ) (ms : List Hmesg) → ((f : ℕ) → v f ≤ w f) → weigh v ms ≤ weigh w ms
weigh-less v w [] l = omega arith
weigh-less v w (m ∷ ms) l = omega (arith, weight-less v w m l, weigh-less v w ms l)

weigh-append : (w : ℕ → ℕ) (ms ns : List Hmesg) → weigh w (ms ++ ns) ≡ weigh w ms + weigh w ns
weigh-append w [] ns = omega arith
weigh-append w (m ∷ ms) ns = omega (arith, weigh-append w ms ns)

weight-some : (w : ℕ → ℕ) (m : Hmesg) → 2 ≤ weight w m
weight-some w m = grind arith

-- ## The host takes a message

pub coming-host : (h : PlainHost) (t : PlainTerminal) (m : Tmesg) (up : List Tmesg) (down : List Hmesg) (r : Reply) → reply_of h m ≡ Some r → InOrder r.0 t up (down ++ r.1)
    → coming h t (m ∷ up) down ≡ coming r.0 t up (down ++ r.1)
coming-host h t m up down r e n =
    let line = up ++ unsent_message t.unsent in
    let both : answers h (m ∷ line) ≡ Some (n.kept.ahead, r.1 ++ n.kept.frames) = ap (λ (o : Option Reply). replied_then o (λ k. answers k line)) e ∙ ap (after_frames r.1) n.kept.folds in
    ap (λ (o : Option Reply). down ++ frames_of o) both ∙ sym (append_assoc down r.1 n.kept.frames) ∙ sym (ap (λ (o : Option Reply). (down ++ r.1) ++ frames_of o) n.kept.folds)

pub work-host : (h : PlainHost) (t : PlainTerminal) (m : Tmesg) (up : List Tmesg) (down : List Hmesg) (r : Reply) → reply_of h m ≡ Some r → InOrder r.0 t up (down ++ r.1)
    → work r.0 t up (down ++ r.1) < work h t (m ∷ up) down
unfolding work
work-host h t m up down r e n =
    let same = coming-host h t m up down r e n in
    omega (arith, ap (λ (fs : List Hmesg). weigh (all_wants fs (views t)) fs) same)

-- ## A flush

-- unsent runes end no command line
abbrev pub IsNoLine : Option Unsent → Type 0
IsNoLine None = Unit {0}
IsNoLine (Some u) = is_command_line u.file u.runes ≡ false

pub view-sent : (t : PlainTerminal) → IsNoLine t.unsent → (g : ℕ) → view g (flushed t).0 ≡ view g t
unfolding flushed
view-sent t e g = grind (arith, view-put)

pub no-line : (t : PlainTerminal) → IsHeldBack (views t) t.unsent → IsNoLine t.unsent
no-line t held = by t.unsent held
  where
    by : (u : Option Unsent) → IsHeldBack (views t) u → IsNoLine u
    by None held = tt
    by (Some u) held = held.0

work-alike : (a b : ℕ) (fs gs : List Hmesg) (vs ws : ℕ → Lens) → fs ≡ gs → ((f : ℕ) → ws f ≡ vs f) → weigh (all_wants gs ws) gs ≤ weigh (all_wants fs vs) fs
work-alike a b fs gs vs ws e same =
    subst (λ (x : List Hmesg). weigh (all_wants x ws) x ≤ weigh (all_wants fs vs) fs) e
    (weigh-less (all_wants fs ws) (all_wants fs vs) fs (λ f. let here : all_wants fs ws f ≡ all_wants fs vs f = ap (wants (at_file f fs)) (same f) in omega (arith, here)))

pub flushed-is : (t : PlainTerminal) → (flushed t).1 ≡ unsent_message t.unsent
unfolding flushed
flushed-is t = refl

pub coming-flush : (h : PlainHost) (t : PlainTerminal) (up : List Tmesg) (down : List Hmesg) → coming h t up down ≡ coming h (flushed t).0 (up ++ (flushed t).1) down
coming-flush h t up down =
    let line : (up ++ (flushed t).1) ++ unsent_message (flushed t).0.unsent ≡ up ++ unsent_message t.unsent =
    ap (λ (n : Option Unsent). (up ++ (flushed t).1) ++ unsent_message n) (unsent-flushed t) ∙ append-nil (up ++ (flushed t).1) ∙ ap (λ (l : List Tmesg). up ++ l) (flushed-is t) in
    ap (λ (l : List Tmesg). down ++ frames_of (answers h l)) (sym line)

pub work-flush : (h : PlainHost) (t : PlainTerminal) (up : List Tmesg) (down : List Hmesg) (u : Unsent) → InOrder h t up down → t.unsent ≡ Some u
    → work h (flushed t).0 (up ++ (flushed t).1) down < work h t up down
unfolding work
work-flush h t up down u o e =
    let none = unsent-flushed t in
    let same = coming-flush h t up down in
    let less = work-alike 0 0 (coming h t up down) (coming h (flushed t).0 (up ++ (flushed t).1) down) (views t) (views (flushed t).0) same (view-sent t (no-line t o.unsent)) in
    let one : length (flushed t).1 ≡ 1 = ap (λ (l : List Tmesg). length l) (flushed-is t ∙ ap unsent_message e) in
    let many : length (up ++ (flushed t).1) ≡ length up + length (flushed t).1 = length-append up (flushed t).1 in
    let was : length (unsent_message t.unsent) ≡ 1 = ap (λ (n : Option Unsent). length (unsent_message n)) e in
    let now : length (unsent_message (flushed t).0.unsent) ≡ 0 = ap (λ (n : Option Unsent). length (unsent_message n)) none in
    omega (arith, less, one, many, was, now)

-- ## A frame

-- the frame is taken, and nothing is composed yet
work-taken : (h : PlainHost) (t : PlainTerminal) (up : List Tmesg) (m : Hmesg) (down : List Hmesg) → InOrder h t up (m ∷ down)
    → let u = effect t m in
    let fs = coming h u up down in
    work_of (length up) (length (unsent_message u.unsent)) fs (views u) + weight (all_wants fs (views u)) m ≤ work h t up (m ∷ down)
unfolding work
work-taken h t up m down o =
    let u = effect t m in
    let left = unsent-left h t up m down o in
    let moves = (take_law t m (folds.frame_moves h (views t) (up ++ unsent_message t.unsent) m down o.kept)).moves in
    let fs = coming h u up down in
    let same : coming h t up (m ∷ down) ≡ m ∷ fs = ap (λ (n : Option Unsent). m ∷ (down ++ frames_of (answers h (up ++ unsent_message n)))) (sym left) in
    let lower : (f : ℕ) → all_wants fs (views u) f ≤ all_wants (m ∷ fs) (views t) f =
    λ f. wants-first (action f m) (at_file f fs) (view f t) (view f u) (moves f) in
    let whole : weigh (all_wants (coming h t up (m ∷ down)) (views t)) (coming h t up (m ∷ down)) ≡ weigh (all_wants (m ∷ fs) (views t)) (m ∷ fs) =
    ap (λ (x : List Hmesg). weigh (all_wants x (views t)) x) same in
    let unsent : length (unsent_message u.unsent) ≡ length (unsent_message t.unsent) = ap (λ (n : Option Unsent). length (unsent_message n)) left in
    omega (arith, whole, unsent, weight-less (all_wants fs (views u)) (all_wants (m ∷ fs) (views t)) m lower, weigh-less (all_wants fs (views u)) (all_wants (m ∷ fs) (views t)) fs lower)

-- what comes, and the number, where the unsent runes are sent and then one message
pub record SentOne (h : PlainHost) (u : PlainTerminal) (up : List Tmesg) (down : List Hmesg) (x : Tmesg) (frames : List Hmesg) : Type 0 where
  pub comes : coming h (composed (flushed u).0 x) (up ++ ((flushed u).1 ++ x ∷ [])) down ≡ coming h u up down ++ frames
  pub number : work h (composed (flushed u).0 x) (up ++ ((flushed u).1 ++ x ∷ [])) down
      ≡ length up + length (unsent_message u.unsent) + 1 + weigh (all_wants (coming h u up down ++ frames) (views (composed (flushed u).0 x))) (coming h u up down ++ frames)

pub sent-one : (h : PlainHost) (u : PlainTerminal) (up : List Tmesg) (down : List Hmesg) (x : Tmesg) (k : AllComeToSync h (views u) (up ++ unsent_message u.unsent) down) (r : Reply)
    → reply_of k.ahead x ≡ Some r → SentOne h u up down x r.1
unfolding flushed work
sent-one h u up down x k r e =
    let z = composed (flushed u).0 x in
    let more = up ++ (unsent_message u.unsent ++ x ∷ []) in
    let none : z.unsent ≡ None = unsent-composed (flushed u).0 x ∙ unsent-flushed u in
    let line : more ++ unsent_message z.unsent ≡ (up ++ unsent_message u.unsent) ++ x ∷ [] =
    ap (λ (n : Option Unsent). more ++ unsent_message n) none ∙ append-nil more ∙ sym (append_assoc up (unsent_message u.unsent) (x ∷ [])) in
    let folded = coming-one 0 h (views u) (up ++ unsent_message u.unsent) down k x r e in
    let comes : coming h z more down ≡ coming h u up down ++ r.1 =
    ap (λ (l : List Tmesg). down ++ frames_of (answers h l)) line ∙ ap (λ (o : Option Reply). down ++ frames_of o) folded ∙ sym (append_assoc down k.frames r.1)
    ∙ sym (ap (λ (o : Option Reply). (down ++ frames_of o) ++ r.1) k.folds) in
    let many : length more ≡ length up + length (unsent_message u.unsent) + 1 = omega (arith, length-append up (unsent_message u.unsent ++ x ∷ []), length-append (unsent_message u.unsent) (x ∷ [])) in
    let now : length (unsent_message z.unsent) ≡ 0 = ap (λ (n : Option Unsent). length (unsent_message n)) none in
    record { comes = comes; number = omega (arith, many, now, ap (λ (fs : List Hmesg). weigh (all_wants fs (views z)) fs) comes) }

-- ## What is wanted

-- a request of an open file for gaps that it shows, while none is awaited
record Wanted (t : PlainTerminal) (f : ℕ) (m : Tmesg) : Type 0 where
  place : ℕ
  many : ℕ
  is : m ≡ Trequest f place many
  opened : IsOpen (view f t)
  here : t.has_exited ≡ false
  none : (window_at t f).awaited ≡ 0
  gap : IsGap (rasp_of (view f t)) place many

gap-of : (r : PartialText) (p q : ℕ) (s : ℕ × ℕ) → p ≤ q → q ≤ length r → Some s ≡ option_map front_of (hole_within r p q) → IsGap r s.0 s.1
unfolding stretches
gap-of r p q s o l e =
    let law = subst (AreOfGaps r p q) (stretches-some r p q 1 s (omega arith) e) (load_law r p q 1 o l) in
    record { some = law.1; few = law.2; within = omega (arith, l, law.3); gaps = law.4 }

rasp-open : (t : PlainTerminal) (f : ℕ) → is_open t f ≡ true → IsOpen (view f t) × (rasp_of (view f t) ≡ (window_at t f).rasp)
rasp-open t f o = grind arith

wanted-is : (t : PlainTerminal) (f : ℕ) (m : Tmesg) → (window_at t f).view_start ≤ length (window_at t f).rasp → wanted t f ≡ Some m → Wanted t f m
wanted-is t f m tidy e = by (is_open t f) t.has_exited ((window_at t f).awaited == 0) _ refl refl refl refl e
  where
    by : (o x b : Bool) (hole : Option (ℕ × ℕ)) → is_open t f ≡ o → t.has_exited ≡ x → ((window_at t f).awaited == 0) ≡ b
        → hole_within (window_at t f).rasp (window_at t f).view_start (view_end (window_at t f)) ≡ hole
        → (if o && not x && b then request_for f hole else None) ≡ Some m → Wanted t f m
    by true false true (Some g) q y z w e =
        let there = rasp-open t f q in
        record {
          place = g.0;
          many = min (g.1 - g.0) most_in_message;
          is = sym (same_Some _ _ e);
          opened = there.0;
          here = y;
          none = eqb-true (window_at t f).awaited 0 z;
          gap = subst (λ (r : PartialText). IsGap r g.0 (min (g.1 - g.0) most_in_message)) (sym there.1) (gap-of (window_at t f).rasp (window_at t f).view_start (view_end (window_at t f)) (front_of g) (omega (arith, tidy)) (omega arith)
              (sym (ap (λ (o : Option (ℕ × ℕ)). option_map front_of o) w)));
        }
    by o x b hole q y z w e = absurd (grind arith)

-- ## A request

pub shown : (u : PlainTerminal) (f p q g : ℕ) → IsNoLine u.unsent → IsOpen (view f u)
    → view g (composed (flushed u).0 (Trequest f p q)) ≡ (if g == f then locked_more (view g u) else view g u)
shown u f p q g line o =
    view-composed (flushed u).0 (Trequest f p q) (subst IsOpen (sym (view-sent u line f)) o) g ∙ ap (λ (v : Lens). if g == f then locked_more v else v) (view-sent u line g)

asked : (h : PlainHost) (u : PlainTerminal) (up : List Tmesg) (down : List Hmesg) → AllComeToSync h (views u) (up ++ unsent_message u.unsent) down → IsNoLine u.unsent → (f p q : ℕ)
    → IsOpen (view f u) → u.has_exited ≡ false → IsGap (rasp_of (view f u)) p q → fills (at_file f (coming h u up down)) ≡ false
    → work h (composed (flushed u).0 (Trequest f p q)) (up ++ ((flushed u).1 ++ Trequest f p q ∷ [])) down
    < work_of (length up) (length (unsent_message u.unsent)) (coming h u up down) (views u) + (2 + 4 * all_wants (coming h u up down) (views u) f)
asked h u up down k line f p q o x gap quiet = by (answered_how (at_file f frames) (view f u) _ _ _ (k.each f) o x)
  where
    z : PlainTerminal
    z = composed (flushed u).0 (Trequest f p q)

    frames : List Hmesg
    frames = down ++ k.frames

    same : coming h u up down ≡ frames
    same = ap (λ (r : Option Reply). down ++ frames_of r) k.folds

    none : fills (at_file f frames) ≡ false
    none = ap (λ (fs : List Hmesg). fills (at_file f fs)) (sym same) ∙ quiet

    was : weigh (all_wants (coming h u up down) (views u)) (coming h u up down) + 4 * all_wants (coming h u up down) (views u) f
        ≡ weigh (all_wants frames (views u)) frames + 4 * all_wants frames (views u) f
    was = ap (λ (fs : List Hmesg). weigh (all_wants fs (views u)) fs + 4 * all_wants fs (views u) f) same

    Lower : List Hmesg → ℕ → Type 0
    Lower more g = all_wants (frames ++ more) (views z) g ≤ all_wants frames (views u) g

    -- what comes of a file that wants no more than before
    lower : (more : List Hmesg) → ((g : ℕ) → (g == f) ≡ false → AreSkips (at_file g more)) → Lower more f → (g : ℕ) → Lower more g
    lower more skips here g = by (g == f) refl
      where
        by : (b : Bool) → (g == f) ≡ b → Lower more g
        by true e = subst (Lower more) (sym (eqb-true g f e)) here
        by false e =
            let view-is : view g z ≡ view g u = shown u f p q g line o ∙ ap (λ (b : Bool). if b then locked_more (view g u) else view g u) e in
            let same-wants : all_wants (frames ++ more) (views z) g ≡ all_wants frames (views u) g =
            ap (wants (at_file g (frames ++ more))) view-is ∙ ap (λ (s : List Action). wants s (view g u)) (at_file-append g frames more)
            ∙ wants-skips (at_file g frames) (at_file g more) (view g u) (skips g e) in
            omega (arith, same-wants)

    here-view : view f z ≡ locked_more (view f u)
    here-view = shown u f p q f line o ∙ ap (λ (b : Bool). if b then locked_more (view f u) else view f u) (eq-eqb f f refl)

    by : NoAnswer (at_file f frames) (view f u) k.ahead.is_done (file_in k.ahead.files.slots f) ⊎ Answer (at_file f frames) (view f u) k.ahead.is_done (file_in k.ahead.files.slots f)
        → work h z (up ++ ((flushed u).1 ++ Trequest f p q ∷ [])) down
        < work_of (length up) (length (unsent_message u.unsent)) (coming h u up down) (views u) + (2 + 4 * all_wants (coming h u up down) (views u) f)
    by (inl mute) =
        let sent = sent-one h u up down (Trequest f p q) k (counted k.ahead, []) (request-none k.ahead f p q mute.none) in
        let wants-same : all_wants (frames ++ []) (views z) f ≡ all_wants frames (views u) f =
        ap (λ (fs : List Hmesg). wants (at_file f fs) (view f z)) (append-nil frames) ∙ ap (wants (at_file f frames)) here-view
        ∙ ap (λ (r : Option Lens). gaps_in r + late (at_file f frames)) mute.same in
        let less = weigh-less (all_wants (frames ++ []) (views z)) (all_wants frames (views u)) frames (lower [] (λ g e. tt) (omega (arith, wants-same))) in
        let now : weigh (all_wants (coming h u up down ++ []) (views z)) (coming h u up down ++ []) ≡ weigh (all_wants (frames ++ []) (views z)) frames =
        ap (λ (fs : List Hmesg). weigh (all_wants (fs ++ []) (views z)) (fs ++ [])) same ∙ ap (weigh (all_wants (frames ++ []) (views z))) (append-nil frames) in
        omega (arith, sent.number, less, now, was)
    by (inr answer) =
        let told = Hdata f (data_at answer.text p) (data_of answer.text p q) ∷ Hunlockfile f ∷ [] in
        let sent = sent-one h u up down (Trequest f p q) k (counted k.ahead, told) (request-data k.ahead f p q answer.text answer.runs answer.opened) in
        let w = all_wants (frames ++ told) (views z) in
        let there : w f ≡ wants (at_file f frames ++ data_actions answer.text p q) (locked_more (view f u)) =
        ap (wants (at_file f (frames ++ told))) here-view
        ∙ ap (λ (s : List Action). wants s (locked_more (view f u))) (at_file-append f frames told ∙ ap (λ (s : List Action). at_file f frames ++ s) (data-there f (data_at answer.text p) (data_of answer.text p q))) in
        let fewer : w f < all_wants frames (views u) f = omega (arith, there, wants-less (at_file f frames) (view f u) _ _ answer p q gap none) in
        let less = weigh-less w (all_wants frames (views u)) frames (lower told (λ g e. data-elsewhere f g (data_at answer.text p) (data_of answer.text p q) e) (omega (arith, fewer))) in
        let now : weigh (all_wants (coming h u up down ++ told) (views z)) (coming h u up down ++ told) ≡ weigh w frames + (2 + ((2 + 4 * w f) + 0)) =
        ap (λ (fs : List Hmesg). weigh (all_wants (fs ++ told) (views z)) (fs ++ told)) same ∙ weigh-append w frames told in
        omega (arith, sent.number, less, now, was, fewer)

-- an acknowledgement
acked : (h : PlainHost) (u : PlainTerminal) (up : List Tmesg) (down : List Hmesg) → AllComeToSync h (views u) (up ++ unsent_message u.unsent) down → IsNoLine u.unsent
    → work h (composed (flushed u).0 Tack) (up ++ ((flushed u).1 ++ Tack ∷ [])) down < work_of (length up) (length (unsent_message u.unsent)) (coming h u up down) (views u) + 2
acked h u up down k line =
    let z = composed (flushed u).0 Tack in
    let fs = coming h u up down in
    let sent = sent-one h u up down Tack k (counted k.ahead, []) (grind arith) in
    let less = work-alike 0 0 fs (fs ++ []) (views u) (views z) (sym (append-nil fs)) (λ g. view-sent u line g) in
    omega (arith, sent.number, less)

-- the window of f but for its locks
pub record IsAlike (u t : PlainTerminal) (f : ℕ) : Type 0 where
  start : (window_at u f).view_start ≡ (window_at t f).view_start
  rasp : (window_at u f).rasp ≡ (window_at t f).rasp
  awaited : (window_at u f).awaited ≡ (window_at t f).awaited

alike-unlocked : (t : PlainTerminal) (f : ℕ) → IsAlike (effect t (Hunlockfile f)) t f
unfolding took_unlockfile
alike-unlocked t f = grind (arith, slot-put_same)

-- the number, opened
work-is : (h : PlainHost) (t : PlainTerminal) (up : List Tmesg) (down : List Hmesg)
    → work h t up down ≡ work_of (length up) (length (unsent_message t.unsent)) (coming h t up down) (views t)
unfolding work
work-is h t up down = refl

-- the frame is taken, and what follows is composed
pub work-frame : (h : PlainHost) (t : PlainTerminal) (up : List Tmesg) (m : Hmesg) (down : List Hmesg) → InOrder h t up (m ∷ down)
    → InOrder h (frame_outcome t m).0 (up ++ (frame_outcome t m).1) down → AreAwaited h t up (m ∷ down)
    → work h (frame_outcome t m).0 (up ++ (frame_outcome t m).1) down < work h t up (m ∷ down)
work-frame h t up m down o n awaits =
    subst (λ (x : Made). work h x.0 (up ++ x.1) down < work h t up (m ∷ down)) (sym (composes-is h t up m down o)) (by m refl)
  where
    u : PlainTerminal
    u = effect t m

    fs : List Hmesg
    fs = coming h u up down

    k : AllComeToSync h (views u) (up ++ unsent_message u.unsent) down
    k = taken h t up m down o

    line : IsNoLine u.unsent
    line = subst IsNoLine (sym (unsent-left h t up m down o)) (no-line t o.unsent)

    before : work_of (length up) (length (unsent_message u.unsent)) fs (views u) + weight (all_wants fs (views u)) m ≤ work h t up (m ∷ down)
    before = work-taken h t up m down o

    silent : work h u (up ++ []) down < work h t up (m ∷ down)
    silent =
        let here : work h u (up ++ []) down ≡ work h u up down = ap (λ (l : List Tmesg). work h u l down) (append-nil up) in
        omega (arith, here, before, work-is h u up down, weight-some (all_wants fs (views u)) m)

    Falls : Option Tmesg → Type 0
    Falls x = work h (sends_if x u).0 (up ++ (sends_if x u).1) down < work h t up (m ∷ down)

    wanting : (f : ℕ) → weight (all_wants fs (views u)) m ≡ 2 + 4 * all_wants fs (views u) f → (window_at u f).view_start ≤ length (window_at u f).rasp
        → ((window_at u f).awaited ≡ 0 → AwaitsAll 0 (coming_to f h up down)) → Falls (wanted u f)
    wanting f weighs tidy quiet = from (wanted u f) refl
      where
        from : (x : Option Tmesg) → wanted u f ≡ x → Falls x
        from None e = silent
        from (Some x) e =
            let w = wanted-is u f x tidy e in
            let unsent-quiet : AwaitsAll 0 (at_file f fs) =
            awaited-plain f 0 h up (unsent_message u.unsent) down (k.ahead, k.frames) k.folds (grind arith) (quiet w.none) in
            subst (λ (y : Tmesg). Falls (Some y)) (sym w.is)
            (let less = asked h u up down k line f w.place w.many w.opened w.here w.gap (awaits-quiet (at_file f fs) unsent-quiet) in omega (arith, less, before, weighs))

    -- a frame of f that asks for nothing of its own
    asks : (f : ℕ) (y : Hmesg) → y ≡ m → weight (all_wants fs (views u)) y ≡ 2 + 4 * all_wants fs (views u) f → ((n : ℕ) → left (action f y) n ≡ n) → IsAlike (effect t y) t f → Falls (wanted (effect t y) f)
    asks f y e weighs stays alike =
        subst (λ (v : PlainTerminal). Falls (wanted v f)) (sym (ap (effect t) e))
        (wanting f (ap (weight (all_wants fs (views u))) (sym e) ∙ weighs) (subst (λ (v : PlainTerminal). (window_at v f).view_start ≤ length (window_at v f).rasp) (ap (effect t) e) tidy) quiet)
      where
        tidy : (window_at (effect t y) f).view_start ≤ length (window_at (effect t y) f).rasp
        tidy = omega (arith, alike.start, ap (λ (r : PartialText). length r) alike.rasp, (o.tidy f).2)

        quiet : (window_at u f).awaited ≡ 0 → AwaitsAll 0 (coming_to f h up down)
        quiet none =
            let here : left (action f m) (window_at t f).awaited ≡ 0 =
            ap (λ (x : Hmesg). left (action f x) (window_at t f).awaited) (sym e) ∙ stays (window_at t f).awaited ∙ sym alike.awaited
            ∙ ap (λ (v : PlainTerminal). (window_at v f).awaited) (ap (effect t) e) ∙ none in
            subst (λ (j : ℕ). AwaitsAll j (coming_to f h up down)) here ((awaits f).1)

    by : (y : Hmesg) → y ≡ m → Falls (composed_for t y)
    by (Hcheck f) e = asks f (Hcheck f) e refl (λ n. rw (eq-eqb f f refl) refl) (record { start = refl; rasp = refl; awaited = refl })
    by (Hunlockfile f) e = asks f (Hunlockfile f) e refl (λ n. rw (eq-eqb f f refl) refl) (alike-unlocked t f)
    by Hack e = sees t.has_exited
      where
        sees : (b : Bool) → Falls (if b then None else Some Tack)
        sees true = silent
        sees false = omega (arith, acked h u up down k line, before, weight-some (all_wants fs (views u)) m)
    by y e = silent
