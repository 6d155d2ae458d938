-- How much may go out, counted.
use Rattle.std.proofs.Common.{◌≡◌, ◌⊎◌, inl, inr, ℕ, zero, ◌≤◌, length, List, [], ◌∷◌, ◌++◌, true, Ok, refl, sym, ap, ◌∙◌, subst, arith, length-append, true≢false}
use Rattle.sam_link.specs.Calls.{Call, Does, DoesAll}
use Rattle.sam_link.specs.End.{End, TakesOut, fresh, is_up}
use Rattle.sam_link.specs.declared.phase.Role.TheVariants.{Host}
use Rattle.sam_served.specs.Crashes.{AreLike, LedTo, left, new_durable_session, went_out}
use Rattle.sam_served.specs.Gates.{GateIsCounted, put_count}
use Rattle.sam_served.proofs.Crashing.{all_run, first_runs, made_of, with_host}
use Rattle.sam_served.proofs.Gates.{all_fine, fronts_ahead}
use Rattle.sam_served.proofs.Lefts.{TookNone, TookOut, either, left_all}
use Rattle.sam_server.proofs.One.{one_end}
use Rattle.sam_served.proofs.Repeating.{first_fine}

-- what goes out changes neither how much was put nor the connection
pub record Same (a b : End) : Type 0 where
  pub count : put_count a ≡ put_count b
  pub attempt : a.attempt ≡ b.attempt

out_same : (a b : End) (attempt count : ℕ) (old new : List ℕ) → TakesOut a attempt old (Ok count) new b → Same a b
out_same a b attempt count old new x = subst (λ k. Same a k) (sym x.4) (record { count = refl; attempt = refl })

-- the calls in two parts
pub does_parts : (cs ds : List Call) (e n : End) → DoesAll e (cs ++ ds) n → (m : End) × DoesAll e cs m × DoesAll m ds n
does_parts [] ds e n all = (e, refl, all)
does_parts (c ∷ cs) ds e n (k, does, rest) = let p = does_parts cs ds k n rest in (p.0, (k, does, p.1), p.2)

same_then : (a b c : End) → Same a b → Same b c → Same a c
same_then a b c x y = record { count = x.count ∙ y.count; attempt = x.attempt ∙ y.attempt }

outs_by : (c : Call) (cs : List Call) (e n : End) → TookNone c ⊎ TookOut c → ((m : End) → DoesAll m (left zero cs) n → Same m n)
    → DoesAll e (went_out c ++ left zero cs) n → Same e n
outs_by c cs e n (inl none) so all = so e (subst (λ l. DoesAll e (l ++ left zero cs) n) none.goes all)
outs_by c cs e n (inr took) so all =
    let mine = subst (λ l. DoesAll e (l ++ left zero cs) n) took.stays all in
    same_then e mine.0 n (out_same e mine.0 took.attempt took.count took.old took.new (subst (λ d. Does e d mine.0) took.is mine.1))
    (so mine.0 mine.2)

outs_same : (cs : List Call) (e n : End) → DoesAll e (left zero cs) n → Same e n
outs_same [] e n all = subst (λ k. Same e k) (sym all) (record { count = refl; attempt = refl })
outs_same (c ∷ cs) e n all = outs_by c cs e n (either c) (λ m. outs_same cs m n) all

-- what is left of calls that begin so
left_front : (front rest : List Call) → left (length front) (front ++ rest) ≡ front ++ left zero rest
left_front [] rest = refl
left_front (c ∷ front) rest = ap (λ (l : List Call). c ∷ l) (left_front front rest)

pub up_is_one : (a b : End) → AreLike a b → is_up a.phase ≡ true → a ≡ b
up_is_one a b (inl same) up = same
up_is_one a b (inr o) up = absurd (true≢false (sym up ∙ ap is_up o.1))

pub gate_is_counted : GateIsCounted
gate_is_counted id events w front rest b attempt count old new leads is durable made up here number room =
    let r = all_run id events (new_durable_session id) w (first_runs id) leads in
    let f = r.stands.fronts w.durable (omega arith) in
    let calls = w.session.host_calls in
    let mine : LedTo id (left w.durable calls) f.host = made_of id (with_host w.session (left w.durable calls) f.host) f.steps f.leads in
    let shape : left w.durable calls ≡ front ++ left zero rest =
    ap (λ (l : List Call). left w.durable l) is ∙ ap (λ (n : ℕ). left n (front ++ rest)) (sym durable) ∙ left_front front rest in
    let parts = does_parts front (left zero rest) (fresh Host id) f.host (subst (λ l. LedTo id l f.host) shape mine) in
    let begin : parts.0 ≡ b = one_end front (fresh Host id) parts.0 b parts.1 made in
    let same : Same b f.host = outs_same rest b f.host (subst (λ m. DoesAll m (left zero rest) f.host) begin parts.2) in
    let host : w.session.host ≡ r.end = up_is_one w.session.host r.end r.like up in
    let all : LedTo id (left (length calls) calls) w.session.host =
    subst (λ l. LedTo id l w.session.host) (sym (left_all (length calls) calls (omega arith)))
    (subst (λ m. LedTo id calls m) (sym host) (made_of id (with_host w.session calls r.end) r.stands.steps r.stands.leads)) in
    let within : w.durable ≤ length calls = omega (arith, durable, ap length is, length-append front rest) in
    let ahead = fronts_ahead w.durable (length calls) calls (fresh Host id) f.host w.session.host within (first_fine id) mine all in
    let k = ahead.alike (sym same.attempt ∙ here) up in (
      f.host,
      mine,
      ap is_up k.phase ∙ up,
      number ∙ sym here ∙ same.attempt,
      omega (
        arith,
        room,
        k.place,
        same.count,
        ap length k.hello,
        (all_fine (left w.durable calls) (fresh Host id) f.host (first_fine id) mine).inside,
      ),
    )
