-- What a crash leaves of the calls, and what it leaves of that at another.
use Rattle.std.proofs.Common.{◌≡◌, ◌⊎◌, inl, inr, ℕ, zero, suc, ◌≤◌, length, List, [], ◌∷◌, ◌++◌, drop, Ok, Err, refl, sym, ap, ◌∙◌, subst, append_assoc, append-nil, arith}
use Rattle.sam_link.specs.Calls.{Call, fed, out, out_by}
use Rattle.sam_link.specs.Calls.Call.{Acknowledge, Answer, Ask, Break, Dial, Feed, NextNote, Put, PutNote, TakeIn, TakeOut, Welcome}
use Rattle.sam_link.specs.Hellos.{spelled}
use Rattle.sam_link.specs.Sessions.{StartsWith, WasCarried}
use Rattle.sam_served.specs.Crashes.{left, went_out}

-- the call took bytes out
pub record TookOut (c : Call) : Type 0 where
  pub attempt : ℕ
  pub old : List ℕ
  pub count : ℕ
  pub new : List ℕ
  pub is : c ≡ TakeOut attempt old (Ok count) new
  pub stays : went_out c ≡ c ∷ []

-- or it is lost, and then nothing of it went out
pub record TookNone (c : Call) : Type 0 where
  pub goes : went_out c ≡ []
  pub silent : (m : ℕ) → out_by m c ≡ []

pub either : (c : Call) → TookNone c ⊎ TookOut c
either (TakeOut attempt old (Ok count) new) =
    inr (record { attempt = attempt; old = old; count = count; new = new; is = refl; stays = refl })
either (TakeOut attempt old (Err why) new) = inl (record { goes = refl; silent = λ m. refl })
either (Dial take_over answer) = inl (record { goes = refl; silent = λ m. refl })
either (Answer hello answer) = inl (record { goes = refl; silent = λ m. refl })
either (Welcome hello answer) = inl (record { goes = refl; silent = λ m. refl })
either (Break attempt) = inl (record { goes = refl; silent = λ m. refl })
either (Put bytes answer) = inl (record { goes = refl; silent = λ m. refl })
either (PutNote bytes answer) = inl (record { goes = refl; silent = λ m. refl })
either (Ask answer) = inl (record { goes = refl; silent = λ m. refl })
either (Acknowledge answer) = inl (record { goes = refl; silent = λ m. refl })
either (Feed attempt piece (Ok done)) = inl (record { goes = refl; silent = λ m. refl })
either (Feed attempt piece (Err why)) = inl (record { goes = refl; silent = λ m. refl })
either (TakeIn old count new) = inl (record { goes = refl; silent = λ m. refl })
either (NextNote answer) = inl (record { goes = refl; silent = λ m. refl })

pub left_all : (n : ℕ) (cs : List Call) → length cs ≤ n → left n cs ≡ cs
left_all n [] inside = refl
left_all zero (c ∷ cs) inside = absurd (omega (arith, inside))
left_all (suc n) (c ∷ cs) inside = ap (λ (l : List Call). c ∷ l) (left_all n cs (omega (arith, inside)))

pub left_more : (n : ℕ) (cs : List Call) (c : Call) → n ≤ length cs → left n (cs ++ c ∷ []) ≡ left n cs ++ went_out c
left_more zero [] c inside = append-nil (went_out c)
left_more (suc n) [] c inside = absurd (omega (arith, inside))
left_more zero (d ∷ cs) c inside =
    ap (λ (l : List Call). went_out d ++ l) (left_more zero cs c (omega arith))
    ∙ sym (append_assoc (went_out d) (left zero cs) (went_out c))
left_more (suc n) (d ∷ cs) c inside = ap (λ (l : List Call). d ∷ l) (left_more n cs c (omega (arith, inside)))

-- what went out stays
out_stays_by : (n : ℕ) (c : Call) (cs : List Call) → TookNone c ⊎ TookOut c → ((m : ℕ) → left m (left zero cs) ≡ left zero cs)
    → left n (went_out c ++ left zero cs) ≡ went_out c ++ left zero cs
out_stays_by n c cs (inl none) so = rw none.goes (so n)
out_stays_by zero c cs (inr took) so = rw took.stays (rw took.stays (ap (λ (l : List Call). c ∷ l) (so zero)))
out_stays_by (suc n) c cs (inr took) so = rw took.stays (ap (λ (l : List Call). c ∷ l) (so n))

pub out_stays : (n : ℕ) (cs : List Call) → left n (left zero cs) ≡ left zero cs
out_stays n [] = refl
out_stays n (c ∷ cs) = out_stays_by n c cs (either c) (λ m. out_stays m cs)

pub fewer_left : (n k : ℕ) (cs : List Call) → n ≤ k → left n (left k cs) ≡ left n cs
fewer_left n k [] less = refl
fewer_left n zero (c ∷ cs) less = subst (λ m. left m (left zero (c ∷ cs)) ≡ left m (c ∷ cs)) (omega arith) (out_stays zero (c ∷ cs))
fewer_left zero (suc k) (c ∷ cs) less = ap (λ (l : List Call). went_out c ++ l) (fewer_left zero k cs (omega arith))
fewer_left (suc n) (suc k) (c ∷ cs) less = ap (λ (l : List Call). c ∷ l) (fewer_left n k cs (omega (arith, less)))

pub more_left : (n k : ℕ) (cs : List Call) → k ≤ n → left n (left k cs) ≡ left k cs
more_left n k [] less = refl
more_left n zero (c ∷ cs) less = out_stays n (c ∷ cs)
more_left zero (suc k) (c ∷ cs) less = absurd (omega (arith, less))
more_left (suc n) (suc k) (c ∷ cs) less = ap (λ (l : List Call). c ∷ l) (more_left n k cs (omega (arith, less)))

-- no byte that went out is called back
out_left_by : (m : ℕ) (c : Call) (cs : List Call) → TookNone c ⊎ TookOut c → out m (left zero cs) ≡ out m cs
    → out m (went_out c ++ left zero cs) ≡ out m (c ∷ cs)
out_left_by m c cs (inl none) so = rw none.goes (so ∙ ap (λ (l : List ℕ). l ++ out m cs) (sym (none.silent m)))
out_left_by m c cs (inr took) so = rw took.stays (ap (λ (l : List ℕ). out_by m c ++ l) so)

pub out_left : (m n : ℕ) (cs : List Call) → out m (left n cs) ≡ out m cs
out_left m n [] = refl
out_left m zero (c ∷ cs) = out_left_by m c cs (either c) (out_left m zero cs)
out_left m (suc n) (c ∷ cs) = ap (λ (l : List ℕ). out_by m c ++ l) (out_left m n cs)

-- so what was carried was
pub carried_left : (mine theirs others : List Call) (c : Call) → ((m : ℕ) → out m theirs ≡ out m others) → WasCarried mine theirs c
    → WasCarried mine others c
carried_left mine theirs others (Answer hello answer) same x = (x.0, subst (λ o. StartsWith o (spelled hello)) (same hello.attempt) x.1)
carried_left mine theirs others (Welcome hello answer) same x = (x.0, subst (λ o. StartsWith o (spelled hello)) (same hello.attempt) x.1)
carried_left mine theirs others (Feed attempt piece answer) same x =
    subst (λ o. StartsWith (drop 42 o) (fed attempt mine ++ piece)) (same attempt) x
carried_left mine theirs others (Dial take_over answer) same x = tt
carried_left mine theirs others (Break attempt) same x = tt
carried_left mine theirs others (Put bytes answer) same x = tt
carried_left mine theirs others (PutNote bytes answer) same x = tt
carried_left mine theirs others (Ask answer) same x = tt
carried_left mine theirs others (Acknowledge answer) same x = tt
carried_left mine theirs others (TakeOut attempt old answer new) same x = tt
carried_left mine theirs others (TakeIn old count new) same x = tt
carried_left mine theirs others (NextNote answer) same x = tt
