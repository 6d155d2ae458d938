-- A text that is typed in pieces.
use Rattle.std.proofs.Common.{◌≡◌, ◌∙◌, refl, sym, ap, subst, ℕ, zero, suc, ◌+◌, ◌*◌, ◌<◌, ◌≤◌, ◌⊎◌, inl, inr, List, [], ◌∷◌, ◌++◌, length, take, drop, drop-drop, Result, Ok, Err, is_err, true, false, length-drop, length-take, take_all, ◌-◌, arith}
use Rattle.sam_term.specs.declared.event.UserEvent.TheVariants.{Typed}
use Rattle.sam_endpoint.specs.TermEndpoints.{PlainTermEndpoint, Puts}
use Rattle.sam_endpoint.specs.TermRuns.{Runs}
use Rattle.sam_endpoint.specs.declared.fault.EndpointFault.{EndpointFault}
use Rattle.sam_endpoint.specs.declared.fault.EndpointFault.TheVariants as fault
use Rattle.sam_endpoint.specs.declared.fault.TermStop.{TermStop}
use Rattle.sam_c.specs.Typing.{TypesPiece, TypesText, pieces, taken_of, typings}
use Rattle.sam_c.specs.declared.term_typing.TypedText.{TypedText}
unfoldable use Rattle.sam_c.specs.Terms.{TermDoes}

pub pieces-more : (n : ℕ) (runes : List ℕ) → pieces (suc n) runes ≡ pieces n runes ++ take 512 (drop (n * 512) runes) ∷ []
pieces-more zero runes = refl
pieces-more (suc n) runes =
    ap (λ ps. take 512 runes ∷ ps) (pieces-more n (drop 512 runes)
    ∙ ap (λ rest. pieces n (drop 512 runes) ++ take 512 rest ∷ []) (drop-drop (n * 512) 512 runes ∙ ap (λ k. drop k runes) (omega arith)))

pub typed-more : (tag : ℕ) (ps : List (List ℕ)) (p : List ℕ) (e k g : PlainTermEndpoint) → Runs e (typings tag ps) k → Puts k (Typed tag p) (Ok tt) g
    → Runs e (typings tag (ps ++ p ∷ [])) g
typed-more tag [] p e k g same puts = (g, subst (λ x. Puts x (Typed tag p) (Ok tt) g) same puts, tt, refl)
typed-more tag (q ∷ ps) p e k g (m, is, goes, runs) puts = (m, is, goes, typed-more tag ps p m k g runs puts)

-- so many whole pieces are typed, and this is left
pub record Stands (e : PlainTermEndpoint) (tag : ℕ) (runes rest : List ℕ) (k : PlainTermEndpoint) : Type 0 where
  pub n : ℕ
  pub rest_is : rest ≡ drop (n * 512) runes
  pub more : (n ≡ 0) ⊎ (n * 512 < length runes)
  pub runs : Runs e (typings tag (pieces n runes)) k

pub starts : (e : PlainTermEndpoint) (tag : ℕ) (runes : List ℕ) → Stands e tag runes runes e
starts e tag runes = record { n = 0; rest_is = refl; more = inl refl; runs = refl }

left-of : (e k : PlainTermEndpoint) (tag : ℕ) (runes rest : List ℕ) (s : Stands e tag runes rest k) → (length rest ≡ length runes - s.n * 512) × (s.n * 512 ≤ length runes)
left-of e k tag runes rest s = (ap length s.rest_is ∙ length-drop (s.n * 512) runes, go s.n s.more)
  where
    go : (n : ℕ) → (n ≡ 0) ⊎ (n * 512 < length runes) → n * 512 ≤ length runes
    go n (inl none) = omega (arith, none)
    go n (inr some) = omega (arith, some)

pub shorter : (e k : PlainTermEndpoint) (tag : ℕ) (runes rest : List ℕ) → Stands e tag runes rest k → length rest ≤ length runes
shorter e k tag runes rest s = omega (arith, (left-of e k tag runes rest s).0)

pub few_taken : (answer : Result (Unit {0}) (EndpointFault TermStop)) (n : ℕ) → taken_of answer n ≤ n
few_taken (Ok done) n = omega arith
few_taken (Err fault.Unfinished) n = omega arith
few_taken (Err fault.OutOfMemory) n = omega arith
few_taken (Err fault.CountFull) n = omega arith
few_taken (Err (fault.Stopped why)) n = omega arith

put-well : (k g : PlainTermEndpoint) (tag : ℕ) (piece : List ℕ) (answer : Result (Unit {0}) (EndpointFault TermStop)) → TypesPiece k tag piece answer g → is_err answer ≡ false
    → Puts k (Typed tag piece) (Ok tt) g
unfolding TermDoes
put-well k g tag piece (Ok done) (inl (inl (m, puts, goes, same))) well = subst (λ x. Puts k (Typed tag piece) (Ok tt) x) (sym same) puts
put-well k g tag piece (Ok done) (inl (inr (why, (puts, none)))) well = grind (arith, none)
put-well k g tag piece (Ok done) (inr none) well = grind (arith, none)
put-well k g tag piece (Err why) types well = grind (arith, well)

-- a whole piece was typed, and answered well
pub one_more : (e k g : PlainTermEndpoint) (tag : ℕ) (runes rest next : List ℕ) (answer : Result (Unit {0}) (EndpointFault TermStop)) → Stands e tag runes rest k → 512 < length rest
    → TypesPiece k tag (take 512 rest) answer g → is_err answer ≡ false → next ≡ drop 512 rest → Stands e tag runes next g
one_more e k g tag runes rest next answer s long types well is =
    let left = left-of e k tag runes rest s in
    let put : Puts k (Typed tag (take 512 (drop (s.n * 512) runes))) (Ok tt) g =
    subst (λ r. Puts k (Typed tag (take 512 r)) (Ok tt) g) s.rest_is (put-well k g tag (take 512 rest) answer types well) in
    record {
      n = suc s.n;
      rest_is = is ∙ ap (drop 512) s.rest_is ∙ drop-drop 512 (s.n * 512) runes ∙ ap (λ n. drop n runes) (omega arith);
      more = inr (omega (arith, left.0, left.1, long));
      runs = subst (λ ps. Runs e (typings tag ps) g) (sym (pieces-more s.n runes)) (typed-more tag (pieces s.n runes) (take 512 (drop (s.n * 512) runes)) e k g s.runs put);
    }

ends : (e k g : PlainTermEndpoint) (tag : ℕ) (runes rest : List ℕ) (answer : Result (Unit {0}) (EndpointFault TermStop)) (count : ℕ) → Stands e tag runes rest k
    → TypesPiece k tag (take 512 rest) answer g → (answer ≡ Ok tt → length rest ≤ 512) → count ≡ length runes - length rest + taken_of answer (length (take 512 rest))
    → TypesText e tag runes (record { runes = count; result = answer }) g
ends e k g tag runes rest answer count s types last is =
    let left = left-of e k tag runes rest s in
    record {
      n = s.n;
      middle = k;
      runs = s.runs;
      more = s.more;
      last = subst (λ r. TypesPiece k tag (take 512 r) answer g) s.rest_is types;
      is_last = λ well. omega (arith, last well, left.0, left.1);
      count = is ∙ ap (λ r. length runes - length rest + taken_of answer (length (take 512 r))) s.rest_is
          ∙ ap (λ n. n + taken_of answer (length (take 512 (drop (s.n * 512) runes)))) (omega (arith, left.0, left.1));
    }

-- a whole piece was not answered well
pub err_ends : (e k g : PlainTermEndpoint) (tag : ℕ) (runes rest : List ℕ) (answer : Result (Unit {0}) (EndpointFault TermStop)) (count : ℕ) → Stands e tag runes rest k
    → 512 < length rest → TypesPiece k tag (take 512 rest) answer g → is_err answer ≡ true → count ≡ length runes - length rest + taken_of answer 512
    → TypesText e tag runes (record { runes = count; result = answer }) g
err_ends e k g tag runes rest answer count s long types bad is =
    ends e k g tag runes rest answer count s types (λ well. grind (arith, well, bad))
    (is ∙ ap (λ n. length runes - length rest + taken_of answer n) (omega (arith, length-take 512 rest, long)))

-- the last piece was typed
pub last_ends : (e k g : PlainTermEndpoint) (tag : ℕ) (runes rest : List ℕ) (answer : Result (Unit {0}) (EndpointFault TermStop)) (count : ℕ) → Stands e tag runes rest k
    → length rest ≤ 512 → TypesPiece k tag rest answer g → count ≡ length runes - length rest + taken_of answer (length rest)
    → TypesText e tag runes (record { runes = count; result = answer }) g
last_ends e k g tag runes rest answer count s short types is =
    let all : take 512 rest ≡ rest = take_all 512 rest short in
    ends e k g tag runes rest answer count s (subst (λ r. TypesPiece k tag r answer g) (sym all) types) (λ well. short)
    (is ∙ ap (λ r. length runes - length rest + taken_of answer (length r)) (sym all))

-- no more runes were taken than the text has
pub typed_within : (e g : PlainTermEndpoint) (tag : ℕ) (runes : List ℕ) (typed : TypedText) → TypesText e tag runes typed g → typed.runes ≤ length runes
typed_within e g tag runes typed t =
    let rest = drop (t.n * 512) runes in
    omega (
      arith,
      t.count,
      few_taken typed.result (length (take 512 rest)),
      length-take 512 rest,
      length-drop (t.n * 512) runes,
      within t.n t.more,
    )
  where
    within : (n : ℕ) → (n ≡ 0) ⊎ (n * 512 < length runes) → n * 512 ≤ length runes
    within n (inl none) = omega (arith, none)
    within n (inr some) = omega (arith, some)
