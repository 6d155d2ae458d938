-- What was written into a connection, what was read of it, and the stream that it carries.
use Rattle.std.proofs.Common.{◌≡◌, ℕ, ◌+◌, ◌<◌, ◌≤◌, List, [], ◌++◌, length, take, drop, Bool, true, false, refl, sym, ap, ◌∙◌, subst, append_assoc, append-nil, arith, length-append, length-drop, drop-drop, nat_le, ◌⊎◌, inl, inr}
use Rattle.std.proofs.lemmas.List.{drop-append-le, take-append-drop}
use Rattle.std.proofs.Math.ListN.{drop_of_length-le}
use Rattle.std.proofs.Math.Seq.{drop-append_seam}
use Rattle.sam_link.specs.Hellos.{IsHello, spelled}
use Rattle.sam_link.specs.Sessions.{StartsWith}
use Rattle.sam_link.specs.declared.hello.Hello.{Hello}
use Rattle.sam_link.proofs.HelloLaws.{one_hello}

-- From a place in the stream on, a connection was given these bytes, of which those were read: so many have come
pub record Line (stream given read : List ℕ) (start came : ℕ) : Type 0 where
  pub goes : StartsWith (drop start stream) given
  pub reads : StartsWith given read
  pub count : came ≡ start + length read
  pub inside : start ≤ length stream

pub none : {A : Type 0} (xs : List A) → StartsWith xs []
none xs = record { rest = xs; is = refl }

pub all : {A : Type 0} (xs : List A) → StartsWith xs xs
all xs = record { rest = []; is = sym (append-nil xs) }

pub drop_more : {A : Type 0} (n : ℕ) (xs more : List A) → n ≤ length xs → drop n (xs ++ more) ≡ drop n xs ++ more
drop_more n xs more inside = drop-append-le n xs more inside

pub longer : {A : Type 0} (xs more front : List A) → StartsWith xs front → StartsWith (xs ++ more) front
longer xs more front s = record { rest = s.rest ++ more; is = grind (arith, s.is, append_assoc) }

pub line_longer : (stream given read more : List ℕ) (start came : ℕ) → Line stream given read start came → Line (stream ++ more) given read start came
line_longer stream given read more start came l =
    record {
      goes = subst (λ (w : List ℕ). StartsWith w given) (sym (drop_more start stream more l.inside)) (longer (drop start stream) more given l.goes);
      reads = l.reads;
      count = l.count;
      inside = omega (arith, l.inside, (length-append stream more));
    }

pub line_read : (stream given read piece : List ℕ) (start came : ℕ) → Line stream given read start came → StartsWith given (read ++ piece)
    → Line stream given (read ++ piece) start (came + length piece)
line_read stream given read piece start came l reads =
    record { goes = l.goes; reads = reads; count = omega (arith, l.count, (length-append read piece)); inside = l.inside }

-- what is read next is what comes next in the stream
pub comes_next : (stream given read piece came : List ℕ) (start received : ℕ) → Line stream given read start received → StartsWith given (read ++ piece)
    → StartsWith stream came → received ≡ length came → StartsWith stream (came ++ piece)
comes_next stream given read piece came start received l reads front long =
    let next : drop start stream ≡ read ++ (piece ++ (reads.rest ++ l.goes.rest)) =
    l.goes.is ∙ ap (λ b. b ++ l.goes.rest) reads.is ∙ grind (arith, append_assoc) in
    let left : drop (length read) (drop start stream) ≡ piece ++ (reads.rest ++ l.goes.rest) =
    ap (λ b. drop (length read) b) next ∙ drop-append_seam read (piece ++ (reads.rest ++ l.goes.rest)) in
    let there : drop (length came) stream ≡ piece ++ (reads.rest ++ l.goes.rest) =
    grind (arith, left, (drop-drop (length read) start stream), l.count, long) in
    let behind : front.rest ≡ piece ++ (reads.rest ++ l.goes.rest) =
    sym (drop-append_seam came front.rest) ∙ ap (λ b. drop (length came) b) (sym front.is) ∙ there in
    record { rest = reads.rest ++ l.goes.rest; is = front.is ∙ ap (λ b. came ++ b) behind ∙ sym (append_assoc came piece (reads.rest ++ l.goes.rest)) }

-- a connection begins with one hello
pub same_hello : (x g : Hello) (went ahead tail : List ℕ) → IsHello x → IsHello g → StartsWith went (spelled x) → went ++ ahead ≡ spelled g ++ tail → x ≡ g
same_hello x g went ahead tail is fine starts e =
    let both : spelled x ++ (starts.rest ++ ahead) ≡ spelled g ++ tail = sym (append_assoc (spelled x) starts.rest ahead) ∙ ap (λ b. b ++ ahead) (sym starts.is) ∙ e in
    one_hello x g is fine (ap (λ b. take 42 b) both)

pub no_hello : (x : Hello) → StartsWith [] (spelled x) → ⊥
no_hello x starts = omega (arith, (ap length starts.is), (length-append (spelled x) starts.rest))

pub at_most : (a b : ℕ) (t : Bool) → nat_le a b ≡ t → (a ≤ b) ⊎ (b < a)
at_most a b true e = inl (grind (arith, e))
at_most a b false e = inr (grind (arith, e))

-- what was written behind a hello is the front of what is behind it
pub behind_hello : (g : Hello) (went ahead tail : List ℕ) → went ++ ahead ≡ spelled g ++ tail → StartsWith tail (drop 42 went)
behind_hello g went ahead tail e = elim (at_most 42 (length went) (nat_le 42 (length went)) refl) [
  | inl long ↦ record { rest = ahead; is = ap (λ b. drop 42 b) (sym e) ∙ drop-append-le 42 went ahead long }
  | inr short ↦ rw (drop_of_length-le went {i = 42} (omega (arith, short))) (none tail)
]

-- nothing is written behind a hello that is not yet whole
pub hello_alone : (g : Hello) (went ahead : List ℕ) → went ++ ahead ≡ spelled g → drop 42 went ≡ []
hello_alone g went ahead e =
    drop_of_length-le went {i = 42} (omega (arith, (ap length e), (length-append went ahead)))

-- more is written
pub drop_grows : (n : ℕ) (went bytes : List ℕ) → StartsWith (drop n (went ++ bytes)) (drop n went)
drop_grows n went bytes = elim (at_most n (length went) (nat_le n (length went)) refl) [
  | inl long ↦ record { rest = bytes; is = drop-append-le n went bytes long }
  | inr short ↦ rw (drop_of_length-le went {i = n} (omega (arith, short))) (none (drop n (went ++ bytes)))
]

pub starts_on : {A : Type 0} (whole middle front : List A) → StartsWith whole middle → StartsWith middle front → StartsWith whole front
starts_on whole middle front s r = record { rest = r.rest ++ s.rest; is = s.is ∙ ap (λ b. b ++ s.rest) r.is ∙ append_assoc front r.rest s.rest }

-- what is read lies behind what went
pub read_in : (went hello stream head read old : List ℕ) (given from received : ℕ) → given ≤ length stream → from ≤ length stream → length head ≡ 42
    → went ++ (hello ++ drop given stream) ≡ head ++ drop from stream → StartsWith (drop 42 went) read → received ≡ from + length read
    → from + length old ≤ given → received ≤ given
read_in went hello stream head read old given from received one two long e reads count before = omega (
  arith,
  count,
  before,
  long,
  (ap length e),
  (length-append went (hello ++ drop given stream)),
  (length-append hello (drop given stream)),
  (length-append head (drop from stream)),
  (length-drop given stream),
  (length-drop from stream),
  (length-drop 42 went),
  (ap length reads.is),
  (length-append read reads.rest),
)

-- bytes go, first those of the hello
pub gone_on : (hello rest : List ℕ) (a b : ℕ) → (b ≡ 0) ⊎ (drop a hello ≡ []) → (take a hello ++ take b rest) ++ (drop a hello ++ drop b rest) ≡ hello ++ rest
gone_on hello rest a b (inl none) = grind (arith, none, (take-append-drop a hello), append_assoc, append-nil)
gone_on hello rest a b (inr whole) = grind (arith, whole, (take-append-drop a hello), (take-append-drop b rest), append_assoc, append-nil)

pub went_on : (went bytes left hello target : List ℕ) → bytes ++ left ≡ hello → went ++ hello ≡ target → (went ++ bytes) ++ left ≡ target
went_on went bytes left hello target e f = append_assoc went bytes left ∙ ap (λ b. went ++ b) e ∙ f
