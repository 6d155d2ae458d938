-- What is made of a journal is like the end that wrote it, and goes on as that would.
use Rattle.std.proofs.Common.{◌≡◌, inl, inr, ℕ, length, List, [], Bool, true, false, ◌&&◌, None, Some, Result, Ok, Err, refl, sym, ap, ◌∙◌, subst, true≢false}
use Rattle.std.specs.Prelude.{◌==◌, if◌then◌else◌}
use Rattle.sam_mesg.specs.Spelling.{eight, frame}
use Rattle.sam_link.specs.Calls.{Acknowledges, Call, Does}
use Rattle.sam_link.specs.Calls.Call.{Acknowledge, Answer, Ask, Break, Dial, Feed, NextNote, Put, PutNote, TakeIn, TakeOut, Welcome}
use Rattle.sam_link.specs.End.{AnswersBy, CallsBy, End, TakesOut, WelcomesBy, answered, broken, ended, is_up, refusal_of}
use Rattle.sam_link.specs.Feeding.{Feeds, PutsNote, is_open}
use Rattle.sam_link.specs.Inbox.{GivesNote, Waiting, left_of}
use Rattle.sam_link.specs.Keeping.{HasRoom, Keeps, Puts, put}
use Rattle.sam_link.specs.Putting.{data_stream}
use Rattle.sam_link.specs.declared.fault.AnswerFault.{AnswerFault}
use Rattle.sam_link.specs.declared.fault.AnswerFault.TheVariants as answers
use Rattle.sam_link.specs.declared.fault.CallFault.{CallFault}
use Rattle.sam_link.specs.declared.fault.CallFault.TheVariants as calls
use Rattle.sam_link.specs.declared.fault.FeedFault.{FeedFault}
use Rattle.sam_link.specs.declared.fault.FeedFault.TheVariants as feeds
use Rattle.sam_link.specs.declared.fault.NotOpen.{NotOpen}
use Rattle.sam_link.specs.declared.fault.NoteFault.{NoteFault}
use Rattle.sam_link.specs.declared.fault.NoteFault.TheVariants as notes
use Rattle.sam_link.specs.declared.fault.WelcomeFault.{WelcomeFault}
use Rattle.sam_link.specs.declared.fault.WelcomeFault.TheVariants as welcomes
use Rattle.sam_link.specs.declared.hello.Hello.{Hello}
use Rattle.sam_link.specs.declared.keeping.PutFault.{PutFault}
use Rattle.sam_link.specs.declared.keeping.PutFault.TheVariants as puts
use Rattle.sam_link.specs.declared.phase.Phase.{Phase}
use Rattle.sam_link.specs.declared.phase.Phase.TheVariants.{Down}
use Rattle.sam_link.specs.declared.phase.Role.{Role}
use Rattle.sam_link.specs.declared.phase.Role.TheVariants.{Terminal, Host}
use Rattle.sam_link.proofs.SessionLaws.{two_roles}
use Rattle.sam_served.specs.Crashes.{AreLike, over}

-- ## Ends that have no connection go on alike

pub record Over (a b : End) : Type 0 where
  pub same : over a ≡ over b
  pub down : a.phase ≡ Down
  pub down_too : b.phase ≡ Down

-- the other end does the call too, and then they are alike
pub record Follows (b : End) (c : Call) (n : End) : Type 0 where
  pub to : End
  pub does : Does b c to
  pub like : AreLike n to

stay : (a b n : End) → Over a b → n ≡ a → AreLike n b
stay a b n o is = subst (λ k. AreLike k b) (sym is) (inr (o.same, o.down, o.down_too))

follows_dial : (role : Role) (a b n : End) (take_over : Bool) (answer : Result ℕ CallFault) → a.role ≡ role → b.role ≡ role → role ≡ Host
    → Over a b
    → CallsBy role a take_over answer n → (m : End) × CallsBy role b take_over answer m × AreLike n m
follows_dial Host a b n take_over (Err calls.WrongRole) r q h o x = (b, refl, stay a b n o x)
follows_dial Host a b n take_over (Err calls.CountFull) r q h o x = absurd x
follows_dial Host a b n take_over (Ok attempt) r q h o x = absurd x
follows_dial Terminal a b n take_over answer r q h o x = absurd (two_roles h)

follows_answer : (role : Role) (a b n : End) (g : Hello) (answer : Result (Unit {0}) AnswerFault) → role ≡ Host → Over a b
    → AnswersBy role a g answer n → (m : End) × AnswersBy role b g answer m × AreLike n m
follows_answer Host a b n g (Ok done) h o x =
    (answered b g, (subst (λ k. refusal_of k g ≡ None) o.same x.0, refl), inl (x.1 ∙ ap (λ (k : End). answered k g) o.same))
follows_answer Host a b n g (Err (answers.Refused why)) h o x =
    (b, (subst (λ k. refusal_of k g ≡ Some why) o.same x.0, refl), stay a b n o x.1)
follows_answer Host a b n g (Err answers.WrongRole) h o x = absurd x
follows_answer Terminal a b n g answer h o x = absurd (two_roles h)

follows_welcome : (role : Role) (a b n : End) (g : Hello) (answer : Result (Unit {0}) WelcomeFault) → role ≡ Host → Over a b
    → WelcomesBy role a g answer n → (m : End) × WelcomesBy role b g answer m × AreLike n m
follows_welcome Host a b n g (Err welcomes.WrongRole) h o x = (b, refl, stay a b n o x)
follows_welcome Host a b n g (Err welcomes.NotOpen) h o x = absurd x
follows_welcome Host a b n g (Err (welcomes.ByHost why)) h o x = absurd x
follows_welcome Host a b n g (Err (welcomes.Here why)) h o x = absurd x
follows_welcome Host a b n g (Ok done) h o x = absurd x
follows_welcome Terminal a b n g answer h o x = absurd (two_roles h)

follows_break : (t : Bool) (a b n : End) → Over a b → n ≡ (if t then ended a else a) → AreLike n (if t then ended b else b)
follows_break true a b n o is = subst (λ k. AreLike k (ended b)) (sym is) (inr (o.same, refl, refl))
follows_break false a b n o is = stay a b n o is

-- bytes are put at both
both_put : (a b n : End) (bytes : List ℕ) (t u : ℕ) → Over a b → t ≡ u → n ≡ record a { keeps = put a.keeps bytes; told = t }
    → AreLike n (record b { keeps = put b.keeps bytes; told = u })
both_put a b n bytes t u o same is =
    let now : over (record a { keeps = put a.keeps bytes; told = t }) ≡ over (record b { keeps = put b.keeps bytes; told = u }) =
    ap (λ (k : End). over (record k { keeps = put k.keeps bytes; told = t })) o.same
    ∙ ap (λ (v : ℕ). over (record b { keeps = put b.keeps bytes; told = v })) same in
    subst (λ k. AreLike k (record b { keeps = put b.keeps bytes; told = u })) (sym is) (inr (now, o.down, o.down_too))

told_same : (a b : End) → Over a b → a.told ≡ b.told
told_same a b o = ap (λ (k : End). k.told) o.same

received_same : (a b : End) → Over a b → a.received ≡ b.received
received_same a b o = ap (λ (k : End). k.received) o.same

put_is : (a n : End) (bytes : List ℕ) → n.keeps ≡ put a.keeps bytes → n ≡ record a { keeps = n.keeps }
    → n ≡ record a { keeps = put a.keeps bytes; told = a.told }
put_is a n bytes keeps is = is ∙ ap (λ (k : Keeps). record a { keeps = k }) keeps

kept_is : (a n : End) → n.keeps ≡ a.keeps → n ≡ record a { keeps = n.keeps } → n ≡ a
kept_is a n keeps is = is ∙ ap (λ (k : Keeps). record a { keeps = k }) keeps

follows_put : (a b n : End) (bytes : List ℕ) (answer : Result (Unit {0}) PutFault) → Over a b → Puts a.keeps bytes answer n.keeps
    → n ≡ record a { keeps = n.keeps }
    → (m : End) × Puts b.keeps bytes answer m.keeps × (m ≡ record b { keeps = m.keeps }) × AreLike n m
follows_put a b n bytes (Ok done) o x is = (
  record b { keeps = put b.keeps bytes },
  (subst (λ k. HasRoom k.keeps (length bytes)) o.same x.0, refl),
  refl,
  both_put a b n bytes a.told b.told o (told_same a b o) (put_is a n bytes x.1 is),
)
follows_put a b n bytes (Err puts.CountFull) o x is =
    (b, (subst (λ k. HasRoom k.keeps (length bytes) → ⊥) o.same x.0, refl), refl, stay a b n o (kept_is a n x.1 is))
follows_put a b n bytes (Err puts.OutOfMemory) o x is =
    (b, (subst (λ k. HasRoom k.keeps (length bytes)) o.same x.0, refl), refl, stay a b n o (kept_is a n x.1 is))

follows_note : (a b n : End) (bytes : List ℕ) (answer : Result (Unit {0}) NoteFault) → Over a b → PutsNote a.keeps bytes answer n.keeps
    → n ≡ record a { keeps = n.keeps }
    → (m : End) × PutsNote b.keeps bytes answer m.keeps × (m ≡ record b { keeps = m.keeps }) × AreLike n m
follows_note a b n bytes (Ok done) o x is =
    let f = follows_put a b n (frame 2 bytes) (Ok done) o x.1 is in (f.0, (x.0, f.1), f.2, f.3)
follows_note a b n bytes (Err notes.TooLong) o x is = (b, (x.0, refl), refl, stay a b n o (kept_is a n x.1 is))
follows_note a b n bytes (Err notes.CountFull) o x is =
    let f = follows_put a b n (frame 2 bytes) (Err puts.CountFull) o x.1 is in (f.0, (x.0, f.1), f.2, f.3)
follows_note a b n bytes (Err notes.OutOfMemory) o x is =
    let f = follows_put a b n (frame 2 bytes) (Err puts.OutOfMemory) o x.1 is in (f.0, (x.0, f.1), f.2, f.3)

follows_acknowledge : (a b n : End) (answer : Result (Unit {0}) PutFault) → Over a b
    → Puts a.keeps (frame 3 (eight a.received)) answer n.keeps → Acknowledges a answer n
    → (m : End) × Puts b.keeps (frame 3 (eight b.received)) answer m.keeps × Acknowledges b answer m × AreLike n m
follows_acknowledge a b n (Ok done) o x is =
    let bytes = frame 3 (eight b.received) in
    let same : frame 3 (eight a.received) ≡ frame 3 (eight b.received) = ap (λ (r : ℕ). frame 3 (eight r)) (received_same a b o) in (
      record b { keeps = put b.keeps bytes; told = b.received },
      (subst (λ k. HasRoom k.keeps (length (frame 3 (eight k.received)))) o.same x.0, refl),
      refl,
      both_put a b n bytes a.received b.received o (received_same a b o)
          (is ∙ ap (λ (k : Keeps). record a { keeps = k; told = a.received }) (x.1 ∙ ap (λ (l : List ℕ). put a.keeps l) same)),
    )
follows_acknowledge a b n (Err puts.CountFull) o x is =
    (b, (subst (λ k. HasRoom k.keeps (length (frame 3 (eight k.received))) → ⊥) o.same x.0, refl), refl, stay a b n o is)
follows_acknowledge a b n (Err puts.OutOfMemory) o x is =
    (b, (subst (λ k. HasRoom k.keeps (length (frame 3 (eight k.received)))) o.same x.0, refl), refl, stay a b n o is)

not_up : (p : Phase) (n : ℕ) (m : ℕ) → p ≡ Down → (is_up p && (n == m)) ≡ false
not_up p n m down = ap (λ (q : Phase). is_up q && (n == m)) down

not_open : (p : Phase) (n : ℕ) (m : ℕ) → p ≡ Down → (is_open p && (n == m)) ≡ false
not_open p n m down = ap (λ (q : Phase). is_open q && (n == m)) down

follows_out : (a b n : End) (attempt : ℕ) (old new : List ℕ) (answer : Result ℕ NotOpen) → Over a b → TakesOut a attempt old answer new n
    → (m : End) × TakesOut b attempt old answer new m × AreLike n m
follows_out a b n attempt old new (Ok count) o x = absurd (true≢false (sym x.0 ∙ ap is_up o.down))
follows_out a b n attempt old new (Err why) o x = (b, (not_up b.phase attempt b.attempt o.down_too, x.1, refl), stay a b n o x.2)

pub may_not : (a : End) (attempt : ℕ) → a.phase ≡ Down → (is_open a.phase && (attempt == a.attempt)) ≡ true → ⊥
may_not a attempt down up = true≢false (sym up ∙ not_open a.phase attempt a.attempt down)

follows_feed : (a b n : End) (attempt : ℕ) (piece : List ℕ) (answer : Result (Unit {0}) FeedFault) → Over a b
    → Feeds a attempt piece answer n
    → (m : End) × Feeds b attempt piece answer m × AreLike n m
follows_feed a b n attempt piece (Ok done) o x = absurd (may_not a attempt o.down x.2.0)
follows_feed a b n attempt piece (Err feeds.NotOpen) o x = (b, (not_open b.phase attempt b.attempt o.down_too, refl), stay a b n o x.1)
follows_feed a b n attempt piece (Err feeds.CountFull) o x = absurd (may_not a attempt o.down x.0)
follows_feed a b n attempt piece (Err feeds.OutOfMemory) o x = absurd (may_not a attempt o.down x.0.0)
follows_feed a b n attempt piece (Err (feeds.Wrong fault)) o x = absurd (may_not a attempt o.down x.2.0)
follows_feed a b n attempt piece (Err feeds.AckAhead) o x = absurd (may_not a attempt o.down x.2.0)

both_wait : (a b n : End) (w : Waiting) → Over a b → n ≡ record a { waiting = w } → AreLike n (record b { waiting = w })
both_wait a b n w o is = subst (λ k. AreLike k (record b { waiting = w })) (sym is)
    (inr (ap (λ (k : End). record k { waiting = w }) o.same, o.down, o.down_too))

waiting_same : (a b : End) → Over a b → a.waiting ≡ b.waiting
waiting_same a b o = ap (λ (k : End). k.waiting) o.same

pub follows : (c : Call) (a b n : End) → a.role ≡ Host → Over a b → Does a c n → Follows b c n
follows (Dial take_over answer) a b n r o x =
    let role : a.role ≡ b.role = ap (λ (k : End). k.role) o.same in
    let f = follows_dial a.role a b n take_over answer refl (sym role) r o x in
    record { to = f.0; does = subst (λ q. CallsBy q b take_over answer f.0) role f.1; like = f.2 }
follows (Answer g answer) a b n r o x =
    let role : a.role ≡ b.role = ap (λ (k : End). k.role) o.same in
    let f = follows_answer a.role a b n g answer r o x in
    record { to = f.0; does = subst (λ q. AnswersBy q b g answer f.0) role f.1; like = f.2 }
follows (Welcome g answer) a b n r o x =
    let role : a.role ≡ b.role = ap (λ (k : End). k.role) o.same in
    let f = follows_welcome a.role a b n g answer r o x in
    record { to = f.0; does = subst (λ q. WelcomesBy q b g answer f.0) role f.1; like = f.2 }
follows (Break attempt) a b n r o x =
    let number : a.attempt ≡ b.attempt = ap (λ (k : End). k.attempt) o.same in
    record {
      to = broken b attempt;
      does = refl;
      like = follows_break (attempt == b.attempt) a b n o (subst (λ m. n ≡ (if attempt == m then ended a else a)) number x);
    }
follows (Put bytes answer) a b n r o x =
    let f = follows_put a b n (data_stream bytes) answer o x.0 x.1 in record { to = f.0; does = (f.1, f.2); like = f.3 }
follows (PutNote bytes answer) a b n r o x =
    let f = follows_note a b n bytes answer o x.0 x.1 in record { to = f.0; does = (f.1, f.2); like = f.3 }
follows (Ask answer) a b n r o x =
    let f = follows_put a b n (frame 4 []) answer o x.0 x.1 in record { to = f.0; does = (f.1, f.2); like = f.3 }
follows (Acknowledge answer) a b n r o x =
    let f = follows_acknowledge a b n answer o x.0 x.1 in record { to = f.0; does = (f.1, f.2); like = f.3 }
follows (TakeOut attempt old answer new) a b n r o x =
    let f = follows_out a b n attempt old new answer o x in record { to = f.0; does = f.1; like = f.2 }
follows (Feed attempt piece answer) a b n r o x =
    let f = follows_feed a b n attempt piece answer o x in record { to = f.0; does = f.1; like = f.2 }
follows (TakeIn old count new) a b n r o x =
    let w = left_of b.waiting count in
    let same : left_of a.waiting count ≡ left_of b.waiting count = ap (λ (v : Waiting). left_of v count) (waiting_same a b o) in
    record {
      to = record b { waiting = w };
      does =
          subst (λ v. Does (record b { waiting = v }) (TakeIn old count new) (record b { waiting = left_of v count })) (waiting_same a b o)
          (x.0, x.1, refl);
      like = both_wait a b n w o (x.2 ∙ ap (λ (v : Waiting). record a { waiting = v }) same);
    }
follows (NextNote answer) a b n r o x =
    record {
      to = record b { waiting = n.waiting };
      does = (subst (λ v. GivesNote v answer n.waiting) (waiting_same a b o) x.0, refl);
      like = both_wait a b n n.waiting o x.1;
    }

pub like_follows : (c : Call) (a b n : End) → a.role ≡ Host → AreLike a b → Does a c n → Follows b c n
like_follows c a b n r (inl same) x = record { to = n; does = subst (λ k. Does k c n) same x; like = inl refl }
like_follows c a b n r (inr (same, down, down_too)) x = follows c a b n r (record { same = same; down = down; down_too = down_too }) x
