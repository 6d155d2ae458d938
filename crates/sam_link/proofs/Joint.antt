-- What holds of two ends of one session at each moment.
use Rattle.std.proofs.Common.{◌≡◌, ℕ, ◌<◌, ◌≤◌, ◌^◌, List, [], ◌++◌, length, drop, Bool, true, false}
use Rattle.std.specs.Prelude.{max, ◌==◌, if◌then◌else◌}
use Rattle.sam_link.specs.End.{is_asking, is_call, is_resume, is_up, may_send}
use Rattle.sam_link.specs.Feeding.{is_open}
use Rattle.sam_link.specs.Hellos.{IsHello, spelled}
use Rattle.sam_link.specs.Sessions.{StartsWith}
use Rattle.sam_link.specs.declared.hello.Hello.{Hello}
use Rattle.sam_link.specs.declared.hello.Id.{Id}
use Rattle.sam_link.specs.declared.hello.What.TheVariants.{Welcome}
use Rattle.sam_link.proofs.Lines.{Line}
use Rattle.sam_link.proofs.Views.{View}

-- one end alone
pub record Sound (v : View) : Type 0 where
  pub base : v.base ≤ v.given
  pub given : v.given ≤ length v.stream
  pub came : v.received ≡ length v.came
  pub told : v.told ≤ v.received
  pub top : v.top ≤ v.received
  pub fits : v.received < 2 ^ 64

-- what the terminal says on its connection m
pub record IsCall (id : Id) (known : Bool) (answered received m : ℕ) (x : Hello) : Type 0 where
  pub id_is : x.id ≡ id
  pub attempt_is : x.attempt ≡ m
  pub word : is_call x.what ≡ true
  pub goes_on : is_resume x.what ≡ true → known ≡ true
  pub recent : answered < m → x.received ≡ received

-- what the host says on connection m
pub record IsAnswer (id : Id) (answered start m : ℕ) (x : Hello) : Type 0 where
  pub id_is : x.id ≡ id
  pub attempt_is : x.attempt ≡ m
  pub word : x.what ≡ Welcome
  pub recent : m ≡ answered → x.received ≡ start

-- the first connection is given the stream before it is welcomed
abbrev pub first_tail : ℕ → List ℕ → List ℕ
first_tail m stream = if m == 1 then stream else []

pub record Joint (id : Id) (t h : View) : Type 0 where
  pub start : ℕ  -- from where the host reads the terminal's stream on its newest connection
  pub from : ℕ  -- from where the terminal reads the host's there
  pub call : Hello  -- the terminal's newest
  pub welcome : Hello  -- the host's newest
  -- the connections
  pub order : h.attempt ≤ t.attempt
  pub known : t.known ≡ true → h.known ≡ true
  pub open_t : is_open t.phase ≡ true → h.attempt ≡ t.attempt
  pub open_h : is_open h.phase ≡ true → 1 ≤ h.attempt
  pub up_h : is_asking h.phase ≡ false
  pub up_t : is_up t.phase ≡ true → 1 ≤ t.attempt
  pub first : h.attempt ≡ 0 → h.received ≡ 0
  pub met : 1 ≤ h.attempt → h.known ≡ true
  pub begins : h.attempt ≤ 1 → start ≡ 0
  pub fits : t.attempt < 2 ^ 64
  pub unsaid_t : (m : ℕ) → t.attempt < m → t.went m ≡ []
  pub unsaid_h : (m : ℕ) → h.attempt < m → h.went m ≡ []
  pub unfed_t : (m : ℕ) → h.attempt < m → t.fed m ≡ []
  pub unfed_h : (m : ℕ) → h.attempt < m → h.fed m ≡ []
  -- the hellos
  pub hellos_t : (m : ℕ) (x : Hello) → IsHello x → StartsWith (t.went m) (spelled x) → IsCall id h.known h.attempt t.received m x
  pub hellos_h : (m : ℕ) (x : Hello) → IsHello x → StartsWith (h.went m) (spelled x) → IsAnswer id h.attempt start m x
  pub call_is : is_up t.phase ≡ true → IsHello call × IsCall id h.known h.attempt t.received t.attempt call
  pub welcome_is : is_open h.phase ≡ true → IsHello welcome × IsAnswer id h.attempt start h.attempt welcome
  -- what goes
  pub asks : is_asking t.phase ≡ true → (t.attempt ≡ 1 → ⊥) → t.went t.attempt ++ t.hello ≡ spelled call
  pub sends_t : may_send t.phase t.attempt ≡ true
      → t.went t.attempt ++ (t.hello ++ drop t.given t.stream) ≡ spelled call ++ drop start t.stream
  pub sends_h : is_open h.phase ≡ true
      → h.went h.attempt ++ (h.hello ++ drop h.given h.stream) ≡ spelled welcome ++ drop from h.stream
  pub unread : (m : ℕ) → h.attempt < m → StartsWith (first_tail m t.stream) (drop 42 (t.went m))
  -- what comes
  pub up : Line t.stream (drop 42 (t.went h.attempt)) (h.fed h.attempt) start h.received
  pub down : h.attempt ≡ t.attempt → Line h.stream (drop 42 (h.went h.attempt)) (t.fed h.attempt) from t.received
  pub from_in : from ≤ length h.stream
  pub came_h : StartsWith t.stream h.came
  pub came_t : StartsWith h.stream t.came
  -- what is acknowledged
  pub base_t : t.base ≤ h.received
  pub base_h : h.base ≤ t.received
  pub ahead_t : may_send t.phase t.attempt ≡ true → h.received ≤ t.given
  pub ahead_h : is_open h.phase ≡ true → t.received ≤ h.given
  pub told_t : h.attempt ≡ t.attempt → t.told ≤ max t.top from
  pub told_h : h.told ≤ max h.top start
  pub start_in : is_open t.phase ≡ true → start ≤ t.base
  pub from_base : from ≤ h.base
