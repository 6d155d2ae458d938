-- Another server begins with the texts of one.
use Rattle.std.proofs.Common.{◌≡◌, ℕ, zero, suc, ◌+◌, ◌-◌, ◌<◌, ◌≤◌, Bool, true, false, true≢false, Result, OnOk, is_err, List, [], ◌∷◌, ◌++◌, map, length, drop, Option, None, Some, option_to_list, Ok, Err, slice_range, refl, sym, ap, ◌∙◌, subst, arith, append_assoc, append-nil, inl, inr, take_all}
use Rattle.std.proofs.lemmas.List.{drop_all}
use Rattle.std.specs.Str.{chars, encode_utf8_all, is_utf8}
use Rattle.std.proofs.lemmas.Str.{chars_from_encodes, is_utf8-from_IsUtf8}
use Rattle.sam_runes.specs.Checks.{first_of_checks}
use Rattle.sam_runes.specs.Reading.{AreRunes}
use Rattle.sam_runes.specs.Slots.{Slots, put_slot, slot}
use Rattle.sam_runes.specs.Texts.{all_tags, max_runes, most_in_name}
use Rattle.sam_text.specs.Files.{PlainFile, PlainFiles, blank_file}
use Rattle.sam_mesg.proofs.Texts.{length-text}
use Rattle.sam_host.specs.Host.{PlainHost, command_name, given_file, given_slots, new_host, with_given}
use Rattle.sam_link.specs.End.{End}
use Rattle.sam_link.specs.declared.hello.Id.{Id}
use Rattle.sam_link.specs.declared.phase.Phase.{Phase}
use Rattle.sam_link.specs.declared.phase.Phase.TheVariants.{Down}
use Rattle.sam_endpoint.specs.HostEndpoints.{IsAddFault, PlainHostEndpoint, add_checks, with_file}
use Rattle.sam_endpoint.specs.declared.fault.AddFault.{AddFault}
use Rattle.sam_endpoint.specs.declared.fault.AddFault.TheVariants as adds
use Rattle.sam_server.specs.DurableServers.{IsOwing, PlainDurableServer, RefusesFile, TakesRecord, due_behind, mark_of, new_durable_server}
use Rattle.sam_server.specs.Gates.{PlainGate}
use Rattle.sam_server.specs.Heirs.{Adopts, AdoptsAll, HasTaken, IsHeir, files_in, files_of, host_of, joining, name_and_text}
use Rattle.sam_server.specs.Records.{Joined, record_bytes}
use Rattle.sam_server.specs.Servers.{Effect, Makes, Server, Takes, given, given_at, new_server}
use Rattle.sam_server.specs.declared.fault.CallFault.TheVariants as fault
use Rattle.sam_server.specs.declared.gate.Mark.{Mark}
use Rattle.sam_server.specs.declared.server.Stage.{Stage}
use Rattle.sam_server.specs.declared.server.Stage.TheVariants.{Answering, Recording, Settled, Stopped}
use Rattle.sam_server.specs.declared.turn.Stop.{Stop}

-- ## A file joins

add_takes : (s : Server) (name text : List ℕ) → first_of_checks (add_checks s.host name text) ≡ None
    → Takes s (Joined name text) (record s { host = with_file s.host name text })
add_takes s name text none = (length s.host.host.files.slots, with_file s.host name text, (refl, none, refl), refl)

abbrev IsSettled : Stage → Type 0
IsSettled Settled = Unit {0}
IsSettled Answering = ⊥
IsSettled Recording = ⊥
IsSettled (Stopped why) = ⊥

settled_at : (stage : Stage) → stage ≡ Settled → IsSettled stage
settled_at stage is = subst IsSettled (sym is) tt

pub not_stopped : (d e : PlainDurableServer) (name text : List ℕ) (why : Stop) → d.stage ≡ Settled
    → first_of_checks (add_checks d.turn.server.host name text) ≡ None
    → TakesRecord {A = ℕ} d (Joined name text) (RefusesFile d name text) (Err (fault.Stopped why)) e → ⊥
not_stopped d e name text why settled none (inl (is, same)) = subst IsSettled is (settled_at d.stage settled)
not_stopped d e name text why settled none (inr (is, nowhere, same)) = nowhere _ (add_takes d.turn.server name text none)

pub not_waiting : (d e : PlainDurableServer) (name text : List ℕ) → d.stage ≡ Settled
    → TakesRecord {A = ℕ} d (Joined name text) (RefusesFile d name text) (Err fault.Waiting) e → ⊥
not_waiting d e name text settled (owing, same) = subst IsOwing settled owing

-- where it isn't memory
abbrev IsOther : AddFault → Type 0
IsOther adds.OutOfMemory = ⊥
IsOther adds.NotText = Unit {0}
IsOther adds.TooLong = Unit {0}
IsOther adds.NoTag = Unit {0}

memory_not : (why : AddFault) → IsOther why → why ≡ adds.OutOfMemory → ⊥
memory_not why other is = subst IsOther is other

not_refused : (d e : PlainDurableServer) (name text : List ℕ) (why : AddFault)
    → first_of_checks (add_checks d.turn.server.host name text) ≡ None
    → TakesRecord {A = ℕ} d (Joined name text) (RefusesFile d name text) (Err (fault.Refused why)) e → why ≡ adds.OutOfMemory
not_refused d e name text why none (settled, (is, same)) = subst (λ (o : Option AddFault). IsAddFault o why) none is

pub not_text : (d e : PlainDurableServer) (name text : List ℕ)
    → first_of_checks (add_checks d.turn.server.host name text) ≡ None
    → TakesRecord {A = ℕ} d (Joined name text) (RefusesFile d name text) (Err (fault.Refused adds.NotText)) e → ⊥
not_text d e name text none refused = memory_not adds.NotText tt (not_refused d e name text adds.NotText none refused)

pub not_long : (d e : PlainDurableServer) (name text : List ℕ)
    → first_of_checks (add_checks d.turn.server.host name text) ≡ None
    → TakesRecord {A = ℕ} d (Joined name text) (RefusesFile d name text) (Err (fault.Refused adds.TooLong)) e → ⊥
not_long d e name text none refused = memory_not adds.TooLong tt (not_refused d e name text adds.TooLong none refused)

pub not_tagless : (d e : PlainDurableServer) (name text : List ℕ)
    → first_of_checks (add_checks d.turn.server.host name text) ≡ None
    → TakesRecord {A = ℕ} d (Joined name text) (RefusesFile d name text) (Err (fault.Refused adds.NoTag)) e → ⊥
not_tagless d e name text none refused = memory_not adds.NoTag tt (not_refused d e name text adds.NoTag none refused)

pub ruleset join_facts = (not_stopped, not_waiting, not_text, not_long, not_tagless)

-- ## It has its name and its text

pub whole_text : (text : List ℕ) → slice_range text 0 (length text) ≡ text
whole_text text = take_all (length text - 0) text (omega arith)

runes_again : (runes bytes : List ℕ) → AreRunes runes → bytes ≡ encode_utf8_all runes → runes ≡ chars bytes
runes_again runes bytes are is = chars_from_encodes runes bytes (runes, (are, sym is)) (sym is)

are_text : (runes bytes : List ℕ) → AreRunes runes → bytes ≡ encode_utf8_all runes → is_utf8 bytes ≡ true
are_text runes bytes are is = is_utf8-from_IsUtf8 bytes (runes, (are, sym is))

pub nothing_against : (e : PlainHostEndpoint) (name text name_bytes text_bytes : List ℕ) → AreRunes name → AreRunes text
    → name_bytes ≡ encode_utf8_all name → text_bytes ≡ encode_utf8_all text → length name ≤ most_in_name → length text ≤ max_runes
    → length e.host.files.slots < all_tags → first_of_checks (add_checks e name_bytes text_bytes) ≡ None
nothing_against e name text name_bytes text_bytes are are_too is is_too short brief room =
    let name_is = runes_again name name_bytes are is in
    let text_is = runes_again text text_bytes are_too is_too in
    let utf8 = are_text name name_bytes are is in
    let utf8_too = are_text text text_bytes are_too is_too in
    grind arith

pub adopted : (d e : PlainDurableServer) (file : PlainFile) (name text : List ℕ) → AreRunes file.name → AreRunes file.text
    → length file.name ≤ most_in_name → name ≡ encode_utf8_all file.name → text ≡ encode_utf8_all file.text
    → HasTaken d (Joined name text) e → Adopts d file e
adopted d e file name text are are_too short is is_too (settled, (tag, k, of_file, at), same) = record {
  taken =
      subst (λ (bytes : List ℕ). HasTaken d (Joined bytes (encode_utf8_all file.text)) e) is
      (subst (λ (bytes : List ℕ). HasTaken d (Joined name bytes) e) is_too (settled, (tag, k, of_file, at), same));
  host =
      ap (λ (s : Server). s.host.host) at ∙ ap (λ (h : PlainHostEndpoint). h.host) of_file.2
      ∙ ap (λ (n : List ℕ). with_given (host_of d) (n, chars text)) (sym (runes_again file.name name are is))
      ∙ ap (λ (t : List ℕ). with_given (host_of d) (file.name, t)) (sym (runes_again file.text text are_too is_too));
  fits = omega (arith, short, (length-text file.name));
}

pub ruleset adopt_facts = (whole_text, nothing_against, adopted)

-- ## All files join, one after another

-- where the files that are left join, all have joined
pub record Remains (d : PlainDurableServer) (all : List PlainFile) (e : PlainDurableServer) (left : List PlainFile) : Type 0 where
  pub leads : (z : PlainDurableServer) → AdoptsAll e left z → AdoptsAll d all z

-- the files from this tag on
abbrev pub files_from : PlainHost → ℕ → List PlainFile
files_from h tag = files_in (drop tag h.files.slots)

pub all_remain : (d : PlainDurableServer) (h : PlainHost) → Remains d (files_of h) d (files_from h 1)
all_remain d h = record { leads = λ z all. all }

joins_then : (e m z : PlainDurableServer) (o : Option PlainFile) (left : List PlainFile) → AdoptsAll e (option_to_list o) m
    → AdoptsAll m left z → AdoptsAll e (option_to_list o ++ left) z
joins_then e m z None left is more = subst (λ (d : PlainDurableServer). AdoptsAll d left z) is more
joins_then e m z (Some file) left (k, adopts, is) more =
    (k, adopts, subst (λ (d : PlainDurableServer). AdoptsAll d left z) is more)

first_from : (slots : Slots PlainFile) (tag : ℕ) → tag < length slots
    → files_in (drop tag slots) ≡ option_to_list (slot slots tag) ++ files_in (drop (suc tag) slots)
first_from [] tag inside = absurd (omega (arith, inside))
first_from (None ∷ slots) zero inside = refl
first_from (Some file ∷ slots) zero inside = refl
first_from (o ∷ slots) (suc tag) inside = first_from slots tag (omega (arith, inside))

next_from : (h : PlainHost) (tag : ℕ) → tag < length h.files.slots
    → files_from h tag ≡ option_to_list (slot h.files.slots tag) ++ files_from h (tag + 1)
next_from h tag inside =
    let next : suc tag ≡ tag + 1 = omega arith in
    first_from h.files.slots tag inside ∙ ap (λ (n : ℕ). option_to_list (slot h.files.slots tag) ++ files_from h n) next

pub one_less : (d e m : PlainDurableServer) (h : PlainHost) (all : List PlainFile) (tag : ℕ) → tag < length h.files.slots
    → Remains d all e (files_from h tag) → AdoptsAll e (option_to_list (slot h.files.slots tag)) m → Remains d all m (files_from h (tag + 1))
one_less d e m h all tag inside remains joins = record {
  leads = λ z more.
      remains.leads z (subst (λ (files : List PlainFile). AdoptsAll e files z) (sym (next_from h tag inside))
      (joins_then e m z (slot h.files.slots tag) (files_from h (tag + 1)) joins more));
}

none_from : (slots : Slots PlainFile) (tag : ℕ) → length slots ≤ tag → files_in (drop tag slots) ≡ []
none_from slots tag past = ap files_in (drop_all tag slots past)

pub all_joined : (d e : PlainDurableServer) (h : PlainHost) (all : List PlainFile) (tag : ℕ) → length h.files.slots ≤ tag
    → Remains d all e (files_from h tag) → AdoptsAll d all e
all_joined d e h all tag past remains =
    remains.leads e (subst (λ (files : List PlainFile). AdoptsAll e files e) (sym (none_from h.files.slots tag past)) refl)

stage_after : (d e : PlainDurableServer) (file : PlainFile) → Adopts d file e → e.stage ≡ Settled
stage_after d e file adopts = ap (λ (x : PlainDurableServer). x.stage) adopts.taken.2

pub stays_settled : (d e : PlainDurableServer) (o : Option PlainFile) → d.stage ≡ Settled → AdoptsAll d (option_to_list o) e
    → e.stage ≡ Settled
stays_settled d e None settled is = ap (λ (x : PlainDurableServer). x.stage) is ∙ settled
stays_settled d e (Some file) settled (m, adopts, is) = ap (λ (x : PlainDurableServer). x.stage) is ∙ stage_after d m file adopts

put_behind : (slots : Slots PlainFile) (file : PlainFile) → length (put_slot slots (length slots) file) ≡ length slots + 1
put_behind [] file = refl
put_behind (o ∷ slots) file = omega (arith, (put_behind slots file))

tags_after : (d e : PlainDurableServer) (file : PlainFile) → Adopts d file e
    → length (host_of e).files.slots ≡ length (host_of d).files.slots + 1
tags_after d e file adopts =
    ap (λ (h : PlainHost). length h.files.slots) adopts.host
    ∙ put_behind (host_of d).files.slots (given_file (name_and_text file))

pub few_tags : (d e : PlainDurableServer) (o : Option PlainFile) (tag : ℕ) → length (host_of d).files.slots ≤ tag
    → AdoptsAll d (option_to_list o) e → length (host_of e).files.slots ≤ tag + 1
few_tags d e None tag few is =
    let same = ap (λ (x : PlainDurableServer). length (host_of x).files.slots) is in omega (arith, few, same)
few_tags d e (Some file) tag few (m, adopts, is) =
    let same = ap (λ (x : PlainDurableServer). length (host_of x).files.slots) is in
    let more = tags_after d m file adopts in
    omega (arith, few, same, more)

-- ## What it is

-- the host with these files behind its own
abbrev with_all : PlainHost → List (List ℕ × List ℕ) → PlainHost
with_all h [] = h
with_all h (one ∷ more) = with_all (with_given h one) more

put_last : (slots : Slots PlainFile) (file : PlainFile) → put_slot slots (length slots) file ≡ slots ++ Some file ∷ []
put_last [] file = refl
put_last (o ∷ slots) file = ap (λ (l : Slots PlainFile). o ∷ l) (put_last slots file)

slots_behind : (given : List (List ℕ × List ℕ)) (one : List ℕ × List ℕ)
    → given_slots (given ++ one ∷ []) ≡ given_slots given ++ Some (given_file one) ∷ []
slots_behind [] one = refl
slots_behind (first ∷ given) one = ap (λ (l : Slots PlainFile). Some (given_file first) ∷ l) (slots_behind given one)

-- the host with these files behind the command file
abbrev holding : Slots PlainFile → PlainHost
holding slots =
    record (new_host []) { files = record (new_host []).files { slots = Some (record blank_file { name = command_name }) ∷ slots } }

adds_given : (given : List (List ℕ × List ℕ)) (one : List ℕ × List ℕ) → with_given (new_host given) one ≡ new_host (given ++ one ∷ [])
adds_given given one = ap holding (put_last (given_slots given) (given_file one) ∙ sym (slots_behind given one))

all_given_new : (more front : List (List ℕ × List ℕ)) → with_all (new_host front) more ≡ new_host (front ++ more)
all_given_new [] front = ap new_host (sym (append-nil front))
all_given_new (one ∷ more) front =
    ap (λ (h : PlainHost). with_all h more) (adds_given front one) ∙ all_given_new more (front ++ one ∷ [])
    ∙ ap new_host (append_assoc front (one ∷ []) more)

-- the server of these, with this host in place of its own
abbrev hosting : Server → PlainHost → Server
hosting s h = record s { host = record s.host { host = h } }

abbrev waiting_too : PlainGate → List Mark → PlainGate
waiting_too g marks = record g { waiting = g.waiting ++ marks }

abbrev marks_for : End → List PlainFile → List Mark
marks_for l files = map (λ file. mark_of l) files

abbrev bodies : List PlainFile → List (List ℕ)
bodies files = map (λ file. record_bytes (joining file)) files

-- a server with the files behind its own, and with what it recorded
record Has (d : PlainDurableServer) (files : List PlainFile) (e : PlainDurableServer) : Type 0 where
  server : e.turn.server ≡ hosting d.turn.server (with_all (host_of d) (map name_and_text files))
  stage : e.stage ≡ Settled
  records : e.records ≡ d.records ++ bodies files
  gate : e.gate ≡ waiting_too d.gate (marks_for d.turn.server.link files)
  due : e.due ≡ None
  made : Makes d.turn.server (map joining files) e.turn.server

server_after : (d m : PlainDurableServer) (file : PlainFile) → Adopts d file m
    → m.turn.server ≡ hosting d.turn.server (with_given (host_of d) (name_and_text file))
server_after d m file adopts =
    let takes = adopts.taken.1 in
    let of_file : takes.1 ≡ with_file d.turn.server.host (encode_utf8_all file.name) (encode_utf8_all file.text) = takes.2.2 in
    let at : m.turn.server ≡ record d.turn.server { host = takes.1 } = takes.3 in
    let is = at ∙ ap (λ (k : PlainHostEndpoint). record d.turn.server { host = k }) of_file in
    is ∙ ap (λ (h : PlainHost). hosting d.turn.server h) (sym (ap (λ (s : Server). s.host.host) is) ∙ adopts.host)

abbrev is_none : {A : Type 0} → Option A → Type 0
is_none None = Unit {0}
is_none (Some x) = ⊥

none_due : (o : Option ℕ) (effect : Option Effect) (count : ℕ) → o ≡ None → effect ≡ None → due_behind o effect count ≡ None
none_due None None count is is_too = refl
none_due None (Some effect) count is is_too = absurd (subst is_none (sym is_too) tt)
none_due (Some n) effect count is is_too = absurd (subst is_none (sym is) tt)

given_down : (s : Server) → s.link.phase ≡ Down → given s ≡ s
given_down s down = ap (λ (p : Phase). record s { link = given_at p s.link }) down

has_first : (d m : PlainDurableServer) (file : PlainFile) → d.due ≡ None → d.turn.server.effect ≡ None → d.turn.server.link.phase ≡ Down
    → Adopts d file m → Has d (file ∷ []) m
has_first d m file due effect down adopts =
    let server = server_after d m file adopts in
    let at = adopts.taken.2 in
    record {
      server = server;
      stage = ap (λ (x : PlainDurableServer). x.stage) at;
      records = ap (λ (x : PlainDurableServer). x.records) at;
      gate =
          ap (λ (x : PlainDurableServer). x.gate) at
          ∙ ap (λ (s : Server). waiting_too d.gate (mark_of s.link ∷ [])) server;
      due =
          ap (λ (x : PlainDurableServer). x.due) at
          ∙ none_due d.due m.turn.server.effect (length d.gate.waiting + 1) due (ap (λ (s : Server). s.effect) server ∙ effect);
      made = (m.turn.server, subst (λ (s : Server). Takes s (joining file) m.turn.server) (sym (given_down d.turn.server down)) adopts.taken.1, refl);
    }

has_then : (d m e : PlainDurableServer) (file : PlainFile) (files : List PlainFile) → Has d (file ∷ []) m → Has m files e
    → Has d (file ∷ files) e
has_then d m e file files one more = record {
  server =
      more.server
      ∙ ap (λ (s : Server). hosting s (with_all s.host.host (map name_and_text files))) one.server;
  stage = more.stage;
  records =
      more.records ∙ ap (λ (l : List (List ℕ)). l ++ bodies files) one.records
      ∙ append_assoc d.records (record_bytes (joining file) ∷ []) (bodies files);
  gate =
      more.gate ∙ ap (λ (g : PlainGate). waiting_too g (marks_for m.turn.server.link files)) one.gate
      ∙ ap (λ (s : Server). waiting_too (waiting_too d.gate (mark_of d.turn.server.link ∷ [])) (marks_for s.link files)) one.server
      ∙ ap (λ (l : List Mark). record d.gate { waiting = l })
      (append_assoc d.gate.waiting (mark_of d.turn.server.link ∷ []) (marks_for d.turn.server.link files));
  due = more.due;
  made =
      (one.made.0, one.made.1, subst (λ (s : Server). Makes s (map joining files) e.turn.server) one.made.2 more.made);
}

has_none : (d e : PlainDurableServer) → d.stage ≡ Settled → d.due ≡ None → e ≡ d → Has d [] e
has_none d e settled due is = record {
  server = ap (λ (x : PlainDurableServer). x.turn.server) is;
  stage = ap (λ (x : PlainDurableServer). x.stage) is ∙ settled;
  records = ap (λ (x : PlainDurableServer). x.records) is ∙ sym (append-nil d.records);
  gate =
      ap (λ (x : PlainDurableServer). x.gate) is
      ∙ ap (λ (l : List Mark). record d.gate { waiting = l }) (sym (append-nil d.gate.waiting));
  due = ap (λ (x : PlainDurableServer). x.due) is ∙ due;
  made = ap (λ (x : PlainDurableServer). x.turn.server) is;
}

has_all : (files : List PlainFile) (d e : PlainDurableServer) → d.stage ≡ Settled → d.due ≡ None → d.turn.server.effect ≡ None
    → d.turn.server.link.phase ≡ Down → AdoptsAll d files e → Has d files e
has_all [] d e settled due effect down is = has_none d e settled due is
has_all (file ∷ files) d e settled due effect down (m, adopts, rest) =
    let one = has_first d m file due effect down adopts in
    has_then d m e file files one
    (has_all files m e one.stage one.due (ap (λ (s : Server). s.effect) one.server ∙ effect)
    (ap (λ (s : Server). s.link.phase) one.server ∙ down) rest)

pub heir_is : (id : Id) (files : List PlainFile) (e : PlainDurableServer) → AdoptsAll (new_durable_server id) files e → IsHeir id files e
heir_is id files e joins =
    let has = has_all files (new_durable_server id) e refl refl refl refl joins in
    record {
      server =
          has.server ∙ ap (λ (h : PlainHost). hosting (new_server id) h) (all_given_new (map name_and_text files) []);
      stage = has.stage;
      records = has.records;
      gate = has.gate;
      due = has.due;
      made = has.made;
    }

-- ## The walk over the tags

-- so many tags are done
abbrev pub Keeps : Id → PlainDurableServer → PlainDurableServer → ℕ → Type 0
Keeps id d e tag =
    (e.stage ≡ Settled) × (1 ≤ tag) × (length (host_of e).files.slots ≤ tag)
    × Remains (new_durable_server id) (files_of (host_of d)) e (files_from (host_of d) tag)

pub kept : (id : Id) (d e m : PlainDurableServer) (fs : PlainFiles) (tag : ℕ) → fs ≡ (host_of d).files → tag < length fs.slots → Keeps id d e tag
    → AdoptsAll e (option_to_list (slot fs.slots tag)) m → Keeps id d m (tag + 1)
kept id d e m fs tag is inside (settled, some, few, remains) joins =
    let o = slot fs.slots tag in (
      stays_settled e m o settled joins,
      omega arith,
      few_tags e m o tag few joins,
      one_less (new_durable_server id) e m (host_of d) (files_of (host_of d)) tag
          (subst (λ (f : PlainFiles). tag < length f.slots) is inside) remains
          (subst (λ (f : PlainFiles). AdoptsAll e (option_to_list (slot f.slots tag)) m) is joins),
    )

pub all_kept : (id : Id) (d e : PlainDurableServer) (fs : PlainFiles) (tag : ℕ) → fs ≡ (host_of d).files → length fs.slots ≤ tag → Keeps id d e tag
    → AdoptsAll (new_durable_server id) (files_of (host_of d)) e × IsHeir id (files_of (host_of d)) e
all_kept id d e fs tag is past (settled, some, few, remains) =
    let joins =
    all_joined (new_durable_server id) e (host_of d) (files_of (host_of d)) tag (subst (λ (f : PlainFiles). length f.slots ≤ tag) is past) remains in
    (joins, heir_is id (files_of (host_of d)) e joins)

pub ok_then : {P E : Type 0} (r : Result (Unit {0}) E) (b : Bool) → b ≡ is_err r → b ≡ false → OnOk r P → P
ok_then (Ok done) b is right holds = holds
ok_then (Err why) b is right holds = absurd (true≢false (sym is ∙ right))

pub ruleset heir_facts = (all_remain)
