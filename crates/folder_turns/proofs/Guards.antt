-- How a guard goes along with the calls.
use Rattle.std.proofs.Common.{◌≡◌, refl, sym, ◌∙◌, ap, subst, ◌&&◌, if◌then◌else◌, inr, ℕ, Bool, true, false, leb, List, [], ◌∷◌, ◌++◌, length, take, drop, Option, Some, None, MatchOption, append_assoc}
use Rattle.std.proofs.lemmas.Slice.Eq.{bytes_eq-Decides}
use Rattle.std.specs.String.{string_bytes}
use Rattle.std.specs.declared.string.String.{String}
use Rattle.std.specs.Global.{Global}
use Rattle.std.specs.Str.{bytes_eq}
use Rattle.folder_model.specs.Call.{Call, Kind, Exclusive, Shared, Wrote, Removed, Locked, Read, lock_of}
use Rattle.folder_model.specs.Disk.{Among}
use Rattle.folder_model.specs.Parts.{Parts}
use Rattle.folder_model.specs.Turn.{Stage, Idle, Filled, Ready, Placed, Stored, Seen, Whole, Guarded, InTurn, synced, settled, stage_of}
use Rattle.folder_protocol.specs.Goes.{AreJoined}
use Rattle.folder_protocol.proofs.Lines.{has_read_later}
use Rattle.folder_turns.specs.Calls.{answered, call_asked, calls_after, found_of, is_done, write_of}
use Rattle.folder_turns.specs.Guarding.{HasGuard, IsAhead, IsItsPart, Removes, alone_of, seen_of, synced_of, settled_of, guard_after, is_alone, is_at, is_guarded, is_seen, is_whole}
use Rattle.folder_turns.specs.Orders.{Matter, MayTake, matter_of}
use Rattle.folder_turns.specs.Turns.{AsksInTurn, asking}
use Rattle.folder_turns.specs.declared.guarding.Guard.{Guard}
use Rattle.folder_turns.specs.declared.guarding.Guard.TheVariants as guards
use Rattle.folder_turns.specs.declared.order.Order.{Order}
use Rattle.folder_turns.specs.declared.order.Task.{Task}
use Rattle.folder_turns.specs.declared.order.Task.TheVariants as tasks
use Rattle.folder_turns.specs.declared.request.Answer.{Answer}
use Rattle.folder_turns.specs.declared.request.Answer.TheVariants as answers
use Rattle.folder_turns.specs.declared.request.Request.{Request}
use Rattle.folder_turns.specs.declared.request.Request.TheVariants.{Make, Write, Sync, Link, Remove, Settle, Lock, LockShared, ListNames, Unlock, ReadFile}
use Rattle.folder_turns.specs.declared.request.Told.{Told}
use Rattle.folder_turns.specs.declared.turn.Turn.{Turn}
use Rattle.folder_turns.proofs.Runs.{told_more}

-- of two both
first : (a b : Bool) → (a && b) ≡ true → a ≡ true
first true b is = refl
first false b is = cc

second : (a b : Bool) → (a && b) ≡ true → b ≡ true
second true b is = is
second false b is = cc

both : (a b : Bool) → a ≡ true → b ≡ true → (a && b) ≡ true
both true b one other = other
both false b one other = cc

same_bytes : (bytes : List ℕ) → bytes_eq bytes bytes ≡ true
same_bytes bytes = (bytes_eq-Decides bytes bytes).1 refl

-- ---- which stage comes of which

whole_of : (bytes : List ℕ) (stage : Stage) → is_seen bytes stage ≡ true → is_whole bytes (synced true stage) ≡ true
whole_of bytes (Seen found) is = is
whole_of bytes Idle is = cc
whole_of bytes (Filled name found) is = cc
whole_of bytes (Ready name found) is = cc
whole_of bytes (Placed found) is = cc
whole_of bytes (Stored found) is = cc
whole_of bytes (Whole found) is = cc
whole_of bytes (Guarded found) is = cc

guarded_of : (bytes : List ℕ) (lock : Option Kind) (stage : Stage) → is_alone lock ≡ true → is_whole bytes stage ≡ true → is_guarded bytes (settled true lock stage) ≡ true
guarded_of bytes None stage lone is = cc
guarded_of bytes (Some Shared) stage lone is = cc
guarded_of bytes (Some Exclusive) (Whole found) lone is = is
guarded_of bytes (Some Exclusive) Idle lone is = cc
guarded_of bytes (Some Exclusive) (Filled name found) lone is = cc
guarded_of bytes (Some Exclusive) (Ready name found) lone is = cc
guarded_of bytes (Some Exclusive) (Placed found) lone is = cc
guarded_of bytes (Some Exclusive) (Stored found) lone is = cc
guarded_of bytes (Some Exclusive) (Seen found) lone is = cc
guarded_of bytes (Some Exclusive) (Guarded found) lone is = cc

guarded_still : (bytes : List ℕ) (lock : Option Kind) (stage : Stage) → is_alone lock ≡ true → is_guarded bytes stage ≡ true → is_guarded bytes (settled true lock stage) ≡ true
guarded_still bytes None stage lone is = cc
guarded_still bytes (Some Shared) stage lone is = cc
guarded_still bytes (Some Exclusive) (Guarded found) lone is = is
guarded_still bytes (Some Exclusive) Idle lone is = cc
guarded_still bytes (Some Exclusive) (Filled name found) lone is = cc
guarded_still bytes (Some Exclusive) (Ready name found) lone is = cc
guarded_still bytes (Some Exclusive) (Placed found) lone is = cc
guarded_still bytes (Some Exclusive) (Stored found) lone is = cc
guarded_still bytes (Some Exclusive) (Seen found) lone is = cc
guarded_still bytes (Some Exclusive) (Whole found) lone is = cc

pub guarded_is : (bytes : List ℕ) (stage : Stage) → is_guarded bytes stage ≡ true → stage ≡ Guarded bytes
guarded_is bytes (Guarded found) is = ap (λ (b : List ℕ). Guarded b) ((bytes_eq-Decides found bytes).0 is)
guarded_is bytes Idle is = cc
guarded_is bytes (Filled name found) is = cc
guarded_is bytes (Ready name found) is = cc
guarded_is bytes (Placed found) is = cc
guarded_is bytes (Stored found) is = cc
guarded_is bytes (Seen found) is = cc
guarded_is bytes (Whole found) is = cc

-- ---- which guard comes of which

module _ (bytes : List ℕ) (lock : Option Kind) (stage other : Stage) where
  alone_still : (g : Guard) → is_at g bytes lock stage ≡ true → is_at (alone_of g) bytes lock other ≡ true
  alone_still guards.Open at = refl
  alone_still guards.Alone at = at
  alone_still guards.Seen at = first (is_alone lock) (is_seen bytes stage) at
  alone_still guards.Whole at = first (is_alone lock) (is_whole bytes stage) at
  alone_still guards.Guarded at = first (is_alone lock) (is_guarded bytes stage) at

  seen_now : (g : Guard) → is_at g bytes lock stage ≡ true → other ≡ Seen bytes → is_at (seen_of g) bytes lock other ≡ true
  seen_now g at is = by g at
    where
      seen : is_seen bytes other ≡ true
      seen = ap (λ (s : Stage). is_seen bytes s) is ∙ same_bytes bytes

      by : (g : Guard) → is_at g bytes lock stage ≡ true → is_at (seen_of g) bytes lock other ≡ true
      by guards.Open at = refl
      by guards.Alone at = both (is_alone lock) (is_seen bytes other) at seen
      by guards.Seen at = both (is_alone lock) (is_seen bytes other) (first (is_alone lock) (is_seen bytes stage) at) seen
      by guards.Whole at = both (is_alone lock) (is_seen bytes other) (first (is_alone lock) (is_whole bytes stage) at) seen
      by guards.Guarded at = both (is_alone lock) (is_seen bytes other) (first (is_alone lock) (is_guarded bytes stage) at) seen

module _ (bytes : List ℕ) (lock : Option Kind) (stage : Stage) where
  synced_now : (g : Guard) → is_at g bytes lock stage ≡ true → is_at (synced_of g) bytes lock (synced true stage) ≡ true
  synced_now guards.Open at = refl
  synced_now guards.Alone at = at
  synced_now guards.Seen at =
      both (is_alone lock) (is_whole bytes (synced true stage)) (first (is_alone lock) (is_seen bytes stage) at) (whole_of bytes stage (second (is_alone lock) (is_seen bytes stage) at))
  synced_now guards.Whole at = first (is_alone lock) (is_whole bytes stage) at
  synced_now guards.Guarded at = first (is_alone lock) (is_guarded bytes stage) at

  settled_now : (g : Guard) → is_at g bytes lock stage ≡ true → is_at (settled_of g) bytes lock (settled true lock stage) ≡ true
  settled_now guards.Open at = refl
  settled_now guards.Alone at = at
  settled_now guards.Seen at = first (is_alone lock) (is_seen bytes stage) at
  settled_now guards.Whole at =
      let lone = first (is_alone lock) (is_whole bytes stage) at in
      both (is_alone lock) (is_guarded bytes (settled true lock stage)) lone (guarded_of bytes lock stage lone (second (is_alone lock) (is_whole bytes stage) at))
  settled_now guards.Guarded at =
      let lone = first (is_alone lock) (is_guarded bytes stage) at in
      both (is_alone lock) (is_guarded bytes (settled true lock stage)) lone (guarded_still bytes lock stage lone (second (is_alone lock) (is_guarded bytes stage) at))

  by_sync : (done : Bool) (g : Guard) → is_at g bytes lock stage ≡ true → is_at (if done then synced_of g else alone_of g) bytes lock (synced done stage) ≡ true
  by_sync true g at = synced_now g at
  by_sync false g at = alone_still bytes lock stage (synced false stage) g at

  by_settle : (done : Bool) (g : Guard) → is_at g bytes lock stage ≡ true → is_at (if done then settled_of g else alone_of g) bytes lock (settled done lock stage) ≡ true
  by_settle true g at = settled_now g at
  by_settle false g at = alone_still bytes lock stage (settled false lock stage) g at

-- a write leaves the lock
wrote_lock : (bytes : List ℕ) (answer : Answer) (h : List Call) → lock_of (write_of bytes answer ∷ h) ≡ lock_of h
wrote_lock bytes (answers.Wrote count) h = by (leb count (length bytes))
  where
    by : (b : Bool) → lock_of ((if b then Wrote (take count bytes) true else Wrote bytes false) ∷ h) ≡ lock_of h
    by true = refl
    by false = refl
wrote_lock bytes answers.Failed h = refl
wrote_lock bytes (answers.FailedBy code) h = refl
wrote_lock bytes answers.Done h = refl
wrote_lock bytes answers.Taken h = refl
wrote_lock bytes (answers.Listed names) h = refl
wrote_lock bytes answers.Missing h = refl
wrote_lock bytes (answers.Found found) h = refl
wrote_lock bytes (answers.Noted note) h = refl

-- ---- one call more

module _ (parts : Parts) (order : Order) (named : string_bytes order.name ≡ parts.name_of order.bytes.items) (h : List Call) where
  -- the part was read
  read_now : (name : List ℕ) (answer : Answer) → (found : List ℕ) × (found_of answer ≡ Some (Some found)) × (name ≡ string_bytes order.name) × (found ≡ order.bytes.items)
      → stage_of parts (Read name (found_of answer) ∷ h) ≡ Seen order.bytes.items
  read_now name answer (found, is, same_name, same) =
      ap (λ (a : Option (Option (List ℕ))). stage_of parts (Read name a ∷ h)) (is ∙ ap (λ (b : List ℕ). Some (Some b)) same)
      ∙ ap (λ (b : Bool). if b then Seen order.bytes.items else Idle) ((bytes_eq-Decides name (parts.name_of order.bytes.items)).1 (same_name ∙ named))

  by_lock : (done : Bool) → is_at (if done then guards.Alone else guards.Open) order.bytes.items (lock_of (Locked Exclusive done ∷ h)) (stage_of parts (Locked Exclusive done ∷ h)) ≡ true
  by_lock true = refl
  by_lock false = refl

  by_read : (name : List ℕ) (answer : Answer) (is_part : Bool) (g : Guard) → (is_part ≡ true → (found : List ℕ) × (found_of answer ≡ Some (Some found)) × (name ≡ string_bytes order.name) × (found ≡ order.bytes.items))
      → is_at g order.bytes.items (lock_of h) (stage_of parts h) ≡ true
      → is_at (if is_part then seen_of g else alone_of g) order.bytes.items (lock_of h) (stage_of parts (Read name (found_of answer) ∷ h)) ≡ true
  by_read name answer true g its at = seen_now order.bytes.items (lock_of h) (stage_of parts h) (stage_of parts (Read name (found_of answer) ∷ h)) g at (read_now name answer (its refl))
  by_read name answer false g its at = alone_still order.bytes.items (lock_of h) (stage_of parts h) (stage_of parts (Read name (found_of answer) ∷ h)) g at

  its_part : (name : String Global) (answer : Answer) → IsItsPart order (ReadFile name) answer → (found : List ℕ) × (found_of answer ≡ Some (Some found)) × (string_bytes name ≡ string_bytes order.name) × (found ≡ order.bytes.items)
  its_part name (answers.Found found) its = (found.items, refl, its.0, its.1)
  its_part name answers.Failed its = absurd its
  its_part name (answers.FailedBy code) its = absurd its
  its_part name answers.Done its = absurd its
  its_part name answers.Taken its = absurd its
  its_part name (answers.Wrote count) its = absurd its
  its_part name (answers.Listed names) its = absurd its
  its_part name answers.Missing its = absurd its
  its_part name (answers.Noted note) its = absurd its

  pub guard_holds : (request : Request) (answer : Answer) (is_part : Bool) (g : Guard) → (is_part ≡ true → IsItsPart order request answer)
      → is_at g order.bytes.items (lock_of h) (stage_of parts h) ≡ true
      → is_at (guard_after (call_asked order.bytes.items request) answer is_part g) order.bytes.items
      (lock_of (answered (call_asked order.bytes.items request) answer ++ h)) (stage_of parts (answered (call_asked order.bytes.items request) answer ++ h)) ≡ true
  guard_holds (Make name) answer is_part g its at = alone_still order.bytes.items (lock_of h) (stage_of parts h) _ g at
  guard_holds (Write from) answer is_part g its at =
      let wrote = write_of (drop from order.bytes.items) answer in
      subst (λ (l : Option Kind). is_at (alone_of g) order.bytes.items l (stage_of parts (wrote ∷ h)) ≡ true) (sym (wrote_lock (drop from order.bytes.items) answer h))
      (alone_still order.bytes.items (lock_of h) (stage_of parts h) (stage_of parts (wrote ∷ h)) g at)
  guard_holds Sync answer is_part g its at = by_sync order.bytes.items (lock_of h) (stage_of parts h) (is_done answer) g at
  guard_holds (Link from to) answer is_part g its at = alone_still order.bytes.items (lock_of h) (stage_of parts h) _ g at
  guard_holds (Remove name) answer is_part g its at = at
  guard_holds Settle answer is_part g its at = by_settle order.bytes.items (lock_of h) (stage_of parts h) (is_done answer) g at
  guard_holds Lock answer is_part g its at = by_lock (is_done answer)
  guard_holds LockShared answer is_part g its at = refl
  guard_holds ListNames answer is_part g its at = alone_still order.bytes.items (lock_of h) (stage_of parts h) _ g at
  guard_holds Unlock answer is_part g its at = refl
  guard_holds (ReadFile name) answer is_part g its at = by_read (string_bytes name) answer is_part g (λ is. its_part name answer (its is)) at

-- once a call was told
pub guard_more : (order : Order) (ts items : List Told) (request : Request) (answer kept : Answer) (is_part : Bool) (g : Guard) → (is_part ≡ true → IsItsPart order request answer)
    → ((call : Call) → answered call kept ≡ answered call answer) → items ≡ ts ++ record { request = request; answer = kept } ∷ [] → HasGuard order ts g → HasGuard order items (guard_after (call_asked order.bytes.items request) answer is_part g)
guard_more order ts items request answer kept is_part g its same grown has parts before named =
    let one = answered (call_asked order.bytes.items request) answer in
    let calls = calls_after order.bytes.items ts [] in
    let is : calls_after order.bytes.items items [] ++ before ≡ one ++ (calls ++ before) =
    ap (λ (l : List Told). calls_after order.bytes.items l [] ++ before) grown
    ∙ ap (λ (l : List Call). l ++ before) (told_more order.bytes.items ts (record { request = request; answer = kept }) [] ∙ ap (λ (l : List Call). l ++ calls) (same (call_asked order.bytes.items request)))
    ∙ append_assoc one calls before in
    subst (λ (l : List Call). is_at (guard_after (call_asked order.bytes.items request) answer is_part g) order.bytes.items (lock_of l) (stage_of parts l) ≡ true) (sym is)
    (guard_holds parts order named (calls ++ before) request answer is_part g its (has parts before named))

-- none is told yet
pub guard_none : (order : Order) → HasGuard order [] guards.Open
guard_none order parts before named = refl

-- ---- what is asked for ahead

-- a part that the bytes cover, and was read before, may be removed under the guard
removes_ahead : (parts : Parts) (m : Matter) (before calls : List Call) (name : List ℕ) → AreJoined parts m.bytes m.names before → stage_of parts (calls ++ before) ≡ Guarded m.bytes
    → Among name m.names → InTurn parts (calls ++ before) (Removed name false)
removes_ahead parts m before calls name joined guarded among =
    let j = joined name among in
    inr (record { joined = j.joined; packed = m.bytes; named = j.named; read = has_read_later parts j.joined calls before j.read; guarded = guarded; apart = j.apart; covers = j.covers })

joined_in : (task : Task) (m : Matter) (parts : Parts) (before : List Call) → Removes task → MayTake task m parts before → (m.name ≡ parts.name_of m.bytes) × AreJoined parts m.bytes m.names before
joined_in tasks.Replace m parts before removes may = (may.1.0.0, may.1.1)
joined_in tasks.Remove m parts before removes may = (may.1.0, may.1.1)
joined_in tasks.Put m parts before removes may = absurd removes
joined_in tasks.Keep m parts before removes may = absurd removes
joined_in tasks.List m parts before removes may = absurd removes
joined_in tasks.KeepAll m parts before removes may = absurd removes
joined_in tasks.PutJudged m parts before removes may = absurd removes
joined_in tasks.KeepAndPut m parts before removes may = absurd removes
joined_in tasks.KeepAndPutJudged m parts before removes may = absurd removes

-- a turn that asks ahead asks in turn
pub ahead_asks : (before : List Call) (request : Request) (turn : Turn) (g : Guard) → HasGuard turn.order turn.told.items g → IsAhead turn.order g request → AsksInTurn before (asking request turn)
ahead_asks before (Make name) turn g has ahead = absurd ahead
ahead_asks before (Write from) turn g has ahead = absurd ahead
ahead_asks before Sync turn g has ahead = λ parts all may. tt
ahead_asks before (Link from to) turn g has ahead = absurd ahead
ahead_asks before (Remove name) turn g has ahead = λ parts all may.
    let told = calls_after turn.order.bytes.items turn.told.items [] in
    let may_go = joined_in turn.order.task (matter_of turn.order) parts before ahead.1 may in
    let at = subst (λ (k : Guard). is_at k turn.order.bytes.items (lock_of (told ++ before)) (stage_of parts (told ++ before)) ≡ true) ahead.0 (has parts before may_go.0) in
    removes_ahead parts (matter_of turn.order) before told (string_bytes name) may_go.1
    (guarded_is turn.order.bytes.items (stage_of parts (told ++ before)) (second (is_alone (lock_of (told ++ before))) (is_guarded turn.order.bytes.items (stage_of parts (told ++ before))) at))
    ahead.2
ahead_asks before Settle turn g has ahead = absurd ahead
ahead_asks before Lock turn g has ahead = absurd ahead
ahead_asks before LockShared turn g has ahead = absurd ahead
ahead_asks before ListNames turn g has ahead = absurd ahead
ahead_asks before Unlock turn g has ahead = absurd ahead
ahead_asks before (ReadFile name) turn g has ahead = λ parts all may. tt

-- ---- an answer that is remembered without its bytes

-- nothing is forgotten
pub told_as : (asked : Option Call) (X Y : List Call) (A : Type 0) (kept answer : Answer) → ((call : Call) → answered call kept ≡ answered call answer)
    → MatchOption asked A (λ call. X ≡ answered call kept ++ Y) → MatchOption asked A (λ call. X ≡ answered call answer ++ Y)
told_as None X Y A kept answer same told = told
told_as (Some call) X Y A kept answer same told = told ∙ ap (λ (l : List Call). l ++ Y) (same call)
