-- What the end of a turn says by its number.
use Rattle.std.proofs.Common.{◌≡◌, refl, sym, subst, ◌⊎◌, inl, inr, ⊎_elim, ℕ, List, ◌++◌, Option, Some, None, MatchOption, Result, Ok, Err, IfOk, arith}
use Rattle.folder_model.specs.Call.{Call}
use Rattle.folder_model.specs.Parts.{Parts}
use Rattle.folder_model.specs.Turn.{IsStored}
use Rattle.folder_protocol.specs.Causes.{FailsToSync, FindsNone, HasCall, Lacks}
use Rattle.folder_protocol.specs.Goes.{AreRemoved}
use Rattle.folder_protocol.specs.declared.putting.Outcome.{Outcome}
use Rattle.folder_protocol.specs.declared.putting.Outcome.TheVariants.{OnDisk, Unsynced, Gone, Damaged}
use Rattle.folder_turns.specs.Orders.{Matter, Caused, LeavesSafe, MayEnd, Says, HasOnlySeen, HasUnseen}
use Rattle.folder_turns.specs.Turns.{State, EndsSaying, IsAstray}
use Rattle.folder_turns.specs.declared.order.End.{End}
use Rattle.folder_turns.specs.declared.order.End.TheVariants as ends
use Rattle.folder_turns.specs.declared.order.Task.{Task}
use Rattle.folder_turns.specs.declared.order.Task.TheVariants as tasks
use Rattle.folder_turns.specs.declared.replay.Fault.{Fault as RunFault}
use Rattle.folder_turns.specs.declared.replay.Fault.TheVariants as replay
use Rattle.lanes_c.specs.Faults.{told_of_replay}
use Rattle.lanes_c.specs.FolderTurns.{EndsAs, EndsIn, FaultCause, GoesOn, HasEnded, LeavesSafeAs, MayEndAs, NamesByEnd, NumberCause, SaysEnd}
use Rattle.lanes_c.specs.declared.fault.Fault.{Fault}
use Rattle.lanes_c.specs.declared.turn_calls.FolderCall.{FolderCall}

-- a number that is neither 1 nor 2
neither : (P : Type 0) (k n : ℕ) → n ≡ k → (k ≡ 1 → ⊥) → (k ≡ 2 → ⊥) → (n ≡ 1) ⊎ (n ≡ 2) → P
neither P k n number no_one no_two = ⊎_elim (λ one. absurd (no_one (omega (arith, number, one)))) (λ two. absurd (no_two (omega (arith, number, two))))

module _ {E : Type 0} (P : Type 0) where
  -- 1 is that the part is on the disk
  on_disk : (end : Result End E) (n : ℕ) → EndsAs end n → IfOk end (λ e. e ≡ ends.Came OnDisk → P) → n ≡ 1 → P
  on_disk (Ok (ends.Came OnDisk)) n number said one = said refl
  on_disk (Ok (ends.Came Unsynced)) n number said one = absurd (omega (arith, number, one))
  on_disk (Ok (ends.Came Gone)) n number said one = absurd (omega (arith, number, one))
  on_disk (Ok (ends.Came Damaged)) n number said one = absurd number
  on_disk (Ok ends.Overtaken) n number said one = absurd (omega (arith, number, one))
  on_disk (Ok ends.Unseen) n number said one = absurd (omega (arith, number, one))
  on_disk (Ok (ends.Listed names)) n number said one = absurd (omega (arith, number, one))
  on_disk (Ok ends.Kept) n number said one = absurd (omega (arith, number, one))
  on_disk (Err error) n number said one = absurd number

  -- 1 or 2 that it is there
  there : (end : Result End E) (n : ℕ) → EndsAs end n → IfOk end (λ e. (how : Outcome) → e ≡ ends.Came how → P) → (n ≡ 1) ⊎ (n ≡ 2) → P
  there (Ok (ends.Came OnDisk)) n number said either = said OnDisk refl
  there (Ok (ends.Came Unsynced)) n number said either = said Unsynced refl
  there (Ok (ends.Came Gone)) n number said either = said Gone refl
  there (Ok (ends.Came Damaged)) n number said either = absurd number
  there (Ok ends.Overtaken) n number said either = neither P 3 n number (λ e. omega (arith, e)) (λ e. omega (arith, e)) either
  there (Ok ends.Unseen) n number said either = neither P 4 n number (λ e. omega (arith, e)) (λ e. omega (arith, e)) either
  there (Ok (ends.Listed names)) n number said either = neither P 0 n number (λ e. omega (arith, e)) (λ e. omega (arith, e)) either
  there (Ok ends.Kept) n number said either = neither P 0 n number (λ e. omega (arith, e)) (λ e. omega (arith, e)) either
  there (Err error) n number said either = absurd number

-- the number of an end says what the end does
ended_says : (E : Type 0) (task : Task) (m : Matter) (end : Result End E) (n : ℕ) (parts : Parts) (before calls : List Call) → EndsAs end n → Says task m end parts before calls → SaysEnd task m n parts before calls
ended_says E tasks.Put m end n parts before calls number said = on_disk {E = E} (IsStored parts m.bytes calls) end n number said
ended_says E tasks.Keep m end n parts before calls number said = on_disk {E = E} (IsStored parts m.bytes calls) end n number said
ended_says E tasks.Replace m end n parts before calls number said = on_disk {E = E} (AreRemoved m.names before calls × IsStored parts m.bytes calls) end n number said
ended_says E tasks.Remove m end n parts before calls number said = on_disk {E = E} (AreRemoved m.names before calls × IsStored parts m.bytes calls) end n number said
ended_says E tasks.List m end n parts before calls number said = tt
ended_says E tasks.KeepAll m (Ok end) n parts before calls number said = said
ended_says E tasks.KeepAll m (Err error) n parts before calls number said = absurd number
ended_says E tasks.PutJudged m (Ok end) n parts before calls number said =
    (on_disk {E = E} (IsStored parts m.bytes calls) (Ok end) n number said.0, there {E = E} (HasOnlySeen m.names before calls) (Ok end) n number said.1)
ended_says E tasks.PutJudged m (Err error) n parts before calls number said = absurd number
ended_says E tasks.KeepAndPut m (Ok end) n parts before calls number said = (said.0, on_disk {E = E} (IsStored parts m.bytes calls) (Ok end) n number said.1)
ended_says E tasks.KeepAndPut m (Err error) n parts before calls number said = absurd number
ended_says E tasks.KeepAndPutJudged m (Ok end) n parts before calls number said =
    (said.0, on_disk {E = E} (IsStored parts m.bytes calls) (Ok end) n number said.1, there {E = E} (HasOnlySeen m.names before calls) (Ok end) n number said.2)
ended_says E tasks.KeepAndPutJudged m (Err error) n parts before calls number said = absurd number

module _ {E : Type 0} (m : Matter) (before calls : List Call) where
  unsynced : (end : Result End E) (n : ℕ) → EndsAs end n → Caused m end before calls → n ≡ 2 → HasCall FailsToSync before calls
  unsynced (Ok (ends.Came OnDisk)) n number cause two = absurd (omega (arith, number, two))
  unsynced (Ok (ends.Came Unsynced)) n number cause two = cause
  unsynced (Ok (ends.Came Gone)) n number cause two = absurd (omega (arith, number, two))
  unsynced (Ok (ends.Came Damaged)) n number cause two = absurd number
  unsynced (Ok ends.Overtaken) n number cause two = absurd (omega (arith, number, two))
  unsynced (Ok ends.Unseen) n number cause two = absurd (omega (arith, number, two))
  unsynced (Ok (ends.Listed names)) n number cause two = absurd (omega (arith, number, two))
  unsynced (Ok ends.Kept) n number cause two = absurd (omega (arith, number, two))
  unsynced (Err error) n number cause two = absurd number

  gone : (end : Result End E) (n : ℕ) → EndsAs end n → Caused m end before calls → n ≡ 3 → HasCall (FindsNone m.name) before calls ⊎ HasCall (Lacks m.names) before calls
  gone (Ok (ends.Came OnDisk)) n number cause three = absurd (omega (arith, number, three))
  gone (Ok (ends.Came Unsynced)) n number cause three = absurd (omega (arith, number, three))
  gone (Ok (ends.Came Gone)) n number cause three = inl cause
  gone (Ok (ends.Came Damaged)) n number cause three = absurd number
  gone (Ok ends.Overtaken) n number cause three = inr cause
  gone (Ok ends.Unseen) n number cause three = absurd (omega (arith, number, three))
  gone (Ok (ends.Listed names)) n number cause three = absurd (omega (arith, number, three))
  gone (Ok ends.Kept) n number cause three = absurd (omega (arith, number, three))
  gone (Err error) n number cause three = absurd number

  unseen : (end : Result End E) (n : ℕ) → EndsAs end n → Caused m end before calls → n ≡ 4 → HasUnseen m.names before calls
  unseen (Ok (ends.Came OnDisk)) n number cause four = absurd (omega (arith, number, four))
  unseen (Ok (ends.Came Unsynced)) n number cause four = absurd (omega (arith, number, four))
  unseen (Ok (ends.Came Gone)) n number cause four = absurd (omega (arith, number, four))
  unseen (Ok (ends.Came Damaged)) n number cause four = absurd number
  unseen (Ok ends.Overtaken) n number cause four = absurd (omega (arith, number, four))
  unseen (Ok ends.Unseen) n number cause four = cause
  unseen (Ok (ends.Listed names)) n number cause four = absurd (omega (arith, number, four))
  unseen (Ok ends.Kept) n number cause four = absurd (omega (arith, number, four))
  unseen (Err error) n number cause four = absurd number

  -- the number has the end's cause
  number_caused : (end : Result End E) (n : ℕ) → EndsAs end n → Caused m end before calls → NumberCause m n before calls
  number_caused end n number cause = record { unsynced = unsynced end n number cause; gone = gone end n number cause; unseen = unseen end n number cause }

-- it is that of an end to which the task may come
may_end : (E : Type 0) (task : Task) (end : Result End E) (n : ℕ) → EndsAs end n → IfOk end (λ e. MayEnd task e) → MayEndAs task n
may_end E task (Ok end) n number may = (end, may, number)
may_end E task (Err error) n number may = absurd number

-- what is kept or relied on is safe then
ended_safe : (E : Type 0) (task : Task) (m : Matter) (end : Result End E) (n : ℕ) (parts : Parts) (before calls : List Call) → EndsAs end n → LeavesSafe task m end parts before calls → LeavesSafeAs task m parts before calls
ended_safe E tasks.Put m end n parts before calls number said = tt
ended_safe E tasks.Keep m end n parts before calls number said = tt
ended_safe E tasks.Replace m end n parts before calls number said = tt
ended_safe E tasks.Remove m end n parts before calls number said = tt
ended_safe E tasks.List m end n parts before calls number said = tt
ended_safe E tasks.PutJudged m end n parts before calls number said = tt
ended_safe E tasks.KeepAll m (Ok end) n parts before calls number said = said
ended_safe E tasks.KeepAll m (Err error) n parts before calls number said = absurd number
ended_safe E tasks.KeepAndPut m (Ok end) n parts before calls number said = said
ended_safe E tasks.KeepAndPut m (Err error) n parts before calls number said = absurd number
ended_safe E tasks.KeepAndPutJudged m (Ok end) n parts before calls number said = said
ended_safe E tasks.KeepAndPutJudged m (Err error) n parts before calls number said = absurd number

-- a fault has the cause of its end
fault_caused : {E : Type 0} (parts : Parts) (before : List Call) (state : State) (end : Result End E) (fault : Fault)
    → EndsIn end fault → Caused state.matter end before (state.calls ++ before) → NamesByEnd parts before state → FaultCause parts fault before state
fault_caused parts before state (Ok (ends.Came OnDisk)) fault ends_in cause named = absurd ends_in
fault_caused parts before state (Ok (ends.Came Unsynced)) fault ends_in cause named = absurd ends_in
fault_caused parts before state (Ok (ends.Came Gone)) fault ends_in cause named = absurd ends_in
fault_caused parts before state (Ok (ends.Came Damaged)) fault ends_in cause named = subst (λ (f : Fault). FaultCause parts f before state) (sym ends_in) (cause, named)
fault_caused parts before state (Ok ends.Overtaken) fault ends_in cause named = absurd ends_in
fault_caused parts before state (Ok ends.Unseen) fault ends_in cause named = absurd ends_in
fault_caused parts before state (Ok (ends.Listed names)) fault ends_in cause named = absurd ends_in
fault_caused parts before state (Ok ends.Kept) fault ends_in cause named = absurd ends_in
fault_caused parts before state (Err error) fault (inl busy) cause named = subst (λ (f : Fault). FaultCause parts f before state) (sym busy) (cause, named)
fault_caused parts before state (Err error) fault (inr (code, system)) cause named = subst (λ (f : Fault). FaultCause parts f before state) (sym system) (inr (cause, named))

-- a turn has ended as its order
pub has_ended : {E : Type 0} (before : List Call) (state : State) (call : FolderCall) (end : Result End E) (n : ℕ) → call.kind ≡ 0 → call.number ≡ n → state.asked ≡ None → EndsAs end n
    → EndsSaying before state end → HasEnded before state call
has_ended {E} before state call end n ended told none number says = let ends_as = subst (λ (k : ℕ). EndsAs end k) (sym told) number in (
  ended,
  none,
  λ parts may. let said = says parts may in (
    ended_says E state.task state.matter end call.number parts before (state.calls ++ before) ends_as said.0,
    number_caused state.matter before (state.calls ++ before) end call.number ends_as said.1,
    (said.2, said.3, said.6),
    may_end E state.task end call.number ends_as said.4,
    ended_safe E state.task state.matter end call.number parts before (state.calls ++ before) ends_as said.5,
  ),
)

-- or is refused as it
pub is_refused : {E : Type 0} (before : List Call) (state : State) (call : FolderCall) (end : Result End E) (fault : Fault) → EndsIn end fault → EndsSaying before state end → GoesOn before state call (Err fault)
is_refused before state call end fault ends_in says = λ parts may. let said = says parts may in fault_caused parts before state end fault ends_in said.1 (said.2, said.3, said.6)

-- a fault of a run is that it has strayed, or that memory ran out
pub strays : (before : List Call) (state : State) (call : FolderCall) (came : RunFault) (fault : Fault) → fault ≡ told_of_replay came → (came ≡ replay.Strayed → IsAstray before state)
    → GoesOn before state call (Err fault)
strays before state call came fault is astray = λ parts may. subst (λ (f : Fault). FaultCause parts f before state) (sym is) (caused parts came astray)
  where
    caused : (parts : Parts) (other : RunFault) → (other ≡ replay.Strayed → IsAstray before state) → FaultCause parts (told_of_replay other) before state
    caused parts replay.OutOfMemory so = refl
    caused parts replay.Strayed so = inl (refl, so refl)

-- what is said of the end that came is said of it
pub said_of : {E : Type 0} (P : Result End E → Type 0) (came : Option (Result End E)) (end : Result End E) → came ≡ Some end → MatchOption came (Unit {0}) P → P end
said_of {E} P came end is said = subst (λ (o : Option (Result End E)). MatchOption o (Unit {0}) P) is said
