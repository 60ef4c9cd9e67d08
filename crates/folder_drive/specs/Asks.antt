-- What a command asks for.
use Rattle.std.specs.Prelude.{◌≡◌, ◌++◌, ◌∷◌, ℕ, List, MatchOption, Option}
use Rattle.folder_model.specs.Call.{Call}
use Rattle.folder_turns.specs.Turns.{AsksInTurn, EndsSaying, IsSame, state_of}
use Rattle.folder_turns.specs.Calls.{answered}
use Rattle.folder_turns.specs.Orders.{Matter}
use Rattle.folder_turns.specs.declared.order.Task.{Task}
use Rattle.folder_turns.specs.declared.request.Answer.{Answer}
use Rattle.folder_turns.specs.declared.request.Answer.TheVariants as replies
use Rattle.folder_turns.specs.declared.turn.Turn.{Turn}
use Rattle.folder_turns.specs.declared.request.Request.{Request}
use Rattle.folder_turns.specs.declared.request.Request.TheVariants.{ReadFile}
use Rattle.folder_drive.specs.declared.phase.Phase.{Phase}
use Rattle.folder_drive.specs.declared.phase.Phase.TheVariants.{Lists, Reads, Puts, Over}
use Rattle.folder_drive.specs.declared.following.Followed.{Followed}
use Rattle.folder_drive.specs.declared.following.Followed.TheVariants.{Asks, Ends}
use Rattle.folder_drive.specs.declared.change.Ending.{Ending}
use Rattle.folder_drive.specs.declared.change.Ending.TheVariants as endings

-- a read, which is in turn after whatever calls
abbrev pub IsRead : Request → Type 0
IsRead (ReadFile name) = Unit {0}
IsRead request = ⊥

-- a turn that is followed asks in turn after these calls and those told, or its end says of them what the order says
abbrev pub FollowsTo : List Call → Followed → Type 0
FollowsTo before (Asks turn) = AsksInTurn before (state_of turn)
FollowsTo before (Ends turn end) = EndsSaying before (state_of turn) end

-- The call that is asked for is in turn after the calls before the turn and those told in it, whatever was told.
abbrev pub PhaseAsks : List Call → Phase → Type 0
PhaseAsks before (Lists turn) = AsksInTurn before (state_of turn)
PhaseAsks before (Reads request names at) = IsRead request
PhaseAsks before (Puts turn) = AsksInTurn before (state_of turn)
PhaseAsks before Over = Unit {0}

-- What an order has come to says of the calls before its turn and those told in it what the order says.
abbrev pub EndingSays : {M R : Type 0} → List Call → Ending M R → Type 0
EndingSays before (endings.Followed made turn end) = EndsSaying before (state_of turn) end
EndingSays before ending = Unit {0}

-- a turn that is followed has the calls that it had
abbrev pub KeepsCalls : Turn → Followed → Type 0
KeepsCalls was (Asks turn) = IsSame (state_of turn) (state_of was)
KeepsCalls was (Ends turn end) = IsSame (state_of turn) (state_of was)

-- the calls of a turn once it was told what came of the one that it asked for
abbrev pub HasTold : Answer → Turn → Turn → Type 0
HasTold answer was turn = MatchOption (state_of was).asked ((state_of turn).calls ≡ (state_of was).calls) (λ call. (state_of turn).calls ≡ answered call answer ++ (state_of was).calls)

-- If the same turn goes on, its calls are those told before and this one.
abbrev pub PutsOn : Answer → Turn → Phase → Type 0
PutsOn answer was (Puts turn) = HasTold answer was turn
PutsOn answer was phase = Unit {0}

-- If the same turn goes on, its calls are those that it had.
abbrev pub PutsKeeping : Turn → Phase → Type 0
PutsKeeping was (Puts turn) = (state_of turn).calls ≡ (state_of was).calls
PutsKeeping was phase = Unit {0}

-- What was made of parts answers for these: it waits to be decided, or an order is followed that puts what it brings.
abbrev pub IsMade : {H M : Type 0} → (H → List (List ℕ) → Type 0) → (M → Task → Matter → List (List ℕ) → Type 0) → Phase → Option H → Option M → List (List ℕ) → Type 0
IsMade made_of answers (Lists turn) held made parts = MatchOption held ⊥ (λ h. made_of h parts)
IsMade made_of answers (Reads request names at) held made parts = MatchOption held ⊥ (λ h. made_of h parts)
IsMade made_of answers (Puts turn) held made parts = MatchOption made ⊥ (λ m. answers m (state_of turn).task (state_of turn).matter parts)
IsMade made_of answers Over held made parts = Unit {0}

-- the same of an end
abbrev pub EndMade : {M R : Type 0} → (M → Task → Matter → List (List ℕ) → Type 0) → List (List ℕ) → Ending M R → Type 0
EndMade answers parts (endings.Followed made turn end) = answers made (state_of turn).task (state_of turn).matter parts
EndMade answers parts ending = Unit {0}

-- the bytes of the parts that were told, with those of one more, if it was found
abbrev pub parts_with : Answer → List (List ℕ) → List (List ℕ)
parts_with (replies.Found bytes) parts = bytes.items ∷ parts
parts_with answer parts = parts

-- the same by what was asked for
abbrev pub parts_told : Phase → Answer → List (List ℕ) → List (List ℕ)
parts_told (Reads request names at) answer parts = parts_with answer parts
parts_told phase answer parts = parts

-- If the order that was followed goes on, the calls of its turn are those told before and this one: nothing is forgotten.
abbrev pub TellsOn : Answer → Phase → Phase → Type 0
TellsOn answer (Puts was) phase = PutsOn answer was phase
TellsOn answer was phase = Unit {0}
