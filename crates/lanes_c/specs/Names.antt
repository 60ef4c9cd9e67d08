-- The names of refusals by their numbers, and what a number and a place are a sentence of.
use Rattle.std.specs.Prelude.{◌≡◌, ◌⊎◌, ℕ, ◌<◌, ◌%◌, ◌==◌, nat_lt, cond, List, [], codes, Option, Some, None}
use Rattle.table_model.specs.RefusalText.{number_of, place_of as named_by, refusal_name}
use Rattle.table_model.specs.declared.names.BatchName.{BatchName}
use Rattle.table_model.specs.declared.place.Place.{Place as Named}
use Rattle.table_model.specs.declared.place.Place.TheVariants as named
use Rattle.table_model.specs.declared.refusal.Refusal.{Refusal}
use Rattle.table_model.specs.declared.refusal.Refusal.TheVariants as refusals
use Rattle.refusal_sentences.specs.declared.command_refusal.CommandRefusal.{CommandRefusal}
use Rattle.refusal_sentences.specs.declared.command_refusal.CommandRefusal.TheVariants as commands
use Rattle.lanes_c.specs.Faults.{number_of_fault, place_of_fault}
use Rattle.lanes_c.specs.declared.fault.Place.{Place}
use Rattle.lanes_c.specs.declared.fault.Fault.{Fault}
use Rattle.lanes_c.specs.declared.fault.Fault.TheVariants as faults

-- the name of a number that is none of a refusal's of the table's own calls: of 38 to 46
abbrev pub own_name : ℕ → List ℕ
own_name n =
    cond (n == 38) (codes "BadCsv")
    (cond (n == 39) (codes "NotOpen")
    (cond (n == 40) (codes "NotApart")
    (cond (n == 41) (codes "QueryDiffers")
    (cond (n == 42) (codes "TooMany")
    (cond (n == 43) (codes "Missing") (cond (n == 44) (codes "Busy") (cond (n == 45) (codes "Damaged") (cond (n == 46) (codes "System") []))))))))

-- a text is the name of a refusal's number, from 1 to 46; other numbers have none
abbrev pub IsNameOf : ℕ → List ℕ → Type 0
IsNameOf number name =
    ((refusal : Refusal) × (number_of refusal ≡ number) × (name ≡ refusal_name refusal))
    ⊎ (((number ≡ 0) ⊎ (37 < number)) × (name ≡ own_name number))

-- ---- what a number and a place are a sentence of

-- the batch of a place, whose numbers have 32 bits
abbrev pub batch_of : Place → BatchName
batch_of place = record { origin = record { 0 = place.first % 4294967296 }; number = record { 0 = place.second % 4294967296 } }

-- the refusal of a number from 1 to 12 at a place
abbrev pub refusal_of_calls : ℕ → Place → Option Refusal
refusal_of_calls n place =
    cond (n == 1) (Some refusals.Memory)
    (cond (n == 2) (Some (refusals.Conflict (batch_of place)))
    (cond (n == 3) (Some refusals.Full)
    (cond (n == 4) (Some refusals.EmptyBatch)
    (cond (n == 5) (Some refusals.BatchTooLong)
    (cond (n == 6) (Some (refusals.WrongArity place.first))
    (cond (n == 7) (Some (refusals.OutOfType place.first place.second))
    (cond (n == 8) (Some refusals.SchemaDiffers)
    (cond (n == 9) (Some refusals.NumbersSpent)
    (cond (n == 10) (Some refusals.NoSuchVector)
    (cond (n == 11) (Some refusals.BadName)
    (cond (n == 12) (Some refusals.BadSchema) None)))))))))))

-- the refusal of a number from 13 to 25 at a place
abbrev pub refusal_of_bytes : ℕ → Place → Option Refusal
refusal_of_bytes n place =
    cond (n == 13) (Some (refusals.Truncated place.first))
    (cond (n == 14) (Some refusals.BadMagic)
    (cond (n == 15) (Some refusals.BadVersion)
    (cond (n == 16) (Some (refusals.BadOrder place.first))
    (cond (n == 17) (Some (refusals.BadCount place.first))
    (cond (n == 18) (Some (refusals.BadWidth place.first))
    (cond (n == 19) (Some (refusals.BadTag place.first))
    (cond (n == 20) (Some (refusals.BadMask place.first))
    (cond (n == 21) (Some (refusals.BadDictionary place.first))
    (cond (n == 22) (Some (refusals.BadCode place.first))
    (cond (n == 23) (Some (refusals.BadRange place.first))
    (cond (n == 24) (Some (refusals.TrailingBytes place.first))
    (cond (n == 25) (Some (refusals.NotCanonical place.first)) None))))))))))))

-- the refusal of a number from 26 to 37 at a place
abbrev pub refusal_of_texts : ℕ → Place → Option Refusal
refusal_of_texts n place =
    cond (n == 26) (Some (refusals.Syntax place.first))
    (cond (n == 27) (Some refusals.NoSuchTable)
    (cond (n == 28) (Some (refusals.NoSuchColumn place.first))
    (cond (n == 29) (Some (refusals.NotGrouped place.first))
    (cond (n == 30) (Some (refusals.NumberTooLarge place.first))
    (cond (n == 31) (Some refusals.TooDeep)
    (cond (n == 32) (Some refusals.LineTooLong)
    (cond (n == 33) (Some refusals.ReadFault)
    (cond (n == 34) (Some refusals.WriteFault)
    (cond (n == 35) (Some refusals.BadLine)
    (cond (n == 36) (Some refusals.NoSuchReplica)
    (cond (n == 37) (Some refusals.NoSuchMessage) None)))))))))))

-- the refusal of a number of the table's own calls at a place
abbrev pub refusal_at : ℕ → Place → Option Refusal
refusal_at n place = cond (nat_lt n 13) (refusal_of_calls n place) (cond (nat_lt n 26) (refusal_of_bytes n place) (refusal_of_texts n place))

-- the refusal of a number from 38 on at a place; 39 is a closed handle, which has a sentence of its own
abbrev pub own_refusal_at : ℕ → Place → Option CommandRefusal
own_refusal_at n place =
    cond (n == 38) (Some (commands.BadCsv place.first place.second))
    (cond (n == 40) (Some (commands.NotApart (batch_of place)))
    (cond (n == 41) (Some commands.QueryDiffers) (cond (n == 42) (Some commands.TooMany) (cond (n == 43) (Some (commands.Missing (batch_of place))) None))))

-- a refusal of the table's own calls as one of a command, or the other one
abbrev pub or_own : Option Refusal → Option CommandRefusal → Option CommandRefusal
or_own (Some refusal) other = Some (commands.Named refusal)
or_own None other = other

-- the refusal of a number at a place
abbrev pub command_refusal_at : ℕ → Place → Option CommandRefusal
command_refusal_at n place = or_own (refusal_at n place) (own_refusal_at n place)

-- the refusal of a fault, as its sentence says it; a closed handle and the faults of folders have sentences of their own
abbrev pub refusal_of_fault : Fault → Option CommandRefusal
refusal_of_fault (faults.Refused refusal) = Some (commands.Named refusal)
refusal_of_fault (faults.BadCsv line column) = Some (commands.BadCsv line column)
refusal_of_fault (faults.LineTooLong line) = Some (commands.Named refusals.LineTooLong)
refusal_of_fault (faults.OfQuery refusal query) = Some (commands.Named refusal)
refusal_of_fault (faults.InNames refusal) = Some (commands.Named refusal)
refusal_of_fault faults.NotOpen = None
refusal_of_fault (faults.NotApart name) = Some (commands.NotApart name)
refusal_of_fault faults.QueryDiffers = Some commands.QueryDiffers
refusal_of_fault faults.TooMany = Some commands.TooMany
refusal_of_fault (faults.OfSummary refusal summary) = Some (commands.Named refusal)
refusal_of_fault (faults.Missing name) = Some (commands.Missing name)
refusal_of_fault faults.Busy = None
refusal_of_fault faults.Damaged = None
refusal_of_fault (faults.System code) = None

-- a batch's numbers have 32 bits
abbrev pub IsShort : BatchName → Type 0
IsShort name = (name.origin.0 < 4294967296) × (name.number.0 < 4294967296)

-- a batch that is named has such numbers
abbrev pub HasShort : Named → Type 0
HasShort (named.Batch name) = IsShort name
HasShort other = Unit {0}

-- what is named has at most one number, so that the second number of a place is free
abbrev pub HasOne : Named → Type 0
HasOne (named.Batch name) = ⊥
HasOne (named.Cell row column) = ⊥
HasOne other = Unit {0}

-- A fault that calls tell: batches have numbers of 32 bits, and if the place has a number of its own next to the refusal's, the refusal
-- has at most one.
abbrev pub IsTold : Fault → Type 0
IsTold (faults.Refused refusal) = HasShort (named_by refusal)
IsTold (faults.OfQuery refusal query) = HasOne (named_by refusal)
IsTold (faults.InNames refusal) = HasOne (named_by refusal)
IsTold (faults.OfSummary refusal summary) = HasOne (named_by refusal)
IsTold (faults.NotApart name) = IsShort name
IsTold (faults.Missing name) = IsShort name
IsTold other = Unit {0}

-- The number and the place of a fault say its refusal again.
abbrev pub SaysAgain : ℕ → Place → Option CommandRefusal → Type 0
SaysAgain number place said = (fault : Fault) → IsTold fault → number_of_fault fault ≡ number → place_of_fault fault ≡ place → said ≡ refusal_of_fault fault

-- the sentence of a closed handle and of each fault of a folder
abbrev pub own_sentence : ℕ → List ℕ
own_sentence n =
    cond (n == 39) (codes "no file is open in this handle")
    (cond (n == 44) (codes "others have had the folder for ten seconds")
    (cond (n == 45) (codes "its bytes are not those of its name: copy it again, or remove it")
    (cond (n == 46) (codes "the system refused a call on the folder") [])))

-- A text is a sentence of a number: there is one of a closed handle and of each fault of a folder, and numbers past 46, and 0, have none. It may be empty,
-- as memory may run out. Nothing is said of the words of the others.
abbrev pub IsSentenceOf : ℕ → List ℕ → Type 0
IsSentenceOf number text =
    ((number ≡ 39) ⊎ ((43 < number) × (number < 47)) → (text ≡ []) ⊎ (text ≡ own_sentence number))
    × ((number ≡ 0) ⊎ (46 < number) → text ≡ [])
