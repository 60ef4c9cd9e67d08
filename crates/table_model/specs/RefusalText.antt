-- A refusal's number, what it names, and how it is written: its name, and then its values, each after one space.
use Rattle.std.specs.Prelude.{ℕ, List, [], ◌++◌, codes}
use Rattle.std.specs.Fmt.{decimal}
use Rattle.table_model.specs.Name.{name_text}
use Rattle.table_model.specs.declared.place.Place.{Place}
use Rattle.table_model.specs.declared.place.Place.TheVariants as places
use Rattle.table_model.specs.declared.refusal.Refusal.{Refusal}
use Rattle.table_model.specs.declared.refusal.Refusal.TheVariants as refusals

-- from 1 to 37, in the order of the list of refusals
abbrev pub number_of : Refusal → ℕ
number_of refusals.Memory = 1
number_of (refusals.Conflict name) = 2
number_of refusals.Full = 3
number_of refusals.EmptyBatch = 4
number_of refusals.BatchTooLong = 5
number_of (refusals.WrongArity at) = 6
number_of (refusals.OutOfType row column) = 7
number_of refusals.SchemaDiffers = 8
number_of refusals.NumbersSpent = 9
number_of refusals.NoSuchVector = 10
number_of refusals.BadName = 11
number_of refusals.BadSchema = 12
number_of (refusals.Truncated at) = 13
number_of refusals.BadMagic = 14
number_of refusals.BadVersion = 15
number_of (refusals.BadOrder at) = 16
number_of (refusals.BadCount at) = 17
number_of (refusals.BadWidth at) = 18
number_of (refusals.BadTag at) = 19
number_of (refusals.BadMask at) = 20
number_of (refusals.BadDictionary at) = 21
number_of (refusals.BadCode at) = 22
number_of (refusals.BadRange at) = 23
number_of (refusals.TrailingBytes at) = 24
number_of (refusals.NotCanonical at) = 25
number_of (refusals.Syntax at) = 26
number_of refusals.NoSuchTable = 27
number_of (refusals.NoSuchColumn at) = 28
number_of (refusals.NotGrouped at) = 29
number_of (refusals.NumberTooLarge at) = 30
number_of refusals.TooDeep = 31
number_of refusals.LineTooLong = 32
number_of refusals.ReadFault = 33
number_of refusals.WriteFault = 34
number_of refusals.BadLine = 35
number_of refusals.NoSuchReplica = 36
number_of refusals.NoSuchMessage = 37

-- its name, with its values left out
abbrev pub refusal_name : Refusal → List ℕ
refusal_name refusals.Memory = codes "Memory"
refusal_name (refusals.Conflict name) = codes "Conflict"
refusal_name refusals.Full = codes "Full"
refusal_name refusals.EmptyBatch = codes "EmptyBatch"
refusal_name refusals.BatchTooLong = codes "BatchTooLong"
refusal_name (refusals.WrongArity at) = codes "WrongArity"
refusal_name (refusals.OutOfType row column) = codes "OutOfType"
refusal_name refusals.SchemaDiffers = codes "SchemaDiffers"
refusal_name refusals.NumbersSpent = codes "NumbersSpent"
refusal_name refusals.NoSuchVector = codes "NoSuchVector"
refusal_name refusals.BadName = codes "BadName"
refusal_name refusals.BadSchema = codes "BadSchema"
refusal_name (refusals.Truncated at) = codes "Truncated"
refusal_name refusals.BadMagic = codes "BadMagic"
refusal_name refusals.BadVersion = codes "BadVersion"
refusal_name (refusals.BadOrder at) = codes "BadOrder"
refusal_name (refusals.BadCount at) = codes "BadCount"
refusal_name (refusals.BadWidth at) = codes "BadWidth"
refusal_name (refusals.BadTag at) = codes "BadTag"
refusal_name (refusals.BadMask at) = codes "BadMask"
refusal_name (refusals.BadDictionary at) = codes "BadDictionary"
refusal_name (refusals.BadCode at) = codes "BadCode"
refusal_name (refusals.BadRange at) = codes "BadRange"
refusal_name (refusals.TrailingBytes at) = codes "TrailingBytes"
refusal_name (refusals.NotCanonical at) = codes "NotCanonical"
refusal_name (refusals.Syntax at) = codes "Syntax"
refusal_name refusals.NoSuchTable = codes "NoSuchTable"
refusal_name (refusals.NoSuchColumn at) = codes "NoSuchColumn"
refusal_name (refusals.NotGrouped at) = codes "NotGrouped"
refusal_name (refusals.NumberTooLarge at) = codes "NumberTooLarge"
refusal_name refusals.TooDeep = codes "TooDeep"
refusal_name refusals.LineTooLong = codes "LineTooLong"
refusal_name refusals.ReadFault = codes "ReadFault"
refusal_name refusals.WriteFault = codes "WriteFault"
refusal_name refusals.BadLine = codes "BadLine"
refusal_name refusals.NoSuchReplica = codes "NoSuchReplica"
refusal_name refusals.NoSuchMessage = codes "NoSuchMessage"

-- what it names
abbrev pub place_of : Refusal → Place
place_of (refusals.Conflict name) = places.Batch name
place_of (refusals.WrongArity at) = places.Row at
place_of (refusals.OutOfType row column) = places.Cell row column
place_of (refusals.Truncated at) = places.Byte at
place_of (refusals.BadOrder at) = places.Byte at
place_of (refusals.BadCount at) = places.Byte at
place_of (refusals.BadWidth at) = places.Byte at
place_of (refusals.BadTag at) = places.Byte at
place_of (refusals.BadMask at) = places.Byte at
place_of (refusals.BadDictionary at) = places.Byte at
place_of (refusals.BadCode at) = places.Byte at
place_of (refusals.BadRange at) = places.Byte at
place_of (refusals.TrailingBytes at) = places.Byte at
place_of (refusals.NotCanonical at) = places.Byte at
place_of (refusals.Syntax at) = places.Byte at
place_of (refusals.NoSuchColumn at) = places.Byte at
place_of (refusals.NotGrouped at) = places.Byte at
place_of (refusals.NumberTooLarge at) = places.Byte at
place_of other = places.Nowhere

-- one value after a space
abbrev pub word_of : ℕ → List ℕ
word_of n = codes " " ++ decimal n

-- the values of a place, each after one space
abbrev pub place_text : Place → List ℕ
place_text places.Nowhere = []
place_text (places.Batch name) = codes " " ++ name_text name
place_text (places.Row row) = word_of row
place_text (places.Cell row column) = word_of row ++ word_of column
place_text (places.Byte at) = word_of at

-- as it is written: Full, or Conflict 1.7, or OutOfType 0 1
abbrev pub refusal_text : Refusal → List ℕ
refusal_text refusal = refusal_name refusal ++ place_text (place_of refusal)
