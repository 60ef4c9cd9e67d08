-- What an offer brings to what the parts of a folder hold together, and which parts have none of a table's batches.
use Rattle.std.specs.Prelude.{◌≡◌, ℕ, Bool, cond, List, [], ◌∷◌, MatchOption, Option, Some, None, Result, Ok, Err}
use Rattle.table_model.specs.Reading.{◌>>=◌}
use Rattle.column_file.specs.Files.{offer_read}
use Rattle.replica_store.specs.Replica.{Replica, SaysChange, names_of}
use Rattle.replica_changes.specs.Commands.{Made, applying, file_of}
use Rattle.replica_changes.specs.declared.command.Answer.{Answer}
use Rattle.replica_changes.specs.declared.command.Answer.TheVariants as answers
use Rattle.folder_parts.specs.PartsPut.{part_of_offers}
use Rattle.folder_commands.specs.Relying.{IsIn, Item, ReliesOn}
use Rattle.folder_commands.specs.declared.reliance.Reliance.TheVariants.{Batches}
use Rattle.lanes_c.specs.Calls.{Yields}
use Rattle.lanes_c.specs.DeletePart.{Deleted, TellsPart}
use Rattle.lanes_c.specs.declared.bringing.OfferPart.{OfferPart}
use Rattle.lanes_c.specs.declared.fault.Fault.{Fault}
use Rattle.lanes_c.specs.declared.fault.Fault.TheVariants.{NotOpen}
use Rattle.lanes_c.specs.declared.fault.Place.{Place}

-- ---- the batches that a part has

-- a part with these bytes has no batch of a name that a replica has
abbrev pub MeetsNone : Replica → List ℕ → Type 0
MeetsNone r bytes = (item : Item) → IsIn item bytes → ReliesOn (Batches (names_of r.state.batches)) item → ⊥

-- the same of what a handle has, which is open
abbrev pub MeetsNoneOpen : Option Replica → List ℕ → Type 0
MeetsNoneOpen (Some r) bytes = MeetsNone r bytes
MeetsNoneOpen None bytes = ⊥

-- ---- the part of an offer

-- how many batches an answer says that are new
abbrev pub batches_new : Answer → ℕ
batches_new (answers.Applied done) = done.new
batches_new answer = 0

-- how many batches an offer brings, and the bytes of its part, or why there is none
abbrev pub part_by : Result OfferPart Fault → Deleted
part_by (Ok part) = Ok (part.batches, part.bytes.items)
part_by (Err fault) = Err fault

-- what an offer in bytes brings to what is held: its batches that are not there, and its deletions
abbrev pub offer_brought : List ℕ → Replica → Made (ℕ × ℕ × ℕ)
offer_brought offer held = offer_read offer >>= λ o. part_of_offers (o ∷ []) held

-- what it makes of what is held
abbrev pub offer_applied : List ℕ → Replica → Made (ℕ × ℕ × ℕ)
offer_applied offer held = offer_read offer >>= λ o. applying (o ∷ []) held

-- The bytes are the file of what an offer brings, if it makes anything else of what is held, and else there are none. The count is that of the
-- batches that are new.
pub record BringsBytes (part : ℕ × List ℕ) (offer : List ℕ) (held : Replica) : Type 0 where
  pub done : ℕ × ℕ × ℕ
  pub new : Replica
  pub after : Replica
  pub changed : Bool
  pub brings : offer_brought offer held ≡ Ok (done, new)
  pub makes : offer_applied offer held ≡ Ok (done, after)
  pub says : SaysChange changed held after
  pub count : part.0 ≡ done.2
  pub bytes : part.1 ≡ cond changed (file_of new) []

-- So it is of what is given, or it is refused as the offer is.
abbrev pub BringsPart : Deleted → List ℕ → Replica → Type 0
BringsPart (Ok part) offer held = BringsBytes part offer held
BringsPart (Err fault) offer held = Yields {X = (ℕ × ℕ × ℕ) × Replica} (Err fault) (offer_brought offer held)

-- lanes_table_bring: of a closed handle NotOpen is told
abbrev pub BringsOpen : List ℕ → Option Replica → ℕ → ℕ → List ℕ → List ℕ → ℕ → Place → Type 0
BringsOpen offer was number batches old new length at =
    MatchOption was (TellsPart (λ given. given ≡ Err NotOpen) number batches old new length at) (λ r. TellsPart (λ given. BringsPart given offer r) number batches old new length at)
