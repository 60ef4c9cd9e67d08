-- The commands that add to what a replica holds: what each answers, what it makes of the replica, and what it brings to it.
use Rattle.std.specs.Prelude.{ℕ, Bool, true, not, ◌==◌, List, Option, Ok}
use Rattle.store_view.specs.Asked.{is_refusal_of_condition}
use Rattle.table_model.specs.Reading.{◌>>=◌}
use Rattle.table_model.specs.declared.names.BatchName.{BatchName}
use Rattle.table_model.specs.declared.names.RowName.{RowName}
use Rattle.table_model.specs.declared.refusal.Refusal.{Refusal}
use Rattle.replica_store.specs.Exchange.{OfferForm}
use Rattle.replica_store.specs.Replica.{Replica, deleted_rows}
use Rattle.replica_changes.specs.Brings.{deletes_brought, load_brought, offers_brought, rows_brought}
use Rattle.replica_changes.specs.Commands.{Made, applying, deleting}
use Rattle.replica_changes.specs.Loads.{LoadForm, importing}
use Rattle.replica_changes.specs.Refusals.{is_refusal_of_import, is_refusal_of_merge, is_refusal_of_range}
use Rattle.replica_changes.specs.declared.command.Answer.{Answer}
use Rattle.replica_changes.specs.declared.command.Answer.TheVariants as answers
use Rattle.replica_changes.specs.declared.command.Command.{Command}
use Rattle.replica_changes.specs.declared.command.Command.TheVariants as commands
use Rattle.replica_changes.specs.declared.importing.Imported.{Imported}

-- a command
pub data CommandForm : Type 0 where
  -- a load's batches come under the name that is given, or under one of random words
  Import : LoadForm → Option BatchName → List ℕ → CommandForm
  -- the rows that aren't deleted and at which the condition that a text is is true are deleted
  Delete : List ℕ → CommandForm
  -- the ordinals of a batch from the first's to the last are deleted
  DeleteRows : RowName → ℕ → CommandForm
  -- offers are applied, one after another
  Apply : List OfferForm → CommandForm

-- what a command answers, by which command it is
pub data AnswerForm : Type 0 where
  OfImport : Imported → AnswerForm
  OfDelete : ℕ → AnswerForm
  OfDeleteRows : Unit {0} → AnswerForm
  OfApply : ℕ × ℕ × ℕ → AnswerForm

-- the command that a call is given
abbrev pub command_of : Command → CommandForm
command_of (commands.Import load given words) = Import load given words.now
command_of (commands.Delete condition) = Delete condition.now
command_of (commands.DeleteRows first last) = DeleteRows first last
command_of (commands.Apply offers) = Apply offers.items

-- the answer that a call gives
abbrev pub answer_of : Answer → AnswerForm
answer_of (answers.Imported done) = OfImport done
answer_of (answers.Deleted done) = OfDelete done.rows
answer_of (answers.DeletedRows done) = OfDeleteRows tt
answer_of (answers.Applied done) = OfApply (done.batches, done.ranges, done.new)

-- whether an answer says that there is more than before
abbrev pub has_changed : Answer → Bool
has_changed (answers.Imported done) = not (done.new == 0)
has_changed (answers.Deleted done) = not (done.rows == 0)
has_changed (answers.DeletedRows done) = done.is_changed
has_changed (answers.Applied done) = done.is_changed

-- what is made, with the answer of which command it is
abbrev pub tagged : {Y : Type 0} → (Y → AnswerForm) → Made Y → Made AnswerForm
tagged tag made = made >>= λ done. Ok (tag done.0, done.1)

-- what a command answers and makes of a replica
abbrev pub adding : CommandForm → Replica → Made AnswerForm
adding (Import load given words) r = tagged OfImport (importing load given words r)
adding (Delete text) r = tagged OfDelete (deleting text r)
adding (DeleteRows first last) r = tagged OfDeleteRows (deleted_rows r first last)
adding (Apply offers) r = tagged OfApply (applying offers r)

-- what it answers and brings to a replica
abbrev pub brought : CommandForm → Replica → Made AnswerForm
brought (Import load given words) held = tagged OfImport (load_brought load given words held)
brought (Delete text) held = tagged OfDelete (deletes_brought text held)
brought (DeleteRows first last) held = tagged OfDeleteRows (rows_brought first last held)
brought (Apply offers) held = tagged OfApply (offers_brought offers held)

-- whether a command may be refused so
abbrev pub is_refusal_of : CommandForm → Refusal → Bool
is_refusal_of (Import load given words) e = is_refusal_of_import e
is_refusal_of (Delete text) e = is_refusal_of_condition e
is_refusal_of (DeleteRows first last) e = is_refusal_of_range e
is_refusal_of (Apply offers) e = is_refusal_of_merge e
