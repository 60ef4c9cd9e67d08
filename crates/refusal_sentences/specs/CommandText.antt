-- How a command's refusal is written: its name, and then its values, each after one space.
use Rattle.std.specs.Prelude.{ℕ, List, ◌++◌, codes}
use Rattle.std.specs.Fmt.{decimal}
use Rattle.table_model.specs.Name.{name_text}
use Rattle.table_model.specs.RefusalText.{refusal_text}
use Rattle.refusal_sentences.specs.declared.command_refusal.CommandRefusal.{CommandRefusal}
use Rattle.refusal_sentences.specs.declared.command_refusal.CommandRefusal.TheVariants as refusals

-- those of the program itself come with those of lines of a script
abbrev pub command_text : CommandRefusal → List ℕ
command_text (refusals.Named refusal) = refusal_text refusal
command_text (refusals.BadCsv line column) = codes "BadCsv " ++ decimal line ++ codes " " ++ decimal column
command_text refusals.Exists = codes "Exists"
command_text refusals.Busy = codes "Busy"
command_text refusals.Damaged = codes "Damaged"
command_text (refusals.NotApart name) = codes "NotApart " ++ name_text name
command_text refusals.QueryDiffers = codes "QueryDiffers"
command_text refusals.TooMany = codes "TooMany"
command_text (refusals.Missing name) = codes "Missing " ++ name_text name
