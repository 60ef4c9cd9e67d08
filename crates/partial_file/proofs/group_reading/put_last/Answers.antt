use Rattle.std.proofs.Common.{◌∙◌, ap, List, map}
use Rattle.std.specs.Global.{Vec}
use Rattle.table_model.specs.State.{Cells}
use Rattle.partial_answers.specs.declared.kept.Kept.{Kept}
use Rattle.partial_file.specs.PartialAnswerBytes.{entry_of}
use Rattle.partial_file.proofs.GroupLists.{put_last}
use Rattle.partial_file.proofs.group_reading.put_last.Goals as goal

pub returns : goal.returns
returns c =
    ap (λ (es : List (Cells × Vec Kept)). map entry_of es) c.in_ok-insert.ensures.entries
    ∙ put_last c.args.groups.now.entries c.args.key c.args.measures c.in_ok-insert.ensures.was_ordered c.requires
