use Rattle.std.proofs.Common.{map, sym, ◌∙◌}
use Rattle.std.specs.String.{string_bytes}
use Rattle.folder_protocol.proofs.TakeLines.{all_passed}
use Rattle.folder_protocol.proofs.taking.take_listed.Goals as goal

pub returns-in-Ok-clause-taken : goal.returns-in-Ok-clause-taken
returns-in-Ok-clause-taken g c = λ parts is.
    let T = g.T.Taker in
    all_passed c.take_each.result parts (T.passes c.args.taker.now) (T.passes c.begin.new.self) (map string_bytes c.args.names.now) (T.taken c.take_each.new.taker) (g.F.Folder.history c.take_each.new.folder)
    c.begin.ensures.passing (c.take_each.ensures.taken parts (is ∙ sym c.begin.ensures.named))
