use Rattle.partial_answers.proofs.KeptKinds.{put_keep}
use Rattle.partial_answers.proofs.groups.put_group.Goals as goal

pub returns-clause-kinds : goal.returns-clause-kinds
returns-clause-kinds c = λ kinds keep here. put_keep kinds c.args.key c.args.kept c.args.groups.now c.insert.new.self c.in_ok-insert.ensures.updates.0 here keep
