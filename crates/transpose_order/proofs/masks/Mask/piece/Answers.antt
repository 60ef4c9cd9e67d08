-- A lane has consecutive rows of one word.
use Rattle.transpose_order.proofs.MaskLemmas.{piece-has}
use Rattle.transpose_order.proofs.masks.Mask.piece.Goals as goal

pub returns-clause-bits : goal.returns-clause-bits
returns-clause-bits c = λ step h. piece-has c.self.inside.words c.args.self.now c.args.lane_width c.args.lane c.row_at-first.result step c.self.view_is c.requires.width c.requires.lane c.row_at-first.ensures h
