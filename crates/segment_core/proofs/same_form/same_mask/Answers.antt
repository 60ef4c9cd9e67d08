use Rattle.segment_core.proofs.same_form.same_mask.Goals as goal

pub returns : goal.returns
returns c = c.eq.ensures.exact
