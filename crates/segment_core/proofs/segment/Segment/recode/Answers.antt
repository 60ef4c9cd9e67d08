-- The vector that is found is made anew and put in its place; where there is none, or no memory, nothing has changed.
use Rattle.std.proofs.Common.{Result, Ok, refl, sym, ◌∙◌, ap}
use Rattle.std.proofs.lemmas.Result.{err_from_is_err_and}
use Rattle.table_model.specs.declared.refusal.Refusal.{Refusal}
use Rattle.segment_core.specs.CodedVector.{VectorForm}
use Rattle.segment_core.specs.Segment.{SegmentForm, recoded, recoded_found, put_in, vector_at}
use Rattle.segment_core.proofs.PutLemmas.{same_segment, refused_put}
use Rattle.segment_core.proofs.segment.Segment.recode.Goals as goal

pub returns-clause-act : goal.returns-clause-act
unfolding recoded
returns-clause-act c =
    ap (λ (r : Result VectorForm Refusal). put_in c.args.self.now c.args.column c.args.vector r) c.in_ok-made.ensures.value
    ∙ ap (λ (s : SegmentForm). Ok (tt, s)) (sym (same_segment c.put.new.self c.args.self.now _ c.put.ensures.rows c.put.ensures.forms))

pub returns-in_err-made-clause-act : goal.returns-in_err-made-clause-act
unfolding recoded
returns-in_err-made-clause-act c =
    let p = err_from_is_err_and c.from_residual.result c.from_residual.ensures.1 in
    rw (p.1, p.2)
    (refl, refused_put c.args.self.now c.args.column c.args.vector (recoded_found c.args.coding (vector_at c.args.self.now.forms c.args.column c.args.vector)) c.in_err-made.field-0.0 c.in_err-made.ensures.value)

pub returns-clause-valid : goal.returns-clause-valid
returns-clause-valid c = λ table widths. c.put.ensures.valid table (c.put.ensures.widths ∙ widths)
