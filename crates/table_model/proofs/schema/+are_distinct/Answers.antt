-- Names are distinct where the first doesn't come again and the others are distinct.
use Rattle.std.proofs.Common.{ap, sym, ◌∙◌, true, false}
use Rattle.std.specs.Prelude.{not}
use Rattle.table_model.proofs.Texts.{are_distinct-cons}
use Rattle.table_model.proofs.schema.+are_distinct.Goals as goal

pub returns-then-not-is_name_among : goal.returns-then-not-is_name_among
returns-then-not-is_name_among t c =
    c.are_distinct.ensures ∙ sym (are_distinct-cons (λ x. (x.0.now, x.1)) c.args.columns.now c.in-Some.rest.now c.in-Some.first.now false c.in-Some.ensures.cases.0 c.if-not-is_name_among.ensures)

pub returns-else-not-is_name_among : goal.returns-else-not-is_name_among
returns-else-not-is_name_among t c =
    ap not c.if-not-is_name_among.false ∙ sym (are_distinct-cons (λ x. (x.0.now, x.1)) c.args.columns.now c.in-Some.rest.now c.in-Some.first.now true c.in-Some.ensures.cases.0 c.if-not-is_name_among.ensures)
