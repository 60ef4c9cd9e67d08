-- Names are distinct if the first doesn't come again and the others are distinct.
use Rattle.std.proofs.Common.{◌≡◌, Bool, true, false, sym, subst, IfNone}
use Rattle.table_model.proofs.Texts.{are_distinct-cons}
use Rattle.refusal_sentences.proofs.table_fault.+named_twice.Goals as goal

pub returns-in-Some-among-clause-some : goal.returns-in-Some-among-clause-some
returns-in-Some-among-clause-some t c =
    are_distinct-cons (λ x. (x.0.now, x.1)) c.args.columns.now c.in-Some.rest.now c.in-Some.first.now true c.in-Some.ensures.cases.0 (sym c.in-Some-among.ensures.some)

pub returns-in-None-among-clause-none : goal.returns-in-None-among-clause-none
returns-in-None-among-clause-none t c =
    subst (λ (b : Bool). IfNone c.named_twice.result (b ≡ true)) (sym (are_distinct-cons (λ x. (x.0.now, x.1)) c.args.columns.now c.in-Some.rest.now c.in-Some.first.now false c.in-Some.ensures.cases.0 (sym c.in-None-among.ensures.none))) c.named_twice.ensures.none
