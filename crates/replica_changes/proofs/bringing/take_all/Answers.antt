-- One more offer is taken.
use Rattle.std.specs.Prelude.{◌≡◌, [], ◌∷◌, List, reverse}
use Rattle.std.proofs.Common.{sym, ap, subst, ◌∙◌}
use Rattle.std.proofs.lemmas.List.{nil_from_length, reverse-append, reverse-reverse}
use Rattle.std.proofs.lemmas.Result.{err_from_is_err_and}
use Rattle.replica_store.specs.Brought.{both_of}
use Rattle.replica_store.specs.Exchange.{OfferForm, offering}
use Rattle.replica_changes.proofs.CommandsBring.{TakenSoFar, taken_next, taken_none, taken_own, taken_stops}
use Rattle.replica_changes.proofs.StoreCommands.{merge_listed}
use Rattle.replica_changes.proofs.bringing.take_all.Goals as goal

pub returns-in_err-take-clause-applied : goal.returns-in_err-take-clause-applied
returns-in_err-take-clause-applied c =
    let p = err_from_is_err_and c.from_residual.result c.from_residual.ensures.1 in
    let left = reverse c.pop.new.self.items in
    let next : reverse c.loop-offer.offers.items ≡ c.in-Some.offer ∷ left = ap reverse c.in-Some.ensures.items ∙ reverse-append c.pop.new.self.items (c.in-Some.offer ∷ []) in
    let so : TakenSoFar c.args.brought.now c.loop-offer.brought c.args.offers.items (c.in-Some.offer ∷ left) =
    subst (λ (os : List OfferForm). TakenSoFar c.args.brought.now c.loop-offer.brought c.args.offers.items os) next c.loop-offer.invariant in
    rw (p.1, p.2) (taken_stops c.args.brought.now c.loop-offer.brought c.args.offers.items left c.in-Some.offer c.in_err-take.field-0.0 so c.in_err-take.ensures.acts.1)

pub returns-in_err-take-clause-refused : goal.returns-in_err-take-clause-refused
returns-in_err-take-clause-refused c =
    let p = err_from_is_err_and c.from_residual.result c.from_residual.ensures.1 in
    let whole = both_of c.loop-offer.brought in
    rw (p.1, p.2) (merge_listed whole (offering whole.own c.in-Some.offer) c.in_err-take.field-0.0 c.in_err-take.ensures.acts.1)

pub loop-offer-preserved : goal.loop-offer-preserved
loop-offer-preserved c =
    let left = reverse c.pop.new.self.items in
    let next : reverse c.loop-offer.offers.items ≡ c.in-Some.offer ∷ left = ap reverse c.in-Some.ensures.items ∙ reverse-append c.pop.new.self.items (c.in-Some.offer ∷ []) in
    let so : TakenSoFar c.args.brought.now c.loop-offer.brought c.args.offers.items (c.in-Some.offer ∷ left) =
    subst (λ (os : List OfferForm). TakenSoFar c.args.brought.now c.loop-offer.brought c.args.offers.items os) next c.loop-offer.invariant in
    taken_next c.args.brought.now c.loop-offer.brought c.take.new.self c.args.offers.items left c.in-Some.offer c.in_ok-take.field-0 so c.in_ok-take.ensures.acts c.in_ok-take.ensures.brought c.take.ensures.held

pub loop-offer-init : goal.loop-offer-init
loop-offer-init c = subst (λ (os : List OfferForm). TakenSoFar c.args.brought.now c.args.brought.now c.args.offers.items os) (sym (ap reverse c.reverse.ensures.items ∙ reverse-reverse c.args.offers.items)) (taken_none c.args.brought.now c.args.offers.items)

pub returns-clause-own : goal.returns-clause-own
returns-clause-own c =
    let none : c.loop-offer.offers.items ≡ [] = nil_from_length c.loop-offer.offers.items (sym c.loop-offer.offers.ok.0 ∙ c.in_default.ensures.cases.0) in
    let so : TakenSoFar c.args.brought.now c.loop-offer.brought c.args.offers.items [] = subst (λ (os : List OfferForm). TakenSoFar c.args.brought.now c.loop-offer.brought c.args.offers.items (reverse os)) none c.loop-offer.invariant in
    taken_own c.args.brought.now c.loop-offer.brought c.args.offers.items so
