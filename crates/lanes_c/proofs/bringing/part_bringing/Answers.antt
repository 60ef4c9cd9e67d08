-- The offer is read, and its part is made of what it brings.
use Rattle.std.specs.Prelude.{ℕ, List, Option, Some}
use Rattle.std.specs.Global.{Vec}
use Rattle.std.proofs.Common.{ap, subst, sym, ◌∙◌, Bor}
use Rattle.std.proofs.lemmas.Result.{err_from_is_err_and}
use Rattle.column_file.specs.Files.{offer_read}
use Rattle.lanes_c.specs.Bringing.{BringsBytes}
use Rattle.lanes_c.proofs.Bringings.{offer_brings, offer_refused, offer_unread}
use Rattle.lanes_c.proofs.bringing.part_bringing.Goals as goal

pub returns-in_err-offer : goal.returns-in_err-offer
returns-in_err-offer c =
    let p = err_from_is_err_and c.from_residual.result c.from_residual.ensures.1 in
    rw (p.1, p.2) (offer_unread c.in_err-offer.field-0.0 c.args.offer.now _ c.args.store.now.replica (ap (λ (w : Bor (List ℕ) × ℕ). w.0.now) c.new.ensures) c.in_err-offer.ensures.read)

pub returns-in_err-answer : goal.returns-in_err-answer
returns-in_err-answer c =
    let p = err_from_is_err_and c.from_residual-in_err-answer.result c.from_residual-in_err-answer.ensures.1 in
    let same = ap (λ (w : Bor (List ℕ) × ℕ). w.0.now) c.new.ensures in
    rw (p.1, p.2) (offer_refused c.in_err-answer.field-0.0 c.args.offer.now c.in_ok-offer.offer c.in_ok-offers.offers.items c.args.store.now.replica _ _ (ap offer_read (sym same) ∙ c.in_ok-offer.ensures.read) c.in_ok-offers.ensures.items c.in_err-answer.ensures.puts)

pub returns : goal.returns
returns c =
    let same = ap (λ (w : Bor (List ℕ) × ℕ). w.0.now) c.new.ensures in
    let known : List ℕ → Option (List ℕ) = λ xs. Some xs in
    let told = offer_brings c.in_ok-answer.answer c.args.offer.now c.into_inner.result.items c.in_ok-offer.offer c.in_ok-offers.offers.items c.args.store.now.replica _ _ (ap offer_read (sym same) ∙ c.in_ok-offer.ensures.read) c.in_ok-offers.ensures.items
    (ap (λ (w : Vec ℕ × ℕ). known w.0.items) c.new-writer.ensures ∙ ap known c.new-2.ensures.items) (ap (λ (v : Vec ℕ). known v.items) (sym c.into_inner.ensures)) c.in_ok-answer.ensures.puts c.in_ok-answer.ensures.tells in
    subst (λ (n : ℕ). BringsBytes (n, c.into_inner.result.items) c.args.offer.now c.args.store.now.replica) (sym c.batches_new.ensures) told
