use Rattle.std.proofs.Common.{◌≡◌, ◌∙◌, ◌+◌, ◌++◌, ◌∷◌, [], List, ℕ, ap, arith, rules}
use Rattle.std.specs.List.{range_with_len}
use Rattle.csv_rows.proofs.Ranges.{range_more}
use Rattle.csv_rows.proofs.order.Order.own.Goals as goal

pub loop-place-preserved : goal.loop-place-preserved
loop-place-preserved c =
    let place : ℕ = c.loop-place.place in
    let pushed : c.push.new.self.items ≡ c.loop-place.places.items ++ (place ∷ []) = search rules in
    let same : place ≡ 0 + place = omega arith in
    pushed ∙ ap (λ (xs : List ℕ). xs ++ (place ∷ [])) c.loop-place.invariant ∙ ap (λ (n : ℕ). range_with_len 0 place ++ (n ∷ [])) same ∙ range_more 0 place
