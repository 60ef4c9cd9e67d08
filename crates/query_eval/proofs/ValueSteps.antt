-- The sum of the first values, with one more.
use Rattle.std.proofs.Common.{◌≡◌, ℕ, ◌+◌, ◌<◌, List, [], ◌∷◌, length, get_or, take, ℤ, ◌+ℤ◌, ap, ◌∙◌}
use Rattle.std.proofs.lemmas.List.{take_more}
use Rattle.table_model.proofs.Appended.{total-append}
use Rattle.query_eval.proofs.TallyLemmas.{one_total}
use Rattle.table_model.specs.Values.{total}

pub total-step : (xs : List ℤ) (i : ℕ) (d : ℤ) → i < length xs → total (take (i + 1) xs) ≡ total (take i xs) +ℤ get_or xs i d
total-step xs i d h =
    ap total (take_more xs i d h) ∙ total-append (take i xs) (get_or xs i d ∷ []) ∙ ap (λ z. total (take i xs) +ℤ z) (one_total (get_or xs i d))
