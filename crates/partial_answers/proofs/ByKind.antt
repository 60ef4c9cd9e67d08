-- What is kept of two lists, kind by kind.
use Rattle.std.specs.Prelude.{◌≡◌, ℕ, ◌+◌, List, Option, None, ℤ, pos, ◌+ℤ◌}
use Rattle.std.proofs.Common.{refl, sym}
use Rattle.std.specs.FinMap as map
use Rattle.table_model.specs.Values.{lesser, greater}
use Rattle.partial_answers.specs.PartialAnswer.{Tally, plus, set_of}
use Rattle.partial_answers.specs.Kept.{HasValuesOf}
use Rattle.partial_answers.proofs.Tallies.{tally_is, union-empty, set_of-both}

pub count_both : (m n k : ℕ) (z a b : ℤ) → k ≡ m + n → z ≡ a +ℤ b → (let t : Tally = record { count = k; sum = z; lowest = None; highest = None; seen = map.empty } in t)
    ≡ plus (record { count = m; sum = a; lowest = None; highest = None; seen = map.empty }) (record { count = n; sum = b; lowest = None; highest = None; seen = map.empty })
count_both m n k z a b e f = tally_is _ _ e f refl refl (sym union-empty)

pub lowest_both : (o a b : Option ℤ) → o ≡ lesser a b → (let t : Tally = record { count = 0; sum = pos 0; lowest = o; highest = None; seen = map.empty } in t)
    ≡ plus (record { count = 0; sum = pos 0; lowest = a; highest = None; seen = map.empty }) (record { count = 0; sum = pos 0; lowest = b; highest = None; seen = map.empty })
lowest_both o a b e = tally_is _ _ refl refl e refl (sym union-empty)

pub highest_both : (o a b : Option ℤ) → o ≡ greater a b → (let t : Tally = record { count = 0; sum = pos 0; lowest = None; highest = o; seen = map.empty } in t)
    ≡ plus (record { count = 0; sum = pos 0; lowest = None; highest = a; seen = map.empty }) (record { count = 0; sum = pos 0; lowest = None; highest = b; seen = map.empty })
highest_both o a b e = tally_is _ _ refl refl refl e (sym union-empty)

pub seen_both : (both xs ys : List ℤ) → HasValuesOf both xs ys → (let t : Tally = record { count = 0; sum = pos 0; lowest = None; highest = None; seen = set_of both } in t)
    ≡ plus (record { count = 0; sum = pos 0; lowest = None; highest = None; seen = set_of xs }) (record { count = 0; sum = pos 0; lowest = None; highest = None; seen = set_of ys })
seen_both both xs ys h = tally_is _ _ refl refl refl refl (set_of-both both xs ys h)
