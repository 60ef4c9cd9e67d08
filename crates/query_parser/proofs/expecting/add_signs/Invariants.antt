-- The signs so far and those of what is left are those of the whole.
use Rattle.std.proofs.Common.{◌≡◌, ◌++◌, map, drop}
use Rattle.query_parser.specs.Expected.{taken_signs}
use Rattle.query_parser.proofs.expecting.add_signs.Given as goal

abbrev pub invariant-loop-sign : goal.invariant-loop-sign
invariant-loop-sign l =
    (l.front.items ≡ l.initial.front.items)
    × (l.signs.items ++ taken_signs l.place.form l.place.end l.place.at l.initial.front.items (map (λ entry. entry.1) (drop l.sign-index l.entries)) ≡ l.initial.signs.items ++ taken_signs l.place.form l.place.end l.place.at l.initial.front.items (map (λ entry. entry.1) l.entries))
