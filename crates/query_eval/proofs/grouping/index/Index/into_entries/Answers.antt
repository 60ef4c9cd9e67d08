-- Sorting puts the keys in ascending order and leaves each its place.
use Rattle.std.proofs.Common.{subst, sym, ap, ◌∙◌}
use Rattle.std.specs.List.{IsDistinct}
use Rattle.std.specs.Map.{keys_of}
use Rattle.query_eval.specs.Entries.{Entries, place_in}
use Rattle.query_eval.proofs.IndexLemmas.{key_eq, keys_ascend, places_stay}
use Rattle.query_eval.proofs.grouping.index.Index.into_entries.Goals as goal

pub returns-clause-ordered : goal.returns-clause-ordered
returns-clause-ordered c =
    let apart = subst (λ (es : Entries). IsDistinct key_eq (keys_of es)) (sym c.in_ok-entries.ensures.pairs) c.in_ok-entries.ensures.apart in
    keys_ascend c.in_ok-entries.entries.items c.sort_unstable.new.self.items apart c.sort_unstable.ensures.permutation c.sort_unstable.ensures.sorted

pub returns-clause-places : goal.returns-clause-places
returns-clause-places c = λ key.
    let apart = subst (λ (es : Entries). IsDistinct key_eq (keys_of es)) (sym c.in_ok-entries.ensures.pairs) c.in_ok-entries.ensures.apart in
    places_stay c.in_ok-entries.entries.items c.sort_unstable.new.self.items apart c.sort_unstable.ensures.permutation key
    ∙ ap (λ (es : Entries). place_in es key) c.in_ok-entries.ensures.pairs
