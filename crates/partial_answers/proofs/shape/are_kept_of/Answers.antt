-- One measure more.
use Rattle.std.proofs.Common.{◌≡◌, ◌+◌, ◌<◌, ◌≤◌, ◌∷◌, ◌++◌, ℕ, List, [], length, map, get_or, take, sym, ap, ◌∙◌, arith}
use Rattle.std.proofs.lemmas.List.{get_or-map, map_more, take_all}
use Rattle.query_eval.specs.declared.tallies.aggregate.Aggregate.{Aggregate}
use Rattle.query_eval.specs.declared.tallies.aggregate.Aggregate.TheVariants.{Rows}
use Rattle.partial_answers.specs.Refusing.{kept_kind}
use Rattle.partial_answers.specs.Shape.{measure_kind}
use Rattle.partial_answers.specs.declared.kept.Kept.{Kept}
use Rattle.partial_answers.proofs.shape.are_kept_of.Goals as goal

same_at : (xs : List Kept) (ys : List Aggregate) (i : ℕ) (x : Kept) (y : Aggregate) → i < length xs → i < length ys → map kept_kind xs ≡ map measure_kind ys → kept_kind (get_or xs i x) ≡ measure_kind (get_or ys i y)
same_at xs ys i x y h k same = sym (get_or-map kept_kind xs i x 0 h) ∙ ap (λ (l : List ℕ). get_or l i 0) same ∙ get_or-map measure_kind ys i y 0 k

more : (xs : List Kept) (ys : List Aggregate) (i : ℕ) (x : Kept) (y : Aggregate) → i < length xs → i < length ys → kept_kind (get_or xs i x) ≡ measure_kind (get_or ys i y) → map kept_kind (take i xs) ≡ map measure_kind (take i ys)
    → map kept_kind (take (i + 1) xs) ≡ map measure_kind (take (i + 1) ys)
more xs ys i x y h k same before = map_more kept_kind xs i x h ∙ (λ j. before j ++ same j ∷ []) ∙ sym (map_more measure_kind ys i y k)

whole : (xs : List Kept) (ys : List Aggregate) (i : ℕ) → length xs ≤ i → length ys ≤ i → map kept_kind (take i xs) ≡ map measure_kind (take i ys) → map kept_kind xs ≡ map measure_kind ys
whole xs ys i h k before = sym (ap (map kept_kind) (take_all i xs h)) ∙ before ∙ ap (map measure_kind) (take_all i ys k)

pub returns-then-kind-measure_kind-clause-no : goal.returns-then-kind-measure_kind-clause-no
returns-then-kind-measure_kind-clause-no c = λ _ same.
    let xs = c.args.kept.now in
    let ys = c.args.measures.now in
    let within : c.loop-i.i < length ys = omega (arith, c.loop-i-test.true, c.if-kept-measures.false) in
    c.if-kind-measure_kind.true (c.kind.ensures ∙ ap kept_kind c.index-kept-i.is ∙ same_at xs ys c.loop-i.i c.index-kept-i.result Rows c.loop-i-test.true within same ∙ sym c.measure_kind.ensures)
