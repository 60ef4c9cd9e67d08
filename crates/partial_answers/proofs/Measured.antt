-- A set function's value is that of its measure.
use Rattle.std.specs.Prelude.{◌≡◌, ℕ, suc, ◌+◌, Bool, true, false, not, cond, ◌||◌, List, [], ◌∷◌, ◌++◌, map as each, fold, slice_index_or}
use Rattle.std.proofs.Common.{refl, sym, ap, ◌∙◌, arith}
use Rattle.std.specs.List.{list_any, position_or_len}
use Rattle.std.proofs.lemmas.Bool.{false≢true, or_right}
use Rattle.std.proofs.lemmas.List.Folds.{list_any-append}
use Rattle.table_model.specs.State.{Cells}
use Rattle.table_model.specs.declared.query.Fold.TheVariants.{Count, Sum, Avg, Min, Max}
use Rattle.query_eval.specs.Aggregate.{aggregate_value, same_aggregate}
use Rattle.query_eval.specs.declared.tallies.aggregate.Aggregate.{Aggregate}
use Rattle.query_eval.specs.declared.tallies.aggregate.Aggregate.TheVariants.{Rows, Folded}
use Rattle.query_eval.proofs.FinishLemmas.{one_aggregate, itself_aggregate}
use Rattle.partial_answers.specs.Measures.{measure_of, with_measure, measures_of}
use Rattle.partial_answers.specs.PartialAnswer.{Tally, Tallies, tally_of, tallies_of, field_of, field_at, fields_from, no_tally}
use Rattle.partial_answers.proofs.Tallies.{field-tally}

-- what a measure keeps is what its set function needs
field-measure : (a : Aggregate) (rows : List Cells) → field_of a (tally_of rows (measure_of a)) ≡ aggregate_value a rows
field-measure Rows rows = field-tally Rows rows
field-measure (Folded f true place) rows = field-tally (Folded f true place) rows
field-measure (Folded Count false place) rows = field-tally (Folded Count false place) rows
field-measure (Folded Sum false place) rows = field-tally (Folded Sum false place) rows
field-measure (Folded Avg false place) rows = field-tally (Folded Avg false place) rows
field-measure (Folded Min false place) rows = field-tally (Folded Min false place) rows
field-measure (Folded Max false place) rows = field-tally (Folded Max false place) rows

-- ---- a measure that is there is found
at_or_later : (F : Aggregate → Tally) (a b : Aggregate) (t : Bool) (ts : Tallies) (n : ℕ) → same_aggregate a b ≡ t → (t ≡ false → slice_index_or ts n no_tally ≡ F a) → slice_index_or (F b ∷ ts) (cond (not t) (1 + n) 0) no_tally ≡ F a
at_or_later F a b true ts n is later = ap F (sym (one_aggregate a b is))
at_or_later F a b false ts n is later = let next : 1 + n ≡ suc n = omega arith in ap (λ k. slice_index_or (F b ∷ ts) k no_tally) next ∙ later refl

tally_found : (F : Aggregate → Tally) (a : Aggregate) (measures : List Aggregate) → list_any (same_aggregate a) measures ≡ true → slice_index_or (each F measures) (position_or_len (same_aggregate a) measures) no_tally ≡ F a
tally_found F a [] h = absurd (false≢true h)
tally_found F a (b ∷ bs) h =
    at_or_later F a b (same_aggregate a b) (each F bs) (position_or_len (same_aggregate a) bs) refl
    (λ e. tally_found F a bs (ap (λ t. t || list_any (same_aggregate a) bs) (sym e) ∙ h))

-- ---- each set function has its measure
abbrev IsThere : List Aggregate → Aggregate → Type 0
IsThere measures m = list_any (same_aggregate m) measures ≡ true

abbrev AreThere : List Aggregate → List Aggregate → Type 0
AreThere measures [] = Unit {0}
AreThere measures (a ∷ rest) = IsThere measures (measure_of a) × AreThere measures rest

or_left : (a b : Bool) → a ≡ true → (a || b) ≡ true
or_left a b e = ap (λ c. c || b) e

kept_there : (measures : List Aggregate) (n m : Aggregate) → IsThere measures n → IsThere (with_measure measures m) n
kept_there measures n m h =
    elim (list_any (same_aggregate m) measures) as (λ b. IsThere (cond b measures (measures ++ m ∷ [])) n) [
      | true ↦ h
      | false ↦ list_any-append (same_aggregate n) measures (m ∷ []) ∙ or_left (list_any (same_aggregate n) measures) _ h
    ]

put_there : (measures : List Aggregate) (m : Aggregate) → IsThere (with_measure measures m) m
put_there measures m =
    elim (list_any (same_aggregate m) measures) as (λ b. list_any (same_aggregate m) measures ≡ b → IsThere (cond b measures (measures ++ m ∷ [])) m) [
      | true ↦ λ e. e
      | false ↦ λ e. list_any-append (same_aggregate m) measures (m ∷ []) ∙ or_right (list_any (same_aggregate m) measures) _ (or_left (same_aggregate m m) false (itself_aggregate m))
    ] refl

stays : (ms : List Aggregate) (measures : List Aggregate) (n : Aggregate) → IsThere measures n → IsThere (fold with_measure measures ms) n
stays [] measures n h = h
stays (m ∷ ms) measures n h = stays ms (with_measure measures m) n (kept_there measures n m h)

all_there : (rest : List Aggregate) (measures : List Aggregate) → AreThere (fold with_measure measures (each measure_of rest)) rest
all_there [] measures = tt
all_there (a ∷ rest) measures = (stays (each measure_of rest) (with_measure measures (measure_of a)) (measure_of a) (put_there measures (measure_of a)), all_there rest (with_measure measures (measure_of a)))

fields_there : (measures : List Aggregate) (rows : List Cells) (rest : List Aggregate) → AreThere measures rest → each (field_at measures (tallies_of measures rows)) rest ≡ each (λ a. aggregate_value a rows) rest
fields_there measures rows [] h = refl
fields_there measures rows (a ∷ rest) h =
    let here : field_at measures (tallies_of measures rows) a ≡ aggregate_value a rows = ap (field_of a) (tally_found (tally_of rows) (measure_of a) measures h.0) ∙ field-measure a rows in
    let others = fields_there measures rows rest h.1 in
    λ i. here i ∷ others i

-- the values of all set functions, from what is kept for the measures
pub fields-tallies : (aggregates : List Aggregate) (rows : List Cells) → fields_from aggregates (tallies_of (measures_of aggregates) rows) ≡ each (λ a. aggregate_value a rows) aggregates
unfolding measures_of
fields-tallies aggregates rows = fields_there (fold with_measure (Rows ∷ []) (each measure_of aggregates)) rows aggregates (all_there aggregates (Rows ∷ []))
