-- The groups of the code when they are finished are those of its partial answer.
use Rattle.std.proofs.Common.{◌≡◌, ◌++◌, ◌∷◌, List, [], length, map, T, refl, sym, ap, ◌∙◌, arith, append_assoc}
use Rattle.std.specs.BTreeMap.{BTreeMap, IsOrdered}
use Rattle.std.specs.FinMap as finite
use Rattle.std.specs.FinMap.Entries.{find, below_all, is_sorted}
use Rattle.std.specs.Global.{Vec}
use Rattle.std.specs.List.{AllByRecursion}
use Rattle.std.specs.List.Sorted.{IsStrictlySortedBy}
use Rattle.std.specs.Map.{keys_of}
use Rattle.std.specs.Ordering.{is_lt}
use Rattle.std.specs.declared.cmp.Ordering.TheVariants.{Less}
use Rattle.table_model.specs.Group.{key_cmp}
use Rattle.table_model.specs.State.{Cells}
use Rattle.table_model.proofs.Keys.{key_total}
use Rattle.table_model.proofs.Passed.{both_of, is_less}
use Rattle.table_model.specs.Answer.{AnswerParts}
use Rattle.table_model.specs.Meaning.{item_text}
use Rattle.table_model.specs.Query.{QueryShape}
use Rattle.table_model.specs.Table.{Table}
use Rattle.query_eval.specs.Finished.{GroupFields, PlanShape, groups_kept, plan_of, seen_items}
use Rattle.query_eval.specs.Once.{aggregates_once, functions_once}
use Rattle.query_eval.specs.declared.tallies.aggregate.Aggregate.{Aggregate}
use Rattle.partial_answers.specs.Groups.{partial_answer_in, shown_entry, shown_entries}
use Rattle.partial_answers.specs.Measures.{measures_of}
use Rattle.partial_answers.specs.PartialAnswer.{finish, shown}
use Rattle.partial_answers.specs.declared.kept.Kept.{Kept}
use Rattle.partial_answers.proofs.Combined.{same_partial_answers}
use Rattle.partial_answers.proofs.PartialAnswerIn.{as_tallies}
use Rattle.partial_answers.proofs.ShownOnce.{shown_once}

pub empty : {X : Type 0} (xs : List X) → length xs ≡ 0 → xs ≡ []
empty [] e = refl
empty (x ∷ xs) e = absurd (omega arith)

pub shown_more : (measures aggregates : List Aggregate) (all next : List GroupFields) (g : GroupFields) (key : Cells) (kept : Vec Kept) (es rest : List (Cells × Vec Kept)) (whole : List GroupFields)
    → next ≡ all ++ g ∷ [] → g ≡ shown_entry measures aggregates (key, kept) → es ≡ (key, kept) ∷ rest → all ++ shown_entries measures aggregates es ≡ whole → next ++ shown_entries measures aggregates rest ≡ whole
shown_more measures aggregates all next g key kept es rest whole is one first before =
    ap (λ (l : List GroupFields). l ++ shown_entries measures aggregates rest) is
    ∙ append_assoc all (g ∷ []) (shown_entries measures aggregates rest)
    ∙ ap (λ (x : GroupFields). all ++ x ∷ shown_entries measures aggregates rest) one
    ∙ sym (ap (λ (l : List (Cells × Vec Kept)). all ++ shown_entries measures aggregates l) first)
    ∙ before

-- ---- the entries of a partial answer are those of the groups, in the same order
below : (key : Cells) (es : List (Cells × Vec Kept)) → AllByRecursion (λ k. key_cmp key k ≡ Less) (keys_of es) → T (below_all key_cmp key (map as_tallies es))
below key [] h = tt
below key (e ∷ es) h = both_of (is_lt (key_cmp key e.0)) (below_all key_cmp key (map as_tallies es)) (is_less (key_cmp key e.0) h.0) (below key es h.1)

in_order : (es : List (Cells × Vec Kept)) → IsStrictlySortedBy key_cmp (keys_of es) → T (is_sorted key_cmp (map as_tallies es))
unfolding IsStrictlySortedBy
in_order [] h = tt
in_order (e ∷ es) h = both_of (below_all key_cmp e.0 (map as_tallies es)) (is_sorted key_cmp (map as_tallies es)) (below e.0 es h.0) (in_order es h.1)

pub entries-partial_answer_in : (m : BTreeMap Cells (Vec Kept)) → IsOrdered key_cmp m → finite.entries (partial_answer_in m) ≡ map as_tallies m.entries
unfolding partial_answer_in
entries-partial_answer_in m up =
    let es = map as_tallies m.entries in
    let sorted = in_order m.entries up in
    let entries = finite.entries-from_sorted key_cmp es sorted in
    let same : partial_answer_in m ≡ finite.from_sorted es = same_partial_answers _ _ (λ k. finite.get-from_entries key_total es k ∙ sym (finite.get-entries (finite.from_sorted es) k ∙ ap (find key_cmp k) entries)) in
    ap finite.entries same ∙ entries

shown_same : (aggregates : List Aggregate) (es : List (Cells × Vec Kept)) → shown_entries (measures_of aggregates) aggregates es ≡ map (shown aggregates) (map as_tallies es)
shown_same aggregates [] = refl
shown_same aggregates (e ∷ es) = ap (λ (l : List GroupFields). shown aggregates (as_tallies e) ∷ l) (shown_same aggregates es)

pub shown_partial_answer : (aggregates : List Aggregate) (m : BTreeMap Cells (Vec Kept)) → IsOrdered key_cmp m → shown_entries (measures_of aggregates) aggregates m.entries ≡ map (shown aggregates) (finite.entries (partial_answer_in m))
shown_partial_answer aggregates m up = shown_same aggregates m.entries ∙ sym (ap (map (shown aggregates)) (entries-partial_answer_in m up))

-- the answer of the groups that are shown is that of the partial answer
pub finish_is : (table : Table) (query : QueryShape) (whole plan : PlanShape) (measures asked aggregates : List Aggregate) (m : BTreeMap Cells (Vec Kept)) (groups : List GroupFields) (answer : AnswerParts)
    → whole ≡ plan_of table.columns query → asked ≡ whole.aggregates → plan ≡ functions_once whole → aggregates ≡ plan.aggregates → measures ≡ measures_of asked → IsOrdered key_cmp m → groups ≡ shown_entries measures aggregates m.entries
    → answer.heading ≡ map item_text query.items → answer.rows ≡ map (seen_items table.columns plan query.items) (groups_kept table.columns plan query.having groups) → answer ≡ finish table query (partial_answer_in m)
unfolding finish
finish_is table query whole plan measures asked aggregates m groups answer e first o second ms up is heading rows =
    let all = plan_of table.columns query in
    let asked_is : asked ≡ all.aggregates = first ∙ ap (λ (p : PlanShape). p.aggregates) e in
    let plan_is : plan ≡ functions_once all = o ∙ ap functions_once e in
    let aggregates_is : aggregates ≡ aggregates_once all.aggregates = second ∙ ap (λ (p : PlanShape). p.aggregates) plan_is in
    let given = is ∙ ap (λ (l : List Aggregate). shown_entries l aggregates m.entries) ms ∙ (λ i. shown_entries (measures_of (asked_is i)) (aggregates_is i) m.entries) in
    let kept = rows
    ∙ ap (λ (p : PlanShape). map (seen_items table.columns p query.items) (groups_kept table.columns p query.having groups)) plan_is
    ∙ ap (λ (gs : List GroupFields). map (seen_items table.columns (functions_once all) query.items) (groups_kept table.columns (functions_once all) query.having gs)) given
    ∙ shown_once table.columns query (measures_of all.aggregates) m.entries
    ∙ ap (λ (gs : List GroupFields). map (seen_items table.columns all query.items) (groups_kept table.columns all query.having gs)) (shown_partial_answer all.aggregates m up) in
    λ i. record { heading = heading i; rows = kept i }
