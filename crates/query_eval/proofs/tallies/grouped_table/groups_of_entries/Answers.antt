-- One group more is finished, by the tallies at its place.
use Rattle.std.proofs.Common.{◌≡◌, ◌++◌, ◌∷◌, [], ℕ, map, length, rules, sym, ap, ◌∙◌}
use Rattle.std.specs.Map.{keys_of}
use Rattle.std.proofs.lemmas.Iterator.Adapters.{YieldsList-from_vec}
use Rattle.std.proofs.lemmas.Iterator.Consumers.{YieldsList-turn, YieldsList-end}
use Rattle.std.proofs.lemmas.List.{map-append, map-id}
use Rattle.table_model.specs.Group.{group_at, rows_with}
use Rattle.table_model.specs.State.{Cells}
use Rattle.query_eval.specs.Entries.{Entries}
use Rattle.query_eval.specs.Finished.{finished_of}
use Rattle.query_eval.proofs.IndexLemmas.{found_at}
use Rattle.query_eval.proofs.OrderLemmas.{few_with}
use Rattle.query_eval.proofs.tallies.grouped_table.groups_of_entries.Goals as goal

pub loop-key-preserved : goal.loop-key-preserved
loop-key-preserved c = λ table by rows few h.
    let named = c.args.aggregates.now in
    let entries = c.args.entries.items in
    let key : Cells = c.in-Some.key in
    let gives = c.into_iter-key-iterator.ensures.into_iter_gives in
    let long : c.into_iter-key-iterator.result.rest.len ≡ length entries = search rules in
    let all = YieldsList-from_vec entries gives.0 long in
    let here = YieldsList-turn all c.loop-key.yielded c.loop-key.key-iterator c.loop-key.yielded_by c.next.result c.next.new.self (key, c.in-Some.place) c.in-Some.is c.next.ensures.steps in
    let found = found_at entries _ key c.in-Some.place c.requires here.0 here.1 in
    let fields = c.in_ok-fields.ensures table (rows_with by rows key) (few_with table by rows key few) (h.held key c.in-Some.place found) in
    c.in_ok-push.ensures.items
    ∙ (λ i. c.loop-key.invariant table by rows few h i ++ record { key = c.new.ensures.key i; fields = (c.new.ensures.fields ∙ fields) i } ∷ [])
    ∙ sym (ap (map (λ (k : Cells). finished_of named (group_at by rows k))) (map-append (λ (e : Cells × ℕ). e.0) c.loop-key.yielded ((key, c.in-Some.place) ∷ [])) ∙ map-append (λ (k : Cells). finished_of named (group_at by rows k)) (keys_of c.loop-key.yielded) (key ∷ []))

pub returns : goal.returns
returns c = λ table by rows few h.
    let entries = c.args.entries.items in
    let gives = c.into_iter-key-iterator.ensures.into_iter_gives in
    let long : c.into_iter-key-iterator.result.rest.len ≡ length entries = search rules in
    let all = YieldsList-from_vec entries gives.0 long in
    let end = YieldsList-end all c.loop-key.yielded c.loop-key.key-iterator c.loop-key.yielded_by c.next.result c.next.new.self c.in-None.is c.next.ensures.steps in
    c.loop-key.invariant table by rows few h
    ∙ ap (λ (es : Entries). map (λ (k : Cells). finished_of c.args.aggregates.now (group_at by rows k)) (keys_of es)) (sym (map-id c.loop-key.yielded) ∙ end.0)
