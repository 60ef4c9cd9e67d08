-- The key has a place, or gets the next one.
use Rattle.std.proofs.Common.{cond, Some, ap, sym, ◌∙◌}
use Rattle.query_eval.specs.Entries.{place_in}
use Rattle.table_model.specs.State.{Cells, same_cells}
use Rattle.query_eval.proofs.PlaceLemmas.{taken_known, taken_new, index_new}
use Rattle.query_eval.proofs.grouping.places.Places.of_key.Goals as goal

pub returns-in-Some-clause-taken : goal.returns-in-Some-clause-taken
returns-in-Some-clause-taken c = taken_known c.args.key.now c.in-Some.place c.args.self.now.index.entries (sym c.get.ensures ∙ c.in-Some.is)

pub returns-clause-index : goal.returns-clause-index
returns-clause-index c =
    let none = sym c.get.ensures ∙ c.in_default.is in
    index_new c.args.key.now c.args.self.now.index.entries c.insert.new.self.entries c.len-place.result c.len-place.ensures none
    (λ q. c.in_ok-insert.ensures.places q ∙ ap (λ (x : Cells). cond (same_cells x q) (Some c.len-place.result) (place_in c.args.self.now.index.entries q)) c.in_ok-copy.ensures)
    (c.in_ok-insert.ensures.len (ap (place_in c.args.self.now.index.entries) c.in_ok-copy.ensures ∙ none))
    c.args.self.now.index.hash_key c.insert.new.self.hash_key c.args.self.now.recent c.args.self.now.null

pub returns-clause-taken : goal.returns-clause-taken
returns-clause-taken c =
    let none = sym c.get.ensures ∙ c.in_default.is in
    taken_new c.args.key.now c.args.self.now.index.entries c.insert.new.self.entries c.len-place.result c.len-place.ensures none
    (λ q. c.in_ok-insert.ensures.places q ∙ ap (λ (x : Cells). cond (same_cells x q) (Some c.len-place.result) (place_in c.args.self.now.index.entries q)) c.in_ok-copy.ensures)
    (c.in_ok-insert.ensures.len (ap (place_in c.args.self.now.index.entries) c.in_ok-copy.ensures ∙ none))
