-- The union has the batches of the one and those that it lacks of both parts.
use Rattle.std.specs.Prelude.{◌++◌}
use Rattle.std.proofs.Common.{arith, sym, ap, ◌∙◌, length, List}
use Rattle.std.proofs.lemmas.List.{length-append}
use Rattle.std.specs.FinMap as map
use Rattle.replica_store.specs.Segments.{BatchesForm, Entry}
use Rattle.replica_store.proofs.InParts.{lacked-append}
use Rattle.replica_store.proofs.Maps.{as_map, entries-as_map}
use Rattle.replica_store.proofs.RowsIn.{rows_in-union, len-rows_in}
use Rattle.std.proofs.lemmas.Bool.Decides.{nat_tests}
use Rattle.table_model.specs.State.{union_of}
use Rattle.replica_store.specs.Replica.{lacked_by, names_of}
use Rattle.replica_store.proofs.Merges.{len-union}
use Rattle.replica_store.proofs.batches.Batches.union_exceeds.Goals as goal

pub returns-then-held-limit : goal.returns-then-held-limit
returns-then-held-limit c =
    let others : List Entry = c.args.first.now ++ c.args.second.now in
    let all = ap map.len (sym (rows_in-union c.args.self.now.segments (as_map others))) ∙ len-rows_in (union_of c.args.self.now.segments (as_map others)) ∙ len-union c.args.self.now.segments (as_map others) in
    grind (arith, nat_tests, all)

pub returns-then-lacked-room : goal.returns-then-lacked-room
returns-then-lacked-room c =
    let others : List Entry = c.args.first.now ++ c.args.second.now in
    let all = ap map.len (sym (rows_in-union c.args.self.now.segments (as_map others))) ∙ len-rows_in (union_of c.args.self.now.segments (as_map others)) ∙ len-union c.args.self.now.segments (as_map others) in
    let names = c.self.invariant.kept.names ∙ ap names_of (ap (λ (b : BatchesForm). b.segments) c.self.view_is) in
    let first = c.count_lacked-lacked.ensures ∙ (λ i. length (lacked_by (names i) c.args.first.now)) in
    let both = ap (λ (es : List Entry). length (lacked_by (names_of c.args.self.now.segments) es)) (entries-as_map others c.requires)
    ∙ ap length (lacked-append (names_of c.args.self.now.segments) c.args.first.now c.args.second.now) ∙ length-append (lacked_by (names_of c.args.self.now.segments) c.args.first.now) (lacked_by (names_of c.args.self.now.segments) c.args.second.now) in
    grind (arith, nat_tests, all, first, both)

pub returns-else-lacked-room : goal.returns-else-lacked-room
returns-else-lacked-room c =
    let others : List Entry = c.args.first.now ++ c.args.second.now in
    let all = ap map.len (sym (rows_in-union c.args.self.now.segments (as_map others))) ∙ len-rows_in (union_of c.args.self.now.segments (as_map others)) ∙ len-union c.args.self.now.segments (as_map others) in
    let names = c.self.invariant.kept.names ∙ ap names_of (ap (λ (b : BatchesForm). b.segments) c.self.view_is) in
    let first = c.count_lacked-lacked.ensures ∙ (λ i. length (lacked_by (names i) c.args.first.now)) in
    let second = c.count_lacked.ensures ∙ (λ i. length (lacked_by (names i) c.args.second.now)) in
    let both = ap (λ (es : List Entry). length (lacked_by (names_of c.args.self.now.segments) es)) (entries-as_map others c.requires)
    ∙ ap length (lacked-append (names_of c.args.self.now.segments) c.args.first.now c.args.second.now) ∙ length-append (lacked_by (names_of c.args.self.now.segments) c.args.first.now) (lacked_by (names_of c.args.self.now.segments) c.args.second.now) in
    grind (arith, nat_tests, all, first, second, both)
