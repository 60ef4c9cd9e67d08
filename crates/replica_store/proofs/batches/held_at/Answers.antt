-- A name is held exactly at its place.
use Rattle.std.proofs.Common.{rules, arith, sym}
use Rattle.table_model.specs.Name.{name_cmp}
use Rattle.table_model.proofs.NameOrder.{names_total}
use Rattle.replica_store.proofs.Places.{count_below-le, find-none, find-other}
use Rattle.replica_store.proofs.Recodes.{from_place, at_place, below_place}
use Rattle.replica_store.proofs.batches.held_at.Goals as goal

pub split_at-requires : goal.split_at-requires
split_at-requires c = omega (arith, count_below-le name_cmp c.args.name c.args.entries.now, c.place-at.ensures)

pub returns-in-None-clause-held : goal.returns-in-None-clause-held
returns-in-None-clause-held c =
    sym (find-none name_cmp names_total c.args.name c.args.entries.now _ c.requires (from_place _ _ _ _ c.split_at.ensures.back c.place-at.ensures) c.in-None.ensures.cases)

pub returns-then-is_eq-clause-held : goal.returns-then-is_eq-clause-held
returns-then-is_eq-clause-held c = at_place c.args.name c.args.entries.now c.split_at.result.1.now _ c.in-Some.first.now c.place-at.result c.split_at.ensures.back c.in-Some.ensures.cases.0 (search rules)

pub returns-then-is_eq-clause-bound : goal.returns-then-is_eq-clause-bound
returns-then-is_eq-clause-bound c = below_place c.args.entries.now c.split_at.result.1.now _ c.in-Some.first.now c.place-at.result c.split_at.ensures.back c.in-Some.ensures.cases.0

pub returns-else-is_eq-clause-held : goal.returns-else-is_eq-clause-held
returns-else-is_eq-clause-held c =
    sym (find-other name_cmp names_total c.args.name c.args.entries.now _ _ c.in-Some.first.now c.requires (from_place _ _ _ _ c.split_at.ensures.back c.place-at.ensures) c.in-Some.ensures.cases.0 (search rules))
