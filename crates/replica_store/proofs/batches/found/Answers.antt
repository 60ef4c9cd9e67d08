-- A name is found exactly at its place.
use Rattle.std.proofs.Common.{rules, arith}
use Rattle.table_model.specs.Name.{name_cmp}
use Rattle.table_model.proofs.NameOrder.{names_total}
use Rattle.replica_store.proofs.Places.{count_below-le, find-none, find-first, find-other}
use Rattle.replica_store.proofs.batches.found.Goals as goal
use Rattle.replica_store.proofs.Recodes.{from_place}

pub split_at-requires : goal.split_at-requires
split_at-requires c = omega (arith, count_below-le name_cmp c.args.name c.args.entries.now)

pub returns-in-None : goal.returns-in-None
returns-in-None c =
    find-none name_cmp names_total c.args.name c.args.entries.now _ c.requires (from_place _ _ _ _ c.split_at.ensures.back c.place.ensures) c.in-None.ensures.cases

pub returns-then-is_eq : goal.returns-then-is_eq
returns-then-is_eq c =
    find-first name_cmp names_total c.args.name c.args.entries.now _ _ c.in-Some.first.now c.requires (from_place _ _ _ _ c.split_at.ensures.back c.place.ensures) c.in-Some.ensures.cases.0 (search rules)

pub returns-else-is_eq : goal.returns-else-is_eq
returns-else-is_eq c =
    find-other name_cmp names_total c.args.name c.args.entries.now _ _ c.in-Some.first.now c.requires (from_place _ _ _ _ c.split_at.ensures.back c.place.ensures) c.in-Some.ensures.cases.0 (search rules)
