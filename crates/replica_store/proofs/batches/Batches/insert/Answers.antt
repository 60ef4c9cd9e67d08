-- The entry goes into the part of its origin, and its name among the names; a refused insert changes nothing.
use Rattle.std.proofs.Common.{arith, ap}
use Rattle.std.proofs.lemmas.Bool.Decides.{nat_tests}
use Rattle.replica_store.specs.Segments.{BatchesForm}
use Rattle.replica_store.proofs.InParts.{Sorted-front, Sorted-back}
use Rattle.replica_store.proofs.Putting.{put_front, put_back, put_front_map, put_back_map}
use Rattle.replica_store.proofs.batches.Batches.insert.Goals as goal

pub put_new-requires-clause-sorted : goal.put_new-requires-clause-sorted
put_new-requires-clause-sorted c = Sorted-front c.self.inside.up_to.items c.self.inside.past.items c.self.invariant.kept.sorted

pub put_new-requires-else-name-self-clause-sorted : goal.put_new-requires-else-name-self-clause-sorted
put_new-requires-else-name-self-clause-sorted c = Sorted-back c.self.inside.up_to.items c.self.inside.past.items c.self.invariant.kept.sorted

pub invariant_of-self : goal.invariant_of-self
invariant_of-self c =
    put_front c.put_new.result c.self.inside.own c.self.inside.up_to.items c.self.inside.past.items c.put_new.new.entries.items c.self.inside.held c.put_new.new.held c.args.self.now.segments c.args.name c.args.segment
    c.self.invariant (grind (arith, nat_tests)) (ap (λ (b : BatchesForm). b.segments) c.self.view_is) c.requires.new c.put_new.ensures.entries c.put_new.ensures.names c.put_new.ensures.same_entries c.put_new.ensures.same_names

pub invariant_of-self-else-name-self : goal.invariant_of-self-else-name-self
invariant_of-self-else-name-self c =
    put_back c.put_new-else-name-self.result c.self.inside.own c.self.inside.up_to.items c.self.inside.past.items c.put_new-else-name-self.new.entries.items c.self.inside.held c.put_new-else-name-self.new.held c.args.self.now.segments c.args.name c.args.segment
    c.self.invariant (grind (arith, nat_tests)) (ap (λ (b : BatchesForm). b.segments) c.self.view_is) c.requires.new c.put_new-else-name-self.ensures.entries c.put_new-else-name-self.ensures.names c.put_new-else-name-self.ensures.same_entries c.put_new-else-name-self.ensures.same_names

pub returns-then-name-self-clause-ok : goal.returns-then-name-self-clause-ok
returns-then-name-self-clause-ok c =
    put_front_map c.put_new.result c.self.inside.own c.self.inside.up_to.items c.self.inside.past.items c.put_new.new.entries.items c.self.inside.held c.args.self.now.segments c.args.name c.args.segment
    c.self.invariant (grind (arith, nat_tests)) (ap (λ (b : BatchesForm). b.segments) c.self.view_is) c.requires.new c.put_new.ensures.entries

pub returns-else-name-self-clause-ok : goal.returns-else-name-self-clause-ok
returns-else-name-self-clause-ok c =
    put_back_map c.put_new-else-name-self.result c.self.inside.own c.self.inside.up_to.items c.self.inside.past.items c.put_new-else-name-self.new.entries.items c.self.inside.held c.args.self.now.segments c.args.name c.args.segment
    c.self.invariant (grind (arith, nat_tests)) (ap (λ (b : BatchesForm). b.segments) c.self.view_is) c.requires.new c.put_new-else-name-self.ensures.entries
