use Rattle.std.proofs.Common.{◌++◌}
use Rattle.std.specs.Map.Iter.{deref_pair}
use Rattle.std.proofs.lemmas.Map.Iter.{rest_more, rest_all}
use Rattle.partial_file.proofs.Spelled.{group_bytes, group_put, groups_put}
use Rattle.partial_file.proofs.Written.{group_more, groups_done, have_bytes}
use Rattle.partial_file.proofs.group_writing.push_group_list.Goals as goal

pub loop-key-preserved : goal.loop-key-preserved
loop-key-preserved c =
    let more = rest_more deref_pair c.loop-key.key-iterator c.next.new.self c.next.result (c.in-Some.key, c.in-Some.measures) c.in-Some.is c.next.ensures.steps in (
      group_put c.loop-key.bytes.items c.push_group.new.bytes.items (c.args.bytes.now.items ++ group_bytes c.args.all.now.entries) (c.in-Some.key.now, c.in-Some.measures.now) c.loop-key.key-iterator c.next.new.self more c.loop-key.invariant.0
          (rw c.as_slice.ensures.value at c.in_ok-push_group.ensures.put),
      group_more (have_bytes c.args.all.now.entries) (c.in-Some.key.now, c.in-Some.measures.now) c.loop-key.key-iterator c.next.new.self more c.loop-key.invariant.1
          (rw c.as_slice.ensures.value at c.in_ok-push_group.ensures.valid),
    )

pub returns-clause-put : goal.returns-clause-put
returns-clause-put c =
    let none = rest_all deref_pair c.loop-key.key-iterator c.next.new.self c.next.result c.in-None.is c.next.ensures.steps in
    groups_put c.loop-key.bytes.items (c.args.bytes.now.items ++ group_bytes c.args.all.now.entries) c.loop-key.key-iterator none c.loop-key.invariant.0

pub returns-clause-valid : goal.returns-clause-valid
returns-clause-valid c =
    let none = rest_all deref_pair c.loop-key.key-iterator c.next.new.self c.next.result c.in-None.is c.next.ensures.steps in
    groups_done (have_bytes c.args.all.now.entries) c.loop-key.key-iterator none c.loop-key.invariant.1
