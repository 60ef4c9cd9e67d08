use Rattle.std.proofs.Common.{ap, get_or, arith, ◌≢◌}
use Rattle.cluster_history.proofs.Apart.{stored_front, stored_back, front_left, back_left}
use Rattle.cluster_history.proofs.Codings.{front_merges, back_merges}
use Rattle.cluster_history.proofs.Idle.{front_same, back_same}
use Rattle.cluster_history.proofs.cluster.merge_apart.Goals as goal

pub returns-then-place-from-clause-acts : goal.returns-then-place-from-clause-acts
returns-then-place-from-clause-acts c =
    stored_front c.args.stores.now c.split_at_mut-front.result.0.now c.split_at_mut-front.result.1.now c.args.place c.args.from (get_or c.split_at_mut-front.result.0.now c.args.place c.index-front-place.result) (get_or c.split_at_mut-front.result.1.now 0 c.index-back-0.result) c.merge.new.self c.merge.result
    c.split_at_mut-front.ensures.value c.split_at_mut-front.ensures.front_len c.if-place-from.true c.requires.from (ap (get_or c.split_at_mut-front.result.0.now c.args.place) c.index-front-place.is) (ap (get_or c.split_at_mut-front.result.1.now 0) c.index-back-0.is) c.merge.ensures.acts

pub returns-else-place-from-clause-acts : goal.returns-else-place-from-clause-acts
returns-else-place-from-clause-acts c =
    let apart : c.args.place ≢ c.args.from = c.requires.apart in
    stored_back c.args.stores.now c.split_at_mut-front-else-place-from.result.0.now c.split_at_mut-front-else-place-from.result.1.now c.args.place c.args.from (get_or c.split_at_mut-front-else-place-from.result.1.now 0 c.index-back-0-else-place-from.result) (get_or c.split_at_mut-front-else-place-from.result.0.now c.args.from c.index-front-from.result) c.merge-else-place-from.new.self c.merge-else-place-from.result
    c.split_at_mut-front-else-place-from.ensures.value c.split_at_mut-front-else-place-from.ensures.front_len (omega arith) c.requires.place (ap (get_or c.split_at_mut-front-else-place-from.result.1.now 0) c.index-back-0-else-place-from.is) (ap (get_or c.split_at_mut-front-else-place-from.result.0.now c.args.from) c.index-front-from.is) c.merge-else-place-from.ensures.acts

pub returns-then-place-from-clause-idle : goal.returns-then-place-from-clause-idle
returns-then-place-from-clause-idle c = λ same.
    c.merge.ensures.idle
    (front_same c.args.stores.now c.split_at_mut-front.result.0.now c.split_at_mut-front.result.1.now c.args.place c.args.from (get_or c.split_at_mut-front.result.0.now c.args.place c.index-front-place.result) (get_or c.split_at_mut-front.result.1.now 0 c.index-back-0.result)
    c.split_at_mut-front.ensures.value c.split_at_mut-front.ensures.front_len c.if-place-from.true c.requires.from (ap (get_or c.split_at_mut-front.result.0.now c.args.place) c.index-front-place.is) (ap (get_or c.split_at_mut-front.result.1.now 0) c.index-back-0.is) same)

pub returns-else-place-from-clause-idle : goal.returns-else-place-from-clause-idle
returns-else-place-from-clause-idle c = λ same.
    let apart : c.args.place ≢ c.args.from = c.requires.apart in
    c.merge-else-place-from.ensures.idle
    (back_same c.args.stores.now c.split_at_mut-front-else-place-from.result.0.now c.split_at_mut-front-else-place-from.result.1.now c.args.place c.args.from (get_or c.split_at_mut-front-else-place-from.result.1.now 0 c.index-back-0-else-place-from.result) (get_or c.split_at_mut-front-else-place-from.result.0.now c.args.from c.index-front-from.result)
    c.split_at_mut-front-else-place-from.ensures.value c.split_at_mut-front-else-place-from.ensures.front_len (omega arith) c.requires.place (ap (get_or c.split_at_mut-front-else-place-from.result.1.now 0) c.index-back-0-else-place-from.is) (ap (get_or c.split_at_mut-front-else-place-from.result.0.now c.args.from) c.index-front-from.is) same)

pub returns-then-place-from-clause-refused : goal.returns-then-place-from-clause-refused
returns-then-place-from-clause-refused c =
    front_left c.args.stores.now c.split_at_mut-front.result.0.now c.split_at_mut-front.result.1.now c.args.place (get_or c.split_at_mut-front.result.0.now c.args.place c.index-front-place.result) c.merge.new.self c.merge.result
    c.split_at_mut-front.ensures.value (ap (get_or c.split_at_mut-front.result.0.now c.args.place) c.index-front-place.is) c.merge.ensures.refused

pub returns-else-place-from-clause-refused : goal.returns-else-place-from-clause-refused
returns-else-place-from-clause-refused c =
    back_left c.args.stores.now c.split_at_mut-front-else-place-from.result.0.now c.split_at_mut-front-else-place-from.result.1.now 0 (get_or c.split_at_mut-front-else-place-from.result.1.now 0 c.index-back-0-else-place-from.result) c.merge-else-place-from.new.self c.merge-else-place-from.result
    c.split_at_mut-front-else-place-from.ensures.value (ap (get_or c.split_at_mut-front-else-place-from.result.1.now 0) c.index-back-0-else-place-from.is) c.merge-else-place-from.ensures.refused

pub returns-then-place-from-clause-segments : goal.returns-then-place-from-clause-segments
returns-then-place-from-clause-segments c =
    front_merges c.args.stores.now c.split_at_mut-front.result.0.now c.split_at_mut-front.result.1.now c.args.place c.args.from (get_or c.split_at_mut-front.result.0.now c.args.place c.index-front-place.result) (get_or c.split_at_mut-front.result.1.now 0 c.index-back-0.result) c.merge.new.self c.merge.result
    c.split_at_mut-front.ensures.value c.split_at_mut-front.ensures.front_len c.if-place-from.true c.requires.from (ap (get_or c.split_at_mut-front.result.0.now c.args.place) c.index-front-place.is) (ap (get_or c.split_at_mut-front.result.1.now 0) c.index-back-0.is) c.merge.ensures.segments

pub returns-else-place-from-clause-segments : goal.returns-else-place-from-clause-segments
returns-else-place-from-clause-segments c =
    let apart : c.args.place ≢ c.args.from = c.requires.apart in
    back_merges c.args.stores.now c.split_at_mut-front-else-place-from.result.0.now c.split_at_mut-front-else-place-from.result.1.now c.args.place c.args.from (get_or c.split_at_mut-front-else-place-from.result.1.now 0 c.index-back-0-else-place-from.result) (get_or c.split_at_mut-front-else-place-from.result.0.now c.args.from c.index-front-from.result) c.merge-else-place-from.new.self c.merge-else-place-from.result
    c.split_at_mut-front-else-place-from.ensures.value c.split_at_mut-front-else-place-from.ensures.front_len (omega arith) c.requires.place (ap (get_or c.split_at_mut-front-else-place-from.result.1.now 0) c.index-back-0-else-place-from.is) (ap (get_or c.split_at_mut-front-else-place-from.result.0.now c.args.from) c.index-front-from.is) c.merge-else-place-from.ensures.segments
