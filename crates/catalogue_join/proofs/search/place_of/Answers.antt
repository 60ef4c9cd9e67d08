-- The two searches tell all of a place but its order, which follows as no range is empty.
use Rattle.catalogue_join.proofs.Spans.{place_ordered}
use Rattle.catalogue_join.proofs.search.place_of.Goals as goal

pub returns : goal.returns
returns g c =
    let before = c.count_apart_before.ensures in
    let behind = c.count_up_to_touching.ensures in
    record {
      ordered = place_ordered g.S.Span.shape c.args.ranges.now c.args.range c.count_apart_before.result c.count_up_to_touching.result c.requires.rising c.requires.not_empty before.within before.before behind.later;
      in_list = behind.within;
      before = λ k d less _. before.before k d less;
      from_i = before.later;
      below_j = λ k d less _. behind.begun k d less;
      behind = behind.later;
    }
