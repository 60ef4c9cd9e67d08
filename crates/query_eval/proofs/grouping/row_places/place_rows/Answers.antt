-- The rows are split by the keys that were read.
use Rattle.std.proofs.Common.{◌∙◌, ap}
use Rattle.query_eval.specs.Keys.{key_read}
use Rattle.query_eval.specs.Vector.{vector_at}
use Rattle.query_eval.proofs.grouping.row_places.place_rows.Goals as goal

pub returns-clause-placed : goal.returns-clause-placed
returns-clause-placed g c =
    c.in_ok-by_keys.ensures.placed c.args.grouping.now (vector_at (g.C.Columns.seen c.args.columns.now).state c.args.kept.now.id.batch c.args.kept.now.id.vector)
    (λ n l on. ap (λ columns. key_read c.in_ok-keys.keys columns c.read_keys.new.values c.read_keys.new.codes n) c.as_slice.ensures.value ∙ c.in_ok-keys.ensures.keys n l on)
