-- Both bounds are tested.
use Rattle.std.proofs.Common.{◌≡◌, ap, sym, arith}
use Rattle.std.specs.Prelude.{nat_lt, ◌&&◌, true, false}
use Rattle.std.proofs.lemmas.Bool.Decides.{nat_tests}
use Rattle.segment_core.specs.Segment.{vector_count}
use Rattle.replica_store.proofs.VectorPlaces.{has_vector_is}
use Rattle.replica_store.proofs.store.has_vector.Goals as goal

pub returns-then-column-columns : goal.returns-then-column-columns
returns-then-column-columns c =
    let long : c.div_ceil-vectors.result ≡ vector_count c.rows.result = omega (arith, c.div_ceil-vectors.ensures) in
    let within : nat_lt c.args.column c.columns.result ≡ true = grind (arith, nat_tests) in
    has_vector_is c.args.segment.now c.rows.result c.columns.result c.div_ceil-vectors.result c.args.column c.args.vector (nat_lt c.args.vector c.div_ceil-vectors.result)
    c.rows.ensures.count c.rows.ensures.rows c.rows.ensures.form c.columns.ensures long (ap (λ b. b && nat_lt c.args.vector c.div_ceil-vectors.result) (sym within))

pub returns-else-column-columns : goal.returns-else-column-columns
returns-else-column-columns c =
    let long : c.div_ceil-vectors.result ≡ vector_count c.rows.result = omega (arith, c.div_ceil-vectors.ensures) in
    let past : nat_lt c.args.column c.columns.result ≡ false = grind (arith, nat_tests) in
    let test : nat_lt c.args.column c.columns.result ≡ (nat_lt c.args.column c.columns.result && nat_lt c.args.vector c.div_ceil-vectors.result) = cc in
    has_vector_is c.args.segment.now c.rows.result c.columns.result c.div_ceil-vectors.result c.args.column c.args.vector (nat_lt c.args.column c.columns.result)
    c.rows.ensures.count c.rows.ensures.rows c.rows.ensures.form c.columns.ensures long test
