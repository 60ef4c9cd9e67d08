use Rattle.std.proofs.Common.{◌∙◌, List, All, IsTrue, sym, ap, subst, arith}
use Rattle.std.specs.FinSet as set
use Rattle.table_model.specs.Name.{name_cmp, is_proper_name}
use Rattle.table_model.specs.declared.names.BatchName.{BatchName}
use Rattle.segment_core.proofs.FormatLaws.{bytes_at}
use Rattle.replica_store.specs.Exchange.{AreListable}
use Rattle.column_file.proofs.SummaryWriting.{names_read, listable}
use Rattle.column_file.proofs.summary_reading.summary_in.Goals as goal

pub held_of-requires : goal.held_of-requires
held_of-requires c =
    let fit = bytes_at c.args.bytes.now (λ i. omega (arith, c.type_inv.bytes i)) in
    let P : List BatchName → Type 0 = λ xs. All (λ name. IsTrue (is_proper_name name)) xs in
    subst P (sym c.as_slice.ensures.value) (names_read c.args.bytes.now c.in_ok-schema.schema c.in_ok-schema.names.items fit c.in_ok-schema.ensures).1

pub from_parts-requires : goal.from_parts-requires
from_parts-requires c =
    let fit = bytes_at c.args.bytes.now (λ i. omega (arith, c.type_inv.bytes i)) in
    let P : set.FinSet name_cmp → Type 0 = λ held. AreListable held in
    subst P (sym (c.in_ok-held.ensures ∙ ap (λ (xs : List BatchName). set.from_list {R = name_cmp} xs) c.as_slice.ensures.value)) (listable c.args.bytes.now c.in_ok-schema.schema c.in_ok-schema.names.items fit c.in_ok-schema.ensures)
