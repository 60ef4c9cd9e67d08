use Rattle.std.proofs.Common.{◌+◌, ◌++◌, List, ℕ, map, length}
use Rattle.std.proofs.lemmas.List.Elements.{All-append}
use Rattle.std.proofs.lemmas.Result.{err_from_is_err_and}
use Rattle.segment_core.specs.Format.{number, all}
use Rattle.replica_store.specs.Segments.{Entry as Held}
use Rattle.column_file.specs.ContainerBytes.{batch}
use Rattle.column_file.specs.Files.{canonical_as_read, IsNumbered}
use Rattle.column_file.proofs.CanonicalWriting.{two_lists_spelled}
use Rattle.column_file.proofs.HasFiles.{on_ok}
use Rattle.segment_core.proofs.Writings.{writes_both, writes_front}
use Rattle.column_file.proofs.canonical_writing.write_canonical_batches.Goals as goal

pub returns-in_err-write_number-clause-bytes : goal.returns-in_err-write_number-clause-bytes
returns-in_err-write_number-clause-bytes g c = λ t all_first all_second.
    let p = err_from_is_err_and c.from_residual.result c.from_residual.ensures.1 in
    let xs = c.args.first.now in
    let ys = c.args.second.now in
    let list : List Held → List ℕ = λ zs. (all (length zs) (batch t)).spell (map (canonical_as_read t) zs) in
    rw (two_lists_spelled t xs ys)
    (writes_front c.from_residual.result c.in_err-write_number.field-0.0 (g.W.Write.contents c.args.writer.now.0) (g.W.Write.contents c.write_number.new.writer.0) c.args.writer.now.1 c.write_number.new.writer.1 ((number 4).spell (length xs + length ys)) (list xs ++ list ys) (rw (← p.2) p.1) c.in_err-write_number.ensures)

pub returns-in_err-write_canonical_list-clause-bytes : goal.returns-in_err-write_canonical_list-clause-bytes
returns-in_err-write_canonical_list-clause-bytes g c = λ t all_first all_second.
    let p = err_from_is_err_and c.from_residual-in_err-write_canonical_list.result c.from_residual-in_err-write_canonical_list.ensures.1 in
    let xs = c.args.first.now in
    let ys = c.args.second.now in
    let list : List Held → List ℕ = λ zs. (all (length zs) (batch t)).spell (map (canonical_as_read t) zs) in
    let h0 = c.in_ok-write_number.ensures in
    rw (two_lists_spelled t xs ys)
    (writes_both c.from_residual-in_err-write_canonical_list.result (g.W.Write.contents c.args.writer.now.0) (g.W.Write.contents c.write_number.new.writer.0) (g.W.Write.contents c.write_canonical_list.new.writer.0) c.args.writer.now.1 c.write_number.new.writer.1 c.write_canonical_list.new.writer.1 ((number 4).spell (length xs + length ys)) (list xs ++ list ys) h0.0 h0.1
    (writes_front c.from_residual-in_err-write_canonical_list.result c.in_err-write_canonical_list.field-0.0 (g.W.Write.contents c.write_number.new.writer.0) (g.W.Write.contents c.write_canonical_list.new.writer.0) c.write_number.new.writer.1 c.write_canonical_list.new.writer.1 (list xs) (list ys) (rw (← p.2) p.1) (c.in_err-write_canonical_list.ensures.bytes t all_first)))

pub returns-clause-bytes : goal.returns-clause-bytes
returns-clause-bytes g c = λ t all_first all_second.
    let xs = c.args.first.now in
    let ys = c.args.second.now in
    let list : List Held → List ℕ = λ zs. (all (length zs) (batch t)).spell (map (canonical_as_read t) zs) in
    let h0 = c.in_ok-write_number.ensures in
    let h1 = c.in_ok-write_canonical_list.ensures.bytes t all_first in
    rw (two_lists_spelled t xs ys)
    (writes_both c.write_canonical_list-2.result (g.W.Write.contents c.args.writer.now.0) (g.W.Write.contents c.write_number.new.writer.0) (g.W.Write.contents c.write_canonical_list-2.new.writer.0) c.args.writer.now.1 c.write_number.new.writer.1 c.write_canonical_list-2.new.writer.1 ((number 4).spell (length xs + length ys)) (list xs ++ list ys) h0.0 h0.1
    (writes_both c.write_canonical_list-2.result (g.W.Write.contents c.write_number.new.writer.0) (g.W.Write.contents c.write_canonical_list.new.writer.0) (g.W.Write.contents c.write_canonical_list-2.new.writer.0) c.write_number.new.writer.1 c.write_canonical_list.new.writer.1 c.write_canonical_list-2.new.writer.1 (list xs) (list ys) h1.0 h1.1
    (c.write_canonical_list-2.ensures.bytes t all_second)))

pub returns-clause-numbered : goal.returns-clause-numbered
returns-clause-numbered g c =
    on_ok c.write_canonical_list-2.result (All-append (λ (e : Held). IsNumbered e.0) c.args.first.now c.args.second.now c.in_ok-write_canonical_list.ensures.numbered) c.write_canonical_list-2.ensures.numbered
