use Rattle.std.proofs.Common.{◌≡◌, ◌∙◌, ◌+◌, ◌*◌, ◌++◌, Err, take, drop, slice_range, refl, arith}
use Rattle.std.proofs.lemmas.List.{take_all}
use Rattle.std.proofs.lemmas.Result.{err_from_is_err_and}
use Rattle.bit_interleave.specs.PackedBytes.{bytes_of}
use Rattle.bit_interleave.proofs.WordBytesLemmas.{length-bytes_of-packed}
use Rattle.segment_core.proofs.VectorLaws.{words_spelled}
use Rattle.table_model.proofs.Written.{appends_both}
use Rattle.segment_core.proofs.Writings.{writes_both, writes_front, one_more_block, at_block}
use Rattle.segment_core.proofs.writing.write_words.Goals as goal

pub le_bytes_at-requires : goal.le_bytes_at-requires
le_bytes_at-requires g c =
    omega (arith, length-bytes_of-packed c.args.packed.now c.args.width c.requires.lane_width c.requires.width, c.loop-block-test.true)

pub returns-in_err-write_whole : goal.returns-in_err-write_whole
returns-in_err-write_whole g c =
    let p = err_from_is_err_and c.from_residual.result c.from_residual.ensures.1 in
    let bytes = bytes_of c.args.packed.now in
    let h = rw c.le_bytes_at.ensures at c.in_err-write_whole.ensures in
    rw (words_spelled c.args.packed.now.lane_width c.args.width c.args.packed.now refl c.requires.fit, at_block bytes c.loop-block.block)
    (writes_front c.from_residual.result c.in_err-write_whole.field-0.0 (g.W.Write.contents c.args.writer.now.0) (g.W.Write.contents c.write_whole.new.writer.0) c.args.writer.now.1 c.write_whole.new.writer.1
    (take (128 * c.loop-block.block) bytes ++ slice_range bytes (128 * c.loop-block.block) (128 * c.loop-block.block + 128)) (drop (128 * (c.loop-block.block + 1)) bytes) (rw (← p.2) p.1)
    (writes_both (Err c.in_err-write_whole.field-0.0) (g.W.Write.contents c.args.writer.now.0) (g.W.Write.contents c.loop-block.writer.0) (g.W.Write.contents c.write_whole.new.writer.0) c.args.writer.now.1 c.loop-block.writer.1 c.write_whole.new.writer.1
    (take (128 * c.loop-block.block) bytes) (slice_range bytes (128 * c.loop-block.block) (128 * c.loop-block.block + 128)) c.loop-block.invariant.written c.loop-block.invariant.kept h))

pub loop-block-preserved : goal.loop-block-preserved
loop-block-preserved g c =
    let bytes = bytes_of c.args.packed.now in
    let h = rw c.le_bytes_at.ensures at c.in_ok-write_whole.ensures in
    record {
      written = rw (one_more_block bytes c.loop-block.block)
          (appends_both (g.W.Write.contents c.args.writer.now.0) (g.W.Write.contents c.loop-block.writer.0) (g.W.Write.contents c.write_whole.new.writer.0) (take (128 * c.loop-block.block) bytes) (slice_range bytes (128 * c.loop-block.block) (128 * c.loop-block.block + 128)) c.loop-block.invariant.written h.0);
      kept = h.1 ∙ c.loop-block.invariant.kept;
    }

pub returns : goal.returns
returns g c =
    let bytes = bytes_of c.args.packed.now in
    let long = length-bytes_of-packed c.args.packed.now c.args.width c.requires.lane_width c.requires.width in
    let whole : take (128 * c.loop-block.block) bytes ≡ bytes = take_all (128 * c.loop-block.block) bytes (omega (arith, long, c.loop-block-test.false)) in
    rw (words_spelled c.args.packed.now.lane_width c.args.width c.args.packed.now refl c.requires.fit) (rw whole at c.loop-block.invariant.written, c.loop-block.invariant.kept)
