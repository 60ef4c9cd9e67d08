use Rattle.std.proofs.Common.{◌∙◌, List, ℕ, sym, subst}
use Rattle.segment_core.specs.Format.{Writes}
use Rattle.segment_core.proofs.VectorLaws.{mask_spelled}
use Rattle.segment_core.proofs.writing.write_mask.Goals as goal

pub returns : goal.returns
returns g c =
    let P : List ℕ → Type 0 = λ bytes. Writes c.write_whole.result (g.W.Write.contents c.args.writer.now.0) (g.W.Write.contents c.write_whole.new.writer.0) c.args.writer.now.1 c.write_whole.new.writer.1 bytes in
    subst P (c.to_le_bytes.ensures ∙ sym (mask_spelled c.args.rows.now c.keeps_1024_rows.ensures)) c.write_whole.ensures
