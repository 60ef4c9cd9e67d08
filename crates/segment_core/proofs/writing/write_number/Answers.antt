use Rattle.std.proofs.Common.{◌≡◌, ◌∙◌, List, ℕ, take, sym, ap, subst}
use Rattle.std.proofs.lemmas.List.{take_at}
use Rattle.byteorder.specs.Endian.{little_bytes}
use Rattle.byteorder.specs.Numbers.{length-bytes_low_first}
use Rattle.segment_core.specs.Format.{Writes, number}
use Rattle.segment_core.proofs.NumberLaws.{number_spelled}
use Rattle.segment_core.proofs.writing.write_number.Goals as goal

pub returns : goal.returns
returns g c =
    let text : take c.args.size c.write_uint.new.buf ≡ (number c.args.size).spell c.args.value =
    ap (take c.args.size) c.write_uint.ensures ∙ take_at (little_bytes c.args.size c.args.value) _ c.args.size (length-bytes_low_first 0 c.args.size c.args.value) ∙ sym (number_spelled c.args.size c.args.value c.requires.fits) in
    let P : List ℕ → Type 0 = λ bytes. Writes c.write_whole.result (g.W.Write.contents c.args.writer.now.0) (g.W.Write.contents c.write_whole.new.writer.0) c.args.writer.now.1 c.write_whole.new.writer.1 bytes in
    subst P text c.write_whole.ensures
