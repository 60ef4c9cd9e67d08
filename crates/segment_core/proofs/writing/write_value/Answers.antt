use Rattle.std.proofs.Common.{◌≡◌, ◌∙◌, ◌/◌, List, ℕ, take, ap, subst, FitsSigned}
use Rattle.std.specs.Int.{w64}
use Rattle.std.proofs.lemmas.Int.{to_z-of_z}
use Rattle.bit_interleave.proofs.WrapLemmas.{fits_wide}
use Rattle.segment_core.specs.Format.{Writes, signed}
use Rattle.segment_core.proofs.NumberLaws.{low_bytes}
use Rattle.segment_core.proofs.writing.write_value.Goals as goal

pub returns : goal.returns
returns g c =
    let made : FitsSigned w64 c.args.value = fits_wide c.args.lane_width c.args.value c.requires.lane_width c.requires.fits in
    let whole = rw (to_z-of_z w64 c.args.value made) at c.to_le_bytes-bytes.ensures in
    let text : take (c.args.lane_width / 8) c.to_le_bytes-bytes.result ≡ (signed c.args.lane_width).spell c.args.value =
    ap (take (c.args.lane_width / 8)) whole ∙ low_bytes c.args.lane_width c.args.value c.requires.lane_width c.requires.fits in
    let P : List ℕ → Type 0 = λ bytes. Writes c.write_whole.result (g.W.Write.contents c.args.writer.now.0) (g.W.Write.contents c.write_whole.new.writer.0) c.args.writer.now.1 c.write_whole.new.writer.1 bytes in
    subst P text c.write_whole.ensures
