-- What is decoded is the vector's values.
use Rattle.std.proofs.Common.{◌∙◌, ap}
use Rattle.segment_core.specs.Coded.{values_of}
use Rattle.segment_core.specs.CodedVector.{VectorForm}
use Rattle.segment_core.proofs.coded_vector.CodedVector.write_filled.Goals as goal

pub fill_decoded-requires : goal.fill_decoded-requires
fill_decoded-requires c = c.decode.ensures.values ∙ ap (λ (v : VectorForm). values_of v.coded) c.self.view_is
