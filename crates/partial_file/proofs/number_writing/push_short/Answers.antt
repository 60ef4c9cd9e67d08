use Rattle.std.proofs.Common.{refl, ◌++◌, rules, FitsSigned}
use Rattle.std.specs.Int.{w64}
use Rattle.std.proofs.lemmas.Int.{to_z-of_z}
use Rattle.segment_core.specs.Format.{number, signed}
use Rattle.partial_file.proofs.Spelled.{both_put}
use Rattle.partial_file.proofs.number_writing.push_short.Goals as goal

pub returns : goal.returns
returns c =
    let fits : FitsSigned w64 c.args.value = search rules in
    both_put c.args.bytes.now.items c.push_number.new.bytes.items c.push_narrow.new.bytes.items ((number 1).spell 1) ((signed 64).spell c.args.value) ((number 1).spell 1 ++ (signed 64).spell c.args.value)
    c.in_ok-push_number.ensures.put (rw (to_z-of_z w64 c.args.value fits) at c.in_ok-push_narrow.ensures.put) refl
