use Rattle.folder_protocol.proofs.Temporaries.{is_by_digits, is_none}
use Rattle.std.proofs.Common.{◌∙◌}
use Rattle.folder_protocol.proofs.temporary.is_temporary.Goals as goal

pub returns-in-Some : goal.returns-in-Some
returns-in-Some c =
    c.are_digits.ensures
    ∙ is_by_digits c.args.name.now c.as_bytes.result.now c.as_bytes-2.result.now c.in-Some.digits.now c.as_bytes.ensures.value c.as_bytes-2.ensures.value c.in-Some.ensures.cases.0 c.in-Some.ensures.cases.1

pub returns-in-None : goal.returns-in-None
returns-in-None c = is_none c.args.name.now c.as_bytes.result.now c.as_bytes-2.result.now c.as_bytes.ensures.value c.as_bytes-2.ensures.value c.in-None.ensures.cases
