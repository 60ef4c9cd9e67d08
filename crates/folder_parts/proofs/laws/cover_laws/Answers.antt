use Rattle.folder_parts.proofs.PartsCover.{cover_laws_hold}
use Rattle.folder_parts.proofs.laws.cover_laws.Goals as goal

pub returns : goal.returns
returns c = cover_laws_hold
