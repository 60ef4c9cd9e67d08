use Rattle.folder_parts.proofs.BroughtParts.{load_brought_alone, named_brought, deletes_brought_so, rows_brought_so, rows_are_more, offers_brought_so}
use Rattle.folder_parts.proofs.laws.parts_are_brought.Goals as goal

pub returns : goal.returns
returns c = record {
  load = load_brought_alone;
  named = named_brought;
  deletes = deletes_brought_so;
  rows = rows_brought_so;
  more = rows_are_more;
  offers = offers_brought_so;
}
