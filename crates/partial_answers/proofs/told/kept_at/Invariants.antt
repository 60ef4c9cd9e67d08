use Rattle.std.proofs.Common.{◌≡◌, ℕ, ◌<◌, length, map, take, get_or}
use Rattle.std.specs.Global.{Vec}
use Rattle.query_eval.specs.declared.tallies.tally.Tally.{Tally as Running}
use Rattle.partial_answers.specs.Evaluated.{told_at}
use Rattle.partial_answers.specs.Kept.{tallies_in}
use Rattle.partial_answers.specs.Kinds.{kinds_at}
use Rattle.partial_answers.specs.Refusing.{kept_kind}
use Rattle.partial_answers.proofs.told.kept_at.Given as goal

abbrev pub invariant-loop-column : goal.invariant-loop-column
invariant-loop-column l = record {
  value : (t : Running) → ((i : ℕ) (c : Vec Running) → i < length l.tallies → l.place < length (get_or l.tallies i c).items) → tallies_in l.all.items ≡ told_at (take l.column-index l.tallies) t l.place;
  kinds : (t : Running) → ((i : ℕ) (c : Vec Running) → i < length l.tallies → l.place < length (get_or l.tallies i c).items) → map kept_kind l.all.items ≡ kinds_at (take l.column-index l.tallies) t l.place;
}
