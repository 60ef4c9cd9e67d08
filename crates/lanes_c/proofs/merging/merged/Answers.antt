-- What the merge wrote is what is given.
use Rattle.std.specs.Prelude.{ℕ, List, [], ◌∷◌, Option, Some}
use Rattle.std.specs.Global.{Vec}
use Rattle.std.proofs.Common.{ap, ◌∙◌, Bor}
use Rattle.lanes_c.specs.Rooms.{given_by}
use Rattle.lanes_c.proofs.Givings.{merged_given}
use Rattle.lanes_c.proofs.merging.merged.Goals as goal

pub returns : goal.returns
returns c =
    merged_given (given_by c.taken.result) c.merge-done.result c.args.one.now c.args.other.now _ _ c.taken.ensures
    (ap (λ (w : Vec ℕ × ℕ). w.0.items) c.new-writer.ensures ∙ c.new.ensures.items)
    (c.merge-done.ensures.made c.args.one.now (c.args.other.now ∷ [])
    (ap (λ (w : Bor (List ℕ) × ℕ). let bytes : Option (List ℕ) = Some w.0.now in bytes) c.new-2.ensures)
    (ap (λ (w : Bor (List ℕ) × ℕ). let all : List (Option (List ℕ)) = Some w.0.now ∷ [] in all) c.new-3.ensures))
