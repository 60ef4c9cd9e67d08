-- The name is one of them.
use Rattle.std.proofs.Common.{◌∙◌, sym, subst, ℕ, List, map}
use Rattle.std.specs.String.{string_bytes}
use Rattle.folder_model.specs.Disk.{Among}
use Rattle.folder_turns.proofs.NextCalls.{among_get}
use Rattle.folder_turns.proofs.ahead.removal_of.Goals as goal

pub returns-clause-among : goal.returns-clause-among
returns-clause-among c =
    subst (λ (n : List ℕ). Among n (map string_bytes c.args.names.now)) (sym (c.in_ok-name.ensures.text ∙ c.as_str.ensures.value))
    (among_get string_bytes c.args.names.now c.args.at c.in-Some.name.now c.in-Some.ensures.lookup.3.0 (sym c.in-Some.ensures.lookup.1))
