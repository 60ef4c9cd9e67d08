-- A name is among those that strings have.
use Rattle.std.proofs.Common.{◌≡◌, ◌∙◌, sym, true, not, ◌&&◌, List, ℕ, string_bytes}
use Rattle.table_model.specs.Identifier.{same_text}
use Rattle.table_model.proofs.Texts.{list_any-map}
use Rattle.folder_parts.specs.PartName.{is_part_name}
use Rattle.folder_commands.specs.Wanted.{is_wanted}
use Rattle.folder_commands.proofs.wanted.is_wanted.Goals as goal

pub returns-then-is_part_name : goal.returns-then-is_part_name
unfolding is_wanted
returns-then-is_part_name c =
    let named : true ≡ is_part_name c.args.name.now = sym c.if-is_part_name.true ∙ c.is_part_name.ensures in
    let among = c.is_among.ensures ∙ sym (list_any-map (λ (other : List ℕ). same_text other c.args.name.now) string_bytes c.args.passed.now) in λ i. named i && not (among i)
