use Rattle.std.proofs.Common.{◌≡◌, ◌∙◌, ◌++◌, ◌∷◌, [], ℕ, ◌<◌, ◌≤◌, ◌⊎◌, List, length, map, get_or, ap, sym, arith}
use Rattle.std.specs.String.{string_bytes}
use Rattle.std.proofs.lemmas.Grind.{common_steps}
use Rattle.std.proofs.lemmas.List.{get_or-map}
use Rattle.table_model.specs.declared.answer.Field.TheVariants.{Null}
use Rattle.answer_formats.specs.Formats.{separated, json_member, json_members}
use Rattle.answer_formats.proofs.TextFormats.{next_written, members_below, member_at, members_end}
use Rattle.answer_formats.proofs.json_text.write_members.Goals as goal

pub loop-index-preserved : goal.loop-index-preserved
loop-index-preserved c =
    let headings : List (List ℕ) = map string_bytes c.args.headings.now in
    let below : c.loop-index.index < length headings = grind (arith, common_steps) in
    let inside : c.loop-index.index < length c.args.fields.now = grind (arith, common_steps) in
    let key : c.as_str.result.now ≡ get_or headings c.loop-index.index [] = grind (arith, common_steps) in
    next_written (44 ∷ []) (json_members headings c.args.fields.now) c.loop-index.index c.args.out.now.items c.loop-index.out.items c.separate.new.out.items c.write_member.new.out.items
    (json_member c.as_str.result.now (get_or c.args.fields.now c.loop-index.index Null))
    (members_below headings c.args.fields.now c.loop-index.index below inside)
    (ap (λ (text : List ℕ). json_member text (get_or c.args.fields.now c.loop-index.index Null)) key ∙ member_at headings c.args.fields.now c.loop-index.index [] Null below inside)
    c.loop-index.invariant c.in_ok-separate.ensures c.in_ok-write_member.ensures

pub returns : goal.returns
returns c =
    let headings : List (List ℕ) = map string_bytes c.args.headings.now in
    let end : (length headings ≤ c.loop-index.index) ⊎ (length c.args.fields.now ≤ c.loop-index.index) = grind (arith, common_steps) in
    c.loop-index.invariant ∙ ap (λ (texts : List (List ℕ)). c.args.out.now.items ++ separated (44 ∷ []) texts) (members_end headings c.args.fields.now c.loop-index.index end)
