use Rattle.std.proofs.Common.{length, map, [], ◌++◌, ◌≡◌, ◌∙◌, sym, ap, subst, true, ℕ}
use Rattle.std.specs.List.{flat_map}
use Rattle.segment_core.specs.Format.{number}
use Rattle.std.proofs.lemmas.List.{length-map}
use Rattle.partial_file.specs.PartialAnswerBytes.{entry_of, group, groups}
use Rattle.partial_file.proofs.Spelled.{both_put, groups_spelled}
use Rattle.partial_file.proofs.Written.{groups_valid}
use Rattle.partial_file.proofs.group_writing.push_groups.Goals as goal

pub returns-clause-put : goal.returns-clause-put
returns-clause-put c =
    let gs = map entry_of c.args.all.now.entries in
    let count : c.len.result ≡ length gs = c.len.ensures.len ∙ sym (length-map c.args.all.now.entries entry_of) in
    both_put c.args.bytes.now.items c.push_number.new.bytes.items c.push_group_list.new.bytes.items ((number 8).spell (length gs)) (flat_map (group []).spell gs) (groups.spell gs)
    (c.in_ok-push_number.ensures.put ∙ ap (λ (n : ℕ). c.args.bytes.now.items ++ (number 8).spell n) count) c.in_ok-push_group_list.ensures.put (groups_spelled gs)

pub returns-clause-valid : goal.returns-clause-valid
returns-clause-valid c =
    let gs = map entry_of c.args.all.now.entries in
    let count : c.len.result ≡ length gs = c.len.ensures.len ∙ sym (length-map c.args.all.now.entries entry_of) in
    groups_valid c.args.all.now.entries (subst (λ (n : ℕ). (number 8).valid n ≡ true) count c.in_ok-push_number.ensures.valid) c.len.ensures.ordered c.in_ok-push_group_list.ensures.valid
