-- The name is added, if the command relies on the part.
use Rattle.std.specs.Prelude.{map, string_bytes}
use Rattle.std.proofs.Common.{subst}
use Rattle.folder_model.specs.Disk.{Among}
use Rattle.folder_protocol.proofs.ReadLines.{among_new, among_pushed}
use Rattle.folder_commands.proofs.Relied.{relied_more, relied_same}
use Rattle.folder_commands.proofs.reliance.Reliance.with.Goals as goal

pub returns-then-not-branch-clause-relied : goal.returns-then-not-branch-clause-relied
returns-then-not-branch-clause-relied c =
    relied_same c.args.self.now (map string_bytes c.args.relied.items) (record { name = c.args.name.now; bytes = c.args.bytes.now }) (c.in_ok-is_on.ensures.none c.if-not-branch.true)

pub returns-clause-relied : goal.returns-clause-relied
returns-clause-relied c =
    relied_more c.args.self.now (map string_bytes c.args.relied.items) (map string_bytes c.push.new.self.items) (record { name = c.args.name.now; bytes = c.args.bytes.now })
    (among_pushed string_bytes c.args.relied.items c.push.new.self.items c.in_ok-from_str.field-0 c.in_ok-push.ensures.items)
    (subst (λ n. Among n (map string_bytes c.push.new.self.items)) c.in_ok-from_str.ensures.ok (among_new string_bytes c.args.relied.items c.push.new.self.items c.in_ok-from_str.field-0 c.in_ok-push.ensures.items))
