-- What a forget leaves of the parts covers them.
use Rattle.std.specs.Prelude.{ℕ, Option, map, string_bytes, option_map}
use Rattle.std.proofs.Common.{sym, ap, subst, ◌∙◌}
use Rattle.folder_protocol.proofs.Causing.{follows_none}
use Rattle.folder_protocol.proofs.Lines.{joins}
use Rattle.folder_protocol.proofs.TakeLines.{untaken_later}
use Rattle.replica_store.specs.declared.store.Store.{Store}
use Rattle.replica_changes.specs.Forgetting.{forgetting}
use Rattle.folder_parts.specs.Covers.{folder_parts}
use Rattle.folder_commands.specs.Joined.{IsReadAs}
use Rattle.folder_commands.specs.Replacing.{LeavesForgotten}
use Rattle.folder_commands.proofs.Commands.{follows, forget_covers, forgets_none, forgets_some, is_some, were_given, unwanted}
use Rattle.folder_commands.proofs.Temporaries.{no_temporary}
use Rattle.folder_commands.proofs.forgetting.forget.Goals as goal

pub returns-then-dropped-eq0-clause-forgot : goal.returns-then-dropped-eq0-clause-forgot
returns-then-dropped-eq0-clause-forgot g c =
    let left = c.in-Ok-left_of.ensures.left in
    let forgot = left.1 in
    let held = λ (o : Option Store). option_map (λ (s : Store). s.replica) o in
    forgets_none (map string_bytes c.args.passed.now) (map string_bytes c.in-Ok.read.names.items) (held c.in-Ok.read.held) c.in-Some.store.replica left.0 (c.in-Ok-left_of.both.0.batches, c.in-Ok-left_of.both.0.rows)
    (g.F.Folder.history c.args.folder.now) (g.F.Folder.history c.read_folder.new.folder) (ap held c.in-Some.is) c.in-Ok.ensures.read forgot c.if-dropped-eq0.true

pub returns-in-Ok-replace_read-clause-in_turn : goal.returns-in-Ok-replace_read-clause-in_turn
returns-in-Ok-replace_read-clause-in_turn g c = λ temp.
    let left = c.in-Ok-left_of.ensures.left in
    let forgot = left.1 in
    let written = left.2 (is_some c.in-Ok-left_of.both.0.batches c.if-dropped-eq0.false) in
    let held = λ (o : Option Store). option_map (λ (s : Store). s.replica) o in
    let passed = map string_bytes c.args.passed.now in
    let mid = g.F.Folder.history c.read_folder.new.folder in
    let read = subst (λ l. IsReadAs passed (map string_bytes l) (held c.in-Ok.read.held) mid) (sym c.as_slice.ensures.value) c.in-Ok.ensures.read in
    let covered = forget_covers passed (map string_bytes c.as_slice.result.now) (held c.in-Ok.read.held) c.in-Some.store.replica left.0 (c.in-Ok-left_of.both.0.batches, c.in-Ok-left_of.both.0.rows) c.as_slice-2.result.now mid
    (ap held c.in-Some.is) read forgot (c.as_slice-2.ensures.value ∙ written.0, written.1) in
    joins folder_parts _ _ _ c.read_folder.ensures.in_turn (c.replace_read.ensures.in_turn temp covered)

pub returns-in-Ok-replace_read-clause-forgot : goal.returns-in-Ok-replace_read-clause-forgot
returns-in-Ok-replace_read-clause-forgot g c =
    let left = c.in-Ok-left_of.ensures.left in
    let forgot = left.1 in
    let written = left.2 (is_some c.in-Ok-left_of.both.0.batches c.if-dropped-eq0.false) in
    let held = λ (o : Option Store). option_map (λ (s : Store). s.replica) o in
    let passed = map string_bytes c.args.passed.now in
    let dropped : ℕ × ℕ = (c.in-Ok-left_of.both.0.batches, c.in-Ok-left_of.both.0.rows) in
    let before = g.F.Folder.history c.args.folder.now in
    let mid = g.F.Folder.history c.read_folder.new.folder in
    let after = g.F.Folder.history c.replace_read.new.folder in
    let name = string_bytes c.in-Ok-replace_read.done.name in
    let gone = map string_bytes c.in-Ok-replace_read.done.gone.items in
    let read = subst (λ l. IsReadAs passed (map string_bytes l) (held c.in-Ok.read.held) mid) (sym c.as_slice.ensures.value) c.in-Ok.ensures.read in
    subst (λ l. LeavesForgotten passed (map string_bytes l) dropped name gone c.in-Ok-replace_read.done.outcome before after) c.as_slice.ensures.value
    (forgets_some passed (map string_bytes c.as_slice.result.now) (held c.in-Ok.read.held) c.in-Some.store.replica left.0 dropped c.as_slice-2.result.now name gone c.in-Ok-replace_read.done.outcome before mid after
    (ap held c.in-Some.is) read forgot (c.as_slice-2.ensures.value ∙ written.0, written.1) c.read_folder.ensures.in_turn c.read_folder.ensures.unlinked c.in-Ok-replace_read.ensures.replaces)

pub returns-clause-in_turn : goal.returns-clause-in_turn
returns-clause-in_turn g c = λ temp.
    let left = c.in-Ok-left_of.ensures.left in
    let forgot = left.1 in
    let written = left.2 (is_some c.in-Ok-left_of.both.0.batches c.if-dropped-eq0.false) in
    let held = λ (o : Option Store). option_map (λ (s : Store). s.replica) o in
    let passed = map string_bytes c.args.passed.now in
    let mid = g.F.Folder.history c.read_folder.new.folder in
    let read = subst (λ l. IsReadAs passed (map string_bytes l) (held c.in-Ok.read.held) mid) (sym c.as_slice.ensures.value) c.in-Ok.ensures.read in
    let covered = forget_covers passed (map string_bytes c.as_slice.result.now) (held c.in-Ok.read.held) c.in-Some.store.replica left.0 (c.in-Ok-left_of.both.0.batches, c.in-Ok-left_of.both.0.rows) c.as_slice-2.result.now mid
    (ap held c.in-Some.is) read forgot (c.as_slice-2.ensures.value ∙ written.0, written.1) in
    joins folder_parts _ _ _ c.read_folder.ensures.in_turn (c.replace_read.ensures.in_turn temp covered)

pub returns-in-None-clause-none : goal.returns-in-None-clause-none
returns-in-None-clause-none g c = λ none.
    let lists = c.read_folder.ensures.in_turn in
    let held = λ (o : Option Store). option_map (λ (s : Store). s.replica) o in
    let names = map string_bytes c.in-Ok.read.names.items in
    let mid = g.F.Folder.history c.read_folder.new.folder in (
      names,
      were_given names (g.F.Folder.history c.args.folder.now) mid mid (lists.0, lists.1) (follows_none mid) c.in-Ok.ensures.listed,
      unwanted (map string_bytes c.args.passed.now) names (held c.in-Ok.read.held) mid (ap held c.in-None.is) c.in-Ok.ensures.read,
    )

pub returns-in-Ok-replace_read-clause-listed : goal.returns-in-Ok-replace_read-clause-listed
returns-in-Ok-replace_read-clause-listed g c =
    let lists = c.read_folder.ensures.in_turn in
    let mid = g.F.Folder.history c.read_folder.new.folder in
    let after = g.F.Folder.history c.replace_read.new.folder in
    let done = c.in-Ok-replace_read.done in
    were_given (map string_bytes c.in-Ok.read.names.items) (g.F.Folder.history c.args.folder.now) mid after (lists.0, lists.1)
    (follows (map string_bytes c.args.passed.now) (map string_bytes c.as_slice.result.now) c.as_slice-2.result.now (string_bytes done.name) (map string_bytes done.gone.items) done.outcome mid after c.in-Ok-replace_read.ensures.replaces)
    c.in-Ok.ensures.listed

pub returns-clause-cause : goal.returns-clause-cause
returns-clause-cause g c =
    let lists = c.read_folder.ensures.in_turn in
    untaken_later c.in-Err-replace_read.fault _ _ _ (lists.0, lists.1) c.in-Err-replace_read.ensures.cause

pub returns-in-Ok-replace_read-clause-in_turn_named : goal.returns-in-Ok-replace_read-clause-in_turn_named
returns-in-Ok-replace_read-clause-in_turn_named g c = λ is. returns-in-Ok-replace_read-clause-in_turn g c (no_temporary c.args.temporary.now is)

pub returns-clause-in_turn_named : goal.returns-clause-in_turn_named
returns-clause-in_turn_named g c = λ is. returns-clause-in_turn g c (no_temporary c.args.temporary.now is)
