use Rattle.folder_protocol.specs.Causes.{Fails}
use Rattle.folder_protocol.proofs.Causing.{has_now, has_later, on_err}
use Rattle.folder_protocol.proofs.Lines.{joins, all_joined_later, removed_between, settles_on}
use Rattle.folder_model.specs.Parts.{Parts}
use Rattle.folder_model.specs.Call.{Call, Settled, lock_of}
use Rattle.std.proofs.Common.{refl, ap, ◌∙◌, List, [], ◌∷◌, true, map}
use Rattle.std.specs.String.{string_bytes}
use Rattle.folder_model.specs.Turn.{stage_of}
use Rattle.folder_protocol.proofs.Linking.{plain_on, plain_more, settled_guarded}
use Rattle.folder_protocol.proofs.Removals.{once_never, once_on, once_more}
use Rattle.folder_protocol.specs.Removing.{IsReplaced}
use Rattle.folder_protocol.proofs.removing.look_and_remove.Goals as goal

pub returns-in_err-remove_each-in-OnDisk-clause-in_turn : goal.returns-in_err-remove_each-in-OnDisk-clause-in_turn
returns-in_err-remove_each-in-OnDisk-clause-in_turn g c = λ parts lock may.
    let kept = c.keep.ensures.in_turn parts in
    joins parts _ _ _ kept (c.remove_each.ensures.in_turn parts c.args.bytes.now (c.in_ok-other.ensures.guarded parts may.0 lock c.in-OnDisk.is) (all_joined_later parts _ _ _ _ kept may.1))

pub returns-in_err-settle-in-OnDisk-clause-in_turn : goal.returns-in_err-settle-in-OnDisk-clause-in_turn
returns-in_err-settle-in-OnDisk-clause-in_turn g c = λ parts lock may.
    let kept = c.keep.ensures.in_turn parts in
    let removed = joins parts _ _ _ kept (c.remove_each.ensures.in_turn parts c.args.bytes.now (c.in_ok-other.ensures.guarded parts may.0 lock c.in-OnDisk.is) (all_joined_later parts _ _ _ _ kept may.1)) in
    settles_on parts c.settle.result _ _ _ removed c.settle.ensures.noted c.settle.ensures.clean

pub returns-in_ok-settle-in-OnDisk-clause-in_turn : goal.returns-in_ok-settle-in-OnDisk-clause-in_turn
returns-in_ok-settle-in-OnDisk-clause-in_turn g c = λ parts lock may.
    let kept = c.keep.ensures.in_turn parts in
    let removed = joins parts _ _ _ kept (c.remove_each.ensures.in_turn parts c.args.bytes.now (c.in_ok-other.ensures.guarded parts may.0 lock c.in-OnDisk.is) (all_joined_later parts _ _ _ _ kept may.1)) in
    settles_on parts c.settle.result _ _ _ removed c.settle.ensures.noted c.settle.ensures.clean

-- any: which calls were made is the same for all
some_parts : Parts
some_parts = record { name_of = λ b. b; covers = λ b a. true }

pub returns-in_ok-settle-in-OnDisk-clause-gone : goal.returns-in_ok-settle-in-OnDisk-clause-gone
returns-in_ok-settle-in-OnDisk-clause-gone g c = λ _.
    let kept = c.keep.ensures.in_turn some_parts in
    removed_between (map string_bytes c.args.joined.now) _ _ _ _ kept.0 (Settled true ∷ []) kept.1 c.in_ok-remove_each-in-OnDisk.ensures.gone c.in_ok-settle-in-OnDisk.ensures.noted

pub returns-in_err-other-clause-fails : goal.returns-in_err-other-clause-fails
returns-in_err-other-clause-fails g c = on_err c.from_residual.result c.in_err-other.ensures.fails

pub returns-in_err-remove_each-in-OnDisk-clause-fails : goal.returns-in_err-remove_each-in-OnDisk-clause-fails
returns-in_err-remove_each-in-OnDisk-clause-fails g c =
    let kept = c.keep.ensures.in_turn some_parts in
    on_err _ (has_later Fails _ _ _ (kept.0, kept.1) c.in_err-remove_each-in-OnDisk.ensures.fails)

pub returns-in_err-settle-in-OnDisk-clause-fails : goal.returns-in_err-settle-in-OnDisk-clause-fails
returns-in_err-settle-in-OnDisk-clause-fails g c =
    let kept = c.keep.ensures.in_turn some_parts in
    let removed = c.in_ok-remove_each-in-OnDisk.ensures.gone in
    on_err _ (has_later Fails _ _ _ (kept.0, kept.1) (has_later Fails _ _ _ (removed.0, removed.1) (has_now Fails _ _ _ c.in_err-settle-in-OnDisk.ensures.noted refl)))

pub returns-in_ok-settle-in-OnDisk-clause-guarded : goal.returns-in_ok-settle-in-OnDisk-clause-guarded
returns-in_ok-settle-in-OnDisk-clause-guarded g c = λ parts named lock _.
    let guarded = c.remove_each.ensures.stays parts ∙ c.in_ok-other.ensures.guarded parts named lock c.in-OnDisk.is in
    ap (λ (l : List Call). stage_of parts l) c.in_ok-settle-in-OnDisk.ensures.noted ∙ settled_guarded (lock_of (g.F.Folder.history c.remove_each.new.folder)) c.args.bytes.now (stage_of parts (g.F.Folder.history c.remove_each.new.folder)) guarded

pub returns-in_err-other-clause-plain : goal.returns-in_err-other-clause-plain
returns-in_err-other-clause-plain g c = c.keep.ensures.plain

pub returns-in_err-remove_each-in-OnDisk-clause-plain : goal.returns-in_err-remove_each-in-OnDisk-clause-plain
returns-in_err-remove_each-in-OnDisk-clause-plain g c = plain_more _ _ _ c.keep.ensures.plain c.remove_each.ensures.plain

pub returns-in_err-settle-in-OnDisk-clause-plain : goal.returns-in_err-settle-in-OnDisk-clause-plain
returns-in_err-settle-in-OnDisk-clause-plain g c = plain_on _ _ _ _ (plain_more _ _ _ c.keep.ensures.plain c.remove_each.ensures.plain) c.settle.ensures.noted tt

pub returns-in_ok-settle-in-OnDisk-clause-plain : goal.returns-in_ok-settle-in-OnDisk-clause-plain
returns-in_ok-settle-in-OnDisk-clause-plain g c = plain_on _ _ _ _ (plain_more _ _ _ c.keep.ensures.plain c.remove_each.ensures.plain) c.settle.ensures.noted tt

pub returns-in_err-other-clause-removes : goal.returns-in_err-other-clause-removes
returns-in_err-other-clause-removes g c = λ parts named lock. once_never (IsReplaced parts c.args.bytes.now (map string_bytes c.args.joined.now)) _ _ c.keep.ensures.unremoved

pub returns-in_err-remove_each-in-OnDisk-clause-removes : goal.returns-in_err-remove_each-in-OnDisk-clause-removes
returns-in_err-remove_each-in-OnDisk-clause-removes g c = λ parts named lock.
    let P = IsReplaced parts c.args.bytes.now (map string_bytes c.args.joined.now) in
    once_more P _ _ _ (once_never P _ _ c.keep.ensures.unremoved) (c.remove_each.ensures.removes parts c.args.bytes.now (c.in_ok-other.ensures.guarded parts named lock c.in-OnDisk.is))

pub returns-in_err-settle-in-OnDisk-clause-removes : goal.returns-in_err-settle-in-OnDisk-clause-removes
returns-in_err-settle-in-OnDisk-clause-removes g c = λ parts named lock.
    let P = IsReplaced parts c.args.bytes.now (map string_bytes c.args.joined.now) in
    once_on P _ _ _ _ (once_more P _ _ _ (once_never P _ _ c.keep.ensures.unremoved) (c.remove_each.ensures.removes parts c.args.bytes.now (c.in_ok-other.ensures.guarded parts named lock c.in-OnDisk.is))) c.settle.ensures.noted tt

pub returns-in_ok-settle-in-OnDisk-clause-removes : goal.returns-in_ok-settle-in-OnDisk-clause-removes
returns-in_ok-settle-in-OnDisk-clause-removes g c = λ parts named lock.
    let P = IsReplaced parts c.args.bytes.now (map string_bytes c.args.joined.now) in
    once_on P _ _ _ _ (once_more P _ _ _ (once_never P _ _ c.keep.ensures.unremoved) (c.remove_each.ensures.removes parts c.args.bytes.now (c.in_ok-other.ensures.guarded parts named lock c.in-OnDisk.is))) c.settle.ensures.noted tt

pub returns-in_default-clause-removes : goal.returns-in_default-clause-removes
returns-in_default-clause-removes g c = λ parts named lock. once_never (IsReplaced parts c.args.bytes.now (map string_bytes c.args.joined.now)) _ _ c.keep.ensures.unremoved
