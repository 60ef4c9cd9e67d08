use Rattle.std.proofs.Common.{refl, ℕ, List}
use Rattle.folder_protocol.specs.Causes.{Fails}
use Rattle.folder_protocol.proofs.Causing.{follows_none, follows_on, has_now, has_later, on_err, sync_fails, parts_without, no_part_of}
use Rattle.folder_protocol.proofs.Lines.{starts, goes_on, joins, stage_on, ends_ready}
use Rattle.folder_protocol.proofs.Linking.{plain_none, plain_on, plain_more}
use Rattle.folder_protocol.proofs.Removals.{removes_none, removes_on, removes_more}
use Rattle.folder_protocol.proofs.putting.write_new.Goals as goal

pub returns-in_err-make-clause-in_turn : goal.returns-in_err-make-clause-in_turn
returns-in_err-make-clause-in_turn g c = λ parts temp. goes_on parts _ _ _ _ (starts parts _) c.in_err-make.ensures temp

pub returns-in_err-write_all-clause-in_turn : goal.returns-in_err-write_all-clause-in_turn
returns-in_err-write_all-clause-in_turn g c = λ parts temp.
    let made = goes_on parts _ _ _ _ (starts parts _) c.in_ok-make.ensures temp in
    joins parts _ _ _ made (c.in_err-write_all.ensures.in_turn parts c.args.temporary.now (stage_on parts _ _ _ c.in_ok-make.ensures))

pub returns-clause-in_turn : goal.returns-clause-in_turn
returns-clause-in_turn g c = λ parts temp.
    let made = goes_on parts _ _ _ _ (starts parts _) c.in_ok-make.ensures temp in
    let wrote = joins parts _ _ _ made (c.in_ok-write_all.ensures.in_turn parts c.args.temporary.now (stage_on parts _ _ _ c.in_ok-make.ensures)) in
    goes_on parts _ _ _ _ wrote c.sync.ensures tt

pub returns-clause-ready : goal.returns-clause-ready
returns-clause-ready g c = λ parts.
    ends_ready parts c.args.temporary.now c.args.bytes.now c.sync.result _ _ (c.in_ok-write_all.ensures.filled parts c.args.temporary.now (stage_on parts _ _ _ c.in_ok-make.ensures)) c.sync.ensures

pub returns-in_err-make-clause-fails : goal.returns-in_err-make-clause-fails
returns-in_err-make-clause-fails g c = on_err c.from_residual.result (has_now Fails _ _ _ c.in_err-make.ensures refl)

pub returns-in_err-write_all-clause-fails : goal.returns-in_err-write_all-clause-fails
returns-in_err-write_all-clause-fails g c =
    on_err c.from_residual-in_err-write_all.result (has_later Fails _ _ _ (follows_on _ _ _ _ (follows_none _) c.in_ok-make.ensures) c.in_err-write_all.ensures.fails)

pub returns-clause-fails : goal.returns-clause-fails
returns-clause-fails g c =
    let parts = parts_without c.args.temporary.now in
    let made = goes_on parts _ _ _ _ (starts parts _) c.in_ok-make.ensures (no_part_of c.args.temporary.now) in
    let wrote = joins parts _ _ _ made (c.in_ok-write_all.ensures.in_turn parts c.args.temporary.now (stage_on parts _ _ _ c.in_ok-make.ensures)) in
    sync_fails c.sync.result _ _ _ (wrote.0, wrote.1) c.sync.ensures

pub returns-in_err-make-clause-plain : goal.returns-in_err-make-clause-plain
returns-in_err-make-clause-plain g c = plain_on _ _ _ _ (plain_none _) c.in_err-make.ensures tt

pub returns-in_err-write_all-clause-plain : goal.returns-in_err-write_all-clause-plain
returns-in_err-write_all-clause-plain g c = plain_more _ _ _ (plain_on _ _ _ _ (plain_none _) c.in_ok-make.ensures tt) c.in_err-write_all.ensures.plain

pub returns-clause-plain : goal.returns-clause-plain
returns-clause-plain g c = plain_on _ _ _ _ (plain_more _ _ _ (plain_on _ _ _ _ (plain_none _) c.in_ok-make.ensures tt) c.in_ok-write_all.ensures.plain) c.sync.ensures tt

pub returns-in_err-make-clause-unremoved : goal.returns-in_err-make-clause-unremoved
returns-in_err-make-clause-unremoved g c = let P = λ (name : List ℕ). ⊥ in removes_on P _ _ _ _ (removes_none P _) c.in_err-make.ensures tt

pub returns-in_err-write_all-clause-unremoved : goal.returns-in_err-write_all-clause-unremoved
returns-in_err-write_all-clause-unremoved g c = let P = λ (name : List ℕ). ⊥ in removes_more P _ _ _ (removes_on P _ _ _ _ (removes_none P _) c.in_ok-make.ensures tt) c.in_err-write_all.ensures.unremoved

pub returns-clause-unremoved : goal.returns-clause-unremoved
returns-clause-unremoved g c =
    let P = λ (name : List ℕ). ⊥ in
    removes_on P _ _ _ _ (removes_more P _ _ _ (removes_on P _ _ _ _ (removes_none P _) c.in_ok-make.ensures tt) c.in_ok-write_all.ensures.unremoved) c.sync.ensures tt
