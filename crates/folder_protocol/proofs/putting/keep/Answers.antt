use Rattle.std.proofs.Common.{rules, refl, ◌≢◌, ℕ, List}
use Rattle.folder_protocol.specs.Causes.{Fails, FailsToSync, FindsNone, FindsOther}
use Rattle.folder_protocol.proofs.Causing.{follows_none, follows_on, has_now, has_later, on_err}
use Rattle.folder_protocol.proofs.ReadLines.{opened, unopened}
use Rattle.folder_protocol.proofs.Lines.{starts, goes_on, settles_on}
use Rattle.folder_protocol.proofs.Linking.{plain_none, plain_on}
use Rattle.folder_protocol.proofs.Removals.{removes_none, removes_on}
use Rattle.folder_protocol.proofs.putting.keep.Goals as goal

pub returns-in_err-found-clause-in_turn : goal.returns-in_err-found-clause-in_turn
returns-in_err-found-clause-in_turn g c = λ parts. goes_on parts _ _ _ _ (starts parts _) c.in_err-found.ensures tt

pub returns-in-None-clause-in_turn : goal.returns-in-None-clause-in_turn
returns-in-None-clause-in_turn g c = λ parts. goes_on parts _ _ _ _ (starts parts _) c.in_ok-found.ensures tt

pub returns-then-ne-clause-in_turn : goal.returns-then-ne-clause-in_turn
returns-then-ne-clause-in_turn g c = λ parts. goes_on parts _ _ _ _ (starts parts _) c.in_ok-found.ensures tt

pub returns-in-Ok-settle-clause-in_turn : goal.returns-in-Ok-settle-clause-in_turn
returns-in-Ok-settle-clause-in_turn g c = λ parts.
    let read = goes_on parts _ _ _ _ (starts parts _) c.in_ok-found.ensures tt in
    let synced = goes_on parts _ _ _ _ read c.sync.ensures tt in
    settles_on parts c.settle.result _ _ _ synced c.settle.ensures.noted c.settle.ensures.clean

pub returns-in-Ok-clause-in_turn : goal.returns-in-Ok-clause-in_turn
returns-in-Ok-clause-in_turn g c = λ parts.
    let read = goes_on parts _ _ _ _ (starts parts _) c.in_ok-found.ensures tt in
    let synced = goes_on parts _ _ _ _ read c.sync.ensures tt in
    settles_on parts c.settle.result _ _ _ synced c.settle.ensures.noted c.settle.ensures.clean

pub returns-clause-in_turn : goal.returns-clause-in_turn
returns-clause-in_turn g c = λ parts.
    let read = goes_on parts _ _ _ _ (starts parts _) c.in_ok-found.ensures tt in
    goes_on parts _ _ _ _ read c.sync.ensures tt

pub returns-in_err-found-clause-fails : goal.returns-in_err-found-clause-fails
returns-in_err-found-clause-fails g c = on_err c.from_residual.result (has_now Fails _ _ _ c.in_err-found.ensures refl)

pub returns-in-None-clause-cause : goal.returns-in-None-clause-cause
returns-in-None-clause-cause g c = has_now (FindsNone c.args.name.now) _ _ _ (unopened _ c.in_ok-found.field-0 c.args.name.now _ _ c.in_ok-found.ensures c.in-None.is) (refl, refl)

pub returns-then-ne-clause-cause : goal.returns-then-ne-clause-cause
returns-then-ne-clause-cause g c =
    let other : c.in-Some.found.items ≢ c.args.bytes.now = search rules in
    has_now (FindsOther c.args.name.now c.args.bytes.now) _ _ _ (opened _ c.in_ok-found.field-0 c.in-Some.found c.args.name.now _ _ c.in_ok-found.ensures c.in-Some.is) (refl, c.in-Some.found.items, refl, other)

pub returns-in-Ok-clause-cause : goal.returns-in-Ok-clause-cause
returns-in-Ok-clause-cause g c =
    has_later FailsToSync _ _ _ (follows_on _ _ _ _ (follows_on _ _ _ _ (follows_none _) c.in_ok-found.ensures) c.sync.ensures) (has_now FailsToSync _ _ _ c.in-Err-settle.ensures.noted refl)

pub returns-clause-cause : goal.returns-clause-cause
returns-clause-cause g c = has_later FailsToSync _ _ _ (follows_on _ _ _ _ (follows_none _) c.in_ok-found.ensures) (has_now FailsToSync _ _ _ c.in-Err.ensures refl)

pub returns-in_err-found-clause-plain : goal.returns-in_err-found-clause-plain
returns-in_err-found-clause-plain g c = plain_on _ _ _ _ (plain_none _) c.in_err-found.ensures tt

pub returns-in-None-clause-plain : goal.returns-in-None-clause-plain
returns-in-None-clause-plain g c = plain_on _ _ _ _ (plain_none _) c.in_ok-found.ensures tt

pub returns-then-ne-clause-plain : goal.returns-then-ne-clause-plain
returns-then-ne-clause-plain g c = plain_on _ _ _ _ (plain_none _) c.in_ok-found.ensures tt

pub returns-in-Ok-settle-clause-plain : goal.returns-in-Ok-settle-clause-plain
returns-in-Ok-settle-clause-plain g c = plain_on _ _ _ _ (plain_on _ _ _ _ (plain_on _ _ _ _ (plain_none _) c.in_ok-found.ensures tt) c.sync.ensures tt) c.settle.ensures.noted tt

pub returns-in-Ok-clause-plain : goal.returns-in-Ok-clause-plain
returns-in-Ok-clause-plain g c = plain_on _ _ _ _ (plain_on _ _ _ _ (plain_on _ _ _ _ (plain_none _) c.in_ok-found.ensures tt) c.sync.ensures tt) c.settle.ensures.noted tt

pub returns-clause-plain : goal.returns-clause-plain
returns-clause-plain g c = plain_on _ _ _ _ (plain_on _ _ _ _ (plain_none _) c.in_ok-found.ensures tt) c.sync.ensures tt

pub returns-in_err-found-clause-unremoved : goal.returns-in_err-found-clause-unremoved
returns-in_err-found-clause-unremoved g c = let P = λ (name : List ℕ). ⊥ in removes_on P _ _ _ _ (removes_none P _) c.in_err-found.ensures tt

pub returns-in-None-clause-unremoved : goal.returns-in-None-clause-unremoved
returns-in-None-clause-unremoved g c = let P = λ (name : List ℕ). ⊥ in removes_on P _ _ _ _ (removes_none P _) c.in_ok-found.ensures tt

pub returns-then-ne-clause-unremoved : goal.returns-then-ne-clause-unremoved
returns-then-ne-clause-unremoved g c = let P = λ (name : List ℕ). ⊥ in removes_on P _ _ _ _ (removes_none P _) c.in_ok-found.ensures tt

pub returns-in-Ok-settle-clause-unremoved : goal.returns-in-Ok-settle-clause-unremoved
returns-in-Ok-settle-clause-unremoved g c =
    let P = λ (name : List ℕ). ⊥ in
    removes_on P _ _ _ _ (removes_on P _ _ _ _ (removes_on P _ _ _ _ (removes_none P _) c.in_ok-found.ensures tt) c.sync.ensures tt) c.settle.ensures.noted tt

pub returns-in-Ok-clause-unremoved : goal.returns-in-Ok-clause-unremoved
returns-in-Ok-clause-unremoved g c =
    let P = λ (name : List ℕ). ⊥ in
    removes_on P _ _ _ _ (removes_on P _ _ _ _ (removes_on P _ _ _ _ (removes_none P _) c.in_ok-found.ensures tt) c.sync.ensures tt) c.settle.ensures.noted tt

pub returns-clause-unremoved : goal.returns-clause-unremoved
returns-clause-unremoved g c = let P = λ (name : List ℕ). ⊥ in removes_on P _ _ _ _ (removes_on P _ _ _ _ (removes_none P _) c.in_ok-found.ensures tt) c.sync.ensures tt
