use Rattle.std.proofs.Common.{rules, ◌≡◌, List, ℕ, ◌∷◌, Option, Some, None, inl, inr, refl, ◌∙◌, ap, ⊎_elim}
use Rattle.std.specs.Global.{Vec}
use Rattle.std.specs.Option.{option_map}
use Rattle.file_protocol.specs.Event.{Event, Read}
use Rattle.file_commands.proofs.CrashProofs.{read_then_left}
use Rattle.file_commands.proofs.Whys.{read_first, read_then_gives}
use Rattle.file_commands.proofs.under_lock.read_file.Goals as goal

pub returns-in-Ok-Some-clause-read : goal.returns-in-Ok-Some-clause-read
returns-in-Ok-Some-clause-read g c =
    let is : c.in-Ok-Some.field-0 ≡ Some c.in-Ok-Some.bytes = search rules in
    c.in-Ok-Some.ensures ∙ ap (λ (o : Option (Vec ℕ)). Read c.name.result.now (Some (option_map (λ v. v.items) o)) ∷ g.F.FileFolder.history c.args.folder.now) is ∙ ap (λ (n : List ℕ). Read n (Some (Some c.in-Ok-Some.bytes.items)) ∷ g.F.FileFolder.history c.args.folder.now) c.name.ensures

pub returns-in-Ok-None-clause-left : goal.returns-in-Ok-None-clause-left
returns-in-Ok-None-clause-left g c = read_then_left _ _ _ _ _ _ c.in-Ok-None.ensures c.leave.ensures.locks

pub returns-in-Err-clause-left : goal.returns-in-Err-clause-left
returns-in-Err-clause-left g c = read_then_left _ _ _ _ _ _ c.in-Err.ensures c.leave-in-Err.ensures.locks

pub returns-in-Ok-None-clause-own : goal.returns-in-Ok-None-clause-own
returns-in-Ok-None-clause-own g c = read_then_gives _ _ _ _ _ _ c.in-Ok-None.ensures c.leave.ensures.own

pub returns-in-Err-clause-own : goal.returns-in-Err-clause-own
returns-in-Err-clause-own g c = read_then_gives _ _ _ _ _ _ c.in-Err.ensures c.leave-in-Err.ensures.own

pub returns-in-Ok-None-clause-why : goal.returns-in-Ok-None-clause-why
returns-in-Ok-None-clause-why g c =
    let is : c.in-Ok-None.field-0 ≡ None = search rules in
    let read = c.in-Ok-None.ensures ∙ ap (λ (o : Option (Vec ℕ)). Read c.name.result.now (Some (option_map (λ v. v.items) o)) ∷ g.F.FileFolder.history c.args.folder.now) is ∙ ap (λ (n : List ℕ). Read n (Some None) ∷ g.F.FileFolder.history c.args.folder.now) c.name.ensures in
    inr (refl, inr (read_first _ _ _ _ (Some None) _ read c.leave.ensures.locks.1))

pub returns-in-Err-clause-why : goal.returns-in-Err-clause-why
returns-in-Err-clause-why g c =
    let read = c.in-Err.ensures ∙ ap (λ (n : List ℕ). Read n None ∷ g.F.FileFolder.history c.args.folder.now) c.name.ensures in
    let first = read_first _ _ _ _ None _ read c.leave-in-Err.ensures.locks.1 in
    ⊎_elim (λ memory. inl memory) (λ fault. inr (fault, inl first)) c.refusal_of_read.ensures
