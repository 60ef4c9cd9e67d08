use Rattle.std.proofs.Common.{refl, subst, map, ℕ, List, Some, None}
use Rattle.std.specs.String.{string_bytes}
use Rattle.folder_model.specs.Call.{Call, Exclusive, Began}
use Rattle.folder_model.specs.Disk.{Among}
use Rattle.folder_protocol.specs.Causes.{Fails, Lacks}
use Rattle.folder_protocol.proofs.Causing.{follows_none, follows_on, has_now, has_later, on_err}
use Rattle.folder_protocol.proofs.Lines.{starts, goes_on}
use Rattle.folder_protocol.proofs.Removals.{lists_remove}
use Rattle.folder_protocol.proofs.Linking.{watched_now, lists_links}
use Rattle.folder_protocol.proofs.replacing.are_there.Goals as goal

pub returns-in_err-listed-clause-in_turn : goal.returns-in_err-listed-clause-in_turn
returns-in_err-listed-clause-in_turn g c = λ parts lock.
    goes_on parts _ _ _ _ (goes_on parts _ _ _ Began (starts parts _) refl (Exclusive, lock)) c.in_err-listed.ensures tt

pub returns-in_err-listed-clause-fails : goal.returns-in_err-listed-clause-fails
returns-in_err-listed-clause-fails g c =
    on_err c.from_residual.result (has_later Fails _ _ _ (follows_on _ _ _ Began (follows_none _) refl) (has_now Fails _ _ _ c.in_err-listed.ensures refl))

pub returns-clause-in_turn : goal.returns-clause-in_turn
returns-clause-in_turn g c = λ parts lock.
    goes_on parts _ _ _ _ (goes_on parts _ _ _ Began (starts parts _) refl (Exclusive, lock)) c.in_ok-listed.ensures tt

pub returns-in_err-listed-clause-follows : goal.returns-in_err-listed-clause-follows
returns-in_err-listed-clause-follows g c = follows_on _ _ _ _ (follows_on _ _ _ Began (follows_none _) refl) c.in_err-listed.ensures

pub returns-clause-follows : goal.returns-clause-follows
returns-clause-follows g c = follows_on _ _ _ _ (follows_on _ _ _ Began (follows_none _) refl) c.in_ok-listed.ensures

pub returns-clause-lacking : goal.returns-clause-lacking
returns-clause-lacking g c = λ no.
    let lacked = c.has_each.ensures.lacking no in
    has_later (Lacks (map string_bytes c.args.names.now)) _ _ _ (follows_on _ _ _ Began (follows_none _) refl)
    (has_now (Lacks (map string_bytes c.args.names.now)) _ _ _ c.in_ok-listed.ensures (lacked.0, lacked.1, subst (λ l. Among lacked.0 (map string_bytes l) → ⊥) c.as_slice.ensures.value lacked.2))

pub returns-in_err-listed-clause-links : goal.returns-in_err-listed-clause-links
returns-in_err-listed-clause-links g c = lists_links (λ (l : List Call). ⊥) None _ _ c.in_err-listed.ensures

pub returns-clause-links : goal.returns-clause-links
returns-clause-links g c = lists_links (λ (l : List Call). ⊥) (Some (map string_bytes c.in_ok-listed.listed.items)) _ _ c.in_ok-listed.ensures

pub returns-clause-watched : goal.returns-clause-watched
returns-clause-watched g c = λ lock yes.
    let names = map string_bytes c.in_ok-listed.listed.items in (
      names,
      watched_now names _ _ lock c.in_ok-listed.ensures,
      λ name among. subst (λ l. Among name (map string_bytes l)) c.as_slice.ensures.value (c.has_each.ensures.having yes name among),
    )

pub returns-clause-lacked : goal.returns-clause-lacked
returns-clause-lacked g c = λ lock no.
    let names = map string_bytes c.in_ok-listed.listed.items in
    let one = c.has_each.ensures.lacking no in (
      names,
      watched_now names _ _ lock c.in_ok-listed.ensures,
      (one.0, one.1, subst (λ l. Among one.0 (map string_bytes l) → ⊥) c.as_slice.ensures.value one.2),
    )

pub returns-in_err-listed-clause-unremoved : goal.returns-in_err-listed-clause-unremoved
returns-in_err-listed-clause-unremoved g c = lists_remove (λ (name : List ℕ). ⊥) None _ _ c.in_err-listed.ensures

pub returns-clause-unremoved : goal.returns-clause-unremoved
returns-clause-unremoved g c = lists_remove (λ (name : List ℕ). ⊥) (Some (map string_bytes c.in_ok-listed.listed.items)) _ _ c.in_ok-listed.ensures
