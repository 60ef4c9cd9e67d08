use Rattle.std.proofs.Common.{refl, subst, sym, map, List, Some, None}
use Rattle.std.specs.String.{string_bytes}
use Rattle.folder_model.specs.Call.{Call, Exclusive, Began}
use Rattle.folder_model.specs.Disk.{Among}
use Rattle.folder_protocol.specs.Causes.{Fails}
use Rattle.folder_protocol.proofs.Causing.{follows_none, follows_on, has_now, has_later, on_err}
use Rattle.folder_protocol.proofs.Lines.{starts, goes_on}
use Rattle.folder_protocol.proofs.Linking.{watched_now, lists_links}
use Rattle.folder_protocol.proofs.judging.is_judged.Goals as goal

pub returns-in_err-listed-clause-in_turn : goal.returns-in_err-listed-clause-in_turn
returns-in_err-listed-clause-in_turn g c = λ parts lock.
    goes_on parts _ _ _ _ (goes_on parts _ _ _ Began (starts parts _) refl (Exclusive, lock)) c.in_err-listed.ensures tt

pub returns-in_err-listed-clause-fails : goal.returns-in_err-listed-clause-fails
returns-in_err-listed-clause-fails g c =
    on_err c.from_residual.result (has_later Fails _ _ _ (follows_on _ _ _ Began (follows_none _) refl) (has_now Fails _ _ _ c.in_err-listed.ensures refl))

pub returns-clause-in_turn : goal.returns-clause-in_turn
returns-clause-in_turn g c = λ parts lock.
    goes_on parts _ _ _ _ (goes_on parts _ _ _ Began (starts parts _) refl (Exclusive, lock)) c.in_ok-listed.ensures tt

pub returns-in_err-listed-clause-follows : goal.returns-in_err-listed-clause-follows
returns-in_err-listed-clause-follows g c = follows_on _ _ _ _ (follows_on _ _ _ Began (follows_none _) refl) c.in_err-listed.ensures

pub returns-clause-follows : goal.returns-clause-follows
returns-clause-follows g c = follows_on _ _ _ _ (follows_on _ _ _ Began (follows_none _) refl) c.in_ok-listed.ensures

pub returns-in_err-listed-clause-links : goal.returns-in_err-listed-clause-links
returns-in_err-listed-clause-links g c = lists_links (λ (l : List Call). ⊥) None _ _ c.in_err-listed.ensures

pub returns-clause-links : goal.returns-clause-links
returns-clause-links g c = lists_links (λ (l : List Call). ⊥) (Some (map string_bytes c.in_ok-listed.listed.items)) _ _ c.in_ok-listed.ensures

pub returns-clause-watched : goal.returns-clause-watched
returns-clause-watched g c = λ lock yes.
    let names = map string_bytes c.in_ok-listed.listed.items in (
      names,
      watched_now names _ _ lock c.in_ok-listed.ensures,
      λ name among. c.wants_none.ensures.passing yes name (subst (λ l. Among name (map string_bytes l)) (sym c.as_slice.ensures.value) among),
    )

pub returns-clause-wanted : goal.returns-clause-wanted
returns-clause-wanted g c = λ lock no.
    let names = map string_bytes c.in_ok-listed.listed.items in
    let one = c.wants_none.ensures.wanting no in (
      names,
      watched_now names _ _ lock c.in_ok-listed.ensures,
      (one.0, subst (λ l. Among one.0 (map string_bytes l)) c.as_slice.ensures.value one.1, one.2),
    )
