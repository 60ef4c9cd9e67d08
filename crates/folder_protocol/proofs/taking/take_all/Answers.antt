use Rattle.std.proofs.Common.{map, ap, sym, ◌∙◌}
use Rattle.std.specs.String.{string_bytes}
use Rattle.folder_model.specs.Turn.{Gave}
use Rattle.folder_protocol.proofs.Lines.{joins}
use Rattle.folder_protocol.proofs.TakeLines.{some_parts, found_taken, untaken_later}
use Rattle.folder_protocol.proofs.Linking.{plain_lock}
use Rattle.folder_protocol.proofs.taking.take_all.Goals as goal

pub returns-in-Ok-take_listed-clause-in_turn : goal.returns-in-Ok-take_listed-clause-in_turn
returns-in-Ok-take_listed-clause-in_turn g c = λ parts. joins parts _ _ _ (c.list_names.ensures.in_turn parts) (c.take_listed.ensures.in_turn parts)

pub returns-in-Ok-take_listed-clause-found : goal.returns-in-Ok-take_listed-clause-found
returns-in-Ok-take_listed-clause-found g c = λ parts is none.
    let T = g.T.Taker in
    found_taken parts (T.passes c.args.taker.now) (g.F.Folder.history c.take_listed.new.folder) (map string_bytes c.as_slice.result.now) (T.taken c.take_listed.new.taker)
    (c.in-Ok-take_listed.ensures.listing ∙ c.in-Ok.ensures.listed ∙ ap (λ l. Gave (map string_bytes l)) (sym c.as_slice.ensures.value))
    none (c.in-Ok-take_listed.ensures.taken parts is)

pub returns-in-Err-take_listed-clause-in_turn : goal.returns-in-Err-take_listed-clause-in_turn
returns-in-Err-take_listed-clause-in_turn g c = λ parts. joins parts _ _ _ (c.list_names.ensures.in_turn parts) (c.take_listed.ensures.in_turn parts)

pub returns-in-Err-take_listed-clause-cause : goal.returns-in-Err-take_listed-clause-cause
returns-in-Err-take_listed-clause-cause g c =
    let lists = c.list_names.ensures.in_turn some_parts in
    untaken_later c.in-Err-take_listed.fault _ _ _ (lists.0, lists.1) c.in-Err-take_listed.ensures.cause

pub returns-in-Ok-take_listed-clause-unlocked : goal.returns-in-Ok-take_listed-clause-unlocked
returns-in-Ok-take_listed-clause-unlocked g c = plain_lock _ _ c.take_listed.ensures.plain ∙ c.list_names.ensures.unlocked

pub returns-in-Err-take_listed-clause-unlocked : goal.returns-in-Err-take_listed-clause-unlocked
returns-in-Err-take_listed-clause-unlocked g c = plain_lock _ _ c.take_listed.ensures.plain ∙ c.list_names.ensures.unlocked
