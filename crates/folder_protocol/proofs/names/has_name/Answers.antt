use Rattle.std.proofs.Common.{ℕ, List, map, sym, ◌∙◌, subst}
use Rattle.std.specs.Str.{bytes_eq}
use Rattle.std.specs.String.{string_bytes}
use Rattle.std.proofs.lemmas.Slice.Eq.{bytes_eq-Decides}
use Rattle.folder_model.specs.Disk.{Among}
use Rattle.folder_protocol.proofs.Causing.{none_found}
use Rattle.folder_protocol.proofs.Linking.{some_found}
use Rattle.folder_protocol.proofs.Lines.{among_map}
use Rattle.folder_protocol.proofs.names.has_name.Goals as goal

pub returns-in-Ok-clause-having : goal.returns-in-Ok-clause-having
returns-in-Ok-clause-having c = λ _.
    subst (λ (n : List ℕ). Among n (map string_bytes c.args.listed.now)) (sym c.as_str.ensures.value ∙ (bytes_eq-Decides _ _).0 (sym c.eq.ensures ∙ c.if-eq.true))
    (among_map string_bytes c.args.listed.now c.in-Ok.at c.index-listed-at.result c.in-Ok.ensures.bound (sym c.index-listed-at.is))

pub returns-in_default-clause-lacking : goal.returns-in_default-clause-lacking
returns-in_default-clause-lacking c = λ no.
    none_found string_bytes (λ other. bytes_eq (string_bytes other) c.args.name.now) c.args.name.now (λ other is. (bytes_eq-Decides _ _).1 is) c.args.listed.now (sym c.is_any.ensures ∙ no)

pub returns-in_default-clause-having : goal.returns-in_default-clause-having
returns-in_default-clause-having c = λ yes.
    some_found string_bytes (λ other. bytes_eq (string_bytes other) c.args.name.now) c.args.name.now (λ other is. (bytes_eq-Decides _ _).0 is) c.args.listed.now (sym c.is_any.ensures ∙ yes)
