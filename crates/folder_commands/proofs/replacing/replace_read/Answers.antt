-- What goes was read, and the new part covers it.
use Rattle.std.specs.Prelude.{ℕ, List, map, filter, string_bytes, IfSome}
use Rattle.std.proofs.Common.{sym, ap, subst, ◌∙◌}
use Rattle.folder_protocol.specs.Causes.{Lacks, HasCall, LookCause}
use Rattle.folder_protocol.specs.Goes.{AreRemoved}
use Rattle.folder_protocol.specs.Linking.{LinksOnly, WasSo, Watches, HasEach, LacksOne}
use Rattle.folder_parts.specs.Covers.{folder_parts}
use Rattle.folder_commands.specs.Wanted.{goes}
use Rattle.folder_commands.proofs.Replacings.{are_joined}
use Rattle.folder_commands.proofs.replacing.replace_read.Goals as goal

pub returns-in-Ok-replace-clause-in_turn : goal.returns-in-Ok-replace-clause-in_turn
returns-in-Ok-replace-clause-in_turn g c = λ temp covered.
    let passed = map string_bytes c.args.passed.now in
    let names = map string_bytes c.args.names.now in
    let named = c.as_str.ensures.value ∙ c.in-Ok.ensures.name in
    let gone = ap (λ l. map string_bytes l) c.as_slice.ensures.value ∙ c.in-Ok.ensures.gone ∙ ap (λ (n : List ℕ). filter (goes passed n) names) (sym c.as_str.ensures.value) in
    c.replace.ensures.in_turn folder_parts (named, temp)
    (are_joined passed names c.args.bytes.now c.as_str.result.now (map string_bytes c.as_slice.result.now) (g.F.Folder.history c.args.folder.now) named gone covered)

pub returns-in-Ok-replace-clause-replaces : goal.returns-in-Ok-replace-clause-replaces
returns-in-Ok-replace-clause-replaces g c = record {
  named = c.in-Ok.ensures.name;
  going = c.in-Ok.ensures.gone;
  removed = λ on. subst (λ (l : List (List ℕ)). AreRemoved l (g.F.Folder.history c.args.folder.now) (g.F.Folder.history c.replace.new.folder))
      (ap (λ l. map string_bytes l) c.as_slice.ensures.value) (c.in-Ok-replace.ensures.gone on);
  stored = c.in-Ok-replace.ensures.stored folder_parts (c.as_str.ensures.value ∙ c.in-Ok.ensures.name);
  cause = subst (λ (n : List ℕ). IfSome c.in-Ok-replace.outcome (λ how. LookCause how n c.args.bytes.now (g.F.Folder.history c.args.folder.now) (g.F.Folder.history c.replace.new.folder)))
      c.as_str.ensures.value c.in-Ok-replace.ensures.cause;
  overtaken = λ none. subst (λ (l : List (List ℕ)). HasCall (Lacks l) (g.F.Folder.history c.args.folder.now) (g.F.Folder.history c.replace.new.folder))
      (ap (λ l. map string_bytes l) c.as_slice.ensures.value) (c.in-Ok-replace.ensures.overtaken none);
  links = subst (λ (l : List (List ℕ)). LinksOnly (Watches (HasEach l)) (g.F.Folder.history c.args.folder.now) (g.F.Folder.history c.replace.new.folder))
      (ap (λ l. map string_bytes l) c.as_slice.ensures.value) c.replace.ensures.links;
  lacked = λ none. (
    subst (λ (l : List (List ℕ)). WasSo (Watches (LacksOne l)) (g.F.Folder.history c.args.folder.now) (g.F.Folder.history c.replace.new.folder))
        (ap (λ l. map string_bytes l) c.as_slice.ensures.value) (c.in-Ok-replace.ensures.lacked none),
    c.in-Ok-replace.ensures.unlinked none,
  );
}

pub returns-in-Err-replace-clause-in_turn : goal.returns-in-Err-replace-clause-in_turn
returns-in-Err-replace-clause-in_turn g c = λ temp covered.
    let passed = map string_bytes c.args.passed.now in
    let names = map string_bytes c.args.names.now in
    let named = c.as_str.ensures.value ∙ c.in-Ok.ensures.name in
    let gone = ap (λ l. map string_bytes l) c.as_slice.ensures.value ∙ c.in-Ok.ensures.gone ∙ ap (λ (n : List ℕ). filter (goes passed n) names) (sym c.as_str.ensures.value) in
    c.replace.ensures.in_turn folder_parts (named, temp)
    (are_joined passed names c.args.bytes.now c.as_str.result.now (map string_bytes c.as_slice.result.now) (g.F.Folder.history c.args.folder.now) named gone covered)
