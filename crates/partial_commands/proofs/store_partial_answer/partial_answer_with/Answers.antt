-- The names are those of the store's batches and of its stray deletions.
use Rattle.std.proofs.Common.{◌≡◌, sym, ap, ◌∙◌}
use Rattle.std.specs.String.{string_bytes}
use Rattle.query_parser.specs.Descent.{query_of}
use Rattle.partial_answers.specs.Counted.{held_of, strays_of}
use Rattle.partial_answers.specs.Groups.{partial_answer_in}
use Rattle.partial_commands.proofs.StorePartialAnswers.{held_named, shaped_as, strays_named}
use Rattle.partial_commands.proofs.store_partial_answer.partial_answer_with.Goals as goal

pub returns-clause-made : goal.returns-clause-made
returns-clause-made c =
    let r = c.args.store.now.replica in
    let held : c.in_ok-held.held ≡ held_of r.state = c.in_ok-held.ensures ∙ c.names.ensures.value ∙ held_named r c.in_ok-summary.summary c.in_ok-summary.ensures in
    let strays : c.in_ok-strays.strays ≡ strays_of r.state = strays_named r.state c.tombs.result.now c.in_ok-held.held c.in_ok-strays.strays c.in_ok-strays.ensures c.tombs.ensures held in
    λ i. record {
      schema = (c.new.ensures.schema ∙ c.in_ok-schema.ensures ∙ c.schema.ensures) i;
      text = (ap string_bytes c.new.ensures.text ∙ c.in_ok-text.ensures.ok) i;
      counted = record { partial = ap partial_answer_in c.new.ensures.groups i; held = (c.new.ensures.held ∙ held) i; strays = (c.new.ensures.strays ∙ strays) i };
    }

pub returns-clause-shape : goal.returns-clause-shape
returns-clause-shape c = λ asks query asked.
    let r = c.args.store.now.replica in
    let words : string_bytes c.new.result.text ≡ c.args.sql.now = ap string_bytes c.new.ensures.text ∙ c.in_ok-text.ensures.ok in
    let table : c.new.result.schema ≡ r.schema = c.new.ensures.schema ∙ c.in_ok-schema.ensures ∙ c.schema.ensures in
    shaped_as _ _ _ _ query (sym table) (sym c.new.ensures.groups) (asks query (ap query_of (sym words) ∙ asked))
