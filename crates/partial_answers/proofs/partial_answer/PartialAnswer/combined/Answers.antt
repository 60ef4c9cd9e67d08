-- Two partial answers of one query that are apart.
use Rattle.std.proofs.Common.{◌≡◌, true, false, List, ℕ, Option, Ok, refl, rules, sym, ap, subst, ◌∙◌}
use Rattle.std.specs.String.{string_bytes}
use Rattle.std.proofs.lemmas.Bool.{false≢true}
use Rattle.std.proofs.lemmas.Result.{err_from_is_err_and}
use Rattle.table_model.specs.Identifier.{same_text}
use Rattle.table_model.specs.Table.{Table, same_table}
use Rattle.table_model.specs.declared.names.BatchName.{BatchName}
use Rattle.table_model.proofs.SameTable.{one_table, itself_table, one_text, itself_text}
use Rattle.query_parser.specs.Descent.{query_of}
use Rattle.query_eval.specs.Finished.{plan_of}
use Rattle.partial_answers.specs.Between.{IsFirstBetween}
use Rattle.partial_answers.specs.Combining.{counted_in}
use Rattle.partial_answers.specs.Measures.{measured}
use Rattle.partial_answers.specs.Shape.{HaveShape}
use Rattle.partial_answers.proofs.FirstBetween.{none_combined}
use Rattle.partial_answers.proofs.RefusedPartialAnswers.{groups_refuse}
use Rattle.partial_answers.proofs.partial_answer.PartialAnswer.combined.Goals as goal

pub returns-clause-combined : goal.returns-clause-combined
returns-clause-combined c =
    let same : c.same.result ≡ true = search rules in
    let also : c.same_text.result ≡ true = search rules in
    let texts : same_text (string_bytes c.args.self.text) (string_bytes c.args.other.text) ≡ true = (λ i. same_text (sym c.as_bytes.ensures.value i) (sym c.as_bytes-2.ensures.value i)) ∙ sym c.same_text.ensures ∙ also in
    let schemas_one : c.args.self.schema ≡ c.args.other.schema = one_table c.args.self.schema c.args.other.schema (sym c.same.ensures ∙ same) in
    let texts_one : string_bytes c.args.self.text ≡ string_bytes c.args.other.text = one_text (string_bytes c.args.self.text) (string_bytes c.args.other.text) texts in
    record {
      schemas = schemas_one;
      texts = texts_one;
      apart = none_combined (counted_in c.args.self) (counted_in c.args.other) (subst (λ (o : Option BatchName). IsFirstBetween (counted_in c.args.self) (counted_in c.args.other) o) c.in_default.is c.between.ensures);
      schema = refl;
      text = refl;
      counted = λ i. record { partial = c.in_ok-groups.ensures.both i; held = c.in_ok-held.ensures i; strays = c.in_ok-strays.ensures i };
      shape = λ ours theirs query asked.
          let also : query_of (string_bytes c.args.other.text) ≡ Ok query = ap query_of (sym texts_one) ∙ asked in
          let second = subst (λ (t : Table). HaveShape t query c.args.other.groups) (sym schemas_one) (theirs query also) in
          c.in_ok-groups.ensures.shape (measured (plan_of c.args.self.schema.columns query)) (ours query asked) second;
    }

pub returns-in_err-groups-clause-refused : goal.returns-in_err-groups-clause-refused
returns-in_err-groups-clause-refused c =
    let same : c.same.result ≡ true = search rules in
    let also : c.same_text.result ≡ true = search rules in
    let texts : same_text (string_bytes c.args.self.text) (string_bytes c.args.other.text) ≡ true = (λ i. same_text (sym c.as_bytes.ensures.value i) (sym c.as_bytes-2.ensures.value i)) ∙ sym c.same_text.ensures ∙ also in
    let schemas_one : c.args.self.schema ≡ c.args.other.schema = one_table c.args.self.schema c.args.other.schema (sym c.same.ensures ∙ same) in
    let texts_one : string_bytes c.args.self.text ≡ string_bytes c.args.other.text = one_text (string_bytes c.args.self.text) (string_bytes c.args.other.text) texts in
    let apart = none_combined (counted_in c.args.self) (counted_in c.args.other) (subst (λ (o : Option BatchName). IsFirstBetween (counted_in c.args.self) (counted_in c.args.other) o) c.in_default.is c.between.ensures) in
    let p = err_from_is_err_and c.from_residual-in_err-groups.result c.from_residual-in_err-groups.ensures.1 in
    rw (p.1, p.2) (groups_refuse c.in_err-groups.field-0.0 c.args.self c.args.other schemas_one texts_one apart c.in_err-groups.ensures.refused)

pub returns-in-Some-clause-refused : goal.returns-in-Some-clause-refused
returns-in-Some-clause-refused c =
    let same : c.same.result ≡ true = search rules in
    let also : c.same_text.result ≡ true = search rules in
    let texts : same_text (string_bytes c.args.self.text) (string_bytes c.args.other.text) ≡ true = (λ i. same_text (sym c.as_bytes.ensures.value i) (sym c.as_bytes-2.ensures.value i)) ∙ sym c.same_text.ensures ∙ also in
    let schemas_one : c.args.self.schema ≡ c.args.other.schema = one_table c.args.self.schema c.args.other.schema (sym c.same.ensures ∙ same) in
    let texts_one : string_bytes c.args.self.text ≡ string_bytes c.args.other.text = one_text (string_bytes c.args.self.text) (string_bytes c.args.other.text) texts in
    (schemas_one, texts_one, subst (λ (o : Option BatchName). IsFirstBetween (counted_in c.args.self) (counted_in c.args.other) o) c.in-Some.is c.between.ensures)

pub returns-then-not-same-clause-refused : goal.returns-then-not-same-clause-refused
returns-then-not-same-clause-refused c = λ e.
    let differs : c.same.result ≡ false = search rules in
    false≢true (sym differs ∙ c.same.ensures ∙ ap (λ (t : Table). same_table c.args.self.schema t) (sym e) ∙ itself_table c.args.self.schema)

pub returns-then-not-same_text-clause-refused : goal.returns-then-not-same_text-clause-refused
returns-then-not-same_text-clause-refused c =
    let same : c.same.result ≡ true = search rules in
    let schemas_one : c.args.self.schema ≡ c.args.other.schema = one_table c.args.self.schema c.args.other.schema (sym c.same.ensures ∙ same) in
    let differs : c.same_text.result ≡ false = search rules in
    let texts : same_text (string_bytes c.args.self.text) (string_bytes c.args.other.text) ≡ false = (λ i. same_text (sym c.as_bytes.ensures.value i) (sym c.as_bytes-2.ensures.value i)) ∙ sym c.same_text.ensures ∙ differs in
    (schemas_one, λ e. absurd (false≢true (sym texts ∙ ap (λ (t : List ℕ). same_text (string_bytes c.args.self.text) t) (sym e) ∙ itself_text (string_bytes c.args.self.text))))
