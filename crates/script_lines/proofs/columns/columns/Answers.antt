use Rattle.std.proofs.Common.{◌≡◌, sym, ◌∙◌, rules, ap, map, option_map, List, ◌++◌, ◌∷◌, [], ℕ, Bor, Option}
use Rattle.std.proofs.lemmas.List.{map-append}
use Rattle.table_model.specs.declared.schema.ColType.{ColType}
use Rattle.script_lines.specs.Line.{columns_of, words_left}
use Rattle.script_lines.proofs.RowLaws.{after_all}
use Rattle.script_lines.proofs.ColumnLaws.{columns_more}
use Rattle.script_lines.proofs.columns.columns.Goals as goal

abbrev read : Bor (List ℕ) × ColType → List ℕ × ColType
read column = (column.0.now, column.1)

abbrev left : Option (Bor (List ℕ)) → Option (List ℕ)
left rest = option_map (λ (r : Bor (List ℕ)). r.now) rest

pub loop-rest-preserved : goal.loop-rest-preserved
loop-rest-preserved c =
    let column : Bor (List ℕ) × ColType = (c.in-Some-column.name, c.in-Some-column.column_type) in
    let pushed : c.push.new.self.items ≡ c.loop-rest.columns.items ++ (column ∷ []) = search rules in
    let next : Option (List (List ℕ × ColType)) = columns_of (words_left (left c.in-Some-column.more)) in
    ap (λ (xs : List (Bor (List ℕ) × ColType)). after_all (map read xs) next) pushed
    ∙ ap (λ (xs : List (List ℕ × ColType)). after_all xs next) (map-append read c.loop-rest.columns.items (column ∷ []))
    ∙ sym (columns_more (map read c.loop-rest.columns.items) (read column) next)
    ∙ ap (after_all (map read c.loop-rest.columns.items)) (sym c.in-Some-column.ensures.column)
    ∙ ap (λ (r : Option (Bor (List ℕ))). after_all (map read c.loop-rest.columns.items) (columns_of (words_left (left r)))) (sym c.in-Some.is)
    ∙ c.loop-rest.invariant
