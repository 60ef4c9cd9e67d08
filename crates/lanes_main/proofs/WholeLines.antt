-- The lines of two texts, one after another: the first's whole lines, and then the second's, whose first one goes on with what the first had left.
use Rattle.std.specs.Prelude.{◌≡◌, ℕ, true, false, cond, ◌==◌, List, [], ◌∷◌, ◌++◌, None}
use Rattle.std.proofs.Common.{refl, sym, ap, ◌∙◌}
use Rattle.lanes_main.specs.Script.{lines_text, after_lines, all_but_last, whole_lines, onto_line, script_text, text_from}
use Rattle.table_model.specs.Pieces.{pieces, onto_first}
use Rattle.lanes_main.proofs.Feeds.{first_line, onto_nothing}
use Rattle.lanes_main.proofs.ScriptRuns.{lines_text-append}

-- the last of some lines
abbrev pub last_line : List (List ℕ) → List ℕ
last_line [] = []
last_line (line ∷ []) = line
last_line (line ∷ next ∷ lines) = last_line (next ∷ lines)

abbrev both : List (List ℕ) → List (List ℕ) → List (List ℕ)
both lines more = all_but_last lines ++ onto_line (last_line lines) more

onto_both : (b : ℕ) (line : List ℕ) (lines more : List (List ℕ)) → onto_first b (both (line ∷ lines) more) ≡ both (onto_first b (line ∷ lines)) more
onto_both b line [] [] = refl
onto_both b line [] (next ∷ more) = refl
onto_both b line (next ∷ lines) more = refl

pieces-append : (read more : List ℕ) → pieces 10 (read ++ more) ≡ both (pieces 10 read) (pieces 10 more)
pieces-append [] more = sym (onto_nothing more)
pieces-append (b ∷ bs) more =
    let p = first_line bs in
    let rest : pieces 10 (bs ++ more) ≡ both (p.0 ∷ p.1) (pieces 10 more) = pieces-append bs more ∙ ap (λ (lines : List (List ℕ)). both lines (pieces 10 more)) p.2 in
    elim (b == 10) as (λ t. cond t ([] ∷ pieces 10 (bs ++ more)) (onto_first b (pieces 10 (bs ++ more))) ≡ both (cond t ([] ∷ pieces 10 bs) (onto_first b (pieces 10 bs))) (pieces 10 more)) [
      | true ↦ ap (λ (lines : List (List ℕ)). [] ∷ lines) rest ∙ ap (λ (lines : List (List ℕ)). both ([] ∷ lines) (pieces 10 more)) (sym p.2)
      | false ↦ ap (onto_first b) rest ∙ onto_both b p.0 p.1 (pieces 10 more) ∙ ap (λ (lines : List (List ℕ)). both (onto_first b lines) (pieces 10 more)) (sym p.2)
    ]

-- the text of a script is that of the whole lines that were read, and then what there is to come
pub text_whole : (read more : List ℕ) → script_text (read ++ more) ≡ lines_text None (whole_lines read) ++ text_from (after_lines None (whole_lines read)) (last_line (pieces 10 read)) more
unfolding script_text text_from
text_whole read more = ap (lines_text None) (pieces-append read more) ∙ lines_text-append None (whole_lines read) (onto_line (last_line (pieces 10 read)) (pieces 10 more))
