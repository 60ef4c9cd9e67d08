-- Each step gives one column more; at the end they are all, and have the rows.
use Rattle.std.proofs.Common.{◌≡◌, ◌∷◌, ◌++◌, [], ℕ, map, List, sym, ◌∙◌, ap, subst, arith}
use Rattle.std.proofs.lemmas.List.FromFn.{map-range_with_len_more}
use Rattle.std.specs.List.{range_with_len}
use Rattle.segment_core.specs.Arrays.{ArrayForm, HaveRows, array_rows}
use Rattle.lanes_c.specs.InputColumns.{AreWhole, InputForm, column_array, input_arrays, input_rows}
use Rattle.lanes_c.proofs.InputArrays.{arrays_have_rows, arrays_rows}
use Rattle.lanes_c.proofs.input_columns.InputColumns.arrays.Goals as goal

pub loop-column-preserved : goal.loop-column-preserved
loop-column-preserved c =
    let made : ℕ → ArrayForm = column_array c.args.self.now c.args.first c.args.count in
    let n : ℕ = c.loop-column.column in
    let pushed : c.push.new.self.items ≡ c.loop-column.arrays.items ++ (c.array.result ∷ []) = c.in_ok-push.ensures.items in
    pushed
    ∙ ap (λ (xs : List ArrayForm). xs ++ c.array.result ∷ []) c.loop-column.invariant
    ∙ ap (λ (x : ArrayForm). map made (range_with_len 0 n) ++ x ∷ []) c.array.ensures
    ∙ sym (map-range_with_len_more made 0 n n (omega arith))

pub returns-clause-arrays : goal.returns-clause-arrays
returns-clause-arrays c =
    let same = ap (λ (x : InputForm). x.columns) c.self.view_is in
    let count : c.loop-column.column ≡ c.args.self.now.columns = let t = c.loop-column-test.false in let e = c.loop-column.auto.column-end in omega (arith, same) in
    c.loop-column.invariant ∙ ap (λ n. map (column_array c.args.self.now c.args.first c.args.count) (range_with_len 0 n)) count

pub returns-clause-long : goal.returns-clause-long
returns-clause-long c =
    let whole : AreWhole c.args.self.now = subst AreWhole c.self.view_is c.self.invariant in
    subst (HaveRows c.args.count) (sym (returns-clause-arrays c)) (arrays_have_rows c.args.self.now c.args.first c.args.count whole c.requires.within)

pub returns-clause-rows : goal.returns-clause-rows
returns-clause-rows c =
    let whole : AreWhole c.args.self.now = subst AreWhole c.self.view_is c.self.invariant in
    ap (array_rows c.args.count) (returns-clause-arrays c) ∙ arrays_rows c.args.self.now c.args.first c.args.count whole c.requires.within c.requires.whole
