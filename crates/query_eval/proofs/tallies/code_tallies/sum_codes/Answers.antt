-- One slice more: its packed sum is that of both tables at its code.
use Rattle.std.proofs.Common.{rules, ◌≡◌, ◌==◌, ◌&&◌, ◌<◌, ◌≤◌, ◌++◌, ℕ, FitsSigned, List, length, get_or, pos, ◌+ℤ◌, sym, ap, subst, ◌∙◌, arith, take}
use Rattle.std.specs.Int.{w128}
use Rattle.std.proofs.lemmas.Int.{to_z-of_z}
use Rattle.std.proofs.lemmas.List.{get_or-replicate, take_all}
use Rattle.transpose_order.specs.Mask.{has}
use Rattle.query_eval.specs.CodeSums.{rows_coded}
use Rattle.query_eval.specs.Grouping.{IsHeld, aggregate_values}
use Rattle.query_eval.specs.Slices.{code_limit, rows_sliced, values_at}
use Rattle.query_eval.specs.declared.grouping.split.Slice.{Slice}
use Rattle.query_eval.proofs.SharedLemmas.{held_slice, values_slice}
use Rattle.query_eval.proofs.CodeSumLemmas.{both_tables, coded_slice, few_values, packed_within}
use Rattle.query_eval.proofs.tallies.code_tallies.sum_codes.Goals as goal

pub add_packed-requires-clause-even : goal.add_packed-requires-clause-even
add_packed-requires-clause-even c = λ k l. get_or-replicate 64 k (pos 0) (pos 0) l

pub add_packed-requires-clause-odd : goal.add_packed-requires-clause-odd
add_packed-requires-clause-odd c = λ k l. get_or-replicate 64 k (pos 0) (pos 0) l

pub add_packed-requires-clause-packed : goal.add_packed-requires-clause-packed
add_packed-requires-clause-packed c = λ n l. packed_within c.and_not-rows.result c.args.values.now c.pack.new.packed n c.requires.packable c.pack.ensures l

pub loop-slice-preserved : goal.loop-slice-preserved
loop-slice-preserved c =
    let inv = c.loop-slice.invariant in
    let s = c.slice-item.result in
    let split = c.args.split.now in
    let slices = split.slices.items in
    let i = c.loop-slice.slice-index in
    let values = c.args.values.now in
    let rows = c.and_not-rows.result in
    let shown = c.deref-slice-items.ensures.value in
    let inside : i < length slices = subst (λ (ss : List Slice). i < length ss) shown c.loop-slice-test.true in
    let at : s ≡ get_or slices i s = c.slice-item.is ∙ ap (λ ss. get_or ss i s) shown in
    let few : s.code < code_limit = subst (λ (x : Slice). x.code < code_limit) (sym at) (c.requires.codes.few c.requires.coded i s inside) in
    let own : (n : ℕ) → n < 1024 → has s.rows n ≡ (has split.kept n && (get_or split.codes n 0 == s.code)) = λ n l. subst (λ (x : Slice). has x.rows n ≡ (has split.kept n && (get_or split.codes n 0 == x.code))) (sym at) (c.requires.codes.rows c.requires.coded i n s inside l) in
    let more = values_at (rows_coded rows split.codes s.code) values in
    let even = c.add_packed.new.even in
    let odd = c.add_packed.new.odd in
    let is : c.from-code.result ≡ s.code = c.from-code.ensures in
    let below : c.from-code.result < code_limit = omega (arith, is, few) in
    let sum = both_tables (get_or even c.from-code.result (pos 0)) (get_or odd c.from-code.result (pos 0)) (c.add_packed.ensures.even c.from-code.result below) (c.add_packed.ensures.odd c.from-code.result below)
    ∙ ap (λ k. get_or even k (pos 0) +ℤ get_or odd k (pos 0)) is ∙ c.add_packed.ensures.sums rows values c.pack.ensures s.code few in
    let small = few_values rows split.codes s.code values in
    let fits : FitsSigned w128 c.unpacked-count.result.1 = search rules in
    record {
      size = c.sum_more.ensures.size ∙ inv.size;
      held = λ a v kind cells g t taken l h.
          let within : g < length c.loop-slice.tallies.items = omega (arith, l, inv.size) in
          let before = inv.held a v kind cells g t taken l h in
          held_slice v slices i s g a taken (get_or c.loop-slice.tallies.items g t) (get_or c.sum_more.new.tallies.items g t) more inside at
          (values_slice a v s.rows c.args.nulls.now (rows_coded rows split.codes s.code) values cells (coded_slice split.kept c.args.nulls.now rows s.rows split.codes s.code c.and_not-rows.ensures own))
          (c.sum_more.ensures.values more (c.unpacked-count.ensures.count more small sum) (to_z-of_z w128 c.unpacked-count.result.1 fits ∙ c.unpacked-count.ensures.sum more small sum) g t (aggregate_values a (taken ++ rows_sliced v (take i slices) g)) within (before.kind ∙ kind) before.values)
          (c.sum_more.ensures.kind g t within) before;
    }

pub returns-clause-held : goal.returns-clause-held
returns-clause-held c = λ a v kind cells g t taken l h.
    subst (λ (ss : List Slice). IsHeld (taken ++ rows_sliced v ss g) a (get_or c.loop-slice.tallies.items g t)) (take_all c.loop-slice.slice-index c.args.split.now.slices.items (subst (λ (ss : List Slice). length ss ≤ c.loop-slice.slice-index) c.deref-slice-items.ensures.value c.loop-slice-test.false)) (c.loop-slice.invariant.held a v kind cells g t taken l h)
