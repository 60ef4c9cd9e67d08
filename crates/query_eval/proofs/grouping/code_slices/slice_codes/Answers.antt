-- The rows with the code are a slice more, if there are any; those with a later one are left.
use Rattle.std.proofs.Common.{◌≡◌, ◌==◌, ◌<◌, ◌&&◌, ℕ, not, get_or, ap, sym, ◌∙◌, arith}
use Rattle.transpose_order.specs.Mask.{has}
use Rattle.transpose_order.specs.MaskWords.{rows_of-like}
use Rattle.query_eval.specs.Slices.{code_limit}
use Rattle.query_eval.specs.declared.grouping.split.Slice.{Slice}
use Rattle.query_eval.proofs.CodeSliceLemmas.{coded_here, each_pushed, left_more, left_same, sliced_code}
use Rattle.query_eval.proofs.grouping.code_slices.slice_codes.Goals as goal
use Rattle.query_eval.proofs.grouping.code_slices.slice_codes.Goals.{then-next_true-lt1024+in_ok-slice+in_ok-push, else-next_true-lt1024}

pub loop-code-preserved : goal.loop-code-preserved
loop-code-preserved c =
    let inv = c.loop-code.invariant in
    let rows = c.coded_rows-rows.result in
    let here : (n : ℕ) → n < 1024 → has rows n ≡ (has c.args.mask.now n && (get_or c.args.codes.now n 0 == c.loop-code.code)) =
    λ n l. coded_here c.args.codes.now c.loop-code.code n c.args.mask.now c.loop-code.left rows l (inv.left n l) (c.coded_rows-rows.ensures n l) in
    elim c.if-next_true-lt1024.branch [
      | then-next_true-lt1024+in_ok-slice+in_ok-push w ↦
          let slice = w.in_ok-slice.slice in
          let is = w.in_ok-slice.ensures.rows in
          let row = c.next_true-in-loop-code.result in
          let same : (n : ℕ) → has slice.rows n ≡ has rows n = λ n. ap (λ m. has m n) is in
          let passed : (s : Slice) → Type 0 = λ s. (n : ℕ) → n < 1024 → has s.rows n ≡ (has c.args.mask.now n && (get_or c.args.codes.now n 0 == s.code)) in
          let next = w.and_not-left.ensures ∙ rows_of-like (λ n. has c.loop-code.left n && not (has rows n)) (λ n. has c.loop-code.left n && not (has slice.rows n)) (λ n l. ap (λ b. has c.loop-code.left n && not b) (sym (same n))) in
          rw (w.places-is, w.slices-is, w.left-is)
          (record {
            index = λ h. w.in_ok-slice.ensures.index (inv.index h);
            sliced = λ by v shown h.
                sliced_code by v c.args.mask.now c.loop-code.left w.and_not-left.result c.args.places.now.index.entries c.loop-code.places.index.entries w.slice_of.new.places.index.entries c.loop-code.slices.items w.push.new.self.items slice c.args.codes.now c.args.keys.now c.args.count c.loop-code.code row
                c.requires.rises c.requires.within shown (inv.sliced by v shown h) (omega arith) w.if-next_true-lt1024.true (same row ∙ c.next_true-in-loop-code.ensures.here w.if-next_true-lt1024.true)
                (λ n l. same n ∙ c.coded_rows-rows.ensures n l) (w.in_ok-slice.ensures.taken (inv.index h)) next w.in_ok-push.ensures.items;
            few = each_pushed (λ s. s.code < code_limit) c.loop-code.slices.items w.push.new.self.items slice w.in_ok-push.ensures.items inv.few (omega (arith, w.in_ok-slice.ensures.code, c.requires.count));
            rows = λ i n s l m.
                each_pushed passed c.loop-code.slices.items w.push.new.self.items slice w.in_ok-push.ensures.items (λ i s l n m. inv.rows i n s l m)
                (λ n l. same n ∙ here n l ∙ ap (λ k. has c.args.mask.now n && (get_or c.args.codes.now n 0 == k)) (sym w.in_ok-slice.ensures.code)) i s l n m;
            left = λ n l. left_more c.args.codes.now c.loop-code.code n c.args.mask.now c.loop-code.left rows l (inv.left n l) (c.coded_rows-rows.ensures n l) w.and_not-left.result w.and_not-left.ensures;
          })
      | else-next_true-lt1024 w ↦
          rw (w.places-is, w.slices-is, w.left-is)
          (record {
            index = inv.index;
            sliced = inv.sliced;
            few = inv.few;
            rows = inv.rows;
            left = λ n l. left_same c.args.codes.now c.loop-code.code n c.args.mask.now c.loop-code.left rows l (inv.left n l) (c.coded_rows-rows.ensures n l) (c.next_true-in-loop-code.ensures.none n (omega arith) (omega (arith, l, w.if-next_true-lt1024.false)));
          })
    ]
