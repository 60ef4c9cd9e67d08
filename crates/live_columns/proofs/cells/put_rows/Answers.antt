-- One number more, or all at once.
use Rattle.std.proofs.Common.{◌≡◌, ◌+◌, ◌<◌, ◌≤◌, ℕ, ℤ, pos, Bool, true, false, List, [], ◌∷◌, ◌++◌, length, take, get_or, set, w64, refl, sym, ap, subst, ◌∙◌, arith, append_assoc, append-nil, length-append}
use Rattle.std.proofs.lemmas.Int.{to_z-of_z}
use Rattle.std.proofs.lemmas.List.{take_more_set}
use Rattle.live_columns.specs.Chosen.{numbers_at}
use Rattle.live_columns.proofs.CellSteps.{numbers-whole}
use Rattle.live_columns.proofs.Picked.{picked_below, picked_more, picked_all, picked_room}
use Rattle.live_columns.proofs.cells.put_rows.Goals as goal
use Rattle.live_columns.proofs.cells.put_rows.Goals.{then-get, else-get}

pub put_all-requires : goal.put_all-requires
put_all-requires c =
    let long : length c.args.numbers.now ≡ 1024 = omega arith in
    let whole = numbers-whole c.args.rows.now c.args.numbers.now long (c.is_all.ensures.all c.if-is_all.true) in
    omega (arith, c.requires.room, ap length whole)

pub returns-then-is_all : goal.returns-then-is_all
returns-then-is_all c =
    let long : length c.args.numbers.now ≡ 1024 = omega arith in
    let whole = numbers-whole c.args.rows.now c.args.numbers.now long (c.is_all.ensures.all c.if-is_all.true) in
    ap (λ (l : List ℤ). take (c.args.at + length l) c.put_all.new.values) whole
    ∙ ap (λ (n : ℕ). take (c.args.at + n) c.put_all.new.values) long ∙ c.put_all.ensures
    ∙ ap (λ (l : List ℤ). take c.args.at c.args.values.now ++ l) (sym whole)

pub bounds-values-end : goal.bounds-values-end
bounds-values-end c =
    let number : ℕ → ℤ = λ n. get_or c.args.numbers.now n (pos 0) in
    let here : c.loop-row.row < 1024 = omega (arith, c.loop-row-test.true) in
    omega (arith, c.requires.room, c.loop-row.invariant.end, c.loop-row.auto.values, picked_room c.loop-row.row c.args.rows.now number here (sym c.get.ensures ∙ c.if-get.true))

pub overflow_add-end : goal.overflow_add-end
overflow_add-end c =
    let number : ℕ → ℤ = λ n. get_or c.args.numbers.now n (pos 0) in
    let here : c.loop-row.row < 1024 = omega (arith, c.loop-row-test.true) in
    omega (arith, c.requires.room, c.requires.size, c.loop-row.invariant.end, picked_room c.loop-row.row c.args.rows.now number here (sym c.get.ensures ∙ c.if-get.true))

pub loop-row-preserved : goal.loop-row-preserved
loop-row-preserved c =
    let k : ℕ = c.loop-row.row in
    let rows : List Bool = c.args.rows.now in
    let number : ℕ → ℤ = λ n. get_or c.args.numbers.now n (pos 0) in
    let front : List ℤ = picked_below k rows number in
    let before : List ℤ = take c.args.at c.args.values.now in
    let inv = c.loop-row.invariant in
    let here : k < 1024 = omega (arith, c.loop-row-test.true) in
    elim c.if-get.branch [
      | then-get w ↦
          let on : c.get.result ≡ true = w.if-get.true in
          let more = picked_more k rows number true (sym c.get.ensures ∙ on) in
          let inside : c.loop-row.end < length c.loop-row.values = omega (arith, c.requires.room, inv.end, c.loop-row.auto.values, picked_room k rows number here (sym c.get.ensures ∙ on)) in
          record {
            end = omega (arith, w.end-is, inv.end, ap length more, length-append front (number k ∷ []));
            put =
                ap (λ n. take n c.if-get.values) w.end-is ∙ ap (λ (l : List ℤ). take (c.loop-row.end + 1) l) w.values-is
                ∙ ap (λ (z : ℤ). take (c.loop-row.end + 1) (set c.loop-row.values c.loop-row.end z)) (to_z-of_z w64 w.number_of-number.result (record { sfits = w.number_of-number.type_inv }) ∙ w.number_of-number.ensures)
                ∙ take_more_set c.loop-row.values c.loop-row.end (number k) inside
                ∙ ap (λ l. l ++ (number k ∷ [])) inv.put ∙ append_assoc before front (number k ∷ []) ∙ ap (λ l. before ++ l) (sym more);
          }
      | else-get w ↦
          let more = picked_more k rows number false (sym c.get.ensures ∙ w.if-get.false) ∙ append-nil front in
          record {
            end = omega (arith, w.end-is, inv.end, ap length more);
            put = ap (λ n. take n c.if-get.values) w.end-is ∙ ap (λ (l : List ℤ). take c.loop-row.end l) w.values-is ∙ inv.put ∙ ap (λ l. before ++ l) (sym more);
          }
    ]

pub returns : goal.returns
returns c =
    let number : ℕ → ℤ = λ n. get_or c.args.numbers.now n (pos 0) in
    let e : c.loop-row.row ≡ 1024 = omega (arith, c.loop-row-test.false, c.loop-row.auto.row-end) in
    let all = picked_all c.loop-row.row c.args.rows.now number e in
    ap (λ (n : ℕ). take n c.loop-row.values) (ap (λ (l : List ℤ). c.args.at + length l) (sym all) ∙ sym c.loop-row.invariant.end)
    ∙ c.loop-row.invariant.put ∙ ap (λ l. take c.args.at c.args.values.now ++ l) all
