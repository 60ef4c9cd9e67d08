-- Each piece's lanes are in the four parts, four lanes in each.
use Rattle.std.proofs.Common.{◌≡◌, ℕ, ◌+◌, ◌*◌, ◌<◌, pos, get_or, ap, ◌∙◌, arith}
use Rattle.std.specs.Int.{int_wrap}
use Rattle.bit_interleave.specs.Arithmetic.{integer_width}
use Rattle.bit_interleave.specs.Range.{value_at}
use Rattle.frame_delta.proofs.TurnLemmas.{rows_of_parts}
use Rattle.frame_delta.proofs.pieces.put_four.Goals as goal

pub returns-clause-first : goal.returns-clause-first
returns-clause-first c =
    let read0 : (m : ℕ) → m < 4 → get_or c.first_by_turns-part0.result (4 * m + 0) 0 ≡ get_or c.args.a (m + 4 * 0) 0 =
    λ m h.
    let above : 4 * m + 0 ≡ 2 * (2 * m) = omega arith in
    let between : 2 * m ≡ 2 * m = omega arith in
    let below : m ≡ m + 4 * 0 = omega arith in
    ap (λ n. get_or c.first_by_turns-part0.result n 0) above ∙ c.first_by_turns-part0.ensures.even (2 * m) (omega arith)
    ∙ ap (λ n. get_or c.first_by_turns-low_even.result n 0) between ∙ c.first_by_turns-low_even.ensures.even m (omega arith)
    ∙ ap (λ n. get_or c.args.a n 0) below in
    let read1 : (m : ℕ) → m < 4 → get_or c.last_by_turns-part1.result (4 * m + 0) 0 ≡ get_or c.args.a (m + 4 * 1) 0 =
    λ m h.
    let above : 4 * m + 0 ≡ 2 * (2 * m) = omega arith in
    let between : 2 * m + 8 ≡ 2 * (m + 4) = omega arith in
    let below : m + 4 ≡ m + 4 * 1 = omega arith in
    ap (λ n. get_or c.last_by_turns-part1.result n 0) above ∙ c.last_by_turns-part1.ensures.even (2 * m) (omega arith)
    ∙ ap (λ n. get_or c.first_by_turns-low_even.result n 0) between ∙ c.first_by_turns-low_even.ensures.even (m + 4) (omega arith)
    ∙ ap (λ n. get_or c.args.a n 0) below in
    let read2 : (m : ℕ) → m < 4 → get_or c.first_by_turns-part2.result (4 * m + 0) 0 ≡ get_or c.args.a (m + 4 * 2) 0 =
    λ m h.
    let above : 4 * m + 0 ≡ 2 * (2 * m) = omega arith in
    let between : 2 * m ≡ 2 * m = omega arith in
    let below : m + 8 ≡ m + 4 * 2 = omega arith in
    ap (λ n. get_or c.first_by_turns-part2.result n 0) above ∙ c.first_by_turns-part2.ensures.even (2 * m) (omega arith)
    ∙ ap (λ n. get_or c.last_by_turns-high_even.result n 0) between ∙ c.last_by_turns-high_even.ensures.even m (omega arith)
    ∙ ap (λ n. get_or c.args.a n 0) below in
    let read3 : (m : ℕ) → m < 4 → get_or c.last_by_turns-part3.result (4 * m + 0) 0 ≡ get_or c.args.a (m + 4 * 3) 0 =
    λ m h.
    let above : 4 * m + 0 ≡ 2 * (2 * m) = omega arith in
    let between : 2 * m + 8 ≡ 2 * (m + 4) = omega arith in
    let below : m + 4 + 8 ≡ m + 4 * 3 = omega arith in
    ap (λ n. get_or c.last_by_turns-part3.result n 0) above ∙ c.last_by_turns-part3.ensures.even (2 * m) (omega arith)
    ∙ ap (λ n. get_or c.last_by_turns-high_even.result n 0) between ∙ c.last_by_turns-high_even.ensures.even (m + 4) (omega arith)
    ∙ ap (λ n. get_or c.args.a n 0) below in
    λ i h. let row : 64 * i + 4 * c.args.places ≡ 64 * i + 4 * c.args.places + 0 = omega arith in
    ap (value_at c.put_fours-4.new.values) row
    ∙ rows_of_parts c.args.places 0 (λ n. int_wrap (integer_width c.args.lane_width) (pos n)) (λ n. get_or c.args.a n 0) c.first_by_turns-part0.result c.last_by_turns-part1.result c.first_by_turns-part2.result c.last_by_turns-part3.result c.put_fours.new.values c.put_fours-2.new.values c.put_fours-3.new.values c.put_fours-4.new.values (omega arith) c.requires.places c.put_fours.ensures.written c.put_fours-2.ensures.written c.put_fours-3.ensures.written c.put_fours-4.ensures.written c.put_fours-2.ensures.parts c.put_fours-3.ensures.parts c.put_fours-4.ensures.parts read0 read1 read2 read3 i h

pub returns-clause-second : goal.returns-clause-second
returns-clause-second c =
    let read0 : (m : ℕ) → m < 4 → get_or c.first_by_turns-part0.result (4 * m + 1) 0 ≡ get_or c.args.b (m + 4 * 0) 0 =
    λ m h.
    let above : 4 * m + 1 ≡ 2 * (2 * m) + 1 = omega arith in
    let between : 2 * m ≡ 2 * m = omega arith in
    let below : m ≡ m + 4 * 0 = omega arith in
    ap (λ n. get_or c.first_by_turns-part0.result n 0) above ∙ c.first_by_turns-part0.ensures.odd (2 * m) (omega arith)
    ∙ ap (λ n. get_or c.first_by_turns-low_odd.result n 0) between ∙ c.first_by_turns-low_odd.ensures.even m (omega arith)
    ∙ ap (λ n. get_or c.args.b n 0) below in
    let read1 : (m : ℕ) → m < 4 → get_or c.last_by_turns-part1.result (4 * m + 1) 0 ≡ get_or c.args.b (m + 4 * 1) 0 =
    λ m h.
    let above : 4 * m + 1 ≡ 2 * (2 * m) + 1 = omega arith in
    let between : 2 * m + 8 ≡ 2 * (m + 4) = omega arith in
    let below : m + 4 ≡ m + 4 * 1 = omega arith in
    ap (λ n. get_or c.last_by_turns-part1.result n 0) above ∙ c.last_by_turns-part1.ensures.odd (2 * m) (omega arith)
    ∙ ap (λ n. get_or c.first_by_turns-low_odd.result n 0) between ∙ c.first_by_turns-low_odd.ensures.even (m + 4) (omega arith)
    ∙ ap (λ n. get_or c.args.b n 0) below in
    let read2 : (m : ℕ) → m < 4 → get_or c.first_by_turns-part2.result (4 * m + 1) 0 ≡ get_or c.args.b (m + 4 * 2) 0 =
    λ m h.
    let above : 4 * m + 1 ≡ 2 * (2 * m) + 1 = omega arith in
    let between : 2 * m ≡ 2 * m = omega arith in
    let below : m + 8 ≡ m + 4 * 2 = omega arith in
    ap (λ n. get_or c.first_by_turns-part2.result n 0) above ∙ c.first_by_turns-part2.ensures.odd (2 * m) (omega arith)
    ∙ ap (λ n. get_or c.last_by_turns-high_odd.result n 0) between ∙ c.last_by_turns-high_odd.ensures.even m (omega arith)
    ∙ ap (λ n. get_or c.args.b n 0) below in
    let read3 : (m : ℕ) → m < 4 → get_or c.last_by_turns-part3.result (4 * m + 1) 0 ≡ get_or c.args.b (m + 4 * 3) 0 =
    λ m h.
    let above : 4 * m + 1 ≡ 2 * (2 * m) + 1 = omega arith in
    let between : 2 * m + 8 ≡ 2 * (m + 4) = omega arith in
    let below : m + 4 + 8 ≡ m + 4 * 3 = omega arith in
    ap (λ n. get_or c.last_by_turns-part3.result n 0) above ∙ c.last_by_turns-part3.ensures.odd (2 * m) (omega arith)
    ∙ ap (λ n. get_or c.last_by_turns-high_odd.result n 0) between ∙ c.last_by_turns-high_odd.ensures.even (m + 4) (omega arith)
    ∙ ap (λ n. get_or c.args.b n 0) below in
    λ i h. rows_of_parts c.args.places 1 (λ n. int_wrap (integer_width c.args.lane_width) (pos n)) (λ n. get_or c.args.b n 0) c.first_by_turns-part0.result c.last_by_turns-part1.result c.first_by_turns-part2.result c.last_by_turns-part3.result c.put_fours.new.values c.put_fours-2.new.values c.put_fours-3.new.values c.put_fours-4.new.values (omega arith) c.requires.places c.put_fours.ensures.written c.put_fours-2.ensures.written c.put_fours-3.ensures.written c.put_fours-4.ensures.written c.put_fours-2.ensures.parts c.put_fours-3.ensures.parts c.put_fours-4.ensures.parts read0 read1 read2 read3 i h

pub returns-clause-third : goal.returns-clause-third
returns-clause-third c =
    let read0 : (m : ℕ) → m < 4 → get_or c.first_by_turns-part0.result (4 * m + 2) 0 ≡ get_or c.args.c (m + 4 * 0) 0 =
    λ m h.
    let above : 4 * m + 2 ≡ 2 * (2 * m + 1) = omega arith in
    let between : 2 * m + 1 ≡ 2 * m + 1 = omega arith in
    let below : m ≡ m + 4 * 0 = omega arith in
    ap (λ n. get_or c.first_by_turns-part0.result n 0) above ∙ c.first_by_turns-part0.ensures.even (2 * m + 1) (omega arith)
    ∙ ap (λ n. get_or c.first_by_turns-low_even.result n 0) between ∙ c.first_by_turns-low_even.ensures.odd m (omega arith)
    ∙ ap (λ n. get_or c.args.c n 0) below in
    let read1 : (m : ℕ) → m < 4 → get_or c.last_by_turns-part1.result (4 * m + 2) 0 ≡ get_or c.args.c (m + 4 * 1) 0 =
    λ m h.
    let above : 4 * m + 2 ≡ 2 * (2 * m + 1) = omega arith in
    let between : 2 * m + 1 + 8 ≡ 2 * (m + 4) + 1 = omega arith in
    let below : m + 4 ≡ m + 4 * 1 = omega arith in
    ap (λ n. get_or c.last_by_turns-part1.result n 0) above ∙ c.last_by_turns-part1.ensures.even (2 * m + 1) (omega arith)
    ∙ ap (λ n. get_or c.first_by_turns-low_even.result n 0) between ∙ c.first_by_turns-low_even.ensures.odd (m + 4) (omega arith)
    ∙ ap (λ n. get_or c.args.c n 0) below in
    let read2 : (m : ℕ) → m < 4 → get_or c.first_by_turns-part2.result (4 * m + 2) 0 ≡ get_or c.args.c (m + 4 * 2) 0 =
    λ m h.
    let above : 4 * m + 2 ≡ 2 * (2 * m + 1) = omega arith in
    let between : 2 * m + 1 ≡ 2 * m + 1 = omega arith in
    let below : m + 8 ≡ m + 4 * 2 = omega arith in
    ap (λ n. get_or c.first_by_turns-part2.result n 0) above ∙ c.first_by_turns-part2.ensures.even (2 * m + 1) (omega arith)
    ∙ ap (λ n. get_or c.last_by_turns-high_even.result n 0) between ∙ c.last_by_turns-high_even.ensures.odd m (omega arith)
    ∙ ap (λ n. get_or c.args.c n 0) below in
    let read3 : (m : ℕ) → m < 4 → get_or c.last_by_turns-part3.result (4 * m + 2) 0 ≡ get_or c.args.c (m + 4 * 3) 0 =
    λ m h.
    let above : 4 * m + 2 ≡ 2 * (2 * m + 1) = omega arith in
    let between : 2 * m + 1 + 8 ≡ 2 * (m + 4) + 1 = omega arith in
    let below : m + 4 + 8 ≡ m + 4 * 3 = omega arith in
    ap (λ n. get_or c.last_by_turns-part3.result n 0) above ∙ c.last_by_turns-part3.ensures.even (2 * m + 1) (omega arith)
    ∙ ap (λ n. get_or c.last_by_turns-high_even.result n 0) between ∙ c.last_by_turns-high_even.ensures.odd (m + 4) (omega arith)
    ∙ ap (λ n. get_or c.args.c n 0) below in
    λ i h. rows_of_parts c.args.places 2 (λ n. int_wrap (integer_width c.args.lane_width) (pos n)) (λ n. get_or c.args.c n 0) c.first_by_turns-part0.result c.last_by_turns-part1.result c.first_by_turns-part2.result c.last_by_turns-part3.result c.put_fours.new.values c.put_fours-2.new.values c.put_fours-3.new.values c.put_fours-4.new.values (omega arith) c.requires.places c.put_fours.ensures.written c.put_fours-2.ensures.written c.put_fours-3.ensures.written c.put_fours-4.ensures.written c.put_fours-2.ensures.parts c.put_fours-3.ensures.parts c.put_fours-4.ensures.parts read0 read1 read2 read3 i h

pub returns-clause-fourth : goal.returns-clause-fourth
returns-clause-fourth c =
    let read0 : (m : ℕ) → m < 4 → get_or c.first_by_turns-part0.result (4 * m + 3) 0 ≡ get_or c.args.d (m + 4 * 0) 0 =
    λ m h.
    let above : 4 * m + 3 ≡ 2 * (2 * m + 1) + 1 = omega arith in
    let between : 2 * m + 1 ≡ 2 * m + 1 = omega arith in
    let below : m ≡ m + 4 * 0 = omega arith in
    ap (λ n. get_or c.first_by_turns-part0.result n 0) above ∙ c.first_by_turns-part0.ensures.odd (2 * m + 1) (omega arith)
    ∙ ap (λ n. get_or c.first_by_turns-low_odd.result n 0) between ∙ c.first_by_turns-low_odd.ensures.odd m (omega arith)
    ∙ ap (λ n. get_or c.args.d n 0) below in
    let read1 : (m : ℕ) → m < 4 → get_or c.last_by_turns-part1.result (4 * m + 3) 0 ≡ get_or c.args.d (m + 4 * 1) 0 =
    λ m h.
    let above : 4 * m + 3 ≡ 2 * (2 * m + 1) + 1 = omega arith in
    let between : 2 * m + 1 + 8 ≡ 2 * (m + 4) + 1 = omega arith in
    let below : m + 4 ≡ m + 4 * 1 = omega arith in
    ap (λ n. get_or c.last_by_turns-part1.result n 0) above ∙ c.last_by_turns-part1.ensures.odd (2 * m + 1) (omega arith)
    ∙ ap (λ n. get_or c.first_by_turns-low_odd.result n 0) between ∙ c.first_by_turns-low_odd.ensures.odd (m + 4) (omega arith)
    ∙ ap (λ n. get_or c.args.d n 0) below in
    let read2 : (m : ℕ) → m < 4 → get_or c.first_by_turns-part2.result (4 * m + 3) 0 ≡ get_or c.args.d (m + 4 * 2) 0 =
    λ m h.
    let above : 4 * m + 3 ≡ 2 * (2 * m + 1) + 1 = omega arith in
    let between : 2 * m + 1 ≡ 2 * m + 1 = omega arith in
    let below : m + 8 ≡ m + 4 * 2 = omega arith in
    ap (λ n. get_or c.first_by_turns-part2.result n 0) above ∙ c.first_by_turns-part2.ensures.odd (2 * m + 1) (omega arith)
    ∙ ap (λ n. get_or c.last_by_turns-high_odd.result n 0) between ∙ c.last_by_turns-high_odd.ensures.odd m (omega arith)
    ∙ ap (λ n. get_or c.args.d n 0) below in
    let read3 : (m : ℕ) → m < 4 → get_or c.last_by_turns-part3.result (4 * m + 3) 0 ≡ get_or c.args.d (m + 4 * 3) 0 =
    λ m h.
    let above : 4 * m + 3 ≡ 2 * (2 * m + 1) + 1 = omega arith in
    let between : 2 * m + 1 + 8 ≡ 2 * (m + 4) + 1 = omega arith in
    let below : m + 4 + 8 ≡ m + 4 * 3 = omega arith in
    ap (λ n. get_or c.last_by_turns-part3.result n 0) above ∙ c.last_by_turns-part3.ensures.odd (2 * m + 1) (omega arith)
    ∙ ap (λ n. get_or c.last_by_turns-high_odd.result n 0) between ∙ c.last_by_turns-high_odd.ensures.odd (m + 4) (omega arith)
    ∙ ap (λ n. get_or c.args.d n 0) below in
    λ i h. rows_of_parts c.args.places 3 (λ n. int_wrap (integer_width c.args.lane_width) (pos n)) (λ n. get_or c.args.d n 0) c.first_by_turns-part0.result c.last_by_turns-part1.result c.first_by_turns-part2.result c.last_by_turns-part3.result c.put_fours.new.values c.put_fours-2.new.values c.put_fours-3.new.values c.put_fours-4.new.values (omega arith) c.requires.places c.put_fours.ensures.written c.put_fours-2.ensures.written c.put_fours-3.ensures.written c.put_fours-4.ensures.written c.put_fours-2.ensures.parts c.put_fours-3.ensures.parts c.put_fours-4.ensures.parts read0 read1 read2 read3 i h

pub returns-clause-others : goal.returns-clause-others
returns-clause-others c = λ n apart. c.put_fours-4.ensures.others n apart ∙ c.put_fours-3.ensures.others n apart ∙ c.put_fours-2.ensures.others n apart ∙ c.put_fours.ensures.others n apart
