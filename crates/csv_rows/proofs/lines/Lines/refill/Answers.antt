use Rattle.std.proofs.Common.{◌≡◌, ◌∙◌, ◌++◌, List, ℕ, ap, sym, arith, rules, length, take, drop, length-drop}
use Rattle.std.proofs.lemmas.List.{length-take-le}
use Rattle.csv_rows.proofs.Ranges.{refilled}
use Rattle.csv_rows.proofs.lines.Lines.refill.Goals as goal

pub returns-clause-grows : goal.returns-clause-grows
returns-clause-grows g c =
    let old : List ℕ = c.self.inside.buffer.items in
    let new : List ℕ = c.read_behind.new.buffer in
    let from : ℕ = c.self.inside.from in
    let to : ℕ = c.self.inside.to in
    let count : ℕ = c.in_ok-count.count in
    let whole : length new ≡ c.self.inside.buffer.len = c.read_behind.ensures.len ∙ c.as_mut_slice.ensures.len in
    let same : take to new ≡ take to old = c.read_behind.ensures.front ∙ ap (take to) c.as_mut_slice.ensures.value in
    let long : length new ≡ length old = c.read_behind.ensures.len ∙ ap length c.as_mut_slice.ensures.value in
    let view : c.args.self.now.pending ≡ drop from (take to old) = search rules in
    let taken : length (take count (drop to new)) ≡ count = length-take-le count (drop to new) (omega (arith, length-drop to new, c.in_ok-count.ensures.bound, c.read_behind.ensures.len)) in (
      take count (drop to new),
      taken,
      refilled old new from to count c.self.inside.buffer.len whole same c.self.invariant.0 (omega (arith, c.self.invariant.1, whole, long)) ∙ ap (λ (xs : List ℕ). xs ++ take count (drop to new)) (sym view),
      c.in_ok-count.ensures.bytes,
    )
