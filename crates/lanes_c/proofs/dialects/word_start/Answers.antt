-- A byte further, the word begins a byte later.
use Rattle.std.proofs.Common.{◌≡◌, ◌+◌, ◌∷◌, ◌∙◌, ◌-◌, List, ℕ, suc, drop, get_or, length, arith, ap, sym}
use Rattle.std.proofs.lemmas.List.{drop_more}
use Rattle.lanes_c.specs.Dialects.{commas_left, word_start}
use Rattle.lanes_c.proofs.DialectSteps.{word_further, word_here}
use Rattle.lanes_c.proofs.dialects.word_start.Goals as goal

pub returns-then-before-eq0 : goal.returns-then-before-eq0
returns-then-before-eq0 c =
    let words : List ℕ = c.args.words.now in
    let i : ℕ = c.loop-byte.byte-index in
    let here : word_start (drop i words) c.loop-byte.before ≡ 0 = word_here (drop i words) c.loop-byte.before c.if-before-eq0.true in
    omega (arith, c.loop-byte.invariant.start, here)

pub loop-byte-preserved : goal.loop-byte-preserved
loop-byte-preserved c =
    let words : List ℕ = c.args.words.now in
    let i : ℕ = c.loop-byte.byte-index in
    let split : drop i words ≡ get_or words i 0 ∷ drop (i + 1) words = drop_more words i 0 (omega arith) in
    let further : word_start (drop i words) c.loop-byte.before ≡ suc (word_start (drop (i + 1) words) (commas_left (get_or words i 0) c.loop-byte.before)) = ap (λ (l : List ℕ). word_start l c.loop-byte.before) split ∙ word_further (get_or words i 0) (drop (i + 1) words) c.loop-byte.before c.if-before-eq0.false in
    let left : word_start (drop (i + 1) words) c.commas_left-before.result ≡ word_start (drop (i + 1) words) (commas_left (get_or words i 0) c.loop-byte.before) = ap (word_start (drop (i + 1) words)) c.commas_left-before.ensures in
    record { start = omega (arith, c.loop-byte.invariant.start, further, left); few = omega (arith, c.loop-byte.invariant.few) }
