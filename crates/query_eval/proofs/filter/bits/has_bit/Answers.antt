-- Of a bit alone all bits are a word's exactly where the word has it.
use Rattle.std.proofs.Common.{◌≡◌, ◌^◌, List, ℕ, bit_and, get_or, map, nat_eq, ap, ◌∙◌, arith}
use Rattle.std.specs.List.{range_with_len}
use Rattle.std.proofs.lemmas.List.FromFn.{get_or-map-range_with_len}
use Rattle.query_eval.proofs.MaskedLemmas.{bit_alone}
use Rattle.query_eval.proofs.filter.bits.has_bit.Goals as goal

pub returns : goal.returns
returns c =
    let alone : List ℕ = map (λ bit. 2 ^ bit) (range_with_len 0 64) in
    let is : get_or alone c.args.bit 0 ≡ 2 ^ c.args.bit = get_or-map-range_with_len (λ bit. 2 ^ bit) 0 64 c.args.bit c.args.bit 0 c.requires (omega arith) in
    ap (λ n. nat_eq (bit_and c.args.word n) n) is ∙ bit_alone c.args.word c.args.bit
