-- Lane by lane, by its bit.
use Rattle.std.proofs.Common.{◌≡◌, ◌==◌, ℕ, eqb, Bool, true, false, cond, map, get_or, refl, ap, ◌∙◌, arith, w16}
use Rattle.std.specs.Int.{bit_at}
use Rattle.std.proofs.lemmas.Simd.{bit_mask_l, bitmask_splat}
use Rattle.std.proofs.lemmas.List.{get_or-map}
use Rattle.query_eval.proofs.filter.code_rows.equal_lanes.Goals as goal

pub returns : goal.returns
returns c b h =
    let p = λ (x : ℕ). eqb x c.args.code in
    ap (λ n. bit_at n b == 1) (bitmask_splat w16 eqb c.args.lanes 64 c.args.code c.requires (omega arith))
    ∙ ap (λ n. n == 1) (bit_mask_l (map p c.args.lanes) b) ∙ one (get_or (map p c.args.lanes) b false) ∙ get_or-map p c.args.lanes b 0 false (omega (arith, c.requires))
  where
    one : (x : Bool) → (cond x 1 0 == 1) ≡ x
    one true = refl
    one false = refl
