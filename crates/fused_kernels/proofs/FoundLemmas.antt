-- The rows found are those at which the test holds, with bounds of 128 bits as they are passed.
use Rattle.std.proofs.Common.{◌≡◌, ◌<◌, not, Bool, if◌then◌else◌, ℕ, ℤ, List, Option, Some, None, IfSome, FitsSigned, to_z, of_z, sym, ap, ◌∙◌}
use Rattle.std.specs.Int.{w128}
use Rattle.std.proofs.lemmas.Int.{to_z-of_z}
use Rattle.table_model.specs.Truth.{compared}
use Rattle.table_model.specs.declared.op.Op.{Op}
use Rattle.transpose_order.specs.Mask.{rows_of, has}
use Rattle.transpose_order.specs.MaskWords.{rows_of-like, has-rows_of}
use Rattle.segment_core.specs.Coded.{value_in}
use Rattle.segment_core.specs.declared.coded.Coded.{Coded}
use Rattle.fused_kernels.specs.Seen.{between}

pub found_where : (found : List Bool) (low high : ℤ) (coded k : Coded) (n : ℕ) → FitsSigned w128 low → FitsSigned w128 high → k ≡ coded
    → found ≡ rows_of (λ n. between (to_z w128 (of_z w128 low)) (to_z w128 (of_z w128 high)) (value_in k n)) → n < 1024 → has found n ≡ between low high (value_in coded n)
found_where found low high coded k n fl fh same is h =
    ap (λ m. has m n) is ∙ has-rows_of (λ n. between (to_z w128 (of_z w128 low)) (to_z w128 (of_z w128 high)) (value_in k n)) n h
    ∙ ap (λ (x : Coded). between (to_z w128 (of_z w128 low)) (to_z w128 (of_z w128 high)) (value_in x n)) same
    ∙ ap (λ x. between x (to_z w128 (of_z w128 high)) (value_in coded n)) (to_z-of_z w128 low fl) ∙ ap (λ x. between low x (value_in coded n)) (to_z-of_z w128 high fh)

-- a comparison holds inside the range or outside it
pub held_where : (held found : List Bool) (inside : Bool) (op : Op) (literal low high v : ℤ) (n : ℕ) → held ≡ rows_of (λ n. if inside then has found n else not (has found n)) → n < 1024 → has found n ≡ between low high v → FitsSigned w128 literal
    → compared op v (to_z w128 (of_z w128 literal)) ≡ (if inside then between low high v else not (between low high v)) → has held n ≡ compared op v literal
held_where held found inside op literal low high v n is h at fits range =
    ap (λ m. has m n) is ∙ has-rows_of (λ n. if inside then has found n else not (has found n)) n h
    ∙ ap (λ b. if inside then b else not b) at ∙ sym range ∙ ap (compared op v) (to_z-of_z w128 literal fits)

-- rows that are found where a test holds are found where one holds that is the same
pub found_alike : (found : Option (List Bool)) (f g : ℕ → Bool) → IfSome found (λ rows. rows ≡ rows_of f) → ((n : ℕ) → n < 1024 → f n ≡ g n) → IfSome found (λ rows. rows ≡ rows_of g)
found_alike None f g is same = is
found_alike (Some rows) f g is same = is ∙ rows_of-like f g same
