-- The values of a form are among its own, so a vector that it stands for is in range.
use Rattle.std.proofs.Common.{◌≡◌, ℕ, suc, ◌<◌, ℤ, pos, of_z, to_z, FitsSigned, List, [], ◌∷◌, map, length, get_or, refl, sym, subst, arith}
use Rattle.std.specs.Int.{w64}
use Rattle.std.proofs.lemmas.Int.{to_z-of_z}
use Rattle.std.proofs.lemmas.List.Elements.{All-from_get_or}
use Rattle.transpose_order.specs.Mask.{rows_of}
use Rattle.transpose_order.specs.MaskWords.{get_or-rows_of, length-rows_of}
use Rattle.bit_interleave.specs.Arithmetic.{integer_width}
use Rattle.bit_interleave.specs.Range.{AreInRange}
use Rattle.run_dictionary.specs.Runs.{RunForm, IsRunForm, run_of, run_value, run_values}
use Rattle.run_dictionary.specs.Dict.{DictForm, IsDictForm, code_at, dict_value, dict_values}
use Rattle.run_dictionary.proofs.RunLemmas.{run_of-within}

AreInRange-rows_of : (t : ℕ) (f : ℕ → ℤ) → ((n : ℕ) → n < 1024 → FitsSigned (integer_width t) (f n)) → AreInRange t (rows_of f)
AreInRange-rows_of t f h =
    All-from_get_or (λ z. FitsSigned (integer_width t) z) (rows_of f) (pos 0)
    (λ n l. let row : n < 1024 = omega (arith, length-rows_of f) in subst (λ (z : ℤ). FitsSigned (integer_width t) z) (sym (get_or-rows_of f n (pos 0) row)) (h n row))

pub run_value-fits : (form : RunForm) → IsRunForm form → (n : ℕ) → n < 1024 → FitsSigned (integer_width form.lane_width) (run_value form n)
run_value-fits form f n h = f.range (run_of form.starts n) (pos 0) (run_of-within form f n h)

pub AreInRange-run_values : (form : RunForm) → IsRunForm form → AreInRange form.lane_width (run_values form)
unfolding run_values
AreInRange-run_values form f = AreInRange-rows_of form.lane_width (run_value form) (run_value-fits form f)

pub dict_value-fits : (form : DictForm) → IsDictForm form → (n : ℕ) → n < 1024 → FitsSigned (integer_width form.lane_width) (dict_value form n)
dict_value-fits form f n h = f.range (code_at form n) (pos 0) (f.codes n h)

pub AreInRange-dict_values : (form : DictForm) → IsDictForm form → AreInRange form.lane_width (dict_values form)
unfolding dict_values
AreInRange-dict_values form f = AreInRange-rows_of form.lane_width (dict_value form) (dict_value-fits form f)

-- signed numbers of 64 bits are read back from their bits as they are
pub read_back : (xs : List ℤ) → ((i : ℕ) → i < length xs → FitsSigned w64 (get_or xs i (pos 0))) → map (to_z w64) (map (of_z w64) xs) ≡ xs
read_back [] h = refl
read_back (x ∷ xs) h =
    let first : to_z w64 (of_z w64 x) ≡ x = to_z-of_z w64 x (h 0 (omega arith)) in
    let rest = read_back xs (λ i l. h (suc i) (omega arith)) in
    λ i. first i ∷ rest i
