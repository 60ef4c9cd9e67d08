-- A part's name is one that parts have, so what has another name is no part. It begins with a digit.
use Rattle.std.specs.Prelude.{◌≡◌, ℕ, zero, suc, ◌+◌, ◌*◌, ◌/◌, ◌%◌, ◌^◌, ◌<◌, ◌≤◌, Bool, true, false, ◌&&◌, ◌==◌, nat_le, List, [], ◌∷◌, ◌++◌, length, take, drop, slice_index, codes}
use Rattle.std.proofs.Common.{refl, ap, sym, ◌∙◌, arith, length-append}
use Rattle.std.proofs.Math.Seq.{take-append_seam, drop-append_seam}
use Rattle.std.proofs.lemmas.Bool.{and_parts, leb-true}
use Rattle.std.proofs.lemmas.Bool.Decides.{nat_tests}
use Rattle.std.proofs.lemmas.List.{length-take-le}
use Rattle.std.proofs.lemmas.List.Folds.{list_all-append}
use Rattle.std.specs.Int.{to_be_bytes, w64, byte_at, bytes_high_first}
use Rattle.std.specs.List.{list_all}
use Rattle.table_model.specs.Identifier.{same_text}
use Rattle.table_model.proofs.SameTable.{itself_text}
use Rattle.hex.specs.Hex.{encode_with, encode_lower, lower_digits}
use Rattle.hex.proofs.HexLemmas.{length-encode_with}
use Rattle.sha2.specs.Sha512.{sha512, digest_bytes, final_hash, initial_hash_512}
use Rattle.sha2.proofs.Facts512.{length-sha512}
use Rattle.folder_model.specs.Digits.{is_digit}
use Rattle.folder_model.specs.Parts.{IsNoPart}
use Rattle.folder_parts.specs.Covers.{folder_parts}
use Rattle.folder_parts.specs.PartName.{part_name, is_part_name}

-- ---- a digest has bytes

abbrev is_byte : ℕ → Bool
is_byte b = nat_le b 255

one_byte : (n : ℕ) → nat_le (n % 256) 255 ≡ true
one_byte n = grind (arith, nat_tests)

byte_fits : (k n : ℕ) → nat_le (byte_at k n) 255 ≡ true
byte_fits zero n = one_byte n
byte_fits (suc k) n = one_byte (n / 256 ^ suc k)

bytes_of_word : (k n : ℕ) → list_all is_byte (bytes_high_first k n) ≡ true
bytes_of_word zero n = refl
bytes_of_word (suc k) n =
    let here : is_byte (byte_at k n) ≡ true = byte_fits k n in
    let rest : list_all is_byte (bytes_high_first k n) ≡ true = bytes_of_word k n in λ i. here i && rest i

bytes_of_digest : (h : List ℕ) (n : ℕ) → list_all is_byte (digest_bytes h n) ≡ true
unfolding digest_bytes
bytes_of_digest h zero = refl
bytes_of_digest h (suc n) =
    list_all-append is_byte (digest_bytes h n) (to_be_bytes w64 (slice_index h n))
    ∙ (λ i. bytes_of_digest h n i && bytes_of_word 8 (slice_index h n) i)

bytes_of_sha512 : (bytes : List ℕ) → list_all is_byte (sha512 bytes) ≡ true
unfolding sha512
bytes_of_sha512 bytes = bytes_of_digest (final_hash initial_hash_512 bytes) 8

-- ---- its hexadecimal digits are digits

all_taken : (p : ℕ → Bool) (n : ℕ) (xs : List ℕ) → list_all p xs ≡ true → list_all p (take n xs) ≡ true
all_taken p zero xs all = refl
all_taken p (suc n) [] all = refl
all_taken p (suc n) (x ∷ xs) all =
    let both = and_parts (p x) (list_all p xs) all in λ i. both.0 i && all_taken p n xs both.1 i

all_at : (p : ℕ → Bool) (xs : List ℕ) → list_all p xs ≡ true → (k : ℕ) → k < length xs → p (slice_index xs k) ≡ true
all_at p [] all k below = let no : ⊥ = omega (arith, below) in absurd no
all_at p (x ∷ xs) all zero below = (and_parts (p x) (list_all p xs) all).0
all_at p (x ∷ xs) all (suc k) below = all_at p xs (and_parts (p x) (list_all p xs) all).1 k (omega (arith, below))

high : (b : ℕ) → b ≤ 255 → b / 16 < 16
high b le = omega (arith, le)

low : (b : ℕ) → b % 16 < 16
low b = omega arith

are_digits : (bytes : List ℕ) → list_all is_byte bytes ≡ true → list_all is_digit (encode_with lower_digits bytes) ≡ true
unfolding encode_with
are_digits [] all = refl
are_digits (b ∷ bytes) all =
    let both = and_parts (is_byte b) (list_all is_byte bytes) all in
    let first : is_digit (slice_index lower_digits (b / 16)) ≡ true = all_at is_digit lower_digits refl (b / 16) (high b (leb-true b 255 both.0)) in
    let second : is_digit (slice_index lower_digits (b % 16)) ≡ true = all_at is_digit lower_digits refl (b % 16) (low b) in
    let rest : list_all is_digit (encode_with lower_digits bytes) ≡ true = are_digits bytes both.1 in λ i. first i && (second i && rest i)

-- ---- the name

long : (n m : ℕ) → n ≡ 32 → m ≡ n + 6 → m == 38 ≡ true
long n m is more = grind (arith, nat_tests)

ends : (digits : List ℕ) → length digits ≡ 32 → list_all is_digit digits ≡ true → is_part_name (digits ++ codes ".lanes") ≡ true
unfolding is_part_name
ends digits is all =
    let name : List ℕ = digits ++ codes ".lanes" in
    let front : take 32 name ≡ digits = ap (λ (n : ℕ). take n name) (sym is) ∙ take-append_seam digits (codes ".lanes") in
    let back : drop 32 name ≡ codes ".lanes" = ap (λ (n : ℕ). drop n name) (sym is) ∙ drop-append_seam digits (codes ".lanes") in
    let size : length name == 38 ≡ true = long (length digits) (length name) is (length-append digits (codes ".lanes")) in
    let figures : list_all is_digit (take 32 name) ≡ true = ap (list_all is_digit) front ∙ all in
    let ending : same_text (drop 32 name) (codes ".lanes") ≡ true = ap (λ (xs : List ℕ). same_text xs (codes ".lanes")) back ∙ itself_text (codes ".lanes") in λ i. size i && (figures i && ending i)

pub names_are : (bytes : List ℕ) → is_part_name (part_name bytes) ≡ true
unfolding part_name
names_are bytes =
    let digest : List ℕ = take 16 (sha512 bytes) in
    let size : length digest ≡ 16 = length-take-le 16 (sha512 bytes) (let l = length-sha512 bytes in omega (arith, l)) in
    ends (encode_lower digest) (length-encode_with lower_digits digest ∙ ap (λ (n : ℕ). 2 * n) size) (are_digits digest (all_taken is_byte 16 (sha512 bytes) (bytes_of_sha512 bytes)))

pub no_part : (name : List ℕ) → is_part_name name ≡ false → IsNoPart folder_parts name
no_part name is bytes same = let both : true ≡ false = sym (names_are bytes) ∙ ap is_part_name (sym same) ∙ is in cc

-- ---- how it begins

begins : (first : ℕ) (rest : List ℕ) → is_part_name (first ∷ rest) ≡ true → is_digit first ≡ true
unfolding is_part_name
begins first rest named =
    let name : List ℕ = first ∷ rest in
    let both = and_parts (length name == 38) (list_all is_digit (take 32 name) && same_text (drop 32 name) (codes ".lanes")) named in
    let digits = and_parts (list_all is_digit (take 32 name)) (same_text (drop 32 name) (codes ".lanes")) both.1 in
    (and_parts (is_digit first) (list_all is_digit (take 31 rest)) digits.0).0

-- what begins otherwise than with a digit is no part's name
pub begins_otherwise : (first : ℕ) (rest : List ℕ) → is_digit first ≡ false → IsNoPart folder_parts (first ∷ rest)
begins_otherwise first rest none bytes same =
    let named : is_part_name (first ∷ rest) ≡ true = ap is_part_name same ∙ names_are bytes in
    let both : true ≡ false = sym (begins first rest named) ∙ none in cc
