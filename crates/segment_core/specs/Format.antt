-- Byte formats: a value's bytes, which values have bytes, and how bytes are read, with the first fault.
use Rattle.std.specs.Prelude.{◌≡◌, ℕ, zero, suc, ◌-◌, ◌/◌, ◌^◌, nat_lt, Bool, true, false, cond, ◌&&◌, ◌==◌, List, [], ◌∷◌, ◌++◌, length, take, drop, Option, Some, None, is_none, Result, Ok, Err, ℤ, pos, negsuc}
use Rattle.std.specs.Int.{cast_unsigned, int_wrap}
use Rattle.std.specs.Io.KnownBytes.{Appends}
use Rattle.std.specs.List.{list_all}
use Rattle.byteorder.specs.Endian.{little_number, little_bytes}
use Rattle.table_model.specs.Counted.{one_more}
use Rattle.table_model.specs.Faults.{AppendsFront}
use Rattle.table_model.specs.Identifier.{same_text}
use Rattle.table_model.specs.Reading.{◌>>=◌}
use Rattle.table_model.specs.declared.refusal.Refusal.{Refusal}
use Rattle.table_model.specs.declared.refusal.Refusal.TheVariants.{Truncated, TrailingBytes, WriteFault}
use Rattle.bit_interleave.specs.Arithmetic.{integer_width}

-- A format of values: the bytes of a value, whether a value has bytes, and, given how many bytes the whole input has, the value
-- at the front of what is left of it with what comes after that, or the first fault.
pub record Format (A : Type 0) : Type 0 where
  pub spell : A → List ℕ
  pub valid : A → Bool
  pub read : ℕ → List ℕ → Result (A × List ℕ) Refusal

-- whether a number is a byte
abbrev pub is_byte : ℕ → Bool
is_byte b = nat_lt b 256

-- each is a byte
abbrev pub AreBytes : List ℕ → Type 0
AreBytes bytes = list_all is_byte bytes ≡ true

-- What is read is spelled so and is valid, and what is valid and spelled so is read, whatever comes after it.
pub record IsLawful {A : Type 0} (f : Format A) : Type 0 where
  pub takes : (total : ℕ) (bytes : List ℕ) (x : A) (rest : List ℕ) → AreBytes bytes → f.read total bytes ≡ Ok (x, rest)
      → (bytes ≡ f.spell x ++ rest) × (f.valid x ≡ true)
  pub again : (total : ℕ) (x : A) (rest : List ℕ) → f.valid x ≡ true → f.read total (f.spell x ++ rest) ≡ Ok (x, rest)

-- a number of bytes as they are
abbrev pub raw : ℕ → Format (List ℕ)
raw n = record {
  spell = λ bytes. bytes;
  valid = λ bytes. length bytes == n && list_all is_byte bytes;
  read = λ total bytes. cond (nat_lt (length bytes) n) (Err (Truncated total)) (Ok (take n bytes, drop n bytes));
}

-- the bytes of a value that may not be there
abbrev pub spell_some : {A : Type 0} → Format A → Option A → List ℕ
spell_some f None = []
spell_some f (Some x) = f.spell x

-- whether a value is there and has bytes
abbrev pub valid_some : {A : Type 0} → Format A → Option A → Bool
valid_some f None = false
valid_some f (Some x) = f.valid x

-- a format's values seen as others; those that represent none have no bytes
abbrev pub seen : {A B : Type 0} → Format A → (A → B) → (B → Option A) → Format B
seen f to from = record {
  spell = λ y. spell_some f (from y);
  valid = λ y. valid_some f (from y);
  read = λ total bytes. f.read total bytes >>= λ x. Ok (to x.0, x.1);
}

-- the values that pass a test; for another the fault has the place of its first byte
abbrev pub checked : {A : Type 0} → Format A → (A → Bool) → (ℕ → Refusal) → Format A
checked f test fault = record {
  spell = f.spell;
  valid = λ x. f.valid x && test x;
  read = λ total bytes. f.read total bytes >>= λ x. cond (test x.0) (Ok x) (Err (fault (total - length bytes)));
}

-- one value before another, whose format may depend on it
abbrev pub before : {A B : Type 0} → Format A → (A → Format B) → Format (A × B)
before f g = record {
  spell = λ p. f.spell p.0 ++ (g p.0).spell p.1;
  valid = λ p. f.valid p.0 && (g p.0).valid p.1;
  read = λ total bytes. f.read total bytes >>= λ x. (g x.0).read total x.1 >>= λ y. Ok ((x.0, y.0), y.1);
}

-- a value that is there exactly where a flag says so
abbrev pub optional : {A : Type 0} → Bool → Format A → Format (Option A)
optional true f = seen f Some (λ o. o)
optional false f = record {
  spell = λ o. [];
  valid = λ o. is_none o;
  read = λ total bytes. Ok (None, bytes);
}

-- a number of items read one after another, of which each format may depend on the items before it
unfoldable pub read_all : {A : Type 0} → (List A → Format A) → ℕ → List A → ℕ → List ℕ → Result (List A × List ℕ) Refusal
read_all item zero front total bytes = Ok (front, bytes)
read_all item (suc n) front total bytes = (item front).read total bytes >>= λ x. read_all item n (front ++ x.0 ∷ []) total x.1

-- the bytes of items after those of the items before them
unfoldable pub spell_all : {A : Type 0} → (List A → Format A) → List A → List A → List ℕ
spell_all item front [] = []
spell_all item front (x ∷ xs) = (item front).spell x ++ spell_all item (front ++ x ∷ []) xs

-- whether each item has bytes after the items before it
unfoldable pub valid_all : {A : Type 0} → (List A → Format A) → List A → List A → Bool
valid_all item front [] = true
valid_all item front (x ∷ xs) = (item front).valid x && valid_all item (front ++ x ∷ []) xs

-- a number of items, of which each format may depend on the items before it
abbrev pub all : {A : Type 0} → ℕ → (List A → Format A) → Format (List A)
all n item = record {
  spell = spell_all item [];
  valid = λ xs. length xs == n && valid_all item [] xs;
  read = read_all item n [];
}

-- an unsigned number of a number of bytes, the lowest first
abbrev pub number : ℕ → Format ℕ
number n = seen (raw n) (little_number n) (λ x. cond (nat_lt x (256 ^ n)) (Some (little_bytes n x)) None)

-- whether a number is in the range of a number of bits, signed
abbrev pub is_in_bits : ℕ → ℤ → Bool
is_in_bits t (pos n) = nat_lt n (2 ^ (t - 1))
is_in_bits t (negsuc n) = nat_lt n (2 ^ (t - 1))

-- a signed number of a number of bits in two's complement, the lowest byte first
abbrev pub signed : ℕ → Format ℤ
signed t =
    seen (number (t / 8)) (λ n. int_wrap (integer_width t) (pos n)) (λ z. cond (is_in_bits t z) (Some (cast_unsigned (integer_width t) z)) None)

-- a text that is always the same
abbrev pub constant : List ℕ → Refusal → Format (List ℕ)
constant text fault = checked (raw (length text)) (same_text text) (λ _. fault)

-- a value that takes all bytes, so that nothing comes after it
abbrev pub read_whole : {A : Type 0} → Format A → List ℕ → Result A Refusal
read_whole f bytes =
    f.read (length bytes) bytes >>= λ x. cond (length x.1 == 0) (Ok x.0) (Err (TrailingBytes (length bytes - length x.1)))

-- ---- writing

-- A call that writes bytes to a writer, which had counted a number of failures before and has counted another after: all are written
-- and nothing failed, or the refusal is WriteFault, there is one more failure, and a front of the bytes was written.
abbrev pub Writes : Result (Unit {0}) Refusal → Option (List ℕ) → Option (List ℕ) → ℕ → ℕ → List ℕ → Type 0
Writes (Ok done) old new before after bytes = Appends old new bytes × (after ≡ before)
Writes (Err e) old new before after bytes = (e ≡ WriteFault) × (after ≡ one_more before) × AppendsFront old new bytes
