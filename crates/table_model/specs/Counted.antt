-- Counting failures.
use Rattle.std.specs.Prelude.{ℕ, ◌+◌, ◌-◌, ◌^◌, min, Bool, true, cond, ◌&&◌, ◌==◌, not, List, length, Result, Ok, Err}

-- one more failure, up to the greatest number
abbrev pub one_more : ℕ → ℕ
one_more n = min (n + 1) (2 ^ 64 - 1)

-- the count after a read: one more where it answered an error
abbrev pub after_read : {X E : Type 0} → Result X E → ℕ → ℕ
after_read (Ok x) n = n
after_read (Err e) n = one_more n

-- whether a write failed: an error, or none taken of a piece that isn't empty
abbrev pub write_fails : {E : Type 0} → Result ℕ E → List ℕ → Bool
write_fails (Ok taken) piece = taken == 0 && not (length piece == 0)
write_fails (Err e) piece = true

-- the count after a write: one more where it failed
abbrev pub after_write : {E : Type 0} → Result ℕ E → List ℕ → ℕ → ℕ
after_write outcome piece n = cond (write_fails outcome piece) (one_more n) n
