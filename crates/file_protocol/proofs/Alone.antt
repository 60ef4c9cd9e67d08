-- Nobody else does anything.
use Rattle.std.proofs.Common.{ℕ, List, Option, inl, refl}
use Rattle.file_protocol.specs.Disk.{Disk}
use Rattle.file_protocol.specs.Safe.{Others}

module _ (lock name : List ℕ) where
  -- nobody else does anything
  pub alone : (laters : List (Option (List ℕ))) (d : Disk) → Others lock name laters d d
  alone laters d = record {
    mine = refl;
    place = refl;
    clean = refl;
    locked = refl;
    kept = λ k. k;
    left = λ c l. inl l;
    shown = λ c l. inl l;
    held = λ has. record { leads = refl; bytes = refl; synced = λ s. s; old = λ c l. l; reads = λ c r. r; apart = λ a. a };
  }
