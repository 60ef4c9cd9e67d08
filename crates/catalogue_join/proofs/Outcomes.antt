-- What follows where a call has answered `Ok`.
use Rattle.std.proofs.Common.{Result, Ok, Err, OnOk}

pub OnOk_then : {T E : Type 0} {P Q : Type 0} → (r : Result T E) → (P → Q) → OnOk r P → OnOk r Q
OnOk_then (Ok x) then p = then p
OnOk_then (Err e) then p = p
