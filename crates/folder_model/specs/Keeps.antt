-- What a home keeps, whatever it is: a file or a folder.

-- What is said of a home: which moment may come after which, and what is safe at a moment; what a call has answered; and what a reader has
-- read who began by then. What is safe stays so, whatever a kill or a loss of power leaves.
pub record Keeps {M : Type 0} {C : Type 0} {P : Type 0} (Later : M → M → Type 0) (Safe : M → C → Type 0) (Answered : M → P → C → Type 0) (Began : M → P → C → Type 0) (HasRead : M → P → C → Type 0) : Type 0 where
  -- What was safe stays safe, at whatever moment all is stopped.
  pub stays : (m n : M) (c : C) → Later m n → Safe m c → Safe n c
  -- What was answered is safe.
  pub answered : (m : M) (p : P) (c : C) → Answered m p c → Safe m c
  -- Who reads has all that was there when it began.
  pub reads : (m : M) (p : P) (c : C) → Began m p c → HasRead m p c
