-- What was read so far of a reader that is read to its end.
use Rattle.std.proofs.Common.{◌≡◌, ℕ, ◌+◌, ◌<◌, ◌≤◌, Bool, List, [], ◌++◌, length, take, Option, Some, None, Result, Ok, Err, IsTrue, inl, inr, refl, sym, ap, subst, ◌∙◌, append_assoc, arith}
use Rattle.std.specs.Io.KnownBytes.{Consumes, IsAtEnd}
use Rattle.std.proofs.lemmas.List.{length-append, append-nil}
use Rattle.table_model.specs.Faults.{IsWithin, GaveMore}
use Rattle.table_model.specs.declared.refusal.Refusal.{Refusal}
use Rattle.table_model.specs.declared.refusal.Refusal.TheVariants.{Memory, ReadFault}
use Rattle.table_model.specs.Reading.{Reads}
use Rattle.column_file.specs.Input.{Judges, IsUnread, StopsReading, is_unread, unread_or}
use Rattle.table_model.specs.declared.counted.TheConstants.{READ_LIMIT}

-- nothing was read
pub consumes_none : (known : Option (List ℕ)) → Consumes known known []
consumes_none None = tt
consumes_none (Some xs) = refl

-- one piece after another
pub consumes_both : (old mid new : Option (List ℕ)) (xs ys : List ℕ) → Consumes old mid xs → Consumes mid new ys → Consumes old new (xs ++ ys)
consumes_both None mid new xs ys h k = tt
consumes_both (Some a) None new xs ys h k = absurd h
consumes_both (Some a) (Some b) None xs ys h k = absurd k
consumes_both (Some a) (Some b) (Some c) xs ys h k = h ∙ ap (λ (x : List ℕ). xs ++ x) k ∙ sym (append_assoc xs ys c)

-- what came is more than a call reads
pub gave_more : (old new : Option (List ℕ)) (xs : List ℕ) → Consumes old new xs → READ_LIMIT < length xs → GaveMore old new
gave_more None new xs h past = tt
gave_more (Some a) None xs h past = absurd h
gave_more (Some a) (Some b) xs h past = let long : length a ≡ length xs + length b = ap length h ∙ length-append xs b in omega arith

-- all came, and it isn't more than a call reads
pub is_within : (old new : Option (List ℕ)) (xs : List ℕ) → Consumes old new xs → IsAtEnd new → length xs ≤ READ_LIMIT → IsWithin old
is_within None new xs h end within = tt
is_within (Some a) None xs h end within = absurd h
is_within (Some a) (Some b) xs h end within = let long : length a ≡ length xs + length b = ap length h ∙ length-append xs b in let none : length b ≡ 0 = ap length end in omega arith

-- all that a reader had came
pub whole_input : (a : List ℕ) (new : Option (List ℕ)) (xs : List ℕ) → Consumes (Some a) new xs → IsAtEnd new → a ≡ xs
whole_input a None xs h end = absurd h
whole_input a (Some b) xs h end = h ∙ ap (λ (x : List ℕ). xs ++ x) end ∙ append-nil xs

-- a read that gave nothing
pub consumes_no_more : (old mid new : Option (List ℕ)) (xs buffer : List ℕ) (n : ℕ) → Consumes old mid xs → Consumes mid new (take n buffer) → n ≡ 0 → Consumes old new xs
consumes_no_more old mid new xs buffer n h k e =
    let P : ℕ → Type 0 = λ m. Consumes mid new (take m buffer) in
    let Q : List ℕ → Type 0 = λ ys. Consumes old new ys in
    let none : Consumes mid new [] = subst P e k in
    subst Q (append-nil xs) (consumes_both old mid new xs [] h none)

-- a read that gave a chunk, which came after what had come
pub consumes_chunk : (old mid new : Option (List ℕ)) (xs buffer chunk items : List ℕ) (n : ℕ) → Consumes old mid xs → Consumes mid new (take n buffer) → chunk ≡ take n buffer → items ≡ xs ++ chunk → Consumes old new items
consumes_chunk old mid new xs buffer chunk items n h k e f =
    let Q : List ℕ → Type 0 = λ ys. Consumes old new ys in
    let R : List ℕ → Type 0 = λ ys. Consumes mid new ys in
    subst Q (sym f) (consumes_both old mid new xs chunk h (subst R (sym e) k))

-- what a whole input means is what a call that read it returned
pub judged : {X Y : Type 0} (view : X → Y) (result : Result X Refusal) (old new : Option (List ℕ)) (input : List ℕ) (meaning : List ℕ → Result Y Refusal) → Consumes old new input → IsAtEnd new → Reads view result (meaning input) → Judges view result old meaning
judged view result None new input meaning h end reads = tt
judged {X = X} {Y = Y} view (Ok x) (Some a) new input meaning h end reads = ap meaning (whole_input a new input h end) ∙ reads
judged view (Err e) (Some a) new input meaning h end (inl same) = λ _ _. ap meaning (whole_input a new input h end) ∙ same
judged view (Err e) (Some a) new input meaning h end (inr memory) = λ not_memory _. absurd (not_memory memory)

-- ---- an input that was not read

-- a call that judges nothing of it is refused for want of memory or a failed read
pub unread_is : (e : Refusal) → IsTrue (is_unread e) → IsUnread e
unread_is Memory is = inl refl
unread_is ReadFault is = inr refl
unread_is other is = absurd cc

-- then nothing is said of what it means
pub unread : {X Y : Type 0} (view : X → Y) (e : Refusal) (old : Option (List ℕ)) (meaning : List ℕ → Result Y Refusal) → IsTrue (is_unread e) → Judges {X = X} view (Err e) old meaning
unread view e None meaning is = tt
unread view e (Some a) meaning is = λ not_memory not_fault. elim (unread_is e is) [ inl memory ↦ absurd (not_memory memory) | inr fault ↦ absurd (not_fault fault) ]

unread_listed : (F : Refusal → Bool) (e : Refusal) → IsTrue (is_unread e) → IsTrue (unread_or F e)
unread_listed F Memory is = refl
unread_listed F ReadFault is = refl
unread_listed F other is = absurd cc

-- and a call that was to judge it is refused so too
pub unread_stops : {D : Type 0} (remaining : D → Option (List ℕ)) (F : Refusal → Bool) (old new : D × ℕ) (e : Refusal) → StopsReading remaining is_unread old new e → StopsReading remaining (unread_or F) old new e
unread_stops remaining F old new e stops = record { listed = unread_listed F e stops.listed; whole = stops.whole; counts = stops.counts }
