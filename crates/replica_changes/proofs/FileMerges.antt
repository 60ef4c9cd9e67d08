-- Files are merged one after another: what is still to come is the merge of the files that are left into what was made so far.
use Rattle.std.specs.Prelude.{◌≡◌, ◌⊎◌, ℕ, true, zero, suc, ◌+◌, ◌-◌, ◌<◌, ◌≤◌, List, [], ◌∷◌, length, map, Option, Some, None, Result, Ok, Err, IfErr, OnOk}
use Rattle.std.proofs.Common.{refl, sym, ap, subst, ◌∙◌, inl, inr, arith, drop, get_or, set}
use Rattle.std.proofs.lemmas.List.{drop_more, drop-set-lt, drop_all, length-map, length-drop}
use Rattle.table_model.specs.Faults.{AppendsFront}
use Rattle.table_model.specs.Outcome.{Gives}
use Rattle.table_model.specs.Reading.{Reads, ◌>>=◌}
use Rattle.table_model.specs.declared.refusal.Refusal.{Refusal}
use Rattle.table_model.specs.declared.refusal.Refusal.TheVariants.{Memory, ReadFault, WriteFault}
use Rattle.replica_store.specs.Replica.{Replica, merged}
use Rattle.column_file.specs.Input.{Judges, IsUnread}
use Rattle.replica_changes.proofs.FileLaws.{ok_one}
use Rattle.replica_reports.specs.Held.{held_in}
use Rattle.replica_changes.specs.Commands.{file_of, Refuses, WritesFront, Puts, merged_with, merged_files, Merging, MergesAll, Merges, written_of}

one_then : (other : Replica) (bytes : List ℕ) (old : Replica) (rest : List (List ℕ)) → held_in bytes ≡ Ok other
    → merged_with old (bytes ∷ rest) ≡ (merged old other >>= λ (done : Unit {0} × Replica). merged_with done.1 rest)
one_then other bytes old rest is = ap (λ (x : Result Replica Refusal). x >>= λ (r : Replica). merged old r >>= λ (done : Unit {0} × Replica). merged_with done.1 rest) is

-- a file that was read, and joined or refused
pub merging_done : {X Y : Type 0} (read : X → Replica) (view : Y → Replica) (x : X) (result : Result Y Refusal) (input : Option (List ℕ)) (old : Replica) → Judges read (Ok x) input held_in
    → Reads (λ (y : Y). (tt, view y)) result (merged old (read x)) → Merging view result input old
merging_done read view x result None old h joined = tt
merging_done read view x (Ok y) (Some bytes) old h joined =
    one_then (read x) bytes old [] h ∙ ap (λ (m : Result (Unit {0} × Replica) Refusal). m >>= λ (made : Unit {0} × Replica). merged_with made.1 []) joined
merging_done read view x (Err e) (Some bytes) old h (inl refused) =
    inl (one_then (read x) bytes old [] h ∙ ap (λ (m : Result (Unit {0} × Replica) Refusal). m >>= λ (made : Unit {0} × Replica). merged_with made.1 []) refused)
merging_done read view x (Err e) (Some bytes) old h (inr lack) = inr (inl lack)

-- what is so whatever was returned
pub for_ok : {X P : Type 0} (result : Result X Refusal) → P → OnOk result P
for_ok (Ok x) p = p
for_ok (Err e) p = tt

-- what a call that only memory refuses says, where it is refused
pub for_lack : {X Y : Type 0} (view : X → Y) (P : Refusal → Type 0) (y : Y) (result : Result X Refusal) → Gives view result (Ok y) → P Memory → IfErr result P
for_lack view P y (Ok x) given h = tt
for_lack view P y (Err e) (inl never) h = absurd (cc)
for_lack view P y (Err e) (inr lack) h = subst P (sym lack.0) h

-- ---- one file after another

after_one : (x : Result Replica Refusal) (old new : Replica) (rest : List (List ℕ)) → (x >>= λ (r : Replica). merged old r >>= λ (done : Unit {0} × Replica). merged_with done.1 []) ≡ Ok new
    → (x >>= λ (r : Replica). merged old r >>= λ (done : Unit {0} × Replica). merged_with done.1 rest) ≡ merged_with new rest
after_one (Err e) old new rest made = cc
after_one (Ok r) old new rest made = go (merged old r) made
  where
    go : (m : Result (Unit {0} × Replica) Refusal) → (m >>= λ (done : Unit {0} × Replica). merged_with done.1 []) ≡ Ok new → (m >>= λ (done : Unit {0} × Replica). merged_with done.1 rest) ≡ merged_with new rest
    go (Err e) is = cc
    go (Ok done) is = let same : done.1 ≡ new = cc in ap (λ (n : Replica). merged_with n rest) same

refused_one : (x : Result Replica Refusal) (old : Replica) (e : Refusal) (rest : List (List ℕ)) → (x >>= λ (r : Replica). merged old r >>= λ (done : Unit {0} × Replica). merged_with done.1 []) ≡ Err e
    → (x >>= λ (r : Replica). merged old r >>= λ (done : Unit {0} × Replica). merged_with done.1 rest) ≡ Err e
refused_one (Err f) old e rest made = let same : f ≡ e = cc in ap (λ (g : Refusal). let r : Result Replica Refusal = Err g in r) same
refused_one (Ok r) old e rest made = go (merged old r) made
  where
    go : (m : Result (Unit {0} × Replica) Refusal) → (m >>= λ (done : Unit {0} × Replica). merged_with done.1 []) ≡ Err e → (m >>= λ (done : Unit {0} × Replica). merged_with done.1 rest) ≡ Err e
    go (Err f) is = let same : f ≡ e = cc in ap (λ (g : Refusal). let r : Result Replica Refusal = Err g in r) same
    go (Ok done) is = cc

-- files were merged up to a place: the readers from there on are as they were, and the rest is merged into what was made
pub record MergedSoFar {D : Type 0} (remaining : D → Option (List ℕ)) (start now : Replica) (all readers : List (D × ℕ)) (at : ℕ) : Type 0 where
  pub untouched : drop at readers ≡ drop at all
  pub rest : (inputs : List (List ℕ)) → map (λ (reader : D × ℕ). remaining reader.0) all ≡ map Some inputs → merged_with start inputs ≡ merged_with now (drop at inputs)

at_place : {D : Type 0} (remaining : D → Option (List ℕ)) (all : List (D × ℕ)) (inputs : List (List ℕ)) (at : ℕ) (d : D × ℕ) → map (λ (reader : D × ℕ). remaining reader.0) all ≡ map Some inputs → at < length all
    → (remaining (get_or all at d).0 ≡ Some (get_or inputs at [])) × (drop at inputs ≡ get_or inputs at [] ∷ drop (at + 1) inputs)
at_place remaining [] inputs at d known below = let no : ⊥ = omega (arith, below) in absurd no
at_place remaining (reader ∷ all) [] at d known below = cc
at_place remaining (reader ∷ all) (input ∷ inputs) zero d known below =
    let head : remaining reader.0 ≡ Some input = cc in (head, refl)
at_place {D = D} remaining (reader ∷ all) (input ∷ inputs) (suc at) d known below =
    let tail : map (λ (r : D × ℕ). remaining r.0) all ≡ map Some inputs = cc in
    let under : at < length all = omega (arith, below) in
    let rest = at_place remaining all inputs at d tail under in
    let one : suc (at + 1) ≡ suc at + 1 = omega arith in
    (rest.0, rest.1 ∙ ap (λ (n : ℕ). get_or inputs at [] ∷ drop n (input ∷ inputs)) one)

-- a place below the end of what is left is one of the whole
pub long_as : {X : Type 0} (xs ys : List X) (at : ℕ) → drop at xs ≡ drop at ys → at < length xs → at < length ys
long_as xs ys at same below =
    let here : length (drop at xs) ≡ length xs - at = length-drop at xs in
    let there : length (drop at ys) ≡ length ys - at = length-drop at ys in
    omega (arith, here, there, ap length same, below)

pub same_head : {X : Type 0} (xs ys : List X) (at : ℕ) (d : X) → drop at xs ≡ drop at ys → at < length xs → at < length ys → get_or xs at d ≡ get_or ys at d
same_head xs ys at d same here there =
    let a = drop_more xs at d here in
    let b = drop_more ys at d there in
    head (get_or xs at d) (get_or ys at d) (drop (at + 1) xs) (drop (at + 1) ys) (sym a ∙ same ∙ b)
  where
    head : {X : Type 0} (x y : X) (xs ys : List X) → (x ∷ xs) ≡ (y ∷ ys) → x ≡ y
    head x y xs ys e = cc

pub same_tail : {X : Type 0} (xs ys : List X) (at : ℕ) (d : X) → drop at xs ≡ drop at ys → at < length xs → at < length ys → drop (at + 1) xs ≡ drop (at + 1) ys
same_tail xs ys at d same here there =
    let a = drop_more xs at d here in
    let b = drop_more ys at d there in
    tail (get_or xs at d) (get_or ys at d) (drop (at + 1) xs) (drop (at + 1) ys) (sym a ∙ same ∙ b)
  where
    tail : {X : Type 0} (x y : X) (xs ys : List X) → (x ∷ xs) ≡ (y ∷ ys) → xs ≡ ys
    tail x y xs ys e = cc

-- no file was merged
pub merged_none : {D : Type 0} (remaining : D → Option (List ℕ)) (start now : Replica) (all : List (D × ℕ)) → start ≡ now → MergedSoFar remaining start now all all 0
merged_none remaining start now all same = record { untouched = refl; rest = λ inputs known. ap (λ (r : Replica). merged_with r inputs) same }

pub merged_next : {D X : Type 0} (remaining : D → Option (List ℕ)) (view : X → Replica) (start now : Replica) (next : X) (all readers : List (D × ℕ)) (at : ℕ) (reader left : D × ℕ)
    → MergedSoFar remaining start now all readers at → at < length readers → at < length all → Merging view (Ok next) (remaining (get_or readers at reader).0) now
    → MergedSoFar remaining start (view next) all (set readers at left) (at + 1)
merged_next {D = D} remaining view start now next all readers at reader left so here there merging = record {
  untouched = drop-set-lt (at + 1) readers at left (omega arith) ∙ same_tail readers all at reader so.untouched here there;
  rest = λ inputs known.
      let place = at_place remaining all inputs at reader known there in
      let known_one : remaining (get_or readers at reader).0 ≡ Some (get_or inputs at []) = ap (λ (r : D × ℕ). remaining r.0) (same_head readers all at reader so.untouched here there) ∙ place.0 in
      let P : Option (List ℕ) → Type 0 = λ input. Merging view (Ok next) input now in
      let one : merged_with now (get_or inputs at [] ∷ []) ≡ Ok (view next) = subst P known_one merging in
      so.rest inputs known ∙ ap (merged_with now) place.1 ∙ after_one (held_in (get_or inputs at [])) now (view next) (drop (at + 1) inputs) one;
}

pub merged_stops : {D X : Type 0} (remaining : D → Option (List ℕ)) (view : X → Replica) (start now : Replica) (all readers : List (D × ℕ)) (at : ℕ) (reader : D × ℕ) (e : Refusal)
    → MergedSoFar remaining start now all readers at → at < length readers → at < length all → Merging view (Err e) (remaining (get_or readers at reader).0) now
    → (inputs : List (List ℕ)) → map (λ (r : D × ℕ). remaining r.0) all ≡ map Some inputs → MergesAll view (Err e) start inputs
merged_stops {D = D} remaining view start now all readers at reader e so here there merging inputs known =
    let place = at_place remaining all inputs at reader known there in
    let known_one : remaining (get_or readers at reader).0 ≡ Some (get_or inputs at []) = ap (λ (r : D × ℕ). remaining r.0) (same_head readers all at reader so.untouched here there) ∙ place.0 in
    let P : Option (List ℕ) → Type 0 = λ input. Merging view (Err e) input now in
    why start now inputs (get_or inputs at []) (drop (at + 1) inputs) e (subst P known_one merging) (so.rest inputs known ∙ ap (merged_with now) place.1)
  where
    why : (start now : Replica) (inputs : List (List ℕ)) (one : List ℕ) (rest : List (List ℕ)) (e : Refusal) → (merged_with now (one ∷ []) ≡ Err e) ⊎ IsUnread e → merged_with start inputs ≡ merged_with now (one ∷ rest) → (merged_with start inputs ≡ Err e) ⊎ IsUnread e
    why start now inputs one rest e (inl refused) whole = inl (whole ∙ refused_one (held_in one) now e rest refused)
    why start now inputs one rest e (inr lack) whole = inr lack

same_length : {D : Type 0} (remaining : D → Option (List ℕ)) (all : List (D × ℕ)) (inputs : List (List ℕ)) → map (λ (reader : D × ℕ). remaining reader.0) all ≡ map Some inputs → length all ≡ length inputs
same_length {D = D} remaining all inputs known =
    sym (length-map all (λ (reader : D × ℕ). remaining reader.0)) ∙ ap length known ∙ length-map inputs (λ (input : List ℕ). Some input)

ok_same : (r s : Replica) → r ≡ s → ◌≡◌ {A = Result Replica Refusal} (Ok r) (Ok s)
ok_same r s is = ap (λ (one : Replica). let made : Result Replica Refusal = Ok one in made) is

-- all files were merged, and the store that has all of it was given or not
pub merged_all : {D X : Type 0} (remaining : D → Option (List ℕ)) (view : X → Replica) (start : Replica) (whole : X) (all readers : List (D × ℕ)) (at : ℕ) (result : Result X Refusal) → MergedSoFar remaining start (view whole) all readers at
    → length all ≤ at → Gives {X = X} (λ x. x) result (Ok whole) → (inputs : List (List ℕ)) → map (λ (r : D × ℕ). remaining r.0) all ≡ map Some inputs → MergesAll view result start inputs
merged_all remaining view start whole all readers at (Ok x) so end given inputs known =
    let long : length inputs ≤ at = subst (λ (n : ℕ). n ≤ at) (same_length remaining all inputs known) end in
    let last : view whole ≡ view x = ap view (ok_one whole x given) in
    so.rest inputs known ∙ ap (merged_with (view whole)) (drop_all at inputs long) ∙ ok_same (view whole) (view x) last
merged_all remaining view start whole all readers at (Err e) so end (inl never) inputs known = absurd (cc)
merged_all remaining view start whole all readers at (Err e) so end (inr lack) inputs known = inr (inl lack.0)

-- ---- the whole call

first_read : {X : Type 0} (read : X → Replica) (x : X) (known : Option (List ℕ)) (input : List ℕ) → known ≡ Some input → Judges read (Ok x) known held_in → held_in input ≡ Ok (read x)
first_read read x known input is h = let P : Option (List ℕ) → Type 0 = λ k. Judges read (Ok x) k held_in in subst P is h

pub merge_unread : {X : Type 0} (read : X → Replica) (e : Refusal) (known before : Option (List ℕ)) (input : List ℕ) (inputs : List (List ℕ)) → known ≡ Some input → Judges {X = X} read (Err e) known held_in → Merges (Err e) before before input inputs
merge_unread {X = X} read e known before input inputs is h =
    let P : Option (List ℕ) → Type 0 = λ k. Judges {X = X} read (Err e) k held_in in
    inl (refl, why read e input inputs (subst P is h))
  where
    why : {X : Type 0} (read : X → Replica) (e : Refusal) (input : List ℕ) (inputs : List (List ℕ)) → Judges {X = X} read (Err e) (Some input) held_in → (written_of (merged_files input inputs) ≡ Err e) ⊎ IsUnread e
    why read Memory input inputs h = inr (inl refl)
    why read ReadFault input inputs h = inr (inr refl)
    why read other input inputs h = inl (ap (λ (x : Result Replica Refusal). written_of (x >>= λ (r : Replica). merged_with r inputs)) (h (λ is. cc) (λ is. cc)))

pub merge_unmerged : {X : Type 0} (read : X → Replica) (x : X) (e : Refusal) (known before : Option (List ℕ)) (input : List ℕ) (inputs : List (List ℕ)) → known ≡ Some input → Judges read (Ok x) known held_in
    → MergesAll {X = X} read (Err e) (read x) inputs → Merges (Err e) before before input inputs
merge_unmerged read x e known before input inputs is h (inl refused) =
    inl (refl, inl (ap (λ (r : Result Replica Refusal). written_of (r >>= λ (one : Replica). merged_with one inputs)) (first_read read x known input is h) ∙ ap written_of refused))
merge_unmerged read x e known before input inputs is h (inr lack) = inl (refl, inr lack)

merge_made : {X : Type 0} (read : X → Replica) (x : X) (known : Option (List ℕ)) (new : Replica) (input : List ℕ) (inputs : List (List ℕ)) → known ≡ Some input → Judges read (Ok x) known held_in → merged_with (read x) inputs ≡ Ok new
    → merged_files input inputs ≡ Ok new
merge_made read x known new input inputs is h made = ap (λ (r : Result Replica Refusal). r >>= λ (one : Replica). merged_with one inputs) (first_read read x known input is h) ∙ made

put_err : (e : Refusal) (before now : Option (List ℕ)) (new : Replica) (made : Result Replica Refusal) → made ≡ Ok new → ((e ≡ Memory) × (now ≡ before)) ⊎ ((e ≡ WriteFault) × AppendsFront before now (file_of new)) → Refuses e before now (written_of made)
put_err e before now new made is (inl h) = inl (h.1, inr (inl h.0))
put_err e before now new made is (inr h) = let P : Result Replica Refusal → Type 0 = λ m. WritesFront before now (written_of m) in inr (h.0, subst P (sym is) h.1)

pub merge_written : {X : Type 0} (read : X → Replica) (x whole : X) (result : Result (Unit {0}) Refusal) (known before now : Option (List ℕ)) (input : List ℕ) (inputs : List (List ℕ))
    → known ≡ Some input → Judges read (Ok x) known held_in → MergesAll read (Ok whole) (read x) inputs → Puts true result before now (read whole) → Merges result before now input inputs
merge_written read x whole (Ok u) known before now input inputs is h made put = (read whole, merge_made read x known (read whole) input inputs is h made, put.0, put.1)
merge_written read x whole (Err e) known before now input inputs is h made put =
    put_err e before now (read whole) (merged_files input inputs) (merge_made read x known (read whole) input inputs is h made) put
