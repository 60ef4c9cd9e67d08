-- The statements are false of the histories of wrong bodies.
use Rattle.std.proofs.Common.{◌≡◌, ◌≢◌, ◌⊎◌, inl, inr, ℕ, ◌+◌, true, false, ◌==◌, if◌then◌else◌, List, [], ◌∷◌, length, take, Option, Some, None, refl, sym, ◌∙◌, ap, subst, arith}
use Rattle.std.specs.List.{Contains}
use Rattle.std.proofs.lemmas.Bool.{cond-true, cond-false}
use Rattle.file_protocol.specs.Event.{Event, Opened, Locked, Compared, Emptied, Wrote, Synced, Renamed, Removed}
use Rattle.file_protocol.specs.Disk.{Disk, Names, MayName, MayHold, MayLeave, MayShow, lead, led, moved, filled, opened, overlaid}
use Rattle.file_protocol.specs.Safe.{Others, Run, Moment, IsHeld}
use Rattle.file_protocol.proofs.Lemmas.{same_bytes, other_name, led_names, has_along}
use Rattle.file_protocol.proofs.Alone.{alone}
use Rattle.file_protocol.proofs.Witness.{first, first_names, at_name, named, one, held_first}

-- what a crash leaves at some moment of these calls, from whatever disk on which the lock is had: the old, or the new bytes
abbrev IsSafe : List ℕ → List ℕ → List ℕ → List Event → Type 0
IsSafe lock name new calls =
    (laters : List (Option (List ℕ))) (d e : Disk) → IsHeld lock name d → Moment lock name laters calls d e
    → (c : Option (List ℕ)) → MayLeave e name c → MayLeave d name c ⊎ (c ≡ Some new) ⊎ Contains laters c

-- the new bytes once they are done
abbrev IsDone : List ℕ → List ℕ → List ℕ → List Event → Type 0
IsDone lock name new calls =
    (laters : List (Option (List ℕ))) (d e : Disk) → IsHeld lock name d → Run lock name laters calls d e
    → (c : Option (List ℕ)) → MayLeave e name c → (c ≡ Some new) ⊎ Contains laters c

module _ (lock name new : List ℕ) (apart : lock ≢ name) where
  none_listed : (c : Option (List ℕ)) → Contains {X = Option (List ℕ)} [] c → ⊥
  none_listed c found = omega (arith, found.1)

  not_new : Some (7 ∷ new) ≡ Some new → ⊥
  not_new e = let same : 7 ∷ new ≡ new = cc in let l = ap length same in absurd (omega (arith, l))

  not_old : MayLeave (first lock name apart) name (Some (7 ∷ new)) → ⊥
  not_old left = holds left.2.2
    where
      same : left.2.0 ≡ 0
      same = let e : Some left.2.0 ≡ Some 0 = sym left.2.1 ∙ ap (λ (n : Names). n name) (one lock name apart left.0 left.1) ∙ at_name lock name apart in cc

      holds : MayHold (first lock name apart) left.2.0 (7 ∷ new) → ⊥
      holds (inl e) = let l = ap length e in absurd (omega (arith, l))
      holds (inr e) = let x : ⊥ = cc in x

  refused : MayLeave (first lock name apart) name (Some (7 ∷ new)) ⊎ (Some (7 ∷ new) ≡ Some new) ⊎ Contains [] (Some (7 ∷ new)) → ⊥
  refused (inl old) = not_old old
  refused (inr (inl e)) = not_new e
  refused (inr (inr found)) = none_listed _ found

  -- the rename before the sync
  pub renamed_before_the_sync : IsSafe lock name new (Renamed lock name true ∷ Wrote new (Some (length new)) ∷ Emptied true ∷ []) → ⊥
  renamed_before_the_sync safe =
      let held = held_first lock name apart in
      let o = alone lock name [] in
      let a : Disk = first lock name apart in
      let b : Disk = filled a [] 0 true in
      let c : Disk = filled b (overlaid [] 0 (take (length new) new)) (0 + length new) true in
      let d : Disk = moved c lock name 1 in
      let run : Moment lock name [] (Renamed lock name true ∷ Wrote new (Some (length new)) ∷ Emptied true ∷ []) a d =
      inl (c, d, (b, c, (a, b, o a, refl, o b), (omega arith, refl), o c), (1, named lock name apart, refl), o d) in
      let left : MayLeave d name (Some (7 ∷ new)) = (d.names, inl refl, (1, cond-true _ (Some 1) _ (same_bytes name), inr refl)) in
      refused (safe [] a d held run (Some (7 ∷ new)) left)

  -- the file emptied in place
  pub written_in_place : IsSafe lock name new (Emptied true ∷ Opened name (Some false) ∷ []) → ⊥
  written_in_place safe =
      let held = held_first lock name apart in
      let o = alone lock name [] in
      let a : Disk = first lock name apart in
      let b : Disk = opened a 0 in
      let c : Disk = filled b [] 0 true in
      let run : Moment lock name [] (Emptied true ∷ Opened name (Some false) ∷ []) a c =
      inl (b, c, (a, b, o a, (0, at_name lock name apart, refl), o b), refl, o c) in
      let left : MayLeave c name (Some (7 ∷ new)) = (c.names, inl refl, (0, at_name lock name apart, inr refl)) in
      refused (safe [] a c held run (Some (7 ∷ new)) left)

  -- done before the folder is synced
  pub folder_not_synced : new ≢ [] → IsDone lock name new (Renamed lock name true ∷ Synced true ∷ Wrote new (Some (length new)) ∷ Emptied true ∷ []) → ⊥
  folder_not_synced not_empty done =
      let held = held_first lock name apart in
      let o = alone lock name [] in
      let a : Disk = first lock name apart in
      let b : Disk = filled a [] 0 true in
      let c : Disk = filled b (overlaid [] 0 (take (length new) new)) (0 + length new) true in
      let s : Disk = record c { is_synced = λ f. if f == 1 then true else c.is_synced f } in
      let d : Disk = moved s lock name 1 in
      let run : Run lock name [] (Renamed lock name true ∷ Synced true ∷ Wrote new (Some (length new)) ∷ Emptied true ∷ []) a d =
      (s, d, (c, s, (b, c, (a, b, o a, refl, o b), (omega arith, refl), o c), refl, o s), (1, named lock name apart, refl), o d) in
      let left : MayLeave d name (Some []) = (first_names lock name apart, inr (first_names lock name apart, refl, inl refl), (0, at_name lock name apart, inl refl)) in
      old (done [] a d held run (Some []) left)
    where
      old : (Some [] ≡ Some new) ⊎ Contains {X = Option (List ℕ)} [] (Some []) → ⊥
      old (inl e) = not_empty (let same : new ≡ [] = cc in same)
      old (inr found) = none_listed _ found

  -- The lock is removed before the rename: another process makes its own meanwhile, and its file, half written, is what is renamed.
  other : name ≢ lock
  other e = apart (sym e)

  abbrev gone : Disk
  gone = led (first lock name apart) lock None

  abbrev theirs : Disk
  theirs = record (led gone lock (Some 2)) { is_synced = λ f. if f == 2 then false else true }

  still : (names : Names) → MayName theirs names → names name ≡ Some 0
  still names may =
      let x = led_names gone lock name (Some 2) names other may in
      let y = led_names (first lock name apart) lock name None x.0 other x.1 in
      x.2 ∙ y.2 ∙ ap (λ (n : Names). n name) (one lock name apart y.0 y.1) ∙ at_name lock name apart

  zero_not : (f : ℕ) → Some 0 ≡ Some f → f ≡ 0
  zero_not f e = let same : f ≡ 0 = cc in same

  two_is : (f : ℕ) → Some 2 ≡ Some f → f ≡ 2
  two_is f e = let same : f ≡ 2 = cc in same

  they_come : Others lock name [] gone theirs
  they_come = record {
    mine = refl;
    place = refl;
    clean = refl;
    locked = refl;
    kept = λ k f at names may here.
        let f_is_two = two_is f (sym (cond-true _ (Some 2) _ (same_bytes lock)) ∙ at) in
        let f_is_zero = zero_not f (sym (still names may) ∙ here) in
        absurd (omega (arith, f_is_two, f_is_zero));
    left = λ c l. inl (unchanged c l);
    shown = λ c l. inl (shows c l);
    held = λ has. absurd (none_some 1 (sym (cond-true _ None _ (same_bytes lock)) ∙ has.named));
  }
    where
      none_some : (b : ℕ) → None ≡ Some b → ⊥
      none_some b e = cc

      holds : (file : ℕ) (bytes : List ℕ) → file ≡ 0 → MayHold theirs file bytes → MayHold gone file bytes
      holds file bytes zero (inl e) = inl e
      holds file bytes zero (inr e) = let x : ⊥ = two_zero file zero e in absurd x
        where
          two_zero : (f : ℕ) → f ≡ 0 → (if f == 2 then false else true) ≡ false → ⊥
          two_zero f is e = let g : (if 0 == 2 then false else true) ≡ false = subst (λ (k : ℕ). (if k == 2 then false else true) ≡ false) is e in let y : true ≡ false = g in cc

      unchanged : (c : Option (List ℕ)) → MayLeave theirs name c → MayLeave gone name c
      unchanged c l =
          let x = led_names gone lock name (Some 2) l.0 other l.1 in
          (x.0, x.1, has_along gone theirs l.0 x.0 name c x.2 (λ file bytes at h. holds file bytes (zero_not file (sym (still l.0 l.1) ∙ x.2 ∙ at)) h) l.2)

      shows : (c : Option (List ℕ)) → MayShow theirs name c → MayShow gone name c
      shows c l =
          has_along gone theirs theirs.names gone.names name c (cond-false _ (Some 2) _ (other_name name lock other)) (λ file bytes at h. holds file bytes (zero_not file (sym (still theirs.names (inl refl)) ∙ cond-false _ (Some 2) _ (other_name name lock other) ∙ at)) h) l

  pub lock_removed_before_the_rename : IsSafe lock name new (Renamed lock name true ∷ Removed lock true ∷ []) → ⊥
  lock_removed_before_the_rename safe =
      let o = alone lock name [] in
      let a : Disk = first lock name apart in
      let e : Disk = moved theirs lock name 2 in
      let run : Moment lock name [] (Renamed lock name true ∷ Removed lock true ∷ []) a e =
      inl (theirs, e, (a, gone, o a, refl, they_come), (2, cond-true _ (Some 2) _ (same_bytes lock), refl), o e) in
      let left : MayLeave e name (Some (7 ∷ new)) = (e.names, inl refl, (2, cond-true _ (Some 2) _ (same_bytes name), inr refl)) in
      refused (safe [] a e (held_first lock name apart) run (Some (7 ∷ new)) left)

  -- A lock that was there is had: it may be a second name of the file.
  unfoldable linked_names : Names
  linked_names = lead lock (Some 0) (lead name (Some 0) (λ n. None))

  at_lock : linked_names lock ≡ Some 0
  unfolding linked_names
  at_lock = cond-true _ (Some 0) _ (same_bytes lock)

  at_file : linked_names name ≡ Some 0
  unfolding linked_names
  at_file = cond-false _ (Some 0) _ (other_name name lock other) ∙ cond-true _ (Some 0) _ (same_bytes name)

  abbrev linked : Disk
  linked = record (first lock name apart) { names = linked_names; synced = linked_names; mine = 0; is_locked = false }

  pub lock_that_was_there_is_had : ((laters : List (Option (List ℕ))) (d e : Disk) → Run lock name laters (Compared lock true ∷ Locked true ∷ Opened lock (Some false) ∷ []) d e → IsHeld lock name e) → ⊥
  lock_that_was_there_is_had takes =
      let o = alone lock name [] in
      let b : Disk = opened linked 0 in
      let c : Disk = record b { is_locked = true } in
      let run : Run lock name [] (Compared lock true ∷ Locked true ∷ Opened lock (Some false) ∷ []) linked c =
      (c, c, (b, c, (linked, b, o linked, (0, at_lock, refl), o b), refl, o c), (at_lock, refl), o c) in
      (takes [] linked c run).apart linked_names (inl refl) at_file
