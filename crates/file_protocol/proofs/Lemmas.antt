-- What the calls leave as it was.
use Rattle.std.proofs.Common.{◌≡◌, ◌≢◌, ◌⊎◌, inl, inr, ℕ, ◌+◌, ◌==◌, ◌||◌, ◌&&◌, not, Bool, true, false, List, [], ◌++◌, length, drop, Option, Some, None, refl, sym, ◌∙◌, ap, arith}
use Rattle.std.specs.Str.{bytes_eq}
use Rattle.std.proofs.lemmas.Bool.{eq-eqb, ne_eqb, cond-true, cond-false, false_from_ne_true}
use Rattle.std.proofs.lemmas.Slice.Eq.{bytes_eq-Decides}
use Rattle.std.proofs.lemmas.List.{take_all, drop_all, append-nil}
use Rattle.file_protocol.specs.Disk.{Disk, Names, lead, move, MayName, MayHold, Has, MayLeave, MayShow, IsApart, led, moved, filled, stored, overlaid}

pub other_name : (n m : List ℕ) → n ≢ m → bytes_eq n m ≡ false
other_name n m ne = false_from_ne_true _ (λ e. ne ((bytes_eq-Decides n m).0 e))

pub same_bytes : (n : List ℕ) → bytes_eq n n ≡ true
same_bytes n = (bytes_eq-Decides n n).1 refl

-- what a name has goes by the file that it leads to, and by what that file holds
pub has_along : (v w : Disk) (a b : Names) (name : List ℕ) (c : Option (List ℕ)) → a name ≡ b name
    → ((file : ℕ) (bytes : List ℕ) → b name ≡ Some file → MayHold w file bytes → MayHold v file bytes)
    → Has w a name c → Has v b name c
has_along v w a b name None same holds has = sym same ∙ has
has_along v w a b name (Some bytes) same holds has =
    let there = sym same ∙ has.1 in
    (has.0, there, holds has.0 bytes there has.2)

-- a file that isn't the open one
pub holds_other : (v : Disk) (b : List ℕ) (place : ℕ) (clean : Bool) (file : ℕ) (bytes : List ℕ) → file ≢ v.mine
    → MayHold (filled v b place clean) file bytes → MayHold v file bytes
holds_other v b place clean file bytes ne (inl is) = inl (is ∙ cond-false _ b (v.contents file) (ne_eqb file v.mine ne))
holds_other v b place clean file bytes ne (inr is) = inr (sym (cond-false _ false (v.is_synced file) (ne_eqb file v.mine ne)) ∙ is)

-- a write to the open file leaves the name alone
pub leaves_filled : (v : Disk) (name b : List ℕ) (place : ℕ) (clean : Bool) (c : Option (List ℕ)) → IsApart v name v.mine
    → MayLeave (filled v b place clean) name c → MayLeave v name c
leaves_filled v name b place clean c apart left = (
  left.0,
  left.1,
  has_along v (filled v b place clean) left.0 left.0 name c refl
      (λ file bytes at holds. holds_other v b place clean file bytes (λ e. apart left.0 left.1 (at ∙ ap (λ (x : ℕ). Some x) e)) holds)
      left.2,
)

-- a change of another name leaves the name alone
pub led_names : (v : Disk) (lock name : List ℕ) (entry : Option ℕ) (names : Names) → name ≢ lock → MayName (led v lock entry) names
    → (before : Names) × MayName v before × (names name ≡ before name)
led_names v lock name entry names ne (inl now) =
    (v.names, inl refl, ap (λ (n : Names). n name) now ∙ cond-false _ entry (v.names name) (other_name name lock ne))
led_names v lock name entry names ne (inr reached) = later reached.2
  where
    later : (names ≡ reached.0) ⊎ (names ≡ lead lock entry reached.0) → (before : Names) × MayName v before × (names name ≡ before name)
    later (inl same) = (reached.0, inr reached.1, ap (λ (n : Names). n name) same)
    later (inr done) = (reached.0, inr reached.1, ap (λ (n : Names). n name) done ∙ cond-false _ entry (reached.0 name) (other_name name lock ne))

pub leaves_led : (v : Disk) (lock name : List ℕ) (entry : Option ℕ) (c : Option (List ℕ)) → name ≢ lock
    → MayLeave (led v lock entry) name c → MayLeave v name c
leaves_led v lock name entry c ne left =
    let was = led_names v lock name entry left.0 ne left.1 in
    (was.0, was.1, has_along v (led v lock entry) left.0 was.0 name c was.2 (λ file bytes at holds. holds) left.2)

-- after the move the name leads to where it led before, or to the file
pub moved_names : (v : Disk) (lock name : List ℕ) (file : ℕ) (names : Names) → MayName (moved v lock name file) names
    → ((before : Names) × MayName v before × (names name ≡ before name)) ⊎ (names name ≡ Some file)
moved_names v lock name file names (inl now) =
    inr (ap (λ (n : Names). n name) now ∙ cond-true _ (Some file) _ (same_bytes name))
moved_names v lock name file names (inr reached) = later reached.2
  where
    later : (names ≡ reached.0) ⊎ (names ≡ move lock name file reached.0) → ((before : Names) × MayName v before × (names name ≡ before name)) ⊎ (names name ≡ Some file)
    later (inl same) = inl (reached.0, inr reached.1, ap (λ (n : Names). n name) same)
    later (inr done) = inr (ap (λ (n : Names). n name) done ∙ cond-true _ (Some file) _ (same_bytes name))

-- a name that leads to a synced file has what that file holds
pub has_synced : (v : Disk) (names : Names) (name new : List ℕ) (file : ℕ) (c : Option (List ℕ)) → names name ≡ Some file
    → v.contents file ≡ new → v.is_synced file ≡ true → Has v names name c → c ≡ Some new
has_synced v names name new file None at is synced has = absurd (none_some (sym has ∙ at))
  where
    none_some : None ≡ Some file → ⊥
    none_some e = cc
has_synced v names name new file (Some bytes) at is synced has = ap (λ (b : List ℕ). Some b) (holds has.2)
  where
    same : has.0 ≡ file
    same = let e : Some has.0 ≡ Some file = sym has.1 ∙ at in cc

    holds : MayHold v has.0 bytes → bytes ≡ new
    holds (inl now) = now ∙ ap v.contents same ∙ is
    holds (inr not_synced) = let e : true ≡ false = sym synced ∙ ap v.is_synced (sym same) ∙ not_synced in absurd (cc)

-- what the open file holds after a write
pub mine_filled : (v : Disk) (b : List ℕ) (place : ℕ) (clean : Bool) → (filled v b place clean).contents v.mine ≡ b
mine_filled v b place clean = cond-true _ b (v.contents v.mine) (eq-eqb v.mine v.mine refl)

-- a write at the end adds to it
pub at_end : (b piece : List ℕ) (place : ℕ) → place ≡ length b → overlaid b place piece ≡ b ++ piece
at_end b piece place is =
    ap (λ (l : List ℕ). l ++ piece ++ drop (place + length piece) b) (take_all place b (omega arith))
    ∙ ap (λ (l : List ℕ). b ++ piece ++ l) (drop_all (place + length piece) b (omega arith))
    ∙ append-nil (b ++ piece)

-- once the folder is synced a name has what it has now
pub settled_shows : (v : Disk) (name : List ℕ) (c : Option (List ℕ)) → MayLeave (record v { synced = v.names; changes = [] }) name c → MayShow v name c
settled_shows v name c left =
    let e = same left.0 left.1 in
    has_along v (record v { synced = v.names; changes = [] }) left.0 v.names name c (ap (λ (n : Names). n name) e) (λ f bytes at holds. holds) left.2
  where
    same : (names : Names) → ((names ≡ v.names) ⊎ (names ≡ v.names)) → names ≡ v.names
    same names (inl e) = e
    same names (inr e) = e

pub leaves_settled : (v : Disk) (name : List ℕ) (c : Option (List ℕ)) → MayLeave (record v { synced = v.names; changes = [] }) name c → MayLeave v name c
leaves_settled v name c left = (v.names, inl refl, settled_shows v name c left)

-- what a file may hold once one is synced it might hold before
holds_stored : (v : Disk) (stored_one file : ℕ) (bytes : List ℕ) → MayHold (stored v stored_one) file bytes → MayHold v file bytes
holds_stored v stored_one file bytes (inl is) = inl is
holds_stored v stored_one file bytes (inr is) = inr (front (v.is_synced file) (file == stored_one && not (file == v.mine)) is)
  where
    front : (a b : Bool) → (a || b) ≡ false → a ≡ false
    front true b e = e
    front false b e = refl

pub leaves_stored : (v : Disk) (name : List ℕ) (file : ℕ) (c : Option (List ℕ)) → MayLeave (stored v file) name c → MayLeave v name c
leaves_stored v name file c left =
    (left.0, left.1, has_along v (stored v file) left.0 left.0 name c refl (λ f bytes at holds. holds_stored v file f bytes holds) left.2)

-- the file that was synced is on the disk, unless it is the open one
pub stored_is_synced : (v : Disk) (file : ℕ) → file ≢ v.mine → (stored v file).is_synced file ≡ true
stored_is_synced v file ne = back (v.is_synced file) _ (ap (λ (b : Bool). b && not (file == v.mine)) (eq-eqb file file refl) ∙ ap (λ (b : Bool). not b) (ne_eqb file v.mine ne))
  where
    back : (a b : Bool) → b ≡ true → (a || b) ≡ true
    back true b e = refl
    back false b e = e
