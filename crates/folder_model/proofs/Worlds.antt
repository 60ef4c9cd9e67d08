-- Worlds in which a file is made, filled, synced and linked, and a folder synced and listed.
use Rattle.std.proofs.Common.{◌≡◌, ◌≢◌, inl, inr, ⊎_elim, ℕ, Bool, true, false, ◌==◌, if◌then◌else◌, List, [], ◌∷◌, ◌++◌, Option, Some, None, refl, sym, ◌∙◌, ap, subst, arith}
use Rattle.std.proofs.lemmas.Bool.{cond-true, cond-false, eq-eqb, ne_eqb}
use Rattle.folder_model.specs.Call.{Call, Made, Wrote, Synced, Linked, Settled, Began, Done}
use Rattle.folder_model.specs.Disk.{Among, Disk, MayLead, Leads, Fills, Syncs, Settles}
use Rattle.folder_model.specs.Parts.{IsNoPart}
use Rattle.folder_model.specs.World.{World, IsFresh, IsFree, Stays, Makes, Notes, Links, BeginsList}
use Rattle.folder_model.proofs.Basics.{some_none, names_same}
use Rattle.folder_model.proofs.Wrong.{calls_with, with_own, with_others}
use Rattle.folder_model.proofs.PutWitness.{parts, led, led_leads, empty}

-- a process has made one call more
pub notes : (q : ℕ) (call : Call) (d e : World) → ((p : ℕ) → e.calls p ≡ calls_with q call d p) → Notes q call d e
notes q call d e is = record { own = is q ∙ with_own q call d; others = λ p ne. is p ∙ with_others q call d p ne }

-- ---- a file is made

abbrev pub made : ℕ → List ℕ → ℕ → World → World
made q name file w = record w { disk = led name (Some file) w.disk; drawn = name ∷ w.drawn; mine = λ p. if p == q then file else w.mine p; calls = calls_with q (Made name true) w }

pub made_does : (q : ℕ) (name : List ℕ) (file : ℕ) (w : World) → IsFree w name → IsFresh w file → w.disk.contents file ≡ [] → Makes q name w (made q name file w)
made_does q name file w free fresh none = record {
  file = file;
  free = free;
  fresh = fresh;
  disk = (w.disk, record { names = λ n. refl; earlier = λ n. refl; own = none; others = λ f ne. refl; synced = λ f ne. refl }, led_leads name (Some file) w.disk);
  drawn = refl;
  open_files = record { own = cond-true (q == q) file (w.mine q) (eq-eqb q q refl); others = λ p ne. cond-false (p == q) file (w.mine p) (ne_eqb p q ne) };
  lists = record { began = λ p. refl; gone = λ p. refl };
}

-- ---- and filled

abbrev pub filled : ℕ → ℕ → List ℕ → World → World
filled q file bytes w = record w { disk = record w.disk { contents = λ f. if f == file then w.disk.contents file ++ bytes else w.disk.contents f }; calls = calls_with q (Wrote bytes true) w }

pub filled_does : (q file : ℕ) (bytes : List ℕ) (w : World) → Fills file (w.disk.contents file ++ bytes) w.disk (filled q file bytes w).disk
filled_does q file bytes w = record {
  names = λ n. refl;
  earlier = λ n. refl;
  own = cond-true (file == file) (w.disk.contents file ++ bytes) (w.disk.contents file) (eq-eqb file file refl);
  others = λ f ne. cond-false (f == file) (w.disk.contents file ++ bytes) (w.disk.contents f) (ne_eqb f file ne);
  synced = λ f ne. refl;
}

-- ---- and synced

abbrev pub synced : ℕ → ℕ → World → World
synced q file w = record w { disk = record w.disk { is_synced = λ f. if f == file then true else w.disk.is_synced f }; calls = calls_with q (Synced true) w }

pub synced_does : (q file : ℕ) (w : World) → Syncs file w.disk (synced q file w).disk
synced_does q file w = record {
  names = λ n. refl;
  earlier = λ n. refl;
  contents = λ f. refl;
  own = cond-true (file == file) true (w.disk.is_synced file) (eq-eqb file file refl);
  others = λ f ne. cond-false (f == file) true (w.disk.is_synced f) (ne_eqb f file ne);
}

-- ---- and linked

abbrev pub linked : ℕ → List ℕ → List ℕ → ℕ → World → World
linked q from to file w = record w { disk = led to (Some file) w.disk; calls = calls_with q (Linked from to Done) w }

pub linked_does : (q : ℕ) (from to : List ℕ) (file : ℕ) (w : World) → w.disk.names from ≡ Some file → w.disk.names to ≡ None → Links from to w.disk (linked q from to file w).disk
linked_does q from to file w at none = (file, at, none, led_leads to (Some file) w.disk)

-- ---- the folder is synced, and a listing begins

abbrev pub settled : ℕ → World → World
settled q w = record w { disk = record w.disk { earlier = λ n. [] }; calls = calls_with q (Settled true) w }

pub settled_does : (q : ℕ) (w : World) → Settles w.disk (settled q w).disk
settled_does q w = record { names = λ n. refl; earlier = λ n. refl; contents = λ f. refl; synced = λ f. refl }

abbrev pub begins : ℕ → World → World
begins q w = record w { began = λ p. if p == q then w.disk else w.began p; gone = λ p. if p == q then [] else w.gone p; calls = calls_with q Began w }

pub begins_does : (q : ℕ) (w : World) → BeginsList q w (begins q w)
begins_does q w = record {
  disk = refl;
  drawn = refl;
  open_files = λ p. refl;
  lists = record {
    own = cond-true (q == q) w.disk (w.began q) (eq-eqb q q refl);
    own_gone = cond-true (q == q) [] (w.gone q) (eq-eqb q q refl);
    others = λ p ne. cond-false (p == q) w.disk (w.began p) (ne_eqb p q ne);
    others_gone = λ p ne. cond-false (p == q) [] (w.gone p) (ne_eqb p q ne);
  };
}

-- ---- a file that no name leads to

-- none does so once a name leads elsewhere
pub leads_fresh : (file : ℕ) (name : List ℕ) (entry : Option ℕ) (d e : Disk) → Leads name entry d e → (entry ≡ Some file → ⊥) → ((n : List ℕ) → MayLead d n (Some file) → ⊥) → (n : List ℕ) → MayLead e n (Some file) → ⊥
leads_fresh file name entry d e leads not none n may = ⊎_elim (λ is. own (subst (λ (x : List ℕ). MayLead e x (Some file)) is may)) (λ other. another other may) (names_same n name)
  where
    before : Among (Some file) (d.names name ∷ d.earlier name) → ⊥
    before (inl is) = none name (inl is)
    before (inr among) = none name (inr among)

    own : MayLead e name (Some file) → ⊥
    own (inl is) = not (sym (is ∙ leads.own))
    own (inr among) = before (subst (λ (l : List (Option ℕ)). Among (Some file) l) leads.before among)

    another : n ≢ name → MayLead e n (Some file) → ⊥
    another other (inl is) = none n (inl (is ∙ leads.others n other))
    another other (inr among) = none n (inr (subst (λ (l : List (Option ℕ)). Among (Some file) l) (leads.others_before n other) among))

-- ---- what is put in them

-- two parts, each with its temporary
abbrev pub first : List ℕ
first = []

abbrev pub second : List ℕ
second = 5 ∷ []

abbrev pub first_temp : List ℕ
first_temp = []

abbrev pub second_temp : List ℕ
second_temp = 0 ∷ []

abbrev pub first_name : List ℕ
first_name = 1 ∷ []

abbrev pub second_name : List ℕ
second_name = 1 ∷ 5 ∷ []

pub first_no_part : IsNoPart parts first_temp
first_no_part b is = cc

pub second_no_part : IsNoPart parts second_temp
second_no_part b is = apart 0 1 (ap head is) refl refl
  where
    head : List ℕ → ℕ
    head [] = 0
    head (x ∷ xs) = x

    apart : (a b : ℕ) → a ≡ b → a ≡ 0 → b ≡ 1 → ⊥
    apart a b is zero one = omega (arith, is, zero, one)

pub none_at : (file : ℕ) (n : List ℕ) → MayLead empty n (Some file) → ⊥
none_at file n (inl is) = some_none file is
none_at file n (inr among) = among

pub some_other : (a b : ℕ) → (a ≡ b → ⊥) → Some a ≡ Some b → ⊥
some_other a b differ is = let same : a ≡ b = cc in differ same

pub one_two : (a b : ℕ) → a ≡ 1 → b ≡ 2 → a ≡ b → ⊥
one_two a b one two is = omega (arith, one, two, is)

-- the file that a process has open
abbrev open_file : Bool → ℕ
open_file b = if b then 1 else 0

pub opened : (b : Bool) → open_file b ≡ 2 → ⊥
opened true is = one_two 1 2 refl refl is
opened false is = zero_two 0 2 refl refl is
  where
    zero_two : (a b : ℕ) → a ≡ 0 → b ≡ 2 → a ≡ b → ⊥
    zero_two a b zero two same = omega (arith, zero, two, same)

pub zero_one : (a b : ℕ) → a ≡ b → a ≡ 0 → b ≡ 1 → ⊥
zero_one a b is zero one = omega (arith, is, zero, one)

pub undrawn : Among second_temp (first_temp ∷ []) → ⊥
undrawn (inl is) = cc
undrawn (inr among) = among
