-- What each change of a disk leaves to others.
use Rattle.std.proofs.Common.{◌≡◌, ◌≢◌, ◌⊎◌, inl, inr, ⊎_elim, ℕ, true, if◌then◌else◌, List, Option, Some, refl, sym, ◌∙◌, ap, subst}
use Rattle.std.specs.Str.{bytes_eq}
use Rattle.std.proofs.lemmas.Bool.{cond-true, cond-false}
use Rattle.folder_model.specs.Disk.{Among, Disk, Names, MayLead, MayLeave, Leads, Fills, Syncs, Settles}
use Rattle.folder_model.specs.Parts.{Parts, IsOrder, AreCovered, IsHeld, IsSafe, IsOnDisk}
use Rattle.folder_model.proofs.Basics.{same_bytes, other_bytes, names_same, numbers_same}

-- no part's name leads to this file, nor may after a loss of power
abbrev pub IsHidden : Parts → Disk → ℕ → Type 0
IsHidden parts d file = (bytes : List ℕ) → MayLead d (parts.name_of bytes) (Some file) → ⊥

-- what every change leaves
pub record Bears (parts : Parts) (d e : Disk) : Type 0 where
  pub held : (b : List ℕ) → IsHeld parts d b → IsHeld parts e b
  pub safe : (b : List ℕ) → IsSafe parts d b → IsSafe parts e b
  pub there : (b : List ℕ) (file : ℕ) → d.names (parts.name_of b) ≡ Some file → d.contents file ≡ b
      → ((e.names (parts.name_of b) ≡ Some file) × (e.contents file ≡ b)) ⊎ IsHeld parts e b

-- what every change leaves that removes no part
pub record Spares (parts : Parts) (d e : Disk) : Type 0 where
  pub there : (b : List ℕ) (file : ℕ) → d.names (parts.name_of b) ≡ Some file → d.contents file ≡ b
      → (e.names (parts.name_of b) ≡ Some file) × (e.contents file ≡ b)
  pub synced : (b : List ℕ) (file : ℕ) → d.names (parts.name_of b) ≡ Some file → d.contents file ≡ b → d.is_synced file ≡ true → e.is_synced file ≡ true
  pub on_disk : (b : List ℕ) → IsOnDisk parts d b → IsOnDisk parts e b

-- what a change leaves of a hidden file and of its temporary name
pub record LeavesFile (parts : Parts) (file : ℕ) (temp : List ℕ) (d e : Disk) : Type 0 where
  pub contents : e.contents file ≡ d.contents file
  pub synced : d.is_synced file ≡ true → e.is_synced file ≡ true
  pub hidden : IsHidden parts d file → IsHidden parts e file
  pub leads : (f : ℕ) → e.names temp ≡ Some f → d.names temp ≡ Some f

-- nothing that goes by a part's name is under this name
abbrev pub IsEmpty : Parts → Disk → List ℕ → Type 0
IsEmpty parts d name = (c : List ℕ) (f : ℕ) → parts.name_of c ≡ name → d.names name ≡ Some f → ⊥

module _ (parts : Parts) (order : IsOrder parts) where
  -- what covers what covers it
  pub covered_along : (d : Disk) (names : Names) (c b : List ℕ) → parts.covers c b ≡ true → AreCovered parts d names c → AreCovered parts d names b
  covered_along d names c b over (part, file, at, holds, synced, covers) = (part, file, at, holds, synced, order.along part c b covers over)

  -- the part itself
  pub covered_itself : (d : Disk) (names : Names) (b : List ℕ) (file : ℕ) → names (parts.name_of b) ≡ Some file → d.contents file ≡ b → d.is_synced file ≡ true → AreCovered parts d names b
  covered_itself d names b file at holds synced = (b, file, at, holds, synced, order.itself b)

  pub safe_held : (d : Disk) (b : List ℕ) → IsSafe parts d b → IsHeld parts d b
  safe_held d b safe = safe d.names (λ name. inl refl)

  -- ---- nothing

  pub bears_same : (d e : Disk) → e ≡ d → Bears parts d e
  bears_same d e is = subst (λ (x : Disk). Bears parts d x) (sym is) (record { held = λ b h. h; safe = λ b s. s; there = λ b file at holds. inl (at, holds) })

  pub spares_same : (d e : Disk) → e ≡ d → Spares parts d e
  spares_same d e is = subst (λ (x : Disk). Spares parts d x) (sym is) (record { there = λ b file at holds. (at, holds); synced = λ b file at holds s. s; on_disk = λ b o. o })

  pub leaves_same : (file : ℕ) (temp : List ℕ) (d e : Disk) → e ≡ d → LeavesFile parts file temp d e
  leaves_same file temp d e is = subst (λ (x : Disk). LeavesFile parts file temp d x) (sym is) (record { contents = refl; synced = λ s. s; hidden = λ h. h; leads = λ f at. at })

  -- ---- one change after another

  pub bears_both : (d v e : Disk) → Bears parts d v → Bears parts v e → Bears parts d e
  bears_both d v e first second = record {
    held = λ b h. second.held b (first.held b h);
    safe = λ b s. second.safe b (first.safe b s);
    there = λ b file at holds. ⊎_elim (λ x. second.there b file x.0 x.1) (λ h. inr (second.held b h)) (first.there b file at holds);
  }

  pub spares_both : (d v e : Disk) → Spares parts d v → Spares parts v e → Spares parts d e
  spares_both d v e first second = record {
    there = λ b file at holds. let x = first.there b file at holds in second.there b file x.0 x.1;
    synced = λ b file at holds s. let x = first.there b file at holds in second.synced b file x.0 x.1 (first.synced b file at holds s);
    on_disk = λ b o. second.on_disk b (first.on_disk b o);
  }

  pub leaves_both : (file : ℕ) (temp : List ℕ) (d v e : Disk) → LeavesFile parts file temp d v → LeavesFile parts file temp v e → LeavesFile parts file temp d e
  leaves_both file temp d v e first second = record {
    contents = second.contents ∙ first.contents;
    synced = λ s. second.synced (first.synced s);
    hidden = λ h. second.hidden (first.hidden h);
    leads = λ f at. first.leads f (second.leads f at);
  }

  -- ---- if the names stay, and no more may be left

  -- the files that parts' names may lead to stay
  record Stable (d e : Disk) : Type 0 where
    names : (name : List ℕ) → e.names name ≡ d.names name
    may : (name : List ℕ) (entry : Option ℕ) → MayLead e name entry → MayLead d name entry
    contents : (b : List ℕ) (file : ℕ) → MayLead d (parts.name_of b) (Some file) → e.contents file ≡ d.contents file
    synced : (b : List ℕ) (file : ℕ) → MayLead d (parts.name_of b) (Some file) → d.is_synced file ≡ true → e.is_synced file ≡ true

  now : (d : Disk) (name : List ℕ) (file : ℕ) → d.names name ≡ Some file → MayLead d name (Some file)
  now d name file at = inl (sym at)

  stable_covered : (d e : Disk) → Stable d e → (names others : Names) → MayLeave d names → ((name : List ℕ) → others name ≡ names name) → (b : List ℕ) → AreCovered parts d names b → AreCovered parts e others b
  stable_covered d e s names others may same b (part, file, at, holds, synced, covers) =
      let here : MayLead d (parts.name_of part) (Some file) = subst (λ (x : Option ℕ). MayLead d (parts.name_of part) x) at (may (parts.name_of part)) in
      (part, file, same (parts.name_of part) ∙ at, s.contents part file here ∙ holds, s.synced part file here synced, covers)

  stable_bears : (d e : Disk) → Stable d e → Bears parts d e
  stable_bears d e s = record {
    held = λ b h. stable_covered d e s d.names e.names (λ name. inl refl) s.names b h;
    safe = λ b safe names may. let before : MayLeave d names = λ name. s.may name (names name) (may name) in stable_covered d e s names names before (λ name. refl) b (safe names before);
    there = λ b file at holds. inl (s.names (parts.name_of b) ∙ at, s.contents b file (now d (parts.name_of b) file at) ∙ holds);
  }

  stable_spares : (d e : Disk) → Stable d e → Spares parts d e
  stable_spares d e s = record {
    there = λ b file at holds. (s.names (parts.name_of b) ∙ at, s.contents b file (now d (parts.name_of b) file at) ∙ holds);
    synced = λ b file at holds is. s.synced b file (now d (parts.name_of b) file at) is;
    on_disk = λ b on entry may.
        let before = s.may (parts.name_of b) entry may in
        let x = on entry before in
        let at : MayLead d (parts.name_of b) (Some x.0) = subst (λ (y : Option ℕ). MayLead d (parts.name_of b) y) x.1 before in
        (x.0, x.1, s.contents b x.0 at ∙ x.2, s.synced b x.0 at x.3);
  }

  may_same : (d e : Disk) (name : List ℕ) → e.names name ≡ d.names name → e.earlier name ≡ d.earlier name → (entry : Option ℕ) → MayLead e name entry → MayLead d name entry
  may_same d e name names earlier entry (inl is) = inl (is ∙ names)
  may_same d e name names earlier entry (inr among) = inr (subst (λ (x : List (Option ℕ)). Among entry x) earlier among)

  -- ---- bytes of a hidden file

  fills_stable : (file : ℕ) (bytes : List ℕ) (d e : Disk) → IsHidden parts d file → Fills file bytes d e → Stable d e
  fills_stable file bytes d e hidden fills = record {
    names = fills.names;
    may = λ name entry may. may_same d e name (fills.names name) (fills.earlier name) entry may;
    contents = λ b f at. fills.others f (λ is. hidden b (subst (λ (x : ℕ). MayLead d (parts.name_of b) (Some x)) is at));
    synced = λ b f at s. fills.synced f (λ is. hidden b (subst (λ (x : ℕ). MayLead d (parts.name_of b) (Some x)) is at)) ∙ s;
  }

  pub fills_bears : (file : ℕ) (bytes : List ℕ) (d e : Disk) → IsHidden parts d file → Fills file bytes d e → Bears parts d e
  fills_bears file bytes d e hidden fills = stable_bears d e (fills_stable file bytes d e hidden fills)

  pub fills_spares : (file : ℕ) (bytes : List ℕ) (d e : Disk) → IsHidden parts d file → Fills file bytes d e → Spares parts d e
  fills_spares file bytes d e hidden fills = stable_spares d e (fills_stable file bytes d e hidden fills)

  pub fills_leaves : (file : ℕ) (bytes : List ℕ) (g : ℕ) (temp : List ℕ) (d e : Disk) → g ≢ file → Fills file bytes d e → LeavesFile parts g temp d e
  fills_leaves file bytes g temp d e apart fills = record {
    contents = fills.others g apart;
    synced = λ s. fills.synced g apart ∙ s;
    hidden = λ h b may. h b (may_same d e (parts.name_of b) (fills.names (parts.name_of b)) (fills.earlier (parts.name_of b)) (Some g) may);
    leads = λ f at. sym (fills.names temp) ∙ at;
  }

  -- ---- a sync of a file

  syncs_stays : (file : ℕ) (d e : Disk) → Syncs file d e → (f : ℕ) → d.is_synced f ≡ true → e.is_synced f ≡ true
  syncs_stays file d e syncs f s = ⊎_elim (λ is. ap e.is_synced is ∙ syncs.own) (λ ne. syncs.others f ne ∙ s) (numbers_same f file)

  syncs_stable : (file : ℕ) (d e : Disk) → Syncs file d e → Stable d e
  syncs_stable file d e syncs = record {
    names = syncs.names;
    may = λ name entry may. may_same d e name (syncs.names name) (syncs.earlier name) entry may;
    contents = λ b f at. syncs.contents f;
    synced = λ b f at s. syncs_stays file d e syncs f s;
  }

  pub syncs_bears : (file : ℕ) (d e : Disk) → Syncs file d e → Bears parts d e
  syncs_bears file d e syncs = stable_bears d e (syncs_stable file d e syncs)

  pub syncs_spares : (file : ℕ) (d e : Disk) → Syncs file d e → Spares parts d e
  syncs_spares file d e syncs = stable_spares d e (syncs_stable file d e syncs)

  pub syncs_leaves : (file g : ℕ) (temp : List ℕ) (d e : Disk) → Syncs file d e → LeavesFile parts g temp d e
  syncs_leaves file g temp d e syncs = record {
    contents = syncs.contents g;
    synced = syncs_stays file d e syncs g;
    hidden = λ h b may. h b (may_same d e (parts.name_of b) (syncs.names (parts.name_of b)) (syncs.earlier (parts.name_of b)) (Some g) may);
    leads = λ f at. sym (syncs.names temp) ∙ at;
  }

  -- ---- a sync of the folder

  settled_may : (d e : Disk) → Settles d e → (name : List ℕ) (entry : Option ℕ) → MayLead e name entry → entry ≡ d.names name
  settled_may d e settles name entry (inl is) = is ∙ settles.names name
  settled_may d e settles name entry (inr among) = absurd (subst (λ (x : List (Option ℕ)). Among entry x) (settles.earlier name) among)

  settles_stable : (d e : Disk) → Settles d e → Stable d e
  settles_stable d e settles = record {
    names = settles.names;
    may = λ name entry may. inl (settled_may d e settles name entry may);
    contents = λ b f at. settles.contents f;
    synced = λ b f at s. settles.synced f ∙ s;
  }

  pub settles_bears : (d e : Disk) → Settles d e → Bears parts d e
  settles_bears d e settles = stable_bears d e (settles_stable d e settles)

  pub settles_spares : (d e : Disk) → Settles d e → Spares parts d e
  settles_spares d e settles = stable_spares d e (settles_stable d e settles)

  pub settles_leaves : (g : ℕ) (temp : List ℕ) (d e : Disk) → Settles d e → LeavesFile parts g temp d e
  settles_leaves g temp d e settles = record {
    contents = settles.contents g;
    synced = λ s. settles.synced g ∙ s;
    hidden = λ h b may. h b (inl (settled_may d e settles (parts.name_of b) (Some g) may));
    leads = λ f at. sym (settles.names temp) ∙ at;
  }

  -- what is held is safe once the folder is synced
  pub settled_safe : (d e : Disk) → Settles d e → (b : List ℕ) → IsHeld parts d b → IsSafe parts e b
  settled_safe d e settles b (part, file, at, holds, synced, covers) = λ names may.
      (part, file, settled_may d e settles (parts.name_of part) (names (parts.name_of part)) (may (parts.name_of part)) ∙ at, settles.contents file ∙ holds, settles.synced file ∙ synced, covers)

  -- and a synced part is on the disk
  pub settled_on_disk : (d e : Disk) → Settles d e → (b : List ℕ) (file : ℕ) → d.names (parts.name_of b) ≡ Some file → d.contents file ≡ b → d.is_synced file ≡ true → IsOnDisk parts e b
  settled_on_disk d e settles b file at holds synced = λ entry may.
      (file, settled_may d e settles (parts.name_of b) entry may ∙ at, settles.contents file ∙ holds, settles.synced file ∙ synced)

  -- ---- a change of one name

  abbrev before : List ℕ → Disk → Names → Names
  before name d names = λ n. if bytes_eq n name then d.names n else names n

  before_own : (name : List ℕ) (d : Disk) (names : Names) (n : List ℕ) → n ≡ name → before name d names n ≡ d.names n
  before_own name d names n is = cond-true (bytes_eq n name) (d.names n) (names n) (ap (λ (x : List ℕ). bytes_eq x name) is ∙ same_bytes name)

  before_other : (name : List ℕ) (d : Disk) (names : Names) (n : List ℕ) → n ≢ name → before name d names n ≡ names n
  before_other name d names n ne = cond-false (bytes_eq n name) (d.names n) (names n) (other_bytes n name ne)

  other_may : (name : List ℕ) (entry : Option ℕ) (d e : Disk) → Leads name entry d e → (n : List ℕ) → n ≢ name → (x : Option ℕ) → MayLead e n x → MayLead d n x
  other_may name entry d e leads n ne x may = may_same d e n (leads.others n ne) (leads.others_before n ne) x may

  before_may : (name : List ℕ) (entry : Option ℕ) (d e : Disk) → Leads name entry d e → (names : Names) → MayLeave e names → MayLeave d (before name d names)
  before_may name entry d e leads names may n = ⊎_elim
      (λ is. inl (before_own name d names n is))
      (λ ne. subst (λ (x : Option ℕ). MayLead d n x) (sym (before_other name d names n ne)) (other_may name entry d e leads n ne (names n) (may n)))
      (names_same n name)

  -- what stood under the name is covered whatever is left
  abbrev pub IsMadeUp : List ℕ → Disk → Disk → Type 0
  IsMadeUp name d e = (c : List ℕ) (f : ℕ) → parts.name_of c ≡ name → d.names name ≡ Some f → d.contents f ≡ c → (names : Names) → MayLeave e names → AreCovered parts e names c

  leads_covered : (name : List ℕ) (entry : Option ℕ) (d e : Disk) → Leads name entry d e → IsMadeUp name d e → (names : Names) → MayLeave e names → (b : List ℕ) → AreCovered parts d (before name d names) b → AreCovered parts e names b
  leads_covered name entry d e leads made names may b (part, file, at, holds, synced, covers) = ⊎_elim
      (λ is. covered_along e names part b covers (made part file is (ap d.names (sym is) ∙ sym (before_own name d names (parts.name_of part) is) ∙ at) holds names may))
      (λ ne. (part, file, sym (before_other name d names (parts.name_of part) ne) ∙ at, leads.contents file ∙ holds, leads.synced file ∙ synced, covers))
      (names_same (parts.name_of part) name)

  leads_held : (name : List ℕ) (entry : Option ℕ) (d e : Disk) → Leads name entry d e → IsMadeUp name d e → (b : List ℕ) → AreCovered parts d d.names b → AreCovered parts e e.names b
  leads_held name entry d e leads made b (part, file, at, holds, synced, covers) = ⊎_elim
      (λ is. covered_along e e.names part b covers (made part file is (ap d.names (sym is) ∙ at) holds e.names (λ n. inl refl)))
      (λ ne. (part, file, leads.others (parts.name_of part) ne ∙ at, leads.contents file ∙ holds, leads.synced file ∙ synced, covers))
      (names_same (parts.name_of part) name)

  pub leads_bears : (name : List ℕ) (entry : Option ℕ) (d e : Disk) → Leads name entry d e → IsMadeUp name d e → Bears parts d e
  leads_bears name entry d e leads made = record {
    held = λ b h. leads_held name entry d e leads made b h;
    safe = λ b safe names may. leads_covered name entry d e leads made names may b (safe (before name d names) (before_may name entry d e leads names may));
    there = λ b file at holds. ⊎_elim
        (λ is. inr (made b file is (ap d.names (sym is) ∙ at) holds e.names (λ n. inl refl)))
        (λ ne. inl (leads.others (parts.name_of b) ne ∙ at, leads.contents file ∙ holds))
        (names_same (parts.name_of b) name);
  }

  pub empty_made_up : (name : List ℕ) (d e : Disk) → IsEmpty parts d name → IsMadeUp name d e
  empty_made_up name d e empty = λ c f is at holds names may. absurd (empty c f is at)

  pub leads_spares : (name : List ℕ) (entry : Option ℕ) (d e : Disk) → Leads name entry d e → IsEmpty parts d name → Spares parts d e
  leads_spares name entry d e leads empty = record {
    there = λ b file at holds. (leads.others (parts.name_of b) (not_it b file at) ∙ at, leads.contents file ∙ holds);
    synced = λ b file at holds s. leads.synced file ∙ s;
    on_disk = λ b on.
        let here = on (d.names (parts.name_of b)) (inl refl) in
        on_disk_other b (not_it b here.0 here.1) on;
  }
    where
      not_it : (b : List ℕ) (file : ℕ) → d.names (parts.name_of b) ≡ Some file → parts.name_of b ≢ name
      not_it b file at is = empty b file is (ap d.names (sym is) ∙ at)

      on_disk_other : (b : List ℕ) → parts.name_of b ≢ name → IsOnDisk parts d b → IsOnDisk parts e b
      on_disk_other b ne on x may = let y = on x (other_may name entry d e leads (parts.name_of b) ne x may) in (y.0, y.1, leads.contents y.0 ∙ y.2, leads.synced y.0 ∙ y.3)

  -- a part that isn't the one under the name stays on the disk
  pub leads_on_disk : (name : List ℕ) (entry : Option ℕ) (d e : Disk) → Leads name entry d e → (b : List ℕ) → parts.name_of b ≢ name → IsOnDisk parts d b → IsOnDisk parts e b
  leads_on_disk name entry d e leads b ne on x may = let y = on x (other_may name entry d e leads (parts.name_of b) ne x may) in (y.0, y.1, leads.contents y.0 ∙ y.2, leads.synced y.0 ∙ y.3)

  pub on_disk_covered : (d : Disk) (b : List ℕ) → IsOnDisk parts d b → (names : Names) → MayLeave d names → AreCovered parts d names b
  on_disk_covered d b on names may = let x = on (names (parts.name_of b)) (may (parts.name_of b)) in (b, x.0, x.1, x.2, x.3, order.itself b)

  pub leads_leaves : (name : List ℕ) (entry : Option ℕ) (g : ℕ) (temp : List ℕ) (d e : Disk) → Leads name entry d e → (entry ≢ Some g) → ((f : ℕ) → e.names temp ≡ Some f → d.names temp ≡ Some f) → LeavesFile parts g temp d e
  leads_leaves name entry g temp d e leads ne same = record {
    contents = leads.contents g;
    synced = λ s. leads.synced g ∙ s;
    hidden = λ h b may. hides h b (names_same (parts.name_of b) name) may;
    leads = same;
  }
    where
      own : MayLead e name (Some g) → MayLead d name (Some g)
      own (inl is) = absurd (ne (sym leads.own ∙ sym is))
      own (inr among) = later (subst (λ (x : List (Option ℕ)). Among (Some g) x) leads.before among)
        where
          later : (Some g ≡ d.names name) ⊎ Among (Some g) (d.earlier name) → MayLead d name (Some g)
          later x = x

      hides : IsHidden parts d g → (b : List ℕ) → (parts.name_of b ≡ name) ⊎ (parts.name_of b ≢ name) → MayLead e (parts.name_of b) (Some g) → ⊥
      hides h b (inl is) may = h b (subst (λ (n : List ℕ). MayLead d n (Some g)) (sym is) (own (subst (λ (n : List ℕ). MayLead e n (Some g)) is may)))
      hides h b (inr other) may = h b (other_may name entry d e leads (parts.name_of b) other (Some g) may)
