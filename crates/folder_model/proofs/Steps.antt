-- What each call of a process, in turn, makes of its own stage; so what holds at each moment holds after each step.
use Rattle.std.proofs.Common.{◌≡◌, ◌≢◌, ◌⊎◌, inl, inr, ⊎_elim, ℕ, Bool, true, false, if◌then◌else◌, List, [], ◌∷◌, ◌++◌, Option, Some, None, refl, sym, ◌∙◌, ap, subst}
use Rattle.std.specs.Str.{bytes_eq}
use Rattle.std.proofs.lemmas.Bool.{cond_both}
use Rattle.std.proofs.lemmas.Slice.Eq.{bytes_eq-Decides}
use Rattle.folder_model.specs.Call.{Call, Made, Wrote, Synced, Linked, Removed, Settled, Locked, Unlocked, Began, Listed, Read, Looked, Kind, Exclusive, Shared, Done, Taken, Failed, lock_of, is_clean}
use Rattle.folder_model.specs.Disk.{Among, Disk, MayLead, Leads, Fills, Syncs, Settles, Restarts}
use Rattle.folder_model.specs.Parts.{Parts, IsOrder, IsNoPart, IsThere, IsHeld, IsSafe}
use Rattle.folder_model.specs.Turn.{Stage, Idle, Filled, Ready, Placed, Stored, Seen, Whole, Guarded, stage_of, wrote, synced, linked, settled, unguarded, HasRead, MayGo, InTurn, Listing, Unlisted, Running, Gave, listing_of, stopped, gave}
use Rattle.folder_model.specs.World.{World, SameOpen, SameLists, Stays, Notes, Links, Removes, Makes, Finds, Does}
use Rattle.folder_model.specs.Run.{Event, By, Comes, Leaves, Ends, PowerLost, Happens}
use Rattle.folder_model.proofs.Basics.{some_none, some_same, true_false, numbers_same}
use Rattle.folder_model.proofs.Disks.{IsHidden, Bears, Spares, covered_itself, bears_same, spares_same, leaves_same, syncs_bears, syncs_spares, settled_safe, settled_on_disk, settles_bears, settles_spares, settles_leaves, leads_on_disk, on_disk_covered}
use Rattle.folder_model.proofs.Means.{IsMaking, Holder, FilledMeans, ReadyMeans, GuardedMeans, IsHere, Means, GaveMeans, ListMeans, Sound, Fits, stands, gave_stands, list_stands, Own, sound_outside, sound_by}
use Rattle.folder_model.proofs.Effects.{settles_now, rest_stays, effect_same, effect_brings, effect_no_part, effect_call, now_means, is_making, no_part_bears, no_part_spares, removes_leaves}

drawn_same : (d e : World) → e.drawn ≡ d.drawn → (name : List ℕ) → Among name d.drawn → Among name e.drawn
drawn_same d e same name among = subst (λ (x : List (List ℕ)). Among name x) (sym same) among

-- it is no loss of power
abbrev pub NotLoss : Event → Type 0
NotLoss PowerLost = ⊥
NotLoss event = Unit {0}

module _ (parts : Parts) (order : IsOrder parts) (Known : List ℕ → Type 0) (distinct : (a b : List ℕ) → Known a → Known b → parts.name_of a ≡ parts.name_of b → a ≡ b) where
  module _ (q : ℕ) (d : World) (sound : Sound parts Known d) (there : (b : List ℕ) → IsThere parts d.disk b → Known b) where
    abbrev c : List Call
    c = d.calls q

    -- ---- the stage stays, and so does the disk

    same_fits : (call : Call) (e : World) (s : Stage) → e.disk ≡ d.disk → SameOpen d e → e.drawn ≡ d.drawn → lock_of (call ∷ c) ≡ lock_of c → is_clean (call ∷ c) ≡ is_clean c → Fits parts Known q s c (call ∷ c) d e
    same_fits call e s same open_files drawn lock clean = record {
      bears = bears_same parts order d.disk e.disk same;
      spares = λ _. spares_same parts order d.disk e.disk same;
      leaves = λ making name holder. leaves_same parts order (d.mine q) name d.disk e.disk same;
      mine = open_files q;
      drawn = drawn_same d e drawn;
      lock = lock;
      clean = clean;
    }

    same_means : (call : Call) (e : World) (s : Stage) → e.disk ≡ d.disk → SameOpen d e → e.drawn ≡ d.drawn → lock_of (call ∷ c) ≡ lock_of c → is_clean (call ∷ c) ≡ is_clean c → Means parts Known d q c s → Means parts Known e q (call ∷ c) s
    same_means call e s same open_files drawn lock clean m = stands parts Known q s c (call ∷ c) d e (same_fits call e s same open_files drawn lock clean) m

    stays_means : (call : Call) (e : World) (s : Stage) → e.disk ≡ d.disk → Stays d e → lock_of (call ∷ c) ≡ lock_of c → is_clean (call ∷ c) ≡ is_clean c → Means parts Known d q c s → Means parts Known e q (call ∷ c) s
    stays_means call e s same stays lock clean m = same_means call e s same stays.open_files stays.drawn lock clean m

    -- ---- a new file

    made_means : (name : List ℕ) (e : World) → IsNoPart parts name → Makes q name d e → FilledMeans parts Known e q (Made name true ∷ c) name []
    made_means name e temp made = record {
      holder = record {
        hidden = subst (λ (f : ℕ). IsHidden parts e.disk f) (sym made.open_files.own) hides;
        leads = λ f at. some_same f made.file (sym at ∙ leads.own) ∙ sym made.open_files.own;
        drawn = subst (λ (x : List (List ℕ)). Among name x) (sym made.drawn) (inl refl);
        temp = temp;
      };
      holds = ap e.disk.contents made.open_files.own ∙ leads.contents made.file ∙ fills.own;
      clean = refl;
    }
      where
        v : Disk
        v = made.disk.0

        fills : Fills made.file [] d.disk made.disk.0
        fills = made.disk.1

        leads : Leads name (Some made.file) made.disk.0 e.disk
        leads = made.disk.2

        earlier : (b : List ℕ) → MayLead e.disk (parts.name_of b) (Some made.file) → MayLead d.disk (parts.name_of b) (Some made.file)
        earlier b (inl is) = inl (is ∙ leads.others (parts.name_of b) (λ same. temp b (sym same)) ∙ fills.names (parts.name_of b))
        earlier b (inr among) = inr (subst (λ (x : List (Option ℕ)). Among (Some made.file) x) (leads.others_before (parts.name_of b) (λ same. temp b (sym same)) ∙ fills.earlier (parts.name_of b)) among)

        hides : IsHidden parts e.disk made.file
        hides b may = made.fresh.unnamed (parts.name_of b) (earlier b may)

    -- ---- bytes

    wrote_means : (name filled bytes : List ℕ) (e : World) → Fills (d.mine q) (d.disk.contents (d.mine q) ++ bytes) d.disk e.disk → Stays d e → FilledMeans parts Known d q c name filled → FilledMeans parts Known e q (Wrote bytes true ∷ c) name (filled ++ bytes)
    wrote_means name filled bytes e fills stays m = record {
      holder = record {
        hidden = subst (λ (f : ℕ). IsHidden parts e.disk f) (sym (stays.open_files q)) hides;
        leads = λ f at. m.holder.leads f (sym (fills.names name) ∙ at) ∙ sym (stays.open_files q);
        drawn = drawn_same d e stays.drawn name m.holder.drawn;
        temp = m.holder.temp;
      };
      holds = ap e.disk.contents (stays.open_files q) ∙ fills.own ∙ ap (λ (x : List ℕ). x ++ bytes) m.holds;
      clean = m.clean;
    }
      where
        hides : IsHidden parts e.disk (d.mine q)
        hides b (inl is) = m.holder.hidden b (inl (is ∙ fills.names (parts.name_of b)))
        hides b (inr among) = m.holder.hidden b (inr (subst (λ (x : List (Option ℕ)). Among (Some (d.mine q)) x) (fills.earlier (parts.name_of b)) among))

    -- ---- a sync of the open file

    module _ (e : World) (syncs : Syncs (d.mine q) d.disk e.disk) (stays : Stays d e) where
      synced_here : (b : List ℕ) → IsHere parts Known d q b → IsHere parts Known e q b × (e.disk.is_synced (e.mine q) ≡ true)
      synced_here b (at, holds) = (
        (syncs.names (parts.name_of b) ∙ at ∙ ap (λ (x : ℕ). Some x) (sym (stays.open_files q)), ap e.disk.contents (stays.open_files q) ∙ syncs.contents (d.mine q) ∙ holds),
        ap e.disk.is_synced (stays.open_files q) ∙ syncs.own,
      )

      synced_held : (b : List ℕ) → IsHere parts Known d q b ⊎ IsHeld parts d.disk b → IsHeld parts e.disk b
      synced_held b (inl here) = let x = synced_here b here in covered_itself parts order e.disk e.disk.names b (e.mine q) x.0.0 x.0.1 x.1
      synced_held b (inr held) = (syncs_bears parts order (d.mine q) d.disk e.disk syncs).held b held

      synced_hidden : IsHidden parts d.disk (d.mine q) → IsHidden parts e.disk (e.mine q)
      synced_hidden hidden = subst (λ (f : ℕ). IsHidden parts e.disk f) (sym (stays.open_files q)) hides
        where
          hides : IsHidden parts e.disk (d.mine q)
          hides b (inl is) = hidden b (inl (is ∙ syncs.names (parts.name_of b)))
          hides b (inr among) = hidden b (inr (subst (λ (x : List (Option ℕ)). Among (Some (d.mine q)) x) (syncs.earlier (parts.name_of b)) among))

      still_synced : (f : ℕ) → d.disk.is_synced f ≡ true → e.disk.is_synced f ≡ true
      still_synced f s = ⊎_elim (λ is. ap e.disk.is_synced is ∙ syncs.own) (λ ne. syncs.others f ne ∙ s) (numbers_same f (d.mine q))

      synced_holder : (name : List ℕ) → Holder parts Known d q name → Holder parts Known e q name
      synced_holder name holder = record {
        hidden = synced_hidden holder.hidden;
        leads = λ f at. holder.leads f (sym (syncs.names name) ∙ at) ∙ sym (stays.open_files q);
        drawn = drawn_same d e stays.drawn name holder.drawn;
        temp = holder.temp;
      }

      synced_spares : Spares parts d.disk e.disk
      synced_spares = syncs_spares parts order (d.mine q) d.disk e.disk syncs

      synced_means : (s : Stage) → Means parts Known d q c s → Means parts Known e q (Synced true ∷ c) (synced true s)
      synced_means Idle m = tt
      synced_means (Filled name bytes) m = record {
        holder = synced_holder name m.holder;
        holds = ap e.disk.contents (stays.open_files q) ∙ syncs.contents (d.mine q) ∙ m.holds;
        synced = ap e.disk.is_synced (stays.open_files q) ∙ syncs.own;
      }
      synced_means (Ready name bytes) m = record {
        holder = synced_holder name m.holder;
        holds = ap e.disk.contents (stays.open_files q) ∙ syncs.contents (d.mine q) ∙ m.holds;
        synced = ap e.disk.is_synced (stays.open_files q) ∙ syncs.own;
      }
      synced_means (Placed bytes) m = (syncs_bears parts order (d.mine q) d.disk e.disk syncs).held bytes m
      synced_means (Stored bytes) m = (syncs_bears parts order (d.mine q) d.disk e.disk syncs).safe bytes m
      synced_means (Seen bytes) m = record {
        held = synced_held bytes m.here;
        alone = λ lock. synced_here bytes (m.alone lock);
      }
      synced_means (Whole bytes) m = record {
        held = synced_held bytes (inr m.held);
        alone = λ lock. synced_here bytes (m.alone lock).0;
      }
      synced_means (Guarded bytes) m = record { lock = m.lock; on_disk = synced_spares.on_disk bytes m.on_disk }

    -- a sync after one that failed: nothing is known
    unclean_means : (e : World) → is_clean c ≡ false → e.disk ≡ d.disk → Stays d e → (s : Stage) → Means parts Known d q c s → Means parts Known e q (Synced true ∷ c) (synced true s)
    unclean_means e unclean same stays (Filled name bytes) m = absurd (true_false (sym m.clean ∙ unclean))
    unclean_means e unclean same stays (Seen bytes) m = absurd (true_false (sym m.clean ∙ unclean))
    unclean_means e unclean same stays Idle m = tt
    unclean_means e unclean same stays (Ready name bytes) m = stays_means (Synced true) e (Ready name bytes) same stays refl refl m
    unclean_means e unclean same stays (Placed bytes) m = stays_means (Synced true) e (Placed bytes) same stays refl refl m
    unclean_means e unclean same stays (Stored bytes) m = stays_means (Synced true) e (Stored bytes) same stays refl refl m
    unclean_means e unclean same stays (Whole bytes) m = stays_means (Synced true) e (Whole bytes) same stays refl refl m
    unclean_means e unclean same stays (Guarded bytes) m = stays_means (Synced true) e (Guarded bytes) same stays refl refl m

    -- ---- a link

    linked_means : (from bytes to : List ℕ) (e : World) → to ≡ parts.name_of bytes → Links from to d.disk e.disk → ReadyMeans parts Known d q from bytes → IsHeld parts e.disk bytes
    linked_means from bytes to e named (file, at, none, leads) m =
        let file_is : file ≡ d.mine q = m.holder.leads file at in
        covered_itself parts order e.disk e.disk.names bytes file
        (ap e.disk.names (sym named) ∙ leads.own)
        (leads.contents file ∙ ap d.disk.contents file_is ∙ m.holds)
        (leads.synced file ∙ ap d.disk.is_synced file_is ∙ m.synced)

    -- ---- a sync of the folder

    settled_means : (lock : Option Kind) (s : Stage) (e : World) → lock_of c ≡ lock → Settles d.disk e.disk → Stays d e → Means parts Known d q c s → Means parts Known e q (Settled true ∷ c) (settled true lock s)
    settled_means lock s e is settles stays m = by lock s is m
      where
        same : (x : Stage) → Means parts Known d q c x → Means parts Known e q (Settled true ∷ c) x
        same x mx = stands parts Known q x c (Settled true ∷ c) d e (record {
          bears = settles_bears parts order d.disk e.disk settles;
          spares = λ _. settles_spares parts order d.disk e.disk settles;
          leaves = λ making name holder. settles_leaves parts order (d.mine q) name d.disk e.disk settles;
          mine = stays.open_files q;
          drawn = drawn_same d e stays.drawn;
          lock = refl;
          clean = refl;
        }) mx

        by : (l : Option Kind) (x : Stage) → lock_of c ≡ l → Means parts Known d q c x → Means parts Known e q (Settled true ∷ c) (settled true l x)
        by None (Placed bytes) has mx = settled_safe parts order d.disk e.disk settles bytes mx
        by (Some Shared) (Placed bytes) has mx = settled_safe parts order d.disk e.disk settles bytes mx
        by (Some Exclusive) (Placed bytes) has mx = settled_safe parts order d.disk e.disk settles bytes mx
        by None (Whole bytes) has mx = settled_safe parts order d.disk e.disk settles bytes mx.held
        by (Some Shared) (Whole bytes) has mx = settled_safe parts order d.disk e.disk settles bytes mx.held
        by (Some Exclusive) (Whole bytes) has mx = record {
          lock = has;
          on_disk = let x = mx.alone has in settled_on_disk parts order d.disk e.disk settles bytes (d.mine q) x.0.0 x.0.1 x.1;
        }
        by None Idle has mx = tt
        by (Some Shared) Idle has mx = tt
        by (Some Exclusive) Idle has mx = tt
        by None (Filled name bytes) has mx = same (Filled name bytes) mx
        by (Some Shared) (Filled name bytes) has mx = same (Filled name bytes) mx
        by (Some Exclusive) (Filled name bytes) has mx = same (Filled name bytes) mx
        by None (Ready name bytes) has mx = same (Ready name bytes) mx
        by (Some Shared) (Ready name bytes) has mx = same (Ready name bytes) mx
        by (Some Exclusive) (Ready name bytes) has mx = same (Ready name bytes) mx
        by None (Stored bytes) has mx = same (Stored bytes) mx
        by (Some Shared) (Stored bytes) has mx = same (Stored bytes) mx
        by (Some Exclusive) (Stored bytes) has mx = same (Stored bytes) mx
        by None (Seen bytes) has mx = same (Seen bytes) mx
        by (Some Shared) (Seen bytes) has mx = same (Seen bytes) mx
        by (Some Exclusive) (Seen bytes) has mx = same (Seen bytes) mx
        by None (Guarded bytes) has mx = same (Guarded bytes) mx
        by (Some Shared) (Guarded bytes) has mx = same (Guarded bytes) mx
        by (Some Exclusive) (Guarded bytes) has mx = same (Guarded bytes) mx

    -- ---- another lock

    unguarded_means : (call : Call) (s : Stage) (e : World) → e.disk ≡ d.disk → Stays d e → is_clean (call ∷ c) ≡ is_clean c → Means parts Known d q c s → Means parts Known e q (call ∷ c) (unguarded s)
    unguarded_means call Idle e same stays clean m = tt
    unguarded_means call (Filled name bytes) e same stays clean m =
        let x : FilledMeans parts Known e q c name bytes = stands parts Known q (Filled name bytes) c c d e (record {
          bears = bears_same parts order d.disk e.disk same;
          spares = λ _. spares_same parts order d.disk e.disk same;
          leaves = λ making n holder. leaves_same parts order (d.mine q) n d.disk e.disk same;
          mine = stays.open_files q;
          drawn = drawn_same d e stays.drawn;
          lock = refl;
          clean = refl;
        }) m in
        record { holder = x.holder; holds = x.holds; clean = clean ∙ x.clean }
    unguarded_means call (Ready name bytes) e same stays clean m =
        stands parts Known q (Ready name bytes) c c d e (record {
          bears = bears_same parts order d.disk e.disk same;
          spares = λ _. spares_same parts order d.disk e.disk same;
          leaves = λ making n holder. leaves_same parts order (d.mine q) n d.disk e.disk same;
          mine = stays.open_files q;
          drawn = drawn_same d e stays.drawn;
          lock = refl;
          clean = refl;
        }) m
    unguarded_means call (Placed bytes) e same stays clean m = (bears_same parts order d.disk e.disk same).held bytes m
    unguarded_means call (Stored bytes) e same stays clean m = (bears_same parts order d.disk e.disk same).safe bytes m
    unguarded_means call (Seen bytes) e same stays clean m = tt
    unguarded_means call (Whole bytes) e same stays clean m = (bears_same parts order d.disk e.disk same).held bytes m.held
    unguarded_means call (Guarded bytes) e same stays clean m = (bears_same parts order d.disk e.disk same).safe bytes (on_disk_covered parts order d.disk bytes m.on_disk)

    -- ---- what is removed

    removed_means : (name : List ℕ) (ok : Bool) (e : World) → IsNoPart parts name ⊎ MayGo parts c name → Removes name d e → Means parts Known e q (Removed name ok ∷ c) (stage_of parts c)
    removed_means name ok e (inl no_part) removes = stands parts Known q (stage_of parts c) c (Removed name ok ∷ c) d e (record {
      bears = no_part_bears parts order Known distinct q d sound name e no_part removes;
      spares = λ _. no_part_spares parts order Known distinct q d sound name e no_part removes;
      leaves = λ making temp holder. removes_leaves parts order Known distinct q d sound name temp (d.mine q) e removes;
      mine = removes.open_files q;
      drawn = drawn_same d e removes.drawn;
      lock = refl;
      clean = refl;
    }) (sound.means q)
    removed_means name ok e (inr go) removes =
        let m : GuardedMeans parts Known d c go.packed = now_means parts order Known distinct q d sound (Guarded go.packed) go.guarded in
        subst (λ (s : Stage). Means parts Known e q (Removed name ok ∷ c) s) (sym go.guarded) (record {
          lock = m.lock;
          on_disk = leads_on_disk parts order name None d.disk e.disk removes.disk go.packed go.apart m.on_disk;
        })

    -- ---- a read

    found_means : (name bytes : List ℕ) (e : World) → Finds q name bytes d e → Means parts Known e q (Read name (Some (Some bytes)) ∷ c) (if bytes_eq name (parts.name_of bytes) then Seen bytes else Idle)
    found_means name bytes e finds = cond_both (bytes_eq name (parts.name_of bytes)) (Seen bytes) Idle (λ s. Means parts Known e q (Read name (Some (Some bytes)) ∷ c) s)
        (λ t. let here = is_here ((bytes_eq-Decides name (parts.name_of bytes)).0 t) in record { clean = refl; here = inl here; alone = λ lock. here })
        (λ f. tt)
      where
        is_here : name ≡ parts.name_of bytes → IsHere parts Known e q bytes
        is_here is = (
          ap (λ (x : Disk). x.names (parts.name_of bytes)) finds.disk ∙ ap d.disk.names (sym is) ∙ finds.named ∙ ap (λ (x : ℕ). Some x) (sym finds.open_files.own),
          ap (λ (x : Disk). x.contents (e.mine q)) finds.disk ∙ ap d.disk.contents finds.open_files.own ∙ finds.holds,
        )

    -- ---- each call

    pub own_means : (call : Call) (e : World) → InTurn parts c call → Does q call d e → Means parts Known e q (call ∷ c) (stage_of parts (call ∷ c))
    own_means (Made name true) e turn made = made_means name e turn made
    own_means (Made name false) e turn made = tt
    own_means (Wrote bytes true) e turn does =
        subst (λ (s : Stage). Means parts Known e q (Wrote bytes true ∷ c) (wrote bytes true s)) (sym turn.2)
        (wrote_means turn.0 turn.1 bytes e does.0 does.1 (now_means parts order Known distinct q d sound (Filled turn.0 turn.1) turn.2))
    own_means (Wrote bytes false) e turn does = tt
    own_means (Synced true) e turn (inl (clean, syncs, stays)) = synced_means e syncs stays (stage_of parts c) (sound.means q)
    own_means (Synced true) e turn (inr (clean, same, stays)) = unclean_means e clean same stays (stage_of parts c) (sound.means q)
    own_means (Synced false) e turn does = tt
    own_means (Linked from to Done) e turn does =
        subst (λ (s : Stage). Means parts Known e q (Linked from to Done ∷ c) (linked Done s)) (sym turn.1)
        (linked_means from turn.0 to e turn.2 does.0 (now_means parts order Known distinct q d sound (Ready from turn.0) turn.1))
    own_means (Linked from to Taken) e turn does = stays_means (Linked from to Taken) e (stage_of parts c) does.1 does.2 refl refl (sound.means q)
    own_means (Linked from to Failed) e turn does = tt
    own_means (Removed name true) e turn removes = removed_means name true e turn removes
    own_means (Removed name false) e turn (inl removes) = removed_means name false e turn removes
    own_means (Removed name false) e turn (inr does) = stays_means (Removed name false) e (stage_of parts c) does.0 does.1 refl refl (sound.means q)
    own_means (Settled true) e turn does = let x = settles_now parts q d e turn does in settled_means (lock_of c) (stage_of parts c) e refl x.0 x.1 (sound.means q)
    own_means (Settled false) e turn does = tt
    own_means (Locked Exclusive true) e turn does = unguarded_means (Locked Exclusive true) (stage_of parts c) e does.1 does.2 refl (sound.means q)
    own_means (Locked Shared true) e turn does = unguarded_means (Locked Shared true) (stage_of parts c) e does.1 does.2 refl (sound.means q)
    own_means (Locked Exclusive false) e turn does = unguarded_means (Locked Exclusive false) (stage_of parts c) e does.0 does.1 refl (sound.means q)
    own_means (Locked Shared false) e turn does = unguarded_means (Locked Shared false) (stage_of parts c) e does.0 does.1 refl (sound.means q)
    own_means Unlocked e turn does = unguarded_means Unlocked (stage_of parts c) e does.0 does.1 refl (sound.means q)
    own_means Began e turn begins = same_means Began e (stage_of parts c) begins.disk begins.open_files begins.drawn refl refl (sound.means q)
    own_means (Listed (Some names)) e turn does = stays_means (Listed (Some names)) e (stage_of parts c) does.1 does.2 refl refl (sound.means q)
    own_means (Listed None) e turn does = stays_means (Listed None) e (stage_of parts c) does.0 does.1 refl refl (sound.means q)
    own_means (Read name (Some (Some bytes))) e turn finds = found_means name bytes e finds
    own_means (Read name (Some None)) e turn does = tt
    own_means (Read name None) e turn does = tt
    own_means (Looked name ok) e turn does = stays_means (Looked name ok) e (stage_of parts c) does.0 does.1 refl refl (sound.means q)

    -- ---- the locks

    pub own_locks : (call : Call) (e : World) → Does q call d e → lock_of (call ∷ c) ≡ Some Exclusive → (p : ℕ) → p ≢ q → lock_of (d.calls p) ≡ None
    own_locks (Locked Exclusive true) e does lock p other = does.0 p other
    own_locks (Locked Shared true) e does lock p other = absurd (not_shared (some_same Shared Exclusive lock))
      where
        not_shared : Shared ≡ Exclusive → ⊥
        not_shared is = cc
    own_locks (Locked Exclusive false) e does lock p other = absurd (some_none Exclusive (sym lock))
    own_locks (Locked Shared false) e does lock p other = absurd (some_none Exclusive (sym lock))
    own_locks Unlocked e does lock p other = absurd (some_none Exclusive (sym lock))
    own_locks call e does lock p other = sound.alone q p (λ is. other (sym is)) lock

    pub own_unlocked : (call : Call) (e : World) → Does q call d e → (p : ℕ) → p ≢ q → lock_of (d.calls p) ≡ Some Exclusive → lock_of (call ∷ c) ≡ None
    own_unlocked (Locked Exclusive true) e does p other lock = absurd (some_none Exclusive (sym lock ∙ does.0 p other))
    own_unlocked (Locked Shared true) e does p other lock = absurd (does.0 p other lock)
    own_unlocked (Locked Exclusive false) e does p other lock = refl
    own_unlocked (Locked Shared false) e does p other lock = refl
    own_unlocked Unlocked e does p other lock = refl
    own_unlocked call e does p other lock = sound.alone p q other lock

    -- ---- whose file is whose

    apart_same : (e : World) → SameOpen d e → (p : ℕ) → p ≢ q → IsMaking (stage_of parts (d.calls p)) → IsMaking (stage_of parts c) → d.mine p ≢ e.mine q
    apart_same e open_files p other first second is = sound.apart p q other first second (is ∙ open_files q)

    synced_making : (s : Stage) → IsMaking (synced true s) → IsMaking s
    synced_making (Filled name bytes) m = tt
    synced_making (Ready name bytes) m = tt
    synced_making (Seen bytes) m = m
    synced_making Idle m = m
    synced_making (Placed bytes) m = m
    synced_making (Stored bytes) m = m
    synced_making (Whole bytes) m = m
    synced_making (Guarded bytes) m = m

    unguarded_making : (s : Stage) → IsMaking (unguarded s) → IsMaking s
    unguarded_making (Filled name bytes) m = tt
    unguarded_making (Ready name bytes) m = tt
    unguarded_making (Seen bytes) m = m
    unguarded_making Idle m = m
    unguarded_making (Placed bytes) m = m
    unguarded_making (Stored bytes) m = m
    unguarded_making (Whole bytes) m = m
    unguarded_making (Guarded bytes) m = m

    settled_making : (lock : Option Kind) (s : Stage) → IsMaking (settled true lock s) → IsMaking s
    settled_making lock (Filled name bytes) m = tt
    settled_making lock (Ready name bytes) m = tt
    settled_making None (Seen bytes) m = m
    settled_making None Idle m = m
    settled_making None (Placed bytes) m = m
    settled_making None (Stored bytes) m = m
    settled_making None (Whole bytes) m = m
    settled_making None (Guarded bytes) m = m
    settled_making (Some Shared) (Seen bytes) m = m
    settled_making (Some Shared) Idle m = m
    settled_making (Some Shared) (Placed bytes) m = m
    settled_making (Some Shared) (Stored bytes) m = m
    settled_making (Some Shared) (Whole bytes) m = m
    settled_making (Some Shared) (Guarded bytes) m = m
    settled_making (Some Exclusive) (Seen bytes) m = m
    settled_making (Some Exclusive) Idle m = m
    settled_making (Some Exclusive) (Placed bytes) m = m
    settled_making (Some Exclusive) (Stored bytes) m = m
    settled_making (Some Exclusive) (Whole bytes) m = m
    settled_making (Some Exclusive) (Guarded bytes) m = m

    linked_making : (s : Stage) → IsMaking (linked Done s) → ⊥
    linked_making (Filled name bytes) m = m
    linked_making (Ready name bytes) m = m
    linked_making (Seen bytes) m = m
    linked_making Idle m = m
    linked_making (Placed bytes) m = m
    linked_making (Stored bytes) m = m
    linked_making (Whole bytes) m = m
    linked_making (Guarded bytes) m = m

    found_making : (name bytes : List ℕ) → IsMaking (if bytes_eq name (parts.name_of bytes) then Seen bytes else Idle) → ⊥
    found_making name bytes = cond_both (bytes_eq name (parts.name_of bytes)) (Seen bytes) Idle (λ s. IsMaking s → ⊥) (λ t m. m) (λ f m. m)

    pub own_apart : (call : Call) (e : World) → InTurn parts c call → Does q call d e → (p : ℕ) → p ≢ q → IsMaking (stage_of parts (d.calls p)) → IsMaking (stage_of parts (call ∷ c)) → d.mine p ≢ e.mine q
    own_apart (Made name true) e turn made p other first second = λ is. made.fresh.unopened p (is ∙ made.open_files.own)
    own_apart (Made name false) e turn made p other first second = absurd second
    own_apart (Wrote bytes true) e turn does p other first second = apart_same e does.1.open_files p other first (is_making parts order Known distinct q d sound (Filled turn.0 turn.1) turn.2 tt)
    own_apart (Wrote bytes false) e turn does p other first second = absurd second
    own_apart (Synced true) e turn (inl (clean, syncs, stays)) p other first second = apart_same e stays.open_files p other first (synced_making (stage_of parts c) second)
    own_apart (Synced true) e turn (inr (clean, same, stays)) p other first second = apart_same e stays.open_files p other first (synced_making (stage_of parts c) second)
    own_apart (Synced false) e turn does p other first second = absurd second
    own_apart (Linked from to Done) e turn does p other first second = absurd (linked_making (stage_of parts c) second)
    own_apart (Linked from to Taken) e turn does p other first second = apart_same e does.2.open_files p other first second
    own_apart (Linked from to Failed) e turn does p other first second = absurd second
    own_apart (Removed name true) e turn removes p other first second = apart_same e removes.open_files p other first second
    own_apart (Removed name false) e turn (inl removes) p other first second = apart_same e removes.open_files p other first second
    own_apart (Removed name false) e turn (inr does) p other first second = apart_same e does.1.open_files p other first second
    own_apart (Settled true) e turn does p other first second = apart_same e (settles_now parts q d e turn does).1.open_files p other first (settled_making (lock_of c) (stage_of parts c) second)
    own_apart (Settled false) e turn does p other first second = absurd second
    own_apart (Locked Exclusive true) e turn does p other first second = apart_same e does.2.open_files p other first (unguarded_making (stage_of parts c) second)
    own_apart (Locked Shared true) e turn does p other first second = apart_same e does.2.open_files p other first (unguarded_making (stage_of parts c) second)
    own_apart (Locked Exclusive false) e turn does p other first second = apart_same e does.1.open_files p other first (unguarded_making (stage_of parts c) second)
    own_apart (Locked Shared false) e turn does p other first second = apart_same e does.1.open_files p other first (unguarded_making (stage_of parts c) second)
    own_apart Unlocked e turn does p other first second = apart_same e does.1.open_files p other first (unguarded_making (stage_of parts c) second)
    own_apart Began e turn begins p other first second = apart_same e begins.open_files p other first second
    own_apart (Listed (Some names)) e turn does p other first second = apart_same e does.2.open_files p other first second
    own_apart (Listed None) e turn does p other first second = apart_same e does.1.open_files p other first second
    own_apart (Read name (Some (Some bytes))) e turn finds p other first second = absurd (found_making name bytes second)
    own_apart (Read name (Some None)) e turn does p other first second = absurd second
    own_apart (Read name None) e turn does p other first second = absurd second
    own_apart (Looked name ok) e turn does p other first second = apart_same e does.1.open_files p other first second

    -- ---- the listing

    gave_along : (e : World) (names : List (List ℕ)) → e.began q ≡ d.began q → GaveMeans parts Known d q names → GaveMeans parts Known e q names
    gave_along e names same m = gave_stands parts Known q d e names same m

    lists_along : (call : Call) (e : World) → SameLists d e → lock_of (call ∷ c) ≡ lock_of c → (l : Listing) → ListMeans parts Known d q c l → ListMeans parts Known e q (call ∷ c) l
    lists_along call e lists lock l m = list_stands parts Known q l c (call ∷ c) d e (record {
      began = lists.began q;
      gone = λ kind has b among. subst (λ (x : List (List ℕ)). Among (parts.name_of b) x) (lists.gone q) among;
      lock = lock;
    }) m

    stopped_along : (call : Call) (e : World) → e.began q ≡ d.began q → (l : Listing) → ListMeans parts Known d q c l → ListMeans parts Known e q (call ∷ c) (stopped l)
    stopped_along call e same Unlisted m = tt
    stopped_along call e same Running m = tt
    stopped_along call e same (Gave names) m = gave_along e names same m

    gave_means : (names : List (List ℕ)) (e : World) → SameLists d e → ((name : List ℕ) (file : ℕ) → (d.began q).names name ≡ Some file → (Among name (d.gone q) → ⊥) → Among name names)
        → (l : Listing) → ListMeans parts Known d q c l → ListMeans parts Known e q (Listed (Some names) ∷ c) (gave (Some names) l)
    gave_means names e lists lists_all Unlisted m = tt
    gave_means names e lists lists_all Running m = λ b here.
        let was : IsThere parts (d.began q) b = subst (λ (x : Disk). IsThere parts x b) (lists.began q) here in
        let x = m.each b was in
        (x.0, lists_all (parts.name_of b) was.0 was.1 x.1)
    gave_means names e lists lists_all (Gave others) m = tt

    pub own_lists : (call : Call) (e : World) → InTurn parts c call → Does q call d e → ListMeans parts Known e q (call ∷ c) (listing_of (call ∷ c))
    own_lists (Made name true) e turn made = lists_along (Made name true) e made.lists refl (listing_of c) (sound.lists q)
    own_lists (Made name false) e turn made = lists_along (Made name false) e made.lists refl (listing_of c) (sound.lists q)
    own_lists (Wrote bytes true) e turn does = lists_along (Wrote bytes true) e does.1.lists refl (listing_of c) (sound.lists q)
    own_lists (Wrote bytes false) e turn does = lists_along (Wrote bytes false) e does.2.lists refl (listing_of c) (sound.lists q)
    own_lists (Synced true) e turn (inl (clean, syncs, stays)) = lists_along (Synced true) e stays.lists refl (listing_of c) (sound.lists q)
    own_lists (Synced true) e turn (inr (clean, same, stays)) = lists_along (Synced true) e stays.lists refl (listing_of c) (sound.lists q)
    own_lists (Synced false) e turn does = lists_along (Synced false) e does.1.lists refl (listing_of c) (sound.lists q)
    own_lists (Linked from to Done) e turn does = lists_along (Linked from to Done) e does.1.lists refl (listing_of c) (sound.lists q)
    own_lists (Linked from to Taken) e turn does = lists_along (Linked from to Taken) e does.2.lists refl (listing_of c) (sound.lists q)
    own_lists (Linked from to Failed) e turn does = lists_along (Linked from to Failed) e does.1.lists refl (listing_of c) (sound.lists q)
    own_lists (Removed name true) e turn removes = stopped_along (Removed name true) e (removes.lists.began q) (listing_of c) (sound.lists q)
    own_lists (Removed name false) e turn (inl removes) = stopped_along (Removed name false) e (removes.lists.began q) (listing_of c) (sound.lists q)
    own_lists (Removed name false) e turn (inr does) = stopped_along (Removed name false) e (does.1.lists.began q) (listing_of c) (sound.lists q)
    own_lists (Settled true) e turn does = lists_along (Settled true) e (settles_now parts q d e turn does).1.lists refl (listing_of c) (sound.lists q)
    own_lists (Settled false) e turn does = lists_along (Settled false) e does.1.lists refl (listing_of c) (sound.lists q)
    own_lists (Locked Exclusive true) e turn does = stopped_along (Locked Exclusive true) e (does.2.lists.began q) (listing_of c) (sound.lists q)
    own_lists (Locked Shared true) e turn does = stopped_along (Locked Shared true) e (does.2.lists.began q) (listing_of c) (sound.lists q)
    own_lists (Locked Exclusive false) e turn does = stopped_along (Locked Exclusive false) e (does.1.lists.began q) (listing_of c) (sound.lists q)
    own_lists (Locked Shared false) e turn does = stopped_along (Locked Shared false) e (does.1.lists.began q) (listing_of c) (sound.lists q)
    own_lists Unlocked e turn does = stopped_along Unlocked e (does.1.lists.began q) (listing_of c) (sound.lists q)
    own_lists Began e turn begins = record {
      kind = turn.0;
      lock = turn.1;
      each = λ b here. (there b (subst (λ (x : Disk). IsThere parts x b) begins.lists.own here), subst (λ (x : List (List ℕ)). Among (parts.name_of b) x) begins.lists.own_gone);
    }
    own_lists (Listed (Some names)) e turn does = gave_means names e does.2.lists does.0 (listing_of c) (sound.lists q)
    own_lists (Listed None) e turn does = not_given (listing_of c)
      where
        not_given : (l : Listing) → ListMeans parts Known e q (Listed None ∷ c) (gave None l)
        not_given Unlisted = tt
        not_given Running = tt
        not_given (Gave names) = tt
    own_lists (Read name (Some (Some bytes))) e turn finds = lists_along (Read name (Some (Some bytes))) e finds.lists refl (listing_of c) (sound.lists q)
    own_lists (Read name (Some None)) e turn does = lists_along (Read name (Some None)) e does.2.lists refl (listing_of c) (sound.lists q)
    own_lists (Read name None) e turn does = lists_along (Read name None) e does.1.lists refl (listing_of c) (sound.lists q)
    own_lists (Looked name ok) e turn does = lists_along (Looked name ok) e does.1.lists refl (listing_of c) (sound.lists q)

    -- ---- what was read

    pub own_read : (call : Call) (e : World) → Does q call d e → (b : List ℕ) → HasRead parts b (call ∷ c) → Known b
    own_read (Read name (Some (Some bytes))) e finds b (inl (is, named)) = there b (finds.file, ap d.disk.names (sym named) ∙ finds.named, finds.holds ∙ is)
    own_read (Read name (Some (Some bytes))) e finds b (inr has) = sound.read q b has
    own_read call e does b has = sound.read q b has

    -- ---- one call

    pub own : (call : Call) (e : World) → InTurn parts c call → Does q call d e → Notes q call d e → Own parts Known q (call ∷ c) d e
    own call e turn does notes = record {
      calls = notes.own;
      others = notes.others;
      locks = own_locks call e does;
      unlocked = own_unlocked call e does;
      apart = own_apart call e turn does;
      means = own_means call e turn does;
      lists = own_lists call e turn does;
      read = own_read call e does;
    }

  -- ---- each event

  restarts_safe : (d e : Disk) → Restarts d e → (b : List ℕ) → IsSafe parts d b → IsSafe parts e b
  restarts_safe d e restarts b safe names may =
      let x = safe e.names restarts.names in
      let n = parts.name_of x.0 in
      (x.0, x.1, is_now n (may n) ∙ x.2, restarts.contents x.1 x.4 ∙ x.3, restarts.synced x.1, x.5)
    where
      is_now : (n : List ℕ) → MayLead e n (names n) → names n ≡ e.names n
      is_now n (inl is) = is
      is_now n (inr among) = absurd (subst (λ (x : List (Option ℕ)). Among (names n) x) (restarts.earlier n) among)

  pub quiet_sound : (w : World) → ((p : ℕ) → w.calls p ≡ []) → Sound parts Known w
  quiet_sound w quiet = record {
    alone = λ p q ne lock. ap lock_of (quiet q);
    apart = λ p q ne first second. absurd (subst (λ (x : List Call). IsMaking (stage_of parts x)) (quiet p) first);
    means = λ p. subst (λ (x : List Call). Means parts Known w p x (stage_of parts x)) (sym (quiet p)) tt;
    lists = λ p. subst (λ (x : List Call). ListMeans parts Known w p x (listing_of x)) (sym (quiet p)) tt;
    read = λ p b has. absurd (subst (λ (x : List Call). HasRead parts b x) (quiet p) has);
  }

  -- what a step brings: all holds again, and what was safe is safe
  pub record Stepped (d e : World) : Type 0 where
    pub sound : Sound parts Known e
    pub safe : (b : List ℕ) → IsSafe parts d.disk b → IsSafe parts e.disk b

  pub step : (event : Event) (d e : World) → Sound parts Known d → ((b : List ℕ) → IsThere parts d.disk b → Known b) → Happens parts event d e → Stepped d e
  step (By q call) d e sound there happens =
      let effect = effect_call parts order Known distinct q d sound there call e happens.in_turn happens.does in
      record {
        sound = sound_by parts Known q (call ∷ d.calls q) d e sound effect (own q d sound there call e happens.in_turn happens.does happens.notes);
        safe = effect.bears.safe;
      }
  step (Comes name bytes) d e sound there comes =
      let effect = effect_brings parts order Known distinct (λ p. Unit {0}) name bytes comes.file d e comes.free comes.fresh comes.disk (rest_stays parts order Known distinct (λ p. Unit {0}) d e comes.stays) in
      record { sound = sound_outside parts Known d e sound effect comes.calls; safe = effect.bears.safe }
  step (Leaves name) d e sound there leaves =
      let effect = effect_no_part parts order Known distinct 0 d sound (λ p. Unit {0}) name e leaves.no_part leaves.removes in
      record { sound = sound_outside parts Known d e sound effect leaves.calls; safe = effect.bears.safe }
  step (Ends q) d e sound there ends =
      let effect = effect_same parts order Known distinct (λ p. p ≢ q) d e ends.disk (rest_stays parts order Known distinct (λ p. p ≢ q) d e ends.stays) in
      record {
        sound = sound_by parts Known q [] d e sound effect (record {
          calls = ends.own;
          others = ends.others;
          locks = λ lock. absurd (some_none Exclusive (sym lock));
          unlocked = λ p other lock. refl;
          apart = λ p other first second. absurd second;
          means = tt;
          lists = tt;
          read = λ b has. absurd has;
        });
        safe = effect.bears.safe;
      }
  step PowerLost d e sound there lost = record { sound = quiet_sound e lost.calls; safe = restarts_safe d.disk e.disk lost.disk }

  -- what each event leaves but a loss of power
  pub step_bears : (event : Event) (d e : World) → NotLoss event → Sound parts Known d → ((b : List ℕ) → IsThere parts d.disk b → Known b) → Happens parts event d e → Bears parts d.disk e.disk
  step_bears (By q call) d e not sound there happens = (effect_call parts order Known distinct q d sound there call e happens.in_turn happens.does).bears
  step_bears (Comes name bytes) d e not sound there comes =
      (effect_brings parts order Known distinct (λ p. Unit {0}) name bytes comes.file d e comes.free comes.fresh comes.disk (rest_stays parts order Known distinct (λ p. Unit {0}) d e comes.stays)).bears
  step_bears (Leaves name) d e not sound there leaves = (effect_no_part parts order Known distinct 0 d sound (λ p. Unit {0}) name e leaves.no_part leaves.removes).bears
  step_bears (Ends q) d e not sound there ends = bears_same parts order d.disk e.disk ends.disk
  step_bears PowerLost d e not sound there lost = absurd not

  -- what is held stays so if no power is lost
  pub step_held : (event : Event) (d e : World) → NotLoss event → Sound parts Known d → ((b : List ℕ) → IsThere parts d.disk b → Known b) → Happens parts event d e → (b : List ℕ) → IsHeld parts d.disk b → IsHeld parts e.disk b
  step_held event d e not sound there happens = (step_bears event d e not sound there happens).held
