-- What each call of one process, in turn, leaves of all others.
use Rattle.std.proofs.Common.{◌≡◌, ◌≢◌, ◌⊎◌, inl, inr, ⊎_elim, ℕ, true, false, List, [], ◌∷◌, ◌++◌, Some, None, sym, ◌∙◌, ap, subst}
use Rattle.folder_model.specs.Call.{Call, Made, Wrote, Synced, Linked, Removed, Settled, Locked, Unlocked, Began, Listed, Read, Looked, Kind, Exclusive, Shared, Done, Taken, Failed, lock_of}
use Rattle.folder_model.specs.Disk.{Among, Disk, Fills, Brings, Settles}
use Rattle.folder_model.specs.Parts.{Parts, IsOrder, IsNoPart, IsThere, AreCovered, IsOnDisk}
use Rattle.folder_model.specs.Turn.{Stage, Filled, Ready, Guarded, stage_of, MayGo, InTurn}
use Rattle.folder_model.specs.World.{World, IsFresh, IsFree, SameLists, Stays, Links, Removes, FailsToMake, Does}
use Rattle.folder_model.proofs.Basics.{some_none, some_same, names_same, true_false}
use Rattle.folder_model.proofs.Disks.{IsHidden, Bears, Spares, LeavesFile, IsEmpty, covered_along, bears_same, spares_same, leaves_same, bears_both, spares_both, leaves_both, fills_bears, fills_spares, fills_leaves, syncs_bears, syncs_spares, syncs_leaves, settles_bears, settles_spares, settles_leaves, IsMadeUp, leads_bears, leads_spares, leads_leaves, leads_on_disk, empty_made_up, on_disk_covered}
use Rattle.folder_model.proofs.Means.{IsMaking, Holder, FilledMeans, ReadyMeans, GuardedMeans, Means, Sound, Effect}

-- what a step leaves of the others but for the disk
pub record Rest (parts : Parts) (Other : ℕ → Type 0) (d e : World) : Type 0 where
  pub mine : (p : ℕ) → Other p → e.mine p ≡ d.mine p
  pub drawn : (name : List ℕ) → Among name d.drawn → Among name e.drawn
  pub began : (p : ℕ) → Other p → e.began p ≡ d.began p
  pub gone : (p : ℕ) → Other p → (kind : Kind) → lock_of (d.calls p) ≡ Some kind → (b : List ℕ) → Among (parts.name_of b) (e.gone p) → Among (parts.name_of b) (d.gone p)

drawn_same : (d e : World) → e.drawn ≡ d.drawn → (name : List ℕ) → Among name d.drawn → Among name e.drawn
drawn_same d e same name among = subst (λ (x : List (List ℕ)). Among name x) (sym same) among

drawn_more : (d e : World) (new : List ℕ) → e.drawn ≡ new ∷ d.drawn → (name : List ℕ) → Among name d.drawn → Among name e.drawn
drawn_more d e new same name among = subst (λ (x : List (List ℕ)). Among name x) (sym same) (inr among)

drawn_other : (w : World) (temp name : List ℕ) → Among temp w.drawn → (Among name w.drawn → ⊥) → temp ≢ name
drawn_other w temp name drawn undrawn is = undrawn (subst (λ (n : List ℕ). Among n w.drawn) is drawn)

-- a sync of the folder in turn
pub settles_now : (parts : Parts) (q : ℕ) (d e : World) → InTurn parts (d.calls q) (Settled true) → Does q (Settled true) d e → Settles d.disk e.disk × Stays d e
settles_now parts q d e turn (inl (clean, settles, stays)) = (settles, stays)
settles_now parts q d e turn (inr (unclean, same, stays)) = absurd (true_false (sym turn ∙ unclean))

module _ (parts : Parts) (order : IsOrder parts) (Known : List ℕ → Type 0) (distinct : (a b : List ℕ) → Known a → Known b → parts.name_of a ≡ parts.name_of b → a ≡ b) where
  gone_same : (d e : World) → SameLists d e → (p : ℕ) (b : List ℕ) → Among (parts.name_of b) (e.gone p) → Among (parts.name_of b) (d.gone p)
  gone_same d e lists p b among = subst (λ (x : List (List ℕ)). Among (parts.name_of b) x) (lists.gone p) among

  pub rest_stays : (Other : ℕ → Type 0) (d e : World) → Stays d e → Rest parts Other d e
  rest_stays Other d e stays = record {
    mine = λ p other. stays.open_files p;
    drawn = drawn_same d e stays.drawn;
    began = λ p other. stays.lists.began p;
    gone = λ p other kind lock b among. gone_same d e stays.lists p b among;
  }

  pub effect_from : (Other : ℕ → Type 0) (d e : World) → Rest parts Other d e → Bears parts d.disk e.disk → Spares parts d.disk e.disk
      → ((p : ℕ) → Other p → IsMaking (stage_of parts (d.calls p)) → (name : List ℕ) → Holder parts Known d p name → LeavesFile parts (d.mine p) name d.disk e.disk)
      → Effect parts Known Other d e
  effect_from Other d e rest bears spares leaves = record {
    bears = bears;
    spares = λ p other lock. spares;
    leaves = leaves;
    mine = rest.mine;
    drawn = rest.drawn;
    began = rest.began;
    gone = rest.gone;
  }

  pub effect_same : (Other : ℕ → Type 0) (d e : World) → e.disk ≡ d.disk → Rest parts Other d e → Effect parts Known Other d e
  effect_same Other d e same rest = effect_from Other d e rest (bears_same parts order d.disk e.disk same) (spares_same parts order d.disk e.disk same)
      (λ p other making name holder. leaves_same parts order (d.mine p) name d.disk e.disk same)

  -- ---- a new file

  brings_empty : (name : List ℕ) (file : ℕ) (bytes : List ℕ) (d v : Disk) → d.names name ≡ None → Fills file bytes d v → IsEmpty parts v name
  brings_empty name file bytes d v none fills c f is at = some_none f (sym at ∙ fills.names name ∙ none)

  pub effect_brings : (Other : ℕ → Type 0) (name bytes : List ℕ) (file : ℕ) (d e : World) → IsFree d name → IsFresh d file → Brings name file bytes d.disk e.disk → Rest parts Other d e → Effect parts Known Other d e
  effect_brings Other name bytes file d e free fresh (v, fills, leads) rest =
      let hidden : IsHidden parts d.disk file = λ c may. fresh.unnamed (parts.name_of c) may in
      let empty : IsEmpty parts v name = brings_empty name file bytes d.disk v free.unnamed fills in
      effect_from Other d e rest
      (bears_both parts order d.disk v e.disk (fills_bears parts order file bytes d.disk v hidden fills) (leads_bears parts order name (Some file) v e.disk leads (empty_made_up parts order name v e.disk empty)))
      (spares_both parts order d.disk v e.disk (fills_spares parts order file bytes d.disk v hidden fills) (leads_spares parts order name (Some file) v e.disk leads empty))
      (λ p other making temp holder.
      leaves_both parts order (d.mine p) temp d.disk v e.disk
      (fills_leaves parts order file bytes (d.mine p) temp d.disk v (fresh.unopened p) fills)
      (leads_leaves parts order name (Some file) (d.mine p) temp v e.disk leads
      (λ is. fresh.unopened p (sym (some_same file (d.mine p) is)))
      (λ f at. sym (leads.others temp (drawn_other d temp name holder.drawn free.undrawn)) ∙ at)))

  -- ---- a link

  module _ (q : ℕ) (d : World) (sound : Sound parts Known d) where
    -- what the stage of the process means
    pub now_means : (s : Stage) → stage_of parts (d.calls q) ≡ s → Means parts Known d q (d.calls q) s
    now_means s is = subst (λ (x : Stage). Means parts Known d q (d.calls q) x) is (sound.means q)

    pub is_making : (s : Stage) → stage_of parts (d.calls q) ≡ s → IsMaking s → IsMaking (stage_of parts (d.calls q))
    is_making s is making = subst IsMaking (sym is) making

    links_empty : (to : List ℕ) → d.disk.names to ≡ None → IsEmpty parts d.disk to
    links_empty to none c f is at = some_none f (sym at ∙ none)

    pub effect_links : (from bytes to : List ℕ) (e : World) → stage_of parts (d.calls q) ≡ Ready from bytes → to ≡ parts.name_of bytes → Links from to d.disk e.disk → Stays d e → Effect parts Known (λ p. p ≢ q) d e
    effect_links from bytes to e is named (file, at, none, leads) stays =
        let m : ReadyMeans parts Known d q from bytes = now_means (Ready from bytes) is in
        let file_is : file ≡ d.mine q = m.holder.leads file at in
        effect_from (λ p. p ≢ q) d e (rest_stays (λ p. p ≢ q) d e stays)
        (leads_bears parts order to (Some file) d.disk e.disk leads (empty_made_up parts order to d.disk e.disk (links_empty to none)))
        (leads_spares parts order to (Some file) d.disk e.disk leads (links_empty to none))
        (λ p other making temp holder.
        leads_leaves parts order to (Some file) (d.mine p) temp d.disk e.disk leads
        (λ same. sound.apart p q other making (is_making (Ready from bytes) is tt) (sym (some_same file (d.mine p) same) ∙ file_is))
        (λ f here. sym (leads.others temp (λ same. holder.temp bytes (same ∙ named))) ∙ here))

    -- ---- bytes

    pub effect_fills : (name filled bytes : List ℕ) (e : World) → stage_of parts (d.calls q) ≡ Filled name filled → Fills (d.mine q) bytes d.disk e.disk → Stays d e → Effect parts Known (λ p. p ≢ q) d e
    effect_fills name filled bytes e is fills stays =
        let m : FilledMeans parts Known d q (d.calls q) name filled = now_means (Filled name filled) is in
        effect_from (λ p. p ≢ q) d e (rest_stays (λ p. p ≢ q) d e stays)
        (fills_bears parts order (d.mine q) bytes d.disk e.disk m.holder.hidden fills)
        (fills_spares parts order (d.mine q) bytes d.disk e.disk m.holder.hidden fills)
        (λ p other making temp holder.
        fills_leaves parts order (d.mine q) bytes (d.mine p) temp d.disk e.disk
        (sound.apart p q other making (is_making (Filled name filled) is tt)) fills)

    -- ---- what is removed

    removes_leads : (name temp : List ℕ) (e : World) → Removes name d e → (f : ℕ) → e.disk.names temp ≡ Some f → d.disk.names temp ≡ Some f
    removes_leads name temp e removes f at = ⊎_elim
        (λ is. absurd (some_none f (sym at ∙ ap e.disk.names is ∙ removes.disk.own)))
        (λ ne. sym (removes.disk.others temp ne) ∙ at)
        (names_same temp name)

    pub removes_leaves : (name temp : List ℕ) (file : ℕ) (e : World) → Removes name d e → LeavesFile parts file temp d.disk e.disk
    removes_leaves name temp file e removes = leads_leaves parts order name None file temp d.disk e.disk removes.disk (λ is. some_none file (sym is)) (removes_leads name temp e removes)

    no_part_empty : (name : List ℕ) → IsNoPart parts name → IsEmpty parts d.disk name
    no_part_empty name no_part c f is at = no_part c (sym is)

    pub no_part_bears : (name : List ℕ) (e : World) → IsNoPart parts name → Removes name d e → Bears parts d.disk e.disk
    no_part_bears name e no_part removes = leads_bears parts order name None d.disk e.disk removes.disk (empty_made_up parts order name d.disk e.disk (no_part_empty name no_part))

    pub no_part_spares : (name : List ℕ) (e : World) → IsNoPart parts name → Removes name d e → Spares parts d.disk e.disk
    no_part_spares name e no_part removes = leads_spares parts order name None d.disk e.disk removes.disk (no_part_empty name no_part)

    pub effect_no_part : (Other : ℕ → Type 0) (name : List ℕ) (e : World) → IsNoPart parts name → Removes name d e → Effect parts Known Other d e
    effect_no_part Other name e no_part removes = effect_from Other d e (record {
      mine = λ p other. removes.open_files p;
      drawn = drawn_same d e removes.drawn;
      began = λ p other. removes.lists.began p;
      gone = λ p other kind lock b among. not_first b p (subst (λ (x : List (List ℕ)). Among (parts.name_of b) x) (removes.lists.gone p) among);
    }) (no_part_bears name e no_part removes) (no_part_spares name e no_part removes) (λ p other making temp holder. removes_leaves name temp (d.mine p) e removes)
      where
        not_first : (b : List ℕ) (p : ℕ) → (parts.name_of b ≡ name) ⊎ Among (parts.name_of b) (d.gone p) → Among (parts.name_of b) (d.gone p)
        not_first b p (inl is) = absurd (no_part b (sym is))
        not_first b p (inr among) = among

    module _ (there : (b : List ℕ) → IsThere parts d.disk b → Known b) where
      may_go_made_up : (name : List ℕ) (e : World) → MayGo parts (d.calls q) name → Removes name d e → IsMadeUp parts order name d.disk e.disk
      may_go_made_up name e go removes c f is at holds names may =
          let m : GuardedMeans parts Known d (d.calls q) go.packed = now_means (Guarded go.packed) go.guarded in
          let on : IsOnDisk parts e.disk go.packed = leads_on_disk parts order name None d.disk e.disk removes.disk go.packed go.apart m.on_disk in
          let c_known : Known c = there c (f, ap d.disk.names is ∙ at, holds) in
          let same : c ≡ go.joined = distinct c go.joined c_known (sound.read q go.joined go.read) (is ∙ go.named) in
          subst (λ (x : List ℕ). AreCovered parts e.disk names x) (sym same)
          (covered_along parts order e.disk names go.packed go.joined go.covers (on_disk_covered parts order e.disk go.packed on names may))

      pub may_go_bears : (name : List ℕ) (e : World) → MayGo parts (d.calls q) name → Removes name d e → Bears parts d.disk e.disk
      may_go_bears name e go removes = leads_bears parts order name None d.disk e.disk removes.disk (may_go_made_up name e go removes)

      guard_lock : (name : List ℕ) → MayGo parts (d.calls q) name → lock_of (d.calls q) ≡ Some Exclusive
      guard_lock name go = let m : GuardedMeans parts Known d (d.calls q) go.packed = now_means (Guarded go.packed) go.guarded in m.lock

      -- who else has a lock meanwhile: nobody
      nobody : (name : List ℕ) (p : ℕ) (kind : Kind) → p ≢ q → MayGo parts (d.calls q) name → lock_of (d.calls p) ≡ Some kind → ⊥
      nobody name p kind other go lock = some_none kind (sym lock ∙ sound.alone q p (λ is. other (sym is)) (guard_lock name go))

      pub effect_may_go : (name : List ℕ) (e : World) → MayGo parts (d.calls q) name → Removes name d e → Effect parts Known (λ p. p ≢ q) d e
      effect_may_go name e go removes = record {
        bears = may_go_bears name e go removes;
        spares = λ p other lock. absurd (nobody name p Exclusive other go lock);
        leaves = λ p other making temp holder. removes_leaves name temp (d.mine p) e removes;
        mine = λ p other. removes.open_files p;
        drawn = drawn_same d e removes.drawn;
        began = λ p other. removes.lists.began p;
        gone = λ p other kind lock b among. absurd (nobody name p kind other go lock);
      }

      -- ---- each call

      effect_removes : (name : List ℕ) (e : World) → IsNoPart parts name ⊎ MayGo parts (d.calls q) name → Removes name d e → Effect parts Known (λ p. p ≢ q) d e
      effect_removes name e (inl no_part) removes = effect_no_part (λ p. p ≢ q) name e no_part removes
      effect_removes name e (inr go) removes = effect_may_go name e go removes

      effect_stays : (e : World) → e.disk ≡ d.disk → Stays d e → Effect parts Known (λ p. p ≢ q) d e
      effect_stays e same stays = effect_same (λ p. p ≢ q) d e same (rest_stays (λ p. p ≢ q) d e stays)

      effect_fails_to_make : (name : List ℕ) (e : World) → FailsToMake q name d e → Effect parts Known (λ p. p ≢ q) d e
      effect_fails_to_make name e made = by made.disk
        where
          rest : Rest parts (λ p. p ≢ q) d e
          rest = record {
            mine = λ p other. made.open_files p;
            drawn = drawn_more d e name made.drawn;
            began = λ p other. made.lists.began p;
            gone = λ p other kind lock b among. gone_same d e made.lists p b among;
          }

          by : (e.disk ≡ d.disk) ⊎ ((file : ℕ) × IsFree d name × IsFresh d file × Brings name file [] d.disk e.disk) → Effect parts Known (λ p. p ≢ q) d e
          by (inl same) = effect_same (λ p. p ≢ q) d e same rest
          by (inr (file, free, fresh, brings)) = effect_brings (λ p. p ≢ q) name [] file d e free fresh brings rest

      pub effect_call : (call : Call) (e : World) → InTurn parts (d.calls q) call → Does q call d e → Effect parts Known (λ p. p ≢ q) d e
      effect_call (Made name true) e turn made = effect_brings (λ p. p ≢ q) name [] made.file d e made.free made.fresh made.disk (record {
        mine = made.open_files.others;
        drawn = drawn_more d e name made.drawn;
        began = λ p other. made.lists.began p;
        gone = λ p other kind lock b among. gone_same d e made.lists p b among;
      })
      effect_call (Made name false) e turn made = effect_fails_to_make name e made
      effect_call (Wrote bytes true) e turn does = effect_fills turn.0 turn.1 (d.disk.contents (d.mine q) ++ bytes) e turn.2 does.0 does.1
      effect_call (Wrote bytes false) e turn does = effect_fills turn.0 turn.1 does.0 e turn.2 does.1 does.2
      effect_call (Synced true) e turn (inl (clean, syncs, stays)) = effect_from (λ p. p ≢ q) d e (rest_stays (λ p. p ≢ q) d e stays)
          (syncs_bears parts order (d.mine q) d.disk e.disk syncs) (syncs_spares parts order (d.mine q) d.disk e.disk syncs)
          (λ p other making temp holder. syncs_leaves parts order (d.mine q) (d.mine p) temp d.disk e.disk syncs)
      effect_call (Synced true) e turn (inr (clean, same, stays)) = effect_stays e same stays
      effect_call (Synced false) e turn does = effect_stays e does.0 does.1
      effect_call (Linked from to Done) e turn does = effect_links from turn.0 to e turn.1 turn.2 does.0 does.1
      effect_call (Linked from to Taken) e turn does = effect_stays e does.1 does.2
      effect_call (Linked from to Failed) e turn (inl same, stays) = effect_stays e same stays
      effect_call (Linked from to Failed) e turn (inr links, stays) = effect_links from turn.0 to e turn.1 turn.2 links stays
      effect_call (Removed name true) e turn removes = effect_removes name e turn removes
      effect_call (Removed name false) e turn (inl removes) = effect_removes name e turn removes
      effect_call (Removed name false) e turn (inr does) = effect_stays e does.0 does.1
      effect_call (Settled true) e turn (inl (clean, settles, stays)) = effect_from (λ p. p ≢ q) d e (rest_stays (λ p. p ≢ q) d e stays)
          (settles_bears parts order d.disk e.disk settles) (settles_spares parts order d.disk e.disk settles)
          (λ p other making temp holder. settles_leaves parts order (d.mine p) temp d.disk e.disk settles)
      effect_call (Settled true) e turn (inr (clean, same, stays)) = effect_stays e same stays
      effect_call (Settled false) e turn does = effect_stays e does.0 does.1
      effect_call (Locked Exclusive true) e turn does = effect_stays e does.1 does.2
      effect_call (Locked Shared true) e turn does = effect_stays e does.1 does.2
      effect_call (Locked Exclusive false) e turn does = effect_stays e does.0 does.1
      effect_call (Locked Shared false) e turn does = effect_stays e does.0 does.1
      effect_call Unlocked e turn does = effect_stays e does.0 does.1
      effect_call Began e turn begins = effect_same (λ p. p ≢ q) d e begins.disk (record {
        mine = λ p other. begins.open_files p;
        drawn = drawn_same d e begins.drawn;
        began = begins.lists.others;
        gone = λ p other kind lock b among. subst (λ (x : List (List ℕ)). Among (parts.name_of b) x) (begins.lists.others_gone p other) among;
      })
      effect_call (Listed (Some names)) e turn does = effect_stays e does.1 does.2
      effect_call (Listed None) e turn does = effect_stays e does.0 does.1
      effect_call (Read name (Some (Some bytes))) e turn finds = effect_same (λ p. p ≢ q) d e finds.disk (record {
        mine = finds.open_files.others;
        drawn = drawn_same d e finds.drawn;
        began = λ p other. finds.lists.began p;
        gone = λ p other kind lock b among. gone_same d e finds.lists p b among;
      })
      effect_call (Read name (Some None)) e turn does = effect_stays e does.1 does.2
      effect_call (Read name None) e turn does = effect_stays e does.0 does.1
      effect_call (Looked name ok) e turn does = effect_stays e does.0 does.1
