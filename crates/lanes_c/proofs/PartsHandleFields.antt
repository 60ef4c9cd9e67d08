-- The data field of a `FolderParts`, and what it owns next to it. Assumes `Logic`.
use Rattle.std.proofs.Common.{◌≡◌, ℕ, List, [], ◌∷◌, ◌++◌, refl, ap, ◌∙◌}
use seplogic.Ra.Ura.{Ura}
use mir.Raw.{raw as bare}
use mir.Val.{Val, vstruct, vcons, vnil, of_list}
use base.Logic.{ent, emp, via, snd∗, guard_i}
use base.Fraction.{full_share}
use types.Logic.{Logic, sem}
use types.Kit.{Item, Goal, Seq, ‵, given, ◌$◌, drop, move, fsplit, fpick, learn, use1}
use contract.Monad.{fact_use}
use denote.RattleType.{RattleType}
use denote.Laws.{Is}
use denote.Memory.{lone}
use denote.RawPtr.{Ptr, ptr_val, block_ptr, null_ptr, lies_at, Testable}
use denote.Shadow.{makes_shadow}
use denote.Struct.Struct.{Struct}
use denote.Struct.Owning.{shape}
use Rattle.std.specs.declared.option.Option.{Option}
use Rattle.std.specs.declared.option.Option.TheVariants.{None, Some}
use Rattle.std.specs.declared.alloc.Global.{Global}
use Rattle.std.specs.contracts.impls.GlobalAllocator.TheImpl.{ghosts}
use Rattle.std.proofs.GlobalToken.{dealloc_token-Testable}
use Rattle.std_alloc.specs.Box.Ownership.{box_owns}
use Rattle.lanes_c.specs.PartsHandles.{parts_own}
use Rattle.lanes_c.specs.PartsHandles.{Read}
use Rattle.lanes_c.specs.contracts.read_parts.ReadParts as held
use Rattle.lanes_c.specs.contracts.parts_handle.FolderParts as handle

abbrev pub word : Ptr → Val
word p = vstruct (vcons (ptr_val p) vnil)

abbrev pub Data : RattleType
Data = Struct (shape handle.the_type)

pub told : (p : Ptr) (vs : List Val) → Is Data (p, tt) vs → vs ≡ word p ∷ []
told p vs is = is.1.0 ∙ ap (λ (ws : List Val). vstruct (of_list (ws ++ [])) ∷ []) is.1.1.0

pub made : {M : Type 1} {𝓤 : Ura M} (𝓛 : Logic 𝓤) (p : Ptr) → ent 𝓤 (emp 𝓤) (sem 𝓛 (Data.own_val (p, tt) (word p ∷ [])))
made 𝓛 p = makes_shadow 𝓛 (Data.own_val (p, tt) (word p ∷ [])) (λ vss. (tt, (tt, tt))) ((ptr_val p ∷ [], tt), (refl, (refl, tt)))

module _ {M : Type 1} {𝓤 : Ura M} {𝓛 : Logic 𝓤} {K : Type 0} {Γ : List (Item 𝓤)} {G : Goal 𝓤 𝓛.H} where
  -- null, and closed; or a box
  pub either : K → (p : Ptr) (k : Option Read)
      → (p ≡ null_ptr → k ≡ None → Seq K 𝓛 Γ G)
      → ((b o : ℕ) (a : Global) (s : Read) → p ≡ block_ptr b o → k ≡ Some s → Testable (block_ptr b o) → Seq K 𝓛 (‵ (box_owns (ghosts.dealloc_token a) held.the_row (block_ptr b o) s) ∷ Γ) G)
      → Seq K 𝓛 (‵ (parts_own p k) ∷ Γ) G
  either t null_ptr k n s = fpick t (λ e. drop t $ n refl e)
  either t (block_ptr b o) k n s = fpick t (λ a. fpick t (λ x. fsplit t $ move t (1 ∷ []) $ fpick t (λ e. drop t $
      let B = box_owns (ghosts.dealloc_token a) held.the_row (block_ptr b o) x in
      use1 𝓛 (given (Testable (block_ptr b o)) (‵ B))
      (fact_use 𝓤 (Testable (block_ptr b o)) (via 𝓤 _ (snd∗ 𝓤 (sem 𝓛 (lies_at held.the_row full_share (block_ptr b o) x)) (sem 𝓛 (ghosts.dealloc_token a (bare (lone held.the_row.mir)) (block_ptr b o)))) (dealloc_token-Testable 𝓛 a (bare (lone held.the_row.mir)) (block_ptr b o))) (guard_i 𝓤 (Testable (block_ptr b o)) (sem 𝓛 B))) $
      learn t (λ test. s b o a x refl e test))))
