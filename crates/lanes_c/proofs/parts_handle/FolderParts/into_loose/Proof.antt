-- `into_loose` tests the pointer, and has the box where it isn't null.
use Rattle.std.proofs.Common.{◌≡◌, List, [], ◌∷◌, ◌++◌, refl, sym, ap, ◌∙◌, subst, lit<}
use mir.Val.{Val, vptr, vcons, vnil}
use base.Logic.{SProp, ent, emp, id⊢}
use prog.Wp.{WpFn}
use types.Kit.{‵, raw, ◌⊛◌, at_ret, ◌$◌, ◌∵◌, !, qed, by, move, keep, drop, split, fsplit, fjoin, suffices, use0, use1}
use types.Run.{stop, fld, lit, of_opd, bin, no_more, and_then, first, branches, exec, returns, enter}
use types.ByLocal.{alloc_all, pass_all, free_all, look_at, get, get_in, sets, sets_last, env}
use types.Part.{agg, sub, whole}
use types.Match.{live}
use contract.Monad.{fact, fact_i}
use contract.Running.{tables}
use denote.Exit.{yes}
use denote.RattleType.{RattleType, owns}
use denote.Signature.{types_at, type_at, plain}
use denote.RawPtr.{Ptr, block_ptr, null_ptr, tests_null}
use denote.Steps.{nothing}
use denote.Param.{layout}
use denote.Triple.Entry.{alive}
use denote.Triple.Walked.{Stays, stay_dropped, walk_of}
use Rattle.core.proofs.alloc.Calls.{Goes-blank, handle_tells}
use Rattle.core.proofs.alloc.Shapes.{after}
use Rattle.core.proofs.cell.Inside.{Good}
use Rattle.core.proofs.option.Made.{Some-of, none_of}
use Rattle.std_alloc.proofs.ResultValues.{and_tt}
use Rattle.std.proofs.raw_atomic.Walks.{proved_at, leaves}
use Rattle.std.specs.declared.option.Option.TheVariants.{None, Some}
use Rattle.std.specs.contracts.alloc.Global as heap
use Rattle.std.proofs.alloc.Global.TheLaws as heap_laws
use Rattle.std.specs.contracts.impls.GlobalAllocator.TheImpl.{ghosts}
use Rattle.lanes_c.specs.contracts.read_parts.ReadParts as held
use Rattle.lanes_c.specs.contracts.parts_handle.FolderParts as table
use Rattle.lanes_c.proofs.PartsHandleFields.{word, told, either}
use Rattle.lanes_c.proofs.LooseValues.{both, al, Loose, loose_good, loose_in}
use Rattle.lanes_c.specs.contracts.parts_handle.FolderParts.into_loose.{ended, clauses}
use Rattle.lanes_c.specs.contracts.parts_handle.FolderParts.into_loose.Key.{name as #self}
use Rattle.lanes_c.proofs.parts_handle.FolderParts.into_loose.Statement.{statement}
use Rattle.lanes_c.proofs.parts_handle.FolderParts.into_loose.Code as code

pub into_loose_spec : {M : Type 1} → statement M
into_loose_spec 𝓤 𝓛 𝓜 𝓡 wired =
    let H = 𝓛.H in let 𝓣 = tables 𝓤 H 𝓜 𝓡 𝓡.env in let c = clauses 𝓛 𝓜.mem 𝓡.returns in let fn = code.function in
    let R : RattleType = held.the_row in let Z : RattleType = heap.the_row in let LZ = heap_laws.the_row_laws in let Lr : RattleType = Loose R Z LZ ghosts in
    let hs : Stays ended.signature.params ended.kept = (stay_dropped (plain (λ _. table.the_row)) yes, (stay_dropped (plain (λ _. Z)) yes, tt)) in
    proved_at 𝓛 ended hs c 𝓜 𝓡 (Goes-blank 𝓛 0 (plain (λ _. table.the_row)) yes (λ κs x f. tt), (Goes-blank 𝓛 0 (plain (λ _. Z)) yes (λ κs x f. tt), tt)) #self fn (code.unfolded 𝓤 H 𝓜 𝓡 wired) (λ z are.
    let Post : Val → SProp 𝓤 = (walk_of 𝓛 ended hs c).post z in let Run : List Val → SProp 𝓤 = λ ws. WpFn 𝓤 H 𝓣.C 𝓣.Λ fn ws Post in let Out : RattleType = type_at ended.signature.result z.0.0 in
    let d = z.0.3.0 in let a = z.0.3.1.0 in let p : Ptr = d.at in let ep : z.0.4.0 ≡ word p ∷ [] = told p z.0.4.0 are.0.0 in
    qed 𝓛 ((raw (alive 𝓛 ended.signature z.0.0 z.0.1) ⊛ ‵ (owns (types_at ended.signature.params z.0.0) z.0.3 z.0.4)) ∷ raw ((c z.0.0 z.0.3).requires z.1) ∷ []) ∵
    split ! $ move ! (1 ∷ []) $ fsplit ! $ fsplit ! $ drop ! $ move ! (1 ∷ []) $ fsplit ! $ handle_tells (al R Z LZ ghosts) ! a z.0.4.1.0 (λ h eh gh.
    -- [the handle; no more parameters; the box or nothing; the tokens; the `requires`]
    keep ! (2 ∷ 0 ∷ 3 ∷ []) $ either ! p d.read
    (λ is closed. let us : List Val = word null_ptr ∷ h ∷ [] in let ws : z.0.4.0 ++ (z.0.4.1.0 ++ []) ≡ us = λ i. (ep ∙ ap (λ (q : Ptr). word q ∷ []) is) i ++ (eh i ++ []) in
    suffices ! (Run us) (subst (λ (vs : List Val). ent 𝓤 (Run us) (Run vs)) (sym ws) (id⊢ 𝓤 (Run us))) $
    enter ! 𝓣.C 𝓣.Λ fn us Post $ alloc_all ! (λ l. pass_all ! refl ((tt, (record { fits = lit< tt }, tt)), (gh, tt)) $ let Ev = env fn.locals l in
    sets ! (of_opd ! (get_in ! (fld ! refl (stop !)) (sub ! 0 refl (whole !)))) refl (tt, record { fits = lit< tt }) $ sets ! (bin ! (get ! refl) (lit ! tt) tt) refl (tt, tt) $ first ! $ branches ! (get ! refl)
    (λ _. sets_last ! (agg ! (and_then ! (lit ! tt) (no_more !))) refl (tt, (record { fits = lit< tt }, tt)) $ exec ! 𝓣.C 𝓣.Λ Ev (after 3 fn.body) (at_ret Ev Post) $ sets ! (of_opd ! (get ! refl)) refl (tt, (record { fits = lit< tt }, tt)) $
    returns ! (look_at ! 0 refl) $ free_all ! refl $ use0 𝓛 (‵ (Out.own_val None (live 0 vnil ∷ []))) (none_of 𝓛 Lr) $
    use0 𝓛 (raw (fact 𝓤 (d.read ≡ None))) (fact_i 𝓤 (d.read ≡ None) (emp 𝓤) closed) $ nothing ! $ nothing ! $ fjoin ! $ nothing ! $ fjoin ! $ keep ! (4 ∷ 0 ∷ 2 ∷ 1 ∷ []) $
    by ! (leaves 𝓛 ended hs c z (live 0 vnil) None (tt, (tt, tt)) (tt, (tt, tt)))) (λ wrong. absurd wrong)))
    (λ b o a' x is opened test. let us : List Val = word (block_ptr b o) ∷ h ∷ [] in let ws : z.0.4.0 ++ (z.0.4.1.0 ++ []) ≡ us = λ i. (ep ∙ ap (λ (q : Ptr). word q ∷ []) is) i ++ (eh i ++ []) in
    let made : Val = both (vptr b o) h in let typed = loose_good R Z LZ ghosts b o h gh in let v₁ : Val = live 1 (vcons made vnil) in let y : Lr.Denot = record { at = block_ptr b o; alloc = a; value = x } in
    let good : Good (layout Out) v₁ = (and_tt _ typed.0, (record { fits = lit< tt }, (typed.1, tt))) in
    suffices ! (Run us) (subst (λ (vs : List Val). ent 𝓤 (Run us) (Run vs)) (sym ws) (id⊢ 𝓤 (Run us))) $
    enter ! 𝓣.C 𝓣.Λ fn us Post $ alloc_all ! (λ l. pass_all ! refl ((tt, (tt, tt)), (gh, tt)) $ let Ev = env fn.locals l in
    sets ! (of_opd ! (get_in ! (fld ! refl (stop !)) (sub ! 0 refl (whole !)))) refl (tt, tt) $ sets ! (bin ! (get ! refl) (lit ! tt) (tests_null (block_ptr b o) test)) refl (tt, tt) $ first ! $ branches ! (get ! refl) (λ wrong. absurd wrong) (λ _.
    sets ! (of_opd ! (get ! refl)) refl (tt, tt) $ sets ! (agg ! (and_then ! (get ! refl) (and_then ! (get ! refl) (no_more !)))) refl typed $ sets_last ! (agg ! (and_then ! (lit ! tt) (and_then ! (get ! refl) (no_more !)))) refl good $
    exec ! 𝓣.C 𝓣.Λ Ev (after 3 fn.body) (at_ret Ev Post) $ sets ! (of_opd ! (get ! refl)) refl good $
    returns ! (look_at ! 0 refl) $ free_all ! refl $ loose_in R Z LZ ghosts ! b o h a x $
    use1 𝓛 (‵ (Out.own_val (Some y) (v₁ ∷ []))) (Some-of 𝓛 Lr y made) $
    use0 𝓛 (raw (fact 𝓤 (d.read ≡ Some x))) (fact_i 𝓤 (d.read ≡ Some x) (emp 𝓤) opened) $ nothing ! $ nothing ! $ fjoin ! $ nothing ! $ fjoin ! $ keep ! (3 ∷ 0 ∷ 2 ∷ 1 ∷ []) $
    by ! (leaves 𝓛 ended hs c z v₁ (Some y) (tt, (tt, tt)) (tt, (tt, tt))))))))
