-- The tally at the place stays as it is, as the others do.
use Rattle.std.proofs.Common.{rules, ◌≡◌, ◌==◌, ◌<◌, ◌++◌, ℕ, ℤ, Bool, true, false, cond, map, ◌≤ℤ◌, FitsSigned, w64, List, [], get_or, length, refl, sym, ap, subst, ◌∙◌, arith, append-nil}
use Rattle.std.proofs.lemmas.Bool.Decides.{Decides-eqb}
use Rattle.std.proofs.lemmas.Int.{to_z-of_z}
use Rattle.std.proofs.lemmas.List.{get_or_default}
use Rattle.table_model.specs.Extreme.{turned}
use Rattle.table_model.specs.declared.extreme.Extreme.{Extreme as Side}
use Rattle.query_eval.specs.Forms.{top_of}
use Rattle.query_eval.specs.Tally.{IsTally, kind_of}
use Rattle.query_eval.specs.declared.tallies.tally.Tally.{Tally}
use Rattle.query_eval.specs.declared.tallies.tally.TallyKind.TheVariants as kinds
use Rattle.query_eval.proofs.tallies.slice_tallies.reaches.Goals as goal

by_place : (now : List Tally) (place g : ℕ) (t : Tally) (extreme : Side) (added values : List ℤ) → kind_of (get_or now g t) ≡ kinds.Extreme extreme → IsTally values (get_or now g t)
    → (kind_of (get_or now place t) ≡ kinds.Extreme extreme → IsTally values (get_or now place t) → IsTally (values ++ added) (get_or now place t)) → (b : Bool) → (place == g) ≡ b → IsTally (values ++ cond b added []) (get_or now g t)
by_place now place g t extreme added values kind h its true e =
    let same : place ≡ g = (Decides-eqb place g).0 e in
    subst (λ (k : ℕ). IsTally (values ++ added) (get_or now k t)) same (its (ap (λ k. kind_of (get_or now k t)) same ∙ kind) (subst (λ (k : ℕ). IsTally values (get_or now k t)) (sym same) h))
by_place now place g t extreme added values kind h its false e = subst (λ (vs : List ℤ). IsTally vs (get_or now g t)) (sym (append-nil values)) h

pub returns-then-place-len : goal.returns-then-place-len
returns-then-place-len c = λ extreme added told small g t values l kind h.
    let now = c.args.tallies.now.items in
    let place = c.args.place in
    let inside : place < length now = omega (arith, c.if-place-len.true, c.len.ensures) in
    let at : c.index.result.now ≡ get_or now place t = c.index.ensures ∙ get_or_default now place c.index.result.now t inside in
    let fits : FitsSigned w64 c.args.bound = search rules in
    let less = subst (λ (b : ℤ). top_of (map (turned extreme) added) ≤ℤ b) (sym (to_z-of_z w64 c.args.bound fits)) small in
    let its : kind_of (get_or now place t) ≡ kinds.Extreme extreme → IsTally values (get_or now place t) → IsTally (values ++ added) (get_or now place t) =
    λ same has. subst (λ (u : Tally). IsTally (values ++ added) u) at (c.reaches.ensures extreme values added told (ap kind_of at ∙ same) less (subst (λ (u : Tally). IsTally values u) (sym at) has)) in
    by_place now place g t extreme added values kind h its (place == g) refl
