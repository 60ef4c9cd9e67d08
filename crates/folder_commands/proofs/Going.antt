-- Those of some names that pass a test, name by name.
use Rattle.std.specs.Prelude.{◌≡◌, ◌⊎◌, ℕ, suc, ◌+◌, ◌<◌, Bool, true, false, cond, List, [], ◌∷◌, ◌++◌, filter, length, map, take, drop}
use Rattle.std.proofs.Common.{refl, inl, inr, ⊎_elim, sym, ap, ◌∙◌, arith, get_or}
use Rattle.std.proofs.lemmas.List.{append-nil, get_or-map, length-map, map-append, take-append-drop}
use Rattle.std.proofs.lemmas.List.Elements.{filter_more, filter-append}
use Rattle.folder_model.specs.Disk.{Among}

module _ {X : Type 0} (f : X → List ℕ) (p : List ℕ → Bool) (names : List X) (i : ℕ) (x : X) (below : i < length names) (is : x ≡ get_or names i x) where
  at : get_or (map f names) i (f x) ≡ f x
  at = get_or-map f names i x (f x) below ∙ ap f (sym is)

  step : filter p (take (i + 1) (map f names)) ≡ filter p (take i (map f names)) ++ cond (p (f x)) (f x ∷ []) []
  step =
      filter_more p (map f names) i (f x) (let long = length-map names f in omega (arith, below, long))
      ∙ ap (λ (z : List ℕ). filter p (take i (map f names)) ++ cond (p z) (z ∷ []) []) at

  -- one that does not pass
  pub passed_over : p (f x) ≡ false → filter p (take (i + 1) (map f names)) ≡ filter p (take i (map f names))
  passed_over fails = step ∙ ap (λ (b : Bool). filter p (take i (map f names)) ++ cond b (f x ∷ []) []) fails ∙ append-nil (filter p (take i (map f names)))

  pub stays : (gone next : List X) → next ≡ gone → map f gone ≡ filter p (take i (map f names)) → p (f x) ≡ false → map f next ≡ filter p (take (i + 1) (map f names))
  stays gone next same so fails = ap (map f) same ∙ so ∙ sym (passed_over fails)

  -- one that does
  pub kept : p (f x) ≡ true → filter p (take (i + 1) (map f names)) ≡ filter p (take i (map f names)) ++ f x ∷ []
  kept passes = step ∙ ap (λ (b : Bool). filter p (take i (map f names)) ++ cond b (f x ∷ []) []) passes

  pub grows : (gone next : List X) (y : X) → next ≡ gone ++ y ∷ [] → f y ≡ f x → map f gone ≡ filter p (take i (map f names)) → p (f x) ≡ true → map f next ≡ filter p (take (i + 1) (map f names))
  grows gone next y same text so passes =
      ap (map f) same ∙ map-append f gone (y ∷ []) ∙ (λ j. so j ++ (text j ∷ [])) ∙ sym (kept passes)

  -- and those after it
  pub kept_first : p (f x) ≡ true → filter p (map f names) ≡ (filter p (take i (map f names)) ++ f x ∷ []) ++ filter p (drop (i + 1) (map f names))
  kept_first passes =
      ap (filter p) (sym (take-append-drop (i + 1) (map f names))) ∙ filter-append p (take (i + 1) (map f names)) (drop (i + 1) (map f names))
      ∙ ap (λ (l : List (List ℕ)). l ++ filter p (drop (i + 1) (map f names))) (kept passes)

-- none is kept
pub none_kept : (p : List ℕ → Bool) (names : List (List ℕ)) (name : List ℕ) → filter p names ≡ [] → Among name names → p name ≡ true → ⊥
none_kept p [] name none among passes = absurd among
none_kept p (x ∷ names) name none among passes =
    elim (p x) as (λ b. p x ≡ b → cond b (x ∷ filter p names) (filter p names) ≡ [] → ⊥) [
      | true ↦ λ is some. let longer : suc (length (filter p names)) ≡ 0 = ap length some in absurd (omega (arith, longer))
      | false ↦ λ fails rest. ⊎_elim (λ is. let both : true ≡ false = sym passes ∙ ap p is ∙ fails in cc) (λ there. none_kept p names name rest there passes) among
    ] refl none
