-- One name more, or the first that no column has.
use Rattle.std.proofs.Common.{◌≡◌, ◌+◌, ◌<◌, ℕ, List, [], ◌∷◌, ◌++◌, Bor, length, map, get_or, Option, Some, None, Result, Ok, Err, refl, sym, ap, subst, ◌∙◌, arith, drop}
use Rattle.std.specs.List.{All}
use Rattle.std.proofs.lemmas.List.{length-map}
use Rattle.std.proofs.lemmas.List.Sums.{sum_by_more, sum_by_more_le}
use Rattle.live_columns.specs.Names.{places_from, place_named}
use Rattle.live_columns.proofs.NameSteps.{no-places, onto, onto-none, part-at, place-more, place-none, within-push}
use Rattle.live_columns.proofs.names.places_of.Goals as goal

pub overflow_cast-result : goal.overflow_cast-result
overflow_cast-result c =
    let here : c.loop-part.part-index < length c.args.parts.now = c.loop-part-test.true in
    omega (arith, c.loop-part.invariant.at, c.requires, sum_by_more_le (λ (part : Bor (List ℕ)). length part.now + 1) c.args.parts.now c.loop-part.part-index (record { ref_ptr = (0, 0); now = [] }) here)

pub loop-part-init : goal.loop-part-init
loop-part-init c = record {
  at = refl;
  within = subst (λ (l : List ℕ). All (λ place. place < length c.args.columns.now) l) (sym c.new-places.ensures.items) (no-places (length c.args.columns.now));
  places =
      ap (λ (l : List ℕ). onto l (places_from c.args.columns.now 0 (map (λ (p : Bor (List ℕ)). p.now) c.args.parts.now))) c.new-places.ensures.items
      ∙ onto-none (places_from c.args.columns.now 0 (map (λ (p : Bor (List ℕ)). p.now) c.args.parts.now));
}

pub loop-part-preserved : goal.loop-part-preserved
loop-part-preserved c =
    let parts : List (Bor (List ℕ)) = c.args.parts.now in
    let i : ℕ = c.loop-part.part-index in
    let none : Bor (List ℕ) = record { ref_ptr = (0, 0); now = [] } in
    let part : Bor (List ℕ) = get_or parts i none in
    let here : i < length parts = c.loop-part-test.true in
    let inside : i < length (map (λ (p : Bor (List ℕ)). p.now) parts) = omega (arith, here, length-map {B = List ℕ} parts (λ (p : Bor (List ℕ)). p.now)) in
    let step : c.loop-part.at + (length part.now + 1) ≡ c.loop-part.at + length part.now + 1 = omega arith in
    let found : c.in-Some.place < length c.args.columns.now = c.in-Some.ensures.within in
    record {
      within =
          subst (λ (l : List ℕ). All (λ place. place < length c.args.columns.now) l) (sym c.in_ok-push_place-in-Some.ensures)
          (within-push (length c.args.columns.now) c.loop-part.places.items c.in-Some.place found c.loop-part.invariant.within);
      at = omega (arith, c.loop-part.invariant.at, sum_by_more (λ (p : Bor (List ℕ)). length p.now + 1) parts i none here);
      places =
          ap (λ (l : List ℕ). onto l (places_from c.args.columns.now (c.loop-part.at + (length part.now + 1)) (drop (i + 1) (map (λ (p : Bor (List ℕ)). p.now) parts)))) c.in_ok-push_place-in-Some.ensures
          ∙ place-more c.args.columns.now (map (λ (p : Bor (List ℕ)). p.now) parts) i c.loop-part.at (c.loop-part.at + (length part.now + 1)) c.in-Some.place c.loop-part.places.items part.now _ inside (part-at parts i none here) (sym c.place_named.ensures.place ∙ c.in-Some.is) step c.loop-part.invariant.places;
    }

pub returns-in-None-clause-read : goal.returns-in-None-clause-read
returns-in-None-clause-read c =
    let parts : List (Bor (List ℕ)) = c.args.parts.now in
    let i : ℕ = c.loop-part.part-index in
    let none : Bor (List ℕ) = record { ref_ptr = (0, 0); now = [] } in
    let here : i < length parts = c.loop-part-test.true in
    let inside : i < length (map (λ (p : Bor (List ℕ)). p.now) parts) = omega (arith, here, length-map {B = List ℕ} parts (λ (p : Bor (List ℕ)). p.now)) in
    place-none c.args.columns.now (map (λ (p : Bor (List ℕ)). p.now) parts) i c.loop-part.at c.loop-part.places.items (get_or parts i none).now _ inside (part-at parts i none here) (sym c.place_named.ensures.place ∙ c.in-None.is) c.loop-part.invariant.places
