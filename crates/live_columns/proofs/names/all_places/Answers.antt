-- One place more.
use Rattle.std.proofs.Common.{ℕ, ◌<◌, ◌++◌, ◌∷◌, [], List, sym, ap, subst, ◌∙◌, arith}
use Rattle.std.specs.List.{All}
use Rattle.live_columns.proofs.NameSteps.{no-places, place-next, within-push}
use Rattle.live_columns.proofs.names.all_places.Goals as goal

pub loop-place-init : goal.loop-place-init
loop-place-init c = record {
  places = c.in_ok-places.ensures.items;
  within = subst (λ (l : List ℕ). All (λ place. place < c.args.columns) l) (sym c.in_ok-places.ensures.items) (no-places c.args.columns);
}

pub loop-place-preserved : goal.loop-place-preserved
loop-place-preserved c =
    let within : c.loop-place.place < c.args.columns = omega arith in
    record {
      places = c.in_ok-push.ensures.items ∙ ap (λ (l : List ℕ). l ++ (c.loop-place.place ∷ [])) c.loop-place.invariant.places ∙ sym (place-next c.loop-place.place);
      within = subst (λ (l : List ℕ). All (λ place. place < c.args.columns) l) (sym c.in_ok-push.ensures.items) (within-push c.args.columns c.loop-place.places.items c.loop-place.place within c.loop-place.invariant.within);
    }
