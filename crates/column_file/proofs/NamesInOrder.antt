-- The batches of a valid container are in ascending order of name.
use Rattle.std.proofs.Common.{◌≡◌, true, List, [], ◌∷◌, ◌++◌, map, refl}
use Rattle.std.specs.Ordering.{is_lt}
use Rattle.std.specs.FinMap.Entries.{below_all, is_sorted}
use Rattle.std.proofs.lemmas.Bool.{and_parts, and_from}
use Rattle.table_model.specs.Name.{name_cmp}
use Rattle.table_model.specs.Table.{Table}
use Rattle.segment_core.specs.Format.{valid_all}
use Rattle.column_file.specs.ContainerBytes.{Entry, batch}
use Rattle.column_file.specs.Files.{held_of}
use Rattle.column_file.proofs.OfferReading.{precedes_less, Above, above}

all_below : (x : Entry) (es : List Entry) → Above x es → below_all name_cmp x.0 (map held_of es) ≡ true
all_below x [] a = refl
all_below x (y ∷ es) a = and_from (is_lt (name_cmp x.0 y.0)) (below_all name_cmp x.0 (map held_of es)) (precedes_less x.0 y.0 a.0) (all_below x es a.1)

pub in_order : (t : Table) (front es : List Entry) → valid_all (batch t) front es ≡ true → is_sorted name_cmp (map held_of es) ≡ true
unfolding valid_all
in_order t front [] valid = refl
in_order t front (x ∷ es) valid =
    let v = and_parts ((batch t front).valid x) (valid_all (batch t) (front ++ x ∷ []) es) valid in
    and_from (below_all name_cmp x.0 (map held_of es)) (is_sorted name_cmp (map held_of es)) (all_below x es (above t front x es v.1)) (in_order t (front ++ x ∷ []) es v.1)
