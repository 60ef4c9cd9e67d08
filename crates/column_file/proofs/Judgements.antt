-- Bytes and the canonical file of what they hold are matched as the bytes are with the container of the batches that were judged.
use Rattle.std.proofs.Common.{◌≡◌, ℕ, ◌+◌, ◌<◌, Bool, true, false, List, [], ◌++◌, map, length, All, codes, Result, Ok, Err, refl, sym, ap, ◌∙◌, append_assoc, arith}
use Rattle.std.specs.FinMap as finite
use Rattle.std.proofs.lemmas.List.{append-nil, length-append}
use Rattle.table_model.specs.Name.{name_cmp}
use Rattle.table_model.specs.Table.{Table}
use Rattle.table_model.specs.declared.refusal.Refusal.{Refusal}
use Rattle.table_model.specs.declared.refusal.Refusal.TheVariants.{NotCanonical}
use Rattle.catalogue_join.specs.RowRange.{RowRange, AreMaximal, rows_in as rows_deleted}
use Rattle.table_model.specs.Reading.{◌>>=◌}
use Rattle.segment_core.specs.Format.{AreBytes, read_whole}
use Rattle.replica_store.specs.Segments.{Entry as Held}
use Rattle.replica_store.specs.Exchange.{OfferForm, AreOffered}
use Rattle.column_file.specs.SummaryBytes.{head}
use Rattle.column_file.specs.ContainerBytes.{Entry, entry_of, deleted_of, ranges, container, IsFound}
use Rattle.column_file.specs.Differing.{DifferAlike, AreJudged, matched, bytes_of, canonical_bytes_of}
use Rattle.column_file.specs.Files.{canonical_as_read, canonical_file, canonical_read, first_difference, segments_of, offer_held, IsCanonicalHeld}
use Rattle.column_file.proofs.CanonicalWriting.{canonical_spelled}
use Rattle.column_file.proofs.ContainerLaws.{container_is_lawful}
use Rattle.column_file.proofs.ContainerWriting.{container_spelled}
use Rattle.column_file.proofs.Differences.{alike_before}
use Rattle.column_file.proofs.OfferReading.{held_back, range_back, offer_was_read}
use Rattle.column_file.proofs.Openings.{canonical_items, canonical_was_read, judged_matched, matched_inside}
use Rattle.column_file.proofs.RangeLists.{ranges_are}
use Rattle.column_file.proofs.SummaryWriting.{whole_read}

-- the bytes of a container
abbrev text_of : Table → List Entry → List RowRange → List ℕ
text_of t es rs = container.spell (t, (es, map deleted_of rs))

-- what was read is spelled so
read_spelled : (bytes : List ℕ) (t : Table) (es : List Entry) (rs : List RowRange) → AreBytes bytes → read_whole container bytes ≡ Ok (t, (es, map deleted_of rs)) → bytes ≡ text_of t es rs
read_spelled bytes t es rs fit is =
    (container_is_lawful.takes (length bytes) bytes (t, (es, map deleted_of rs)) [] fit (whole_read container bytes (t, (es, map deleted_of rs)) is)).0 ∙ append-nil (text_of t es rs)

-- texts that differ first at the same place, which is inside of both
both_inside : (bytes some others : List ℕ) → first_difference bytes some ≡ first_difference bytes others → first_difference bytes some < length some → first_difference bytes some < length others → matched bytes some ≡ matched bytes others
both_inside bytes some others same here there =
    let past : first_difference bytes others < length others = omega (arith, same, there) in
    matched_inside bytes some here ∙ ap (λ (n : ℕ). Err (NotCanonical n)) same ∙ sym (matched_inside bytes others past)

-- the places where bytes differ from two containers
record Places (bytes some others : List ℕ) : Type 0 where
  pub same : first_difference bytes some ≡ first_difference bytes others
  pub here : first_difference bytes some < length some
  pub there : first_difference bytes some < length others

places : (t : Table) (old new : List Held) (rs ms : List RowRange) → DifferAlike (bytes_of t old) (bytes_of t new) (canonical_bytes_of t old)
    → Places (text_of t (map entry_of old) rs) (text_of t (map entry_of new) ms) (text_of t (map (canonical_as_read t) old) ms)
places t old new rs ms alike =
    let front = (head (codes "FLCF")).spell t in
    let x = bytes_of t old in
    let y = bytes_of t new in
    let z = canonical_bytes_of t old in
    let end = ranges.spell (map deleted_of rs) in
    let tail = ranges.spell (map deleted_of ms) in
    let h = alike_before front x y z alike end tail tail in
    let first : text_of t (map entry_of old) rs ≡ (front ++ x) ++ end = container_spelled t (map entry_of old) (map deleted_of rs) ∙ sym (append_assoc front x end) in
    let second : text_of t (map entry_of new) ms ≡ (front ++ y) ++ tail = container_spelled t (map entry_of new) (map deleted_of ms) ∙ sym (append_assoc front y tail) in
    let third : text_of t (map (canonical_as_read t) old) ms ≡ (front ++ z) ++ tail = container_spelled t (map (canonical_as_read t) old) (map deleted_of ms) ∙ sym (append_assoc front z tail) in
    let place : first_difference (text_of t (map entry_of old) rs) (text_of t (map entry_of new) ms) ≡ first_difference ((front ++ x) ++ end) ((front ++ y) ++ tail) = (λ i. first_difference (first i) (second i)) in
    let other : first_difference (text_of t (map entry_of old) rs) (text_of t (map (canonical_as_read t) old) ms) ≡ first_difference ((front ++ x) ++ end) ((front ++ z) ++ tail) = (λ i. first_difference (first i) (third i)) in
    let long_second : length (text_of t (map entry_of new) ms) ≡ length (front ++ y) + length tail = ap length second ∙ length-append (front ++ y) tail in
    let long_third : length (text_of t (map (canonical_as_read t) old) ms) ≡ length (front ++ z) + length tail = ap length third ∙ length-append (front ++ z) tail in
    let same = h.0 in
    let inside = h.1 in
    let within = h.2 in
    record { same = place ∙ same ∙ sym other; here = omega (arith, place, inside, long_second); there = omega (arith, place, within, long_third) }

-- the batches that were judged are matched as the canonical ones
same_match : (t : Table) (old new : List Held) (rs ms : List RowRange) (all : Bool) → AreOffered t old → AreJudged all old new
    → matched (text_of t (map entry_of old) rs) (text_of t (map entry_of new) ms) ≡ matched (text_of t (map entry_of old) rs) (text_of t (map (canonical_as_read t) old) ms)
same_match t old new rs ms true offered is =
    ap (λ (es : List Entry). matched (text_of t (map entry_of old) rs) (text_of t es ms)) (ap (map entry_of) is.0 ∙ canonical_items t old offered.stored is.1)
same_match t old new rs ms false offered alike =
    let p = places t old new rs ms (alike t offered.stored) in
    both_inside (text_of t (map entry_of old) rs) (text_of t (map entry_of new) ms) (text_of t (map (canonical_as_read t) old) ms) p.same p.here p.there

-- what is read of bytes as a canonical file, by the batches that were judged
pub canonical_by : (bytes : List ℕ) (t : Table) (old new : List Held) (rs ms : List RowRange) (all : Bool) → AreBytes bytes → read_whole container bytes ≡ Ok (t, (map entry_of old, map deleted_of rs)) → All (IsFound t) old → AreOffered t old → AreJudged all old new
    → AreMaximal ms → rows_deleted ms ≡ rows_deleted rs
    → canonical_read bytes ≡ (matched bytes (text_of t (map entry_of new) ms) >>= λ (done : Unit {0}). Ok (offer_held (t, (map entry_of old, map deleted_of rs))))
canonical_by bytes t old new rs ms all fit is found offered judgement maximal rows =
    let o = offer_held (t, (map entry_of old, map deleted_of rs)) in
    let read = offer_was_read bytes (t, (map entry_of old, map deleted_of rs)) o is refl in
    let made : segments_of (map entry_of old) ≡ finite.from_sorted old = ap (λ (xs : List Held). finite.from_sorted {R = name_cmp} xs) (held_back t old found) in
    let entries : old ≡ finite.entries o.segments = sym (ap finite.entries made ∙ finite.entries-from_sorted name_cmp old offered.sorted) in
    let deleted : rows_deleted ms ≡ o.state.deleted = rows ∙ ap rows_deleted (sym (range_back rs)) in
    let file : text_of t (map (canonical_as_read t) old) ms ≡ canonical_file o.schema o.state = canonical_spelled t o.state o.segments old ms refl entries (ranges_are ms o.state.deleted maximal deleted) in
    let spelled : bytes ≡ text_of t (map entry_of old) rs = read_spelled bytes t (map entry_of old) rs fit is in
    let same : matched bytes (text_of t (map entry_of new) ms) ≡ matched bytes (text_of t (map (canonical_as_read t) old) ms) =
    ap (λ (b : List ℕ). matched b (text_of t (map entry_of new) ms)) spelled ∙ same_match t old new rs ms all offered judgement ∙ ap (λ (b : List ℕ). matched b (text_of t (map (canonical_as_read t) old) ms)) (sym spelled) in
    canonical_was_read bytes o read ∙ judged_matched bytes (text_of t (map (canonical_as_read t) old) ms) o file ∙ ap (λ (r : Result (Unit {0}) Refusal). r >>= λ (done : Unit {0}). Ok o) (sym same)

-- batches that were judged, where the bytes are their container
pub kept_by : (bytes : List ℕ) (t : Table) (old new : List Held) (rs ms : List RowRange) (all : Bool) → AreBytes bytes → read_whole container bytes ≡ Ok (t, (map entry_of old, map deleted_of rs)) → AreOffered t old → AreJudged all old new
    → matched bytes (text_of t (map entry_of new) ms) ≡ Ok tt → (new ≡ old) × All IsCanonicalHeld old
kept_by bytes t old new rs ms true fit is offered judgement whole = judgement
kept_by bytes t old new rs ms false fit is offered alike whole =
    let p = places t old new rs ms (alike t offered.stored) in
    let spelled : bytes ≡ text_of t (map entry_of old) rs = read_spelled bytes t (map entry_of old) rs fit is in
    let other = matched_inside (text_of t (map entry_of old) rs) (text_of t (map entry_of new) ms) p.here in
    let apart : Ok tt ≡ Err (NotCanonical (first_difference (text_of t (map entry_of old) rs) (text_of t (map entry_of new) ms))) = sym whole ∙ ap (λ (b : List ℕ). matched b (text_of t (map entry_of new) ms)) spelled ∙ other in
    absurd cc

-- batches of which all are canonical
pub all_judged : (all : Bool) (old new : List Held) → AreJudged all old new → all ≡ true → (new ≡ old) × All IsCanonicalHeld old
all_judged true old new is test = is
all_judged false old new is test = absurd cc

-- the bytes aren't their container
pub refused_by : (bytes text : List ℕ) (o : OfferForm) (e : Refusal) → canonical_read bytes ≡ (matched bytes text >>= λ (done : Unit {0}). Ok o) → matched bytes text ≡ Err e → canonical_read bytes ≡ Err e
refused_by bytes text o e read is = read ∙ ap (λ (r : Result (Unit {0}) Refusal). r >>= λ (done : Unit {0}). Ok o) is

-- the bytes are their container
pub opened_by : (bytes text : List ℕ) (o x : OfferForm) → canonical_read bytes ≡ (matched bytes text >>= λ (done : Unit {0}). Ok o) → matched bytes text ≡ Ok tt → x ≡ o → canonical_read bytes ≡ Ok x
opened_by bytes text o x read is same = read ∙ ap (λ (r : Result (Unit {0}) Refusal). r >>= λ (done : Unit {0}). Ok o) is ∙ (λ i. Ok (sym same i))
