-- Whether bytes are the canonical file of what they hold, and what an open makes of them.
use Rattle.std.proofs.Common.{◌≡◌, ℕ, suc, ◌+◌, ◌<◌, ◌≤◌, Bool, true, false, cond, ◌&&◌, eqb, All, List, [], ◌∷◌, ◌++◌, map, length, get_or, drop, min, Some, Result, Ok, Err, ◌⊎◌, inl, inr, refl, sym, ap, subst, ◌∙◌, arith}
use Rattle.std.specs.FinMap as finite
use Rattle.std.specs.List.{list_all, zip}
use Rattle.std.proofs.lemmas.Bool.{and_parts, and_from, eqb-true, eq-eqb, ltb-true}
use Rattle.std.proofs.lemmas.List.{drop_more, drop_all, append-nil, length-append}
use Rattle.std.proofs.Math.Bool.{and-false}
use Rattle.table_model.specs.Table.{Table}
use Rattle.table_model.specs.declared.refusal.Refusal.{Refusal}
use Rattle.table_model.specs.declared.refusal.Refusal.TheVariants.{Memory, NotCanonical, WriteFault}
use Rattle.catalogue_join.specs.RowRange.{RowRange}
use Rattle.table_model.specs.Reading.{Reads, ◌>>=◌}
use Rattle.segment_core.specs.Format.{AreBytes, Writes, read_whole}
use Rattle.table_model.specs.Faults.{AppendsFront}
use Rattle.table_model.specs.Identifier.{same_text}
use Rattle.segment_core.specs.Segment.{widths_in, widths_of, canonical_forms}
use Rattle.replica_store.specs.Segments.{Entry as Held, IsStored, rows_in}
use Rattle.replica_store.specs.Exchange.{OfferForm, AreOffered}
use Rattle.column_file.specs.ContainerBytes.{Entry, entry_of, deleted_of, container}
use Rattle.column_file.specs.Files.{ranges_of, canonical_as_read, canonical_file, first_difference, judged, offer_read, canonical_read, checked_from, IsCanonicalHeld, is_same_range}
use Rattle.column_file.specs.Differing.{matched}
use Rattle.column_file.specs.Comparing.{is_whole, has_differed, verdict, told}
use Rattle.column_file.proofs.Comparisons.{more_after, told_apart, none_left, less_is_other}
use Rattle.column_file.proofs.ContainerLaws.{container_is_lawful}
use Rattle.column_file.proofs.CanonicalWriting.{canonical_spelled}
use Rattle.column_file.proofs.FaultsOfBytes.{Judged, then_judged, judged_widest, offer_read_judged}
use Rattle.column_file.specs.Input.{is_fault_of_file}
use Rattle.column_file.proofs.SummaryWriting.{whole_read}

-- ---- the first place that differs

pub same_itself : (xs : List ℕ) → same_text xs xs ≡ true
same_itself [] = refl
same_itself (x ∷ xs) = and_from (eqb x x) (same_text xs xs) (eq-eqb x x refl) (same_itself xs)

-- equal numbers at a place: the difference is further on
pub goes_on : (a b : List ℕ) (i : ℕ) (d : ℕ) → i < length a → i < length b → get_or a i d ≡ get_or b i d → first_difference a b ≡ i + first_difference (drop i a) (drop i b) → first_difference a b ≡ (i + 1) + first_difference (drop (i + 1) a) (drop (i + 1) b)
goes_on a b i d in_a in_b same so_far =
    let one : first_difference (drop i a) (drop i b) ≡ suc (first_difference (drop (i + 1) a) (drop (i + 1) b)) =
    (λ k. first_difference (drop_more a i d in_a k) (drop_more b i d in_b k)) ∙ alike (get_or a i d) (get_or b i d) (drop (i + 1) a) (drop (i + 1) b) same in
    omega (arith, so_far, one)
  where
    alike : (x y : ℕ) (xs ys : List ℕ) → x ≡ y → first_difference (x ∷ xs) (y ∷ ys) ≡ suc (first_difference xs ys)
    alike x y xs ys e = ap (λ (b : Bool). cond b (suc (first_difference xs ys)) 0) (eq-eqb x y e)

-- one text ended
pub ends_here : (a b : List ℕ) (i : ℕ) → i ≡ min (length a) (length b) → first_difference a b ≡ i + first_difference (drop i a) (drop i b) → i ≡ first_difference a b
ends_here a b i is so_far =
    let none : first_difference (drop i a) (drop i b) ≡ 0 = go (shorter (length a) (length b) is) in
    omega (arith, so_far, none)
  where
    shorter : (m n : ℕ) → i ≡ min m n → (m ≤ i) ⊎ (n ≤ i)
    shorter m n e = grind arith

    go : (length a ≤ i) ⊎ (length b ≤ i) → first_difference (drop i a) (drop i b) ≡ 0
    go (inl h) = ap (λ (xs : List ℕ). first_difference xs (drop i b)) (drop_all i a h)
    go (inr h) = ap (first_difference (drop i a)) (drop_all i b h) ∙ none_left (drop i a)

-- texts are the same where they differ at the end of both
pub same_by_place : (a b : List ℕ) (n : ℕ) → n ≡ first_difference a b → n ≡ length a → n ≡ length b → same_text a b ≡ true
same_by_place a b n is first second = go a b (sym is ∙ first) (sym is ∙ second)
  where
    go : (a b : List ℕ) → first_difference a b ≡ length a → first_difference a b ≡ length b → same_text a b ≡ true
    go [] [] e f = refl
    go [] (y ∷ ys) e f = absurd (omega (arith, f))
    go (x ∷ xs) [] e f = absurd (omega (arith, e))
    go (x ∷ xs) (y ∷ ys) e f =
        elim (eqb x y) as (λ t. eqb x y ≡ t → cond t (suc (first_difference xs ys)) 0 ≡ suc (length xs) → cond t (suc (first_difference xs ys)) 0 ≡ suc (length ys) → (eqb x y && same_text xs ys) ≡ true) [
          | true ↦ λ tied p q. and_from (eqb x y) (same_text xs ys) tied (go xs ys (omega (arith, p)) (omega (arith, q)))
          | false ↦ λ tied p q. absurd (omega (arith, p))
        ] refl e f

pub ends_of_same : (a b : List ℕ) → same_text a b ≡ true → (first_difference a b ≡ length a) × (first_difference a b ≡ length b)
ends_of_same [] [] e = (refl, refl)
ends_of_same [] (y ∷ ys) e = absurd cc
ends_of_same (x ∷ xs) [] e = absurd cc
ends_of_same (x ∷ xs) (y ∷ ys) e =
    let v = and_parts (eqb x y) (same_text xs ys) e in
    let h = ends_of_same xs ys v.1 in
    let step : cond (eqb x y) (suc (first_difference xs ys)) 0 ≡ suc (first_difference xs ys) = ap (λ (b : Bool). cond b (suc (first_difference xs ys)) 0) v.0 in
    (step ∙ ap suc h.0, step ∙ ap suc h.1)

not_same : (a b : List ℕ) (n : ℕ) (t : Bool) → same_text a b ≡ t → n ≡ first_difference a b → (eqb n (length a) && eqb n (length b)) ≡ false → t ≡ false
not_same a b n true same is other =
    let h = ends_of_same a b same in
    let first = eq-eqb n (length a) (is ∙ h.0) in
    let second = eq-eqb n (length b) (is ∙ h.1) in
    sym (and_from (eqb n (length a)) (eqb n (length b)) first second) ∙ other
not_same a b n false same is other = refl

-- ---- what a comparison answers

pub matched_same : (bytes text : List ℕ) (n : ℕ) → n ≡ first_difference bytes text → n ≡ length bytes → n ≡ length text → matched bytes text ≡ Ok tt
matched_same bytes text n is first second = rw (same_by_place bytes text n is first second) refl

pub matched_other : (bytes text : List ℕ) (n : ℕ) → n ≡ first_difference bytes text → (eqb n (length bytes) && eqb n (length text)) ≡ false → matched bytes text ≡ Err (NotCanonical n)
matched_other bytes text n is other =
    let differ : same_text bytes text ≡ false = not_same bytes text n (same_text bytes text) refl is other in
    let place : first_difference bytes text ≡ n = sym is in
    rw (differ, place) refl

-- ---- what is canonical

pub same_range_is : (a b : RowRange) → is_same_range a b ≡ true → a ≡ b
same_range_is a b e =
    let v = and_parts (eqb a.0.batch.origin.0 b.0.batch.origin.0) (eqb a.0.batch.number.0 b.0.batch.number.0 && (eqb a.0.ordinal b.0.ordinal && eqb a.1 b.1)) e in
    let w = and_parts (eqb a.0.batch.number.0 b.0.batch.number.0) (eqb a.0.ordinal b.0.ordinal && eqb a.1 b.1) v.1 in
    let x = and_parts (eqb a.0.ordinal b.0.ordinal) (eqb a.1 b.1) w.1 in
    let origin = eqb-true _ _ v.0 in
    let number = eqb-true _ _ w.0 in
    let ordinal = eqb-true _ _ x.0 in
    let last = eqb-true _ _ x.1 in
    λ i. (record { batch = record { origin = record { 0 = origin i }; number = record { 0 = number i } }; ordinal = ordinal i }, last i)

-- lists of one length are one where their ranges are the same pair by pair
pub same_ranges : (a b : List RowRange) → length a ≡ length b → list_all (λ pair. is_same_range pair.0 pair.1) (zip a b) ≡ true → a ≡ b
same_ranges [] [] same e = refl
same_ranges [] (y ∷ ys) same e = absurd (omega (arith, same))
same_ranges (x ∷ xs) [] same e = absurd (omega (arith, same))
same_ranges (x ∷ xs) (y ∷ ys) same e =
    let both = and_parts (is_same_range x y) (list_all (λ pair. is_same_range pair.0 pair.1) (zip xs ys)) e in
    let here = same_range_is x y both.0 in
    let rest = same_ranges xs ys (omega (arith, same)) both.1 in λ i. here i ∷ rest i

pub canonical_items : (t : Table) (items : List Held) → All (IsStored t) items → All IsCanonicalHeld items → map entry_of items ≡ map (canonical_as_read t) items
canonical_items t [] stored canonical = refl
canonical_items t (e ∷ items) stored canonical =
    let here = stored 0 e (omega arith) in
    let form : e.1.forms ≡ canonical_forms (widths_in e.1.forms) e.1.rows = canonical 0 e (omega arith) in
    let same : e.1.forms ≡ canonical_forms (widths_of t) e.1.rows = form ∙ ap (λ (ws : List ℕ). canonical_forms ws e.1.rows) here.widths in
    let rest = canonical_items t items (λ k d below. stored (suc k) d (omega (arith, below))) (λ k d below. canonical (suc k) d (omega (arith, below))) in
    λ i. (e.0, (length e.1.rows, same i)) ∷ rest i

-- bytes that hold canonical batches and maximal ranges are the canonical file of these
pub canonical_is : (bytes : List ℕ) (o : OfferForm) (items : List Held) (rs : List RowRange) → AreBytes bytes → read_whole container bytes ≡ Ok (o.schema, (map entry_of items, map deleted_of rs)) → AreOffered o.schema items → o.state.batches ≡ rows_in o.segments → finite.entries o.segments ≡ items
    → All IsCanonicalHeld items → ranges_of o.state.deleted ≡ rs → judged bytes o ≡ Ok o
canonical_is bytes o items rs fit is offered batches entries canonical ranges =
    let taken = (container_is_lawful.takes (length bytes) bytes (o.schema, (map entry_of items, map deleted_of rs)) [] fit (whole_read container bytes (o.schema, (map entry_of items, map deleted_of rs)) is)).0 in
    let spelled : bytes ≡ container.spell (o.schema, (map entry_of items, map deleted_of rs)) = taken ∙ append-nil _ in
    let again : container.spell (o.schema, (map entry_of items, map deleted_of rs)) ≡ container.spell (o.schema, (map (canonical_as_read o.schema) items, map deleted_of rs)) =
    ap (λ (es : List Entry). container.spell (o.schema, (es, map deleted_of rs))) (canonical_items o.schema items offered.stored canonical) in
    let file : bytes ≡ canonical_file o.schema o.state = spelled ∙ again ∙ canonical_spelled o.schema o.state o.segments items rs batches (sym entries) ranges in
    let same : same_text bytes (canonical_file o.schema o.state) ≡ true = ap (same_text bytes) (sym file) ∙ same_itself bytes in
    rw same refl

-- what is judged of an offer that was read
pub canonical_was_read : (bytes : List ℕ) (o : OfferForm) → offer_read bytes ≡ Ok o → canonical_read bytes ≡ judged bytes o
canonical_was_read bytes o is = rw is refl

-- ---- what a call is refused as

judged_judged : (bytes : List ℕ) (o : OfferForm) → Judged is_fault_of_file (judged bytes o)
judged_judged bytes o = go (same_text bytes (canonical_file o.schema o.state))
  where
    go : (b : Bool) → Judged is_fault_of_file (cond b (Ok o) (Err (NotCanonical (first_difference bytes (canonical_file o.schema o.state)))))
    go true = tt
    go false = refl

pub canonical_read_judged : (bytes : List ℕ) → Judged is_fault_of_file (canonical_read bytes)
canonical_read_judged bytes = then_judged is_fault_of_file (offer_read bytes) (judged bytes) (judged_widest (offer_read bytes) (offer_read_judged bytes)) (judged_judged bytes)

pub checked_is : (bytes : List ℕ) (o : OfferForm) (batches ranges : ℕ) → canonical_read bytes ≡ Ok o → batches ≡ finite.len o.state.batches → ranges ≡ length (ranges_of o.state.deleted) → checked_from bytes ≡ Ok (batches, ranges)
checked_is bytes o batches ranges is count many = rw is (λ i. Ok (sym count i, sym many i))

pub matched_ends : (bytes text : List ℕ) (n : ℕ) → n ≡ first_difference bytes text → (eqb n (length bytes) && eqb n (length text)) ≡ true → matched bytes text ≡ Ok tt
matched_ends bytes text n is ends =
    let v = and_parts (eqb n (length bytes)) (eqb n (length text)) ends in
    matched_same bytes text n is (eqb-true _ _ v.0) (eqb-true _ _ v.1)

-- ---- what a comparison that a text was written to says

no_end : (b : Bool) (m k : ℕ) → m < k → (b && eqb m k) ≡ false
no_end b m k less = ap (λ (t : Bool). b && t) (less_is_other m k less) ∙ and-false b

-- the whole text was written, and nothing else was expected
pub whole_matched : (bytes text : List ℕ) (c : List ℕ × List ℕ) (whole : Bool) → told c ≡ told (bytes, []) ++ text
    → whole ≡ (eqb (first_difference c.0 c.1) (length c.0) && eqb (first_difference c.0 c.1) (length c.1)) → whole ≡ true → matched bytes text ≡ Ok tt
whole_matched bytes text c whole written tells test =
    let apart = told_apart c bytes text written in
    let place : first_difference c.0 c.1 ≡ first_difference bytes text = (λ i. first_difference (apart.0 i) (apart.1 i)) in
    matched_ends bytes text (first_difference bytes text) refl ((λ i. eqb (sym place i) (length (sym apart.0 i)) && eqb (sym place i) (length (sym apart.1 i))) ∙ sym tells ∙ test)

-- the whole text was written, and something else was expected
pub other_matched : (bytes text : List ℕ) (c : List ℕ × List ℕ) (whole : Bool) (n : ℕ) → told c ≡ told (bytes, []) ++ text
    → whole ≡ (eqb (first_difference c.0 c.1) (length c.0) && eqb (first_difference c.0 c.1) (length c.1)) → whole ≡ false → n ≡ first_difference c.0 c.1 → matched bytes text ≡ Err (NotCanonical n)
other_matched bytes text c whole n written tells test at =
    let apart = told_apart c bytes text written in
    let place : first_difference c.0 c.1 ≡ first_difference bytes text = (λ i. first_difference (apart.0 i) (apart.1 i)) in
    matched_other bytes text n (at ∙ place) ((λ i. eqb (at i) (length (sym apart.0 i)) && eqb (at i) (length (sym apart.1 i))) ∙ sym tells ∙ test)

-- a front of the text was written, of which a byte wasn't expected
pub front_matched : (bytes text : List ℕ) (c : List ℕ × List ℕ) (n : ℕ) (front back : List ℕ) → text ≡ front ++ back → told c ≡ told (bytes, []) ++ front
    → first_difference c.0 c.1 < length c.1 → n ≡ first_difference c.0 c.1 → matched bytes text ≡ Err (NotCanonical n)
front_matched bytes text c n front back parts written below at =
    let apart = told_apart c bytes front written in
    let place : first_difference c.0 c.1 ≡ first_difference bytes front = (λ i. first_difference (apart.0 i) (apart.1 i)) in
    let long : length c.1 ≡ length front = ap length apart.1 in
    let inside : first_difference bytes front < length front = omega (arith, below, place, long) in
    let found : n ≡ first_difference bytes text = at ∙ place ∙ sym (more_after bytes front back inside) ∙ ap (first_difference bytes) (sym parts) in
    let text_long : length text ≡ length front + length back = ap length parts ∙ length-append front back in
    let past : n < length text = omega (arith, at, place, inside, text_long) in
    matched_other bytes text n found (no_end (eqb n (length bytes)) n (length text) past)

-- what a comparison says, to which a text was written, is what it is matched to
pub verdict_matched : (bytes text : List ℕ) (start c : List ℕ × List ℕ) (outcome : Result (Unit {0}) Refusal) (before after : ℕ) → start ≡ (bytes, []) → Writes outcome (Some (told start)) (Some (told c)) before after text
    → Reads (λ (done : Unit {0}). done) (verdict c outcome) (matched bytes text)
verdict_matched bytes text start c (Ok done) before after from written = go (is_whole c) refl
  where
    n : ℕ
    n = first_difference c.0 c.1

    came : told c ≡ told (bytes, []) ++ text
    came = written.0 ∙ ap (λ (w : List ℕ × List ℕ). told w ++ text) from

    go : (b : Bool) → is_whole c ≡ b → Reads (λ (done : Unit {0}). done) (cond b (Ok done) (Err (NotCanonical n))) (matched bytes text)
    go true test = whole_matched bytes text c (is_whole c) came refl test
    go false test = inl (other_matched bytes text c (is_whole c) n came refl test refl)
verdict_matched bytes text start c (Err WriteFault) before after from written = go (has_differed c) refl
  where
    n : ℕ
    n = first_difference c.0 c.1

    front : AppendsFront (Some (told start)) (Some (told c)) text
    front = written.2

    came : told c ≡ told (bytes, []) ++ front.0
    came = front.3 ∙ ap (λ (w : List ℕ × List ℕ). told w ++ front.0) from

    go : (b : Bool) → has_differed c ≡ b → Reads (λ (done : Unit {0}). done) (cond b (Err (NotCanonical n)) (Err Memory)) (matched bytes text)
    go true test = inl (front_matched bytes text c n front.0 front.1 front.2 came (ltb-true n (length c.1) test) refl)
    go false test = inr refl
verdict_matched bytes text start c (Err other) before after from written = inr refl

-- so is what it said
pub said_matched : (bytes text : List ℕ) (start c : List ℕ × List ℕ) (outcome said : Result (Unit {0}) Refusal) (before after : ℕ) → start ≡ (bytes, []) → Writes outcome (Some (told start)) (Some (told c)) before after text → said ≡ verdict c outcome
    → Reads (λ (done : Unit {0}). done) said (matched bytes text)
said_matched bytes text start c outcome said before after from written is =
    let Q : Result (Unit {0}) Refusal → Type 0 = λ r. Reads (λ (done : Unit {0}). done) r (matched bytes text) in
    subst Q (sym is) (verdict_matched bytes text start c outcome before after from written)

-- ---- texts that differ inside

pub matched_inside : (bytes text : List ℕ) → first_difference bytes text < length text → matched bytes text ≡ Err (NotCanonical (first_difference bytes text))
matched_inside bytes text below = matched_other bytes text (first_difference bytes text) refl (no_end (eqb (first_difference bytes text) (length bytes)) (first_difference bytes text) (length text) below)

-- what is judged of an offer is what the bytes and its canonical file are matched to
pub judged_matched : (bytes file : List ℕ) (o : OfferForm) → file ≡ canonical_file o.schema o.state → judged bytes o ≡ (matched bytes file >>= λ (done : Unit {0}). Ok o)
judged_matched bytes file o is =
    rw (sym is) (go (same_text bytes file))
  where
    go : (b : Bool) → cond b (Ok o) (Err (NotCanonical (first_difference bytes file))) ≡ (cond b (Ok tt) (Err (NotCanonical (first_difference bytes file))) >>= λ (done : Unit {0}). Ok o)
    go true = refl
    go false = refl
