-- The fold over a query's columns gives the least places.
use Rattle.std.proofs.Common.{◌≡◌, ◌≤◌, ℕ, zero, suc, nat_le, Bool, true, false, cond, min, is_none, Option, Some, None, Err, All, Any, List, [], ◌∷◌, refl, sym, ap, ◌∙◌, ◌⊎◌, inl, inr, arith}
use Rattle.std.proofs.Math.Nat.{min-le_left, min-le_right, min-eq_left, min-eq_right}
use Rattle.std.proofs.lemmas.Bool.Decides.{nat_tests}
use Rattle.std.proofs.lemmas.List.Elements.{All-cons, All-nil}
use Rattle.table_model.specs.Meaning.{column_at}
use Rattle.table_model.specs.Identifier.{same_text}
use Rattle.table_model.specs.Query.{QueryShape}
use Rattle.table_model.specs.Table.{Table, ColumnShape}
use Rattle.table_model.specs.declared.query.ColumnMention.{ColumnMention}
use Rattle.table_model.specs.declared.refusal.Refusal.TheVariants.{NoSuchTable}
use Rattle.query_parser.specs.Resolve.{Named, Places, in_query, is_grouped, sooner, with_column, visited, places, verdict, resolved, is_missing, lacks_group, is_ungrouped, IsLeastPlace, IsJudged}

-- the least place so far and those of the columns that pass a test
abbrev pub one_more : (Named → Bool) → Option ℕ → Named → Option ℕ
one_more test found named = cond (test named) (sooner found named.0.at) found

abbrev pub least : (Named → Bool) → Option ℕ → List Named → Option ℕ
least test found [] = found
least test found (n ∷ ns) = least test (one_more test found n) ns

-- the two places are found each for itself
step : (columns : List ColumnShape) (grouping : List ColumnMention) (found : Places) (n : Named)
    → visited columns grouping found n ≡ (one_more (is_missing columns) found.0 n, one_more (is_ungrouped columns grouping) found.1 n)
step columns grouping found n = by_column (column_at columns n.0.name)
  where
    by_column : (o : Option ℕ) → with_column (is_grouped columns grouping) found n o ≡ (cond (is_none o) (sooner found.0 n.0.at) found.0, cond (lacks_group (is_grouped columns grouping) n.1 o) (sooner found.1 n.0.at) found.1)
    by_column None = refl
    by_column (Some i) = refl

pub places_least : (columns : List ColumnShape) (grouping : List ColumnMention) (found : Places) (all : List Named)
    → places columns grouping found all ≡ (least (is_missing columns) found.0 all, least (is_ungrouped columns grouping) found.1 all)
unfolding places
places_least columns grouping found [] = refl
places_least columns grouping found (n ∷ ns) =
    ap (λ (p : Places). places columns grouping p ns) (step columns grouping found n) ∙ places_least columns grouping (one_more (is_missing columns) found.0 n, one_more (is_ungrouped columns grouping) found.1 n) ns

-- what the least place is, where one was found before
abbrev IsLeastFrom : (Named → Bool) → Option ℕ → List Named → Option ℕ → Type 0
IsLeastFrom test None all r = IsLeastPlace test all r
IsLeastFrom test (Some first) all None = ⊥
IsLeastFrom test (Some first) all (Some at) =
    ((first ≡ at) ⊎ Any (λ named. (test named ≡ true) × (named.0.at ≡ at)) all) × ((at ≤ first) × All (λ named. test named ≡ true → at ≤ named.0.at) all)

here : {X : Type 0} (P : X → Type 0) (x : X) (xs : List X) → P x → Any P (x ∷ xs)
here P x xs p = (zero, x, omega arith, refl, p)

there : {X : Type 0} (P : X → Type 0) (x : X) (xs : List X) → Any P xs → Any P (x ∷ xs)
there P x xs a = (suc a.0, a.1, omega (arith, a.2), a.3, a.4)

min_either : (a b : ℕ) → (min a b ≡ a) ⊎ (min a b ≡ b)
min_either a b = by_test (nat_le a b) refl
  where
    by_test : (t : Bool) → nat_le a b ≡ t → (min a b ≡ a) ⊎ (min a b ≡ b)
    by_test true e = inl (min-eq_left (grind (arith, nat_tests)))
    by_test false e = inr (min-eq_right (grind (arith, nat_tests)))

-- a column that passes the test and stands at a place, and one that stands no sooner
abbrev StandsAt : (Named → Bool) → ℕ → Named → Type 0
StandsAt test at n = (test n ≡ true) × (n.0.at ≡ at)

abbrev NoSooner : (Named → Bool) → ℕ → Named → Type 0
NoSooner test at n = test n ≡ true → at ≤ n.0.at

-- a column in front that doesn't pass the test changes nothing
fails : (test : Named → Bool) (found : Option ℕ) (n : Named) (ns : List Named) (r : Option ℕ) → test n ≡ false → IsLeastFrom test found ns r → IsLeastFrom test found (n ∷ ns) r
fails test None n ns None e h = All-cons (λ m. test m ≡ false) n ns e h
fails test None n ns (Some at) e h = (there (StandsAt test at) n ns h.0, All-cons (NoSooner test at) n ns (λ t. absurd (cc)) h.1)
fails test (Some first) n ns None e h = h
fails test (Some first) n ns (Some at) e h = (by_found h.0, (h.1.0, All-cons (NoSooner test at) n ns (λ t. absurd (cc)) h.1.1))
  where
    by_found : (first ≡ at) ⊎ Any (StandsAt test at) ns → (first ≡ at) ⊎ Any (StandsAt test at) (n ∷ ns)
    by_found (inl f) = inl f
    by_found (inr a) = inr (there (StandsAt test at) n ns a)

-- a column in front that passes it stands at a place that was found before
passes : (test : Named → Bool) (found : Option ℕ) (n : Named) (ns : List Named) (r : Option ℕ) → test n ≡ true → IsLeastFrom test (sooner found n.0.at) ns r → IsLeastFrom test found (n ∷ ns) r
passes test None n ns None e h = absurd h
passes test None n ns (Some at) e h = (by_found h.0, All-cons (NoSooner test at) n ns (λ t. h.1.0) h.1.1)
  where
    by_found : (n.0.at ≡ at) ⊎ Any (StandsAt test at) ns → Any (StandsAt test at) (n ∷ ns)
    by_found (inl f) = here (StandsAt test at) n ns (e, f)
    by_found (inr a) = there (StandsAt test at) n ns a
passes test (Some first) n ns None e h = h
passes test (Some first) n ns (Some at) e h =
    (by_found h.0 (min_either first n.0.at), (omega (arith, h.1.0, min-le_left first n.0.at), All-cons (NoSooner test at) n ns (λ t. omega (arith, h.1.0, min-le_right first n.0.at)) h.1.1))
  where
    by_found : (min first n.0.at ≡ at) ⊎ Any (StandsAt test at) ns → (min first n.0.at ≡ first) ⊎ (min first n.0.at ≡ n.0.at) → (first ≡ at) ⊎ Any (StandsAt test at) (n ∷ ns)
    by_found (inl f) (inl m) = inl (sym m ∙ f)
    by_found (inl f) (inr m) = inr (here (StandsAt test at) n ns (e, sym m ∙ f))
    by_found (inr a) m = inr (there (StandsAt test at) n ns a)

none_left : (test : Named → Bool) (found : Option ℕ) → IsLeastFrom test found [] found
none_left test None = All-nil (λ m. test m ≡ false)
none_left test (Some first) = (inl refl, (omega arith, All-nil (NoSooner test first)))

pub least_from : (test : Named → Bool) (found : Option ℕ) (all : List Named) → IsLeastFrom test found all (least test found all)
least_from test found [] = none_left test found
least_from test found (n ∷ ns) = by_test (test n) refl (least_from test (cond (test n) (sooner found n.0.at) found) ns)
  where
    by_test : (b : Bool) → test n ≡ b → IsLeastFrom test (cond b (sooner found n.0.at) found) ns (least test (cond (test n) (sooner found n.0.at) found) ns)
        → IsLeastFrom test found (n ∷ ns) (least test (cond (test n) (sooner found n.0.at) found) ns)
    by_test true e h = passes test found n ns _ e h
    by_test false e h = fails test found n ns _ e h

-- what is resolved is the first refusal, each at its least place
pub judged : (table : Table) (q : QueryShape) → IsJudged table q (resolved table q)
judged table q = by_name (same_text q.table table.name) refl
  where
    by_places : (missing ungrouped : Option ℕ) → same_text q.table table.name ≡ true → IsLeastPlace (is_missing table.columns) (in_query q) missing → IsLeastPlace (is_ungrouped table.columns q.grouping) (in_query q) ungrouped
        → IsJudged table q (verdict (missing, ungrouped))
    by_places None None e m u = (e, (m, u))
    by_places None (Some at) e m u = (e, (m, u))
    by_places (Some at) u e m h = (e, m)

    by_name : (b : Bool) → same_text q.table table.name ≡ b → IsJudged table q (cond b (verdict (places table.columns q.grouping (None, None) (in_query q))) (Err NoSuchTable))
    by_name false e = e
    by_name true e =
        rw (places_least table.columns q.grouping (None, None) (in_query q))
        (by_places _ _ e (least_from (is_missing table.columns) None (in_query q)) (least_from (is_ungrouped table.columns q.grouping) None (in_query q)))
