-- What a file that is open is asked: a text is written whole, or one text after another.
use Rattle.std.proofs.Common.{◌≡◌, inl, inr, ℕ, ◌++◌, ◌+◌, ◌<◌, true, false, IsTrue, List, [], ◌∷◌, length, map, drop, take, get_or, Option, Some, None, Result, Ok, Err, OnOk, OnErr, IfErr, refl, sym, ap, ◌∙◌, subst, append_assoc}
use Rattle.std.specs.Prelude.{◌⊎◌}
use Rattle.std.proofs.lemmas.List.{append-nil, drop_more, take_more}
use Rattle.std.specs.Io.KnownBytes.{Appends}
use Rattle.table_model.proofs.Written.{appends_both}
use Rattle.table_model.specs.Counted.{one_more}
use Rattle.table_model.specs.Faults.{AppendsFront, CountsWrites}
use Rattle.table_model.specs.declared.refusal.Refusal.{Refusal}
use Rattle.table_model.specs.declared.refusal.Refusal.TheVariants.{Memory, WriteFault}
use Rattle.segment_core.specs.Format.{Writes}
use Rattle.store_view.specs.Asked.{is_refusal_of_query}
use Rattle.answer_formats.specs.declared.format.Format.{Format}
use Rattle.replica_store.specs.Replica.{Replica}
use Rattle.replica_reports.specs.Asking.{WritesText, Report, no_report, refused, after_text, text_report, answered_in, answers_report, Tells, is_refusal_of_answering}

-- ---- a text

-- it is written whole, or a front of it
pub text_written : (result : Result (Unit {0}) Refusal) (before now : Option (List ℕ)) (w w' : ℕ) (made : Result (List ℕ) Refusal) (text : List ℕ) → made ≡ Ok text
    → OnOk result (Appends before now text) → OnErr result (AppendsFront before now text) → OnOk result (w' ≡ w) → IfErr result (λ e. (e ≡ WriteFault) × (w' ≡ one_more w)) → WritesText result before now w w' made
text_written (Ok done) before now w w' made text is ok front kept fault = (text, is, ok, kept)
text_written (Err e) before now w w' made text is ok front kept fault =
    let P : Refusal → Type 0 = λ x. WritesText (Err x) before now w w' made in subst P (sym fault.0) (text, is, front, fault.1)

-- the same of a call that writes piece by piece
pub pieces_written : (result : Result (Unit {0}) Refusal) (before now : Option (List ℕ)) (w w' : ℕ) (made : Result (List ℕ) Refusal) (text : List ℕ) → made ≡ Ok text
    → Writes result before now w w' text → WritesText result before now w w' made
pieces_written (Ok done) before now w w' made text is wrote = (text, is, wrote.0, wrote.1)
pieces_written (Err e) before now w w' made text is wrote =
    let P : Refusal → Type 0 = λ x. WritesText (Err x) before now w w' made in subst P (sym wrote.0) (text, is, wrote.2, wrote.1)

-- it is refused before anything is written
pub text_refused : (e : Refusal) (known : Option (List ℕ)) (w : ℕ) (made : Result (List ℕ) Refusal) → (made ≡ Err e) ⊎ (e ≡ Memory) → (e ≡ WriteFault → ⊥) → WritesText (Err e) known known w w made
text_refused Memory known w made why other = (refl, refl)
text_refused WriteFault known w made why other = absurd (other refl)
text_refused refusal known w made (inl is) other = (is, refl, refl)
text_refused refusal known w made (inr lack) other = absurd cc

-- for want of memory
pub text_lacks : (e : Refusal) (known : Option (List ℕ)) (w : ℕ) (made : Result (List ℕ) Refusal) → e ≡ Memory → WritesText (Err e) known known w w made
text_lacks e known w made lack = let P : Refusal → Type 0 = λ x. WritesText (Err x) known known w w made in subst P (sym lack) (refl, refl)

-- a query is not refused as a write that failed
pub query_reads : (e : Refusal) → IsTrue (is_refusal_of_query e) → e ≡ WriteFault → ⊥
query_reads WriteFault listed is = let wrong : false ≡ true = listed in cc
query_reads other listed is = cc

-- and writing its answer has its refusals, and that of a write
pub query_answers : (e : Refusal) → IsTrue (is_refusal_of_query e) → IsTrue (is_refusal_of_answering e)
query_answers WriteFault listed = refl
query_answers other listed = listed

-- no write is counted of it
pub query_counts : (e : Refusal) (w : ℕ) → IsTrue (is_refusal_of_query e) → CountsWrites e w w
query_counts WriteFault w listed = let wrong : false ≡ true = listed in cc
query_counts other w listed = refl

-- ---- one text after another

-- nothing was written
pub appends_none : (known : Option (List ℕ)) → Appends known known []
appends_none None = tt
appends_none (Some xs) = sym (append-nil xs)

-- nothing is a front of each text
pub front_none : (known : Option (List ℕ)) (text : List ℕ) → AppendsFront known known text
front_none known text = ([], text, refl, appends_none known)

-- a text after a text
after_both : (done text : List ℕ) (rest : Report) → after_text done (after_text text rest) ≡ after_text (done ++ text) rest
after_both done text rest = ap (λ (t : List ℕ). (t, rest.1)) (sym (append_assoc done text rest.0))

-- so much is written: what is still to come is the report of what is left
pub record SoFar (before now : Option (List ℕ)) (whole left : Report) : Type 0 where
  pub done : List ℕ
  pub told : Appends before now done
  pub parts : whole ≡ after_text done left

-- nothing is written at first
pub so_far_none : (known : Option (List ℕ)) (whole : Report) → SoFar known known whole whole
so_far_none known whole = record { done = []; told = appends_none known; parts = refl }

-- one text more
pub so_far_next : (before now next : Option (List ℕ)) (w w' : ℕ) (whole rest : Report) (made : Result (List ℕ) Refusal)
    → SoFar before now whole (text_report made rest) → WritesText (Ok tt) now next w w' made → SoFar before next whole rest
so_far_next before now next w w' whole rest made so h =
    let one : text_report made rest ≡ after_text h.0 rest = ap (λ (m : Result (List ℕ) Refusal). text_report m rest) h.1 in
    record {
      done = so.done ++ h.0;
      told = appends_both before now next so.done h.0 so.told h.2;
      parts = so.parts ∙ ap (after_text so.done) one ∙ after_both so.done h.0 rest;
    }

-- a text that is refused ends the whole
pub so_far_stops : (before now next : Option (List ℕ)) (w w' : ℕ) (whole rest : Report) (made : Result (List ℕ) Refusal) (e : Refusal)
    → SoFar before now whole (text_report made rest) → WritesText (Err e) now next w w' made → Tells (Err e) before next whole
so_far_stops before now next w w' whole rest made e so h =
    let P : Report → Type 0 = λ r. Tells (Err e) before next r in
    subst P (sym so.parts) (stopped made e h)
  where
    nothing_more : (e : Refusal) → next ≡ now → AppendsFront before next (after_text so.done (text_report made rest)).0
    nothing_more e same = (so.done, (text_report made rest).0, refl, (let Q : Option (List ℕ) → Type 0 = λ k. Appends before k so.done in subst Q (sym same) so.told))

    stopped : (made : Result (List ℕ) Refusal) (e : Refusal) → WritesText (Err e) now next w w' made → Tells (Err e) before next (after_text so.done (text_report made rest))
    stopped made Memory h =
        let Q : Option (List ℕ) → Type 0 = λ k. Appends before k so.done in
        inr (inl refl, (so.done, (text_report made rest).0, refl, subst Q (sym h.0) so.told))
    stopped made WriteFault h =
        let text : List ℕ = h.0 in
        let one : after_text so.done (after_text text rest) ≡ after_text so.done (text_report made rest) = ap (λ (m : Result (List ℕ) Refusal). after_text so.done (text_report m rest)) (sym h.1) in
        let R : Report → Type 0 = λ r. AppendsFront before next r.0 in
        let front = h.2 in
        inr (
          inr (inr refl),
          subst R one (
            so.done ++ front.0,
            front.1 ++ rest.0,
            ap (λ (t : List ℕ). so.done ++ (t ++ rest.0)) front.2 ∙ ap (λ (t : List ℕ). so.done ++ t) (append_assoc front.0 front.1 rest.0) ∙ sym (append_assoc so.done front.0 (front.1 ++ rest.0)),
            appends_both before now next so.done front.0 so.told front.3,
          ),
        )
    stopped made other h =
        let Q : Option (List ℕ) → Type 0 = λ k. Appends before k so.done in
        let one : after_text so.done (refused other) ≡ after_text so.done (text_report made rest) = ap (λ (m : Result (List ℕ) Refusal). after_text so.done (text_report m rest)) (sym h.0) in
        let R : Report → Type 0 = λ r. Tells (Err other) before next r in
        subst R one (inl (refl, (let S : List ℕ → Type 0 = λ t. Appends before next t in subst S (sym (append-nil so.done)) (subst Q (sym h.1) so.told))))

-- all is written
pub so_far_all : (before now : Option (List ℕ)) (whole : Report) → SoFar before now whole no_report → Tells (Ok tt) before now whole
so_far_all before now whole so =
    let P : Report → Type 0 = λ r. Tells (Ok tt) before now r in
    subst P (sym so.parts) (refl, (let S : List ℕ → Type 0 = λ t. Appends before now t in subst S (sym (append-nil so.done)) so.told))

-- ---- queries

-- the next query of those that are left
pub query_at : {X : Type 0} (format : Format) (r : Replica) (text : X → List ℕ) (sqls : List X) (i : ℕ) (d : X) → i < length sqls
    → answers_report format r (map text (drop i sqls)) ≡ text_report (answered_in format r (text (get_or sqls i d))) (answers_report format r (map text (drop (i + 1) sqls)))
query_at {X = X} format r text sqls i d below = ap (λ (left : List X). answers_report format r (map text left)) (drop_more sqls i d below)

-- so much is written before it
pub so_far_at : {X : Type 0} (before now : Option (List ℕ)) (format : Format) (r : Replica) (text : X → List ℕ) (sqls : List X) (i : ℕ) (d : X) → i < length sqls
    → SoFar before now (answers_report format r (map text sqls)) (answers_report format r (map text (drop i sqls)))
    → SoFar before now (answers_report format r (map text sqls)) (text_report (answered_in format r (text (get_or sqls i d))) (answers_report format r (map text (drop (i + 1) sqls))))
so_far_at before now format r text sqls i d below so =
    let P : Report → Type 0 = λ left. SoFar before now (answers_report format r (map text sqls)) left in
    subst P (query_at format r text sqls i d below) so

-- the counts after a refusal
pub answer_fault : (e : Refusal) (before now : Option (List ℕ)) (w0 w w' : ℕ) (made : Result (List ℕ) Refusal) → w ≡ w0 → WritesText (Err e) before now w w' made → CountsWrites e w0 w'
answer_fault WriteFault before now w0 w w' made same h = h.3 ∙ ap one_more same
answer_fault Memory before now w0 w w' made same h = h.1 ∙ same
answer_fault other before now w0 w w' made same h = h.2 ∙ same

-- those that were answered are not refused
pub none_refused : {X : Type 0} (format : Format) (r : Replica) (text : X → List ℕ) (sqls : List X) (i : ℕ) (d : X) (answer : List ℕ) → i < length sqls
    → (answers_report format r (map text (take i sqls))).1 ≡ None → answered_in format r (text (get_or sqls i d)) ≡ Ok answer → (answers_report format r (map text (take (i + 1) sqls))).1 ≡ None
none_refused {X = X} format r text sqls i d answer below none is =
    ap (λ (front : List X). (answers_report format r (map text front)).1) (take_more sqls i d below)
    ∙ one_more_answered (take i sqls) none
  where
    after : (made : Result (List ℕ) Refusal) (was now : Report) → (text_report made was).1 ≡ None → (was.1 ≡ None → now.1 ≡ None) → (text_report made now).1 ≡ None
    after (Ok t) was now none rest = rest none
    after (Err e) was now none rest = absurd cc

    one_more_answered : (front : List X) → (answers_report format r (map text front)).1 ≡ None → (answers_report format r (map text (front ++ get_or sqls i d ∷ []))).1 ≡ None
    one_more_answered [] none = ap (λ (m : Result (List ℕ) Refusal). (text_report m no_report).1) is
    one_more_answered (x ∷ xs) none = after (answered_in format r (text x)) (answers_report format r (map text xs)) (answers_report format r (map text (xs ++ get_or sqls i d ∷ []))) none (one_more_answered xs)
