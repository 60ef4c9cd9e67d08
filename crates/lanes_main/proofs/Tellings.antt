-- What was told so far, told further by each chunk that is read, answered and written.
use Rattle.std.specs.Prelude.{◌≡◌, ℕ, ◌+◌, ◌<◌, ◌≤◌, List, [], ◌++◌, length, replicate, Option, Some, None}
use Rattle.std.specs.Io.KnownBytes.{Appends, Consumes, IsAtEnd}
use Rattle.std.proofs.Common.{refl, sym, ap, ◌∙◌, arith, append_assoc, subst, inl, inr}
use Rattle.std.proofs.lemmas.List.{length-append, append-nil, append_cancel_right}
use Rattle.table_model.specs.Counted.{one_more}
use Rattle.table_model.specs.Faults.{AppendsFront, IsWithin, GaveMore, Failed}
use Rattle.table_model.specs.declared.counted.TheConstants.{READ_LIMIT}
use Rattle.table_model.proofs.Written.{appends_both}
use Rattle.cluster_history.specs.Cluster.{ClusterParts}
use Rattle.lanes_main.specs.ReplyText.{reply_text_of}
use Rattle.csv_rows.specs.Line.{line_limit}
use Rattle.lanes_main.specs.Script.{lines_text, after_lines, whole_lines, script_text, text_from}
use Rattle.table_model.specs.Pieces.{pieces}
use Rattle.cluster_history.specs.declared.reply.Reply.TheVariants.{Refused}
use Rattle.table_model.specs.declared.refusal.Refusal.{Refusal}
use Rattle.table_model.specs.declared.refusal.Refusal.TheVariants.{Memory, ReadFault, WriteFault, LineTooLong}
use Rattle.replica_reports.specs.ReadAndWritten.{IsReadAndWritten}
use Rattle.lanes_main.specs.Told.{Sofar, ToldFront, ToldAll, GoesOn, EndsEarly, Reached, IsStopped}
use Rattle.lanes_main.proofs.Feeds.{script_start, long_from}
use Rattle.lanes_main.proofs.WholeLines.{last_line, text_whole}

-- nothing was written
pub appends_none : (known : Option (List ℕ)) → Appends known known []
appends_none None = tt
appends_none (Some xs) = sym (append-nil xs)

-- a script begins with nothing told
pub told_start : (input before : Option (List ℕ)) → Sofar input input before before None [] 0
told_start None before = tt
told_start (Some xs) before = ([], [], refl, refl, appends_none before, λ more. script_start more)

abbrev pub Feeds : Option ClusterParts → List ℕ → List ℕ → List ℕ → Option ClusterParts → List ℕ → Type 0
Feeds cluster part chunk out next rest = (more : List ℕ) → text_from cluster part (chunk ++ more) ≡ out ++ text_from next rest more

-- a chunk was read, answered and written
pub told_more : (input rest rest' before now now' : Option (List ℕ)) (cluster next : Option ClusterParts) (part part' chunk out : List ℕ) (total : ℕ)
    → Sofar input rest before now cluster part total → Consumes rest rest' chunk → Feeds cluster part chunk out next part' → Appends now now' out
    → Sofar input rest' before now' next part' (total + length chunk)
told_more None rest rest' before now now' cluster next part part' chunk out total h consumed fed wrote = tt
told_more (Some xs) None rest' before now now' cluster next part part' chunk out total h consumed fed wrote = absurd h
told_more (Some xs) (Some ys) None before now now' cluster next part part' chunk out total h consumed fed wrote = absurd consumed
told_more (Some xs) (Some ys) (Some zs) before now now' cluster next part part' chunk out total h consumed fed wrote = (
  h.0 ++ chunk,
  h.1 ++ out,
  h.2 ∙ ap (λ (r : List ℕ). h.0 ++ r) consumed ∙ sym (append_assoc h.0 chunk zs),
  omega (arith, length-append h.0 chunk, h.3),
  appends_both before now now' h.1 out h.4 wrote,
  λ more. ap script_text (append_assoc h.0 chunk more) ∙ h.5 (chunk ++ more) ∙ ap (λ (t : List ℕ). h.1 ++ t) (fed more) ∙ sym (append_assoc h.1 out (text_from next part' more)),
)

-- what was told is a front of the text
pub told_front : (input rest before now : Option (List ℕ)) (cluster : Option ClusterParts) (part : List ℕ) (total : ℕ) → Sofar input rest before now cluster part total → ToldFront input before now
told_front None rest before now cluster part total h = tt
told_front (Some xs) None before now cluster part total h = absurd h
told_front (Some xs) (Some ys) before now cluster part total h = (h.1, text_from cluster part ys, ap script_text h.2 ∙ h.5 ys, h.4)

-- a write stopped early, after a chunk was read and answered
told_cut : (input rest rest' before now now' : Option (List ℕ)) (cluster next : Option ClusterParts) (part part' chunk out : List ℕ) (total : ℕ)
    → Sofar input rest before now cluster part total → Consumes rest rest' chunk → Feeds cluster part chunk out next part' → AppendsFront now now' out → ToldFront input before now'
told_cut None rest rest' before now now' cluster next part part' chunk out total h consumed fed wrote = tt
told_cut (Some xs) None rest' before now now' cluster next part part' chunk out total h consumed fed wrote = absurd h
told_cut (Some xs) (Some ys) None before now now' cluster next part part' chunk out total h consumed fed wrote = absurd consumed
told_cut (Some xs) (Some ys) (Some zs) before now now' cluster next part part' chunk out total h consumed fed wrote =
    let rest_text : text_from cluster part ys ≡ out ++ text_from next part' zs = ap (text_from cluster part) consumed ∙ fed zs in (
      h.1 ++ wrote.0,
      wrote.1 ++ text_from next part' zs,
      ap script_text h.2 ∙ h.5 ys ∙ ap (λ (t : List ℕ). h.1 ++ t) (rest_text ∙ ap (λ (t : List ℕ). t ++ text_from next part' zs) wrote.2 ∙ append_assoc wrote.0 wrote.1 (text_from next part' zs)) ∙ sym (append_assoc h.1 wrote.0 (wrote.1 ++ text_from next part' zs)),
      appends_both before now now' h.1 wrote.0 h.4 wrote.3,
    )

-- the text at the end of the input was written in part
pub told_last : (input rest before now now' : Option (List ℕ)) (cluster : Option ClusterParts) (part out : List ℕ) (total : ℕ)
    → Sofar input rest before now cluster part total → IsAtEnd rest → out ≡ text_from cluster part [] → AppendsFront now now' out → ToldFront input before now'
told_last None rest before now now' cluster part out total h end is wrote = tt
told_last (Some xs) None before now now' cluster part out total h end is wrote = absurd h
told_last (Some xs) (Some ys) before now now' cluster part out total h end is wrote =
    let text : script_text xs ≡ h.1 ++ out = ap script_text h.2 ∙ h.5 ys ∙ ap (λ (r : List ℕ). h.1 ++ text_from cluster part r) end ∙ ap (λ (t : List ℕ). h.1 ++ t) (sym is) in (
      h.1 ++ wrote.0,
      wrote.1,
      text ∙ ap (λ (t : List ℕ). h.1 ++ t) wrote.2 ∙ sym (append_assoc h.1 wrote.0 wrote.1),
      appends_both before now now' h.1 wrote.0 h.4 wrote.3,
    )

-- what a session was fed, in the words of its call
fed_here : (cluster next : Option ClusterParts) (part part' taken chunk none out : List ℕ) → chunk ≡ taken → none ≡ []
    → ((more : List ℕ) → none ++ text_from cluster part (chunk ++ more) ≡ out ++ text_from next part' more) → Feeds cluster part taken out next part'
fed_here cluster next part part' taken chunk none out same empty fed more =
    (λ i. sym empty i ++ text_from cluster part (sym same i ++ more)) ∙ fed more

-- a round is told further
pub round_told : (rest rest' now now' : Option (List ℕ)) (cluster next : Option ClusterParts) (part part' taken chunk none out written : List ℕ) (n : ℕ)
    → Consumes rest rest' taken → chunk ≡ taken → length chunk ≡ n → none ≡ [] → ((more : List ℕ) → none ++ text_from cluster part (chunk ++ more) ≡ out ++ text_from next part' more)
    → written ≡ out → Appends now now' written → GoesOn rest rest' now now' cluster part next part' n
round_told rest rest' now now' cluster next part part' taken chunk none out written n consumed same is_len empty fed is wrote input before total h =
    let P : List ℕ → Type 0 = λ w. Appends now now' w in
    let Q : ℕ → Type 0 = λ k. Sofar input rest' before now' next part' (total + k) in
    subst Q (sym (ap length same) ∙ is_len) (told_more input rest rest' before now now' cluster next part part' taken out total h consumed (fed_here cluster next part part' taken chunk none out same empty fed) (subst P is wrote))

-- a round whose write stopped early
pub round_early : (rest rest' now now' : Option (List ℕ)) (cluster next : Option ClusterParts) (part part' taken chunk none out written : List ℕ)
    → Consumes rest rest' taken → chunk ≡ taken → none ≡ [] → ((more : List ℕ) → none ++ text_from cluster part (chunk ++ more) ≡ out ++ text_from next part' more)
    → written ≡ out → AppendsFront now now' written → EndsEarly rest now now' cluster part
round_early rest rest' now now' cluster next part part' taken chunk none out written consumed same empty fed is wrote input before total h =
    let P : List ℕ → Type 0 = λ w. AppendsFront now now' w in
    told_cut input rest rest' before now now' cluster next part part' taken out total h consumed (fed_here cluster next part part' taken chunk none out same empty fed) (subst P is wrote)

-- which count rose, seen from where the counts began
pub failed_since : (many : Type 0) (e : Refusal) (r0 r r' w0 w w' : ℕ) → r ≡ r0 → w ≡ w0 → Failed ⊥ e r r' w w' → Failed many e r0 r' w0 w'
failed_since many e r0 r r' w0 w w' same_r same_w h =
    let P : ℕ → Type 0 = λ k. Failed many e k r' w0 w' in
    let Q : ℕ → Type 0 = λ k. Failed many e r r' k w' in
    subst P same_r (subst Q same_w (weaker e h)) where
      weaker : (e : Refusal) → Failed ⊥ e r r' w w' → Failed many e r r' w w'
      weaker Memory h = h
      weaker ReadFault h = (elim h.0 [ inl rose ↦ inl rose | inr none ↦ absurd none.0 ], h.1)
      weaker WriteFault h = h
      weaker other h = h

-- the last part was answered and written at the end of the input
pub told_all : (input rest before now now' : Option (List ℕ)) (cluster : Option ClusterParts) (part out : List ℕ) (total : ℕ)
    → Sofar input rest before now cluster part total → IsAtEnd rest → out ≡ text_from cluster part [] → Appends now now' out → ToldAll input before now'
told_all None rest before now now' cluster part out total h end is wrote = tt
told_all (Some xs) None before now now' cluster part out total h end is wrote = absurd h
told_all (Some xs) (Some ys) before now now' cluster part out total h end is wrote =
    let text : script_text xs ≡ h.1 ++ out = ap script_text h.2 ∙ h.5 ys ∙ ap (λ (r : List ℕ). h.1 ++ text_from cluster part r) end ∙ ap (λ (t : List ℕ). h.1 ++ t) (sym is) in
    let P : List ℕ → Type 0 = λ t. Appends before now' t in
    subst P (sym text) (appends_both before now now' h.1 out h.4 wrote)

-- more was read than a call reads
pub gave_more : (input rest before now : Option (List ℕ)) (cluster : Option ClusterParts) (part : List ℕ) (total : ℕ) → Sofar input rest before now cluster part total → READ_LIMIT < total → GaveMore input rest
gave_more None rest before now cluster part total h past = tt
gave_more (Some xs) None before now cluster part total h past = absurd h
gave_more (Some xs) (Some ys) before now cluster part total h past =
    let lengths : length xs ≡ length h.0 + length ys = ap length h.2 ∙ length-append h.0 ys in omega (arith, h.3)

-- at the end all was read, and it isn't more than a call reads
pub gave_within : (input rest before now : Option (List ℕ)) (cluster : Option ClusterParts) (part : List ℕ) (total : ℕ) → Sofar input rest before now cluster part total → IsAtEnd rest → total ≤ READ_LIMIT → IsWithin input
gave_within None rest before now cluster part total h end within = tt
gave_within (Some xs) None before now cluster part total h end within = absurd h
gave_within (Some xs) (Some ys) before now cluster part total h end within =
    let lengths : length xs ≡ length h.0 + length ys = ap length h.2 ∙ length-append h.0 ys in
    let none : length ys ≡ 0 = ap length end in
    omega (arith, h.3)

-- whatever session it was read into, what was told is the replies to the whole lines: a line past the limit that follows is refused by all alike
pinned : (read done : List ℕ) (cluster : Option ClusterParts) (part : List ℕ) (n : ℕ) → line_limit < n
    → script_text (read ++ replicate n 120) ≡ done ++ text_from cluster part (replicate n 120) → done ≡ lines_text None (whole_lines read)
pinned read done cluster part n past told =
    let refusal : List ℕ = reply_text_of (Refused LineTooLong) in
    append_cancel_right done (lines_text None (whole_lines read)) refusal
    (sym (ap (λ (t : List ℕ). done ++ t) (long_from cluster part n past)) ∙ sym told ∙ text_whole read (replicate n 120)
    ∙ ap (λ (t : List ℕ). lines_text None (whole_lines read) ++ t) (long_from (after_lines None (whole_lines read)) (last_line (pieces 10 read)) n past))

pub told_reached : (input rest before now : Option (List ℕ)) (cluster : Option ClusterParts) (part : List ℕ) (total : ℕ) → Sofar input rest before now cluster part total → Reached input rest before now
told_reached None rest before now cluster part total h = tt
told_reached (Some xs) None before now cluster part total h = absurd h
told_reached (Some xs) (Some ys) before now cluster part total h =
    let P : List ℕ → Type 0 = λ t. Appends before now t in
    (h.0, h.2, subst P (pinned h.0 h.1 cluster part (line_limit + 1) (omega arith) (h.5 (replicate (line_limit + 1) 120))) h.4)

-- ---- how a script is stopped

memory_stops : {D E : Type 0} (remaining : D → Option (List ℕ)) (contents : E → Option (List ℕ)) (reader reader' : D × ℕ) (writer writer' : E × ℕ)
    → ToldFront (remaining reader.0) (contents writer.0) (contents writer'.0) → reader'.1 ≡ reader.1 → writer'.1 ≡ writer.1 → IsStopped remaining contents reader reader' writer writer' Memory
memory_stops remaining contents reader reader' writer writer' front same_reads same_writes = record { front = front; reached = λ is. absurd cc; counts = (same_reads, same_writes) }

-- memory runs out before anything is read
pub stopped_unread : {D E : Type 0} (remaining : D → Option (List ℕ)) (contents : E → Option (List ℕ)) (reader : D × ℕ) (writer : E × ℕ) → IsStopped remaining contents reader reader writer writer Memory
stopped_unread remaining contents reader writer =
    memory_stops remaining contents reader reader writer writer (told_front (remaining reader.0) (remaining reader.0) (contents writer.0) (contents writer.0) None [] 0 (told_start (remaining reader.0) (contents writer.0))) refl refl

-- memory runs out after all was read
pub stopped_lacking : {D E : Type 0} (remaining : D → Option (List ℕ)) (contents : E → Option (List ℕ)) (reader reader' : D × ℕ) (writer writer' : E × ℕ) (e : Refusal) → e ≡ Memory
    → ToldFront (remaining reader.0) (contents writer.0) (contents writer'.0) → IsReadAndWritten remaining reader reader' writer writer' → IsStopped remaining contents reader reader' writer writer' e
stopped_lacking remaining contents reader reader' writer writer' e is front whole =
    let P : Refusal → Type 0 = λ x. IsStopped remaining contents reader reader' writer writer' x in
    subst P (sym is) (memory_stops remaining contents reader reader' writer writer' front whole.read.kept whole.kept)

-- a write fails after all was read
pub stopped_writing : {D E : Type 0} (remaining : D → Option (List ℕ)) (contents : E → Option (List ℕ)) (reader reader' : D × ℕ) (writer between writer' : E × ℕ) (e : Refusal) → (e ≡ WriteFault) × (writer'.1 ≡ one_more between.1)
    → ToldFront (remaining reader.0) (contents writer.0) (contents writer'.0) → IsReadAndWritten remaining reader reader' writer between → IsStopped remaining contents reader reader' writer writer' e
stopped_writing remaining contents reader reader' writer between writer' e fault front whole =
    let P : Refusal → Type 0 = λ x. IsStopped remaining contents reader reader' writer writer' x in
    subst P (sym fault.0) (record { front = front; reached = λ is. absurd cc; counts = (whole.read.kept, fault.1 ∙ ap one_more whole.kept) })
