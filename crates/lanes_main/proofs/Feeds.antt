-- A chunk is answered line by line: its lines come between line feeds, and a line past the limit is too long however long it is.
use Rattle.std.specs.Prelude.{◌≡◌, ◌⊎◌, ℕ, zero, suc, replicate, ◌+◌, ◌-◌, ◌<◌, ◌≤◌, Bool, true, false, cond, ◌==◌, nat_lt, List, [], ◌∷◌, ◌++◌, length, take, drop, Option, Some, None, option_map, position}
use Rattle.std.specs.List.{position_or_len}
use Rattle.std.proofs.Common.{refl, sym, ap, ◌∙◌, arith, inl, inr, append_assoc}
use Rattle.std.proofs.lemmas.Bool.Decides.{nat_tests}
use Rattle.std.proofs.lemmas.Bool.{cases_lt}
use Rattle.std.proofs.lemmas.Option.{some_pair_parts}
use Rattle.std.proofs.lemmas.List.{take_all, length-append, length-replicate, append-nil}
use Rattle.std.proofs.Math.ListN.{length-take}
use Rattle.table_model.specs.declared.refusal.Refusal.TheVariants.{LineTooLong}
use Rattle.cluster_history.specs.Cluster.{ClusterParts}
use Rattle.lanes_main.specs.ReplyText.{reply_text_of}
use Rattle.script_lines.specs.Word.{cut, longer}
use Rattle.table_model.specs.Pieces.{pieces, onto_first}
use Rattle.script_lines.specs.Line.{command_of}
use Rattle.csv_rows.specs.Line.{line_limit}
use Rattle.replica_reports.specs.QueryLines.{grown}
use Rattle.lanes_main.specs.Script.{line_answer, command_answer, line_text, after_line, lines_text, onto_line, script_text, text_from}
use Rattle.cluster_history.specs.declared.reply.Reply.{Reply}
use Rattle.cluster_history.specs.declared.reply.Reply.TheVariants.{Refused}
use Rattle.script_lines.proofs.Cuts.{is, cut_none, cut_some, pieces_at, pieces_cut}

-- the place of the first line feed is where the bytes are cut
pub position_none : (bs : List ℕ) → None ≡ position (λ b. b == 10) bs → None ≡ cut 10 bs
position_none bs none = sym (cut_none 10 bs (past (nat_lt (position_or_len (is 10) bs) (length bs)) refl none)) where
  past : (t : Bool) → nat_lt (position_or_len (is 10) bs) (length bs) ≡ t → None ≡ cond t (Some (position_or_len (is 10) bs)) None → length bs ≤ position_or_len (is 10) bs
  past true e h = cc
  past false e h = grind (arith, nat_tests)

pub position_some : (bs : List ℕ) (i : ℕ) → Some i ≡ position (λ b. b == 10) bs → (i < length bs) × (Some (take i bs, drop (i + 1) bs) ≡ cut 10 bs)
position_some bs i some = at (nat_lt (position_or_len (is 10) bs) (length bs)) refl some where
  at : (t : Bool) → nat_lt (position_or_len (is 10) bs) (length bs) ≡ t → Some i ≡ cond t (Some (position_or_len (is 10) bs)) None → (i < length bs) × (Some (take i bs, drop (i + 1) bs) ≡ cut 10 bs)
  at true e h =
      let below : position_or_len (is 10) bs < length bs = grind (arith, nat_tests) in
      let same : i ≡ position_or_len (is 10) bs = cc in
      (omega arith, ap (λ (k : ℕ). let parts : List ℕ × List ℕ = (take k bs, drop (k + 1) bs) in Some parts) same ∙ sym (cut_some 10 bs below))
  at false e h = cc

-- a line past the limit
abbrev Long : List ℕ → Type 0
Long line = line_limit < length line

long_answer : (cluster : Option ClusterParts) (line : List ℕ) → Long line → line_answer cluster line ≡ (Refused LineTooLong, cluster)
unfolding line_answer
long_answer cluster line long =
    let test : nat_lt line_limit (length line) ≡ true = grind (arith, nat_tests) in
    ap (λ (t : Bool). cond t (let parts : Reply × Option ClusterParts = (Refused LineTooLong, cluster) in parts) (command_answer cluster (command_of line))) test

long_text : (cluster : Option ClusterParts) (line : List ℕ) → Long line → (line_text cluster line ≡ reply_text_of (Refused LineTooLong)) × (after_line cluster line ≡ cluster)
long_text cluster [] long = absurd (omega arith)
long_text cluster (c ∷ cs) long =
    let answer = long_answer cluster (c ∷ cs) long in
    (ap (λ (p : Reply × Option ClusterParts). reply_text_of p.0) answer, ap (λ (p : Reply × Option ClusterParts). p.1) answer)

-- two lines that are one, or are both past the limit, are answered alike
same_lines : (cluster : Option ClusterParts) (a b : List ℕ) (lines : List (List ℕ)) → (a ≡ b) ⊎ (Long a × Long b) → lines_text cluster (a ∷ lines) ≡ lines_text cluster (b ∷ lines)
same_lines cluster a b lines (inl same) = ap (λ (line : List ℕ). lines_text cluster (line ∷ lines)) same
same_lines cluster a b lines (inr long) =
    let at_a = long_text cluster a long.0 in
    let at_b = long_text cluster b long.1 in
    (λ i. (at_a.0 ∙ sym at_b.0) i ++ lines_text ((at_a.1 ∙ sym at_b.1) i) lines)

grown_same : (part more : List ℕ) → (grown part more ≡ part ++ more) ⊎ (Long (grown part more) × Long (part ++ more))
grown_same part more = elim (cases_lt (line_limit + 1 - length part) (length more)) [
  | inl past ↦
      let taken : length (take (line_limit + 1 - length part) more) ≡ line_limit + 1 - length part = length-taken (line_limit + 1 - length part) more (omega arith) in
      inr (omega (arith, length-append part (take (line_limit + 1 - length part) more)), omega (arith, length-append part more))
  | inr fits ↦ inl (ap (λ (m : List ℕ). part ++ m) (take_all (line_limit + 1 - length part) more fits))
] where
  length-taken : (n : ℕ) (xs : List ℕ) → n ≤ length xs → length (take n xs) ≡ n
  length-taken n xs h = omega (arith, length-take n xs)

longer_same : (a b rest : List ℕ) → (a ≡ b) ⊎ (Long a × Long b) → (a ++ rest ≡ b ++ rest) ⊎ (Long (a ++ rest) × Long (b ++ rest))
longer_same a b rest (inl same) = inl (ap (λ (x : List ℕ). x ++ rest) same)
longer_same a b rest (inr long) = inr (omega (arith, long.0, length-append a rest), omega (arith, long.1, length-append b rest))

-- the lines of a text that is cut
cut_more : (bs rest piece after : List ℕ) → Some (piece, after) ≡ cut 10 bs → cut 10 (bs ++ rest) ≡ Some (piece, after ++ rest)
cut_more [] rest piece after e = cc
cut_more (b ∷ bs) rest piece after e =
    elim (b == 10) as (λ t. Some (piece, after) ≡ cond t (Some ([], bs)) (option_map (longer b) (cut 10 bs)) → cond t (Some ([], bs ++ rest)) (option_map (longer b) (cut 10 (bs ++ rest))) ≡ Some (piece, after ++ rest)) [
      | true ↦ λ h. let both = some_pair_parts piece [] after bs h in (λ i. let parts : List ℕ × List ℕ = (sym both.0 i, sym both.1 i ++ rest) in Some parts)
      | false ↦ λ h. within (λ p a. cut_more bs rest p a) (cut 10 bs) refl h
    ] e where
      within : ((p a : List ℕ) → Some (p, a) ≡ cut 10 bs → cut 10 (bs ++ rest) ≡ Some (p, a ++ rest)) → (o : Option (List ℕ × List ℕ)) → cut 10 bs ≡ o → Some (piece, after) ≡ option_map (longer b) o → option_map (longer b) (cut 10 (bs ++ rest)) ≡ Some (piece, after ++ rest)
      within more None is h = cc
      within more (Some parts) is h =
          let both = some_pair_parts piece (b ∷ parts.0) after parts.1 h in
          ap (option_map (longer b)) (more parts.0 parts.1 (sym is)) ∙ (λ i. let ps : List ℕ × List ℕ = (sym both.0 i, sym both.1 i ++ rest) in Some ps)

pub first_line : (bs : List ℕ) → (p : List ℕ) × (ps : List (List ℕ)) × (pieces 10 bs ≡ p ∷ ps)
first_line bs = shape (cut 10 bs) (pieces_cut 10 bs) where
  shape : (o : Option (List ℕ × List ℕ)) → pieces 10 bs ≡ pieces_at 10 bs o → (p : List ℕ) × (ps : List (List ℕ)) × (pieces 10 bs ≡ p ∷ ps)
  shape None e = (bs, [], e)
  shape (Some parts) e = (parts.0, pieces 10 parts.1, e)

pub onto_nothing : (bs : List ℕ) → onto_line [] (pieces 10 bs) ≡ pieces 10 bs
onto_nothing bs = let p = first_line bs in ap (onto_line []) p.2 ∙ sym p.2

-- what there is to come at the start of a script is its text
pub script_start : (bs : List ℕ) → script_text bs ≡ text_from None [] bs
unfolding script_text text_from
script_start bs = ap (lines_text None) (sym (onto_nothing bs))

pieces_uncut : (bs rest : List ℕ) → None ≡ cut 10 bs → pieces 10 (bs ++ rest) ≡ onto_line bs (pieces 10 rest)
pieces_uncut [] rest e = sym (onto_nothing rest)
pieces_uncut (b ∷ bs) rest e =
    elim (b == 10) as (λ t. None ≡ cond t (Some ([], bs)) (option_map (longer b) (cut 10 bs)) → cond t ([] ∷ pieces 10 (bs ++ rest)) (onto_first b (pieces 10 (bs ++ rest))) ≡ onto_line (b ∷ bs) (pieces 10 rest)) [
      | true ↦ λ h. cc
      | false ↦ λ h. ap (onto_first b) (pieces_uncut bs rest (none (cut 10 bs) h)) ∙ onto (pieces 10 rest)
    ] e where
      none : (o : Option (List ℕ × List ℕ)) → None ≡ option_map (longer b) o → None ≡ o
      none None h = refl
      none (Some parts) h = cc

      onto : (ps : List (List ℕ)) → onto_first b (onto_line bs ps) ≡ onto_line (b ∷ bs) ps
      onto [] = refl
      onto (p ∷ ps) = refl

-- a line feed ends the line, and the text goes on after it
pub text_line : (cluster : Option ClusterParts) (part left piece after more : List ℕ) → Some (piece, after) ≡ cut 10 left
    → text_from cluster part (left ++ more) ≡ line_text cluster (grown part piece) ++ text_from (after_line cluster (grown part piece)) [] (after ++ more)
unfolding text_from
text_line cluster part left piece after more at =
    ap (λ (ps : List (List ℕ)). lines_text cluster (onto_line part ps)) (pieces_cut 10 (left ++ more) ∙ ap (pieces_at 10 (left ++ more)) (cut_more left more piece after at))
    ∙ sym (same_lines cluster (grown part piece) (part ++ piece) (pieces 10 (after ++ more)) (grown_same part piece))
    ∙ ap (λ (ps : List (List ℕ)). line_text cluster (grown part piece) ++ lines_text (after_line cluster (grown part piece)) ps) (sym (onto_nothing (after ++ more)))

-- without a line feed the part grows
pub text_part : (cluster : Option ClusterParts) (part left more : List ℕ) → None ≡ cut 10 left → text_from cluster part (left ++ more) ≡ text_from cluster (grown part left) more
unfolding text_from
text_part cluster part left more none =
    let p = first_line more in
    ap (λ (ps : List (List ℕ)). lines_text cluster (onto_line part ps)) (pieces_uncut left more none ∙ ap (onto_line left) p.2)
    ∙ ap (λ (line : List ℕ). lines_text cluster (line ∷ p.1)) (sym (append_assoc part left p.0))
    ∙ sym (same_lines cluster (grown part left ++ p.0) ((part ++ left) ++ p.0) p.1 (longer_same (grown part left) (part ++ left) p.0 (grown_same part left)))
    ∙ ap (λ (ps : List (List ℕ)). lines_text cluster (onto_line (grown part left) ps)) (sym p.2)

-- at the end the part is the last line
pub text_end : (cluster : Option ClusterParts) (part : List ℕ) → text_from cluster part [] ≡ line_text cluster part
unfolding text_from
text_end cluster part = append-nil (line_text cluster (part ++ [])) ∙ ap (line_text cluster) (append-nil part)

-- a line was answered and written
pub fed_line : (out new : List ℕ) (cluster next : Option ClusterParts) (part rest left piece after : List ℕ) → Some (piece, after) ≡ cut 10 left
    → new ≡ out ++ line_text cluster (grown part piece) → next ≡ after_line cluster (grown part piece) → rest ≡ [] → (more : List ℕ)
    → out ++ text_from cluster part (left ++ more) ≡ new ++ text_from next rest (after ++ more)
fed_line out new cluster next part rest left piece after at text goes empty more =
    ap (λ (t : List ℕ). out ++ t) (text_line cluster part left piece after more at)
    ∙ sym (append_assoc out (line_text cluster (grown part piece)) (text_from (after_line cluster (grown part piece)) [] (after ++ more)))
    ∙ (λ i. sym text i ++ text_from (sym goes i) (sym empty i) (after ++ more))

-- the rest of a chunk has no line feed, and is kept
pub fed_part : (out : List ℕ) (cluster : Option ClusterParts) (part left rest : List ℕ) → None ≡ cut 10 left → rest ≡ grown part left → (more : List ℕ)
    → out ++ text_from cluster part (left ++ more) ≡ out ++ text_from cluster rest more
fed_part out cluster part left rest none kept more =
    ap (λ (t : List ℕ). out ++ t) (text_part cluster part left more none) ∙ ap (λ (p : List ℕ). out ++ text_from cluster p more) (sym kept)

pieces_none : (n : ℕ) → pieces 10 (replicate n 120) ≡ replicate n 120 ∷ []
pieces_none zero = refl
pieces_none (suc n) = ap (onto_first 120) (pieces_none n)

-- a line past the limit is refused, whatever came before it
pub long_from : (cluster : Option ClusterParts) (part : List ℕ) (n : ℕ) → line_limit < n → text_from cluster part (replicate n 120) ≡ reply_text_of (Refused LineTooLong)
unfolding text_from
long_from cluster part n past =
    let line : List ℕ = part ++ replicate n 120 in
    let long : Long line = omega (arith, length-append part (replicate n 120), length-replicate {A = ℕ} n 120) in
    ap (λ (ps : List (List ℕ)). lines_text cluster (onto_line part ps)) (pieces_none n)
    ∙ append-nil (line_text cluster line)
    ∙ (long_text cluster line long).0
