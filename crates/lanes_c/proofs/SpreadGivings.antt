-- The files of shares, one after another.
use Rattle.std.specs.Prelude.{◌≡◌, ◌⊎◌, ℕ, ◌+◌, ◌≤◌, ◌<◌, List, [], ◌∷◌, ◌++◌, length, map as each, Result, Ok, Err}
use Rattle.std.specs.FinMap as map
use Rattle.std.specs.List.{concat, range_with_len}
use Rattle.std.proofs.Common.{refl, sym, ap, subst, ◌∙◌, arith}
use Rattle.std.proofs.lemmas.List.{append-nil, length-append}
use Rattle.std.proofs.lemmas.List.FromFn.{map-range_with_len_more}
use Rattle.table_model.specs.declared.names.BatchName.{BatchName}
use Rattle.column_file.specs.Files.{canonical_file}
use Rattle.replica_store.specs.Replica.{Replica}
use Rattle.table_spread.specs.Spread.{share_of}
use Rattle.lanes_c.specs.PartialAnswers.{IsSpelled}
use Rattle.lanes_c.specs.Queries.{ends_from}
use Rattle.lanes_c.specs.Rooms.{filled}
use Rattle.lanes_c.specs.Spreading.{AreJoined, AreShares, Spreads, share_files}
use Rattle.lanes_c.proofs.QueryRuns.{concat_more, ends_more}

-- one piece more
pub joined_more : (more : List (List ℕ)) (piece bytes ends bytes' ends' : List ℕ) → AreJoined more bytes ends → bytes' ≡ bytes ++ piece → ends' ≡ ends ++ length bytes' ∷ [] → AreJoined (more ++ piece ∷ []) bytes' ends'
joined_more more piece bytes ends bytes' ends' so joined ended =
    let whole : bytes' ≡ concat (more ++ piece ∷ []) = joined ∙ ap (λ (b : List ℕ). b ++ piece) so.0 ∙ sym (concat_more more piece) in
    let same : length bytes' ≡ length (concat (more ++ piece ∷ [])) = ap (λ (b : List ℕ). length b) whole in
    let end : length bytes' ≡ 0 + length (concat (more ++ piece ∷ [])) = omega arith in
    (whole, ended ∙ ap (λ (e : List ℕ). e ++ length bytes' ∷ []) so.1 ∙ ap (λ (e : ℕ). ends_from 0 more ++ e ∷ []) end ∙ sym (ends_more 0 more piece))

-- the file of the next share
pub next_share : (firsts : List BatchName) (r : Replica) (index : ℕ) (file slice bytes ends bytes' ends' : List ℕ) → AreJoined (share_files firsts r index) bytes ends
    → IsSpelled (Ok file) (canonical_file r.schema (share_of firsts index r.state)) → slice ≡ file → bytes' ≡ bytes ++ slice → ends' ≡ ends ++ length bytes' ∷ [] → AreJoined (share_files firsts r (index + 1)) bytes' ends'
next_share firsts r index file slice bytes ends bytes' ends' so is same joined ended =
    let of_share : ℕ → List ℕ = λ n. canonical_file r.schema (share_of firsts n r.state) in
    let more : share_files firsts r (index + 1) ≡ share_files firsts r index ++ of_share index ∷ [] = map-range_with_len_more of_share 0 index index (omega arith) in
    subst (λ (m : List (List ℕ)). AreJoined m bytes' ends') (sym more)
    (joined_more (share_files firsts r index) (of_share index) bytes ends bytes' ends' so (joined ∙ ap (λ (f : List ℕ). bytes ++ f) (same ∙ is)) ended)

-- no shares
pub no_shares : (r : Replica) (bytes was : List ℕ) → bytes ≡ [] → length was ≡ 0 → Spreads (Ok bytes) r was was
no_shares r bytes [] empty none = ([], record { firsts = []; few = λ some. absurd (omega arith); full = λ some. absurd (omega arith); joined = (empty, refl) }, refl)
no_shares r bytes (end ∷ ends) empty none = absurd (omega arith)

-- as many as there is room for
pub shares_given : (firsts : List BatchName) (r : Replica) (shares : ℕ) (bytes ends slice was is : List ℕ) → shares ≡ length was → length firsts < shares → (shares ≤ map.len r.state.batches → length firsts + 1 ≡ shares)
    → AreJoined (share_files firsts r shares) bytes ends → slice ≡ ends → is ≡ filled slice was → Spreads (Ok bytes) r was is
shares_given firsts r shares bytes ends slice was is many few full joined same put =
    let P : ℕ → Type 0 = λ n. AreShares r n bytes ends in
    (ends, subst P many (record { firsts = firsts; few = λ some. few; full = λ some. full; joined = joined }), put ∙ ap (λ (e : List ℕ). filled e was) same)
