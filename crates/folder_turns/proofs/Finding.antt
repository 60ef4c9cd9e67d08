-- What is noted of a read whose bytes are not given.
use Rattle.std.proofs.Common.{◌≡◌, ◌∙◌, ap, ℕ, Bool, true, false, List, ◌∷◌, Option, Some, None, MatchOption, Result, Ok, Err, MatchResult, Bor}
use Rattle.std.specs.Result.{is_ok}
use Rattle.folder_model.specs.Call.{Call, Read}
use Rattle.folder_protocol.specs.Finding.{NotesRead}
use Rattle.folder_turns.specs.Calls.{FoundIs, found_of}
use Rattle.folder_turns.specs.declared.request.Answer.{Answer}

-- a read that was told
notes : (name : List ℕ) (there : Bool) (given : Option (Option (List ℕ))) (old new : List Call) → new ≡ Read name given ∷ old → FoundIs there given → NotesRead name there old new
notes name true given old new is (bytes, found) = (bytes, is ∙ ap (λ (o : Option (Option (List ℕ))). Read name o ∷ old) found)
notes name false given old new is found = is ∙ ap (λ (o : Option (Option (List ℕ))). Read name o ∷ old) found

-- whatever is told of it
pub notes_read : {E : Type 0} (answer : Option (Bor Answer)) (result : Result Bool E) (name : List ℕ) (old new : List Call)
    → MatchOption answer (is_ok result ≡ false) (λ told. MatchResult result (λ there. FoundIs there (found_of told.now)) (λ _. found_of told.now ≡ None))
    → MatchOption answer (new ≡ Read name None ∷ old) (λ told. new ≡ Read name (found_of told.now) ∷ old)
    → MatchResult result (λ there. NotesRead name there old new) (λ _. new ≡ Read name None ∷ old)
notes_read None (Ok there) name old new gave is = cc
notes_read None (Err error) name old new gave is = is
notes_read (Some told) (Ok there) name old new gave is = notes name there (found_of told.now) old new is gave
notes_read (Some told) (Err error) name old new gave is = is ∙ ap (λ (o : Option (Option (List ℕ))). Read name o ∷ old) gave
