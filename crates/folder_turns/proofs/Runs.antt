-- How a run goes over the calls that were told.
use Rattle.std.proofs.Common.{◌≡◌, refl, sym, ◌∙◌, ap, subst, ℕ, ◌+◌, ◌<◌, ◌≤◌, Bool, true, false, not, leb, if◌then◌else◌, List, [], ◌∷◌, ◌++◌, length, take, drop, map, get_or, Option, Some, MatchOption, option_map}
use Rattle.std.specs.List.{AllZip}
use Rattle.std.proofs.lemmas.List.{append_assoc, append-nil, take_more, take_all}
use Rattle.folder_model.specs.Call.{Call, can_settle, Made, Wrote, Synced, Linked, Removed, Settled, Locked, Unlocked, Began, Listed, Read, Looked}
use Rattle.folder_model.specs.Parts.{Parts}
use Rattle.folder_model.specs.Turn.{InTurn, AllInTurn}
use Rattle.folder_turns.specs.declared.request.Request.{Request}
use Rattle.folder_turns.specs.declared.request.Request.TheVariants.{Make, Write, Sync, Link, Remove, Settle, Lock, LockShared, ListNames, Unlock, ReadFile}
use Rattle.folder_turns.specs.declared.request.Answer.{Answer}
use Rattle.folder_turns.specs.declared.request.Answer.TheVariants as answers
use Rattle.folder_turns.specs.declared.request.Told.{Told}
use Rattle.folder_turns.specs.Calls.{call_asked, answered, is_done, write_of, fails_to_settle, calls_after}

-- one call more was told
pub told_more : (whole : List ℕ) (ts : List Told) (t : Told) (before : List Call) → calls_after whole (ts ++ t ∷ []) before ≡ answered (call_asked whole t.request) t.answer ++ calls_after whole ts before
told_more whole [] t before = refl
told_more whole (u ∷ ts) t before = told_more whole ts t (answered (call_asked whole u.request) u.answer ++ before)

-- a run has made one call more again
pub made_more : (whole : List ℕ) (ts : List Told) (before : List Call) (k : ℕ) (t : Told) (call : Call) → k < length ts → get_or ts k t ≡ t → call_asked whole t.request ≡ call
    → calls_after whole (take (k + 1) ts) before ≡ answered call t.answer ++ calls_after whole (take k ts) before
made_more whole ts before k t call below is asked =
    ap (λ (l : List Told). calls_after whole l before) (take_more ts k t below ∙ ap (λ (u : Told). take k ts ++ u ∷ []) is)
    ∙ told_more whole (take k ts) t before
    ∙ ap (λ (c : Call). answered c t.answer ++ calls_after whole (take k ts) before) asked

-- it has made all
pub made_all : (whole given : List ℕ) (ts : List Told) (before calls : List Call) (k : ℕ) → whole ≡ given → calls_after whole ts before ≡ calls → length ts ≤ k → calls_after given (take k ts) before ≡ calls
made_all whole given ts before calls k same told above =
    ap (λ (l : List Told). calls_after given l before) (take_all k ts above) ∙ ap (λ (w : List ℕ). calls_after w ts before) (sym same) ∙ told

-- as many copies have the same texts
pub same_texts : {X : Type 0} (f : X → List ℕ) (xs ys : List X) → AllZip (λ x y. f y ≡ f x) xs ys → map f ys ≡ map f xs
same_texts f [] [] all = refl
same_texts f [] (y ∷ ys) all = absurd all
same_texts f (x ∷ xs) [] all = absurd all
same_texts f (x ∷ xs) (y ∷ ys) all = ap (λ (t : List ℕ). t ∷ map f ys) all.0 ∙ ap (λ (l : List (List ℕ)). f x ∷ l) (same_texts f xs ys all.1)

module _ (parts : Parts) where
  -- calls before others in turn are in turn
  pub in_turn_before : (calls earlier : List Call) → AllInTurn parts (calls ++ earlier) → AllInTurn parts earlier
  in_turn_before [] earlier all = all
  in_turn_before (call ∷ calls) earlier all = in_turn_before calls earlier all.1

  wrote_either : (b : Bool) (some all : List ℕ) (h : List Call) → InTurn parts h (Wrote all false) → InTurn parts h (if b then Wrote some true else Wrote all false)
  wrote_either true some all h turn = turn
  wrote_either false some all h turn = turn

  -- a call that is in turn is so whatever comes of it
  wrote_whatever : (bytes : List ℕ) (h : List Call) (answer : Answer) → InTurn parts h (Wrote bytes false) → InTurn parts h (write_of bytes answer)
  wrote_whatever bytes h (answers.Wrote count) turn = wrote_either (leb count (length bytes)) (take count bytes) bytes h turn
  wrote_whatever bytes h answers.Failed turn = turn
  wrote_whatever bytes h (answers.FailedBy code) turn = turn
  wrote_whatever bytes h answers.Done turn = turn
  wrote_whatever bytes h answers.Taken turn = turn
  wrote_whatever bytes h (answers.Listed names) turn = turn
  wrote_whatever bytes h answers.Missing turn = turn
  wrote_whatever bytes h (answers.Found found) turn = turn
  wrote_whatever bytes h (answers.Noted note) turn = turn

  settled_whatever : (b : Bool) (h : List Call) → can_settle h ≡ true → InTurn parts h (Settled b)
  settled_whatever true h can = can
  settled_whatever false h can = tt

  pub whatever : (call : Call) (h : List Call) (answer : Answer) → can_settle h ≡ true → AllInTurn parts (answered call answers.Failed ++ h) → AllInTurn parts (answered call answer ++ h)
  whatever (Made name ok) h answer can all = all
  whatever (Wrote bytes ok) h answer can all = (wrote_whatever bytes h answer all.0, all.1)
  whatever (Synced ok) h answer can all = all
  whatever (Linked from to ok) h answer can all = all
  whatever (Removed name ok) h answer can all = all
  whatever (Settled ok) h answer can all = (settled_whatever (is_done answer) h can, all.1)
  whatever (Locked kind ok) h answer can all = all
  whatever Unlocked h answer can all = all
  whatever Began h answer can all = all
  whatever (Listed names) h answer can all = all
  whatever (Read name ok) h answer can all = all
  whatever (Looked name ok) h answer can all = all

  -- what is asked for is in turn
  pub asked_in_turn : (whole : List ℕ) (request : Request) (h : List Call) → AllInTurn parts (answered (call_asked whole request) answers.Failed ++ h) → InTurn parts h (call_asked whole request)
  asked_in_turn whole (Make name) h all = all.0
  asked_in_turn whole (Write from) h all = all.0
  asked_in_turn whole Sync h all = tt
  asked_in_turn whole (Link from to) h all = all.0
  asked_in_turn whole (Remove name) h all = all.0
  asked_in_turn whole Settle h all = tt
  asked_in_turn whole Lock h all = tt
  asked_in_turn whole LockShared h all = tt
  asked_in_turn whole ListNames h all = all.1.0
  asked_in_turn whole Unlock h all = tt
  asked_in_turn whole (ReadFile name) h all = tt

  -- and told
  pub told_in_turn : (whole : List ℕ) (ts : List Told) (before : List Call) (request : Request) (answer : Answer)
      → AllInTurn parts (answered (call_asked whole request) answer ++ calls_after whole ts before) → AllInTurn parts (calls_after whole (ts ++ record { request = request; answer = answer } ∷ []) before)
  told_in_turn whole ts before request answer all =
      subst (λ (l : List Call). AllInTurn parts l) (sym (told_more whole ts (record { request = request; answer = answer }) before)) all

-- the calls told come after those before
pub after_all : (whole : List ℕ) (ts : List Told) (before : List Call) → calls_after whole ts before ≡ calls_after whole ts [] ++ before
after_all whole [] before = refl
after_all whole (t ∷ ts) before = let one = answered (call_asked whole t.request) t.answer in
    after_all whole ts (one ++ before)
    ∙ sym (append_assoc (calls_after whole ts []) one before)
    ∙ ap (λ (l : List Call). l ++ before) (sym (after_all whole ts one) ∙ ap (λ (l : List Call). calls_after whole ts l) (sym (append-nil one)))

-- one call more was told, which was asked for
pub told_asked : (whole : List ℕ) (ts items : List Told) (asked : Option Request) (request : Request) (answer : Answer)
    → asked ≡ Some request → items ≡ ts ++ record { request = request; answer = answer } ∷ []
    → MatchOption (option_map (call_asked whole) asked) (calls_after whole items [] ≡ calls_after whole ts []) (λ call. calls_after whole items [] ≡ answered call answer ++ calls_after whole ts [])
told_asked whole ts items asked request answer is grown =
    let P : Option Request → Type 0 = λ some. MatchOption (option_map (call_asked whole) some) (calls_after whole items [] ≡ calls_after whole ts []) (λ call. calls_after whole items [] ≡ answered call answer ++ calls_after whole ts []) in
    subst P (sym is) (ap (λ (l : List Told). calls_after whole l []) grown ∙ told_more whole ts (record { request = request; answer = answer }) [])

-- what holds of all calls holds of those told, after those before
pub holds_after : (P : List ℕ → List Call → Type 0) (w whole : List ℕ) (us ts : List Told) (before : List Call) → w ≡ whole → us ≡ ts → P w (calls_after w us before) → P whole (calls_after whole ts [] ++ before)
holds_after P w whole us ts before same_whole same_told holds =
    subst (λ (v : List ℕ). P v (calls_after v ts [] ++ before)) same_whole
    (subst (λ (vs : List Told). P w (calls_after w vs [] ++ before)) same_told (subst (P w) (after_all w us before) holds))

-- ---- whether the folder may be synced

-- what is so of all calls is so of those before
can_before : (call : Call) (h : List Call) → can_settle (call ∷ h) ≡ true → can_settle h ≡ true
can_before (Settled true) h can = can
can_before (Settled false) h can = cc
can_before (Made name ok) h can = can
can_before (Wrote bytes ok) h can = can
can_before (Synced ok) h can = can
can_before (Linked from to answer) h can = can
can_before (Removed name ok) h can = can
can_before (Locked kind ok) h can = can
can_before Unlocked h can = can
can_before Began h can = can
can_before (Listed names) h can = can
can_before (Read name answer) h can = can
can_before (Looked name ok) h can = can

can_earlier : (calls h : List Call) → can_settle (calls ++ h) ≡ true → can_settle h ≡ true
can_earlier [] h can = can
can_earlier (call ∷ calls) h can = can_earlier calls h (can_before call (calls ++ h) can)

pub can_first : (whole : List ℕ) (ts : List Told) (before : List Call) → can_settle (calls_after whole ts before) ≡ true → can_settle before ≡ true
can_first whole ts before can = can_earlier (calls_after whole ts []) before (subst (λ (l : List Call). can_settle l ≡ true) (after_all whole ts before) can)

-- the calls before, if the folder may be synced after them; else none
abbrev pub started : List Call → List Call
started before = if can_settle before then before else []

pub started_can : (before : List Call) → can_settle (started before) ≡ true
started_can before = by (can_settle before) refl
  where
    by : (b : Bool) → can_settle before ≡ b → can_settle (if b then before else []) ≡ true
    by true is = is
    by false is = refl

pub started_is : (before : List Call) → can_settle before ≡ true → started before ≡ before
started_is before can = ap (λ (b : Bool). if b then before else []) can

-- a call that was told and is no sync of the folder that failed
wrote_can : (bytes : List ℕ) (answer : Answer) (h : List Call) → can_settle h ≡ true → can_settle (write_of bytes answer ∷ h) ≡ true
wrote_can bytes (answers.Wrote count) h can = by (leb count (length bytes))
  where
    by : (b : Bool) → can_settle ((if b then Wrote (take count bytes) true else Wrote bytes false) ∷ h) ≡ true
    by true = can
    by false = can
wrote_can bytes answers.Failed h can = can
wrote_can bytes (answers.FailedBy code) h can = can
wrote_can bytes answers.Done h can = can
wrote_can bytes answers.Taken h can = can
wrote_can bytes (answers.Listed names) h can = can
wrote_can bytes answers.Missing h can = can
wrote_can bytes (answers.Found found) h can = can
wrote_can bytes (answers.Noted note) h can = can

settled_can : (done : Bool) (h : List Call) → not done ≡ false → can_settle h ≡ true → can_settle (Settled done ∷ h) ≡ true
settled_can true h done can = can
settled_can false h done can = cc

pub told_can : (whole : List ℕ) (request : Request) (answer : Answer) (h : List Call) → fails_to_settle request answer ≡ false → can_settle h ≡ true → can_settle (answered (call_asked whole request) answer ++ h) ≡ true
told_can whole (Make name) answer h done can = can
told_can whole (Write from) answer h done can = wrote_can (drop from whole) answer h can
told_can whole Sync answer h done can = can
told_can whole (Link from to) answer h done can = can
told_can whole (Remove name) answer h done can = can
told_can whole Settle answer h done can = settled_can (is_done answer) h done can
told_can whole Lock answer h done can = can
told_can whole LockShared answer h done can = can
told_can whole ListNames answer h done can = can
told_can whole Unlock answer h done can = can
told_can whole (ReadFile name) answer h done can = can

-- one more of those told is none
pub can_more : (whole : List ℕ) (ts : List Told) (before : List Call) (k : ℕ) (t : Told) → k < length ts → get_or ts k t ≡ t → fails_to_settle t.request t.answer ≡ false
    → can_settle (calls_after whole (take k ts) before) ≡ true → can_settle (calls_after whole (take (k + 1) ts) before) ≡ true
can_more whole ts before k t below is done can =
    subst (λ (l : List Call). can_settle l ≡ true) (sym (made_more whole ts before k t (call_asked whole t.request) below is refl))
    (told_can whole t.request t.answer (calls_after whole (take k ts) before) done can)
