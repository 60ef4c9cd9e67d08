-- Folders in which batches were forgotten: their join is what is left of the state of all that their parts represent.
use Rattle.std.specs.Prelude.{◌≡◌, ◌≢◌, ◌⊎◌, ℕ, Bool, true, false, List, [], ◌∷◌, ◌++◌, map as each, Option, Ok}
use Rattle.std.proofs.Common.{sym, ap, subst, ◌∙◌, inl, inr, append_assoc}
use Rattle.table_model.specs.Operation.{Operation, Insert, Among, AreAgreeing, SameOperations, state_of}
use Rattle.table_model.specs.State.{live_rows}
use Rattle.table_model.specs.Table.{Table}
use Rattle.table_model.proofs.Operations.{state_of-same}
use Rattle.replica_store.specs.Forgotten.{forgotten}
use Rattle.replica_store.proofs.Rests.{forgets_all}
use Rattle.replica_store.specs.Replica.{Replica}
use Rattle.store_view.specs.Asked.{query_answer}
use Rattle.replica_changes.specs.Commands.{file_of, merged_files, Puts}
use Rattle.replica_changes.specs.FileLaws.{EachHolds, all_of}
use Rattle.replica_changes.specs.ForgetFileLaws.{StandsFor, EachStandsFor}
use Rattle.replica_changes.specs.Forgetting.{forgetting}
use Rattle.replica_changes.proofs.FileLaws.{file_laws_hold}
use Rattle.replica_changes.proofs.ForgetFiles.{Rests, stands_is, stands_then, files-rest, forgotten-rests, rests-mean, forgotten-alike, forget_file_laws_hold}
use Rattle.folder_parts.specs.FolderLaws.{Joins, folder_operations, IsOneOf}
use Rattle.folder_parts.specs.Folders.{Within, Event, Comes, Goes, Came, IsCoveredThere, AreCoveredThere}
use Rattle.folder_parts.specs.ForgetFolderLaws.{FolderStandsFor, Forgets, AppendsStanding, HeldStands, JoinStands, ForgetStands, SameForgottenFolders, FolderForgetsAsFile, AreAlike, ForgetKeeps, AllCame, IsGiven, IsReplaced, AreReplaced, ForgetsLoseNothing}
use Rattle.folder_parts.specs.Packing.{is_removed}
use Rattle.folder_parts.specs.PartName.{part_name}
use Rattle.folder_parts.proofs.FolderSets.{join_holds, all_of-append, among_either, among_first, among_second, beside_same}
use Rattle.folder_parts.proofs.PackedAway.{not_itself}
use Rattle.folder_parts.proofs.Removals.{nothing_lost_there, there_came}

-- ---- the join of a folder's parts

-- the join of a folder's files is what is left of the state of all that they represent
folder-rests : (first : List ℕ) (others : List (List ℕ)) (table : Table) (ops : List Operation) (sets : List (List Operation)) (whole : Replica) → FolderStandsFor first others table ops sets → merged_files first others ≡ Ok whole
    → Rests table (folder_operations ops sets) whole
folder-rests first others table ops sets whole folder made = files-rest first others table ops sets whole folder.head folder.rest folder.agree made

-- and so is what a forget leaves of it
left-rests : (first : List ℕ) (others : List (List ℕ)) (table : Table) (ops : List Operation) (sets : List (List Operation)) (new : Replica) → FolderStandsFor first others table ops sets → Forgets first others new
    → Rests table (folder_operations ops sets) new
left-rests first others table ops sets new folder forgets =
    forgotten-rests table (folder_operations ops sets) forgets.whole new forgets.dropped (folder-rests first others table ops sets forgets.whole folder forgets.made) forgets.forgot

each_held : (files : List (List ℕ)) (table : Table) (sets : List (List Operation)) → EachHolds files table sets → EachStandsFor files table sets
each_held [] table [] each = tt
each_held [] table (ops ∷ sets) each = absurd each
each_held (file ∷ files) table [] each = absurd each
each_held (file ∷ files) table (ops ∷ sets) each = (forget_file_laws_hold.holds file table ops each.0, each_held files table sets each.1)

pub held_stands : HeldStands
held_stands first others table ops sets new folder joins = record {
  head = forget_file_laws_hold.holds first table ops folder.head;
  rest = each_held others table sets folder.rest;
  agree = (join_holds file_laws_hold first others table ops sets new folder joins).agree;
}

pub join_stands : JoinStands
join_stands first others table ops sets new folder joins =
    forget_file_laws_hold.merge first others table ops sets new folder.head folder.rest folder.agree joins.made joins.read

pub forget_stands : ForgetStands
forget_stands first others table ops sets new folder forgets =
    stands_then table (folder_operations ops sets) new (left-rests first others table ops sets new folder forgets) folder.agree forgets.read

pub same_forgotten : SameForgottenFolders
same_forgotten first second others more table ops others_ops sets more_sets one two a b fa fb same =
    forgotten-alike table (folder_operations ops sets) (folder_operations others_ops more_sets) fa.whole fb.whole one two fa.dropped fb.dropped
    (folder-rests first others table ops sets fa.whole a fa.made) (folder-rests second more table others_ops more_sets fb.whole b fb.made) a.agree same fa.forgot fb.forgot

pub forgets_as_file : FolderForgetsAsFile
forgets_as_file first others file table ops file_ops sets one held left dropped folder forgets stands read made same =
    forgotten-alike table (folder_operations ops sets) file_ops forgets.whole held one left forgets.dropped dropped
    (folder-rests first others table ops sets forgets.whole folder forgets.made) (stands_is file table file_ops held stands read) folder.agree same forgets.forgot made

-- what is written where a batch was dropped
pub forget_appends : (first : List ℕ) (others : List (List ℕ)) (table : Table) (ops : List Operation) (sets : List (List Operation)) (whole part : Replica) (dropped : ℕ × ℕ) (some : Bool) (before now : Option (List ℕ)) (done : Unit {0})
    → FolderStandsFor first others table ops sets → merged_files first others ≡ Ok whole → forgetting whole ≡ Ok (dropped, part) → Puts some (Ok done) before now part → some ≡ true
    → AppendsStanding before now table (folder_operations ops sets)
forget_appends first others table ops sets whole part dropped false before now done folder made forgot put is = cc
forget_appends first others table ops sets whole part dropped true before now done folder made forgot put is =
    let forgets : Forgets first others part = record { whole = whole; dropped = dropped; made = made; forgot = forgot; read = put.1 } in
    (file_of part, put.0, forget_stands first others table ops sets part folder forgets)

-- ---- next to other parts

same_agree : (xs ys : List Operation) → SameOperations xs ys → AreAgreeing ys → AreAgreeing xs
same_agree xs ys same agree name a b g h = agree name a b ((same (Insert name a)).0 g) ((same (Insert name b)).0 h)

pub alike : (table : Table) (ops others : List Operation) (one two : Replica) → Rests table ops one → Rests table others two → AreAgreeing ops → SameOperations ops others → AreAlike one two
alike table ops others one two ours theirs agree same =
    let state = state_of-same ops others agree same in
    let mine = rests-mean table ops one ours in
    let yours = rests-mean table others two theirs in
    record {
      rows = mine.rows ∙ ap live_rows state ∙ sym yours.rows;
      answers = λ sql. mine.answers sql ∙ ap (query_answer sql table) state ∙ sym (yours.answers sql);
      left = forgets_all.least one.state (state_of ops) ours.rest ∙ ap forgotten state ∙ sym (forgets_all.least two.state (state_of others) theirs.rest);
    }

each-append : (files more : List (List ℕ)) (table : Table) (sets rest : List (List Operation)) → EachStandsFor files table sets → EachStandsFor more table rest → EachStandsFor (files ++ more) table (sets ++ rest)
each-append [] more table [] rest a b = b
each-append [] more table (ops ∷ sets) rest a b = absurd a
each-append (bytes ∷ files) more table [] rest a b = absurd a
each-append (bytes ∷ files) more table (ops ∷ sets) rest a b = (a.0, each-append files more table sets rest a.1 b)

pub same_self : (xs : List Operation) → SameOperations xs xs
same_self xs op = ((λ h. h), (λ h. h))

pub forget_keeps : ForgetKeeps
forget_keeps first others rest table ops sets rest_sets left before beside after folder each agree forgets made_before made_beside made_after =
    let own : List Operation = folder_operations ops sets in
    let all : List Operation = folder_operations ops (sets ++ rest_sets) in
    let one : all_of rest_sets ++ own ≡ all =
    sym (append_assoc (all_of rest_sets) (all_of sets) ops) ∙ ap (λ (l : List Operation). l ++ ops) (sym (all_of-append sets rest_sets)) in
    let stands : StandsFor (file_of left) table own = forget_stands first others table ops sets left folder forgets in
    let all_agree : AreAgreeing all = subst AreAgreeing one agree in
    let whole : FolderStandsFor first (others ++ rest) table ops (sets ++ rest_sets) = record { head = folder.head; rest = each-append others rest table sets rest_sets folder.rest each; agree = all_agree } in
    let twice : SameOperations (all ++ own) all = beside_same all (all_of rest_sets) own one in
    let next : FolderStandsFor (file_of left) (first ∷ others ++ rest) table own (ops ∷ sets ++ rest_sets) =
    record { head = stands; rest = (folder.head, whole.rest); agree = same_agree (all ++ own) all twice all_agree } in
    let alone : FolderStandsFor (file_of left) rest table own rest_sets = record { head = stands; rest = each; agree = agree } in
    let was : Rests table all before = folder-rests first (others ++ rest) table ops (sets ++ rest_sets) before whole made_before in (
      alike table (all ++ own) all beside before (folder-rests (file_of left) (first ∷ others ++ rest) table own (ops ∷ sets ++ rest_sets) beside next made_beside) was next.agree twice,
      alike table (all_of rest_sets ++ own) all after before (folder-rests (file_of left) rest table own rest_sets after alone made_after) was agree (subst (λ (l : List Operation). SameOperations (all_of rest_sets ++ own) l) one (same_self (all_of rest_sets ++ own))),
    )

-- ---- what is removed

within_agree : (ops world : List Operation) → Within ops world → AreAgreeing world → AreAgreeing ops
within_agree ops world within agree name a b g h = agree name a b (within (Insert name a) g) (within (Insert name b) h)

module _ (table : Table) (world : List Operation) (stands : List ℕ → List Operation) (whole : List Event) (given : IsGiven table world stands whole) where
  each_stands : (files : List (List ℕ)) → AllCame files whole → EachStandsFor files table (each stands files)
  each_stands [] came = tt
  each_stands (file ∷ files) came = (given.stands_for file came.0, each_stands files came.1)

  all_within : (files : List (List ℕ)) → AllCame files whole → Within (all_of (each stands files)) world
  all_within [] came op h = absurd h
  all_within (file ∷ files) came op h =
      elim (among_either op (all_of (each stands files)) (stands file) h) as (λ _. Among op world) [ inl g ↦ all_within files came.1 op g | inr g ↦ given.within file came.0 op g ]

  one_within : (gone : List ℕ) (files : List (List ℕ)) → IsOneOf gone files → Within (stands gone) (all_of (each stands files))
  one_within gone [] one op h = absurd one
  one_within gone (file ∷ files) (inl same) op h =
      among_second op (all_of (each stands files)) (stands file) (subst (λ (f : List ℕ). Among op (stands f)) same h)
  one_within gone (file ∷ files) (inr one) op h = among_first op (all_of (each stands files)) (stands file) (one_within gone files one op h)

  lift_all : (files : List (List ℕ)) (events : List Event) → ((file : List ℕ) → Came file events → Came file whole) → AllCame files events → AllCame files whole
  lift_all [] events lift came = tt
  lift_all (file ∷ files) events lift came = (lift file came.0, lift_all files events lift came.1)

  -- all that some files represent
  abbrev joined : List ℕ → List (List ℕ) → List Operation
  joined first others = folder_operations (stands first) (each stands others)

  folder : (first : List ℕ) (others : List (List ℕ)) → AllCame (first ∷ others) whole → FolderStandsFor first others table (stands first) (each stands others)
  folder first others came = record {
    head = given.stands_for first came.0;
    rest = each_stands others came.1;
    agree = within_agree (joined first others) world (all_within (first ∷ others) came) given.agree;
  }

  made_stands : (first : List ℕ) (others : List (List ℕ)) (new : Replica) → AllCame (first ∷ others) whole → Joins first others new ⊎ Forgets first others new → StandsFor (file_of new) table (joined first others)
  made_stands first others new came (inl joins) = join_stands first others table (stands first) (each stands others) new (folder first others came) joins
  made_stands first others new came (inr forgets) = forget_stands first others table (stands first) (each stands others) new (folder first others came) forgets

  -- the new file is another one than one that is removed
  apart : (gone : List ℕ) (events : List Event) (replaced : IsReplaced gone events) → file_of replaced.new ≢ gone
  apart gone events replaced = λ same.
      let names : List (List ℕ) = each part_name (replaced.first ∷ replaced.others) in
      let new : List ℕ = part_name (file_of replaced.new) in
      let wrong : true ≡ false = sym replaced.removed ∙ ap (λ (file : List ℕ). is_removed names new (part_name file)) (sym same) ∙ not_itself names new in
      cc

  covered : (gone : List ℕ) (events : List Event) → ((file : List ℕ) → Came file events → Came file whole) → IsReplaced gone events → IsCoveredThere stands gone events
  covered gone events lift replaced =
      let new : List ℕ = file_of replaced.new in
      let came : AllCame (replaced.first ∷ replaced.others) whole = lift_all (replaced.first ∷ replaced.others) events lift replaced.came in
      let most : Within (joined replaced.first replaced.others) (stands new) =
      given.most new (joined replaced.first replaced.others) (lift new (there_came new events replaced.there)) (made_stands replaced.first replaced.others replaced.new came replaced.made) (all_within (replaced.first ∷ replaced.others) came) in
      (new, replaced.there, apart gone events replaced, λ op h. most op (one_within gone (replaced.first ∷ replaced.others) replaced.joined op h))

  are_covered : (events : List Event) → ((file : List ℕ) → Came file events → Came file whole) → AreReplaced events → AreCoveredThere stands events
  are_covered [] lift replaced = tt
  are_covered (Comes file ∷ events) lift replaced = are_covered events (λ other came. lift other (inr came)) replaced
  are_covered (Goes file ∷ events) lift replaced = (covered file events lift replaced.0, are_covered events lift replaced.1)

pub forgets_lose_nothing : ForgetsLoseNothing
forgets_lose_nothing table world stands events given replaced =
    nothing_lost_there stands events (are_covered table world stands events given events (λ file came. came) replaced)
