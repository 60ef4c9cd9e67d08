-- A folder's files hold the union of their sets, and a set has one file.
use Rattle.std.specs.Prelude.{◌≡◌, ◌⊎◌, ℕ, List, [], ◌∷◌, ◌++◌, Result, Ok}
use Rattle.std.proofs.Common.{refl, sym, ap, subst, ◌∙◌, inl, inr, append_assoc}
use Rattle.table_model.specs.Operation.{Operation, Among, SameOperations}
use Rattle.table_model.specs.Table.{Table}
use Rattle.table_model.specs.declared.refusal.Refusal.{Refusal}
use Rattle.replica_store.specs.Replica.{Replica}
use Rattle.replica_reports.specs.Held.{held_in}
use Rattle.replica_changes.specs.Commands.{file_of, as_held}
use Rattle.replica_changes.specs.FileLaws.{Holds, EachHolds, all_of, FileLaws}
use Rattle.folder_parts.specs.FolderLaws.{FolderHolds, folder_operations, SameFolders, JoinHolds, PackKeeps, FolderIsFile, FolderFollows}

pub same_ok : (a b : Replica) → ◌≡◌ {A = Result Replica Refusal} (Ok a) (Ok b) → a ≡ b
same_ok a b e = cc

pub all_of-append : (sets more : List (List Operation)) → all_of (sets ++ more) ≡ all_of more ++ all_of sets
all_of-append [] more = sym (append_nothing (all_of more))
  where
    append_nothing : (xs : List Operation) → xs ++ [] ≡ xs
    append_nothing [] = refl
    append_nothing (x ∷ xs) = ap (λ (rest : List Operation). x ∷ rest) (append_nothing xs)
all_of-append (ops ∷ sets) more = ap (λ (l : List Operation). l ++ ops) (all_of-append sets more) ∙ append_assoc (all_of more) (all_of sets) ops

each-append : (files more : List (List ℕ)) (table : Table) (sets rest : List (List Operation)) → EachHolds files table sets → EachHolds more table rest → EachHolds (files ++ more) table (sets ++ rest)
each-append [] more table [] rest a b = b
each-append [] more table (ops ∷ sets) rest a b = absurd a
each-append (bytes ∷ files) more table [] rest a b = absurd a
each-append (bytes ∷ files) more table (ops ∷ sets) rest a b = (a.0, each-append files more table sets rest a.1 b)

pub among_either : (op : Operation) (xs ys : List Operation) → Among op (xs ++ ys) → Among op xs ⊎ Among op ys
among_either op [] ys h = inr h
among_either op (x ∷ xs) ys (inl e) = inl (inl e)
among_either op (x ∷ xs) ys (inr h) = elim (among_either op xs ys h) as (λ _. Among op (x ∷ xs) ⊎ Among op ys) [ inl g ↦ inl (inr g) | inr g ↦ inr g ]

pub among_second : (op : Operation) (xs ys : List Operation) → Among op ys → Among op (xs ++ ys)
among_second op [] ys h = h
among_second op (x ∷ xs) ys h = inr (among_second op xs ys h)

pub among_first : (op : Operation) (xs ys : List Operation) → Among op xs → Among op (xs ++ ys)
among_first op [] ys h = absurd h
among_first op (x ∷ xs) ys (inl e) = inl e
among_first op (x ∷ xs) ys (inr h) = inr (among_first op xs ys h)

-- what is held beside is held already
pub beside_same : (xs ys zs : List Operation) → ys ++ zs ≡ xs → SameOperations (xs ++ zs) xs
beside_same xs ys zs e op = (
  (λ h. elim (among_either op xs zs h) as (λ _. Among op xs) [ inl g ↦ g | inr g ↦ subst (λ (l : List Operation). Among op l) e (among_second op ys zs g) ]),
  (λ h. among_first op xs zs h),
)

-- in the other order
swapped : (op : Operation) (xs ys : List Operation) → Among op (xs ++ ys) → Among op (ys ++ xs)
swapped op xs ys h = elim (among_either op xs ys h) as (λ _. Among op (ys ++ xs)) [ inl g ↦ among_second op ys xs g | inr g ↦ among_first op ys xs g ]

same_self : (xs : List Operation) → SameOperations xs xs
same_self xs op = ((λ h. h), (λ h. h))

module _ (laws : FileLaws) where
  pub join_holds : JoinHolds
  join_holds first others table ops sets new folder joins = laws.merge first others table ops sets new folder.head folder.rest joins.made joins.read

  pub same_folders : SameFolders
  same_folders first second others more table ops others_ops sets more_sets one two a b ja jb same =
      let files : file_of one ≡ file_of two = laws.same (file_of one) (file_of two) table (folder_operations ops sets) (folder_operations others_ops more_sets)
      (join_holds first others table ops sets one a ja) (join_holds second more table others_ops more_sets two b jb) same in
      (files, same_ok (as_held one) (as_held two) (sym ja.read ∙ ap held_in files ∙ jb.read))

  pub pack_keeps : PackKeeps
  pack_keeps first others rest table ops sets rest_sets packed before beside after folder each jp jb js ja =
      let q : Holds (file_of packed) table (folder_operations ops sets) = join_holds first others table ops sets packed folder jp in
      let whole : FolderHolds first (others ++ rest) table ops (sets ++ rest_sets) = record { head = folder.head; rest = each-append others rest table sets rest_sets folder.rest each } in
      let there : FolderHolds (file_of packed) rest table (folder_operations ops sets) rest_sets = record { head = q; rest = each } in
      let more : FolderHolds (file_of packed) (first ∷ others ++ rest) table (folder_operations ops sets) (ops ∷ sets ++ rest_sets) =
      record { head = q; rest = (folder.head, whole.rest) } in
      let all : List Operation = folder_operations ops (sets ++ rest_sets) in
      let one : folder_operations (folder_operations ops sets) rest_sets ≡ all =
      sym (append_assoc (all_of rest_sets) (all_of sets) ops) ∙ ap (λ (l : List Operation). l ++ ops) (sym (all_of-append sets rest_sets)) in (
        (same_folders (file_of packed) first (first ∷ others ++ rest) (others ++ rest) table (folder_operations ops sets) ops (ops ∷ sets ++ rest_sets) (sets ++ rest_sets) beside before more whole js jb
            (beside_same (all_of (sets ++ rest_sets) ++ ops) (all_of rest_sets) (all_of sets ++ ops) one)).0,
        (same_folders (file_of packed) first rest (others ++ rest) table (folder_operations ops sets) ops rest_sets (sets ++ rest_sets) after before there whole ja jb
            (subst (λ (l : List Operation). SameOperations l all) (sym one) (same_self all))).0,
      )

  pub folder_is_file : FolderIsFile
  folder_is_file first others file table ops file_ops sets whole folder joins h same =
      laws.same (file_of whole) file table (folder_operations ops sets) file_ops (join_holds first others table ops sets whole folder joins) h same

  pub folder_follows : FolderFollows
  folder_follows first others part file table ops own more sets whole folder comes same joins h =
      let there : FolderHolds part (first ∷ others) table own (ops ∷ sets) = record { head = comes; rest = (folder.head, folder.rest) } in
      folder_is_file part (first ∷ others) file table own (more ++ folder_operations ops sets) (ops ∷ sets) whole there joins h (turned own (folder_operations ops sets) more same)
    where
      -- in the other order
      turned : (xs ys zs : List Operation) → SameOperations (xs ++ ys) (zs ++ ys) → SameOperations (ys ++ xs) (zs ++ ys)
      turned xs ys zs s op = ((λ g. (s op).0 (swapped op ys xs g)), (λ g. swapped op xs ys ((s op).1 g)))
