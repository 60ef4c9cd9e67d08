-- What is made of parts that were read may come in their place, after every history in which they were read.
use Rattle.std.specs.Prelude.{◌≡◌, ℕ, true, List, [], ◌∷◌, ◌++◌, map, reverse, Some, Result, Ok, Err, IfOk}
use Rattle.std.proofs.Common.{refl, sym, ap, subst, ◌∙◌, inl, inr}
use Rattle.std.proofs.lemmas.List.{reverse-append, map-append}
use Rattle.table_model.specs.declared.refusal.Refusal.{Refusal}
use Rattle.folder_model.specs.Call.{Call, Read, can_settle}
use Rattle.folder_model.specs.Disk.{Among}
use Rattle.folder_model.specs.Parts.{IsNoPart}
use Rattle.folder_protocol.specs.Taking.{bytes_read}
use Rattle.folder_turns.specs.Orders.{Matter, MayTake, matter_of}
use Rattle.folder_turns.specs.declared.order.Order.{Order}
use Rattle.folder_turns.specs.declared.order.Task.{Task}
use Rattle.folder_turns.specs.declared.order.Task.TheVariants.{Replace}
use Rattle.replica_store.specs.Replica.{Replica}
use Rattle.replica_reports.specs.Held.{held_in}
use Rattle.replica_changes.specs.Commands.{file_of, as_held}
use Rattle.replica_changes.specs.Forgetting.{forgetting}
use Rattle.folder_parts.specs.Covers.{folder_parts}
use Rattle.folder_parts.specs.PartName.{part_name}
use Rattle.folder_parts.specs.Parts.{JoinsPart, OpensPart}
use Rattle.folder_commands.specs.Joined.{AreRead}
use Rattle.folder_commands.specs.Replacing.{AreCoveredBy}
use Rattle.folder_commands.proofs.Replacings.{are_joined, pack_covered, forget_covered}
use Rattle.lanes_c.specs.PartsJoined.{IsJoinOf}
use Rattle.lanes_c.proofs.PartsJoins.{first_joined, from_reverse, next_joined, to_reverse}
use Rattle.lanes_c.specs.PartsOrders.{MayFollow, Replaces, WereRead, matter_replacing, names_of}

-- the names with one more
name_more : (name bytes : List ℕ) (files names more : List (List ℕ)) → name ≡ part_name bytes → names ≡ names_of files → more ≡ names ++ name ∷ [] → more ≡ names_of (bytes ∷ files)
name_more name bytes files names more named are is =
    is ∙ (λ i. are i ++ (named i ∷ [])) ∙ sym (map-append part_name (reverse files) (bytes ∷ [])) ∙ ap (map part_name) (sym (reverse-append (bytes ∷ []) files))

-- ---- one part after another

-- the first part is held
pub first_read : (join : Replica) (name bytes : List ℕ) (after before : List Call) (names none : List (List ℕ)) → after ≡ Read name (Some (Some bytes)) ∷ before → before ≡ []
    → OpensPart {X = Replica} (λ r. r) (Ok join) (record { name = name; bytes = bytes }) → names ≡ none ++ name ∷ [] → none ≡ []
    → IsJoinOf join (bytes_read after) × (names ≡ names_of (bytes_read after))
first_read join name bytes after before names none is begun opens more empty =
    let files : bytes_read after ≡ bytes ∷ [] = ap bytes_read is ∙ ap (λ (l : List Call). bytes ∷ bytes_read l) begun in
    subst (λ (l : List (List ℕ)). IsJoinOf join l × (names ≡ names_of l)) (sym files)
    (first_joined name bytes join opens, more ∙ ap (λ (l : List (List ℕ)). l ++ name ∷ []) empty ∙ ap (λ (n : List ℕ). n ∷ []) opens.0)

-- and so is a further one
pub next_read : (was join : Replica) (name bytes : List ℕ) (after before : List Call) (held names : List (List ℕ)) → after ≡ Read name (Some (Some bytes)) ∷ before
    → JoinsPart {X = Replica} (λ r. r) (Ok join) was (record { name = name; bytes = bytes }) → IsJoinOf was (bytes_read before) → held ≡ names_of (bytes_read before) → names ≡ held ++ name ∷ []
    → IsJoinOf join (bytes_read after) × (names ≡ names_of (bytes_read after))
next_read was join name bytes after before held names is joins joined are more =
    let files : bytes_read after ≡ bytes ∷ bytes_read before = ap bytes_read is in
    subst (λ (l : List (List ℕ)). IsJoinOf join l × (names ≡ names_of l)) (sym files)
    (next_joined name bytes (bytes_read before) was join joins joined, name_more name bytes (bytes_read before) held names joins.0 are more)

-- what holds of a store holds of the join that it is of
pub of_join : (P : Replica → Type 0) (join store : Replica) → ◌≡◌ {A = Result Replica Refusal} (Ok join) (Ok store) → P store → P join
of_join P join store is p = let same : join ≡ store = cc in subst P (sym same) p

-- ---- what may be followed

-- a name is that of a file
of_name : (name : List ℕ) (files : List (List ℕ)) → Among name (map part_name files) → (file : List ℕ) × (name ≡ part_name file) × Among file files
of_name name [] among = absurd among
of_name name (file ∷ files) (inl is) = (file, is, inl refl)
of_name name (file ∷ files) (inr among) = let more = of_name name files among in (more.0, more.1, inr more.2)

-- what was read was joined
pub are_read : (whole : Replica) (files : List (List ℕ)) (before : List Call) → IsJoinOf whole files → WereRead files before → AreRead [] (names_of files) whole before
are_read whole files before (first, others, is, made) read = record {
  first = first;
  others = others;
  made = made;
  read = λ file among. read file (subst (λ (l : List (List ℕ)). Among file l) (sym is) (to_reverse file (first ∷ others) among));
  each = λ name among wanted.
      let one = of_name name (reverse files) among in
      (one.0, one.1, from_reverse one.0 (first ∷ others) (subst (λ (l : List (List ℕ)). Among one.0 l) is (from_reverse one.0 files one.2)));
}

-- what covers them may come in their place
may_replace : (temporary bytes : List ℕ) (names : List (List ℕ)) (before : List Call) → can_settle before ≡ true → IsNoPart folder_parts temporary → AreCoveredBy [] names bytes before
    → MayTake Replace (matter_replacing temporary names bytes) folder_parts before
may_replace temporary bytes names before clean free covered = (clean, ((refl, free), are_joined [] names bytes (part_name bytes) _ before refl refl covered))

-- a pack may be followed
pub packs : (whole : Replica) (files : List (List ℕ)) (temporary : List ℕ) → IsJoinOf whole files → held_in (file_of whole) ≡ Ok (as_held whole)
    → MayFollow Replace (matter_replacing temporary (names_of files) (file_of whole)) files
packs whole files temporary joined read before clean were free =
    may_replace temporary (file_of whole) (names_of files) before clean free (pack_covered [] (names_of files) whole before (are_read whole files before joined were) read)

-- and so may a forget
pub forgets : (whole left : Replica) (dropped : ℕ × ℕ) (files : List (List ℕ)) (temporary : List ℕ) → IsJoinOf whole files → forgetting whole ≡ Ok (dropped, left) → held_in (file_of left) ≡ Ok (as_held left)
    → MayFollow Replace (matter_replacing temporary (names_of files) (file_of left)) files
forgets whole left dropped files temporary joined forgot read before clean were free =
    may_replace temporary (file_of left) (names_of files) before clean free (forget_covered [] (names_of files) whole left dropped before (are_read whole files before joined were) forgot read)

-- ---- the same of an order

-- with what it is followed
matter_is : (temporary bytes file : List ℕ) (names : List (List ℕ)) (files : List (List ℕ)) → names ≡ names_of files → bytes ≡ file → matter_replacing temporary names bytes ≡ matter_replacing temporary (names_of files) file
matter_is temporary bytes file names files are is = λ i. matter_replacing temporary (are i) (is i)

-- it puts a file in the place of parts
pub replaces : (order : Order) (whole : Replica) (files : List (List ℕ)) (temporary bytes : List ℕ) (names : List (List ℕ)) → (order.task ≡ Replace) × (matter_of order ≡ matter_replacing temporary names bytes)
    → names ≡ names_of files → (bytes ≡ file_of whole) × (held_in (file_of whole) ≡ Ok (as_held whole)) → Replaces order temporary whole files
replaces order whole files temporary bytes names made are file = (made.0, made.1 ∙ matter_is temporary bytes (file_of whole) names files are file.0, file.1)

-- and may be followed
pub follows : (order : Order) (whole : Replica) (files : List (List ℕ)) (temporary : List ℕ) → Replaces order temporary whole files
    → MayFollow Replace (matter_replacing temporary (names_of files) (file_of whole)) files → MayFollow order.task (matter_of order) files
follows order whole files temporary is may =
    subst (λ (t : Task). MayFollow t (matter_of order) files) (sym is.0) (subst (λ (m : Matter). MayFollow Replace m files) (sym is.1) may)

-- that of a pack, if it was made
pub pack_follows : {E : Type 0} (result : Result Order E) (whole : Replica) (files : List (List ℕ)) (temporary bytes : List ℕ) (names : List (List ℕ))
    → IfOk result (λ order. (order.task ≡ Replace) × (matter_of order ≡ matter_replacing temporary names bytes)) → names ≡ names_of files → (bytes ≡ file_of whole) × (held_in (file_of whole) ≡ Ok (as_held whole))
    → IsJoinOf whole files → IfOk result (λ order. MayFollow order.task (matter_of order) files)
pack_follows (Ok order) whole files temporary bytes names made are file joined =
    follows order whole files temporary (replaces order whole files temporary bytes names made are file) (packs whole files temporary joined file.1)
pack_follows (Err error) whole files temporary bytes names made are file joined = tt
