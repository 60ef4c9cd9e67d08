-- A part that a pack removes was joined, so it is within the pack; and it has another name, so other bytes, so another set.
use Rattle.std.specs.Prelude.{◌≡◌, ℕ, Bool, true, false, not, ◌&&◌, List, [], ◌∷◌, map as each, Result}
use Rattle.std.specs.List.{list_any}
use Rattle.std.proofs.Common.{sym, ap, subst, ◌∙◌, inl, inr}
use Rattle.table_model.specs.Identifier.{same_text}
use Rattle.table_model.specs.Operation.{Operation, SameOperations}
use Rattle.table_model.specs.Table.{Table}
use Rattle.table_model.specs.declared.refusal.Refusal.{Refusal}
use Rattle.table_model.proofs.SameTable.{itself_text}
use Rattle.replica_store.specs.Replica.{Replica}
use Rattle.replica_changes.specs.Commands.{file_of}
use Rattle.replica_changes.specs.FileLaws.{Holds, EachHolds, all_of, FileLaws}
use Rattle.folder_parts.specs.Folders.{Within, Event, Comes, Goes, AreCovered}
use Rattle.folder_parts.specs.FolderLaws.{folder_operations, operations_found, held_operations, IsOneOf, PackedAreCovered, ArePackedAway, PacksLoseNothing}
use Rattle.folder_parts.specs.Packing.{is_removed}
use Rattle.folder_parts.specs.PartName.{part_name}
use Rattle.folder_parts.proofs.FolderSets.{join_holds, among_first, among_second}
use Rattle.folder_parts.proofs.Removals.{nothing_lost}

-- the pack itself stays
pub not_itself : (names : List (List ℕ)) (name : List ℕ) → is_removed names name name ≡ false
unfolding is_removed
not_itself names name = ap (λ (b : Bool). not b && list_any (λ (other : List ℕ). same_text other name) names) (itself_text name)

-- a file that is one of some holds a set that is within what all of them hold
some_set : (gone : List ℕ) (files : List (List ℕ)) (table : Table) (sets : List (List Operation)) → EachHolds files table sets → IsOneOf gone files
    → (ops : List Operation) × Holds gone table ops × Within ops (all_of sets)
some_set gone [] table sets each one = absurd one
some_set gone (file ∷ files) table [] each one = absurd each
some_set gone (file ∷ files) table (ops ∷ sets) each (inl same) =
    (ops, subst (λ (f : List ℕ). Holds f table ops) (sym same) each.0, λ op h. among_second op (all_of sets) ops h)
some_set gone (file ∷ files) table (ops ∷ sets) each (inr one) =
    let rest = some_set gone files table sets each.1 one in (rest.0, rest.1, λ op h. among_first op (all_of sets) ops (rest.2 op h))

module _ (laws : FileLaws) where
  -- what is found in a file is what it holds
  found_same : (bytes : List ℕ) (table : Table) (ops : List Operation) → Holds bytes table ops → SameOperations (held_operations bytes) ops
  found_same bytes table ops h = subst (λ (r : Result Replica Refusal). SameOperations (operations_found r) ops) (sym h.read) (laws.offers ops h.agree)

  pub packed_covered : PackedAreCovered
  packed_covered gone events away =
      let whole : List Operation = folder_operations away.ops away.sets in
      let one = some_set gone (away.first ∷ away.others) away.table (away.ops ∷ away.sets) (away.folder.head, away.folder.rest) away.joined in
      let pack : Holds (file_of away.pack) away.table whole = join_holds laws away.first away.others away.table away.ops away.sets away.pack away.folder away.joins in
      let here : SameOperations (held_operations gone) one.0 = found_same gone away.table one.0 one.1 in
      let there : SameOperations (held_operations (file_of away.pack)) whole = found_same (file_of away.pack) away.table whole pack in (
        file_of away.pack,
        away.came,
        record {
          within = λ op h. (there op).1 (one.2 op ((here op).0 h));
          more = λ back.
              let same : SameOperations one.0 whole = λ op. (one.2 op, λ h. (here op).0 (back op ((there op).1 h))) in
              let bytes : gone ≡ file_of away.pack = laws.same gone (file_of away.pack) away.table one.0 whole one.1 pack same in
              let names : List (List ℕ) = each part_name (away.first ∷ away.others) in
              let wrong : true ≡ false = sym away.removed ∙ ap (λ (file : List ℕ). is_removed names (part_name (file_of away.pack)) (part_name file)) bytes ∙ not_itself names (part_name (file_of away.pack)) in
              cc;
        },
      )

  are_covered : (events : List Event) → ArePackedAway events → AreCovered held_operations events
  are_covered [] away = tt
  are_covered (Comes file ∷ events) away = are_covered events away
  are_covered (Goes file ∷ events) away = (packed_covered file events away.0, are_covered events away.1)

  pub packs_lose_nothing : PacksLoseNothing
  packs_lose_nothing events away = nothing_lost held_operations events (are_covered events away)
