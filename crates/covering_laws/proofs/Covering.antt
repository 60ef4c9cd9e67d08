-- What commands make of a file covers it, by the rule of a folder's parts; and so does what is made of that in turn.
use Rattle.std.specs.Prelude.{◌≡◌, ◌⊎◌, ℕ, true, List, [], ◌∷◌, Option, Some, Ok, Contains}
use Rattle.std.proofs.Common.{refl, sym, ap, subst, ◌∙◌, inl, inr}
use Rattle.std.specs.List.{All}
use Rattle.std.proofs.lemmas.List.Elements.{All-nil, All-cons, All-contains}
use Rattle.replica_store.specs.Replica.{Replica}
use Rattle.replica_reports.specs.Held.{held_in}
use Rattle.replica_changes.specs.CommandForms.{adding}
use Rattle.replica_changes.specs.Commands.{Made, file_of, as_held}
use Rattle.replica_changes.specs.Forgetting.{forgetting}
use Rattle.folder_parts.specs.Covers.{covers}
use Rattle.folder_parts.proofs.PartsCover.{cover_laws_hold, is_covers}
use Rattle.file_protocol.specs.Disk.{MayLeave}
use Rattle.file_commands.specs.HeldDeletes.{deleted_if_held}
use Rattle.file_commands.specs.Homes.{Covering, Covers, IsCovered}
use Rattle.file_commands.proofs.Homes.{keeps_home}
use Rattle.covering_laws.specs.CoveringLaws.{IsMadeOf, ByCommand, ByMerge, IsMadeThere, AreMadeInTurn, OthersMakeCovering, LatersCover, CoversAndKeeps, CoveringLaws}
use Rattle.covering_laws.proofs.Growing.{Grows, adding_grows, delete_held_grows, forget_grows, made_grows}

-- the rule of parts, for files
abbrev by_parts : Covering
by_parts = record { covers = covers; along = cover_laws_hold.order.along }

-- ---- what is made of a file

grown_covers : (old new : Replica) → held_in (file_of old) ≡ Ok old → held_in (file_of new) ≡ Ok (as_held new) → Grows old new → covers (file_of new) (file_of old) ≡ true
grown_covers old new read again grows = is_covers (file_of new) (file_of old) (record { one = as_held new; two = old; read = again; read_other = read; table = grows.table; all = grows.all })

made_covers : (file other : List ℕ) → IsMadeOf file other → covers file other ≡ true
made_covers file other (ByCommand old new was read made again is) = (λ i. covers (is i) (was i)) ∙ grown_covers old new read again (made_grows old new made)
made_covers file other (ByMerge first others whole one joins is) = ap (λ (f : List ℕ). covers f other) is ∙ cover_laws_hold.pack first others whole joins other one

-- ---- what others make of it in turn

one_some : (a b : List ℕ) → Some a ≡ Some b → a ≡ b
one_some a b is = cc

-- what is made of what covers bytes covers them
made_covered : (bytes file other : List ℕ) → IsMadeOf file other → IsCovered by_parts bytes (Some other) → covers file bytes ≡ true
made_covered bytes file other made (b, is, over) =
    cover_laws_hold.order.along file other bytes (made_covers file other made) (subst (λ (x : List ℕ). covers x bytes ≡ true) (sym (one_some other b is)) over)

module _ (Was : Option (List ℕ) → Type 0) (bytes : List ℕ) (was : (left : Option (List ℕ)) → Was left → IsCovered by_parts bytes left) where
  one_covered : (since : List (Option (List ℕ))) (left : Option (List ℕ)) → All (IsCovered by_parts bytes) since → IsMadeThere Was since left → IsCovered by_parts bytes left
  one_covered since left before (file, other, is, made, there) = (file, is, made_covered bytes file other made (under there))
    where
      under : Was (Some other) ⊎ Contains since (Some other) → IsCovered by_parts bytes (Some other)
      under (inl h) = was (Some other) h
      under (inr h) = All-contains (IsCovered by_parts bytes) since (Some other) before h

  all_covered : (laters : List (Option (List ℕ))) → AreMadeInTurn Was laters → All (IsCovered by_parts bytes) laters
  all_covered [] made = All-nil (IsCovered by_parts bytes)
  all_covered (left ∷ since) (here, rest) =
      let before : All (IsCovered by_parts bytes) since = all_covered since rest in
      All-cons (IsCovered by_parts bytes) left since (one_covered since left before here) before

  turn_covers : (laters : List (Option (List ℕ))) → AreMadeInTurn Was laters → (left : Option (List ℕ)) → Contains laters left → IsCovered by_parts bytes left
  turn_covers laters made left there = All-contains (IsCovered by_parts bytes) laters left (all_covered laters made) there

others_cover : OthersMakeCovering by_parts
others_cover name laters d made bytes safe left there = turn_covers (MayLeave d name) bytes safe laters made left there

laters_cover : LatersCover by_parts
laters_cover new laters made left there = turn_covers (λ left. left ≡ Some new) new (λ left is. (new, is, cover_laws_hold.order.itself new)) laters made left there

-- ---- each command

covers_so : {Y : Type 0} (command : Replica → Made Y) → ((old new : Replica) (answer : Y) → command old ≡ Ok (answer, new) → Grows old new) → CoversAndKeeps by_parts command
covers_so {Y} command grows = record {
  covers = over;
  keeps = λ lock name before after told laters d e moment made. keeps_home command by_parts lock name before after over told laters d e moment (others_cover name laters d made);
}
  where
    over : Covers by_parts command
    over old new answer read is again = grown_covers old new read again (grows old new answer is)

pub covering_laws_hold : CoveringLaws
covering_laws_hold = record {
  covering = by_parts;
  of_parts = λ file other. refl;
  itself = cover_laws_hold.order.itself;
  made = made_covers;
  others = others_cover;
  laters = laters_cover;
  change = λ command. covers_so (adding command) (adding_grows command);
  delete_held_rows = λ first last. covers_so (λ r. deleted_if_held r first last) (delete_held_grows first last);
  forget = covers_so forgetting forget_grows;
}
