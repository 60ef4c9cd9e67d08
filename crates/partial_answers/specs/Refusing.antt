-- Why what two partial answers keep is not added.
use Rattle.std.specs.Prelude.{◌≡◌, ◌<◌, ◌^◌, ℕ, List, [], ◌∷◌, map as each, Some, FitsSigned}
use Rattle.std.specs.Int.{w128}
use Rattle.std.specs.BTreeMap.{BTreeMap, get}
use Rattle.std.specs.Global.{Vec}
use Rattle.table_model.specs.Group.{key_cmp}
use Rattle.table_model.specs.State.{Cells}
use Rattle.table_model.specs.declared.refusal.Refusal.{Refusal}
use Rattle.partial_answers.specs.PartialAnswer.{Tally, Tallies, plus, pluses}
use Rattle.partial_answers.specs.Kept.{tally_in, tallies_in}
use Rattle.partial_answers.specs.declared.fault.PartialAnswerFault.{PartialAnswerFault}
use Rattle.partial_answers.specs.declared.fault.PartialAnswerFault.TheVariants.{Memory, SchemaDiffers, QueryDiffers, NotApart, TooMany, Query}
use Rattle.partial_answers.specs.declared.kept.Kept.{Kept}
use Rattle.partial_answers.specs.declared.kept.Kept.TheVariants.{Count, Sum, Least, Greatest, Distinct}

-- what is kept, as a number
abbrev pub kept_kind : Kept → ℕ
kept_kind (Count n) = 0
kept_kind (Sum sums) = 1
kept_kind (Least o) = 2
kept_kind (Greatest o) = 3
kept_kind (Distinct values) = 4

-- Why partial answers are not combined or finished: memory ran out; or a text is no query, and the first tells what it is refused as; or things
-- differ that the second says are alike; or something is too large, of which the third says that it is small.
abbrev pub RefusesBy : (Refusal → Type 0) → Type 0 → Type 0 → PartialAnswerFault → Type 0
RefusesBy IsNoQuery Alike Small Memory = Unit {0}
RefusesBy IsNoQuery Alike Small (Query refusal) = IsNoQuery refusal
RefusesBy IsNoQuery Alike Small QueryDiffers = Alike → ⊥
RefusesBy IsNoQuery Alike Small TooMany = Small → ⊥
RefusesBy IsNoQuery Alike Small SchemaDiffers = ⊥
RefusesBy IsNoQuery Alike Small (NotApart name) = ⊥

-- why something is refused where there is no text of a query
abbrev pub RefusesUnless : Type 0 → Type 0 → PartialAnswerFault → Type 0
RefusesUnless Alike Small fault = RefusesBy (λ refusal. ⊥) Alike Small fault

-- a count of 64 bits, and a sum of 128
abbrev pub Fits : Tally → Type 0
Fits t = (t.count < 2 ^ 64) × FitsSigned w128 t.sum

-- each tally of a group fits
abbrev pub AllFit : Tallies → Type 0
AllFit [] = Unit {0}
AllFit (t ∷ ts) = Fits t × AllFit ts

-- why what two partial answers keep for a measure is not added
abbrev pub RefusesKept : PartialAnswerFault → Kept → Kept → Type 0
RefusesKept fault a b = RefusesUnless (kept_kind a ≡ kept_kind b) (Fits (plus (tally_in a) (tally_in b))) fault

-- two lists keep equal kinds of tallies
abbrev pub AreAlike : List Kept → List Kept → Type 0
AreAlike xs ys = each kept_kind xs ≡ each kept_kind ys

-- why what two partial answers keep of a group is not added
abbrev pub RefusesGroup : PartialAnswerFault → List Kept → List Kept → Type 0
RefusesGroup fault xs ys = RefusesUnless (AreAlike xs ys) (AllFit (pluses (tallies_in xs) (tallies_in ys))) fault

-- the groups of the code: what is kept of each, by its keys
abbrev pub KeptGroups : Type 0
KeptGroups = BTreeMap Cells (Vec Kept)

-- of each group that both have the same is kept
abbrev pub KeepAlike : KeptGroups → KeptGroups → Type 0
KeepAlike m n = (k : Cells) (xs ys : Vec Kept) → get key_cmp m k ≡ Some xs → get key_cmp n k ≡ Some ys → AreAlike xs.items ys.items

-- each group of both together has counts of 64 bits and sums of 128
abbrev pub GroupsFit : KeptGroups → KeptGroups → Type 0
GroupsFit m n = (k : Cells) (xs ys : Vec Kept) → get key_cmp m k ≡ Some xs → get key_cmp n k ≡ Some ys → AllFit (pluses (tallies_in xs.items) (tallies_in ys.items))

-- why a group is not taken into others
abbrev pub RefusesTaking : PartialAnswerFault → KeptGroups → Cells → List Kept → Type 0
RefusesTaking fault m key kept = RefusesUnless ((mine : Vec Kept) → get key_cmp m key ≡ Some mine → AreAlike mine.items kept) ((mine : Vec Kept) → get key_cmp m key ≡ Some mine → AllFit (pluses (tallies_in mine.items) (tallies_in kept))) fault

-- why the groups of two partial answers are not combined
abbrev pub RefusesGroups : PartialAnswerFault → KeptGroups → KeptGroups → Type 0
RefusesGroups fault m n = RefusesUnless (KeepAlike m n) (GroupsFit m n) fault
