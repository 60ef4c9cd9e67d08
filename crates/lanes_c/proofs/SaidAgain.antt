-- The number and the place of a fault say its refusal again.
use Rattle.std.specs.Prelude.{◌≡◌, ◌⊎◌, ℕ, ◌<◌, ◌%◌, ◌==◌, nat_lt, false, List, [], codes, Option, Some, None}
use Rattle.std.proofs.Common.{refl, sym, ap, ◌∙◌, inl, inr, arith}
use Rattle.std.proofs.lemmas.Bool.Decides.{nat_tests}
use Rattle.std.proofs.Math.Nat.{mod-eq_of_lt}
use Rattle.table_model.specs.RefusalText.{number_of, place_of as named_by}
use Rattle.table_model.specs.declared.names.BatchName.{BatchName}
use Rattle.table_model.specs.declared.refusal.Refusal.{Refusal}
use Rattle.table_model.specs.declared.refusal.Refusal.TheVariants as refusals
use Rattle.refusal_sentences.specs.declared.command_refusal.CommandRefusal.{CommandRefusal}
use Rattle.refusal_sentences.specs.declared.command_refusal.CommandRefusal.TheVariants as commands
use Rattle.lanes_c.specs.declared.fault.Place.{Place}
use Rattle.lanes_c.specs.declared.fault.Fault.{Fault}
use Rattle.lanes_c.specs.declared.fault.Fault.TheVariants as faults
use Rattle.lanes_c.specs.Faults.{pair, place_of, number_of_fault, place_of_fault}
use Rattle.lanes_c.specs.Names.{batch_of, refusal_at, own_refusal_at, or_own, command_refusal_at, refusal_of_fault, IsShort, HasShort, HasOne, IsTold, SaysAgain, own_sentence, IsSentenceOf}

-- numbers of 32 bits are as they were
batch_again : (name : BatchName) → IsShort name → batch_of (pair name.origin.0 name.number.0) ≡ name
batch_again name short =
    let origin : name.origin.0 % 4294967296 ≡ name.origin.0 = mod-eq_of_lt short.0 in
    let number : name.number.0 % 4294967296 ≡ name.number.0 = mod-eq_of_lt short.1 in
    λ i. record { origin = record { 0 = origin i }; number = record { 0 = number i } }

-- a refusal at its own place
again : (refusal : Refusal) → HasShort (named_by refusal) → refusal_at (number_of refusal) (place_of refusal) ≡ Some refusal
again refusals.Memory short = refl
again (refusals.Conflict name) short = ap (λ (b : BatchName). Some (refusals.Conflict b)) (batch_again name short)
again refusals.Full short = refl
again refusals.EmptyBatch short = refl
again refusals.BatchTooLong short = refl
again (refusals.WrongArity at) short = refl
again (refusals.OutOfType row column) short = refl
again refusals.SchemaDiffers short = refl
again refusals.NumbersSpent short = refl
again refusals.NoSuchVector short = refl
again refusals.BadName short = refl
again refusals.BadSchema short = refl
again (refusals.Truncated at) short = refl
again refusals.BadMagic short = refl
again refusals.BadVersion short = refl
again (refusals.BadOrder at) short = refl
again (refusals.BadCount at) short = refl
again (refusals.BadWidth at) short = refl
again (refusals.BadTag at) short = refl
again (refusals.BadMask at) short = refl
again (refusals.BadDictionary at) short = refl
again (refusals.BadCode at) short = refl
again (refusals.BadRange at) short = refl
again (refusals.TrailingBytes at) short = refl
again (refusals.NotCanonical at) short = refl
again (refusals.Syntax at) short = refl
again refusals.NoSuchTable short = refl
again (refusals.NoSuchColumn at) short = refl
again (refusals.NotGrouped at) short = refl
again (refusals.NumberTooLarge at) short = refl
again refusals.TooDeep short = refl
again refusals.LineTooLong short = refl
again refusals.ReadFault short = refl
again refusals.WriteFault short = refl
again refusals.BadLine short = refl
again refusals.NoSuchReplica short = refl
again refusals.NoSuchMessage short = refl

-- a refusal that names at most one number, whatever the second number of its place is
again_one : (refusal : Refusal) (second : ℕ) → HasOne (named_by refusal) → refusal_at (number_of refusal) (pair (place_of refusal).first second) ≡ Some refusal
again_one refusals.Memory second one = refl
again_one (refusals.Conflict name) second one = absurd one
again_one refusals.Full second one = refl
again_one refusals.EmptyBatch second one = refl
again_one refusals.BatchTooLong second one = refl
again_one (refusals.WrongArity at) second one = refl
again_one (refusals.OutOfType row column) second one = absurd one
again_one refusals.SchemaDiffers second one = refl
again_one refusals.NumbersSpent second one = refl
again_one refusals.NoSuchVector second one = refl
again_one refusals.BadName second one = refl
again_one refusals.BadSchema second one = refl
again_one (refusals.Truncated at) second one = refl
again_one refusals.BadMagic second one = refl
again_one refusals.BadVersion second one = refl
again_one (refusals.BadOrder at) second one = refl
again_one (refusals.BadCount at) second one = refl
again_one (refusals.BadWidth at) second one = refl
again_one (refusals.BadTag at) second one = refl
again_one (refusals.BadMask at) second one = refl
again_one (refusals.BadDictionary at) second one = refl
again_one (refusals.BadCode at) second one = refl
again_one (refusals.BadRange at) second one = refl
again_one (refusals.TrailingBytes at) second one = refl
again_one (refusals.NotCanonical at) second one = refl
again_one (refusals.Syntax at) second one = refl
again_one refusals.NoSuchTable second one = refl
again_one (refusals.NoSuchColumn at) second one = refl
again_one (refusals.NotGrouped at) second one = refl
again_one (refusals.NumberTooLarge at) second one = refl
again_one refusals.TooDeep second one = refl
again_one refusals.LineTooLong second one = refl
again_one refusals.ReadFault second one = refl
again_one refusals.WriteFault second one = refl
again_one refusals.BadLine second one = refl
again_one refusals.NoSuchReplica second one = refl
again_one refusals.NoSuchMessage second one = refl

named : (refusal : Refusal) (place : Place) (n : ℕ) → refusal_at n place ≡ Some refusal → command_refusal_at n place ≡ Some (commands.Named refusal)
named refusal place n is = ap (λ (found : Option Refusal). or_own found (own_refusal_at n place)) is

said_again : (fault : Fault) → IsTold fault → command_refusal_at (number_of_fault fault) (place_of_fault fault) ≡ refusal_of_fault fault
said_again (faults.Refused refusal) told = named refusal (place_of refusal) (number_of refusal) (again refusal told)
said_again (faults.BadCsv line column) told = refl
said_again (faults.LineTooLong line) told = refl
said_again (faults.OfQuery refusal query) told = named refusal (pair (place_of refusal).first query) (number_of refusal) (again_one refusal query told)
said_again (faults.InNames refusal) told = named refusal (pair (place_of refusal).first 1) (number_of refusal) (again_one refusal 1 told)
said_again (faults.OfSummary refusal summary) told = named refusal (pair (place_of refusal).first summary) (number_of refusal) (again_one refusal summary told)
said_again faults.NotOpen told = refl
said_again (faults.NotApart name) told = ap (λ (b : BatchName). Some (commands.NotApart b)) (batch_again name told)
said_again faults.QueryDiffers told = refl
said_again faults.TooMany told = refl
said_again (faults.Missing name) told = ap (λ (b : BatchName). Some (commands.Missing b)) (batch_again name told)
said_again faults.Busy told = refl
said_again faults.Damaged told = refl
said_again (faults.System code) told = refl

pub says_again : (number : ℕ) (place : Place) (said : Option CommandRefusal) → said ≡ command_refusal_at number place → SaysAgain number place said
says_again number place said is fault told n p = is ∙ (λ i. command_refusal_at (sym n i) (sym p i)) ∙ said_again fault told

-- ---- numbers that are no refusal's

differs : (n k : ℕ) → k < n → (n == k) ≡ false
differs n k past = grind (arith, nat_tests)

not_below : (n k : ℕ) → k < n → nat_lt n k ≡ false
not_below n k past = grind (arith, nat_tests)

own_past : (n : ℕ) (place : Place) → 43 < n → own_refusal_at n place ≡ None
own_past n place past = rw (differs n 38 (omega arith), differs n 40 (omega arith), differs n 41 (omega arith), differs n 42 (omega arith), differs n 43 (omega arith)) refl

at_past : (n : ℕ) (place : Place) → 43 < n → refusal_at n place ≡ None
at_past n place past =
    rw (not_below n 13 (omega arith), not_below n 26 (omega arith), differs n 26 (omega arith), differs n 27 (omega arith), differs n 28 (omega arith), differs n 29 (omega arith), differs n 30 (omega arith), differs n 31 (omega arith), differs n 32 (omega arith), differs n 33 (omega arith), differs n 34 (omega arith), differs n 35 (omega arith), differs n 36 (omega arith), differs n 37 (omega arith)) refl

pub none_past : (n : ℕ) (place : Place) → 43 < n → command_refusal_at n place ≡ None
none_past n place past = ap (λ (found : Option Refusal). or_own found (own_refusal_at n place)) (at_past n place past) ∙ own_past n place past

pub none_at_0 : (n : ℕ) (place : Place) → n ≡ 0 → command_refusal_at n place ≡ None
none_at_0 n place zero = ap (λ (k : ℕ). command_refusal_at k place) zero

-- no other number is 0 or past 43
pub no_refusal : (n : ℕ) (place : Place) → (n ≡ 0) ⊎ (43 < n) → command_refusal_at n place ≡ None
no_refusal n place (inl zero) = none_at_0 n place zero
no_refusal n place (inr past) = none_past n place past

-- ---- sentences

pub nothing_said : (number : ℕ) → IsSentenceOf number []
nothing_said number = ((λ owned. inl refl), (λ none. refl))

pub own_said : (number : ℕ) (text : List ℕ) → (number ≡ 39) ⊎ ((43 < number) × (number < 47)) → text ≡ own_sentence number → IsSentenceOf number text
own_said number text owned is = ((λ same. inr is), no owned)
  where
    no : (number ≡ 39) ⊎ ((43 < number) × (number < 47)) → (number ≡ 0) ⊎ (46 < number) → text ≡ []
    no (inl closed) (inl zero) = absurd (omega (arith, zero, closed))
    no (inl closed) (inr past) = absurd (omega (arith, past, closed))
    no (inr between) (inl zero) = absurd (omega (arith, zero, between.0))
    no (inr between) (inr past) = absurd (omega (arith, past, between.1))

one_is_there : (said : Option CommandRefusal) (refusal : CommandRefusal) → said ≡ Some refusal → said ≡ None → ⊥
one_is_there said refusal some none = cc

-- what is past 46 is past 43
past_all : (number : ℕ) → (number ≡ 0) ⊎ (46 < number) → (number ≡ 0) ⊎ (43 < number)
past_all number (inl zero) = inl zero
past_all number (inr past) = inr (omega (arith, past))

-- it is none of those that have a sentence of their own
none_owned : (number : ℕ) {X : Type 0} → (number ≡ 39 → ⊥) → ((43 < number) × (number < 47) → ⊥) → (number ≡ 39) ⊎ ((43 < number) × (number < 47)) → X
none_owned number opened apart (inl closed) = absurd (opened closed)
none_owned number opened apart (inr between) = absurd (apart between)

pub other_said : (number : ℕ) (said : Option CommandRefusal) (refusal : CommandRefusal) (text : List ℕ) → (number ≡ 39 → ⊥) → ((43 < number) × (number < 47) → ⊥) → said ≡ Some refusal
    → ((number ≡ 0) ⊎ (43 < number) → said ≡ None) → IsSentenceOf number text
other_said number said refusal text opened apart is none =
    ((λ owned. none_owned number opened apart owned), (λ no. absurd (one_is_there said refusal is (none (past_all number no)))))
