-- What C's handle of an answer owns.
use Rattle.std.specs.Prelude.{◌≡◌, ◌⊎◌, List, ℕ, ℤ}
use Rattle.std.proofs.Common.{refl, inl, inr}
use Rattle.std.specs.Coded.{Coded, code_by, coded×, coded⊎, coded_list, coded_ℕ, coded_ℤ, coded_option}
use base.Fml.{Fml, ftrue, fsep, fex}
use denote.RawPtr.{Ptr, block_ptr, null_ptr}
use Rattle.std.specs.declared.option.Option.{Option}
use Rattle.std.specs.declared.option.Option.TheVariants.{None, Some}
use Rattle.std.specs.declared.alloc.Global.{Global}
use Rattle.std.specs.contracts.impls.GlobalAllocator.TheImpl.{ghosts}
use Rattle.std_alloc.specs.Box.Ownership.{box_owns}
use Rattle.table_model.specs.Answer.{AnswerParts}
use Rattle.table_model.specs.declared.answer.Field.{Field}
use Rattle.table_model.specs.declared.answer.Field.TheVariants.{Null, Whole, Millionths}
use Rattle.table_model.specs.contracts.answer.Answer.{the_row}

-- ---- a code of answers, by which a struct may say that two are equal

-- a field as a number that isn't there, or is a whole one, or millionths
abbrev pub cases_of : Field → Option (ℤ ⊎ ℤ)
cases_of Null = None
cases_of (Whole z) = Some (inl z)
cases_of (Millionths z) = Some (inr z)

-- the field of these
abbrev pub of_cases : Option (ℤ ⊎ ℤ) → Field
of_cases None = Null
of_cases (Some (inl z)) = Whole z
of_cases (Some (inr z)) = Millionths z

-- they come back
pub of_cases_of : (f : Field) → of_cases (cases_of f) ≡ f
of_cases_of Null = refl
of_cases_of (Whole z) = refl
of_cases_of (Millionths z) = refl

-- a field by these
abbrev pub coded_field : Coded Field
coded_field = code_by (Option (ℤ ⊎ ℤ)) (coded_option (coded⊎ coded_ℤ coded_ℤ)) cases_of of_cases of_cases_of

-- an answer by its heading and its rows
abbrev pub coded_answer : Coded AnswerParts
coded_answer =
    code_by (List (List ℕ) × List (List Field)) (coded× (coded_list (coded_list coded_ℕ)) (coded_list (coded_list coded_field))) (λ a. (a.heading, a.rows)) (λ p. record { heading = p.0; rows = p.1 }) (λ _. refl)

-- ---- what is owned

-- the box of such an answer at a pointer, and that it is the handle's
abbrev pub boxed_answer : Ptr → Option AnswerParts → Global → AnswerParts → Fml
boxed_answer at answer alloc kept = fsep (box_owns (ghosts.dealloc_token alloc) the_row at kept) (fex (answer ≡ Some kept) (λ _. ftrue))

-- nothing at null, if the handle is closed; else such a box
abbrev pub answer_owns : Ptr → Option AnswerParts → Fml
answer_owns (block_ptr block offset) answer = fex Global (λ alloc. fex AnswerParts (boxed_answer (block_ptr block offset) answer alloc))
answer_owns null_ptr answer = fex (answer ≡ None) (λ _. ftrue)
