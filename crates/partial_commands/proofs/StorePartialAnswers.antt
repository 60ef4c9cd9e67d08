-- A store's partial answer is made once its query is read.
use Rattle.std.specs.Prelude.{◌≡◌, Bool, Result, Ok, Err, IsTrue, IfOk, IfErr}
use Rattle.std.proofs.Common.{inr, refl, sym, ap, subst, ◌∙◌}
use Rattle.table_model.specs.Reading.{Reads}
use Rattle.table_model.specs.declared.refusal.Refusal.{Refusal}
use Rattle.table_model.specs.declared.refusal.Refusal.TheVariants.{Memory}
use Rattle.std.specs.FinSet as set
use Rattle.table_model.specs.Name.{row_name_cmp}
use Rattle.table_model.specs.Query.{QueryShape}
use Rattle.table_model.specs.State.{State}
use Rattle.table_model.specs.Table.{Table}
use Rattle.replica_store.specs.Exchange.{SummaryForm, summary_of}
use Rattle.replica_store.specs.Replica.{Replica, names_of}
use Rattle.partial_answers.specs.Counted.{Names, held_of, strays_of}
use Rattle.partial_answers.specs.Refusing.{KeptGroups}
use Rattle.partial_answers.specs.Shape.{HaveShape}
use Rattle.partial_answers.specs.declared.partial_answer.PartialAnswer.{PartialAnswer}
use Rattle.store_view.specs.Asked.{is_refusal_of_query}
use Rattle.partial_commands.specs.StorePartialAnswer.{PartialAnswerMeaning, batches_deleted, meaning_of}

ok_one : {X : Type 0} (x y : X) → ◌≡◌ {A = Result X Refusal} (Ok x) (Ok y) → x ≡ y
ok_one x y e = cc

-- the names of a summary are those of the batches
pub held_named : (r : Replica) (s : SummaryForm) → ◌≡◌ {A = Result SummaryForm Refusal} (Ok (summary_of r)) (Ok s) → s.names ≡ held_of r.state
unfolding names_of held_of
held_named r s is = ap (λ (x : SummaryForm). x.names) (sym (ok_one (summary_of r) s is))

-- the deleted batches without the held ones are the strays
pub strays_named : (s : State) (deleted : set.FinSet row_name_cmp) (held strays : Names) → strays ≡ set.difference (batches_deleted deleted) held → deleted ≡ s.deleted → held ≡ held_of s → strays ≡ strays_of s
unfolding strays_of
strays_named s deleted held strays is same also = is ∙ (λ i. set.difference (batches_deleted (same i)) (also i))

-- the partial answer that is given was made, or memory ran out
pub made : (result : Result PartialAnswer Refusal) (form : PartialAnswerMeaning) (read : Result PartialAnswerMeaning Refusal) → read ≡ Ok form → IfOk result (λ partial. meaning_of partial ≡ form) → IfErr result (λ e. e ≡ Memory) → Reads meaning_of result read
made (Ok partial) form read is same lacks = is ∙ ap Ok (sym same)
made (Err e) form read is same lacks = inr lacks

pub memory_listed : {X : Type 0} (result : Result X Refusal) → IfErr result (λ e. e ≡ Memory) → IfErr result (λ e. IsTrue (is_refusal_of_query e))
memory_listed (Ok x) lacks = tt
memory_listed (Err e) lacks = ap is_refusal_of_query lacks

-- the same table and groups have the same shape
pub shaped_as : (table other : Table) (groups others : KeptGroups) (query : QueryShape) → table ≡ other → groups ≡ others → HaveShape table query groups → HaveShape other query others
shaped_as table other groups others query e f h = subst (λ (t : Table). HaveShape t query others) e (subst (λ (m : KeptGroups). HaveShape table query m) f h)

-- a text is one query
pub one_query : (read : Result QueryShape Refusal) (q query : QueryShape) → read ≡ Ok q → read ≡ Ok query → q ≡ query
one_query read q query is also = ok_one q query (sym is ∙ also)
