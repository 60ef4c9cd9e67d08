-- A copy of a store, and what a change makes of it.
use Rattle.std.specs.Prelude.{◌≡◌, ◌⊎◌, ◌≤◌, ◌==◌, ℕ, Bool, false, cond, List, [], ◌∷◌, Option, None, Result, Ok, Err, IsOk}
use Rattle.std.proofs.Common.{refl, sym, ap, subst, ◌∙◌, inl, inr, arith}
use Rattle.std.proofs.lemmas.Bool.Decides.{nat_tests}
use Rattle.std.specs.FinMap as map
use Rattle.std.specs.FinSet as set
use Rattle.table_model.specs.Name.{name_cmp}
use Rattle.table_model.specs.Reading.{◌>>=◌}
use Rattle.table_model.specs.State.{Batch, State}
use Rattle.table_model.specs.Table.{Table as Schema}
use Rattle.table_model.specs.declared.names.BatchName.{BatchName}
use Rattle.table_model.specs.declared.names.Origin.{Origin}
use Rattle.table_model.specs.declared.refusal.Refusal.{Refusal}
use Rattle.table_model.specs.declared.refusal.Refusal.TheVariants.{BadName, Memory, ReadFault, WriteFault, SchemaDiffers}
use Rattle.table_model.proofs.Joins.{same_maps}
use Rattle.table_model.proofs.SameTable.{itself_table}
use Rattle.column_file.specs.Files.{offer_read}
use Rattle.replica_store.specs.Exchange.{OfferForm, SummaryForm, empty_summary, offered, offering, opened, unlisted, unlisted_state}
use Rattle.replica_store.specs.Replica.{Replica}
use Rattle.replica_store.proofs.Offers.{get-unlisted}
use Rattle.replica_changes.specs.CommandForms.{AnswerForm, CommandForm, Import, Apply, adding}
use Rattle.replica_changes.specs.Commands.{Made}
use Rattle.replica_changes.specs.Loads.{LoadForm}
use Rattle.lanes_c.specs.Calls.{Yields}
use Rattle.lanes_c.specs.Faults.{told}
use Rattle.lanes_c.specs.Importing.{LoadsText}
use Rattle.lanes_c.specs.TableChanges.{Changed, ImportsText, replica_made, with_command, with_offer}

-- ---- a copy

unlisted_none : (m : map.FinMap name_cmp Batch) → unlisted set.empty m ≡ m
unlisted_none m = same_maps (unlisted set.empty m) m (λ q. get-unlisted set.empty m q ∙ ap (λ (b : Bool). cond b None (map.get m q)) (set.contains-empty name_cmp q))

-- to a summary without names all is offered
pub all_offered : (r : Replica) → offered r (empty_summary r.schema) ≡ Ok r.state
all_offered r =
    let state : State → Result State Refusal = λ s. Ok s in
    ap (λ (b : Bool). cond b (state (unlisted_state set.empty r.state)) (Err SchemaDiffers)) (itself_table r.schema)
    ∙ (λ i. state (record { batches = unlisted_none r.state.batches i; deleted = r.state.deleted }))

-- a call that gives a value is refused for want of memory alone
pub lacks : {X : Type 0} (x : X) (e : Refusal) (made : Result X Refusal) → made ≡ Ok x → (made ≡ Err e) ⊎ ((e ≡ Memory) × IsOk made) → e ≡ Memory
lacks x e made is (inl refused) = cc
lacks x e made is (inr lack) = lack.0

-- the replica of an offer of all that a replica has
pub copied : (r : Replica) (schema : Schema) (summary : SummaryForm) (o : OfferForm) → schema ≡ r.schema → ◌≡◌ {A = Result SummaryForm Refusal} (Ok (empty_summary schema)) (Ok summary) → offered r summary ≡ Ok o.state → o.schema ≡ r.schema → offering r.own o ≡ r
copied r schema summary o same read made table =
    let is : summary ≡ empty_summary schema = cc in
    let here : offered r (empty_summary r.schema) ≡ Ok o.state = ap (λ (t : Schema). offered r (empty_summary t)) (sym same) ∙ ap (offered r) (sym is) ∙ made in
    let both : ◌≡◌ {A = Result State Refusal} (Ok r.state) (Ok o.state) = sym (all_offered r) ∙ here in
    let state : r.state ≡ o.state = cc in
    λ i. record { schema = table i; own = r.own; state = sym state i }

-- such an offer is refused for want of memory alone
pub offer_lacks : (r : Replica) (schema : Schema) (summary : SummaryForm) (e : Refusal) → schema ≡ r.schema → ◌≡◌ {A = Result SummaryForm Refusal} (Ok (empty_summary schema)) (Ok summary) → (offered r summary ≡ Err e) ⊎ ((e ≡ Memory) × IsOk (offered r summary)) → e ≡ Memory
offer_lacks r schema summary e same made why =
    let is : summary ≡ empty_summary schema = cc in
    lacks r.state e (offered r summary) (ap (offered r) is ∙ ap (λ (t : Schema). offered r (empty_summary t)) same ∙ all_offered r) why

-- the store of that offer
pub opened_copy : (r : Replica) (own : Origin) (o : OfferForm) → own ≡ r.own → 1 ≤ own.0 → offering r.own o ≡ r → opened own o ≡ Ok r
opened_copy r own o same proper is =
    let apart : (own.0 == 0) ≡ false = grind (arith, nat_tests, proper) in
    let made : Replica → Result Replica Refusal = λ x. Ok x in
    ap (λ (b : Bool). cond b (Err BadName) (made (offering own o))) apart ∙ ap (λ (x : Origin). made (offering x o)) same ∙ ap made is

-- ---- what a change makes

pub change_refused : {X : Type 0} (e : Refusal) (meaning : Result X Refusal) → (meaning ≡ Err e) ⊎ (e ≡ Memory) → Yields {X = X} (Err (told e)) meaning
change_refused WriteFault meaning why = inr (inl refl)
change_refused other meaning (inl is) = inl is
change_refused other meaning (inr is) = inr (inl is)

-- a command that was refused, or for which memory lacked
pub command_refused : (command : CommandForm) (r : Replica) (e : Refusal) → (adding command r ≡ Err e) ⊎ (e ≡ Memory) → Yields {X = Replica} (Err (told e)) (with_command command r)
command_refused command r e (inl is) = change_refused e (with_command command r) (inl (ap (λ (m : Made AnswerForm). replica_made m) is))
command_refused command r e (inr is) = change_refused e (with_command command r) (inr is)

-- an offer that is refused as it is read
pub offer_refused : (e : Refusal) (offer input : List ℕ) (r : Replica) → input ≡ offer → ((e ≡ Memory → ⊥) → (e ≡ ReadFault → ⊥) → offer_read input ≡ Err e) → Yields {X = Replica} (Err (told e)) (with_offer offer r)
offer_refused Memory offer input r same h = inr (inl refl)
offer_refused ReadFault offer input r same h = inr (inr refl)
offer_refused WriteFault offer input r same h = inr (inl refl)
offer_refused other offer input r same h = inl (ap (λ (x : Result OfferForm Refusal). x >>= λ (p : OfferForm). with_command (Apply (p ∷ [])) r) (ap offer_read (sym same) ∙ h (λ is. cc) (λ is. cc)))

-- an offer that was read
pub offer_there : (changed : Changed) (o : OfferForm) (offer input : List ℕ) (r : Replica) (offers : List OfferForm) → input ≡ offer → offer_read input ≡ Ok o → offers ≡ o ∷ [] → Yields changed (with_command (Apply offers) r) → Yields changed (with_offer offer r)
offer_there changed o offer input r offers same read one h =
    let here : offer_read offer ≡ Ok o = ap offer_read (sym same) ∙ read in
    let Q : List OfferForm → Type 0 = λ os. Yields changed (with_command (Apply os) r) in
    subst (λ (m : Result Replica Refusal). Yields changed m) (sym (ap (λ (x : Result OfferForm Refusal). x >>= λ (p : OfferForm). with_command (Apply (p ∷ [])) r) here)) (subst Q one h)

-- rows that were loaded, and imported or not
pub text_imported : (changed : Changed) (load : LoadForm) (first : Option BatchName) (words text : List ℕ) (has_heading : Bool) (r : Replica) → LoadsText r.schema text has_heading load → Yields changed (with_command (Import load first words) r)
    → ImportsText changed text has_heading first words r
text_imported (Ok new) load first words text has_heading r loads h = (load, loads, h)
text_imported (Err fault) load first words text has_heading r loads h = inr (load, loads, h)
