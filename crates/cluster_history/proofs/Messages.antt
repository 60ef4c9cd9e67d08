-- What a message brings is decided by what was taken when it was made, and messages stay at their numbers.
use Rattle.std.specs.Prelude.{◌≡◌, ℕ, zero, suc, Bool, true, false, cond, not, ◌||◌, List, [], ◌∷◌, ◌++◌, map, length, slice_get, Option, Some, None, is_some, option_map, option_and_then}
use Rattle.std.proofs.Common.{refl, sym, ap, subst, ◌∙◌, inl, inr}
use Rattle.std.specs.List.{list_any}
use Rattle.std.specs.Ordering.{eq_by_cmp}
use Rattle.std.specs.FinMap as map
use Rattle.std.specs.FinSet as set
use Rattle.std.proofs.lemmas.List.{length-map}
use Rattle.std.proofs.lemmas.Option.{slice_get-map}
use Rattle.catalogue_join.specs.Held.{lacks}
use Rattle.table_model.specs.Name.{name_cmp}
use Rattle.table_model.specs.State.{State, Batch}
use Rattle.table_model.specs.Table.{Table}
use Rattle.table_model.specs.Operation.{Operation, Insert as Inserts, Delete as Deletes, Among, AreAgreeing, inserts_of, deletes_of, state_of}
use Rattle.table_model.specs.declared.names.BatchName.{BatchName}
use Rattle.table_model.proofs.NameOrder.{names_total, exact_names}
use Rattle.table_model.proofs.Joins.{same_states, same_maps}
use Rattle.table_model.proofs.Operations.{same_name, state_of-same}
use Rattle.replica_store.specs.Replica.{names_of}
use Rattle.replica_store.specs.Exchange.{SummaryForm, summary_of, unlisted, unlisted_state}
use Rattle.replica_store.proofs.Names.{contains-names_of}
use Rattle.cluster_history.specs.Cluster.{place_of, numbered}
use Rattle.cluster_history.specs.Message.{Listing, Offering, listing_in, offering_in}
use Rattle.cluster_history.specs.History.{Brought, Names, Operations, names_in, lacking, is_listed, brought_names, brought_operations, message_of, AllBringOne, SameMessagesAreEqual, replica_of}

-- the summary of these names
abbrev pub listing_of : Table → List BatchName → SummaryForm
listing_of table names = record { schema = table; names = set.from_list names }

-- the offer of these operations
abbrev pub offering_of : Table → List Operation → Table × State
offering_of table ops = (table, state_of ops)

pub numbered-map : {X Y : Type 0} (f : X → Y) (xs : List X) (number : ℕ) → numbered (map f xs) number ≡ option_map f (numbered xs number)
numbered-map f xs number =
    ap (λ n. option_and_then (slice_get (map f xs)) (place_of n number)) (length-map xs f)
    ∙ elim (place_of (length xs) number) as (λ o. option_and_then (slice_get (map f xs)) o ≡ option_map f (option_and_then (slice_get xs) o)) [
      | None ↦ refl
      | Some at ↦ slice_get-map f xs at
    ]

listing_is : (table : Table) (o : Option Brought) → listing_in (option_map (message_of table) o) ≡ option_map (listing_of table) (brought_names o)
listing_is table None = refl
listing_is table (Some (Names names)) = refl
listing_is table (Some (Operations ops)) = refl

offering_is : (table : Table) (o : Option Brought) → offering_in (option_map (message_of table) o) ≡ option_map (offering_of table) (brought_operations o)
offering_is table None = refl
offering_is table (Some (Names names)) = refl
offering_is table (Some (Operations ops)) = refl

-- the summary that the message with a number is, by what it brings
pub listing_at : (table : Table) (messages : List Brought) (number : ℕ) → listing_in (numbered (map (message_of table) messages) number) ≡ option_map (listing_of table) (brought_names (numbered messages number))
listing_at table messages number = ap listing_in (numbered-map (message_of table) messages number) ∙ listing_is table (numbered messages number)

-- the offer that the message with a number is, by what it brings
pub offering_at : (table : Table) (messages : List Brought) (number : ℕ) → offering_in (numbered (map (message_of table) messages) number) ≡ option_map (offering_of table) (brought_operations (numbered messages number))
offering_at table messages number = ap offering_in (numbered-map (message_of table) messages number) ∙ offering_is table (numbered messages number)

some_cond : (b : Bool) (v : Batch) (o : Option Batch) → is_some (cond b (Some v) o) ≡ (b || is_some o)
some_cond true v o = refl
some_cond false v o = refl

is_some-find : (es : List (BatchName × Batch)) (q : BatchName) → is_some (map.find name_cmp q es) ≡ list_any (eq_by_cmp name_cmp q) (map (λ (e : BatchName × Batch). e.0) es)
is_some-find [] q = refl
is_some-find (e ∷ es) q = some_cond (eq_by_cmp name_cmp q e.0) e.1 (map.find name_cmp q es) ∙ ap (λ b. eq_by_cmp name_cmp q e.0 || b) (is_some-find es q)

-- the names of a state are those that came
names_are : (ops : List Operation) → names_of (state_of ops).batches ≡ set.from_list (names_in ops)
unfolding state_of
names_are ops = set.same_set names_total exact_names _ _ (λ q.
    contains-names_of (state_of ops).batches q
    ∙ ap is_some (map.get-from_entries names_total (inserts_of ops) q)
    ∙ is_some-find (inserts_of ops) q
    ∙ sym (set.contains-from_list names_total (names_in ops) q))

-- the summary of a replica that took operations
pub names-state_of : (table : Table) (own : ℕ) (ops : List Operation) → summary_of (replica_of table own ops) ≡ listing_of table (names_in ops)
names-state_of table own ops = ap (λ (names : set.FinSet name_cmp). let summary : SummaryForm = record { schema = table; names = names } in summary) (names_are ops)

none_either : (b : Bool) → ◌≡◌ {A = Option Batch} None (cond b None None)
none_either true = refl
none_either false = refl

-- whether a name is listed decides by the name alone
listed_same : (names : List BatchName) (q name : BatchName) → eq_by_cmp name_cmp q name ≡ true → is_listed q names ≡ is_listed name names
listed_same names q name t = ap (λ n. is_listed n names) (same_name q name t)

find-lacking : (names : List BatchName) (ops : List Operation) (q : BatchName) → map.find name_cmp q (inserts_of (lacking names ops)) ≡ cond (is_listed q names) None (map.find name_cmp q (inserts_of ops))
find-lacking names [] q = none_either (is_listed q names)
find-lacking names (Deletes row ∷ ops) q = find-lacking names ops q
find-lacking names (Inserts name rows ∷ ops) q =
    let rest = map.find name_cmp q (inserts_of ops) in
    let Goal : Bool → Bool → Type 0 = λ listed here. map.find name_cmp q (inserts_of (cond listed (lacking names ops) (Inserts name rows ∷ lacking names ops))) ≡ cond (is_listed q names) None (cond here (Some rows) rest) in
    elim (is_listed name names) as (λ b. is_listed name names ≡ b → Goal b (eq_by_cmp name_cmp q name)) [
      | true ↦ λ listed. elim (eq_by_cmp name_cmp q name) as (λ t. eq_by_cmp name_cmp q name ≡ t → Goal true t) [
        | true ↦ λ t.
            let q_listed : is_listed q names ≡ true = listed_same names q name t ∙ listed in
            find-lacking names ops q ∙ ap (λ b. cond b None rest) q_listed ∙ sym (ap (λ b. cond b None (Some rows)) q_listed)
        | false ↦ λ t. find-lacking names ops q
      ] refl
      | false ↦ λ listed. elim (eq_by_cmp name_cmp q name) as (λ t. eq_by_cmp name_cmp q name ≡ t → cond t (Some rows) (map.find name_cmp q (inserts_of (lacking names ops))) ≡ cond (is_listed q names) None (cond t (Some rows) rest)) [
        | true ↦ λ t. sym (ap (λ b. cond b None (Some rows)) (listed_same names q name t ∙ listed))
        | false ↦ λ t. find-lacking names ops q
      ] refl
    ] refl

deletes-lacking : (names : List BatchName) (ops : List Operation) → deletes_of (lacking names ops) ≡ deletes_of ops
deletes-lacking names [] = refl
deletes-lacking names (Deletes row ∷ ops) = ap (λ rest. row ∷ rest) (deletes-lacking names ops)
deletes-lacking names (Inserts name rows ∷ ops) =
    elim (is_listed name names) as (λ b. deletes_of (cond b (lacking names ops) (Inserts name rows ∷ lacking names ops)) ≡ deletes_of ops) [
      | true ↦ deletes-lacking names ops
      | false ↦ deletes-lacking names ops
    ]

lacks_is : (names : List BatchName) (q : BatchName) (o : Option Batch) → cond (lacks (set.from_list names) q) o None ≡ cond (is_listed q names) None o
lacks_is names q o = ap (λ b. cond (not b) o None) (set.contains-from_list names_total names q) ∙ turned (is_listed q names)
  where
    turned : (b : Bool) → cond (not b) o None ≡ cond b None o
    turned true = refl
    turned false = refl

-- of the state of operations, what is offered beside listed names is the state of the operations but the inserts under those
pub unlisted-state_of : (names : List BatchName) (ops : List Operation) → unlisted_state (set.from_list names) (state_of ops) ≡ state_of (lacking names ops)
unfolding unlisted state_of
unlisted-state_of names ops = same_states _ _
    (same_maps _ _ (λ q.
    map.get-retain_keys (map.from_entries (inserts_of ops)) (lacks (set.from_list names)) q (λ x tied. ap (lacks (set.from_list names)) (sym (exact_names q x tied)))
    ∙ lacks_is names q (map.get (map.from_entries (inserts_of ops)) q)
    ∙ ap (cond (is_listed q names) None) (map.get-from_entries names_total (inserts_of ops) q)
    ∙ sym (find-lacking names ops q)
    ∙ sym (map.get-from_entries names_total (inserts_of (lacking names ops)) q)))
    (ap set.from_list (sym (deletes-lacking names ops)))

among-lacking : (names : List BatchName) (ops : List Operation) (op : Operation) → Among op (lacking names ops) → Among op ops
among-lacking names [] op h = h
among-lacking names (Deletes row ∷ ops) op (inl e) = inl e
among-lacking names (Deletes row ∷ ops) op (inr h) = inr (among-lacking names ops op h)
among-lacking names (Inserts name rows ∷ ops) op h =
    elim (is_listed name names) as (λ b. Among op (cond b (lacking names ops) (Inserts name rows ∷ lacking names ops)) → Among op (Inserts name rows ∷ ops)) [
      | true ↦ λ k. inr (among-lacking names ops op k)
      | false ↦ λ k. elim k as (λ _. Among op (Inserts name rows ∷ ops)) [ inl e ↦ inl e | inr g ↦ inr (among-lacking names ops op g) ]
    ] h

-- fewer operations agree too
pub lacking-agree : (names : List BatchName) (ops : List Operation) → AreAgreeing ops → AreAgreeing (lacking names ops)
lacking-agree names ops agree n a b g h = agree n a b (among-lacking names ops (Inserts n a) g) (among-lacking names ops (Inserts n b) h)

bring_at : (messages : List Brought) (at : ℕ) (ops : List Operation) → AllBringOne messages → brought_operations (slice_get messages at) ≡ Some ops → AreAgreeing ops
bring_at [] at ops all is = cc
bring_at (Names names ∷ messages) zero ops all is = cc
bring_at (Operations others ∷ messages) zero ops all is = let same : others ≡ ops = cc in subst AreAgreeing same all.0
bring_at (Names names ∷ messages) (suc at) ops all is = bring_at messages at ops all is
bring_at (Operations others ∷ messages) (suc at) ops all is = bring_at messages at ops all.1 is

-- the operations that a message brings agree
pub bring_one : (messages : List Brought) (number : ℕ) (ops : List Operation) → AllBringOne messages → brought_operations (numbered messages number) ≡ Some ops → AreAgreeing ops
bring_one messages number ops all is =
    elim (place_of (length messages) number) as (λ o. brought_operations (option_and_then (slice_get messages) o) ≡ Some ops → AreAgreeing ops) [
      | None ↦ λ none. cc
      | Some at ↦ λ some. bring_at messages at ops all some
    ] is

-- one more message
pub bring_more : (messages : List Brought) (more : Brought) → AllBringOne messages → AllBringOne (more ∷ []) → AllBringOne (messages ++ (more ∷ []))
bring_more [] more all one = one
bring_more (Names names ∷ messages) more all one = bring_more messages more all one
bring_more (Operations ops ∷ messages) more all one = (all.0, bring_more messages more all.1 one)

-- messages that bring the same are equal
pub same_messages : SameMessagesAreEqual
same_messages table (Names names) (Names others) one same =
    ap (λ (s : set.FinSet name_cmp). Listing (record { schema = table; names = s })) (set.same_set names_total exact_names _ _ (λ q.
    set.contains-from_list names_total names q ∙ same q ∙ sym (set.contains-from_list names_total others q)))
same_messages table (Operations ops) (Operations others) one same = ap (Offering table) (state_of-same ops others one.0 same)
same_messages table (Names names) (Operations ops) one same = absurd same
same_messages table (Operations ops) (Names names) one same = absurd same
