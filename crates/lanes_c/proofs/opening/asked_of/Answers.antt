-- What is answered over the store is answered over each file that the store is of.
use Rattle.std.specs.Prelude.{◌≡◌, List, ℕ, Result, Ok}
use Rattle.std.proofs.Common.{ap, sym, ◌∙◌}
use Rattle.table_model.specs.declared.refusal.Refusal.{Refusal}
use Rattle.replica_reports.specs.Held.{held_in}
use Rattle.replica_store.specs.Replica.{Replica}
use Rattle.replica_store.specs.Segments.{StoreForm}
use Rattle.lanes_c.specs.Calls.{Asks}
use Rattle.lanes_c.specs.Rooms.{given_by}
use Rattle.lanes_c.proofs.Openings.{at_file}
use Rattle.lanes_c.proofs.opening.asked_of.Goals as goal

pub returns : goal.returns
returns c =
    λ file held.
    let opened : StoreForm → Result Replica Refusal = λ store. Ok store.replica in
    let there : held_in file ≡ Ok c.deref.result.now.replica = held ∙ ap opened (sym c.deref.ensures) in
    at_file (λ (meaning : List ℕ → Result (List ℕ) Refusal). Asks (given_by c.answered_over.result) c.args.sql.now (meaning c.args.sql.now)) file c.deref.result.now.replica there c.answered_over.ensures
