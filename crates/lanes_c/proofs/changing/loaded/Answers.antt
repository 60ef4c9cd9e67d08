-- The dialect is the usual one.
use Rattle.std.specs.Prelude.{IfErr, IfOk}
use Rattle.std.proofs.Common.{subst}
use Rattle.csv_rows.specs.DialectForm.{DialectForm}
use Rattle.lanes_c.specs.Importing.{IsWhyNotReadIn, LoadsIn}
use Rattle.lanes_c.proofs.changing.loaded.Goals as goal

pub returns-clause-load : goal.returns-clause-load
returns-clause-load c =
    subst (λ (d : DialectForm). IfOk c.loaded_in.result (λ load. LoadsIn d c.args.schema.now c.args.csv.now c.args.has_heading load)) c.usual.ensures c.loaded_in.ensures.load

pub returns-clause-fault : goal.returns-clause-fault
returns-clause-fault c =
    subst (λ (d : DialectForm). IfErr c.loaded_in.result (λ fault. IsWhyNotReadIn d c.args.schema.now c.args.csv.now c.args.has_heading fault)) c.usual.ensures c.loaded_in.ensures.fault
