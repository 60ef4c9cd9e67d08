-- By what is known of the keys.
use Rattle.std.proofs.Common.{OnOk, subst, sym}
use Rattle.query_eval.specs.Keys.{IsSplitting, key_read}
use Rattle.query_eval.specs.declared.grouping.vector_keys.VectorKeys.{VectorKeys}
use Rattle.query_eval.proofs.grouping.split.Split.by_keys.Goals as goal

pub returns-in-Runs-clause-placed : goal.returns-in-Runs-clause-placed
returns-in-Runs-clause-placed c =
    subst (λ (keys : VectorKeys). OnOk c.by_runs.result (IsSplitting (key_read keys c.args.columns.now c.args.values.now c.args.self.now.codes) c.args.self.now.kept c.args.places.now c.by_runs.new.places c.by_runs.new.self))
    (sym c.in-Runs.is) c.by_runs.ensures.placed

pub returns-in-Codes-clause-placed : goal.returns-in-Codes-clause-placed
returns-in-Codes-clause-placed c =
    subst (λ (keys : VectorKeys). OnOk c.by_codes.result (IsSplitting (key_read keys c.args.columns.now c.args.values.now c.args.self.now.codes) c.args.self.now.kept c.args.places.now c.by_codes.new.places c.by_codes.new.self))
    (sym c.in-Codes.is) c.by_codes.ensures.placed

pub returns-in-Columns-clause-placed : goal.returns-in-Columns-clause-placed
returns-in-Columns-clause-placed c =
    subst (λ (keys : VectorKeys). OnOk c.by_columns.result (IsSplitting (key_read keys c.args.columns.now c.args.values.now c.args.self.now.codes) c.args.self.now.kept c.args.places.now c.by_columns.new.places c.by_columns.new.self))
    (sym c.in-Columns.is) c.by_columns.ensures.placed
