-- The batch's counts, and then its digest.
use Rattle.std.proofs.Common.{◌≡◌, ◌∙◌, ap}
use Rattle.replica_reports.specs.BatchDigests.{digest_part}
use Rattle.replica_reports.specs.Counts.{batch_line, counted}
use Rattle.replica_reports.specs.Digests.{batch_digest}
use Rattle.replica_reports.proofs.CountedBatches.{counts_are}
use Rattle.replica_reports.proofs.batch_list.digest_line.Goals as goal

pub returns-clause-line : goal.returns-clause-line
returns-clause-line c = λ e is.
    let r = c.args.store.now.replica in
    let counts : c.counts_at.result ≡ counted r.state.deleted e = counts_are r.state c.args.index e c.counts_at.result is c.counts_at.ensures.counts in
    let part : c.as_str-2.result.now ≡ digest_part c.args.form (batch_digest r.schema e) =
    c.as_str-2.ensures.value ∙ c.in_ok-part.ensures ∙ ap (digest_part c.args.form) (c.as_str.ensures.value ∙ c.in_ok-digest.ensures.digest e is) in
    c.in_ok-line.ensures ∙ (λ j. batch_line c.args.form (counts j) (part j))
