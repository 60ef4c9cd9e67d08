-- One summary after another is read; the first that is refused ends all.
use Rattle.std.specs.Prelude.{ℕ, List}
use Rattle.std.proofs.Common.{ap, sym, subst, ◌∙◌, Bor}
use Rattle.replica_store.specs.Exchange.{SummaryForm}
use Rattle.lanes_c.proofs.Expectations.{AreReadTo, all_read, none_read, one_read}
use Rattle.lanes_c.proofs.expecting.read_summaries.Goals as goal

pub loop-index-init : goal.loop-index-init
loop-index-init c =
    subst (λ (r : List SummaryForm). AreReadTo c.args.lengths.now c.args.summaries.now 0 r c.args.summaries.now) (sym c.new-read.ensures.items) (none_read c.args.lengths.now c.args.summaries.now)

pub loop-index-preserved : goal.loop-index-preserved
loop-index-preserved c =
    one_read c.args.lengths.now c.args.summaries.now c.loop-index.index c.loop-index.read.items c.push.new.self.items c.loop-index.rest.now c.cut.result.1.now _ c.in-Ok.summary c.loop-index-test.true c.loop-index.invariant
    (ap (λ (w : Bor (List ℕ) × ℕ). w.0.now) c.new.ensures ∙ c.cut.ensures.first) c.in-Ok.ensures.read c.cut.ensures.after c.in_ok-push-in-Ok.ensures.items

pub returns-clause-read : goal.returns-clause-read
returns-clause-read c = all_read c.args.lengths.now c.args.summaries.now c.loop-index.index c.loop-index.read.items c.loop-index.rest.now c.loop-index-test.false c.loop-index.invariant
