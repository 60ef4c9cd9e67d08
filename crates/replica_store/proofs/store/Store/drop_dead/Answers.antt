-- The store keeps what has a live row; where each batch has one it stays, and only then does a forget change nothing.
use Rattle.std.specs.Prelude.{◌≡◌}
use Rattle.std.proofs.Common.{sym, subst, ◌∙◌}
use Rattle.std.proofs.lemmas.Bool.{false≢true}
use Rattle.replica_store.specs.Forgotten.{forgotten}
use Rattle.replica_store.specs.Segments.{StoreForm}
use Rattle.replica_store.proofs.Forgetting.{all_live, all_proper, acts_after, acts_same, live_after, idle_live, IsSoundStore-live}
use Rattle.replica_store.proofs.store.Store.drop_dead.Goals as goal

pub returns-then-are_live-clause-acts : goal.returns-then-are_live-clause-acts
returns-then-are_live-clause-acts c =
    rw (← c.self.view_is) (acts_same c.self.inside.schema c.self.inside.own c.self.inside.batches.segments c.self.inside.tombs (sym c.are_live.ensures ∙ c.if-are_live.true))

pub returns-then-are_live-clause-segments : goal.returns-then-are_live-clause-segments
returns-then-are_live-clause-segments c =
    rw (← c.self.view_is) (sym (all_live c.self.inside.tombs c.self.inside.batches.segments (sym c.are_live.ensures ∙ c.if-are_live.true)))

pub forget-requires : goal.forget-requires
forget-requires c = record { proper = all_proper c.self.inside.schema c.self.inside.batches.segments c.self.invariant.stored }

pub returns-in_err-forget-clause-idle : goal.returns-in_err-forget-clause-idle
returns-in_err-forget-clause-idle c same =
    let here = subst (λ (s : StoreForm). forgotten s.replica.state ≡ s.replica.state) (sym c.self.view_is) same in
    absurd (false≢true (sym c.if-are_live.false ∙ c.are_live.ensures ∙ idle_live c.self.inside.schema c.self.inside.own c.self.inside.batches.segments c.self.inside.tombs here))

pub invariant_of-self-2 : goal.invariant_of-self-2
invariant_of-self-2 c = IsSoundStore-live c.self.inside.schema c.self.inside.own c.self.inside.tombs c.self.inside.batches c.forget.new.self c.self.invariant c.in_ok-forget.ensures.own c.in_ok-forget.ensures.ok

pub returns-clause-acts : goal.returns-clause-acts
returns-clause-acts c = rw (← c.self.view_is) (acts_after c.self.inside.schema c.self.inside.own c.self.inside.batches.segments c.self.inside.tombs c.forget.new.self.segments c.in_ok-forget.ensures.ok)

pub returns-clause-live : goal.returns-clause-live
returns-clause-live c = rw (← c.self.view_is) (live_after c.self.inside.schema c.self.inside.own c.self.inside.batches.segments c.self.inside.tombs c.forget.new.self.segments c.in_ok-forget.ensures.ok)
