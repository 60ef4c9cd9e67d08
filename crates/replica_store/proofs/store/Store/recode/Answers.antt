-- A vector that isn't there is refused before any growth.
use Rattle.std.proofs.Common.{refl, sym, subst, ◌∙◌, inl}
use Rattle.std.proofs.lemmas.Result.{err_from_is_err_and}
use Rattle.replica_store.specs.Replica.{IsSound}
use Rattle.replica_store.proofs.store.Store.recode.Goals as goal

pub invariant_of-self : goal.invariant_of-self
invariant_of-self c = record {
  sound = subst (IsSound c.self.inside.schema c.self.inside.own) (sym c.recode.ensures.rows) c.self.invariant.sound;
  stored = c.recode.ensures.stored c.self.inside.schema c.self.invariant.stored;
  parted = c.recode.ensures.own ∙ c.self.invariant.parted;
}

pub returns-in_err-recode_fault-clause-segments : goal.returns-in_err-recode_fault-clause-segments
returns-in_err-recode_fault-clause-segments c =
    let p = err_from_is_err_and c.from_residual.result c.from_residual.ensures.1 in
    rw (p.1, p.2) (refl, inl (c.in_err-recode_fault.ensures.missing c.args.coding))
