use Rattle.std.proofs.Common.{refl, ◌≢◌}
use Rattle.file_protocol.proofs.LongerNames.{longer_is_other}
use Rattle.file_protocol.proofs.Locks.{stays_old}
use Rattle.file_commands.proofs.CrashProofs.{created_any, created_left, created_so, failed_put}
use Rattle.file_commands.proofs.Whys.{unmade_why, put_why}
use Rattle.file_commands.proofs.creating.create.Goals as goal

pub returns-in-Ok-clause-any_moment : goal.returns-in-Ok-clause-any_moment
returns-in-Ok-clause-any_moment g c = created_any _ _ _ _ _ c.in-Ok.new.items c.as_slice.result.now c.as_slice.ensures.value c.in-Ok.ensures c.put.ensures.any_moment

pub returns-in-Ok-clause-answered : goal.returns-in-Ok-clause-answered
returns-in-Ok-clause-answered g c = created_so _ _ _ _ _ c.put.result c.in-Ok.new.items c.as_slice.result.now c.as_slice.ensures.value c.in-Ok.ensures c.put.ensures.synced c.put.ensures.in_place

pub returns-in-Err-clause-any_moment : goal.returns-in-Err-clause-any_moment
returns-in-Err-clause-any_moment g c = created_left _ _ _ _ _ (longer_is_other _ _ _ _ c.args.place.now.longer refl refl) c.leave.ensures.locks

pub returns-in-Err-clause-refused : goal.returns-in-Err-clause-refused
returns-in-Err-clause-refused g c = λ other. stays_old _ _ (longer_is_other _ _ _ _ c.args.place.now.longer refl refl) _ _ c.leave.ensures.locks

pub returns-in-Ok-clause-why : goal.returns-in-Ok-clause-why
returns-in-Ok-clause-why g c = put_why _ _ _ c.put.result c.put.ensures.fault c.put.ensures.cause

pub returns-in-Err-clause-why : goal.returns-in-Err-clause-why
returns-in-Err-clause-why g c = unmade_why _ _ _ c.in-Err.refusal c.in-Err.ensures

pub returns-in-Ok-clause-own : goal.returns-in-Ok-clause-own
returns-in-Ok-clause-own g c = c.put.ensures.own

pub returns-in-Err-clause-own : goal.returns-in-Err-clause-own
returns-in-Err-clause-own g c = c.leave.ensures.own
