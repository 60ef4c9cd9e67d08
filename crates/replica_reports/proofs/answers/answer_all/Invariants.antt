-- The queries before this one are answered.
use Rattle.std.proofs.Common.{◌≡◌, map, take, drop, None}
use Rattle.replica_reports.specs.Asking.{answers_report}
use Rattle.replica_reports.proofs.AskedTexts.{SoFar}
use Rattle.replica_reports.proofs.answers.answer_all.Given as goal

abbrev pub invariant-loop-index : goal.invariant-loop-index
invariant-loop-index g l = record {
  so : SoFar (g.W.Write.contents l.initial.writer.0) (g.W.Write.contents l.writer.0) (answers_report l.format l.file.replica (map (λ sql. sql.now) l.sqls)) (answers_report l.format l.file.replica (map (λ sql. sql.now) (drop l.index l.sqls)));
  answered : (answers_report l.format l.file.replica (map (λ sql. sql.now) (take l.index l.sqls))).1 ≡ None;
  kept : l.writer.1 ≡ l.initial.writer.1;
}
