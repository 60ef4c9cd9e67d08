-- All laws.
use Rattle.folder_model.specs.Parts.{IsThere}
use Rattle.folder_model.specs.Run.{AtSome}
use Rattle.folder_model.specs.Laws.{FolderHistoryLaws}
use Rattle.folder_model.proofs.Runs.{settled, held, killed, turns_run, held_run, safe_for_ever, put_is_safe, put_is_read, placed_is_held, reads_all, readers_have}
use Rattle.folder_model.proofs.Alone.{put_is_listed, put_is_found, watched_is_listed, placed_apart, safe_is_found}
use Rattle.folder_model.proofs.Gone.{gone_is_safe, gone_is_found}

pub folder_model_laws : FolderHistoryLaws
folder_model_laws = record {
  safe = λ parts events d e run fair. safe_for_ever parts events d e run fair;
  held = held;
  put = λ parts events d e run fair bytes at. put_is_safe parts events d e run fair bytes at;
  had = λ parts events d e run fair process all bytes at. put_is_read parts events d e run fair process all bytes at;
  settled = settled;
  until = λ parts events d e run fair bytes at. held_run parts fair.order (λ b. AtSome (λ w. IsThere parts w.disk b) parts events d e run) fair.distinct events d e run fair.quiet (λ b t. t) bytes at;
  placed = λ parts events d e run fair process bytes. placed_is_held parts events d e run fair process bytes;
  reads = λ parts events d e run fair process all. reads_all parts events d e run fair process all;
  have = λ parts events d e run fair process all. readers_have parts events d e run fair process all;
  killed = killed;
  runs = turns_run;
  listed = λ parts events d e run fair process names listed bytes at. put_is_listed parts events d e run fair process names listed bytes at;
  found = λ parts events d e run fair process names listed bytes at. put_is_found parts events d e run fair process names listed bytes at;
  watched = λ parts events d e run fair process names watched bytes at. watched_is_listed parts events d e run fair process names watched bytes at;
  apart = λ parts events d e run fair p q ne a b seen have first second. placed_apart parts events d e run fair p q ne a b seen have first second;
  gone = λ parts events d e run fair process bytes at. gone_is_safe parts events d e run fair process bytes at;
  safe_found = λ parts events d e run fair process names listed bytes at. safe_is_found parts events d e run fair process names listed bytes at;
  gone_found = λ parts events d e run fair process names listed bytes at. gone_is_found parts events d e run fair process names listed bytes at;
}
