-- The rows of the text were loaded, and the load is imported; or the rows weren't loaded.
use Rattle.std.proofs.Common.{inl}
use Rattle.std.proofs.lemmas.Result.{err_from_is_err_and}
use Rattle.lanes_c.specs.Rooms.{given_by}
use Rattle.lanes_c.proofs.Importings.{imports_of}
use Rattle.lanes_c.proofs.changing.imported_text.Goals as goal

pub returns-in_err-load : goal.returns-in_err-load
returns-in_err-load c =
    let p = err_from_is_err_and c.from_residual.result c.from_residual.ensures.1 in
    rw (p.1, p.2) (inl c.in_err-load.ensures.fault)

pub returns : goal.returns
returns c = imports_of (given_by c.imported.result) c.in_ok-load.load c.args.first c.args.words.now c.args.file.now c.args.csv.now c.args.has_heading c.in_ok-load.ensures.load c.imported.ensures
