use Rattle.std.proofs.Common.{◌≡◌, ◌∙◌, ap, List, arith}
use Rattle.segment_core.proofs.FormatLaws.{bytes_at}
use Rattle.catalogue_join.specs.Run.{names_in}
use Rattle.catalogue_join.specs.declared.run.Run.{Run}
use Rattle.catalogue_join.proofs.NameLists.{listed}
use Rattle.partial_file.specs.PartialAnswerBytes.{runs_of}
use Rattle.partial_file.proofs.PartialAnswerLaws.{runs_is_lawful}
use Rattle.partial_file.proofs.Rising.{runs_rise}
use Rattle.partial_file.proofs.RunLists.{runs_are}
use Rattle.partial_file.proofs.run_reading.read_names.Goals as goal

pub from_runs-requires : goal.from_runs-requires
from_runs-requires c =
    let fit = bytes_at c.args.bytes.now (λ i. omega (arith, c.type_inv.bytes i)) in
    runs_rise c.in_ok-found.found.items (runs_is_lawful.takes c.args.total c.args.bytes.now c.in_ok-found.found.items c.in_ok-found.rest.now fit c.in_ok-found.ensures).1

pub returns : goal.returns
returns c =
    let found : List Run = c.in_ok-found.found.items in
    let fit = bytes_at c.args.bytes.now (λ i. omega (arith, c.type_inv.bytes i)) in
    let rises = runs_rise found (runs_is_lawful.takes c.args.total c.args.bytes.now found c.in_ok-found.rest.now fit c.in_ok-found.ensures).1 in
    let same : runs_of c.from_runs.result ≡ found = ap runs_of c.from_runs.ensures ∙ runs_are (names_in found) found (listed found rises) rises in
    rw same c.in_ok-found.ensures
