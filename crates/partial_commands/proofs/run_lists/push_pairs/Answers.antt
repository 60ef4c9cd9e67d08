-- One list more; at the end none is left.
use Rattle.std.proofs.Common.{◌≡◌, ◌∙◌, [], ◌∷◌, ℕ, ◌<◌, List, length, map, get_or, sym, arith}
use Rattle.std.proofs.lemmas.Grind.{common_steps}
use Rattle.std.proofs.lemmas.List.{get_or-map}
use Rattle.answer_formats.proofs.TextFormats.{next_written}
use Rattle.catalogue_join.specs.declared.run.Run.{Run}
use Rattle.partial_commands.specs.Coverage.{run_pair}
use Rattle.partial_commands.proofs.run_lists.push_pairs.Goals as goal

-- what is at a place past the end
abbrev none : Run
none = record { first = record { origin = record { 0 = 0 }; number = record { 0 = 0 } }; last = record { 0 = 0 } }

pub loop-index-preserved : goal.loop-index-preserved
loop-index-preserved c =
    let pairs : List (List ℕ) = map run_pair c.args.runs.now in
    let below : c.loop-index.index < length pairs = grind (arith, common_steps) in
    let is : run_pair (get_or c.args.runs.now c.loop-index.index none) ≡ get_or pairs c.loop-index.index [] = sym (get_or-map run_pair c.args.runs.now c.loop-index.index none [] c.loop-index-test.true) in
    let text : c.as_bytes.result.now ≡ run_pair (get_or c.args.runs.now c.loop-index.index none) = c.as_bytes.ensures.value ∙ c.in_ok-pair.ensures in
    next_written (44 ∷ []) pairs c.loop-index.index c.args.out.now.items c.loop-index.out.items c.separate.new.out.items c.extend_from_slice.new.self.items
    c.as_bytes.result.now below (text ∙ is) c.loop-index.invariant c.in_ok-separate.ensures c.in_ok-extend_from_slice.ensures.items
