-- A guess where the value stands is its place.
use Rattle.std.proofs.Common.{rules, ◌≡◌, ℤ, FitsSigned, pos, get_or, sym, ap, ◌∙◌}
use Rattle.std.specs.Int.{w64}
use Rattle.run_dictionary.specs.Dict.{code_of}
use Rattle.run_dictionary.proofs.EqualLemmas.{same_numbers}
use Rattle.run_dictionary.proofs.DictLemmas.{Ascends-from_neighbours, code_of_place}
use Rattle.run_dictionary.proofs.codes.place_near.Goals as goal

pub returns-then-dictionary-guess-clause-place : goal.returns-then-dictionary-guess-clause-place
returns-then-dictionary-guess-clause-place c =
    let xs = c.args.dictionary.now in
    let there : ℤ = get_or xs c.args.guess (pos 0) in
    let fits : FitsSigned w64 there = search rules in
    let value : there ≡ c.args.value = same_numbers there c.args.value fits c.ranges.value c.if-dictionary-guess.true in
    sym (ap (code_of xs) (sym value) ∙ code_of_place xs (Ascends-from_neighbours xs c.requires.rises) c.args.guess c.if-guess-dictionary.true)
