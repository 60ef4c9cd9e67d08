use Rattle.std.proofs.Common.{sym, ◌∙◌, ⊎_elim, arith}
use Rattle.std.specs.String.{string_bytes}
use Rattle.folder_protocol.proofs.Lines.{joins}
use Rattle.folder_protocol.proofs.ReadLines.{among_more, among_all}
use Rattle.folder_protocol.proofs.TakeLines.{some_parts, taken_on, taken_now, read_on, untaken_later}
use Rattle.folder_protocol.proofs.Linking.{plain_more}
use Rattle.folder_protocol.proofs.taking.take_each.Goals as goal

pub loop-at-preserved : goal.loop-at-preserved
loop-at-preserved g c =
    let T = g.T.Taker in
    record {
      plain = plain_more _ _ _ c.loop-at.invariant.plain c.take_one.ensures.plain;
      within = let below = c.loop-at-test.true in omega (arith, below);
      goes = λ parts. joins parts _ _ _ (c.loop-at.invariant.goes parts) (c.take_one.ensures.in_turn parts);
      named = c.take_one.ensures.named ∙ c.loop-at.invariant.named;
      passing = λ name passes. c.loop-at.invariant.passing name (c.take_one.ensures.passing name passes);
      listing = (c.in-Ok.ensures.keeps some_parts).listing ∙ c.loop-at.invariant.listing;
      each = λ parts is name among. ⊎_elim
          (λ before. taken_on parts (T.passes c.args.taker.now) name _ _ _ _ (c.in-Ok.ensures.keeps parts) (c.loop-at.invariant.each parts is name before))
          (λ last. taken_now parts (T.passes c.args.taker.now) (T.passes c.loop-at.taker) name _ (g.F.Folder.history c.take_one.new.folder) (T.taken c.take_one.new.taker) (last ∙ sym c.as_str.ensures.value) c.loop-at.invariant.passing (c.in-Ok.ensures.one parts (is ∙ sym c.loop-at.invariant.named)))
          (among_more string_bytes c.args.names.now c.loop-at.at c.index-names-at.result name c.loop-at-test.true (sym c.index-names-at.is) among);
      only = λ parts is. read_on parts (T.taken c.args.taker.now) _ _ _ _ (c.in-Ok.ensures.keeps parts) (c.loop-at.invariant.only parts is) (c.in-Ok.ensures.only parts (is ∙ sym c.loop-at.invariant.named));
    }

pub returns-in-Err-clause-in_turn : goal.returns-in-Err-clause-in_turn
returns-in-Err-clause-in_turn g c = λ parts. joins parts _ _ _ (c.loop-at.invariant.goes parts) (c.take_one.ensures.in_turn parts)

pub returns-in-Err-clause-cause : goal.returns-in-Err-clause-cause
returns-in-Err-clause-cause g c =
    let goes = c.loop-at.invariant.goes some_parts in
    untaken_later c.in-Err.fault _ _ _ (goes.0, goes.1) c.in-Err.ensures.cause

pub returns-clause-taken : goal.returns-clause-taken
returns-clause-taken g c = λ parts is name among. c.loop-at.invariant.each parts is name (among_all string_bytes c.args.names.now c.loop-at.at name (let above = c.loop-at-test.false in omega (arith, above)) among)

pub returns-in-Err-clause-plain : goal.returns-in-Err-clause-plain
returns-in-Err-clause-plain g c = plain_more _ _ _ c.loop-at.invariant.plain c.take_one.ensures.plain

pub returns-clause-plain : goal.returns-clause-plain
returns-clause-plain g c = c.loop-at.invariant.plain
