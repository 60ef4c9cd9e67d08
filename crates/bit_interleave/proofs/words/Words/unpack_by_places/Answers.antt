-- The words are those that pack their values, of whatever type they are.
use Rattle.bit_interleave.proofs.WordsLemmas.{words_come_back}
use Rattle.bit_interleave.proofs.words.Words.unpack_by_places.Goals as goal

pub returns-in-U8-clause-back : goal.returns-in-U8-clause-back
returns-in-U8-clause-back c = words_come_back c.self.inside.stored c.args.self.now c.args.width c.self.view_is c.self.invariant c.requires

pub returns-in-U16-clause-back : goal.returns-in-U16-clause-back
returns-in-U16-clause-back c = words_come_back c.self.inside.stored c.args.self.now c.args.width c.self.view_is c.self.invariant c.requires

pub returns-in-U32-clause-back : goal.returns-in-U32-clause-back
returns-in-U32-clause-back c = words_come_back c.self.inside.stored c.args.self.now c.args.width c.self.view_is c.self.invariant c.requires

pub returns-in-U64-clause-back : goal.returns-in-U64-clause-back
returns-in-U64-clause-back c = words_come_back c.self.inside.stored c.args.self.now c.args.width c.self.view_is c.self.invariant c.requires
