-- What the lemmas of each part say.
use Rattle.table_spread.proofs.Shares.{joined_all}
use Rattle.table_spread.proofs.ShareFacts.{share_facts}
use Rattle.table_spread.proofs.ApartShares.{are_apart, gathers, answers}
use Rattle.table_spread.proofs.MergedShares.{merged_all, held_all}
use Rattle.table_spread.proofs.laws.spread_laws.Goals as goal

pub returns : goal.returns
returns c = record {
  shares = share_facts;
  whole = λ firsts s n le. joined_all firsts s n le;
  apart = are_apart;
  gathers = λ table query firsts s n le. gathers firsts s table query n le;
  answers = λ table query firsts s n c le is. answers firsts s table query n c le is;
  merges = λ firsts r n limit le. merged_all firsts r limit n le;
  files = λ firsts table s n limit le written. held_all firsts table s written n limit le;
}
