-- Runs of numbers of one origin: the set of batch names that a list of them represents, and the places of names on one line.
use Rattle.std.specs.Prelude.{ℕ, zero, suc, ◌+◌, ◌-◌, ◌*◌, Bool, ◌&&◌, nat_lt, List, [], ◌∷◌, ◌++◌, min, max}
use Rattle.std.specs.FinSet as set
use Rattle.table_model.specs.Name.{name_cmp, is_proper_name}
use Rattle.table_model.specs.declared.names.Origin.{Origin}
use Rattle.table_model.specs.declared.names.BatchName.{BatchName}
use Rattle.catalogue_join.specs.Span.{Shape}
use Rattle.catalogue_join.specs.declared.run.Run.{Run}

-- the batch with this number at an origin
abbrev pub name_at : Origin → ℕ → BatchName
name_at origin n = record { origin = origin; number = record { 0 = n } }

-- a number of names of an origin, the first having the number n
abbrev pub names_from : Origin → ℕ → ℕ → List BatchName
names_from origin n zero = []
names_from origin n (suc count) = name_at origin n ∷ names_from origin (n + 1) count

-- how many names a run has
abbrev pub run_length : Run → ℕ
run_length r = r.last.0 + 1 - r.first.number.0

-- the names of a run, in order
abbrev pub names_of : Run → List BatchName
names_of r = names_from r.first.origin r.first.number.0 (run_length r)

-- the names of a list of runs, in order
abbrev pub names_listed : List Run → List BatchName
names_listed [] = []
names_listed (r ∷ rs) = names_of r ++ names_listed rs

-- the set of the names of a list of runs
unfoldable pub names_in : List Run → set.FinSet name_cmp
names_in rs = set.from_list (names_listed rs)

-- where a batch's name is on the line: origins lie so far apart that names of two origins are never next to each other
abbrev pub name_place : Origin → ℕ → ℕ
name_place origin n = origin.0 * 8589934592 + n

-- a proper name, and numbers within their bounds
abbrev pub is_named_run : Run → Bool
is_named_run r = is_proper_name r.first && (nat_lt r.first.origin.0 4294967296 && (nat_lt r.first.number.0 4294967296 && nat_lt r.last.0 4294967296))

-- a run of numbers on the line
abbrev pub run_shape : Shape Run
run_shape = record {
  low = λ r. name_place r.first.origin r.first.number.0;
  high = λ r. name_place r.first.origin r.last.0;
  named = is_named_run;
  hull = λ r q. record { first = name_at r.first.origin (min r.first.number.0 q.first.number.0); last = record { 0 = max r.last.0 q.last.0 } };
}
