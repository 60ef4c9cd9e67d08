-- The name of a part: a function of its bytes.
use Rattle.std.specs.Prelude.{ℕ, Bool, ◌&&◌, ◌==◌, List, ◌++◌, length, take, drop, codes}
use Rattle.std.specs.List.{list_all}
use Rattle.table_model.specs.Identifier.{same_text}
use Rattle.sha2.specs.Sha512.{sha512}
use Rattle.folder_model.specs.Digits.{is_digit}
use Rattle.replica_reports.specs.Digests.{first_digits}

-- the first 32 hexadecimal digits of a SHA-512, and `.lanes`
abbrev pub name_by : List ℕ → List ℕ
name_by digest = first_digits digest ++ codes ".lanes"

-- the first 32 hexadecimal digits of the SHA-512, and `.lanes`
unfoldable pub part_name : List ℕ → List ℕ
part_name bytes = name_by (sha512 bytes)

-- whether a name is one that parts have: 32 digits and `.lanes`
unfoldable pub is_part_name : List ℕ → Bool
is_part_name name = length name == 38 && (list_all is_digit (take 32 name) && same_text (drop 32 name) (codes ".lanes"))
