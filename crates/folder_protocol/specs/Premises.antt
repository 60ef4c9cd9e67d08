-- After which calls a part may be put, or may take the place of others.
use Rattle.std.specs.Prelude.{◌≡◌, ℕ, List, Some}
use Rattle.folder_model.specs.Call.{Call, Exclusive, lock_of}
use Rattle.folder_model.specs.Parts.{Parts, IsNoPart}
use Rattle.folder_model.specs.Turn.{Ready, Guarded, stage_of}
use Rattle.folder_protocol.specs.Goes.{AreJoined}

-- The exclusive lock is held.
abbrev pub IsExclusive : List Call → Type 0
IsExclusive calls = lock_of calls ≡ Some Exclusive

-- The open file is a temporary of this name. These bytes are written to it, and it is synced.
abbrev pub IsWritten : Parts → List ℕ → List ℕ → List Call → Type 0
IsWritten parts temporary bytes calls = stage_of parts calls ≡ Ready temporary bytes

-- The part with these bytes was read and synced, and then the folder was synced. All was under the exclusive lock, which is still held.
abbrev pub IsGuarded : Parts → List ℕ → List Call → Type 0
IsGuarded parts bytes calls = stage_of parts calls ≡ Guarded bytes

-- The part's name is that of its bytes. The temporary's name is no part's.
abbrev pub MayPut : Parts → List ℕ → List ℕ → List ℕ → Type 0
MayPut parts temporary name bytes = (name ≡ parts.name_of bytes) × IsNoPart parts temporary

-- The part may be put, and its temporary is written.
abbrev pub MayPlace : Parts → List ℕ → List ℕ → List ℕ → List Call → Type 0
MayPlace parts temporary name bytes calls = MayPut parts temporary name bytes × IsWritten parts temporary bytes calls

-- The part may be put, its temporary is written, and it covers the parts of these other names, which were read.
abbrev pub MayReplace : Parts → List ℕ → List ℕ → List ℕ → List (List ℕ) → List Call → Type 0
MayReplace parts temporary name bytes joined calls = MayPlace parts temporary name bytes calls × AreJoined parts bytes joined calls

-- The part's name is that of its bytes. It covers the parts of these other names, which were read.
abbrev pub MayRemove : Parts → List ℕ → List ℕ → List (List ℕ) → List Call → Type 0
MayRemove parts name bytes joined calls = (name ≡ parts.name_of bytes) × AreJoined parts bytes joined calls
