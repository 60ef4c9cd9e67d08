-- The parts of a folder are read one after another.
use Rattle.std.specs.Prelude.{◌≡◌, ◌⊎◌, ℕ, ◌+◌, ◌<◌, Bool, true, false, List, [], ◌∷◌, ◌++◌, filter, length, map, take, drop, Some}
use Rattle.std.proofs.Common.{refl, sym, ap, subst, ◌∙◌, arith, get_or, inl, inr, ⊎_elim, length-append}
use Rattle.std.proofs.Math.Path.{transport}
use Rattle.std.proofs.lemmas.List.{map-append, length-map}
use Rattle.folder_model.specs.Call.{Call, Read}
use Rattle.folder_model.specs.Disk.{Among}
use Rattle.folder_model.specs.Turn.{HasReadSince}
use Rattle.folder_protocol.specs.Causes.{HasCall}
use Rattle.folder_protocol.specs.Keeping.{Finds}
use Rattle.folder_protocol.specs.declared.taking.Untaken.{Untaken}
use Rattle.folder_protocol.specs.declared.taking.Untaken.TheVariants.{Gone, Failed, Refused}
use Rattle.folder_protocol.proofs.Causing.{Follows, has_now, has_later, has_before}
use Rattle.folder_parts.specs.Covers.{folder_parts}
use Rattle.folder_parts.specs.Parts.{PartForm, IsWhole}
use Rattle.folder_parts.specs.declared.fault.PartRefusal.{PartRefusal}
use Rattle.folder_commands.specs.ReadParts.{AreFound, AreReadSoFar, IfRefused, More, ReadsOne, StopsReading, names_of}
use Rattle.folder_commands.proofs.Going.{kept, kept_first, passed_over}

-- ---- one more

among_end : (part : PartForm) (parts : List PartForm) (last : PartForm) → Among part (parts ++ last ∷ []) → Among part parts ⊎ (part ≡ last)
among_end part [] last among = ⊎_elim (λ is. inr is) (λ none. absurd none) among
among_end part (next ∷ parts) last (inl is) = inl (inl is)
among_end part (next ∷ parts) last (inr among) = ⊎_elim (λ a. inl (inr a)) (λ is. inr is) (among_end part parts last among)

names_more : (parts : List PartForm) (name bytes : List ℕ) (names : List (List ℕ)) → names_of parts ≡ names → names_of (parts ++ record { name = name; bytes = bytes } ∷ []) ≡ names ++ name ∷ []
names_more parts name bytes names is = map-append (λ (part : PartForm). part.name) parts (record { name = name; bytes = bytes } ∷ []) ∙ ap (λ (l : List (List ℕ)). l ++ name ∷ []) is

count_more : (parts : List PartForm) (part : PartForm) (many : ℕ) → length parts ≡ many → length (parts ++ part ∷ []) ≡ many + 1
count_more parts part many is = length-append parts (part ∷ []) ∙ ap (λ (n : ℕ). n + 1) is

-- none was read yet
pub none_read : (P : List PartForm → Type 0) (h : List Call) → P [] → AreReadSoFar P 0 [] h h
none_read P h so = record {
  parts = [];
  found = λ part among. absurd among;
  since = λ part among. absurd among;
  named = refl;
  counted = refl;
  so = so;
}

module _ (P Q : List PartForm → Type 0) (many : ℕ) (names : List (List ℕ)) (name : List ℕ) (before mid after : List Call) (read : AreReadSoFar P many names before mid) (first : Follows before mid) (one : ReadsOne name (More P Q) mid after) where
  abbrev newest : PartForm
  newest = record { name = name; bytes = one.0 }

  abbrev all : List PartForm
  all = read.parts ++ newest ∷ []

  found : AreFound all before after
  found part among =
      ⊎_elim
      (λ a. has_before (Finds part.name part.bytes) before mid after (Read name (Some (Some one.0)) ∷ [], one.1) (read.found part a))
      (λ is. subst (λ (p : PartForm). HasCall (Finds p.name p.bytes) before after) (sym is) (has_later (Finds name one.0) before mid after first (has_now (Finds name one.0) mid after (Read name (Some (Some one.0))) one.1 (refl, refl))))
      (among_end part read.parts newest among)

  since : (part : PartForm) → Among part all → IsWhole part → HasReadSince folder_parts part.bytes after
  since part among whole =
      subst (λ (l : List Call). HasReadSince folder_parts part.bytes l) (sym one.1)
      (⊎_elim (λ a. inr (read.since part a whole)) (λ is. inl (ap (λ (p : PartForm). p.bytes) (sym is), ap (λ (p : PartForm). p.name) (sym is) ∙ whole)) (among_end part read.parts newest among))

  pub read_more : AreReadSoFar Q (many + 1) (names ++ name ∷ []) before after
  read_more = record {
    parts = all;
    found = found;
    since = since;
    named = names_more read.parts name one.0 names read.named;
    counted = count_more read.parts newest many read.counted;
    so = one.2 read.parts read.so;
  }

  pub stops_reading : (refusal : PartRefusal) (wanted rest : List (List ℕ)) → refusal.part ≡ many → wanted ≡ (names ++ name ∷ []) ++ rest → StopsReading Q refusal wanted before after
  stops_reading refusal wanted rest place split =
      let long = count_more read.parts newest many read.counted in
      record {
        parts = all;
        rest = rest;
        found = found;
        named = split ∙ ap (λ (l : List (List ℕ)). l ++ rest) (sym (names_more read.parts name one.0 names read.named));
        counted = omega (arith, long, place);
        so = one.2 read.parts read.so;
      }

-- what follows is so, too
pub read_so : (P Q : List PartForm → Type 0) → ((parts : List PartForm) → P parts → Q parts) → (many : ℕ) (names : List (List ℕ)) (before after : List Call) → AreReadSoFar P many names before after → AreReadSoFar Q many names before after
read_so P Q follows many names before after read = record {
  parts = read.parts;
  found = read.found;
  since = read.since;
  named = read.named;
  counted = read.counted;
  so = follows read.parts read.so;
}

-- there are as many names as parts
pub count_names : (parts : List PartForm) (many : ℕ) → length parts ≡ many → length (names_of parts) ≡ many
count_names parts many is = length-map parts (λ (part : PartForm). part.name) ∙ is

-- ---- after other calls

pub found_later : (parts : List PartForm) (before mid after : List Call) → Follows before mid → AreFound parts mid after → AreFound parts before after
found_later parts before mid after first found part among = has_later (Finds part.name part.bytes) before mid after first (found part among)

-- ---- those of some names that are wanted

-- what is so of a refusal
pub if_refused : {E : Type 0} (fault : Untaken E) (P Q : E → Type 0) → ((refusal : E) → P refusal → Q refusal) → IfRefused fault P → IfRefused fault Q
if_refused Gone P Q more so = tt
if_refused (Failed error) P Q more so = tt
if_refused (Refused refusal) P Q more so = more refusal so

module _ {X : Type 0} (f : X → List ℕ) (p : List ℕ → Bool) (names : List X) (i : ℕ) (x : X) (below : i < length names) (is : x ≡ get_or names i x) where
  -- one that is not
  pub read_over : (P : List PartForm → Type 0) (many next : ℕ) (before mid now : List Call) → p (f x) ≡ false → next ≡ many → now ≡ mid → AreReadSoFar P many (filter p (take i (map f names))) before mid → AreReadSoFar P next (filter p (take (i + 1) (map f names))) before now
  read_over P many next before mid now fails same still read =
      let left : filter p (take (i + 1) (map f names)) ≡ filter p (take i (map f names)) = passed_over f p names i x below is fails in transport (λ j. AreReadSoFar P (sym same j) (sym left j) before (sym still j)) read

  -- one that is, and is read
  module _ (P Q : List PartForm → Type 0) (many : ℕ) (name : List ℕ) (before mid after : List Call) (named : name ≡ f x) (passes : p (f x) ≡ true) (read : AreReadSoFar P many (filter p (take i (map f names))) before mid) (first : Follows before mid) (one : ReadsOne name (More P Q) mid after) where
    own : ReadsOne (f x) (More P Q) mid after
    own = subst (λ (n : List ℕ). ReadsOne n (More P Q) mid after) named one

    pub read_next : (next : ℕ) (now : List Call) → next ≡ many + 1 → now ≡ after → AreReadSoFar Q next (filter p (take (i + 1) (map f names))) before now
    read_next next now same still =
        let more : filter p (take (i + 1) (map f names)) ≡ filter p (take i (map f names)) ++ f x ∷ [] = kept f p names i x below is passes in
        transport (λ j. AreReadSoFar Q (sym same j) (sym more j) before (sym still j)) (read_more P Q many (filter p (take i (map f names))) (f x) before mid after read first own)

    pub read_stops : (refusal : PartRefusal) → refusal.part ≡ many → StopsReading Q refusal (filter p (map f names)) before after
    read_stops refusal place =
        stops_reading P Q many (filter p (take i (map f names))) (f x) before mid after read first own refusal (filter p (map f names)) (filter p (drop (i + 1) (map f names))) place (kept_first f p names i x below is passes)
