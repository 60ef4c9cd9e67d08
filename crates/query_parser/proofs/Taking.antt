-- What the grammar has is read, unless the text exceeds a limit: the tools.
use Rattle.std.proofs.Common.{◌≡◌, ◌≤◌, ℕ, true, Option, Some, None, Result, Ok, Err, List, [], ◌∷◌, length, sym, ◌∙◌, ap, ◌⊎◌, arith}
use Rattle.table_model.specs.declared.query.ColumnMention.{ColumnMention}
use Rattle.table_model.specs.declared.refusal.Refusal.{Refusal}
use Rattle.table_model.specs.declared.refusal.Refusal.TheVariants.{NumberTooLarge, TooDeep}
use Rattle.query_parser.proofs.Lengths.{AtMost, Shrinks}
use Rattle.query_parser.proofs.Many.{IsLeft, goes_on_within, fails, ends}
use Rattle.query_parser.proofs.Simulation.{taken_is}
use Rattle.table_model.specs.Reading.{◌>>=◌}
use Rattle.query_parser.specs.Descent.{Reader, read_sign, read_more, read_many, one_more}
use Rattle.query_parser.specs.Grammar.{Listed, only, more}
use Rattle.query_parser.specs.Limits.{is_large_number}
use Rattle.query_parser.specs.Token.{choose, is_large, taken, mention_of, mentioned, digits_of, spelled_digits}
use Rattle.query_parser.specs.declared.token.Kind.{Kind}
use Rattle.query_parser.specs.declared.token.Kind.TheVariants.{Identifier, Digits, Bad}
use Rattle.query_parser.specs.declared.token.Kind.TheVariants as kind
use Rattle.query_parser.specs.declared.token.Sign.{Sign}
use Rattle.query_parser.specs.declared.token.Token.{Token}

-- E holds where a literal among the tokens has too many digits
abbrev pub Fits : Type 0 → List Token → Type 0
Fits E [] = Unit {0}
Fits E (t ∷ ts) = (is_large_number t.kind ≡ true → E) × Fits E ts

-- the fault of a limit
abbrev pub IsLimit : Refusal → Type 0
IsLimit e = (e ≡ TooDeep) ⊎ ((at : ℕ) × (e ≡ NumberTooLarge at))

-- what was read is this, with these tokens behind it; or a limit was reached, and E holds
pub data Agrees {V : Type 0} (E : Type 0) (r : Result (V × List Token) Refusal) (v : V) (to : List Token) : Type 0 where
  reads : r ≡ Ok (v, to) → Fits E to → Agrees E r v to
  stops : E → (e : Refusal) → r ≡ Err e → IsLimit e → Agrees E r v to

pub then_agrees : {V W : Type 0} (E : Type 0) (r : Result (V × List Token) Refusal) (next : V × List Token → Result (W × List Token) Refusal) (v : V) (mid : List Token) (w : W) (to : List Token)
    → Agrees E r v mid → (Fits E mid → Agrees E (next (v, mid)) w to) → Agrees E (r >>= next) w to
then_agrees E r next v mid w to (reads e d) f = rw e (f d)
then_agrees E r next v mid w to (stops x e h l) f = stops x e (ap (λ o. o >>= next) h) l

pub chosen : {X V : Type 0} (E : Type 0) (o : Option X) (there : X → Result (V × List Token) Refusal) (absent : Result (V × List Token) Refusal) (x : X) (v : V) (to : List Token)
    → o ≡ Some x → Agrees E (there x) v to → Agrees E (choose o there absent) v to
chosen E o there absent x v to e h = rw e h

pub passed_over : {X V : Type 0} (E : Type 0) (o : Option X) (there : X → Result (V × List Token) Refusal) (absent : Result (V × List Token) Refusal) (v : V) (to : List Token)
    → o ≡ None → Agrees E absent v to → Agrees E (choose o there absent) v to
passed_over E o there absent v to e h = rw e h

pub sign_agrees : {V : Type 0} (E : Type 0) (s : Sign) (end : ℕ) (ts rest : List Token) (next : List Token → Result (V × List Token) Refusal) (v : V) (to : List Token)
    → taken s ts ≡ Some rest → Agrees E (next rest) v to → Agrees E (read_sign s end ts >>= next) v to
unfolding read_sign
sign_agrees E s end ts rest next v to e h = rw e h

-- tokens behind others keep within the limits
pub fits-taken : (E : Type 0) (s : Sign) (ts rest : List Token) → taken s ts ≡ Some rest → Fits E ts → Fits E rest
unfolding taken
fits-taken E s [] rest e d = absurd (cc)
fits-taken E s (t ∷ ts) rest e d = let is = taken_is s t ts rest e in rw (← is.1) d.1

abbrev behind_name : Option (ColumnMention × List Token) → List Token
behind_name None = []
behind_name (Some r) = r.1

pub fits-mentioned : (E : Type 0) (ts : List Token) (r : ColumnMention × List Token) → mentioned ts ≡ Some r → Fits E ts → Fits E r.1
unfolding mentioned
fits-mentioned E [] r e d = absurd (cc)
fits-mentioned E (t ∷ ts) r e d = by_mention (mention_of t.kind t.at) e
  where
    by_mention : (o : Option ColumnMention) → choose o (λ m. Some (m, ts)) None ≡ Some r → Fits E r.1
    by_mention None h = absurd (cc)
    by_mention (Some m) h = let same : ts ≡ r.1 = ap behind_name h in rw (← same) d.1

abbrev digits_in : Option (List ℕ × List Token) → List ℕ
digits_in None = []
digits_in (Some r) = r.0

abbrev behind_digits : Option (List ℕ × List Token) → List Token
behind_digits None = []
behind_digits (Some r) = r.1

pub fits-digits : (E : Type 0) (ts : List Token) (r : List ℕ × List Token) → spelled_digits ts ≡ Some r → Fits E ts → (is_large r.0 ≡ true → E) × Fits E r.1
unfolding spelled_digits
fits-digits E [] r e d = absurd (cc)
fits-digits E (t ∷ ts) r e d = by_kind t.kind e d.0
  where
    by_kind : (k : Kind) → choose (digits_of k) (λ digits. Some (digits, ts)) None ≡ Some r → (is_large_number k ≡ true → E) → (is_large r.0 ≡ true → E) × Fits E r.1
    by_kind (kind.Sign s) h f = absurd (cc)
    by_kind (Identifier word) h f = absurd (cc)
    by_kind (Digits digits) h f =
        let left : ts ≡ r.1 = ap behind_digits h in
        let same : digits ≡ r.0 = ap digits_in h in
        (λ l. f (ap is_large same ∙ l), rw (← left) d.1)
    by_kind Bad h f = absurd (cc)

-- what the parts so far and the tokens that are left give, unless a limit was reached
pub data Gone {V A : Type 0} (E : Type 0) (read : Reader V) (s : Sign) (join : A → V → A) (front : A) (ts : List Token) (total : Result (A × List Token) Refusal) : Type 0 where
  so_far : IsLeft read s join front ts total → Fits E ts → Gone E read s join front ts total
  stopped : E → (e : Refusal) → total ≡ Err e → IsLimit e → Gone E read s join front ts total

pub first_part : {V A : Type 0} (E : Type 0) (read : Reader V) (s : Sign) (join : A → V → A) (start : A) (v : V) (from to : List Token)
    → Agrees E (read from) v to → Gone E read s join (join start v) to (read_many read s join start from)
unfolding read_many
first_part E read s join start v from to (reads e d) =
    so_far (record { bound = length to; fits = omega arith; gives = sym (ap (λ o. o >>= λ r. read_more read s join (length r.1) (join start r.0) r.1) e) }) d
first_part E read s join start v from to (stops x e h l) = stopped x e (ap (λ o. o >>= λ r. read_more read s join (length r.1) (join start r.0) r.1) h) l

short : {V : Type 0} (n : ℕ) (r : Result (V × List Token) Refusal) (v : V) (to : List Token) → AtMost n r → r ≡ Ok (v, to) → length to ≤ n
short n (Ok y) v to h e = let same : y ≡ (v, to) = cc in rw (ap (λ x. x.1) same) at h
short n (Err f) v to h e = absurd (cc)

pub next_part : {V A : Type 0} (E : Type 0) (read : Reader V) (s : Sign) (join : A → V → A) (front : A) (v : V) (mid next to : List Token) (total : Result (A × List Token) Refusal)
    → Shrinks read → Gone E read s join front mid total → taken s mid ≡ Some next → (Fits E next → Agrees E (read next) v to) → Gone E read s join (join front v) to total
next_part E read s join front v mid next to total k (stopped x e h l) w f = stopped x e h l
next_part E read s join front v mid next to total k (so_far left d) w f = by_part (f (fits-taken E s mid next w d))
  where
    by_part : Agrees E (read next) v to → Gone E read s join (join front v) to total
    by_part (reads e c) = so_far (goes_on_within read s join front mid next to total v left w e (short (length next) (read next) v to (k next) e)) c
    by_part (stops x e h l) = stopped x e (fails read s join front mid next total e left w h) l

pub last_part : {V A : Type 0} (E : Type 0) (read : Reader V) (s : Sign) (join : A → V → A) (front : A) (to : List Token) (total : Result (A × List Token) Refusal)
    → Gone E read s join front to total → taken s to ≡ None → Agrees E total front to
last_part E read s join front to total (so_far left d) n = reads (ends read s join front to total left n) d
last_part E read s join front to total (stopped x e h l) n = stops x e h l

-- a list is read part by part, where each part is read before what follows it
pub listed_gone : {V : Type 0} (E : Type 0) (N : List Token → Type 0) (R : V → List Token → List Token → Type 0) (read : Reader V) (s : Sign)
    → ((v : V) (from to : List Token) → R v from to → N to → Fits E from → Agrees E (read from) v to)
    → ((mid next : List Token) → taken s mid ≡ Some next → N mid)
    → Shrinks read → (from : List Token) (vs : List V) (to : List Token) → Listed R s from vs to → N to → Fits E from → Gone E read s one_more vs to (read_many read s one_more [] from)
listed_gone E N R read s f h k from vs to (only v u r) n d = first_part E read s one_more [] v from u (f v from u r n d)
listed_gone E N R read s f h k from vs to (more us v mid next u l e r) n d =
    next_part E read s one_more us v mid next u (read_many read s one_more [] from) k (listed_gone E N R read s f h k from us mid l (h mid next e) d) e (λ c. f v next u r n c)

pub listed_agrees : {V : Type 0} (E : Type 0) (N : List Token → Type 0) (R : V → List Token → List Token → Type 0) (read : Reader V) (s : Sign)
    → ((v : V) (from to : List Token) → R v from to → N to → Fits E from → Agrees E (read from) v to)
    → ((mid next : List Token) → taken s mid ≡ Some next → N mid)
    → Shrinks read → (from : List Token) (vs : List V) (to : List Token) → Listed R s from vs to → N to → taken s to ≡ None → Fits E from → Agrees E (read_many read s one_more [] from) vs to
listed_agrees E N R read s f h k from vs to l n m d = last_part E read s one_more vs to _ (listed_gone E N R read s f h k from vs to l n d) m
