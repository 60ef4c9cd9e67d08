-- How the stack of symbols takes what a reader reads: the tools.
use Rattle.std.proofs.Common.{◌≡◌, ℕ, Bool, true, false, cond, ◌==◌, nat_lt, Option, Some, None, Result, Ok, Err, List, [], ◌∷◌, ◌++◌, refl, sym, ◌∙◌, ap, append_assoc, append-nil, arith}
use Rattle.std.proofs.lemmas.Bool.Decides.{nat_tests}
use Rattle.table_model.specs.declared.refusal.Refusal.{Refusal}
use Rattle.table_model.specs.declared.refusal.Refusal.TheVariants.{Syntax, NumberTooLarge, TooDeep}
use Rattle.query_parser.specs.Token.{same_sign, sign_number, choose, taken, mentioned, mention_of, spelled_digits, digits_of, is_sign, is_large, place_of}
use Rattle.table_model.specs.Reading.{◌>>=◌}
use Rattle.query_parser.specs.Descent.{syntax, read_sign}
use Rattle.query_parser.specs.Limits.{depth_limit}
use Rattle.query_parser.specs.Stack.{Symbol, a_sign, begin, may_be_empty, open_count, after, fault_of, first_fault, and_then}
use Rattle.query_parser.specs.declared.token.Kind.{Kind}
use Rattle.query_parser.specs.declared.token.Kind.TheVariants.{Identifier, Digits, Bad}
use Rattle.query_parser.specs.declared.token.Kind.TheVariants as kind
use Rattle.query_parser.specs.declared.token.Sign.{Sign}
use Rattle.query_parser.specs.declared.token.Sign.TheVariants as sign
use Rattle.query_parser.specs.declared.token.Token.{Token}
use Rattle.table_model.specs.declared.query.ColumnMention.{ColumnMention}

-- the first fault after what was read, or the fault that ended it
abbrev pub then_fault : {V : Type 0} → ℕ → List Symbol → Result (V × List Token) Refusal → Option Refusal
then_fault end ss (Ok r) = first_fault end ss r.1
then_fault end ss (Err e) = Some e

-- a choice is followed on both sides
pub choose_law : {X V : Type 0} (fault : Option Refusal) (end : ℕ) (ss : List Symbol) (o : Option X) (there : X → Result (V × List Token) Refusal) (absent : Result (V × List Token) Refusal)
    → ((x : X) → o ≡ Some x → fault ≡ then_fault end ss (there x)) → (o ≡ None → fault ≡ then_fault end ss absent) → fault ≡ then_fault end ss (choose o there absent)
choose_law fault end ss None there absent f g = g refl
choose_law fault end ss (Some x) there absent f g = f x refl

-- the same where the choice is between words
pub word_law : {X W V : Type 0} (fault : Option Refusal) (end : ℕ) (ss : List Symbol) (o : Option X) (word : X → W) (words : Option W) (there : W → Result (V × List Token) Refusal) (absent : Result (V × List Token) Refusal)
    → ((x : X) → o ≡ Some x → fault ≡ then_fault end ss (there (word x))) → (o ≡ None → fault ≡ then_fault end ss (choose words there absent))
    → fault ≡ then_fault end ss (choose (choose o (λ x. Some (word x)) words) there absent)
word_law fault end ss None word words there absent f g = g refl
word_law fault end ss (Some x) word words there absent f g = f x refl

-- what is read next goes on with the next symbols
pub bind_law : {V W : Type 0} (fault : Option Refusal) (end : ℕ) (middle ss : List Symbol) (r : Result (V × List Token) Refusal) (next : V × List Token → Result (W × List Token) Refusal)
    → fault ≡ then_fault end middle r → ((x : V × List Token) → r ≡ Ok x → first_fault end middle x.1 ≡ then_fault end ss (next x)) → fault ≡ then_fault end ss (r >>= next)
bind_law fault end middle ss (Ok x) next f g = f ∙ g x refl
bind_law fault end middle ss (Err e) next f g = f

-- the stack at the first of some tokens
pub at_token : (end : ℕ) (s : Symbol) (ss next : List Symbol) (t : Token) (ts : List Token) → begin s (t ∷ ts) ≡ Some next
    → first_fault end (s ∷ ss) (t ∷ ts) ≡ choose (fault_of (next ++ ss) t.kind t.at) (λ fault. Some fault) (first_fault end (next ++ ss) ts)
unfolding first_fault after
at_token end s ss next t ts e = rw e refl

-- a symbol that the tokens can't begin, and that has to come
pub stops : (end : ℕ) (s : Symbol) (ss : List Symbol) (ts : List Token) → may_be_empty s ≡ false → begin s ts ≡ None → first_fault end (s ∷ ss) ts ≡ Some (Syntax (place_of end ts))
unfolding first_fault after
stops end s ss [] m e = rw m refl
stops end s ss (t ∷ ts) m e = rw (e, m) refl

-- a symbol that the tokens can't begin, and that need not come
pub skips : (end : ℕ) (s : Symbol) (ss : List Symbol) (ts : List Token) → may_be_empty s ≡ true → begin s ts ≡ None → first_fault end (s ∷ ss) ts ≡ first_fault end ss ts
unfolding first_fault after
skips end s ss [] m e = rw m refl
skips end s ss (t ∷ ts) m e = rw (e, m) refl

-- a symbol that begins as another one, and then has a tail
pub expands : (end : ℕ) (s m : Symbol) (tail ss : List Symbol) (ts : List Token) → may_be_empty s ≡ false → may_be_empty m ≡ false → begin s ts ≡ and_then (begin m ts) tail
    → first_fault end (s ∷ ss) ts ≡ first_fault end (m ∷ (tail ++ ss)) ts
unfolding first_fault
expands end s m tail ss ts es em e = by_begun (begin m ts) refl
  where
    by_token : (next : List Symbol) (us : List Token) → begin m us ≡ Some next → begin s us ≡ Some (next ++ tail) → first_fault end (s ∷ ss) us ≡ first_fault end (m ∷ (tail ++ ss)) us
    by_token next [] f g = rw (es, em) refl
    by_token next (t ∷ us) f g =
        at_token end s ss (next ++ tail) t us g
        ∙ ap (λ (after : List Symbol). choose (fault_of after t.kind t.at) (λ fault. Some fault) (first_fault end after us)) (append_assoc next tail ss)
        ∙ sym (at_token end m (tail ++ ss) next t us f)

    by_begun : (o : Option (List Symbol)) → begin m ts ≡ o → first_fault end (s ∷ ss) ts ≡ first_fault end (m ∷ (tail ++ ss)) ts
    by_begun None f = stops end s ss ts es (e ∙ ap (λ o. and_then o tail) f) ∙ sym (stops end m (tail ++ ss) ts em f)
    by_begun (Some next) f = by_token next ts f (e ∙ ap (λ o. and_then o tail) f)

-- a symbol that begins as another one
pub begins_alike : (end : ℕ) (s m : Symbol) (ss : List Symbol) (ts : List Token) → may_be_empty s ≡ false → may_be_empty m ≡ false → begin s ts ≡ begin m ts
    → first_fault end (s ∷ ss) ts ≡ first_fault end (m ∷ ss) ts
begins_alike end s m ss ts es em e = expands end s m [] ss ts es em (e ∙ whole (begin m ts))
  where
    whole : (o : Option (List Symbol)) → o ≡ and_then o []
    whole None = refl
    whole (Some next) = ap (λ (xs : List Symbol). Some xs) (sym (append-nil next))

-- the kind of a sign that is taken: no opening parenthesis, if that sign is none
quiet : (k : Kind) (a : Sign) (next : List Symbol) (at : ℕ) → is_sign k a ≡ true → same_sign a sign.OpenParen ≡ false → fault_of next k at ≡ None
quiet (kind.Sign b) a next at h q =
    let same : sign_number b ≡ sign_number a = grind (arith, nat_tests) in
    let other : same_sign b sign.OpenParen ≡ false = ap (λ n. n == sign_number sign.OpenParen) same ∙ q in
    rw other refl
quiet (Identifier word) a next at h q = refl
quiet (Digits digits) a next at h q = absurd (cc)
quiet Bad a next at h q = refl

-- an opening parenthesis is no fault where at most depth_limit are open
opened : (k : Kind) (next : List Symbol) (at : ℕ) → is_sign k sign.OpenParen ≡ true → nat_lt depth_limit (open_count next) ≡ false → fault_of next k at ≡ None
opened (kind.Sign b) next at h q = rw (h, q) refl
opened (Identifier word) next at h q = refl
opened (Digits digits) next at h q = absurd (cc)
opened Bad next at h q = refl

-- and the fault where more are
too_many : (k : Kind) (next : List Symbol) (at : ℕ) → is_sign k sign.OpenParen ≡ true → nat_lt depth_limit (open_count next) ≡ true → fault_of next k at ≡ Some TooDeep
too_many (kind.Sign b) next at h q = rw (h, q) refl
too_many (Identifier word) next at h q = absurd (cc)
too_many (Digits digits) next at h q = absurd (cc)
too_many Bad next at h q = absurd (cc)

-- what a sign that is taken says of the tokens
pub taken_is : (a : Sign) (t : Token) (ts rest : List Token) → taken a (t ∷ ts) ≡ Some rest → (is_sign t.kind a ≡ true) × (ts ≡ rest)
unfolding taken
taken_is a t ts rest e = by_test (is_sign t.kind a) refl e
  where
    by_test : (b : Bool) → is_sign t.kind a ≡ b → cond b (Some ts) None ≡ Some rest → (is_sign t.kind a ≡ true) × (ts ≡ rest)
    by_test true h f = (h, cc)
    by_test false h f = absurd (cc)

-- a sign that is taken, and is no opening parenthesis, is passed
pub passes : (end : ℕ) (a : Sign) (s : Symbol) (ss next : List Symbol) (ts rest : List Token) → taken a ts ≡ Some rest → same_sign a sign.OpenParen ≡ false → begin s ts ≡ Some next
    → first_fault end (s ∷ ss) ts ≡ first_fault end (next ++ ss) rest
unfolding taken
passes end a s ss next [] rest e q f = absurd (cc)
passes end a s ss next (t ∷ ts) rest e q f =
    let is = taken_is a t ts rest e in
    at_token end s ss next t ts f ∙ rw (quiet t.kind a (next ++ ss) t.at is.0 q) (ap (first_fault end (next ++ ss)) is.1)

-- an opening parenthesis is passed where at most depth_limit are open then
pub opens : (end : ℕ) (s : Symbol) (ss next : List Symbol) (ts rest : List Token) → taken sign.OpenParen ts ≡ Some rest → nat_lt depth_limit (open_count (next ++ ss)) ≡ false → begin s ts ≡ Some next
    → first_fault end (s ∷ ss) ts ≡ first_fault end (next ++ ss) rest
unfolding taken
opens end s ss next [] rest e q f = absurd (cc)
opens end s ss next (t ∷ ts) rest e q f =
    let is = taken_is sign.OpenParen t ts rest e in
    at_token end s ss next t ts f ∙ rw (opened t.kind (next ++ ss) t.at is.0 q) (ap (first_fault end (next ++ ss)) is.1)

pub too_deep : (end : ℕ) (s : Symbol) (ss next : List Symbol) (ts rest : List Token) → taken sign.OpenParen ts ≡ Some rest → nat_lt depth_limit (open_count (next ++ ss)) ≡ true → begin s ts ≡ Some next
    → first_fault end (s ∷ ss) ts ≡ Some TooDeep
unfolding taken
too_deep end s ss next [] rest e q f = absurd (cc)
too_deep end s ss next (t ∷ ts) rest e q f =
    let is = taken_is sign.OpenParen t ts rest e in
    at_token end s ss next t ts f ∙ rw (too_many t.kind (next ++ ss) t.at is.0 q) refl

-- a sign that has to come, and what follows
pub sign_law : {V : Type 0} (end : ℕ) (a : Sign) (ss middle : List Symbol) (ts : List Token) (next : List Token → Result (V × List Token) Refusal) → same_sign a sign.OpenParen ≡ false
    → ((rest : List Token) → first_fault end middle rest ≡ then_fault end ss (next rest)) → first_fault end (a_sign a ∷ middle) ts ≡ then_fault end ss (read_sign a end ts >>= next)
unfolding read_sign
sign_law end a ss middle ts next q f = by_taken (taken a ts) refl
  where
    by_taken : (o : Option (List Token)) → taken a ts ≡ o → first_fault end (a_sign a ∷ middle) ts ≡ then_fault end ss (choose o (λ rest. Ok rest) (syntax end ts) >>= next)
    by_taken None e = stops end (a_sign a) middle ts refl (rw e refl)
    by_taken (Some rest) e = passes end a (a_sign a) middle [] ts rest e q (rw e refl) ∙ f rest

-- the same of an opening parenthesis
pub open_law : {V : Type 0} (end : ℕ) (ss middle : List Symbol) (ts : List Token) (next : List Token → Result (V × List Token) Refusal) → nat_lt depth_limit (open_count middle) ≡ false
    → ((rest : List Token) → first_fault end middle rest ≡ then_fault end ss (next rest)) → first_fault end (a_sign sign.OpenParen ∷ middle) ts ≡ then_fault end ss (read_sign sign.OpenParen end ts >>= next)
unfolding read_sign
open_law end ss middle ts next q f = by_taken (taken sign.OpenParen ts) refl
  where
    by_taken : (o : Option (List Token)) → taken sign.OpenParen ts ≡ o → first_fault end (a_sign sign.OpenParen ∷ middle) ts ≡ then_fault end ss (choose o (λ rest. Ok rest) (syntax end ts) >>= next)
    by_taken None e = stops end (a_sign sign.OpenParen) middle ts refl (rw e refl)
    by_taken (Some rest) e = opens end (a_sign sign.OpenParen) middle [] ts rest e q (rw e refl) ∙ f rest

-- the tokens behind an identifier or digits
abbrev behind : {X : Type 0} → Option (X × List Token) → List Token
behind None = []
behind (Some r) = r.1

abbrev front : Option (List ℕ × List Token) → List ℕ
front None = []
front (Some r) = r.0

-- an identifier is passed
pub name_passes : (end : ℕ) (s : Symbol) (ss next : List Symbol) (ts : List Token) (r : ColumnMention × List Token) → mentioned ts ≡ Some r → begin s ts ≡ Some next
    → first_fault end (s ∷ ss) ts ≡ first_fault end (next ++ ss) r.1
unfolding mentioned
name_passes end s ss next [] r e f = absurd (cc)
name_passes end s ss next (t ∷ ts) r e f = at_token end s ss next t ts f ∙ by_kind t.kind t.at e
  where
    by_kind : (k : Kind) (at : ℕ) → choose (mention_of k at) (λ m. Some (m, ts)) None ≡ Some r → choose (fault_of (next ++ ss) k at) (λ fault. Some fault) (first_fault end (next ++ ss) ts) ≡ first_fault end (next ++ ss) r.1
    by_kind (kind.Sign a) at h = absurd (cc)
    by_kind (Identifier word) at h = ap (first_fault end (next ++ ss)) (ap behind h)
    by_kind (Digits digits) at h = absurd (cc)
    by_kind Bad at h = absurd (cc)

-- digits are passed, or are too large
pub digits_pass : (end : ℕ) (s : Symbol) (ss next : List Symbol) (ts : List Token) (r : List ℕ × List Token) → spelled_digits ts ≡ Some r → begin s ts ≡ Some next
    → first_fault end (s ∷ ss) ts ≡ cond (is_large r.0) (Some (NumberTooLarge (place_of end ts))) (first_fault end (next ++ ss) r.1)
unfolding spelled_digits
digits_pass end s ss next [] r e f = absurd (cc)
digits_pass end s ss next (t ∷ ts) r e f = at_token end s ss next t ts f ∙ by_kind t.kind e
  where
    by_size : (b : Bool) (at : ℕ) (o : Option Refusal) → choose (cond b (Some (NumberTooLarge at)) None) (λ fault. Some fault) o ≡ cond b (Some (NumberTooLarge at)) o
    by_size true at o = refl
    by_size false at o = refl

    by_kind : (k : Kind) → choose (digits_of k) (λ digits. Some (digits, ts)) None ≡ Some r
        → choose (fault_of (next ++ ss) k t.at) (λ fault. Some fault) (first_fault end (next ++ ss) ts) ≡ cond (is_large r.0) (Some (NumberTooLarge t.at)) (first_fault end (next ++ ss) r.1)
    by_kind (kind.Sign a) h = absurd (cc)
    by_kind (Identifier word) h = absurd (cc)
    by_kind (Digits digits) h =
        by_size (is_large digits) t.at (first_fault end (next ++ ss) ts)
        ∙ ap (λ (ds : List ℕ). cond (is_large ds) (Some (NumberTooLarge t.at)) (first_fault end (next ++ ss) ts)) (ap front h)
        ∙ ap (λ (us : List Token). cond (is_large r.0) (Some (NumberTooLarge t.at)) (first_fault end (next ++ ss) us)) (ap behind h)
    by_kind Bad h = absurd (cc)
