-- Tokens that begin with one sign, an identifier or digits begin with nothing else.
use Rattle.std.proofs.Common.{◌≡◌, ℕ, true, false, cond, ◌==◌, Option, Some, None, List, [], ◌∷◌, refl, ◌∙◌, ap, arith}
use Rattle.std.proofs.lemmas.Bool.Decides.{nat_tests}
use Rattle.table_model.specs.declared.op.Op.{Op}
use Rattle.table_model.specs.declared.op.Op.TheVariants as op
use Rattle.table_model.specs.declared.query.ColumnMention.{ColumnMention}
use Rattle.table_model.specs.declared.query.Fold.{Fold}
use Rattle.table_model.specs.declared.query.Fold.TheVariants as folds
use Rattle.query_parser.proofs.Simulation.{taken_is}
use Rattle.query_parser.specs.Descent.{function_word, comparison_word}
use Rattle.query_parser.specs.Grammar.{word_of, sign_of}
use Rattle.query_parser.specs.Token.{same_sign, sign_number, choose, is_sign, taken, mention_of, mentioned, digits_of, spelled_digits}
use Rattle.query_parser.specs.declared.token.Kind.{Kind}
use Rattle.query_parser.specs.declared.token.Kind.TheVariants.{Identifier, Digits, Bad}
use Rattle.query_parser.specs.declared.token.Kind.TheVariants as kind
use Rattle.query_parser.specs.declared.token.Sign.{Sign}
use Rattle.query_parser.specs.declared.token.Sign.TheVariants as sign
use Rattle.query_parser.specs.declared.token.Token.{Token}

-- a token that is one sign is no other
apart_kind : (k : Kind) (a b : Sign) → same_sign a b ≡ false → is_sign k a ≡ true → is_sign k b ≡ false
apart_kind (kind.Sign c) a b q h =
    let same : sign_number c ≡ sign_number a = grind (arith, nat_tests) in
    ap (λ n. n == sign_number b) same ∙ q
apart_kind (Identifier word) a b q h = refl
apart_kind (Digits digits) a b q h = refl
apart_kind Bad a b q h = refl

pub apart : (a b : Sign) (ts rest : List Token) → same_sign a b ≡ false → taken a ts ≡ Some rest → taken b ts ≡ None
unfolding taken
apart a b [] rest q e = refl
apart a b (t ∷ ts) rest q e = rw (apart_kind t.kind a b q (taken_is a t ts rest e).0) refl

-- an identifier is no sign
pub name_apart : (s : Sign) (ts : List Token) (r : ColumnMention × List Token) → mentioned ts ≡ Some r → taken s ts ≡ None
unfolding mentioned taken
name_apart s [] r e = refl
name_apart s (t ∷ ts) r e = by_kind t.kind e
  where
    by_kind : (k : Kind) → choose (mention_of k t.at) (λ m. Some (m, ts)) None ≡ Some r → cond (is_sign k s) (Some ts) None ≡ None
    by_kind (kind.Sign a) h = absurd (cc)
    by_kind (Identifier word) h = refl
    by_kind (Digits digits) h = refl
    by_kind Bad h = refl

-- digits are no sign
pub digits_apart : (s : Sign) (ts : List Token) (r : List ℕ × List Token) → spelled_digits ts ≡ Some r → taken s ts ≡ None
unfolding spelled_digits taken
digits_apart s [] r e = refl
digits_apart s (t ∷ ts) r e = by_kind t.kind e
  where
    by_kind : (k : Kind) → choose (digits_of k) (λ digits. Some (digits, ts)) None ≡ Some r → cond (is_sign k s) (Some ts) None ≡ None
    by_kind (kind.Sign a) h = absurd (cc)
    by_kind (Identifier word) h = refl
    by_kind (Digits digits) h = refl
    by_kind Bad h = refl

-- a sign is no identifier
pub sign_no_name : (s : Sign) (ts rest : List Token) → taken s ts ≡ Some rest → mentioned ts ≡ None
unfolding mentioned taken
sign_no_name s [] rest e = refl
sign_no_name s (t ∷ ts) rest e = by_kind t.kind (taken_is s t ts rest e).0
  where
    by_kind : (k : Kind) → is_sign k s ≡ true → choose {Y = Option (ColumnMention × List Token)} (mention_of k t.at) (λ m. Some (m, ts)) None ≡ None
    by_kind (kind.Sign a) h = refl
    by_kind (Identifier word) h = absurd (cc)
    by_kind (Digits digits) h = refl
    by_kind Bad h = refl

-- digits are no identifier
pub digits_no_name : (ts : List Token) (r : List ℕ × List Token) → spelled_digits ts ≡ Some r → mentioned ts ≡ None
unfolding spelled_digits mentioned
digits_no_name [] r e = refl
digits_no_name (t ∷ ts) r e = by_kind t.kind e
  where
    by_kind : (k : Kind) → choose (digits_of k) (λ digits. Some (digits, ts)) None ≡ Some r → choose {Y = Option (ColumnMention × List Token)} (mention_of k t.at) (λ m. Some (m, ts)) None ≡ None
    by_kind (kind.Sign a) h = refl
    by_kind (Identifier word) h = absurd (cc)
    by_kind (Digits digits) h = refl
    by_kind Bad h = refl

-- a set function's keyword is read as that function's
pub function_reads : (f : Fold) (ts rest : List Token) → taken (word_of f) ts ≡ Some rest → function_word ts ≡ Some (f, rest)
unfolding function_word
function_reads folds.Count ts rest e = rw e refl
function_reads folds.Sum ts rest e = rw (apart sign.Sum sign.Count ts rest refl e, e) refl
function_reads folds.Avg ts rest e = rw (apart sign.Avg sign.Count ts rest refl e, apart sign.Avg sign.Sum ts rest refl e, e) refl
function_reads folds.Min ts rest e = rw (apart sign.Min sign.Count ts rest refl e, apart sign.Min sign.Sum ts rest refl e, apart sign.Min sign.Avg ts rest refl e, e) refl
function_reads folds.Max ts rest e =
    rw (apart sign.Max sign.Count ts rest refl e, apart sign.Max sign.Sum ts rest refl e, apart sign.Max sign.Avg ts rest refl e, apart sign.Max sign.Min ts rest refl e, e) refl

pub no_function : (ts : List Token) → ((f : Fold) → taken (word_of f) ts ≡ None) → function_word ts ≡ None
unfolding function_word
no_function ts h = rw (h folds.Count, h folds.Sum, h folds.Avg, h folds.Min, h folds.Max) refl

-- a comparison's sign is read as that comparison's
pub comparison_reads : (o : Op) (ts rest : List Token) → taken (sign_of o) ts ≡ Some rest → comparison_word ts ≡ Some (o, rest)
unfolding comparison_word
comparison_reads op.Equal ts rest e = rw e refl
comparison_reads op.NotEqual ts rest e = rw (apart sign.NotEqual sign.Equal ts rest refl e, e) refl
comparison_reads op.Less ts rest e = rw (apart sign.Less sign.Equal ts rest refl e, apart sign.Less sign.NotEqual ts rest refl e, e) refl
comparison_reads op.LessOrEqual ts rest e =
    rw (apart sign.LessOrEqual sign.Equal ts rest refl e, apart sign.LessOrEqual sign.NotEqual ts rest refl e, apart sign.LessOrEqual sign.Less ts rest refl e, e) refl
comparison_reads op.Greater ts rest e =
    rw (apart sign.Greater sign.Equal ts rest refl e, apart sign.Greater sign.NotEqual ts rest refl e, apart sign.Greater sign.Less ts rest refl e, apart sign.Greater sign.LessOrEqual ts rest refl e, e) refl
comparison_reads op.GreaterOrEqual ts rest e =
    rw (
      apart sign.GreaterOrEqual sign.Equal ts rest refl e,
      apart sign.GreaterOrEqual sign.NotEqual ts rest refl e,
      apart sign.GreaterOrEqual sign.Less ts rest refl e,
      apart sign.GreaterOrEqual sign.LessOrEqual ts rest refl e,
      apart sign.GreaterOrEqual sign.Greater ts rest refl e,
      e,
    )
    refl

-- another sign is no comparison
pub no_comparison : (s : Sign) (ts rest : List Token) → ((o : Op) → same_sign s (sign_of o) ≡ false) → taken s ts ≡ Some rest → comparison_word ts ≡ None
unfolding comparison_word
no_comparison s ts rest q e =
    let none : (o : Op) → taken (sign_of o) ts ≡ None = λ o. apart s (sign_of o) ts rest (q o) e in
    rw (none op.Equal, none op.NotEqual, none op.Less, none op.LessOrEqual, none op.Greater, none op.GreaterOrEqual) refl
