-- The stack of symbols takes what each reader reads, and stops where it stops.
use Rattle.std.proofs.Common.{◌≡◌, ℕ, Bool, true, false, cond, is_some, nat_lt, Option, Some, None, Result, Ok, Err, List, [], ◌∷◌, ◌++◌, refl, ◌∙◌}
use Rattle.table_model.specs.declared.query.ColumnMention.{ColumnMention}
use Rattle.table_model.specs.declared.query.Fold.{Fold}
use Rattle.table_model.specs.declared.query.Fold.TheVariants as folds
use Rattle.table_model.specs.declared.refusal.Refusal.{Refusal}
use Rattle.table_model.specs.declared.refusal.Refusal.TheVariants.{NumberTooLarge}
use Rattle.query_parser.proofs.Simulation.{then_fault, choose_law, word_law, bind_law, stops, skips, expands, begins_alike, passes, sign_law, open_law, name_passes, digits_pass}
use Rattle.table_model.specs.Reading.{◌>>=◌}
use Rattle.query_parser.specs.Descent.{Reader, read_name, read_digits, read_literal, function_word, read_column_argument, read_quantified, read_argument, read_function, read_item_value, read_alias, read_item, begins_with_name, syntax}
use Rattle.query_parser.specs.Limits.{depth_limit}
use Rattle.query_parser.specs.Token.{choose, taken, mentioned, spelled_digits, is_large, signed, value_of, significant, place_of}
use Rattle.query_parser.specs.Stack.{Symbol, a_sign, a_name, some_digits, an_item, an_item_value, an_alias, an_argument, a_quantified, a_literal, begin, open_count, first_fault, on_name, on_function, an_argument_of}
use Rattle.query_parser.specs.declared.token.Sign.TheVariants as sign
use Rattle.query_parser.specs.declared.token.Token.{Token}

-- at most depth_limit parentheses are open round conditions
abbrev pub IsShallow : List Symbol → Type 0
IsShallow ss = nat_lt depth_limit (open_count ss) ≡ false

-- a symbol takes what a reader reads, wherever at most depth_limit parentheses are open
abbrev pub Takes : {V : Type 0} → ℕ → Symbol → Reader V → Type 0
Takes end s read = (ts : List Token) (ss : List Symbol) → IsShallow ss → first_fault end (s ∷ ss) ts ≡ then_fault end ss (read ts)

pub name_law : (end : ℕ) → Takes end a_name (read_name end)
unfolding read_name
name_law end ts ss d = choose_law _ end ss (mentioned ts) _ _ (λ r e. name_passes end a_name ss [] ts r e (rw e refl)) (λ n. stops end a_name ss ts refl (rw n refl))

large_law : {V : Type 0} (end : ℕ) (ss : List Symbol) (b : Bool) (fault : Refusal) (r : V × List Token) → cond b (Some fault) (first_fault end ss r.1) ≡ then_fault end ss (cond b (Err fault) (Ok r))
large_law end ss true fault r = refl
large_law end ss false fault r = refl

pub digits_law : (negative : Bool) (end : ℕ) → Takes end some_digits (read_digits negative end)
unfolding read_digits
digits_law negative end ts ss d =
    choose_law _ end ss (spelled_digits ts) _ _
    (λ r e. digits_pass end some_digits ss [] ts r e (rw e refl) ∙ large_law end ss (is_large r.0) (NumberTooLarge (place_of end ts)) (signed negative (value_of (significant r.0)), r.1))
    (λ n. stops end some_digits ss ts refl (rw n refl))

pub literal_law : (end : ℕ) → Takes end a_literal (read_literal end)
unfolding read_literal
literal_law end ts ss d =
    choose_law _ end ss (taken sign.Plus ts) _ _ (λ rest e. passes end sign.Plus a_literal ss (some_digits ∷ []) ts rest e refl (rw e refl) ∙ digits_law false end rest ss d)
    (λ n. choose_law _ end ss (taken sign.Minus ts) _ _ (λ rest e. passes end sign.Minus a_literal ss (some_digits ∷ []) ts rest e refl (rw (n, e) refl) ∙ digits_law true end rest ss d)
    (λ m. begins_alike end a_literal some_digits ss ts refl refl (rw (n, m) refl) ∙ digits_law false end ts ss d))

pub column_argument_law : (f : Fold) (distinct : Bool) (end : ℕ) → Takes end a_name (read_column_argument f distinct end)
unfolding read_column_argument
column_argument_law f distinct end ts ss d = bind_law _ end ss ss (read_name end ts) _ (name_law end ts ss d) (λ x e. refl)

pub quantified_law : (f : Fold) (end : ℕ) → Takes end a_quantified (read_quantified f end)
unfolding read_quantified
quantified_law f end ts ss d =
    choose_law _ end ss (taken sign.Distinct ts) _ _ (λ rest e. passes end sign.Distinct a_quantified ss (a_name ∷ []) ts rest e refl (rw e refl) ∙ column_argument_law f true end rest ss d)
    (λ n. choose_law _ end ss (taken sign.All ts) _ _ (λ rest e. passes end sign.All a_quantified ss (a_name ∷ []) ts rest e refl (rw (n, e) refl) ∙ column_argument_law f false end rest ss d)
    (λ m. begins_alike end a_quantified a_name ss ts refl refl (rw (n, m) refl) ∙ column_argument_law f false end ts ss d))

pub argument_law : (f : Fold) (end : ℕ) → Takes end (an_argument f) (read_argument f end)
unfolding read_argument
argument_law folds.Count end ts ss d =
    choose_law _ end ss (taken sign.Asterisk ts) _ _ (λ rest e. passes end sign.Asterisk (an_argument folds.Count) ss [] ts rest e refl (rw e refl))
    (λ n. begins_alike end (an_argument folds.Count) a_quantified ss ts refl refl (rw n refl) ∙ quantified_law folds.Count end ts ss d)
argument_law folds.Sum end ts ss d = begins_alike end (an_argument folds.Sum) a_quantified ss ts refl refl refl ∙ quantified_law folds.Sum end ts ss d
argument_law folds.Avg end ts ss d = begins_alike end (an_argument folds.Avg) a_quantified ss ts refl refl refl ∙ quantified_law folds.Avg end ts ss d
argument_law folds.Min end ts ss d = begins_alike end (an_argument folds.Min) a_quantified ss ts refl refl refl ∙ quantified_law folds.Min end ts ss d
argument_law folds.Max end ts ss d = begins_alike end (an_argument folds.Max) a_quantified ss ts refl refl refl ∙ quantified_law folds.Max end ts ss d

pub function_law : (f : Fold) (end : ℕ) (ts : List Token) (ss : List Symbol) → IsShallow ss → first_fault end (an_argument_of f ++ ss) ts ≡ then_fault end ss (read_function f end ts)
unfolding read_function
function_law f end ts ss d =
    open_law end ss (an_argument f ∷ a_sign sign.CloseParen ∷ ss) ts _ d
    (λ inner. bind_law _ end (a_sign sign.CloseParen ∷ ss) ss (read_argument f end inner) _ (argument_law f end inner (a_sign sign.CloseParen ∷ ss) d)
    (λ r e. sign_law end sign.CloseParen ss ss r.1 _ refl (λ rest. refl)))

-- a symbol that a set function's keyword can begin
pub function_word_law : {V : Type 0} (end : ℕ) (s : Symbol) (ss : List Symbol) (ts : List Token) (other : Option (List Symbol)) (there : Fold × List Token → Result (V × List Token) Refusal) (absent : Result (V × List Token) Refusal)
    → begin s ts ≡ on_function ts other
    → ((f : Fold) (rest : List Token) → first_fault end (an_argument_of f ++ ss) rest ≡ then_fault end ss (there (f, rest)))
    → (begin s ts ≡ other → first_fault end (s ∷ ss) ts ≡ then_fault end ss absent)
    → first_fault end (s ∷ ss) ts ≡ then_fault end ss (choose (function_word ts) there absent)
unfolding function_word
function_word_law end s ss ts other there absent b f g =
    word_law _ end ss (taken sign.Count ts) (λ rest. (folds.Count, rest)) _ there absent (λ rest e. passes end sign.Count s ss (an_argument_of folds.Count) ts rest e refl (b ∙ rw e refl) ∙ f folds.Count rest)
    (λ n1. word_law _ end ss (taken sign.Sum ts) (λ rest. (folds.Sum, rest)) _ there absent (λ rest e. passes end sign.Sum s ss (an_argument_of folds.Sum) ts rest e refl (b ∙ rw (n1, e) refl) ∙ f folds.Sum rest)
    (λ n2. word_law _ end ss (taken sign.Avg ts) (λ rest. (folds.Avg, rest)) _ there absent (λ rest e. passes end sign.Avg s ss (an_argument_of folds.Avg) ts rest e refl (b ∙ rw (n1, n2, e) refl) ∙ f folds.Avg rest)
    (λ n3. word_law _ end ss (taken sign.Min ts) (λ rest. (folds.Min, rest)) _ there absent (λ rest e. passes end sign.Min s ss (an_argument_of folds.Min) ts rest e refl (b ∙ rw (n1, n2, n3, e) refl) ∙ f folds.Min rest)
    (λ n4. word_law _ end ss (taken sign.Max ts) (λ rest. (folds.Max, rest)) None there absent (λ rest e. passes end sign.Max s ss (an_argument_of folds.Max) ts rest e refl (b ∙ rw (n1, n2, n3, n4, e) refl) ∙ f folds.Max rest)
    (λ n5. g (b ∙ rw (n1, n2, n3, n4, n5) refl))))))

-- a symbol that an identifier can begin
pub named_law : {V : Type 0} (end : ℕ) (s : Symbol) (ss : List Symbol) (ts : List Token) (other : Option (List Symbol)) (make : ColumnMention → V) (absent : Result (V × List Token) Refusal)
    → begin s ts ≡ on_name ts [] other → (begin s ts ≡ other → first_fault end (s ∷ ss) ts ≡ then_fault end ss absent)
    → first_fault end (s ∷ ss) ts ≡ then_fault end ss (cond (begins_with_name ts) (read_name end ts >>= λ r. Ok (make r.0, r.1)) absent)
unfolding read_name
named_law end s ss ts other make absent b g = by_mention (mentioned ts) refl
  where
    by_mention : (o : Option (ColumnMention × List Token)) → mentioned ts ≡ o
        → first_fault end (s ∷ ss) ts ≡ then_fault end ss (cond (is_some o) (choose o (λ r. Ok r) (syntax end ts) >>= λ r. Ok (make r.0, r.1)) absent)
    by_mention None e = g (b ∙ rw e refl)
    by_mention (Some r) e = name_passes end s ss [] ts r e (b ∙ rw e refl)

pub item_value_law : (end : ℕ) → Takes end an_item_value (read_item_value end)
unfolding read_item_value
item_value_law end ts ss d =
    named_law end an_item_value ss ts _ _ _ refl
    (λ b. function_word_law end an_item_value ss ts None _ _ b (λ f rest. bind_law _ end ss ss (read_function f end rest) _ (function_law f end rest ss d) (λ x e. refl))
    (λ n. stops end an_item_value ss ts refl n))

pub alias_law : (end : ℕ) → Takes end an_alias (read_alias end)
unfolding read_alias
alias_law end ts ss d =
    choose_law _ end ss (taken sign.As ts) _ _ (λ rest e. passes end sign.As an_alias ss (a_name ∷ []) ts rest e refl (rw e refl) ∙ bind_law _ end ss ss (read_name end rest) _ (name_law end rest ss d) (λ x e. refl))
    (λ n. named_law end an_alias ss ts None _ _ (rw n refl) (λ b. skips end an_alias ss ts refl b))

pub item_law : (end : ℕ) → Takes end an_item (read_item end)
unfolding read_item
item_law end ts ss d =
    expands end an_item an_item_value (an_alias ∷ []) ss ts refl refl refl
    ∙ bind_law _ end (an_alias ∷ ss) ss (read_item_value end ts) _ (item_value_law end ts (an_alias ∷ ss) d)
    (λ v e. bind_law _ end ss ss (read_alias end v.1) _ (alias_law end v.1 ss d) (λ x f. refl))
