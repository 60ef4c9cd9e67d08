-- A loop that reads one part after another: how the tokens that are left go on from the parts so far.
use Rattle.std.proofs.Common.{◌≡◌, ℕ, zero, suc, ◌+◌, ◌<◌, ◌≤◌, cond, Bool, true, false, Some, None, Result, Ok, Err, List, [], ◌∷◌, length, refl, sym, ◌∙◌, ap, inl, inr, ◌⊎◌, arith}
use Rattle.table_model.specs.declared.refusal.Refusal.{Refusal}
use Rattle.table_model.specs.declared.refusal.Refusal.TheVariants.{Memory}
use Rattle.table_model.specs.Reading.{◌>>=◌}
use Rattle.query_parser.specs.Descent.{Reader, read_more}
use Rattle.query_parser.specs.Token.{taken, is_sign}
use Rattle.query_parser.specs.declared.token.Sign.{Sign}
use Rattle.query_parser.specs.declared.token.Token.{Token}

-- a sign that is taken is one token
pub length-taken : (s : Sign) (ts rest : List Token) → taken s ts ≡ Some rest → length ts ≡ length rest + 1
unfolding taken
length-taken s [] rest e = absurd (cc)
length-taken s (t ∷ ts) rest e = by_sign (is_sign t.kind s) e
  where
    by_sign : (b : Bool) → cond b (Some ts) None ≡ Some rest → length (t ∷ ts) ≡ length rest + 1
    by_sign true h = let same : ts ≡ rest = cc in rw same (omega arith)
    by_sign false h = absurd (cc)

-- one part more
pub more_once : {V A : Type 0} (read : Reader V) (s : Sign) (join : A → V → A) (n : ℕ) (front : A) (ts next : List Token) → taken s ts ≡ Some next
    → read_more read s join (suc n) front ts ≡ (read next >>= λ r. read_more read s join n (join front r.0) r.1)
unfolding read_more
more_once read s join n front ts next e = rw e refl

-- what is left where a part follows
pub record IsLeft {V A : Type 0} (read : Reader V) (s : Sign) (join : A → V → A) (front : A) (ts : List Token) (total : Result (A × List Token) Refusal) : Type 0 where
  pub bound : ℕ
  pub fits : length ts ≤ bound
  pub gives : read_more read s join bound front ts ≡ total

pub goes_on_within : {V A : Type 0} (read : Reader V) (s : Sign) (join : A → V → A) (front : A) (ts next left : List Token) (total : Result (A × List Token) Refusal) (v : V)
    → IsLeft read s join front ts total → taken s ts ≡ Some next → read next ≡ Ok (v, left) → length left ≤ length next → IsLeft read s join (join front v) left total
goes_on_within read s join front ts next left total v state e f h = by_bound state.bound state.fits state.gives
  where
    by_bound : (n : ℕ) → length ts ≤ n → read_more read s join n front ts ≡ total → IsLeft read s join (join front v) left total
    by_bound zero fits gives = absurd (omega (arith, length-taken s ts next e))
    by_bound (suc n) fits gives =
        record {
          bound = n;
          fits = omega (arith, length-taken s ts next e);
          gives = sym (more_once read s join n front ts next e ∙ ap (λ o. o >>= λ r. read_more read s join n (join front r.0) r.1) f) ∙ gives;
        }

pub goes_on : {V A : Type 0} (read : Reader V) (s : Sign) (join : A → V → A) (front : A) (ts next left : List Token) (total : Result (A × List Token) Refusal) (v : V)
    → IsLeft read s join front ts total → taken s ts ≡ Some next → read next ≡ Ok (v, left) → length left < length next → IsLeft read s join (join front v) left total
goes_on read s join front ts next left total v state e f h = goes_on_within read s join front ts next left total v state e f (omega arith)

-- a part that fails ends it all
pub fails : {V A : Type 0} (read : Reader V) (s : Sign) (join : A → V → A) (front : A) (ts next : List Token) (total : Result (A × List Token) Refusal) (fault : Refusal)
    → IsLeft read s join front ts total → taken s ts ≡ Some next → read next ≡ Err fault → total ≡ Err fault
fails read s join front ts next total fault state e f = by_bound state.bound state.fits state.gives
  where
    by_bound : (n : ℕ) → length ts ≤ n → read_more read s join n front ts ≡ total → total ≡ Err fault
    by_bound zero fits gives = absurd (omega (arith, length-taken s ts next e))
    by_bound (suc n) fits gives = sym gives ∙ more_once read s join n front ts next e ∙ ap (λ o. o >>= λ r. read_more read s join n (join front r.0) r.1) f

-- the same where Memory may stand in the fault's place
pub fails_or : {V A : Type 0} (read : Reader V) (s : Sign) (join : A → V → A) (front : A) (ts next : List Token) (total : Result (A × List Token) Refusal) (fault : Refusal)
    → IsLeft read s join front ts total → taken s ts ≡ Some next → (read next ≡ Err fault) ⊎ (fault ≡ Memory) → (total ≡ Err fault) ⊎ (fault ≡ Memory)
fails_or read s join front ts next total fault state e (inl f) = inl (fails read s join front ts next total fault state e f)
fails_or read s join front ts next total fault state e (inr m) = inr m

-- no sign ends it with the parts so far
pub ends : {V A : Type 0} (read : Reader V) (s : Sign) (join : A → V → A) (front : A) (ts : List Token) (total : Result (A × List Token) Refusal)
    → IsLeft read s join front ts total → taken s ts ≡ None → total ≡ Ok (front, ts)
unfolding read_more
ends read s join front ts total state e = by_bound state.bound state.gives
  where
    by_bound : (n : ℕ) → read_more read s join n front ts ≡ total → total ≡ Ok (front, ts)
    by_bound zero gives = sym gives
    by_bound (suc n) gives = sym gives ∙ rw e refl
