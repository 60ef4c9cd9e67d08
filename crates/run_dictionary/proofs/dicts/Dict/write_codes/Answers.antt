-- The codes of all rows are unpacked, and each is the place of its value.
use Rattle.std.proofs.Common.{◌≡◌, ◌↔◌, ℕ, ◌<◌, length, sym, ap, ◌∙◌, subst}
use Rattle.bit_interleave.specs.Range.{value_at}
use Rattle.run_dictionary.specs.Dict.{DictForm, packed_code, code_at, dict_values}
use Rattle.run_dictionary.proofs.DictLemmas.{codes_by_place, codes_alike}
use Rattle.run_dictionary.proofs.dicts.Dict.write_codes.Goals as goal

pub returns-clause-codes : goal.returns-clause-codes
returns-clause-codes c = λ n h.
    let codes = c.self.inside.codes in
    codes_by_place c.packed_width.result codes c.unpack_by_places.new.numbers c.self.invariant.words c.unpack_by_places.ensures.numbers n h
    ∙ ap (λ (w : ℕ). packed_code w codes n) c.packed_width.ensures ∙ ap (λ (form : DictForm). code_at form n) c.self.view_is

pub returns-clause-below : goal.returns-clause-below
returns-clause-below c = λ n h.
    let read = returns-clause-codes c n h in
    subst (λ (k : ℕ). k < length c.args.self.now.values) (sym read) (subst (λ (form : DictForm). code_at form n < length form.values) c.self.view_is (c.self.invariant.codes n h))

pub returns-clause-alike : goal.returns-clause-alike
returns-clause-alike c = λ m n a b.
    let first = returns-clause-codes c m a in
    let second = returns-clause-codes c n b in
    let alike = subst (λ (form : DictForm). (code_at form m ≡ code_at form n) ↔ (value_at (dict_values form) m ≡ value_at (dict_values form) n)) c.self.view_is (codes_alike _ c.self.invariant m n a b) in
    (λ e. alike.0 (sym first ∙ e ∙ second), λ e. first ∙ alike.1 e ∙ sym second)
