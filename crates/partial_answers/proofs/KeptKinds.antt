-- A group more, or less, and each still keeps what was asked for.
use Rattle.std.specs.Prelude.{◌≡◌, ℕ, Bool, true, false, cond, List, [], map as each, Option, Some, None}
use Rattle.std.proofs.Common.{sym, ap, ◌∙◌}
use Rattle.std.specs.BTreeMap.{get, is_at}
use Rattle.std.specs.Global.{Vec}
use Rattle.std.specs.Map.{lookup}
use Rattle.std.specs.Ordering.{eq_by_cmp}
use Rattle.table_model.specs.Group.{key_cmp}
use Rattle.table_model.specs.State.{Cells}
use Rattle.partial_answers.specs.Kinds.{AllKeep}
use Rattle.partial_answers.specs.Refusing.{KeptGroups, kept_kind}
use Rattle.partial_answers.specs.declared.kept.Kept.{Kept}
use Rattle.partial_answers.proofs.GroupsMore.{left_there}

some_one : (x y : Vec Kept) → Some x ≡ Some y → x ≡ y
some_one x y e = cc

of_both : (kinds : List ℕ) (b : Bool) (new v : Vec Kept) (old now : Option (Vec Kept)) → now ≡ cond b (Some new) old → now ≡ Some v → each kept_kind new.items ≡ kinds → (old ≡ Some v → each kept_kind v.items ≡ kinds) → each kept_kind v.items ≡ kinds
of_both kinds true new v old now is at here there = ap (λ (x : Vec Kept). each kept_kind x.items) (some_one v new (sym at ∙ is)) ∙ here
of_both kinds false new v old now is at here there = there (sym is ∙ at)

pub put_keep : (kinds : List ℕ) (key : Cells) (new : Vec Kept) (old now : KeptGroups) → ((k : Cells) → get key_cmp now k ≡ cond (eq_by_cmp key_cmp key k) (Some new) (get key_cmp old k)) → each kept_kind new.items ≡ kinds → AllKeep kinds old → AllKeep kinds now
put_keep kinds key new old now is here keep = λ k v at. of_both kinds (eq_by_cmp key_cmp key k) new v (get key_cmp old k) (get key_cmp now k) (is k) at here (keep k v)

pub left_keep : (kinds : List ℕ) (key : Cells) (old now : KeptGroups) → ((k : Cells) → get key_cmp now k ≡ cond (eq_by_cmp key_cmp key k) None (get key_cmp old k)) → AllKeep kinds old → AllKeep kinds now
left_keep kinds key old now is keep = λ k v at. keep k v (left_there (eq_by_cmp key_cmp key k) (get key_cmp old k) (get key_cmp now k) v (is k) at)

none-some : (v : Vec Kept) → None ≡ Some v → ⊥
none-some v e = cc

-- no group keeps anything else
pub none_keep : (kinds : List ℕ) (m : KeptGroups) → m.entries ≡ [] → AllKeep kinds m
none_keep kinds m none = λ k v at. absurd (none-some v (sym (ap (λ es. lookup (is_at (key_cmp k)) es) none) ∙ at))
