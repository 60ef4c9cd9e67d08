-- What the grammar has as a query is read, unless the text exceeds a limit.
use Rattle.std.proofs.Common.{◌≡◌, ℕ, false, Option, Some, None, List, [], refl, inl, inr}
use Rattle.table_model.specs.Formula.{Formula}
use Rattle.table_model.specs.Query.{QueryShape}
use Rattle.table_model.specs.declared.query.ColumnMention.{ColumnMention}
use Rattle.table_model.specs.declared.query.Item.{Item}
use Rattle.query_parser.proofs.Beginnings.{apart, sign_no_name}
use Rattle.query_parser.proofs.Converse.{name_agrees, item_agrees, NoAlias}
use Rattle.query_parser.proofs.ConverseConditions.{Room, condition_agrees}
use Rattle.query_parser.proofs.Lengths.{name_short, item_short}
use Rattle.query_parser.proofs.Taking.{Fits, Agrees, reads, then_agrees, chosen, passed_over, sign_agrees, fits-taken, listed_agrees}
use Rattle.query_parser.specs.Descent.{read_name, read_item, read_items, read_condition, read_clause, read_filter, read_having, read_columns, read_grouping, read_query}
use Rattle.query_parser.specs.Grammar.{IsSign, IsName, Listed, IsClause, IsGrouping, IsItem, IsQuery}
use Rattle.query_parser.specs.Limits.{depth_of}
use Rattle.query_parser.specs.Token.{same_sign, taken}
use Rattle.query_parser.specs.declared.predicate.Clause.{Clause}
use Rattle.query_parser.specs.declared.predicate.Clause.TheVariants.{Where, Having}
use Rattle.query_parser.specs.declared.token.Sign.{Sign}
use Rattle.query_parser.specs.declared.token.Sign.TheVariants as sign
use Rattle.query_parser.specs.declared.token.Token.{Token}

items_agree : (E : Type 0) (end : ℕ) (items : List Item) (from to next : List Token) → Listed IsItem sign.Comma from items to → IsSign sign.From to next → Fits E from → Agrees E (read_items end from) items to
unfolding read_items
items_agree E end items from to next l w d =
    listed_agrees E NoAlias IsItem (read_item end) sign.Comma (item_agrees E end) (λ mid next h. (apart sign.Comma sign.As mid next refl h, sign_no_name sign.Comma mid next h)) (item_short end) from items to l
    (apart sign.From sign.As to next refl w, sign_no_name sign.From to next w) (apart sign.From sign.Comma to next refl w) d

-- a clause, where its keyword doesn't follow, nor what a condition goes on with
clause_agrees : (E : Type 0) (s : Sign) (c : Clause) (levels end : ℕ) (f : Option Formula) (from to : List Token) → IsClause s c f from to → Fits E from → Room E levels (depth_of f)
    → taken s to ≡ None → taken sign.Is to ≡ None → taken sign.And to ≡ None → taken sign.Or to ≡ None → Agrees E (read_clause s c levels end from) f to
clause_agrees E s c levels end None from to h d room k n a o = passed_over E (taken s from) _ _ None to (rw h k) (rw h (reads refl (rw h at d)))
clause_agrees E s c levels end (Some f) from to (a, (w, h)) d room k n m o =
    chosen E (taken s from) _ _ a _ to w
    (then_agrees E (read_condition c levels end a) _ f to _ to (condition_agrees E c levels end f a to h (fits-taken E s from a w d) room n m o) (λ k. reads refl k))

-- the columns of GROUP BY, where neither GROUP nor a comma follows
grouping_agrees : (E : Type 0) (end : ℕ) (columns : List ColumnMention) (from to : List Token) → IsGrouping columns from to → Fits E from → taken sign.Group to ≡ None → taken sign.Comma to ≡ None
    → Agrees E (read_grouping end from) columns to
unfolding read_grouping read_columns
grouping_agrees E end columns from to (inl h) d g n = rw h.0 (passed_over E (taken sign.Group from) _ _ _ to (rw h.1 g) (rw h.1 (reads refl (rw h.1 at d))))
grouping_agrees E end columns from to (inr (a, (b, (w, (y, l))))) d g n =
    chosen E (taken sign.Group from) _ _ a columns to w
    (sign_agrees E sign.By end a b _ columns to y
    (listed_agrees E (λ _. Unit {0}) IsName (read_name end) sign.Comma (λ m from to h _ k. name_agrees E end m from to h k) (λ mid next h. tt) (name_short end) b columns to l tt n
    (fits-taken E sign.By a b y (fits-taken E sign.Group from a w d))))

-- behind the columns of GROUP BY stands HAVING or nothing
having_begins : (h : Option Formula) (from : List Token) (s : Sign) → same_sign sign.Having s ≡ false → IsClause sign.Having Having h from [] → taken s from ≡ None
unfolding taken
having_begins None from s q h = rw h refl
having_begins (Some f) from s q (a, (w, h)) = apart sign.Having s from a q w

-- behind WHERE and its condition stands GROUP, HAVING or nothing
rest_begins : (columns : List ColumnMention) (h : Option Formula) (from mid : List Token) (s : Sign) → same_sign sign.Group s ≡ false → same_sign sign.Having s ≡ false
    → IsGrouping columns from mid → IsClause sign.Having Having h mid [] → taken s from ≡ None
rest_begins columns h from mid s q r (inl g) k = rw g.1 (having_begins h mid s r k)
rest_begins columns h from mid s q r (inr (a, (b, (w, rest)))) k = apart sign.Group s from a q w

pub query_agrees : (E : Type 0) (levels end : ℕ) (q : QueryShape) (ts : List Token) → IsQuery q ts [] → Fits E ts → Room E levels (depth_of q.filter) → Room E levels (depth_of q.having) → Agrees E (read_query levels end ts) q []
unfolding read_query read_filter read_having taken
query_agrees E levels end q ts is d low high =
    sign_agrees E sign.Select end ts is.behind_select _ q [] is.select
    (then_agrees E (read_items end is.behind_select) _ q.items is.behind_items q [] (items_agree E end q.items is.behind_select is.behind_items is.behind_from is.items is.of (fits-taken E sign.Select ts is.behind_select is.select d))
    (λ d. sign_agrees E sign.From end is.behind_items is.behind_from _ q [] is.of
    (then_agrees E (read_name end is.behind_from) _ (record { name = q.table; at = is.place }) is.behind_table q []
    (name_agrees E end (record { name = q.table; at = is.place }) is.behind_from is.behind_table is.table (fits-taken E sign.From is.behind_items is.behind_from is.of d))
    (λ d. then_agrees E (read_clause sign.Where Where levels end is.behind_table) _ q.filter is.behind_filter q []
    (clause_agrees E sign.Where Where levels end q.filter is.behind_table is.behind_filter is.filter d low (begins sign.Where refl refl) (begins sign.Is refl refl) (begins sign.And refl refl) (begins sign.Or refl refl))
    (λ d. then_agrees E (read_grouping end is.behind_filter) _ q.grouping is.behind_grouping q []
    (grouping_agrees E end q.grouping is.behind_filter is.behind_grouping is.grouping d (having_begins q.having is.behind_grouping sign.Group refl is.having) (having_begins q.having is.behind_grouping sign.Comma refl is.having))
    (λ d. then_agrees E (read_clause sign.Having Having levels end is.behind_grouping) _ q.having [] q [] (clause_agrees E sign.Having Having levels end q.having is.behind_grouping [] is.having d high refl refl refl refl)
    (λ d. reads refl d)))))))
  where
    begins : (s : Sign) → same_sign sign.Group s ≡ false → same_sign sign.Having s ≡ false → taken s is.behind_filter ≡ None
    begins s g h = rest_begins q.grouping q.having is.behind_filter is.behind_grouping s g h is.grouping is.having
