-- How the tests go on over items and entries, one after the other.
use Rattle.std.proofs.Common.{◌≡◌, ℕ, ◌+◌, ◌<◌, ◌≤◌, ◌==◌, Bool, true, false, ◌||◌, List, [], ◌∷◌, suc, arith, drop, length, get_or, Option, Some, refl, ap, sym, ◌∙◌, bytes_eq, if◌then◌else◌}
use Rattle.std.specs.List.{list_any}
use Rattle.std.specs.Option.{option_map_or}
use Rattle.std.proofs.lemmas.Bool.{eqb-true}
use Rattle.std.proofs.lemmas.List.{drop_more, drop_all}
use Rattle.indexmap.specs.IndexSet.{insert_key}
use Rattle.graphql_names.specs.NameValue.{NameValue}
use Rattle.graphql_names.specs.Node.{content}
use Rattle.graphql_names.specs.declared.node.Node.{Node}
use Rattle.tree_literals.specs.declared.value.Value.{Value}
use Rattle.rule_selection_queries.specs.Tests.{Plain, PlainEntries, plain, plain_items, plain_entries, first_under, unseen_key, same, same_items, differing_key}

abbrev Entry : Type 0
Entry = NameValue × Node Value

module _ (es : List Entry) (i : ℕ) (e : Entry) (h : i < length es) (is : e ≡ get_or es i e) where
  next : drop i es ≡ e ∷ drop (i + 1) es
  next = drop_more es i e h ∙ ap (λ x. x ∷ drop (i + 1) es) (sym is)

  module _ (seen : List (List ℕ)) (all : Option (List ℕ)) (so : all ≡ unseen_key seen (plain_entries (drop i es))) (r : Bool) (d : r ≡ list_any (bytes_eq e.0.text) seen) where
    unseen_turn : all ≡ (if r then unseen_key seen (plain_entries (drop (i + 1) es)) else Some e.0.text)
    unseen_turn = so ∙ ap (λ l. unseen_key seen (plain_entries l)) next ∙ ap (λ b. if b then unseen_key seen (plain_entries (drop (i + 1) es)) else Some e.0.text) (sym d)

    pub unseen_on : r ≡ true → all ≡ unseen_key seen (plain_entries (drop (i + 1) es))
    unseen_on t = unseen_turn ∙ ap (λ b. if b then unseen_key seen (plain_entries (drop (i + 1) es)) else Some e.0.text) t

    pub unseen_here : r ≡ false → Some e.0.text ≡ all
    unseen_here f = sym (unseen_turn ∙ ap (λ b. if b then unseen_key seen (plain_entries (drop (i + 1) es)) else Some e.0.text) f)

  module _ (fs : PlainEntries) (seen : List (List ℕ)) (all : Option (List ℕ)) (so : all ≡ differing_key seen (plain_entries (drop i es)) fs) (other : Option Plain) (first : other ≡ first_under e.0.text fs)
      (r : Bool) (d : r ≡ (list_any (bytes_eq e.0.text) seen || option_map_or (same (plain (content e.1))) other false)) where
    abbrev rest : Option (List ℕ)
    rest = differing_key (insert_key bytes_eq seen e.0.text) (plain_entries (drop (i + 1) es)) fs

    key_turn : all ≡ (if r then rest else Some e.0.text)
    key_turn =
        so ∙ ap (λ l. differing_key seen (plain_entries l) fs) next
        ∙ ap (λ o. if list_any (bytes_eq e.0.text) seen || option_map_or (same (plain (content e.1))) o false then rest else Some e.0.text) (sym first)
        ∙ ap (λ b. if b then rest else Some e.0.text) (sym d)

    pub key_on : (names : List (List ℕ)) → names ≡ insert_key bytes_eq seen e.0.text → r ≡ true → all ≡ differing_key names (plain_entries (drop (i + 1) es)) fs
    key_on names n t = key_turn ∙ ap (λ b. if b then rest else Some e.0.text) t ∙ ap (λ l. differing_key l (plain_entries (drop (i + 1) es)) fs) (sym n)

    pub key_here : r ≡ false → Some e.0.text ≡ all
    key_here f = sym (key_turn ∙ ap (λ b. if b then rest else Some e.0.text) f)

-- at the end
pub keys_end : (es : List Entry) (i : ℕ) (fs : PlainEntries) (seen : List (List ℕ)) → length es ≤ i → differing_key seen (plain_entries (drop i es)) fs ≡ unseen_key seen fs
keys_end es i fs seen h = ap (λ l. differing_key seen (plain_entries l) fs) (drop_all i es h)

not_zero : (n : ℕ) → (suc n == 0) ≡ false
not_zero n = by (suc n == 0) refl
  where
    by : (b : Bool) → (suc n == 0) ≡ b → (suc n == 0) ≡ false
    by true e = absurd (omega (arith, eqb-true (suc n) 0 e))
    by false e = e

pub items_end : (vs us : List (Node Value)) (i : ℕ) → length vs ≤ i → same_items (plain_items (drop i vs)) (plain_items us) ≡ (length us == 0)
items_end vs us i h = ap (λ l. same_items (plain_items l) (plain_items us)) (drop_all i vs h) ∙ by us
  where
    by : (us : List (Node Value)) → same_items (plain_items []) (plain_items us) ≡ (length us == 0)
    by [] = refl
    by (u ∷ us) = sym (not_zero (length us))
