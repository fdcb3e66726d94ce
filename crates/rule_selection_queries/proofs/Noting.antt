-- What is noted: names, and the first value under each key.
use Rattle.std.proofs.Common.{◌≡◌, ℕ, ◌+◌, ◌<◌, ◌≤◌, Bool, true, false, cond, ◌||◌, List, [], ◌∷◌, ◌++◌, map, drop, length, get_or, Option, None, Some, refl, ap, sym, subst, ◌∙◌, true≢false, is_some, bytes_eq, if◌then◌else◌}
use Rattle.std.specs.List.{list_any}
use Rattle.std.specs.Option.{option_map, option_or}
use Rattle.std.proofs.lemmas.List.{drop_more, drop_all}
use Rattle.std.proofs.lemmas.Slice.Eq.{bytes_eq-Decides}
use Rattle.std.specs.Map.{lookup}
use Rattle.indexmap.specs.IndexMap.{IndexMap, get, get_by}
use Rattle.indexmap.specs.IndexSet.{insert_key}
use Rattle.graphql_names.specs.NameValue.{NameValue}
use Rattle.graphql_names.specs.Node.{content}
use Rattle.graphql_names.specs.declared.node.Node.{Node}
use Rattle.tree_literals.specs.declared.value.Value.{Value}
use Rattle.rule_selection_queries.specs.Tests.{Plain, plain, plain_entries, first_under, value_under}

abbrev text_of : NameValue → List ℕ
text_of k = k.text

-- ---- names

map_push : (ks : List NameValue) (k : NameValue) → map text_of (ks ++ k ∷ []) ≡ map text_of ks ++ k.text ∷ []
map_push [] k = refl
map_push (a ∷ ks) k = ap (λ l. a.text ∷ l) (map_push ks k)

-- a name among those of keys
pub any_text : (n : List ℕ) (ks : List NameValue) → list_any (λ (a : NameValue). bytes_eq n a.text) ks ≡ list_any (bytes_eq n) (map text_of ks)
any_text n [] = refl
any_text n (a ∷ ks) = ap (λ b. bytes_eq n a.text || b) (any_text n ks)

-- one more key
pub inserted : (ks : List NameValue) (k : NameValue) → map text_of (insert_key (λ (a b : NameValue). bytes_eq a.text b.text) ks k) ≡ insert_key bytes_eq (map text_of ks) k.text
inserted ks k = by (list_any (λ (a : NameValue). bytes_eq k.text a.text) ks) refl
  where
    by : (b : Bool) → list_any (λ (a : NameValue). bytes_eq k.text a.text) ks ≡ b → map text_of (if b then ks else ks ++ k ∷ []) ≡ insert_key bytes_eq (map text_of ks) k.text
    by true is = ap (λ b. if b then map text_of ks else map text_of ks ++ k.text ∷ []) (sym is ∙ any_text k.text ks)
    by false is = map_push ks k ∙ ap (λ b. if b then map text_of ks else map text_of ks ++ k.text ∷ []) (sym is ∙ any_text k.text ks)

-- ---- the first value under each key

abbrev same_name : NameValue → NameValue → Bool
same_name a b = bytes_eq a.text b.text

or_none : {X : Type 0} (o : Option X) → o ≡ option_or o None
or_none None = refl
or_none (Some x) = refl

none_there : (o : Option (Node Value)) → is_some o ≡ false → option_map (λ (v : Node Value). plain (content v)) o ≡ None
none_there None e = refl
none_there (Some v) e = absurd (true≢false e)

module _ {S : Type 0} where
  under_text : (m : IndexMap NameValue (Node Value) S) (a b : NameValue) → a.text ≡ b.text → value_under a m ≡ value_under b m
  under_text m a b e = ap (λ (t : List ℕ). option_map (λ (v : Node Value). plain (content v)) (get_by (λ (k : NameValue). bytes_eq t k.text) m)) e

  -- a value under a key that the map had not: the key is a copy
  pub noted_value : (old new : IndexMap NameValue (Node Value) S) (copy k n : NameValue) (w : Node Value) (v : Plain) → copy ≡ k → get same_name new n ≡ cond (bytes_eq copy.text n.text) (Some w) (get same_name old n)
      → is_some (get same_name old k) ≡ false → plain (content w) ≡ v → value_under n new ≡ option_or (value_under n old) (if bytes_eq k.text n.text then Some v else None)
  noted_value old new copy k n w v same puts absent is =
      ap (option_map (λ (x : Node Value). plain (content x))) (puts ∙ ap (λ (x : NameValue). cond (bytes_eq x.text n.text) (Some w) (get same_name old n)) same) ∙ by (bytes_eq k.text n.text) refl
    where
      by : (b : Bool) → bytes_eq k.text n.text ≡ b → option_map (λ (x : Node Value). plain (content x)) (cond b (Some w) (get same_name old n)) ≡ option_or (value_under n old) (if b then Some v else None)
      by true e = ap Some is ∙ ap (λ o. option_or o (Some v)) (sym (sym (under_text old k n ((bytes_eq-Decides k.text n.text).0 e)) ∙ none_there (get same_name old k) absent))
      by false e = or_none (value_under n old)

  -- a key that the map has
  pub known_value : (old : IndexMap NameValue (Node Value) S) (k n : NameValue) (v : Plain) → is_some (get same_name old k) ≡ true
      → value_under n old ≡ option_or (value_under n old) (if bytes_eq k.text n.text then Some v else None)
  known_value old k n v there = by (bytes_eq k.text n.text) refl
    where
      kept : (o : Option (Node Value)) → is_some o ≡ true → option_map (λ (x : Node Value). plain (content x)) o ≡ option_or (option_map (λ (x : Node Value). plain (content x)) o) (Some v)
      kept None e = absurd (true≢false (sym e))
      kept (Some x) e = refl

      by : (b : Bool) → bytes_eq k.text n.text ≡ b → value_under n old ≡ option_or (value_under n old) (if b then Some v else None)
      by true e = subst (λ o. o ≡ option_or o (Some v)) (under_text old k n ((bytes_eq-Decides k.text n.text).0 e)) (kept (get same_name old k) there)
      by false e = or_none (value_under n old)

  -- the map after one entry more has what it had, or else what the rest has first
  pub values_more : (es : List (NameValue × Node Value)) (i : ℕ) (e : NameValue × Node Value) → i < length es → e ≡ get_or es i e → (all : Option Plain) (n : NameValue) (old new : IndexMap NameValue (Node Value) S)
      → value_under n new ≡ option_or (value_under n old) (if bytes_eq e.0.text n.text then Some (plain (content e.1)) else None)
      → all ≡ option_or (value_under n old) (first_under n.text (plain_entries (drop i es)))
      → all ≡ option_or (value_under n new) (first_under n.text (plain_entries (drop (i + 1) es)))
  values_more es i e h is all n old new puts so =
      so ∙ ap (λ l. option_or (value_under n old) (first_under n.text (plain_entries l))) (drop_more es i e h ∙ ap (λ x. x ∷ drop (i + 1) es) (sym is))
      ∙ by (value_under n old) (bytes_eq e.0.text n.text) ∙ ap (λ o. option_or o rest) (sym puts)
    where
      rest : Option Plain
      rest = first_under n.text (plain_entries (drop (i + 1) es))

      by : (o : Option Plain) (b : Bool) → option_or o (if b then Some (plain (content e.1)) else rest) ≡ option_or (option_or o (if b then Some (plain (content e.1)) else None)) rest
      by None true = refl
      by None false = refl
      by (Some v) b = refl

  -- at the end the rest has nothing
  pub values_end : (es : List (NameValue × Node Value)) (i : ℕ) → length es ≤ i → (all : Option Plain) (n : NameValue) (firsts : IndexMap NameValue (Node Value) S)
      → all ≡ option_or (value_under n firsts) (first_under n.text (plain_entries (drop i es))) → value_under n firsts ≡ all
  values_end es i h all n firsts so =
      sym (so ∙ ap (λ l. option_or (value_under n firsts) (first_under n.text (plain_entries l))) (drop_all i es h) ∙ sym (or_none (value_under n firsts)))

-- at the start the map has nothing
pub none_noted : {S : Type 0} (n : NameValue) (firsts : IndexMap NameValue (Node Value) S) → firsts.entries ≡ [] → None ≡ value_under n firsts
none_noted n firsts e = ap (λ (es : List (NameValue × Node Value)). option_map (λ (v : Node Value). plain (content v)) (lookup (λ (k : NameValue). bytes_eq n.text k.text) es)) (sym e)
