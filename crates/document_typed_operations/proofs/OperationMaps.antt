-- What lookups, insertions and walks over the operations of a document find in the tree.
use Rattle.std.proofs.Common.{◌≡◌, ℕ, Bool, true, false, List, [], ◌∷◌, map, Option, None, Some, refl, ap, ◌∙◌, if◌then◌else◌, Bor, MutBor, slice_get}
use Rattle.std.specs.List.{find, cons_option}
use Rattle.std.specs.Map.{lookup, values_of, set_value}
use Rattle.std.specs.Option.{OnSome, option_map, option_copied, option_copied_mut}
use Rattle.std.specs.Str.{bytes_eq}
use Rattle.indexmap.specs.IndexMap.{IndexMap, insert_entry, get, set_value_at}
use Rattle.graphql_names.specs.NameValue.{NameValue}
use Rattle.schema_types.specs.in_components.Names.{Entries, same_text, entries_of}
use Rattle.schema_types.specs.TypeView.{name_text}
use Rattle.schema_types.specs.Addresses.{under}
use Rattle.document_typed_operations.specs.OperationsByName.{put_under, first_under}

module _ {X A : Type 0} (f : X → A) where
  abbrev pub under_names : List (NameValue × X) → Entries A
  under_names es = map (λ e. (name_text e.0, f e.1)) es

  module _ (k : NameValue) where
    pub under-lookup : (es : List (NameValue × X)) → option_map f (lookup (same_text name_text k) es) ≡ under k.text (under_names es)
    under-lookup [] = refl
    under-lookup (e ∷ es) = by (bytes_eq k.text e.0.text) (under-lookup es)
      where
        by : (b : Bool) → option_map f (lookup (same_text name_text k) es) ≡ under k.text (under_names es)
            → option_map f (if b then Some e.1 else lookup (same_text name_text k) es) ≡ option_map (λ (p : List ℕ × A). p.1) (if b then Some (name_text e.0, f e.1) else find (λ (p : List ℕ × A). bytes_eq k.text p.0) (under_names es))
        by true rest = refl
        by false rest = rest

    -- what `get` finds
    pub got : {S : Type 0} (m : IndexMap NameValue X S) (r : Option (Bor X)) → option_copied r ≡ get (same_text name_text) m k → option_map f (option_copied r) ≡ under k.text (entries_of name_text f m)
    got m r e = ap (option_map f) e ∙ under-lookup m.entries

    -- what `insert` leaves
    pub put-insert : (v : X) (es : List (NameValue × X)) → under_names (insert_entry (same_text name_text) es k v) ≡ put_under k.text (f v) (under_names es)
    put-insert v [] = refl
    put-insert v (e ∷ es) = by (bytes_eq k.text e.0.text) (put-insert v es)
      where
        by : (b : Bool) → under_names (insert_entry (same_text name_text) es k v) ≡ put_under k.text (f v) (under_names es)
            → under_names (if b then (e.0, v) ∷ es else e ∷ insert_entry (same_text name_text) es k v) ≡ (if b then (name_text e.0, f v) ∷ under_names es else (name_text e.0, f e.1) ∷ put_under k.text (f v) (under_names es))
        by true rest = refl
        by false rest = ap (λ l. (name_text e.0, f e.1) ∷ l) rest

  each-value : (es : List (NameValue × X)) → map f (values_of es) ≡ map (λ e. e.1) (under_names es)
  each-value [] = refl
  each-value (e ∷ es) = ap (λ l. f e.1 ∷ l) (each-value es)

  -- what an iterator over one without a name and those with names has left
  pub listed : (a : Option X) (es : List (NameValue × X)) → map f (cons_option a (values_of es)) ≡ cons_option (option_map f a) (map (λ e. e.1) (under_names es))
  listed None es = each-value es
  listed (Some x) es = ap (λ l. f x ∷ l) (each-value es)

  -- what a call lends to be written to
  pub copied_mut : (r : Option (MutBor X)) → option_map (λ x. f x.now) r ≡ option_map f (option_copied_mut r)
  copied_mut None = refl
  copied_mut (Some x) = refl

  -- what is said where something is lent
  pub where-lent : (r : Option (MutBor X)) (P : Type 0) → ((x : X) → option_copied_mut r ≡ Some x → P) → OnSome r P
  where-lent None P h = tt
  where-lent (Some x) P h = h x.now refl

pub said-where-lent : {Y : Type 0} (r : Option Y) (y : Y) (P : Type 0) → r ≡ Some y → OnSome r P → P
said-where-lent None y P e h = cc
said-where-lent (Some z) y P e h = h

-- maps whose keys are the same where their texts are
module _ {K X A : Type 0} (text : K → List ℕ) (f : X → A) where
  abbrev pub under_texts : List (K × X) → Entries A
  under_texts es = map (λ e. (text e.0, f e.1)) es

  pub first-named : (es : List (K × X)) → option_map f (slice_get (values_of es) 0) ≡ slice_get (map (λ e. e.1) (under_texts es)) 0
  first-named [] = refl
  first-named (e ∷ es) = refl

  -- what a write to the first leaves
  pub first-written : (w : X) (es : List (K × X)) → under_texts (set_value_at es 0 w) ≡ first_under (f w) (under_texts es)
  first-written w [] = refl
  first-written w (e ∷ es) = refl

  module _ (eq : K → K → Bool) (same : (a b : K) → eq a b ≡ bytes_eq (text a) (text b)) (k : K) where
    pub text-lookup : (es : List (K × X)) → option_map f (lookup (eq k) es) ≡ under (text k) (under_texts es)
    text-lookup [] = refl
    text-lookup (e ∷ es) =
        by (eq k e.0) (text-lookup es)
        ∙ ap (λ b. option_map (λ (p : List ℕ × A). p.1) (if b then Some (text e.0, f e.1) else find (λ (p : List ℕ × A). bytes_eq (text k) p.0) (under_texts es))) (same k e.0)
      where
        by : (b : Bool) → option_map f (lookup (eq k) es) ≡ under (text k) (under_texts es)
            → option_map f (if b then Some e.1 else lookup (eq k) es) ≡ option_map (λ (p : List ℕ × A). p.1) (if b then Some (text e.0, f e.1) else find (λ (p : List ℕ × A). bytes_eq (text k) p.0) (under_texts es))
        by true rest = refl
        by false rest = rest

    -- what a write to the one under a key leaves, where there is one
    pub text-written : (w x : X) (es : List (K × X)) → lookup (eq k) es ≡ Some x → under_texts (set_value (eq k) es w) ≡ put_under (text k) (f w) (under_texts es)
    text-written w x [] h = cc
    text-written w x (e ∷ es) h =
        by (eq k e.0) h (text-written w x es)
        ∙ ap (λ b. if b then (text e.0, f w) ∷ under_texts es else (text e.0, f e.1) ∷ put_under (text k) (f w) (under_texts es)) (same k e.0)
      where
        by : (b : Bool) → (if b then Some e.1 else lookup (eq k) es) ≡ Some x → (lookup (eq k) es ≡ Some x → under_texts (set_value (eq k) es w) ≡ put_under (text k) (f w) (under_texts es))
            → under_texts (if b then (e.0, w) ∷ es else e ∷ set_value (eq k) es w) ≡ (if b then (text e.0, f w) ∷ under_texts es else (text e.0, f e.1) ∷ put_under (text k) (f w) (under_texts es))
        by true h rest = refl
        by false h rest = ap (λ l. (text e.0, f e.1) ∷ l) (rest h)
