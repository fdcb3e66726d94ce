-- What lookups in maps with names as keys find in the tree.
use Rattle.std.proofs.Common.{◌≡◌, ℕ, Bool, true, false, List, [], ◌∷◌, map, Option, None, Some, refl, sym, ap, ◌∙◌, if◌then◌else◌, Bor, true≢false}
use Rattle.std.specs.List.{find}
use Rattle.std.specs.Map.{lookup, lookup_key}
use Rattle.std.proofs.lemmas.Option.{same_Some}
use Rattle.std.proofs.lemmas.Slice.Eq.{bytes_eq-Decides}
use Rattle.std.specs.Option.{option_map, option_copied}
use Rattle.std.specs.Str.{bytes_eq}
use Rattle.indexmap.specs.IndexMap.{IndexMap, get}
use Rattle.graphql_names.specs.NameValue.{NameValue}
use Rattle.schema_components.specs.Names.{same_text, entries_of}
use Rattle.schema_building.specs.in_schema_types.TypeView.{name_text}
use Rattle.schema_building.specs.in_schema_types.Addresses.{under}

module _ {X A : Type 0} (f : X → A) (k : NameValue) where
  under-lookup : (es : List (NameValue × X)) → under k.text (map (λ e. (name_text e.0, f e.1)) es) ≡ option_map f (lookup (same_text name_text k) es)
  under-lookup [] = refl
  under-lookup (e ∷ es) = by (bytes_eq k.text e.0.text) refl (under-lookup es)
    where
      by : (b : Bool) → bytes_eq k.text e.0.text ≡ b → under k.text (map (λ e. (name_text e.0, f e.1)) es) ≡ option_map f (lookup (same_text name_text k) es)
          → under k.text (map (λ e. (name_text e.0, f e.1)) (e ∷ es)) ≡ option_map f (lookup (same_text name_text k) (e ∷ es))
      by true t rest =
          ap (λ b. option_map (λ (p : List ℕ × A). p.1) (if b then Some (name_text e.0, f e.1) else find (λ (p : List ℕ × A). bytes_eq k.text p.0) (map (λ e. (name_text e.0, f e.1)) es))) t
          ∙ sym (ap (λ b. option_map f (if b then Some e.1 else lookup (same_text name_text k) es)) t)
      by false t rest =
          ap (λ b. option_map (λ (p : List ℕ × A). p.1) (if b then Some (name_text e.0, f e.1) else find (λ (p : List ℕ × A). bytes_eq k.text p.0) (map (λ e. (name_text e.0, f e.1)) es))) t
          ∙ rest
          ∙ sym (ap (λ b. option_map f (if b then Some e.1 else lookup (same_text name_text k) es)) t)

  copied : (r : Option (Bor X)) → option_map (λ x. f x.now) r ≡ option_map f (option_copied r)
  copied None = refl
  copied (Some x) = refl

  -- what `get` finds
  pub got : {S : Type 0} (m : IndexMap NameValue X S) (r : Option (Bor X)) → option_copied r ≡ get (same_text name_text) m k → option_map (λ x. f x.now) r ≡ under k.text (entries_of name_text f m)
  got m r e = copied r ∙ ap (option_map f) e ∙ sym (under-lookup m.entries)

  pairs : (r : Option (Bor NameValue × Bor X)) → option_map (λ p. f p.1.now) r ≡ option_map f (option_map (λ p. p.1.now) r)
  pairs None = refl
  pairs (Some x) = refl

  -- what `get_key_value` finds
  pub got_pair : {S : Type 0} (m : IndexMap NameValue X S) (r : Option (Bor NameValue × Bor X)) → option_map (λ p. p.1.now) r ≡ get (same_text name_text) m k → option_map (λ p. f p.1.now) r ≡ under k.text (entries_of name_text f m)
  got_pair m r e = pairs r ∙ ap (option_map f) e ∙ sym (under-lookup m.entries)

-- the key that is found has the text that was asked for
pub found_key : {X : Type 0} (k n : NameValue) (es : List (NameValue × X)) → Some n ≡ lookup_key (same_text name_text k) es → n.text ≡ k.text
found_key k n [] e = absurd (true≢false (sym (ap (λ (o : Option NameValue). elim o [ None ↦ false | Some x ↦ true ]) (sym e))))
found_key k n (x ∷ xs) e = by (bytes_eq k.text x.0.text) refl (found_key k n xs) e
  where
    by : (b : Bool) → bytes_eq k.text x.0.text ≡ b → (Some n ≡ lookup_key (same_text name_text k) xs → n.text ≡ k.text) → Some n ≡ (if b then Some x.0 else lookup_key (same_text name_text k) xs) → n.text ≡ k.text
    by true t rest h = ap (λ (y : NameValue). y.text) (same_Some _ _ h) ∙ sym ((bytes_eq-Decides k.text x.0.text).0 t)
    by false t rest h = rest h
