-- Implementers that are noted one after another.
use Rattle.std.proofs.Common.{◌≡◌, Bool, true, false, ◌||◌, List, [], ◌∷◌, ◌++◌, map, Option, None, Some, refl, sym, ap, ◌∙◌, cond, if◌then◌else◌}
use Rattle.std.specs.Prelude.{unwrap_or}
use Rattle.std.specs.List.{list_any, flat_map}
use Rattle.std.specs.Option.{option_map}
use Rattle.std.specs.Map.{lookup}
use Rattle.std.specs.Str.{bytes_eq}
use Rattle.std.proofs.lemmas.List.{map-append, append-nil, append_assoc}
use Rattle.std.proofs.lemmas.Slice.Eq.{bytes_eq-Decides}
use Rattle.indexmap.specs.IndexMap.{IndexMap, get}
use Rattle.indexmap.specs.IndexSet.{insert_key}
use Rattle.graphql_names.specs.NameValue.{NameValue}
use Rattle.schema_components.specs.Lists.{is_among}
use Rattle.schema_components.specs.Names.{same_text}
use Rattle.schema_building.specs.in_schema_types.TypeView.{name_text, extended_type}
use Rattle.schema_building.specs.in_schema_types.declared.extended_type.ExtendedType.{ExtendedType}
use Rattle.graphql_schema.specs.Noting.{Naming, nobody, with_name, and_type, and_naming, namings_of}
use Rattle.graphql_schema.specs.ImplementersView.{implementers_tree, implementers_at}
use Rattle.graphql_schema.specs.declared.implementers.Implementers.{Implementers}

any_text : (n : NameValue) (ks : List NameValue) → list_any (same_text name_text n) ks ≡ is_among n.text (map name_text ks)
any_text n [] = refl
any_text n (k ∷ ks) = ap (λ b. bytes_eq n.text k.text || b) (any_text n ks)

-- a name that is added to a set
pub added : (n : NameValue) (ks : List NameValue) → map name_text (insert_key (same_text name_text) ks n) ≡ with_name n.text (map name_text ks)
added n ks = by (list_any (same_text name_text n) ks) refl
  where
    by : (b : Bool) → list_any (same_text name_text n) ks ≡ b → map name_text (if b then ks else ks ++ n ∷ []) ≡ with_name n.text (map name_text ks)
    by true t = sym (ap (λ b. if b then map name_text ks else map name_text ks ++ n.text ∷ []) (sym (any_text n ks) ∙ t))
    by false t = map-append name_text ks (n ∷ []) ∙ sym (ap (λ b. if b then map name_text ks else map name_text ks ++ n.text ∷ []) (sym (any_text n ks) ∙ t))

-- a lookup by a name with the same text
same_get : {X S : Type 0} (m : IndexMap NameValue X S) (k i : NameValue) → k.text ≡ i.text → get (same_text name_text) m i ≡ get (same_text name_text) m k
same_get m k i e = ap (λ t. lookup (λ (x : NameValue). bytes_eq t x.text) m.entries) (sym e)

-- a write under a name
pub noted : {S : Type 0} (m n : IndexMap NameValue Implementers S) (k : NameValue) (x : Naming) (o : Option Implementers) (new : Implementers)
    → x.interface ≡ k.text → get (same_text name_text) m k ≡ o
    → implementers_tree new ≡ and_type x.is_object x.type (unwrap_or (option_map implementers_tree o) nobody)
    → ((q : NameValue) → get (same_text name_text) n q ≡ cond (same_text name_text k q) (Some new) (get (same_text name_text) m q))
    → (i : NameValue) → implementers_at n i ≡ and_naming i.text (implementers_at m i) x
noted m n k x o new named was is writes i = by (bytes_eq k.text i.text) refl
  where
    by : (b : Bool) → bytes_eq k.text i.text ≡ b → implementers_at n i ≡ and_naming i.text (implementers_at m i) x
    by true t =
        let before : implementers_at m i ≡ option_map implementers_tree o = ap (option_map implementers_tree) (same_get m k i ((bytes_eq-Decides k.text i.text).0 t) ∙ was) in
        ap (option_map implementers_tree) (writes i ∙ ap (λ b. cond b (Some new) (get (same_text name_text) m i)) t)
        ∙ ap Some (is ∙ sym (ap (λ p. and_type x.is_object x.type (unwrap_or p nobody)) before))
        ∙ sym (ap (λ b. if b then Some (and_type x.is_object x.type (unwrap_or (implementers_at m i) nobody)) else implementers_at m i) (ap (λ t. bytes_eq t i.text) named ∙ t))
    by false t =
        ap (option_map implementers_tree) (writes i ∙ ap (λ b. cond b (Some new) (get (same_text name_text) m i)) t)
        ∙ sym (ap (λ b. if b then Some (and_type x.is_object x.type (unwrap_or (implementers_at m i) nobody)) else implementers_at m i) (ap (λ t. bytes_eq t i.text) named ∙ t))

-- the implementers that are there, or none
pub or_nobody : (o : Option Implementers) (d : Implementers) → implementers_tree d ≡ nobody → implementers_tree (unwrap_or o d) ≡ unwrap_or (option_map implementers_tree o) nobody
or_nobody None d e = e
or_nobody (Some x) d e = refl

-- the namings of one type more
pub namings_push : (es : List (NameValue × ExtendedType)) (e : NameValue × ExtendedType)
    → flat_map namings_of (map (λ e. (name_text e.0, extended_type e.1)) (es ++ e ∷ [])) ≡ flat_map namings_of (map (λ e. (name_text e.0, extended_type e.1)) es) ++ namings_of (name_text e.0, extended_type e.1)
namings_push [] e = append-nil (namings_of (name_text e.0, extended_type e.1))
namings_push (x ∷ xs) e =
    ap (λ l. namings_of (name_text x.0, extended_type x.1) ++ l) (namings_push xs e)
    ∙ sym (append_assoc (namings_of (name_text x.0, extended_type x.1)) (flat_map namings_of (map (λ e. (name_text e.0, extended_type e.1)) xs)) (namings_of (name_text e.0, extended_type e.1)))
