-- In a schema in memory each key is a `Name`, so it is a name of the grammar.
use Rattle.std.proofs.Common.{◌≡◌, ℕ, Bool, true, false, List, [], ◌∷◌, map, find, bytes_eq, refl, sym, ap, ◌∙◌, Option, None, Some, option_map, is_some, true≢false, if◌then◌else◌}
use Rattle.std.specs.FinMap as fin
use Rattle.std.proofs.lemmas.Option.{same_Some}
use Rattle.std.proofs.lemmas.Slice.Eq.{bytes_eq-Decides}
use Rattle.graphql_names.specs.Node.{content}
use Rattle.graphql_names.specs.NameSyntax.{is_name}
use Rattle.graphql_names.specs.NameValue.{NameValue}
use Rattle.graphql_names.specs.Placed.{Placed, Place}
use Rattle.schema_types.specs.in_components.Given.{Given, plain_given}
use Rattle.schema_types.specs.in_components.Names.{Entries, named}
use Rattle.schema_types.specs.in_type_members.TypeSystemTree.{EnumValueTree, unplaced_enum_value}
use Rattle.schema_types.specs.in_operations.DirectiveTree.{InputValueTree, unplaced_input_value}
use Rattle.schema_types.specs.SchemaTree.{SchemaTree}
use Rattle.schema_types.specs.Looks.{TypeLooks}
use Rattle.schema_types.specs.Addresses.{under, type_at}
use Rattle.schema_types.specs.TypeView.{name_text, extended_type}
use Rattle.schema_types.specs.declared.extended_type.ExtendedType.{ExtendedType}
use Rattle.schema_types.specs.declared.extended_type.ExtendedType.TheVariants as rust
use Rattle.schema_types.proofs.UnderNames.{get_under}
use Rattle.rule_definitions.specs.Judged.{judged}
use Rattle.rule_cycle_search.proofs.Lists.{mapped_some}
use Rattle.rule_schema_laws.specs.Named.{HasNames}
use Rattle.rule_schema_laws.proofs.Validated.{looks_of, named_type}

-- what stands under a name among entries with names as keys
module _ {X A : Type 0} (f : X → A) where
  abbrev entries : List (NameValue × X) → Entries A
  entries es = map (λ e. (name_text e.0, f e.1)) es

  under_name : (n : List ℕ) (es : List (NameValue × X)) → is_some (under n (entries es)) ≡ true → is_name n ≡ true
  under_name n [] h = absurd (true≢false (sym h))
  under_name n (e ∷ es) h = by (bytes_eq n e.0.text) refl h (under_name n es)
    where
      by : (b : Bool) → bytes_eq n e.0.text ≡ b → is_some (option_map (λ (x : List ℕ × A). x.1) (if b then Some (name_text e.0, f e.1) else find (λ (x : List ℕ × A). bytes_eq n x.0) (entries es))) ≡ true
          → (is_some (under n (entries es)) ≡ true → is_name n ≡ true) → is_name n ≡ true
      by true t h rest = ap is_name ((bytes_eq-Decides n e.0.text).0 t) ∙ e.0.valid
      by false t h rest = rest h

  -- and what comes from there
  comes_from : (n : List ℕ) (es : List (NameValue × X)) (a : A) → under n (entries es) ≡ Some a → (x : X) × (a ≡ f x)
  comes_from n [] a h = cc
  comes_from n (e ∷ es) a h = by (bytes_eq n e.0.text) h (comes_from n es a)
    where
      by : (b : Bool) → option_map (λ (x : List ℕ × A). x.1) (if b then Some (name_text e.0, f e.1) else find (λ (x : List ℕ × A). bytes_eq n x.0) (entries es)) ≡ Some a
          → (under n (entries es) ≡ Some a → (x : X) × (a ≡ f x)) → (x : X) × (a ≡ f x)
      by true h rest = (e.1, sym (same_Some _ _ h))
      by false h rest = rest h

pub some_mapped : {A B : Type 0} (g : A → B) (o : Option A) → is_some (option_map g o) ≡ is_some o
some_mapped g None = refl
some_mapped g (Some a) = refl

none_under : {A B : Type 0} (g : A → B) (n : List ℕ) → is_some (fin.get (named g []) n) ≡ true → is_name n ≡ true
none_under g n h = absurd (true≢false (sym h ∙ ap is_some (get_under g n [])))

name_under : {X A B : Type 0} (f : X → A) (g : A → B) (n : List ℕ) (es : List (NameValue × X)) → is_some (fin.get (named g (map (λ e. (name_text e.0, f e.1)) es)) n) ≡ true → is_name n ≡ true
name_under f g n es h = under_name f n es (sym (some_mapped g (under n (entries f es))) ∙ ap is_some (sym (get_under g n (entries f es))) ∙ h)

-- as rules read them
abbrev value_of : Given Place (Placed Place (EnumValueTree Place)) → EnumValueTree (Unit {0})
value_of = plain_given unplaced_enum_value

abbrev input_of : Given Place (Placed Place (InputValueTree Place)) → InputValueTree (Unit {0})
input_of = plain_given unplaced_input_value

-- the values and input fields of a type
abbrev looks_in : ExtendedType → TypeLooks
looks_in t = looks_of (extended_type t)

named_values : (t : ExtendedType) (m : List ℕ) → is_some ((looks_in t).value m) ≡ true → is_name m ≡ true
named_values (rust.Scalar t) m h = none_under value_of m h
named_values (rust.Object t) m h = none_under value_of m h
named_values (rust.Interface t) m h = none_under value_of m h
named_values (rust.Union t) m h = none_under value_of m h
named_values (rust.Enum t) m h = name_under _ value_of m (content t).values.entries h
named_values (rust.InputObject t) m h = none_under value_of m h

named_inputs : (t : ExtendedType) (m : List ℕ) → is_some ((looks_in t).input m) ≡ true → is_name m ≡ true
named_inputs (rust.Scalar t) m h = none_under input_of m h
named_inputs (rust.Object t) m h = none_under input_of m h
named_inputs (rust.Interface t) m h = none_under input_of m h
named_inputs (rust.Union t) m h = none_under input_of m h
named_inputs (rust.Enum t) m h = none_under input_of m h
named_inputs (rust.InputObject t) m h = name_under _ input_of m (content t).fields.entries h

-- a schema with these types
pub has_names : (s : SchemaTree Place) (types : List (NameValue × ExtendedType)) → s.types ≡ entries extended_type types → HasNames (judged s)
has_names s types are = record {
  values = λ n t there m h. let (x, same) = type_of n t there in named_values x m (ap (λ (u : TypeLooks). is_some (u.value m)) (sym same) ∙ h);
  inputs = λ n t there m h. let (x, same) = type_of n t there in named_inputs x m (ap (λ (u : TypeLooks). is_some (u.input m)) (sym same) ∙ h);
}
  where
    type_of : (n : List ℕ) (t : TypeLooks) → (judged s).type_named n ≡ Some t → (x : ExtendedType) × (t ≡ looks_in x)
    type_of n t there =
        let (v, (at, same)) = mapped_some looks_of (type_at s n) t (sym (named_type s n) ∙ there) in
        let (x, is) = comes_from extended_type n types v (ap (under n) (sym are) ∙ at) in
        (x, same ∙ ap looks_of is)
