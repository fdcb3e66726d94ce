-- Where nothing is told, nothing was to be told.
use Rattle.std.proofs.Common.{◌≡◌, ℕ, Bool, true, false, not, List, [], ◌∷◌, ◌++◌, flat_map, map, Option, inl, inr, refl, sym, ap, ◌∙◌, true≢false, if◌then◌else◌}
use Rattle.std.specs.Option.{option_map_or}
use Rattle.graphql_names.specs.Placed.{Placed, Place}
use Rattle.graphql_names.specs.Places.{is_built_in}
use Rattle.tree_directives.specs.DirectiveTree.{Directives, InputValueTree, DirectiveDefinitionTree}
use Rattle.schema_types.specs.SchemaTree.{SchemaType, SchemaTree}
use Rattle.schema_types.specs.Addresses.{under}
use Rattle.schema_types.specs.declared.type_kind.TypeKind.TheVariants as kind
use Rattle.graphql_schema.specs.LookUps.{type_of_kind}
use Rattle.rule_definitions.specs.Words.{Present, AtSomeIndex}
use Rattle.strict_documents.specs.Departing.{departure_if}
use Rattle.strict_documents.specs.declared.departure.DepartureKind.{DepartureKind}
use Rattle.strict_schemas.specs.Inputs.{inputs_of_type, inputs_of}
use Rattle.strict_schemas.specs.Departing.{is_required_deprecated, is_own_built_in, own_departures, applied_departure, applied_departures, added_departures, added_directive, added_name, added_field, added_value, added_input, added_to, is_built_in_other, extended_departures, is_extra, extra_departure, extra_over_field, extra_over, extra_departures, deprecated_departures, default_departures, input_departures, inputs_departures, arguments_departures, input_fields_departures, type_departures, definition_departures, departures_of_schema}
use Rattle.strict_schemas.specs.Letter.{HasAdded, HasApplied, HasExtra, HasLiterals}
use Rattle.strict_schemas.proofs.SomeIndex.{nowhere, first_or_later, in_either, in_mapped, in_flat}

-- ---- of lists

nil_left : {A : Type 0} (l m : List A) → l ++ m ≡ [] → l ≡ []
nil_left [] m e = refl
nil_left (x ∷ l) m e = absurd cc

nil_right : {A : Type 0} (l m : List A) → l ++ m ≡ [] → m ≡ []
nil_right [] m e = e
nil_right (x ∷ l) m e = absurd cc

silent_if : {P : Type 0} (b : Bool) (p : P) (k : DepartureKind) (n : List ℕ) → departure_if b p k n ≡ [] → b ≡ true → ⊥
silent_if true p k n e is = absurd cc
silent_if false p k n e is = true≢false (sym is)

module _ {X A : Type 0} (f : X → List A) (Q : X → Type 0) (each : (x : X) → f x ≡ [] → Q x → ⊥) where
  silent_each : (xs : List X) → flat_map f xs ≡ [] → AtSomeIndex xs (λ i x. Q x) → ⊥
  silent_each [] e q = nowhere Q q
  silent_each (x ∷ xs) e q = elim ((first_or_later Q x xs).1 q) [
    | inl r ↦ each x (nil_left (f x) (flat_map f xs) e) r
    | inr m ↦ silent_each xs (nil_right (f x) (flat_map f xs) e) m
  ]

  silent_found : (o : Option X) → option_map_or f o [] ≡ [] → Present o Q → ⊥
  silent_found o e q = each q.0 (sym (ap (λ p. option_map_or f p []) q.1.0) ∙ e) q.1.1

-- ---- of what is added to a built-in type

added_silent : (p : Place) (n : List ℕ) → added_departures p n ≡ [] → is_built_in p ≡ false → ⊥
added_silent p n e h = silent_if (not (is_built_in p)) p _ n e (ap not h)

module _ (t : SchemaType Place) where
  added_to_silent : added_to t ≡ [] → HasAdded t → ⊥
  added_to_silent e h =
      let directives = flat_map added_directive t.directives in
      let interfaces = flat_map added_name t.interfaces in
      let fields = flat_map added_field t.fields in
      let members = flat_map added_name t.members in
      let values = flat_map added_value t.values in
      let inputs = flat_map added_input t.inputs in
      let e1 = nil_right directives (interfaces ++ (fields ++ (members ++ (values ++ inputs)))) e in
      let e2 = nil_right interfaces (fields ++ (members ++ (values ++ inputs))) e1 in
      let e3 = nil_right fields (members ++ (values ++ inputs)) e2 in
      let e4 = nil_right members (values ++ inputs) e3 in
      elim h [
        | inl q ↦ silent_each added_directive (λ g. is_built_in g.it.place ≡ false) (λ g. added_silent g.it.place g.it.it.name.it) t.directives (nil_left directives (interfaces ++ (fields ++ (members ++ (values ++ inputs)))) e) q
        | inr h ↦ elim h [
          | inl q ↦ silent_each added_name (λ g. is_built_in g.it.place ≡ false) (λ g. added_silent g.it.place g.it.it) t.interfaces (nil_left interfaces (fields ++ (members ++ (values ++ inputs))) e1) q
          | inr h ↦ elim h [
            | inl q ↦ silent_each added_field (λ x. is_built_in x.1.it.place ≡ false) (λ x. added_silent x.1.it.place x.1.it.it.name.it) t.fields (nil_left fields (members ++ (values ++ inputs)) e2) q
            | inr h ↦ elim h [
              | inl q ↦ silent_each added_name (λ g. is_built_in g.it.place ≡ false) (λ g. added_silent g.it.place g.it.it) t.members (nil_left members (values ++ inputs) e3) q
              | inr h ↦ elim h [
                | inl q ↦ silent_each added_value (λ x. is_built_in x.1.it.place ≡ false) (λ x. added_silent x.1.it.place x.1.it.it.value.it) t.values (nil_left values inputs e4) q
                | inr q ↦ silent_each added_input (λ x. is_built_in x.1.it.place ≡ false) (λ x. added_silent x.1.it.place x.1.it.it.name.it) t.inputs (nil_right values inputs e4) q
              ]
            ]
          ]
        ]
      ]

  extended_silent : extended_departures t ≡ [] → (is_built_in_other t ≡ true) × HasAdded t → ⊥
  extended_silent e h = added_to_silent (sym (ap (λ b. if b then added_to t else []) h.0) ∙ e) h.1

-- ---- of definitions of directives

own_silent : (d : Placed Place (DirectiveDefinitionTree Place)) → own_departures d ≡ [] → is_own_built_in d ≡ true → ⊥
own_silent d e is = silent_if (is_own_built_in d) d.place _ d.it.name.it e is

none_applied : (ds : Directives Place) → flat_map applied_departure ds ≡ [] → ds ≡ []
none_applied [] e = refl
none_applied (u ∷ us) e = absurd cc

module _ (s : SchemaTree Place) where
  -- ---- of extra arguments

  extra_silent : (t : SchemaType Place) → extra_departures s t ≡ [] → HasExtra s t → ⊥
  extra_silent t e h =
      silent_each (extra_over s t) (λ g. Present (type_of_kind s kind.Interface g.it.it) (λ over. AtSomeIndex over.fields (λ k wanted. Present (under wanted.0 t.fields) (λ own. AtSomeIndex own.it.it.arguments (λ j v. is_extra wanted.1.it.it.arguments v.it ≡ true)))))
      (λ g e.
      silent_found (λ over. flat_map (extra_over_field t) over.fields) (λ over. AtSomeIndex over.fields (λ k wanted. Present (under wanted.0 t.fields) (λ own. AtSomeIndex own.it.it.arguments (λ j v. is_extra wanted.1.it.it.arguments v.it ≡ true))))
      (λ over e.
      silent_each (extra_over_field t) (λ wanted. Present (under wanted.0 t.fields) (λ own. AtSomeIndex own.it.it.arguments (λ j v. is_extra wanted.1.it.it.arguments v.it ≡ true)))
      (λ wanted e.
      silent_found (λ own. flat_map (extra_departure wanted.1.it.it.arguments) own.it.it.arguments) (λ own. AtSomeIndex own.it.it.arguments (λ j v. is_extra wanted.1.it.it.arguments v.it ≡ true))
      (λ own e.
      silent_each (extra_departure wanted.1.it.it.arguments) (λ v. is_extra wanted.1.it.it.arguments v.it ≡ true)
      (λ v e. silent_if (is_extra wanted.1.it.it.arguments v.it) v.place _ v.it.name.it e) own.it.it.arguments e)
      (under wanted.0 t.fields) e)
      over.fields e)
      (type_of_kind s kind.Interface g.it.it) e)
      t.interfaces e h

  -- ---- of arguments and input fields

  module _ (Q : Placed Place (InputValueTree Place) → Type 0) (each : (v : Placed Place (InputValueTree Place)) → input_departures s v ≡ [] → Q v → ⊥) where
    type_inputs_silent : (t : SchemaType Place) → arguments_departures s t.fields ≡ [] → input_fields_departures s t.inputs ≡ [] → AtSomeIndex (inputs_of_type t) (λ i v. Q v) → ⊥
    type_inputs_silent t fields inputs q = elim ((in_either Q (flat_map (λ e. e.1.it.it.arguments) t.fields) (map (λ e. e.1.it) t.inputs)).1 q) [
      | inl a ↦
          silent_each (λ e. inputs_departures s e.1.it.it.arguments) (λ e. AtSomeIndex e.1.it.it.arguments (λ k v. Q v)) (λ e. silent_each (input_departures s) Q each e.1.it.it.arguments) t.fields fields
          ((in_flat Q (λ e. e.1.it.it.arguments) t.fields).1 a)
      | inr b ↦ silent_each (λ e. input_departures s e.1.it) (λ e. Q e.1.it) (λ e. each e.1.it) t.inputs inputs ((in_mapped Q (λ e. e.1.it) t.inputs).1 b)
    ]

    inputs_silent : flat_map (λ e. type_departures s e.1) s.types ≡ [] → flat_map (λ e. definition_departures s e.1) s.directives ≡ [] → AtSomeIndex (inputs_of s) (λ i v. Q v) → ⊥
    inputs_silent types definitions q = elim ((in_either Q (flat_map (λ e. inputs_of_type e.1) s.types) (flat_map (λ e. e.1.it.arguments) s.directives)).1 q) [
      | inl a ↦
          silent_each (λ e. type_departures s e.1) (λ e. AtSomeIndex (inputs_of_type e.1) (λ k v. Q v))
          (λ e is.
          let later = nil_right (extra_departures s e.1) (arguments_departures s e.1.fields ++ input_fields_departures s e.1.inputs)
          (nil_right (extended_departures e.1) (extra_departures s e.1 ++ (arguments_departures s e.1.fields ++ input_fields_departures s e.1.inputs)) is) in
          type_inputs_silent e.1 (nil_left (arguments_departures s e.1.fields) (input_fields_departures s e.1.inputs) later) (nil_right (arguments_departures s e.1.fields) (input_fields_departures s e.1.inputs) later))
          s.types types ((in_flat Q (λ e. inputs_of_type e.1) s.types).1 a)
      | inr b ↦
          silent_each (λ e. definition_departures s e.1) (λ e. AtSomeIndex e.1.it.arguments (λ k v. Q v))
          (λ e is.
          silent_each (input_departures s) Q each e.1.it.arguments
          (nil_right (applied_departures e.1) (inputs_departures s e.1.it.arguments) (nil_right (own_departures e.1) (applied_departures e.1 ++ inputs_departures s e.1.it.arguments) is)))
          s.directives definitions ((in_flat Q (λ e. e.1.it.arguments) s.directives).1 b)
    ]

  deprecated_silent : (v : Placed Place (InputValueTree Place)) → input_departures s v ≡ [] → is_required_deprecated v.it ≡ true → ⊥
  deprecated_silent v e = silent_if (is_required_deprecated v.it) v.place _ v.it.name.it (nil_left (deprecated_departures v) (default_departures s v.it) e)

  literals_silent : (v : Placed Place (InputValueTree Place)) → input_departures s v ≡ [] → HasLiterals s v.it → ⊥
  literals_silent v e has = has (nil_right (deprecated_departures v) (default_departures s v.it) e)

  -- ---- of a schema

  module _ (silent : departures_of_schema s ≡ []) where
    types_silent : flat_map (λ e. type_departures s e.1) s.types ≡ []
    types_silent = nil_left (flat_map (λ e. type_departures s e.1) s.types) (flat_map (λ e. definition_departures s e.1) s.directives) silent

    definitions_silent : flat_map (λ e. definition_departures s e.1) s.directives ≡ []
    definitions_silent = nil_right (flat_map (λ e. type_departures s e.1) s.types) (flat_map (λ e. definition_departures s e.1) s.directives) silent

    pub no_extended : AtSomeIndex s.types (λ i e. (is_built_in_other e.1 ≡ true) × HasAdded e.1) → ⊥
    no_extended =
        silent_each (λ e. type_departures s e.1) (λ e. (is_built_in_other e.1 ≡ true) × HasAdded e.1)
        (λ e is. extended_silent e.1 (nil_left (extended_departures e.1) (extra_departures s e.1 ++ (arguments_departures s e.1.fields ++ input_fields_departures s e.1.inputs)) is))
        s.types types_silent

    pub no_extra : AtSomeIndex s.types (λ i e. HasExtra s e.1) → ⊥
    no_extra =
        silent_each (λ e. type_departures s e.1) (λ e. HasExtra s e.1)
        (λ e is.
        extra_silent e.1 (nil_left (extra_departures s e.1) (arguments_departures s e.1.fields ++ input_fields_departures s e.1.inputs)
        (nil_right (extended_departures e.1) (extra_departures s e.1 ++ (arguments_departures s e.1.fields ++ input_fields_departures s e.1.inputs)) is)))
        s.types types_silent

    pub no_own : AtSomeIndex s.directives (λ i e. is_own_built_in e.1 ≡ true) → ⊥
    no_own =
        silent_each (λ e. definition_departures s e.1) (λ e. is_own_built_in e.1 ≡ true)
        (λ e is. own_silent e.1 (nil_left (own_departures e.1) (applied_departures e.1 ++ inputs_departures s e.1.it.arguments) is))
        s.directives definitions_silent

    pub no_applied : AtSomeIndex s.directives (λ i e. HasApplied e.1) → ⊥
    no_applied =
        silent_each (λ e. definition_departures s e.1) (λ e. HasApplied e.1)
        (λ e is has.
        has (none_applied e.1.it.directives (nil_left (applied_departures e.1) (inputs_departures s e.1.it.arguments)
        (nil_right (own_departures e.1) (applied_departures e.1 ++ inputs_departures s e.1.it.arguments) is))))
        s.directives definitions_silent

    pub no_deprecated : AtSomeIndex (inputs_of s) (λ i v. is_required_deprecated v.it ≡ true) → ⊥
    no_deprecated = inputs_silent (λ v. is_required_deprecated v.it ≡ true) deprecated_silent types_silent definitions_silent

    pub no_literals : AtSomeIndex (inputs_of s) (λ i v. HasLiterals s v.it) → ⊥
    no_literals = inputs_silent (λ v. HasLiterals s v.it) literals_silent types_silent definitions_silent
