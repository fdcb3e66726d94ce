-- A type that no extension gave anything: all of it was given by its definition, and its definition is all that is written.
use Rattle.std.proofs.Common.{◌≡◌, cond, List, [], ◌∷◌, ◌++◌, map, filter, length, Option, None, Some, refl, sym, ap, ◌∙◌, option_to_list, if◌then◌else◌, arith}
use Rattle.std.proofs.lemmas.Bool.{false≢true}
use Rattle.std.proofs.lemmas.List.{append-nil}
use Rattle.graphql_names.specs.Placed.{Place}
use Rattle.graphql_names.specs.Places.{is_built_in}
use Rattle.tree_definitions.specs.DefinitionTree.{DefinitionTree}
use Rattle.schema_components.specs.Given.{Given, ExtensionTree, extension_tree}
use Rattle.schema_components.specs.declared.extension.ExtensionId.{ExtensionId}
use Rattle.schema_types.specs.Origins.{type_origins, extensions_in}
use Rattle.schema_types.specs.Out.{is_empty, same_giver, given_by, givers, each_once}
use Rattle.schema_types.specs.declared.extended_type.ExtendedType.{ExtendedType}
use Rattle.schema_writing.specs.Filed.{without_givers}
use Rattle.schema_writing.specs.Contents.{TypeContents, type_contents, all_parts, parts_given_by, extensions_of_contents, defined_from, extended_from, whole_definition, written_contents}
use Rattle.schema_writing.proofs.Extensions.{type_extensions}

-- ---- lists of which nothing is left

module _ {A : Type 0} where
  nothing_left : (xs ys : List A) → xs ++ ys ≡ [] → xs ≡ []
  nothing_left [] ys none = refl
  nothing_left (x ∷ xs) ys none = absurd (false≢true (ap is_empty none))

  nothing_right : (xs ys : List A) → xs ++ ys ≡ [] → ys ≡ []
  nothing_right [] ys none = none
  nothing_right (x ∷ xs) ys none = absurd (false≢true (ap is_empty none))

none_once : (es : List (ExtensionTree Place)) → each_once es ≡ [] → es ≡ []
none_once [] none = refl
none_once (e ∷ es) none = absurd (false≢true (ap is_empty none))

-- ---- what no extension gave

module _ {A : Type 0} where
  -- what no extension gave was all given by the definition
  given_whole : (gs : List (Given Place A)) → givers gs ≡ [] → given_by None gs ≡ without_givers gs
  given_whole [] none = refl
  given_whole (g ∷ gs) none = by g.extension none (λ h. given_whole gs h)
    where
      by : (o : Option (ExtensionTree Place)) → option_to_list o ++ givers gs ≡ [] → (givers gs ≡ [] → given_by None gs ≡ without_givers gs)
          → map (λ d. d.it) (cond (same_giver None o) (g ∷ filter (λ d. same_giver None d.extension) gs) (filter (λ d. same_giver None d.extension) gs)) ≡ g.it ∷ without_givers gs
      by None none rest = ap (λ l. g.it ∷ l) (rest none)
      by (Some e) none rest = absurd (false≢true (ap is_empty none))

-- and so of a whole type
parts_whole : (c : TypeContents) → extensions_of_contents c ≡ [] → parts_given_by None c ≡ all_parts c
parts_whole c none =
    let from_directives = none_once _ none in
    let from_interfaces = nothing_right (givers c.directives) _ from_directives in
    let from_fields = nothing_right (givers c.interfaces) _ from_interfaces in
    let from_members = nothing_right (givers c.fields) _ from_fields in
    let from_values = nothing_right (givers c.members) _ from_members in
    λ i. record {
      directives = given_whole c.directives (nothing_left (givers c.directives) _ from_directives) i;
      interfaces = given_whole c.interfaces (nothing_left (givers c.interfaces) _ from_interfaces) i;
      fields = given_whole c.fields (nothing_left (givers c.fields) _ from_fields) i;
      members = given_whole c.members (nothing_left (givers c.members) _ from_members) i;
      values = given_whole c.values (nothing_left (givers c.values) _ from_values) i;
      inputs = given_whole c.inputs (nothing_right (givers c.values) _ from_values) i;
    }

definition_whole : (c : TypeContents) → extensions_of_contents c ≡ [] → whole_definition c ≡ written_contents c
definition_whole c none =
    sym (append-nil (whole_definition c))
    ∙ (λ i. (if is_built_in c.place then [] else defined_from c (sym (parts_whole c none) i) ∷ [])
    ++ map (λ e. extended_from c e.place (parts_given_by (Some e) c)) (sym none i))

of_no_length : {A : Type 0} (xs : List A) → length xs ≡ 0 → xs ≡ []
of_no_length [] none = refl
of_no_length (x ∷ xs) none = absurd (omega (arith, none))

-- where the list of its extensions is empty, the whole definition is all that is written of a type
pub whole_written : (t : ExtendedType) (ids : List ExtensionId) (old new : List (DefinitionTree Place))
    → ids ≡ extensions_in (type_origins t) → length ids ≡ 0 → new ≡ old ++ whole_definition (type_contents t)
    → new ≡ old ++ written_contents (type_contents t)
whole_written t ids old new are none written =
    written ∙ ap (λ l. old ++ l) (definition_whole (type_contents t) (sym (type_extensions t) ∙ ap (map extension_tree) (sym are ∙ of_no_length ids none)))
