-- The extensions that stand under a type's name are all that its fold needs.
use Rattle.std.proofs.Common.{◌≡◌, ℕ, Bool, true, false, ◌&&◌, ◌||◌, List, [], ◌∷◌, ◌++◌, map, Option, None, Some, refl, sym, ap, ◌∙◌, is_some, cond, if◌then◌else◌}
use Rattle.std.specs.List.{flat_map, list_any}
use Rattle.std.specs.Option.{option_map_or}
use Rattle.std.specs.Str.{bytes_eq}
use Rattle.std.proofs.lemmas.Grind.{flat_map-append}
use Rattle.graphql_names.specs.Placed.{Place}
use Rattle.schema_fold_index.specs.in_components.Given.{Given}
use Rattle.schema_fold_index.specs.in_components.Lists.{firsts}
use Rattle.schema_fold_index.specs.in_schema_types.SchemaTree.{SchemaType, same_kind}
use Rattle.schema_fold_index.specs.in_schema_types.TypeParts.{TypeParts, TypeDefinition, type_extension_here}
use Rattle.schema_fold_index.specs.in_fold.Components.{go_together, extension_here, keyed_firsts, field_key, value_key, input_key}
use Rattle.schema_fold_index.specs.in_fold.Collected.{class_from, collected_from}
use Rattle.schema_fold_index.specs.in_fold.Kept.{component_faults}
use Rattle.schema_fold_index.specs.in_fold.NumberedDefinition.{NumberedDefinition, type_name, definitions_of}
use Rattle.schema_fold_index.specs.in_fold.Fold.{folded_type}
use Rattle.schema_fold_index.specs.in_fold.BuildErrors.{BuildFault}
use Rattle.schema_fold_types.specs.TypeFaults.{faults_of_type}
use Rattle.schema_fold_types.specs.ListTypes.{ExtendsNone}
use Rattle.schema_fold_types.specs.Filing.{type_by, types_by, faults_by}
use Rattle.schema_fold_index.proofs.Indexing.{extends_name, extensions_named}

module _ (defined : TypeParts Place) where
  abbrev named : List NumberedDefinition → List NumberedDefinition
  named list = extensions_named defined.name.it list

  -- what parts give to the type
  abbrev given_by : NumberedDefinition → Option (TypeParts Place) → List (Given Place (TypeParts Place))
  given_by l o = option_map_or (λ parts. if go_together defined parts then record { extension = l.extension; it = parts } ∷ [] else []) o []

  none_here : (l : NumberedDefinition) (o : Option (TypeParts Place)) → option_map_or (λ parts. bytes_eq defined.name.it parts.name.it) o false ≡ false → given_by l o ≡ []
  none_here l None other = refl
  none_here l (Some parts) other =
      let given : Given Place (TypeParts Place) = record { extension = l.extension; it = parts } in
      ap (λ b. if b && same_kind defined.kind parts.kind then given ∷ [] else []) other

  -- no definition of another name gives anything to the type
  pub named_enough : (list : List NumberedDefinition) → flat_map (extension_here defined) (named list) ≡ flat_map (extension_here defined) list
  named_enough [] = refl
  named_enough (l ∷ ls) = by (extends_name defined.name.it l) refl (named_enough ls)
    where
      by : (b : Bool) → extends_name defined.name.it l ≡ b → flat_map (extension_here defined) (named ls) ≡ flat_map (extension_here defined) ls
          → flat_map (extension_here defined) (cond b (l ∷ named ls) (named ls)) ≡ extension_here defined l ++ flat_map (extension_here defined) ls
      by true e rest = ap (λ r. extension_here defined l ++ r) rest
      by false e rest = rest ∙ ap (λ r. r ++ flat_map (extension_here defined) ls) (sym (none_here l (type_extension_here l.definition) e))

  -- where nothing is extended, nothing is given to the type
  pub none_given : (list : List NumberedDefinition) → ExtendsNone list → flat_map (extension_here defined) list ≡ []
  none_given [] none = refl
  none_given (l ∷ ls) none = by (type_extension_here l.definition) none (none_given ls)
    where
      by : (o : Option (TypeParts Place)) → (is_some o || list_any (λ d. is_some (type_extension_here d)) (definitions_of ls)) ≡ false → (ExtendsNone ls → flat_map (extension_here defined) ls ≡ [])
          → given_by l o ++ flat_map (extension_here defined) ls ≡ []
      by None h rest = rest h
      by (Some parts) h rest = absurd cc

-- what a type folds to, and what its fold tells, by what its extensions give
module _ (t : TypeDefinition Place) where
  abbrev AllGiven : Type 0
  AllGiven = List (Given Place (TypeParts Place))

  abbrev and_own : AllGiven → AllGiven
  and_own gs = record { extension = None; it = t.parts } ∷ gs

  abbrev type_given : AllGiven → SchemaType Place
  type_given gs = record {
    kind = t.parts.kind;
    place = t.place;
    description = t.description;
    name = t.parts.name;
    directives = class_from (λ p. p.directives) (and_own gs);
    interfaces = firsts (λ g. g.it.it) (class_from (λ p. p.interfaces) (and_own gs));
    fields = keyed_firsts field_key (class_from (λ p. p.fields) (and_own gs));
    members = firsts (λ g. g.it.it) (class_from (λ p. p.members) (and_own gs));
    values = keyed_firsts value_key (class_from (λ p. p.values) (and_own gs));
    inputs = keyed_firsts input_key (class_from (λ p. p.inputs) (and_own gs));
  }

  abbrev faults_given : AllGiven → List BuildFault
  faults_given gs = component_faults t.parts.kind t.parts.name.it (collected_from (and_own gs))

  module _ (extensions : List ℕ → List NumberedDefinition) (list : List NumberedDefinition) (is : (n : List ℕ) → extensions n ≡ extensions_named n list) where
    given : flat_map (extension_here t.parts) (extensions (type_name t)) ≡ flat_map (extension_here t.parts) list
    given = ap (flat_map (extension_here t.parts)) (is (type_name t)) ∙ named_enough t.parts list

    type_enough : type_by extensions t ≡ folded_type list t
    type_enough = ap type_given given

    told_enough : faults_of_type (extensions (type_name t)) t ≡ faults_of_type list t
    told_enough = ap faults_given given

  module _ (front list : List NumberedDefinition) (none : ExtendsNone front) where
    given_after : flat_map (extension_here t.parts) list ≡ flat_map (extension_here t.parts) (front ++ list)
    given_after = sym (flat_map-append (extension_here t.parts) front list ∙ ap (λ l. l ++ flat_map (extension_here t.parts) list) (none_given t.parts front none))

    -- with what extends nothing in front of the list the same
    pub node_of_type : folded_type list t ≡ folded_type (front ++ list) t
    node_of_type = ap type_given given_after

    pub told_after : faults_of_type list t ≡ faults_of_type (front ++ list) t
    told_after = ap faults_given given_after

module _ (extensions : List ℕ → List NumberedDefinition) (list : List NumberedDefinition) (is : (n : List ℕ) → extensions n ≡ extensions_named n list) where
  -- the same types and faults as with the whole list
  pub types_enough : (ts : List (TypeDefinition Place)) → types_by extensions ts ≡ map (λ t. (type_name t, folded_type list t)) (firsts type_name ts)
  types_enough ts i = map (λ t. (type_name t, type_enough t extensions list is i)) (firsts type_name ts)

  pub faults_enough : (ts : List (TypeDefinition Place)) → faults_by extensions ts ≡ flat_map (faults_of_type list) (firsts type_name ts)
  faults_enough ts i = flat_map (λ t. told_enough t extensions list is i) (firsts type_name ts)
