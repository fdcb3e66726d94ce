-- What is written piece by piece is what is written.
use Rattle.std.proofs.Common.{◌≡◌, Bool, true, false, ◌&&◌, List, [], ◌∷◌, ◌++◌, map, Option, None, Some, is_none, is_some, refl, sym, ap, ◌∙◌, if◌then◌else◌}
use Rattle.std.specs.List.{flat_map}
use Rattle.std.proofs.lemmas.List.{append_assoc, append-nil}
use Rattle.graphql_names.specs.Node.{content}
use Rattle.graphql_names.specs.NameValue.{NameValue}
use Rattle.graphql_names.specs.Places.{is_built_in}
use Rattle.graphql_names.specs.declared.node.Node.{Node}
use Rattle.graphql_names.specs.Placed.{Place, node_tree}
use Rattle.tree_directives.specs.DirectiveTree.{Directives, directive_definition_tree}
use Rattle.tree_directives.specs.declared.directive.DirectiveDefinition.{DirectiveDefinition}
use Rattle.tree_definitions.specs.DefinitionTree.{DefinitionTree}
use Rattle.tree_directives.specs.declared.operation_type.OperationType.TheVariants as operation
use Rattle.schema_components.specs.Given.{ExtensionTree, extension_tree, place_of}
use Rattle.schema_components.specs.declared.extension.ExtensionId.{ExtensionId}
use Rattle.schema_types.specs.SchemaTree.{SchemaRoots, SchemaTree}
use Rattle.schema_types.specs.TypeView.{name_text, extended_type, schema_roots}
use Rattle.schema_types.specs.Origins.{type_origins, schema_origins, extensions_in}
use Rattle.schema_types.specs.Out.{is_empty, is_implicit_root, is_left_out, extensions_of_schema, schema_parts_given_by, written_schema, written_directive, written_type}
use Rattle.schema_types.specs.declared.extended_type.ExtendedType.{ExtendedType}
use Rattle.schema_types.specs.declared.schema_definition.SchemaDefinition.{SchemaDefinition}
use Rattle.schema_writing.specs.Contents.{TypeContents, GivenParts, type_contents, parts_given_by, extensions_of_contents, defined_from, extended_from, written_contents}
use Rattle.schema_writing.specs.SchemaParts.{written_node, schema_from, schema_extended_from, whole_schema}
use Rattle.schema_writing.proofs.Keyless.{written_same}
use Rattle.schema_writing.proofs.Extensions.{type_extensions, schema_extensions}

abbrev Giver : Type 0
Giver = Option (ExtensionTree Place)

abbrev Trees : Type 0
Trees = List (DefinitionTree Place)

map_trees : {B : Type 0} (f : ExtensionTree Place → B) (ids : List ExtensionId) → map (λ id. f (extension_tree id)) ids ≡ map f (map extension_tree ids)
map_trees f [] = refl
map_trees f (e ∷ es) = ap (λ l. f (extension_tree e) ∷ l) (map_trees f es)

-- a type, whose definition and extensions are written of what is filed
pub type_written : (t : ExtendedType) (c : TypeContents) (filed : Giver → GivenParts) (ids : List ExtensionId) (old mid new : Trees)
    → c ≡ type_contents t → ((giver : Giver) → filed giver ≡ parts_given_by giver c) → ids ≡ extensions_in (type_origins t)
    → mid ≡ old ++ (if is_built_in c.place then [] else defined_from c (filed None) ∷ [])
    → new ≡ mid ++ map (λ id. extended_from c (place_of id) (filed (Some (extension_tree id)))) ids
    → new ≡ old ++ written_contents (type_contents t)
type_written t c filed ids old mid new same given are first second =
    second
    ∙ (λ i. first i ++ map (λ id. extended_from c (place_of id) (given (Some (extension_tree id)) i)) ids)
    ∙ (λ i. (old ++ (if is_built_in c.place then [] else defined_from c (given None i) ∷ [])) ++ map_trees (λ e. extended_from c e.place (parts_given_by (Some e) c)) ids i)
    ∙ append_assoc old (if is_built_in c.place then [] else defined_from c (parts_given_by None c) ∷ []) (map (λ e. extended_from c e.place (parts_given_by (Some e) c)) (map extension_tree ids))
    ∙ ap (λ es. old ++ ((if is_built_in c.place then [] else defined_from c (parts_given_by None c) ∷ []) ++ map (λ e. extended_from c e.place (parts_given_by (Some e) c)) es)) extensions
    ∙ ap (λ d. old ++ written_contents d) same
  where
    extensions : map extension_tree ids ≡ extensions_of_contents c
    extensions = ap (map extension_tree) are ∙ type_extensions t ∙ sym (ap extensions_of_contents same)

-- the schema definition and its extensions, of which the directives are filed
pub schema_written : (s : SchemaRoots Place) (filed : Giver → Directives Place) (ids : List ExtensionId) (old mid new : Trees)
    → ((giver : Giver) → filed giver ≡ (schema_parts_given_by None giver s).directives)
    → mid ≡ old ++ schema_from s (filed None) ∷ []
    → new ≡ mid ++ map (λ id. schema_extended_from s (extension_tree id) (filed (Some (extension_tree id)))) ids
    → new ≡ old ++ whole_schema s (map extension_tree ids)
schema_written s filed ids old mid new given first second =
    second
    ∙ (λ i. first i ++ map (λ id. schema_extended_from s (extension_tree id) (given (Some (extension_tree id)) i)) ids)
    ∙ (λ i. (old ++ schema_from s (given None i) ∷ []) ++ map_trees extended ids i)
    ∙ append_assoc old (schema_from s (schema_parts_given_by None None s).directives ∷ []) (map extended (map extension_tree ids))
  where
    extended : ExtensionTree Place → DefinitionTree Place
    extended = λ e. schema_extended_from s e (schema_parts_given_by None (Some e) s).directives

empty_trees : (ids : List ExtensionId) → is_empty (map extension_tree ids) ≡ is_empty ids
empty_trees [] = refl
empty_trees (e ∷ es) = refl

and_four : (a b c d e : Bool) → (a && b && c && d && e) ≡ (a && (b && c && d && e))
and_four true b c d e = refl
and_four false b c d e = refl

-- the schema definition is left out where it is bare and its roots are the implicit ones
pub left_out : (n : Node SchemaDefinition) (s : SchemaTree Place) (ids : List ExtensionId) (bare implicit : Bool)
    → s.definition ≡ schema_roots n → ids ≡ extensions_in (schema_origins (content n))
    → bare ≡ (is_none s.definition.description && is_empty s.definition.directives && is_empty ids)
    → implicit ≡ (is_implicit_root s.types operation.Query s.definition.query && is_implicit_root s.types operation.Mutation s.definition.mutation && is_implicit_root s.types operation.Subscription s.definition.subscription && is_some s.definition.query)
    → is_left_out s ≡ (bare && implicit)
left_out n s ids bare implicit of are b i =
    ap (λ e. is_none s.definition.description && is_empty s.definition.directives && e && is_implicit_root s.types operation.Query s.definition.query && is_implicit_root s.types operation.Mutation s.definition.mutation
    && is_implicit_root s.types operation.Subscription s.definition.subscription && is_some s.definition.query) (sym (sym (empty_trees ids) ∙ ap is_empty extensions))
    ∙ and_four (is_none s.definition.description && is_empty s.definition.directives && is_empty ids) (is_implicit_root s.types operation.Query s.definition.query) (is_implicit_root s.types operation.Mutation s.definition.mutation)
    (is_implicit_root s.types operation.Subscription s.definition.subscription) (is_some s.definition.query)
    ∙ (λ j. sym b j && sym i j)
  where
    extensions : map extension_tree ids ≡ extensions_of_schema s.definition
    extensions = ap (map extension_tree) are ∙ schema_extensions n ∙ sym (ap extensions_of_schema of)

-- where it is left out nothing is written, and otherwise the whole of it
pub nothing_written : (s : SchemaTree Place) (old : Trees) → is_left_out s ≡ true → old ≡ old ++ written_schema s
nothing_written s old out = sym (append-nil old) ∙ ap (λ b. old ++ (if b then [] else whole_schema s.definition (extensions_of_schema s.definition))) (sym out)

pub all_written : (n : Node SchemaDefinition) (s : SchemaTree Place) (ids : List ExtensionId) (old new : Trees)
    → s.definition ≡ schema_roots n → ids ≡ extensions_in (schema_origins (content n))
    → is_left_out s ≡ false → new ≡ old ++ whole_schema (schema_roots n) (map extension_tree ids) → new ≡ old ++ written_schema s
all_written n s ids old new of are out is =
    is ∙ (λ i. old ++ whole_schema (sym of i) ((ap (map extension_tree) are ∙ schema_extensions n ∙ sym (ap extensions_of_schema of)) i))
    ∙ ap (λ b. old ++ (if b then [] else whole_schema s.definition (extensions_of_schema s.definition))) (sym out)

-- the directives, and the types, of a map
pub directives_written : (es : List (NameValue × Node DirectiveDefinition)) → flat_map written_node (map (λ e. e.1) es) ≡ flat_map written_directive (map (λ e. (name_text e.0, node_tree directive_definition_tree e.1)) es)
directives_written [] = refl
directives_written (e ∷ es) = ap (λ l. written_node e.1 ++ l) (directives_written es)

pub types_written : (es : List (NameValue × ExtendedType)) → flat_map (λ t. written_contents (type_contents t)) (map (λ e. e.1) es) ≡ flat_map written_type (map (λ e. (name_text e.0, extended_type e.1)) es)
types_written [] = refl
types_written (e ∷ es) = λ i. written_same (name_text e.0) e.1 i ++ types_written es i
