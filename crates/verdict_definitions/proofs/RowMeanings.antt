-- What typing and rules read of a schema is looked up among its entries, so that a row computes it.
use Rattle.std.proofs.Common.{◌≡◌, false, Option, Some, None, is_some, refl, sym, ap, ◌∙◌}
use Rattle.std.specs.Option.{option_map, option_map_or}
use Rattle.std.specs.FinSet as set
use Rattle.graphql_names.specs.Placed.{Place, unplaced_text}
use Rattle.tree_definitions.specs.in_type_members.TypeSystemTree.{unplaced_field_definition, unplaced_enum_value}
use Rattle.schema_fold.specs.in_directives.DirectiveTree.{unplaced_input_value}
use Rattle.schema_fold.specs.in_components.Names.{names}
use Rattle.schema_fold.specs.in_components.Given.{plain_given, given_name}
use Rattle.schema_fold.specs.in_components.Applied.{unplaced_applied}
use Rattle.schema_types.specs.SchemaTree.{SchemaType, SchemaTree, same_kind}
use Rattle.schema_types.specs.Plain.{plain, plain_type, plain_roots, plain_directive_definition}
use Rattle.schema_types.specs.Looks.{TypeLooks, looks, type_looks}
use Rattle.schema_types.specs.Addresses.{under, is_marked}
use Rattle.schema_types.specs.declared.type_kind.TypeKind.TheVariants as kind
use Rattle.schema_types.proofs.UnderNames.{get_under}
use Rattle.rule_definitions.specs.Judged.{Judged, judged}
use Rattle.document_typing.specs.Meanings.{Meanings, root_named}
use Rattle.document_typing.specs.in_schema.LookUps.{field_named}
use Rattle.document_typing.proofs.in_schema.FieldLooks.{fields_plain}
use Rattle.verdict_definitions.specs.Meaning.{meanings_over}

module _ (s : SchemaTree Place) where
  abbrev pub meanings_found : Meanings
  meanings_found = record {
    root = root_named (looks (plain s));
    has_type = λ n. is_some (option_map type_looks (option_map plain_type (under n s.types)));
    is_scalar = λ n. option_map_or (λ t. same_kind t.kind kind.Scalar) (option_map type_looks (option_map plain_type (under n s.types))) false;
    is_enum = λ n. option_map_or (λ t. same_kind t.kind kind.Enum) (option_map type_looks (option_map plain_type (under n s.types))) false;
    field = λ n m. option_map (plain_given unplaced_field_definition) (field_named s n m);
  }

  pub same_meanings : meanings_found ≡ meanings_over s
  same_meanings = sym (λ i. record {
    root = root_named (looks (plain s));
    has_type = λ n. is_some (option_map type_looks (get_under plain_type n s.types i));
    is_scalar = λ n. option_map_or (λ t. same_kind t.kind kind.Scalar) (option_map type_looks (get_under plain_type n s.types i)) false;
    is_enum = λ n. option_map_or (λ t. same_kind t.kind kind.Enum) (option_map type_looks (get_under plain_type n s.types i)) false;
    field = λ n m. sym (fields_plain s n m) i;
  })

abbrev pub type_found : SchemaType Place → TypeLooks
type_found t = record {
  kind = t.kind;
  description = option_map unplaced_text t.description;
  name = unplaced_text t.name;
  directives = unplaced_applied t.directives;
  implements = set.contains (names given_name t.interfaces);
  field = λ n. option_map (plain_given unplaced_field_definition) (under n t.fields);
  has_member = set.contains (names given_name t.members);
  value = λ n. option_map (plain_given unplaced_enum_value) (under n t.values);
  input = λ n. option_map (plain_given unplaced_input_value) (under n t.inputs);
}

same_type : (t : SchemaType Place) → type_looks (plain_type t) ≡ type_found t
same_type t = λ i. record {
  kind = t.kind;
  description = option_map unplaced_text t.description;
  name = unplaced_text t.name;
  directives = unplaced_applied t.directives;
  implements = set.contains (names given_name t.interfaces);
  field = λ n. get_under (plain_given unplaced_field_definition) n t.fields i;
  has_member = set.contains (names given_name t.members);
  value = λ n. get_under (plain_given unplaced_enum_value) n t.values i;
  input = λ n. get_under (plain_given unplaced_input_value) n t.inputs i;
}

same_found : (o : Option (SchemaType Place)) → option_map type_looks (option_map plain_type o) ≡ option_map type_found o
same_found None = refl
same_found (Some t) = ap Some (same_type t)

module _ (s : SchemaTree Place) where
  abbrev pub judged_found : Judged
  judged_found = record {
    definition = plain_roots s.definition;
    directive = λ n. option_map plain_directive_definition (under n s.directives);
    type_named = λ n. option_map type_found (under n s.types);
    built_in = is_marked s;
  }

  pub same_judged : judged_found ≡ judged s
  same_judged = sym (λ i. record {
    definition = plain_roots s.definition;
    directive = λ n. get_under plain_directive_definition n s.directives i;
    type_named = λ n. (ap (option_map type_looks) (get_under plain_type n s.types) ∙ same_found (under n s.types)) i;
    built_in = is_marked s;
  })
