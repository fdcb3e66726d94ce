-- A row that is refused by a rule on schemas: S `type Query { f(i: I): Int } input I { i: I! }`, `RecursiveInputObjectDefinition` at 1:28.
use Rattle.std.proofs.Common.{[], ◌∷◌, codes, None, refl, subst, inl, inr}
use Rattle.graphql_names.specs.Placed.{Place, Placed}
use Rattle.schema_built_in.specs.Table.{built_in_definitions}
use Rattle.tree_definitions.specs.DefinitionTree.{InputObjectType}
use Rattle.graphql_faults.specs.in_grammar.Places.{place_in}
use Rattle.schema_fold.specs.in_literals.TypeTree.{NamedTree, NonNullNamedTree}
use Rattle.schema_fold.specs.in_directives.DirectiveTree.{InputValueTree}
use Rattle.schema_types.specs.SchemaTree.{SchemaType, SchemaTree}
use Rattle.schema_types.specs.Addresses.{TypeAt, InputAt}
use Rattle.schema_types.specs.declared.type_kind.TypeKind.TheVariants as kind
use Rattle.rule_definitions.specs.Diagnostics.{RecursiveInputObjectDefinition}
use Rattle.rule_definitions.specs.Faults.{SchemaFault, wrong}
use Rattle.rule_definitions.specs.Judged.{judged}
use Rattle.rule_definitions.specs.Rules.{Breaks}
use Rattle.rule_definitions.specs.Spots.{At}
use Rattle.rule_definitions.specs.PlacedFaults.{PlacedFault}
use Rattle.graphql_faults.specs.DetailsTree.{of_rule}
use Rattle.verdict_definitions.specs.Texts.{SourceText, Tree, ReadsText}
use Rattle.verdict_definitions.specs.Meaning.{schema_of}
use Rattle.verdict_definitions.specs.Judge.{IsAccepted}
use Rattle.verdict_definitions.specs.Says.{SaysSchema}
use Rattle.verdict_definitions.proofs.RowReading.{reader, reads}
use Rattle.verdict_definitions.proofs.RowTrees.{terms, named, node, object}
use Rattle.verdict_definitions.proofs.RowMeanings.{type_found, judged_found, same_judged}
use Rattle.verdict_definitions.proofs.RowJudging.{schema_refused}

abbrev recursive : SourceText
recursive = codes "type Query { f(i: I): Int } input I { i: I! }"

abbrev i_field : Placed Place (InputValueTree Place)
i_field = node (record { description = None; name = named (codes "i") (place_in 1 38 39); ty = node (NonNullNamedTree (named (codes "I") (place_in 1 41 42))) (place_in 1 41 43); default_value = None; directives = [] }) (place_in 1 38 43)

abbrev recursive_tree : Tree
recursive_tree =
    object (place_in 1 0 27) (named (codes "Query") (place_in 1 5 10)) (
    node (record {
      description = None;
      name = named (codes "f") (place_in 1 13 14);
      arguments = node (record { description = None; name = named (codes "i") (place_in 1 15 16); ty = node (NamedTree (named (codes "I") (place_in 1 18 19))) (place_in 1 18 19); default_value = None; directives = [] }) (place_in 1 15 19) ∷ [];
      ty = NamedTree (named (codes "Int") (place_in 1 22 25));
      directives = [];
    }) (place_in 1 13 25) ∷ [])
    ∷ InputObjectType (place_in 1 28 45) None (record { name = named (codes "I") (place_in 1 34 35); directives = []; fields = i_field ∷ [] })
    ∷ []

recursive_reads : ReadsText 1 recursive recursive_tree
unfolding reader
recursive_reads = reads 500 1 recursive recursive_tree refl

abbrev recursive_schema : SchemaTree Place
recursive_schema = schema_of terms (recursive_tree ∷ [])

-- `I` in the schema, and its field without places
abbrev i_type : SchemaType Place
i_type = record {
  kind = kind.InputObject;
  place = place_in 1 28 45;
  description = None;
  name = named (codes "I") (place_in 1 34 35);
  directives = [];
  interfaces = [];
  fields = [];
  members = [];
  values = [];
  inputs = (codes "i", record { extension = None; it = i_field }) ∷ [];
}

abbrev i_plain : InputValueTree (Unit {0})
i_plain = record { description = None; name = record { it = codes "i"; place = tt }; ty = record { it = NonNullNamedTree (record { it = codes "I"; place = tt }); place = tt }; default_value = None; directives = [] }

abbrev recursion : SchemaFault
recursion = wrong (At (TypeAt (codes "I"))) (RecursiveInputObjectDefinition (codes "I") (record { it = i_plain; place = At (InputAt (codes "I") (codes "i")) } ∷ []))

abbrev recursion_told : PlacedFault
recursion_told = wrong (place_in 1 28 45) (RecursiveInputObjectDefinition (codes "I") (record { it = i_plain; place = place_in 1 38 43 } ∷ []))

leads_back : Breaks (judged_found recursive_schema) recursion
unfolding built_in_definitions
leads_back = inr (inr (inr (inl (inl (
  codes "I",
  (
    record { it = i_plain; place = At (InputAt (codes "I") (codes "i")) },
    (
      [],
      (
        (codes "I", ((type_found i_type, (refl, (refl, ((codes "i", (i_plain, (refl, (refl, (record { it = codes "I"; place = tt }, (refl, refl)))))), (type_found i_type, (refl, refl)))))), refl)),
        refl,
      ),
    ),
  ),
)))))

recursion_breaks : Breaks (judged recursive_schema) recursion
recursion_breaks = subst (λ j. Breaks j recursion) (same_judged recursive_schema) leads_back

recursion_refused : (document : SourceText) → IsAccepted terms (recursive ∷ []) document → ⊥
recursion_refused document = schema_refused terms recursive document recursive_tree recursive_reads recursion recursion_breaks

recursion_said : SaysSchema terms (recursive ∷ []) (of_rule recursion_told)
unfolding built_in_definitions
recursion_said = inr (recursive_tree ∷ [], ((recursive_reads, tt), inr (inr (recursion_told, (refl, inl (recursion, (recursion_breaks, (refl, refl))))))))
