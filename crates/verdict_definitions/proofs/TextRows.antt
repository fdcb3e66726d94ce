-- Texts of rows and their trees, places included.
use Rattle.std.proofs.Common.{◌≡◌, [], ◌∷◌, codes, refl}
use Rattle.tree_definitions.specs.DefinitionTree.{DefinitionTree, ExtendScalar}
use Rattle.graphql_names.specs.Placed.{Place}
use Rattle.schema_fold.specs.in_directives.declared.directive_location.DirectiveLocation.TheVariants as at
use Rattle.graphql_faults.specs.in_grammar.Places.{place_in}
use Rattle.tree_definitions.specs.in_operations.SelectionTree.{no_selections}
use Rattle.verdict_definitions.specs.Texts.{SourceText, Tree, ReadsText, document_number}
use Rattle.verdict_definitions.proofs.RowReading.{reader, reads}
use Rattle.verdict_definitions.proofs.RowTrees.{terms, named, field_definition, object, extend_object, use_of, directive, field, short_query}

-- the document after no schema text, one, and two, where texts are counted from 1
no_schema_text : document_number terms [] ≡ 1
no_schema_text = refl

one_schema_text : document_number terms (codes "type Query { a: Int }" ∷ []) ≡ 2
one_schema_text = refl

two_schema_texts : document_number terms (codes "type Query { a: Int }" ∷ codes "scalar S" ∷ []) ≡ 3
two_schema_texts = refl

-- ---- S `type Query { field: Int }`, D `{ field }`

abbrev pub query_field : SourceText
query_field = codes "type Query { field: Int }"

abbrev pub query_field_tree : Tree
query_field_tree = object (place_in 1 0 25) (named (codes "Query") (place_in 1 5 10)) (field_definition (codes "field") 13 18 (codes "Int") 20 23 ∷ []) ∷ []

pub query_field_reads : ReadsText 1 query_field query_field_tree
unfolding reader
query_field_reads = reads 500 1 query_field query_field_tree refl

abbrev pub just_field : SourceText
just_field = codes "{ field }"

abbrev pub just_field_tree : Tree
just_field_tree = short_query (place_in 2 0 9) (field (codes "field") 2 7 no_selections) ∷ []

pub just_field_reads : ReadsText 2 just_field just_field_tree
unfolding reader
just_field_reads = reads 500 2 just_field just_field_tree refl

-- D `,{ field, } # note`: what is ignored is not in the tree
abbrev pub noted_field : SourceText
noted_field = codes ",{ field, } # note"

abbrev pub noted_field_tree : Tree
noted_field_tree = short_query (place_in 2 1 11) (field (codes "field") 3 8 no_selections) ∷ []

pub noted_field_reads : ReadsText 2 noted_field noted_field_tree
unfolding reader
noted_field_reads = reads 500 2 noted_field noted_field_tree refl

-- ---- S `extend scalar ID @d directive @d on SCALAR type Query { a: Int }`

abbrev pub scalar_extended : SourceText
scalar_extended = codes "extend scalar ID @d directive @d on SCALAR type Query { a: Int }"

abbrev pub extended_id : DefinitionTree Place
extended_id = ExtendScalar (place_in 1 0 19) (record { name = named (codes "ID") (place_in 1 14 16); directives = use_of (codes "d") 17 19 ∷ [] })

abbrev pub directive_d : DefinitionTree Place
directive_d = directive (place_in 1 20 42) (named (codes "d") (place_in 1 31 32)) (at.Scalar ∷ [])

abbrev pub query_a : DefinitionTree Place
query_a = object (place_in 1 43 64) (named (codes "Query") (place_in 1 48 53)) (field_definition (codes "a") 56 57 (codes "Int") 59 62 ∷ [])

pub scalar_extended_reads : ReadsText 1 scalar_extended (extended_id ∷ directive_d ∷ query_a ∷ [])
unfolding reader
scalar_extended_reads = reads 500 1 scalar_extended (extended_id ∷ directive_d ∷ query_a ∷ []) refl

-- ---- S `type Query { a: Int } extend type T { a: Int }`

abbrev pub orphan : SourceText
orphan = codes "type Query { a: Int } extend type T { a: Int }"

abbrev pub orphan_query : DefinitionTree Place
orphan_query = object (place_in 1 0 21) (named (codes "Query") (place_in 1 5 10)) (field_definition (codes "a") 13 14 (codes "Int") 16 19 ∷ [])

abbrev pub orphan_extension : DefinitionTree Place
orphan_extension = extend_object (place_in 1 22 46) (named (codes "T") (place_in 1 34 35)) (field_definition (codes "a") 38 39 (codes "Int") 41 44 ∷ [])

pub orphan_reads : ReadsText 1 orphan (orphan_query ∷ orphan_extension ∷ [])
unfolding reader
orphan_reads = reads 500 1 orphan (orphan_query ∷ orphan_extension ∷ []) refl

-- ---- D `{ missing }`

abbrev pub missing : SourceText
missing = codes "{ missing }"

abbrev pub missing_tree : Tree
missing_tree = short_query (place_in 2 0 11) (field (codes "missing") 2 9 no_selections) ∷ []

pub missing_reads : ReadsText 2 missing missing_tree
unfolding reader
missing_reads = reads 500 2 missing missing_tree refl
