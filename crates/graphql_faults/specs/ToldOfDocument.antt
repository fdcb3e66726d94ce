-- What contracts see of what is told of a document in a list, with its place.
use Rattle.std.specs.Prelude.{List, Option, None, Some}
use Rattle.graphql_names.specs.Placed.{Place}
use Rattle.graphql_faults.specs.DetailsTree.{DetailsTree, DetailsAt, Data, DocumentBuild, RecursionLimitError}
use Rattle.graphql_faults.specs.DetailsView.{details_at}
use Rattle.graphql_faults.specs.declared.details.Details.{Details}

-- what is told of a document; None for what is told of texts and of schemas
abbrev pub told_of_document : DetailsTree Place (List Place) → Option (DetailsTree Place (List Place))
told_of_document (Data breach) = Some (Data breach)
told_of_document (DocumentBuild breach) = Some (DocumentBuild breach)
told_of_document RecursionLimitError = Some RecursionLimitError
told_of_document _ = None

-- the place, and what is told of a document
abbrev pub placed_details : DetailsAt Place (List Place) → Place × Option (DetailsTree Place (List Place))
placed_details d = (d.place, told_of_document d.details)

abbrev pub told_at : Place × Details → Place × Option (DetailsTree Place (List Place))
told_at d = placed_details (details_at d)
