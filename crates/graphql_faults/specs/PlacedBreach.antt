-- What contracts see of a breach of a rule on documents in a list, with its place.
use Rattle.graphql_names.specs.Placed.{Place}
use Rattle.fault_document_errors.specs.DocumentBreachView.{document_breach_of}
use Rattle.fault_document_errors.specs.declared.build_error.BuildError.{BuildError}
use Rattle.rule_document_definitions.specs.DocumentFaults.{Broken, broken}

-- the place, and the broken rule
abbrev pub placed_breach : Place × BuildError → Broken Place
placed_breach breach = broken breach.0 (document_breach_of breach.1)
