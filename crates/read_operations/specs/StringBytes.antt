-- Private: leads to `string_meant`. What a string stands for, as it is kept.
use Rattle.std.specs.Prelude.{ℕ, List}
use Rattle.std.specs.String.{string_bytes}
use Rattle.graphql_names.specs.TextPart.{part_bytes}
use Rattle.read_operations.specs.declared.string_token.StringText.{StringText}
use Rattle.read_operations.specs.declared.string_token.StringText.TheVariants.{Part, Own}

abbrev pub bytes_of : StringText → List ℕ
bytes_of (Part part) = part_bytes part
bytes_of (Own text) = string_bytes text
