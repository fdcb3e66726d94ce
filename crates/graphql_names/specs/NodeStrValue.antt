-- What contracts see of a `NodeStr`.
use Rattle.std.specs.Prelude.{ℕ, List, Option}
use Rattle.std.specs.Str.{IsUtf8}
use Rattle.graphql_names.specs.declared.span.SourceSpan.{SourceSpan}

-- a text in bytes, which are UTF-8, and its place, if it has one
pub record NodeStrValue : Type 0 where
  pub text : List ℕ
  pub location : Option SourceSpan
  pub utf8 : ∥ IsUtf8 text ∥₁
