-- What contracts see of a `Name`.
use Rattle.std.specs.Prelude.{ℕ, ◌≡◌, List, length, Bool, Option}
use Rattle.std.specs.Option.{ForSome}
use Rattle.graphql_names.specs.NameSyntax.{IsName}
use Rattle.graphql_names.specs.declared.span.SourceSpan.{SourceSpan}

-- the place, if there is one, is as long as the text
abbrev pub IsPlaceOf : List ℕ → Option SourceSpan → Type 0
IsPlaceOf text place = ForSome place (λ s. s.length ≡ length text)

-- a name: its text in bytes, which is a Name token, whether the text is static, and its place, if it
-- has one, which is as long as the text
pub record NameValue : Type 0 where
  pub text : List ℕ
  pub is_static : Bool
  pub location : Option SourceSpan
  pub valid : IsName text
  pub as_long : IsPlaceOf text location
