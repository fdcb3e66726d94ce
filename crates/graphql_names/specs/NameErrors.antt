-- Why a text cannot be made a `Name`.
use Rattle.std.specs.Prelude.{ℕ, ◌≡◌, List, false}
use Rattle.graphql_names.specs.NameSyntax.{is_name, IsName}
use Rattle.graphql_names.specs.declared.name.NameError.{NameError}
use Rattle.graphql_names.specs.declared.name.NameError.TheVariants.{InvalidName, Memory}

-- the error is `InvalidName` exactly when the text is not a Name token
abbrev pub NameErrorIsDue : List ℕ → NameError → Type 0
NameErrorIsDue text (InvalidName e) = is_name text ≡ false
NameErrorIsDue text Memory = IsName text
