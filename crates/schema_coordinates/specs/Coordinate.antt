-- Schema coordinates: how each names a part of a schema in one line, and which texts have which form.
use Rattle.std.specs.Prelude.{◌≡◌, ℕ, Bool, true, List, [], ◌∷◌, ◌++◌, codes, not, ◌==◌}
use Rattle.std.specs.List.{list_any, list_all}
use Rattle.graphql_names.specs.NameSyntax.{is_name}

-- a type; a field, enum value or input field of a type; an argument of a field; a directive; an argument of a directive
pub data Coordinate : Type 0 where
  OfType : (type : List ℕ) → Coordinate
  OfAttribute : (type attribute : List ℕ) → Coordinate
  OfArgument : (type field argument : List ℕ) → Coordinate
  OfDirective : (directive : List ℕ) → Coordinate
  OfDirectiveArgument : (directive argument : List ℕ) → Coordinate

-- `T`, `T.a`, `T.f(a:)`, `@d`, `@d(a:)`
abbrev pub printed : Coordinate → List ℕ
printed (OfType t) = t
printed (OfAttribute t a) = t ++ (codes "." ++ a)
printed (OfArgument t f a) = t ++ (codes "." ++ (f ++ (codes "(" ++ (a ++ codes ":)"))))
printed (OfDirective d) = codes "@" ++ d
printed (OfDirectiveArgument d a) = codes "@" ++ (d ++ (codes "(" ++ (a ++ codes ":)")))

abbrev pub parts : Coordinate → List (List ℕ)
parts (OfType t) = t ∷ []
parts (OfAttribute t a) = t ∷ a ∷ []
parts (OfArgument t f a) = t ∷ f ∷ a ∷ []
parts (OfDirective d) = d ∷ []
parts (OfDirectiveArgument d a) = d ∷ a ∷ []

abbrev pub is_sign : ℕ → Bool
is_sign c = list_any (λ s. c == s) (codes "@.(:)")

abbrev pub has_no_sign : List ℕ → Bool
has_no_sign text = list_all (λ c. not (is_sign c)) text

-- whether no part has a sign
abbrev pub is_signless : Coordinate → Bool
is_signless c = list_all has_no_sign (parts c)

-- whether each part is a name
abbrev pub is_named : Coordinate → Bool
is_named c = list_all is_name (parts c)

-- the text is this coordinate as it is printed: the signs are those of its form, and no part has a sign
abbrev pub HasForm : List ℕ → Coordinate → Type 0
HasForm text c = (printed c ≡ text) × (is_signless c ≡ true)
