-- Values with the same parts are the same.
use Rattle.std.proofs.Common.{◌≡◌}
use Rattle.std.proofs.Props.{props}
use Rattle.std.specs.Str.{IsUtf8}
use mathlib.Core.HLevel.{is_prop→PathP}
use Rattle.graphql_names.specs.NameSyntax.{IsName}
use Rattle.graphql_names.specs.NameValue.{NameValue, IsPlaceOf}
use Rattle.graphql_names.specs.NodeStrValue.{NodeStrValue}

pub same_name : (m n : NameValue) → m.text ≡ n.text → m.is_static ≡ n.is_static → m.location ≡ n.location → m ≡ n
same_name m n text stat location = λ i. record {
  text = text i;
  is_static = stat i;
  location = location i;
  valid = is_prop→PathP (λ j. IsName (text j)) (λ j. hlevel props) m.valid n.valid i;
  as_long = is_prop→PathP (λ j. IsPlaceOf (text j) (location j)) (λ j. hlevel props) m.as_long n.as_long i;
}

pub same_node_str : (m n : NodeStrValue) → m.text ≡ n.text → m.location ≡ n.location → m ≡ n
same_node_str m n text location = λ i. record {
  text = text i;
  location = location i;
  utf8 = is_prop→PathP (λ j. ∥ IsUtf8 (text j) ∥₁) (λ j. hlevel props) m.utf8 n.utf8 i;
}
