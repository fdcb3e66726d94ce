-- What small documents and their schema are made of. Numbers are the places of selections.
use Rattle.std.proofs.Common.{◌≡◌, ℕ, Bool, true, false, List, [], ◌∷◌, codes, if◌then◌else◌, is_some, Option, None, Some, sym, ap, subst, true≢false}
use Rattle.std.proofs.lemmas.Option.{same_Some}
use Rattle.std.specs.Str.{bytes_eq}
use Rattle.graphql_names.specs.Placed.{Placed, Text}
use Rattle.tree_literals.specs.TypeTree.{NamedTree}
use Rattle.tree_literals.specs.ValueTree.{ValueTree}
use Rattle.tree_directives.specs.DirectiveTree.{ArgumentTree, Arguments, DirectiveTree, Directives}
use Rattle.tree_directives.specs.declared.operation_type.OperationType.{OperationType}
use Rattle.tree_directives.specs.declared.operation_type.OperationType.TheVariants as operation
use Rattle.tree_operations.specs.SelectionTree.{FieldHead}
use Rattle.tree_operations.specs.OperationTree.{VariableDefinitionTree}
use Rattle.rule_definitions.specs.in_schema_types.Looks.{TypeLooks}
use Rattle.rule_definitions.specs.in_schema_types.declared.type_kind.TypeKind.{TypeKind}
use Rattle.rule_definitions.specs.in_schema_types.declared.type_kind.TypeKind.TheVariants as kind
use Rattle.spec_document.specs.MeantTree.{Definition, MeantSelection, MeantField, MeantSpread, MeantInline, MeantSet, meant_set, no_meant, set_on, MeantOperation, MeantFragment, MeantDocument}
use Rattle.rule_definitions.specs.Judged.{Judged}
use Rattle.rule_document_definitions.specs.Places.{Places}
use Rattle.rule_document_definitions.specs.Selected.{Position, Standing, StandingField, InOperation, SelectionAt}
use Rattle.rule_document_definitions.proofs.RowWords.{Each}

abbrev pub by_numbers : Places ℕ
by_numbers = record { at = λ a. 0; Spans = λ from to whole. whole ≡ from; nowhere = 0 }

abbrev pub at : ℕ → List ℕ → Text ℕ
at p n = record { it = n; place = p }

-- ---- names

abbrev pub query_name : List ℕ
query_name = codes "Q"

abbrev pub int_name : List ℕ
int_name = codes "Int"

abbrev pub a_name : List ℕ
a_name = codes "a"

abbrev pub v_name : List ℕ
v_name = codes "v"

abbrev pub f_name : List ℕ
f_name = codes "F"

-- ---- the schema: `type Q`, `scalar Int`, `interface P`, `type C implements P`, `type D implements P`

abbrev pub of_kind : TypeKind → List ℕ → (List ℕ → Bool) → TypeLooks
of_kind k n implements = record {
  kind = k;
  description = None;
  name = record { it = n; place = tt };
  directives = [];
  implements = implements;
  field = λ m. None;
  has_member = λ m. false;
  value = λ m. None;
  input = λ m. None;
}

abbrev pub query_type : TypeLooks
query_type = of_kind kind.Object query_name (λ n. false)

abbrev pub int_type : TypeLooks
int_type = of_kind kind.Scalar int_name (λ n. false)

abbrev pub p_type : TypeLooks
p_type = of_kind kind.Interface (codes "P") (λ n. false)

abbrev pub c_type : TypeLooks
c_type = of_kind kind.Object (codes "C") (bytes_eq (codes "P"))

abbrev pub d_type : TypeLooks
d_type = of_kind kind.Object (codes "D") (bytes_eq (codes "P"))

-- what stands first under the name
abbrev pub look : List ℕ → List (List ℕ × TypeLooks) → Option TypeLooks
look n [] = None
look n (e ∷ es) = if bytes_eq n e.0 then Some e.1 else look n es

abbrev pub types : List (List ℕ × TypeLooks)
types = (query_name, query_type) ∷ (int_name, int_type) ∷ (codes "P", p_type) ∷ (codes "C", c_type) ∷ (codes "D", d_type) ∷ []

-- what holds of all types holds of one that is found
pub of_look : (Q : TypeLooks → Type 0) (es : List (List ℕ × TypeLooks)) → Each (λ e. Q e.1) es → (n : List ℕ) (t : TypeLooks) → look n es ≡ Some t → Q t
of_look Q [] qs n t e = absurd (true≢false (sym (ap is_some e)))
of_look Q (x ∷ es) (q, qs) n t e = by (bytes_eq n x.0) (of_look Q es qs n t) e
  where
    by : (b : Bool) → (look n es ≡ Some t → Q t) → (if b then Some x.1 else look n es) ≡ Some t → Q t
    by true later i = subst Q (same_Some _ _ i) q
    by false later i = later i

abbrev pub small : Judged
small = record {
  definition = record { description = None; directives = []; query = Some query_name; mutation = None; subscription = None };
  directive = λ n. None;
  type_named = λ n. look n types;
  built_in = λ a. false;
}

-- ---- documents

abbrev pub of_type : List ℕ → List ℕ → Definition
of_type n ty = record { description = None; name = record { it = n; place = tt }; arguments = []; ty = NamedTree (record { it = ty; place = tt }); directives = [] }

-- alias: n(given) @applied
abbrev pub headed : ℕ → Option (Text ℕ) → List ℕ → Arguments ℕ → Directives ℕ → FieldHead ℕ
headed p alias n given applied = record { alias = alias; name = at p n; arguments = given; directives = applied }

abbrev pub nothing_on : List ℕ → MeantSet ℕ
nothing_on t = meant_set t no_meant

-- n
abbrev pub leaf : ℕ → List ℕ → MeantSelection ℕ
leaf p n = MeantField p (of_type n int_name) (headed p None n [] []) (nothing_on int_name)

-- n(given) @applied
abbrev pub leaf_with : ℕ → List ℕ → Arguments ℕ → Directives ℕ → MeantSelection ℕ
leaf_with p n given applied = MeantField p (of_type n int_name) (headed p None n given applied) (nothing_on int_name)

-- x: n
abbrev pub aliased : ℕ → List ℕ → List ℕ → MeantSelection ℕ
aliased p x n = MeantField p (of_type n int_name) (headed p (Some (at p x)) n [] []) (nothing_on int_name)

-- p, a field of type P that selects this
abbrev pub p_field : ℕ → List (MeantSelection ℕ) → MeantSelection ℕ
p_field p ss = MeantField p (of_type (codes "p") (codes "P")) (headed p None (codes "p") [] []) (set_on (codes "P") ss)

-- ... on t { ss }
abbrev pub inline_on : ℕ → List ℕ → List (MeantSelection ℕ) → MeantSelection ℕ
inline_on p t ss = MeantInline p (Some (at p t)) [] (set_on t ss)

-- ... @applied { ss }, in a set on t
abbrev pub inline_with : ℕ → Directives ℕ → List ℕ → List (MeantSelection ℕ) → MeantSelection ℕ
inline_with p applied t ss = MeantInline p None applied (set_on t ss)

abbrev pub spread : ℕ → List ℕ → MeantSelection ℕ
spread p n = MeantSpread p (at p n) []

-- operation (variables) { ss }
abbrev pub operation_of : OperationType → List (Placed ℕ (VariableDefinitionTree ℕ)) → List (MeantSelection ℕ) → MeantOperation ℕ
operation_of kind vs ss = record { place = 1; operation_type = kind; name = None; variables = vs; directives = []; set = set_on query_name ss }

abbrev pub query_of : List (MeantSelection ℕ) → MeantOperation ℕ
query_of ss = operation_of operation.Query [] ss

-- $n: ty
abbrev pub variable : ℕ → List ℕ → List ℕ → Placed ℕ (VariableDefinitionTree ℕ)
variable p n ty = record { it = record { name = at p n; ty = record { it = NamedTree (at p ty); place = p }; default_value = None; directives = [] }; place = p }

-- fragment n on t { ss }
abbrev pub fragment_of : ℕ → List ℕ → List ℕ → List (MeantSelection ℕ) → MeantFragment ℕ
fragment_of p n t ss = record { place = p; name = at p n; type_condition = at p t; directives = []; set = set_on t ss }

abbrev pub alone : MeantOperation ℕ → MeantDocument ℕ
alone o = record { anonymous = Some o; named = []; fragments = [] }

-- the same beside a fragment
abbrev pub beside : MeantFragment ℕ → MeantOperation ℕ → MeantDocument ℕ
beside f o = record { anonymous = Some o; named = []; fragments = (f.name.it, f) ∷ [] }

-- n: value
abbrev pub given : ℕ → List ℕ → ValueTree ℕ → Placed ℕ (ArgumentTree ℕ)
given p n v = record { it = record { name = at p n; value = record { it = v; place = p } }; place = p }

-- @n(arguments)
abbrev pub applied : ℕ → List ℕ → Arguments ℕ → Placed ℕ (DirectiveTree ℕ)
applied p n arguments = record { it = record { name = at p n; arguments = arguments }; place = p }

-- ---- where selections stand

abbrev pub root : Position
root = InOperation None

abbrev pub stand_at : Position → ℕ → List ℕ → MeantSelection ℕ → Standing ℕ
stand_at holder i t s = record { position = SelectionAt holder i; parent = t; it = s }

abbrev pub at_root : ℕ → MeantSelection ℕ → Standing ℕ
at_root i s = stand_at root i query_name s

-- the field without what it selects, there
abbrev pub leaf_at : Position → ℕ → List ℕ → ℕ → Option (Text ℕ) → List ℕ → Arguments ℕ → Directives ℕ → StandingField ℕ
leaf_at holder i t p alias n given applied = record {
  position = SelectionAt holder i;
  parent = t;
  place = p;
  definition = of_type n int_name;
  head = headed p alias n given applied;
  set = nothing_on int_name;
}
