-- A definition is read as what its description is followed by.
use Rattle.std.proofs.Common.{◌≡◌, ◌⊎◌, ℕ, Bool, true, false, cond, Option, Ok, Err, inl, inr, refl, ap, ◌∙◌}
use Rattle.tree_directives.specs.DirectiveTree.{DirectiveDefinitionTree}
use Rattle.graphql_names.specs.Placed.{Placed, Text}
use Rattle.read_operations.specs.in_definitions.DefinitionTree.{DefinitionTree}
use Rattle.read_tokens.specs.Input.{Input, next}
use Rattle.read_grammar.specs.Meaning.{Meaning, begin_of, place_between}
use Rattle.read_grammar.specs.Kinds.{next_is, is_string, is_directive}
use Rattle.read_grammar.specs.DocumentReading as d
use Rattle.read_grammar.specs.Grammar.{type_system_of}
use Rattle.read_grammar.specs.Reading.{Outcome, and_then, try, ◌<&>◌}
use Rattle.read_grammar.specs.TypeSystemGrammar.{KindTree}
use Rattle.read_grammar.specs.TypeSystemReading as y
use Rattle.read_types.specs.KindSteps.{definition_kind, kind_from, directive_from}
use Rattle.read_types.proofs.Dispatch.{undescribed_directive, undescribed_kind}

abbrev done : {A : Type 0} → A → Input → Outcome A
done x z = Ok (x, z)

module _ {P : Type 0} (m : Meaning P) where
  abbrev Undescribed : Type 0
  Undescribed = KindTree P ⊎ DirectiveDefinitionTree P

  abbrev put : {A : Type 0} → A → P → Placed P A
  put x p = record { it = x; place = p }

  -- the definition that follows a description
  abbrev finish : Input → Option (Text P) → Outcome Undescribed → Outcome (DefinitionTree P)
  finish i t w = and_then (and_then (and_then w (λ x z. done (t, x) z)) (λ x z. done (put x (place_between m i z)) z)) (λ x z. done (type_system_of x) z)

  abbrev pub described_from : ℕ → Input → Outcome (Option (Text P)) → Outcome (DefinitionTree P)
  described_from n i w = and_then w (λ t k. cond (next_is is_directive (next k)) (directive_from m (begin_of i.ahead) t n k) (kind_from m (begin_of i.ahead) t n k))

  finish_directive : (n : ℕ) (i k : Input) (t : Option (Text P)) → finish i t ((inr <&> y.directive_definition m n) k) ≡ directive_from m (begin_of i.ahead) t n k
  finish_directive n i k t = go (y.directive_definition m n k)
    where
      go : (w : Outcome (DirectiveDefinitionTree P)) → finish i t (and_then w (λ x z. done (inr x) z)) ≡ and_then w (λ x z. done (type_system_of (put (t, inr x) (place_between m i z))) z)
      go (Ok x) = refl
      go (Err e) = refl

  finish_kind : (n : ℕ) (i k : Input) (t : Option (Text P)) → finish i t ((inl <&> definition_kind m n) k) ≡ kind_from m (begin_of i.ahead) t n k
  finish_kind n i k t = go (definition_kind m n k)
    where
      go : (w : Outcome (KindTree P)) → finish i t (and_then w (λ x z. done (inl x) z)) ≡ and_then w (λ x z. done (type_system_of (put (t, inl x) (place_between m i z))) z)
      go (Ok x) = refl
      go (Err e) = refl

  finish_either : (n : ℕ) (i k : Input) (t : Option (Text P)) (b : Bool) → next_is is_directive (next k) ≡ b → finish i t (d.undescribed m n k) ≡ cond b (directive_from m (begin_of i.ahead) t n k) (kind_from m (begin_of i.ahead) t n k)
  finish_either n i k t true h = ap (λ (w : Outcome Undescribed). finish i t w) (undescribed_directive m n k h) ∙ finish_directive n i k t
  finish_either n i k t false h = ap (λ (w : Outcome Undescribed). finish i t w) (undescribed_kind m n k h) ∙ finish_kind n i k t

  pub definition_is : (n : ℕ) (i : Input) → d.type_system_definition m n i ≡ described_from n i (try is_string (y.description m) i)
  unfolding d.type_system_definition
  definition_is n i = go (try is_string (y.description m) i)
    where
      go : (w : Outcome (Option (Text P))) → and_then (and_then (and_then w (λ t k. and_then (d.undescribed m n k) (λ x z. done (t, x) z))) (λ x z. done (put x (place_between m i z)) z)) (λ x z. done (type_system_of x) z) ≡ described_from n i w
      go (Err e) = refl
      go (Ok x) = finish_either n i x.1 x.0 (next_is is_directive (next x.1)) refl
