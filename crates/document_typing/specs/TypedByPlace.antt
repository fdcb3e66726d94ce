-- What is typed by its place: a field has the definition of its name on the type around it, and its set is on the inner type of that definition, empty if that is a leaf; an inline fragment's set is on the type of its condition, which exists, or else on the type around it; an operation's is on its root type, a fragment's on the type of its condition (GraphQL, October 2021, sections 3.3.1, 5.3.1, 5.3.3 and 5.5.1.2).
use Rattle.std.specs.Prelude.{◌≡◌, ℕ, true, false, List, None, Some, Contains}
use Rattle.tree_operations.specs.OperationLayout.{is_none}
use Rattle.document_typing.specs.MeantTree.{MeantSelection, MeantField, MeantSpread, MeantInline, MeantSet, meant_set, MeantSelections, no_meant, meant_then, MeantOperation, MeantFragment, MeantDocument}
use Rattle.document_typing.specs.Meanings.{Meanings, inner_type}
use Rattle.document_typing.specs.KeptSelections.{is_leaf}
use Rattle.document_typing.specs.KeptDocument.{text_or_empty}

abbrev mutual
  -- a selection in a set on the type t
  pub IsTyped : {P : Type 0} → Meanings → List ℕ → MeantSelection P → Type 0
  IsTyped m t (MeantField p d h s) = (m.field t h.name.it ≡ Some d) × (IsSetOn m (inner_type d) s × (is_leaf m (inner_type d) ≡ true → s ≡ meant_set (inner_type d) no_meant))
  IsTyped m t (MeantSpread p n ds) = Unit {0}
  IsTyped m t (MeantInline p None ds s) = IsSetOn m t s
  IsTyped m t (MeantInline p (Some c) ds s) = (m.has_type c.it ≡ true) × IsSetOn m c.it s

  -- a set on the type t
  pub IsSetOn : {P : Type 0} → Meanings → List ℕ → MeantSet P → Type 0
  IsSetOn m t (meant_set u ss) = (u ≡ t) × AreTyped m t ss

  pub AreTyped : {P : Type 0} → Meanings → List ℕ → MeantSelections P → Type 0
  AreTyped m t no_meant = Unit {0}
  AreTyped m t (meant_then s ss) = IsTyped m t s × AreTyped m t ss

module _ {P : Type 0} (m : Meanings) where
  -- an operation whose set is on its root type
  abbrev pub IsOnRoot : MeantOperation P → Type 0
  IsOnRoot o = (t : List ℕ) × ((m.root o.operation_type ≡ Some t) × IsSetOn m t o.set)

  -- a fragment whose set is on the type of its condition, which exists
  abbrev pub IsOnCondition : MeantFragment P → Type 0
  IsOnCondition f = (m.has_type f.type_condition.it ≡ true) × IsSetOn m f.type_condition.it f.set

  -- a document of such operations and fragments: the anonymous one has no name, each other one is under its own name
  pub record IsTypedDocument (d : MeantDocument P) : Type 0 where
    pub anonymous : (o : MeantOperation P) → d.anonymous ≡ Some o → (is_none o.name ≡ true) × IsOnRoot o
    pub named : (e : List ℕ × MeantOperation P) → Contains d.named e → (is_none e.1.name ≡ false) × ((e.0 ≡ text_or_empty e.1.name) × IsOnRoot e.1)
    pub fragments : (e : List ℕ × MeantFragment P) → Contains d.fragments e → (e.0 ≡ e.1.name.it) × IsOnCondition e.1
