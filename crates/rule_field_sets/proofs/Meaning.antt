-- What numbers and nodes are read as: a number of a member, and that of a node, what stays of it when nodes are added, and that numbers
-- differ in what they are read as.
use Rattle.std.proofs.Common.{◌≡◌, ◌∙◌, ℕ, ◌<◌, List, [], ◌∷◌, length, slice_get, Option, None, Some, refl, sym, ap, subst, true≢false}
use Rattle.std.specs.Option.{option_map, option_map_or, unwrap_or}
use Rattle.std.specs.List.{AllZip}
use Rattle.std.proofs.lemmas.Option.{slice_get_within}
use Rattle.graphql_names.specs.NameSyntax.{IsName}
use Rattle.graphql_names.specs.NameValue.{NameValue}
use Rattle.graphql_names.specs.Placed.{name_tree}
use Rattle.graphql_names.specs.Node.{content}
use Rattle.spec_document.specs.MeantTree.{meant_of_set}
use Rattle.document_typed_selections.specs.declared.selection.Field.{Field}
use Rattle.rule_definitions.proofs.Lists.{mapped_some, slice_get-map}
use Rattle.rule_document_definitions.specs.ReadFields.{ReadField, ReadSet, read_set, ReadFields, no_reads, read_then, listed, head_of, list_read}
use Rattle.rule_reach.specs.declared.field_selection.FieldSelection.{FieldSelection}
use Rattle.rule_field_sets.specs.declared.member.Member.{Member}
use Rattle.rule_field_sets.specs.declared.member.SetNode.{SetNode}
use Rattle.rule_field_sets.specs.declared.numbers.FieldKey.{FieldKey}
use Rattle.rule_field_sets.specs.declared.numbers.KnownField.{KnownField}
use Rattle.rule_field_sets.specs.declared.field_sets.FieldSets.{FieldSets}
use Rattle.rule_field_sets.specs.Tables.{Tables, SetParts, MeansField, MeansSet}
use Rattle.rule_field_sets.specs.Numbered.{read_of, read_list, meant_of, tables_of}
use Rattle.rule_field_sets.specs.Nodes.{typed_at, AreSets, HasMember, SetsGrow, set_nodes}
use Rattle.rule_field_sets.specs.Read.{no_field, no_selections, content_at, set_content_at, set_at, node_read}
use Rattle.rule_field_sets.proofs.Growing.{same_there, stays}
use Rattle.rule_field_sets.proofs.Among.{is_member}
use Rattle.rule_field_sets.proofs.Once.{one_number, one_set_number, fields_same}

-- ---- a number that was not given

-- the set of such a field alone
abbrev no_set : ℕ → ReadSet
no_set n = read_set (read_then (no_field n) no_reads) []

one_default : (m n : ℕ) → no_field m ≡ no_field n → m ≡ n
one_default m n e = let same : m ∷ [] ≡ n ∷ [] = ap (λ c. (head_of c).parent) e in cc

one_default_set : (m n : ℕ) → no_set m ≡ no_set n → m ≡ n
one_default_set m n e =
    let same : read_then (no_field m) no_reads ≡ read_then (no_field n) no_reads = fields_same (read_then (no_field m) no_reads) (read_then (no_field n) no_reads) [] [] e in
    let first : no_field m ≡ no_field n = cc in
    one_default m n first

-- a name has a text, and so has the response key of a field
name_has_text : (n : NameValue) → n.text ≡ [] → ⊥
name_has_text n e = true≢false (sym (subst IsName e n.valid))

key_has_text : (x : FieldSelection) → (head_of (read_of x)).key ≡ [] → ⊥
key_has_text x = by (content x.field.now).alias (content x.field.now).name
  where
    by : (alias : Option NameValue) (name : NameValue) → (unwrap_or (option_map name_tree alias) (name_tree name)).it ≡ [] → ⊥
    by None name e = name_has_text name e
    by (Some alias) name e = name_has_text alias e

-- what is read of a field that has a number
abbrev known_read : FieldKey × KnownField → FieldKey × ReadField
known_read e = (e.0, read_of e.1.first)

first_of_zip : (t : Tables) (ns : List ℕ) (c : ReadField) → AllZip (MeansField t) ns (c ∷ []) → (n : ℕ) × MeansField t n c
first_of_zip t [] c h = absurd h
first_of_zip t (n ∷ ns) c h = (n, h.0)

module _ (w : FieldSets) where
  means_content : (n : ℕ) (c : ReadField) → MeansField (tables_of w.numbers) n c → content_at w n ≡ c
  means_content n c (k, at) = ap (λ o. option_map_or (λ (e : FieldKey × ReadField). e.1) o (no_field n)) at

  means_set_content : (n : ℕ) (c : ReadSet) → MeansSet (tables_of w.numbers) n c → set_content_at w n ≡ c
  means_set_content n c (k, at) = ap (λ o. option_map_or (λ (e : SetParts × ReadSet). e.1) o (no_set n)) at

  field_within : (n : ℕ) (c : ReadField) → MeansField (tables_of w.numbers) n c → n < length (tables_of w.numbers).fields
  field_within n c (k, at) = slice_get_within (tables_of w.numbers).fields n (k, c) at

  set_within : (n : ℕ) (c : ReadSet) → MeansSet (tables_of w.numbers) n c → n < length (tables_of w.numbers).sets
  set_within n c (k, at) = slice_get_within (tables_of w.numbers).sets n (k, c) at

  -- each number that was given is that of a field with a key
  no_default : (n m : ℕ) → MeansField (tables_of w.numbers) n (no_field m) → ⊥
  no_default n m (k, at) =
      let e = mapped_some known_read (slice_get w.numbers.fields.entries n) (k, no_field m) (sym (slice_get-map known_read w.numbers.fields.entries n) ∙ at) in
      key_has_text e.0.1.first (sym (ap (λ (p : FieldKey × ReadField). (head_of p.1).key) e.1.1))

  -- ---- a node that is there

  module _ (i : ℕ) (v : SetNode) (at : slice_get (set_nodes w) i ≡ Some v) where
    -- its set
    pub set_of_node : set_at w i ≡ meant_of v.set.now
    set_of_node = ap (λ o. option_map_or (λ (u : SetNode). meant_of_set (typed_at u)) o no_selections) at

    -- what is read of it
    pub read_of_node : node_read w i ≡ read_list v.set.now
    read_of_node = ap list_read set_of_node

    pub node_within : i < length (set_nodes w)
    node_within = slice_get_within (set_nodes w) i v at

  module _ (are : AreSets w) where
    -- ---- a member

    -- its number is read as its field is
    pub content_of_member : (m : Member) → HasMember w m → content_at w m.number ≡ read_of m.selection
    content_of_member m has = means_content m.number (read_of m.selection) (is_member w are m has).number

    pub member_number_within : (m : Member) → HasMember w m → m.number < length (tables_of w.numbers).fields
    member_number_within m has = field_within m.number (read_of m.selection) (is_member w are m has).number

    -- ---- the number of a node

    module _ (i : ℕ) (v : SetNode) (at : slice_get (set_nodes w) i ≡ Some v) where
      -- it is read as the node's set is
      pub content_of_node : set_content_at w v.number ≡ read_list v.set.now
      content_of_node = means_set_content v.number (read_list v.set.now) (are.nodes i v at).number

      pub content_is_read : set_content_at w v.number ≡ node_read w i
      content_is_read = content_of_node ∙ sym (read_of_node i v at)

      pub node_number_within : v.number < length (tables_of w.numbers).sets
      node_number_within = set_within v.number (read_list v.set.now) (are.nodes i v at).number

    -- ---- numbers differ in what is read

    no_default_set : (n m : ℕ) → MeansSet (tables_of w.numbers) n (no_set m) → ⊥
    no_default_set n m (k, at) =
        let t = tables_of w.numbers in
        let is = are.right.sets n k (no_set m) at in
        let fields : is.0 ≡ read_then (no_field m) no_reads = sym (fields_same (read_then (no_field m) no_reads) is.0 [] k.1 is.1.0) in
        let first = first_of_zip t k.0 (no_field m) (subst (λ (fs : ReadFields). AllZip (MeansField t) k.0 (listed fs)) fields is.1.1) in
        no_default first.0 m first.1

    pub content_injective : (m n : ℕ) → content_at w m ≡ content_at w n → m ≡ n
    content_injective m n = by (slice_get (tables_of w.numbers).fields m) (slice_get (tables_of w.numbers).fields n) refl refl
      where
        by : (o p : Option (FieldKey × ReadField)) → slice_get (tables_of w.numbers).fields m ≡ o → slice_get (tables_of w.numbers).fields n ≡ p
            → option_map_or (λ e. e.1) o (no_field m) ≡ option_map_or (λ e. e.1) p (no_field n) → m ≡ n
        by None None a b e = one_default m n e
        by None (Some q) a b e = absurd (no_default n m (q.0, subst (λ c. slice_get (tables_of w.numbers).fields n ≡ Some (q.0, c)) (sym e) b))
        by (Some p) None a b e = absurd (no_default m n (p.0, subst (λ c. slice_get (tables_of w.numbers).fields m ≡ Some (p.0, c)) e a))
        by (Some p) (Some q) a b e = one_number (tables_of w.numbers) are.right p.1 m n (p.0, a) (q.0, subst (λ c. slice_get (tables_of w.numbers).fields n ≡ Some (q.0, c)) (sym e) b)

    pub set_content_injective : (m n : ℕ) → set_content_at w m ≡ set_content_at w n → m ≡ n
    set_content_injective m n = by (slice_get (tables_of w.numbers).sets m) (slice_get (tables_of w.numbers).sets n) refl refl
      where
        by : (o p : Option (SetParts × ReadSet)) → slice_get (tables_of w.numbers).sets m ≡ o → slice_get (tables_of w.numbers).sets n ≡ p
            → option_map_or (λ e. e.1) o (no_set m) ≡ option_map_or (λ e. e.1) p (no_set n) → m ≡ n
        by None None a b e = one_default_set m n e
        by None (Some q) a b e = absurd (no_default_set n m (q.0, subst (λ c. slice_get (tables_of w.numbers).sets n ≡ Some (q.0, c)) (sym e) b))
        by (Some p) None a b e = absurd (no_default_set m n (p.0, subst (λ c. slice_get (tables_of w.numbers).sets m ≡ Some (p.0, c)) e a))
        by (Some p) (Some q) a b e = one_set_number (tables_of w.numbers) are.right p.1 m n (p.0, a) (q.0, subst (λ c. slice_get (tables_of w.numbers).sets n ≡ Some (q.0, c)) (sym e) b)

-- ---- more is added

module _ (old new : FieldSets) (grow : SetsGrow old new) where
  -- numbers that were given are read as they were
  pub content_stays : (n : ℕ) → n < length (tables_of old.numbers).fields → content_at new n ≡ content_at old n
  content_stays n within = ap (λ o. option_map_or (λ (e : FieldKey × ReadField). e.1) o (no_field n)) (same_there (tables_of old.numbers).fields (tables_of new.numbers).fields n grow.tables.fields within)

  pub set_content_stays : (n : ℕ) → n < length (tables_of old.numbers).sets → set_content_at new n ≡ set_content_at old n
  set_content_stays n within = ap (λ o. option_map_or (λ (e : SetParts × ReadSet). e.1) o (no_set n)) (same_there (tables_of old.numbers).sets (tables_of new.numbers).sets n grow.tables.sets within)

  -- nodes that were there have the sets that they had
  pub set_stays : (i : ℕ) → i < length (set_nodes old) → set_at new i ≡ set_at old i
  set_stays i within = ap (λ o. option_map_or (λ (u : SetNode). meant_of_set (typed_at u)) o no_selections) (same_there (set_nodes old) (set_nodes new) i grow.nodes within)

  pub node_read_stays : (i : ℕ) → i < length (set_nodes old) → node_read new i ≡ node_read old i
  node_read_stays i within = ap list_read (set_stays i within)

  -- a member of a node is one
  pub has_member_grows : (m : Member) → HasMember old m → HasMember new m
  has_member_grows m (i, (v, (at, c))) = (i, (v, (stays (set_nodes old) (set_nodes new) i v grow.nodes at, c)))
