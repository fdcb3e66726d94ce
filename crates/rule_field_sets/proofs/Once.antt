-- In right tables equal contents have one number, and each number one content.
use Rattle.std.proofs.Common.{◌≡◌, ◌∙◌, ℕ, List, [], ◌∷◌, slice_get, Option, Some, None, refl, sym, ap, subst}
use Rattle.std.specs.Option.{option_map}
use Rattle.std.specs.List.{AllZip}
use Rattle.rule_definitions.proofs.Lists.{slice_get-map}
use Rattle.rule_document_definitions.specs.ReadFields.{ReadField, read_field, ReadSet, nothing_read, read_set, ReadFields, no_reads, read_then, listed}
use Rattle.rule_field_sets.specs.declared.numbers.FieldKey.{FieldKey}
use Rattle.rule_field_sets.specs.Tables.{Tables, SetParts, MeansField, MeansSet, IsSetNumber, AreRight, keys_in}

-- the key at a place
pub key_at : {K V : Type 0} (es : List (K × V)) (n : ℕ) (k : K) (v : V) → slice_get es n ≡ Some (k, v) → slice_get (keys_in es) n ≡ Some k
key_at {K} {V} es n k v h = slice_get-map (λ (e : K × V). e.0) es n ∙ ap (option_map (λ (e : K × V). e.0)) h

pub inside : {A : Type 0} (x y : A) → Some x ≡ Some y → x ≡ y
inside x y e = cc

-- each number means one content
pub one_content : (t : Tables) (n : ℕ) (c d : ReadField) → MeansField t n c → MeansField t n d → c ≡ d
one_content t n c d (k, a) (j, b) = ap (λ (p : FieldKey × ReadField). p.1) (inside (k, c) (j, d) (sym a ∙ b))

pub one_set_content : (t : Tables) (n : ℕ) (c d : ReadSet) → MeansSet t n c → MeansSet t n d → c ≡ d
one_set_content t n c d (k, a) (j, b) = ap (λ (p : SetParts × ReadSet). p.1) (inside (k, c) (j, d) (sym a ∙ b))

same_key : (a b : FieldKey) → a.key ≡ b.key → a.parent ≡ b.parent → a.call ≡ b.call → a.ty ≡ b.ty → a.set ≡ b.set → a ≡ b
same_key a b key parent call ty set = λ i. record { key = key i; parent = parent i; call = call i; ty = ty i; set = set i }

pub fields_same : (fs gs : ReadFields) (ns ms : List (List ℕ)) → read_set fs ns ≡ read_set gs ms → fs ≡ gs
fields_same fs gs ns ms e = cc

names_same : (fs gs : ReadFields) (ns ms : List (List ℕ)) → read_set fs ns ≡ read_set gs ms → ns ≡ ms
names_same fs gs ns ms e = cc

differ : (fs : ReadFields) (ns : List (List ℕ)) → nothing_read ≡ read_set fs ns → ⊥
differ fs ns e = cc

module _ (t : Tables) (right : AreRight t) where
  no_number : {R : Type 0} (n : ℕ) → MeansSet t n nothing_read → R
  no_number n (k, a) = let p = right.sets n k nothing_read a in absurd (differ p.0 k.1 p.1.0)

  mutual
    field_once : (c : ReadField) (n m : ℕ) → MeansField t n c → MeansField t m c → n ≡ m
    field_once (read_field h s) n m (k, a) (j, b) =
        let p = right.fields n k (read_field h s) a in
        let q = right.fields m j (read_field h s) b in
        let key : k.key ≡ j.key = right.parts.keys k.key j.key h.key p.key q.key in
        let parent : k.parent ≡ j.parent = right.parts.parents k.parent j.parent h.parent
        (key_at t.parts.parents k.parent h.parent p.parent.0 p.parent.1) (key_at t.parts.parents j.parent h.parent q.parent.0 q.parent.1) in
        let call : k.call ≡ j.call = right.parts.calls k.call j.call (h.name, h.arguments) p.call q.call in
        let ty : k.ty ≡ j.ty = right.parts.types k.ty j.ty h.ty p.ty q.ty in
        let set : k.set ≡ j.set = set_once s k.set j.set p.set q.set in
        right.fields_apart n m k (key_at t.fields n k (read_field h s) a)
        (subst (λ i. slice_get (keys_in t.fields) m ≡ Some i) (sym (same_key k j key parent call ty set)) (key_at t.fields m j (read_field h s) b))

    set_once : (s : ReadSet) (n m : Option ℕ) → IsSetNumber t n s → IsSetNumber t m s → n ≡ m
    set_once nothing_read None None a b = refl
    set_once nothing_read None (Some m) a b = no_number m b
    set_once nothing_read (Some n) m a b = no_number n a
    set_once (read_set fs ns) None m a b = cc
    set_once (read_set fs ns) (Some n) None a b = cc
    set_once (read_set fs ns) (Some n) (Some m) (k, a) (j, b) =
        let p = right.sets n k (read_set fs ns) a in
        let q = right.sets m j (read_set fs ns) b in
        let gs : fs ≡ p.0 = fields_same fs p.0 ns k.1 p.1.0 in
        let hs : fs ≡ q.0 = fields_same fs q.0 ns j.1 q.1.0 in
        let numbers : k.0 ≡ j.0 = list_once fs k.0 j.0 (subst (λ l. AllZip (MeansField t) k.0 (listed l)) (sym gs) p.1.1) (subst (λ l. AllZip (MeansField t) j.0 (listed l)) (sym hs) q.1.1) in
        let names : k.1 ≡ j.1 = sym (names_same fs p.0 ns k.1 p.1.0) ∙ names_same fs q.0 ns j.1 q.1.0 in
        let same : k ≡ j = λ i. (numbers i, names i) in
        ap Some (right.sets_apart n m k (key_at t.sets n k (read_set fs ns) a) (subst (λ i. slice_get (keys_in t.sets) m ≡ Some i) (sym same) (key_at t.sets m j (read_set fs ns) b)))

    list_once : (fs : ReadFields) (ns ms : List ℕ) → AllZip (MeansField t) ns (listed fs) → AllZip (MeansField t) ms (listed fs) → ns ≡ ms
    list_once no_reads [] [] a b = refl
    list_once no_reads [] (m ∷ ms) a b = absurd b
    list_once no_reads (n ∷ ns) ms a b = absurd a
    list_once (read_then f fs) [] ms a b = absurd a
    list_once (read_then f fs) (n ∷ ns) [] a b = absurd b
    list_once (read_then f fs) (n ∷ ns) (m ∷ ms) a b = λ i. field_once f n m a.0 b.0 i ∷ list_once fs ns ms a.1 b.1 i

  -- equal contents have one number
  pub one_number : (c : ReadField) (n m : ℕ) → MeansField t n c → MeansField t m c → n ≡ m
  one_number = field_once

  pub one_set_number : (c : ReadSet) (n m : ℕ) → MeansSet t n c → MeansSet t m c → n ≡ m
  one_set_number c n m a b = let same : Some n ≡ Some m = set_once c (Some n) (Some m) a b in cc
