-- Numbers for a `Float`, by cases.
use Rattle.std.proofs.Common.{◌≡◌, ℕ, Bool, true, false, not, ◌&&◌, List, bytes_eq, codes, Option, refl, sym, ap, ◌∙◌, true≢false}
use Rattle.std.specs.Option.{option_map_or}
use Rattle.tree_literals.specs.ValueTree.{ValueTree}
use Rattle.rule_definitions.specs.Names.{named_in}
use Rattle.strict_documents.specs.ValueLetter.{is_finite_number, number_text, is_past_64_bits}
use Rattle.strict_documents.specs.Locations.{Location}

pub not_true : (b : Bool) → not b ≡ true → b ≡ false
not_true true e = absurd (true≢false (sym e))
not_true false e = refl

pub not_false : (b : Bool) → not b ≡ false → b ≡ true
not_false true e = refl
not_false false e = absurd (true≢false e)

module _ {P : Type 0} (l : Location) (v : ValueTree P) (n : List ℕ) (named : named_in l.ty ≡ n) where
  abbrev past : Option (List ℕ) → Bool
  past o = option_map_or (λ digits. not (is_finite_number digits)) o false

  is_float : bytes_eq (named_in l.ty) (codes "Float") ≡ bytes_eq n (codes "Float")
  is_float = ap (λ m. bytes_eq m (codes "Float")) named

  pub for_another : bytes_eq n (codes "Float") ≡ false → false ≡ is_past_64_bits l v
  for_another other = sym (ap (λ b. b && past (number_text v)) (is_float ∙ other))

  pub for_float : (o : Option (List ℕ)) → bytes_eq n (codes "Float") ≡ true → number_text v ≡ o → past o ≡ is_past_64_bits l v
  for_float o float is = sym (ap (λ b. b && past (number_text v)) (is_float ∙ float) ∙ ap past is)
