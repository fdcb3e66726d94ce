-- What is lent, or else an error, as an answer.
use Rattle.std.proofs.Common.{◌≡◌, Option, None, Some, Bor, refl, ap, ◌∙◌}
use Rattle.std.specs.Prelude.{ok_or}
use Rattle.std.specs.Option.{option_map}
use Rattle.std.specs.Option.{option_copied}
use Rattle.graphql_coords.specs.LookUpView.{fault_of, answer}
use Rattle.graphql_coords.specs.declared.lookup_answers.SchemaLookupError.{SchemaLookupError}

module _ {X A : Type 0} (f : X → A) (e : SchemaLookupError) where
  same : (r : Option X) → answer f (ok_or r e) ≡ ok_or (option_map f r) (fault_of e)
  same None = refl
  same (Some x) = refl

  -- `ok_or`
  pub answer_ok_or : (r : Option X) (o : Option A) → option_map f r ≡ o → answer f (ok_or r e) ≡ ok_or o (fault_of e)
  answer_ok_or r o h = same r ∙ ap (λ p. ok_or p (fault_of e)) h

-- what is lent, copied
pub lent : {X A : Type 0} (f : X → A) (r : Option (Bor X)) → option_map (λ x. f x.now) r ≡ option_map f (option_copied r)
lent f None = refl
lent f (Some x) = refl
