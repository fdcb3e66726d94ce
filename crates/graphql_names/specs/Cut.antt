-- What contracts see of a `Cut`.
use Rattle.std.specs.Prelude.{ℕ, ◌≡◌, ◌+◌, ◌-◌, ◌^◌, ◌==◌, if◌then◌else◌, Ok, IsErrAnd}
use Rattle.std.specs.declared.result.Result.{Result}
use Rattle.std.specs.declared.io.Error.{Error}
use Rattle.std.specs.IoError.{error_kind}
use Rattle.std.specs.declared.io.ErrorKind.{ErrorKind}
use Rattle.std.specs.declared.io.ErrorKind.TheVariants.{Other}
use Rattle.graphql_names.specs.declared.cut.Cut.{Cut}
use Rattle.graphql_names.specs.declared.cut.Ending.{Ending}
use Rattle.graphql_names.specs.declared.cut.Ending.TheVariants.{Fails, FailsOnce, TakesNothing}

module _ {D : Type 0} where
  -- the reader or writer inside
  abbrev pub cut_inner : Cut D → D
  cut_inner c = c.inner

  -- the most bytes that one call passes on
  abbrev pub cut_most : Cut D → ℕ
  cut_most c = c.most

  -- how many bytes it still passes on
  abbrev pub cut_left : Cut D → ℕ
  cut_left c = c.left

  -- what it does when no bytes are left
  abbrev pub cut_ending : Cut D → Ending
  cut_ending c = c.ending

  -- how many calls of `read` and `write` it has counted
  abbrev pub cut_calls : Cut D → ℕ
  cut_calls c = c.calls

-- the kind of the errors that an ending makes
abbrev pub ending_kind : Ending → ErrorKind
ending_kind (Fails kind) = kind
ending_kind (FailsOnce kind) = kind
ending_kind TakesNothing = Other

-- how many bytes are left after a failure: as many as before it, but `2 ^ 64 - 1` if none were left and the
-- ending fails once
abbrev pub left_after : Ending → ℕ → ℕ
left_after (Fails kind) left = left
left_after (FailsOnce kind) left = if left == 0 then 2 ^ 64 - 1 else left
left_after TakesNothing left = left

-- the count of calls after one more call; it stops at `2 ^ 64 - 1`
abbrev pub count_after : ℕ → ℕ
count_after calls = if calls == 2 ^ 64 - 1 then calls else calls + 1

-- the most bytes that one call passes on, and the ending, are unchanged
pub record KeepsCut {D : Type 0} (old new : Cut D) : Type 0 where
  pub most : cut_most new ≡ cut_most old
  pub ending : cut_ending new ≡ cut_ending old

-- what a write answers when no bytes are left: an error of the ending's kind, or `Ok(0)`
abbrev pub EndsWrite : Ending → Result ℕ Error → Type 0
EndsWrite (Fails kind) answer = IsErrAnd answer (λ e. error_kind e ≡ kind)
EndsWrite (FailsOnce kind) answer = IsErrAnd answer (λ e. error_kind e ≡ kind)
EndsWrite TakesNothing answer = answer ≡ Ok 0
