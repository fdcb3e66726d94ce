-- What is printed of a description is read as it was.
use Rattle.std.proofs.Common.{◌≡◌, ℕ, Bool, true, false, cond, ◌&&◌, List, ◌++◌, Some, None, refl, inl, inr}
use Rattle.std.proofs.lemmas.Bool.{and_parts}
use Rattle.tree_literals.specs.Joined.{joined}
use Rattle.tree_literals.specs.LineLayout.{Prefix, break_text}
use Rattle.tree_literals.specs.StringLayout.{has_byte, can_be_block_string, quoted_text, block_text, description_string}
use Rattle.round_trip.specs.Readings.{IsReadAs, MayFollow, IsWhitePrefix}
use Rattle.round_trip.proofs.Quoted.{quoted_is_token, quoted_value}
use Rattle.round_trip.proofs.BlockStrings.{block_is_token, block_value_is}

quoted_is_read : (text following : List ℕ) → MayFollow text following → IsReadAs (quoted_text text) text following
quoted_is_read text following h = inl (quoted_is_token text following h, quoted_value text)

-- What is printed of a description is one string token of either kind, and stands for the text.
pub description_is_read : (prefix : Prefix) (level : ℕ) (text following : List ℕ) → IsWhitePrefix prefix → MayFollow text following → IsReadAs (description_string prefix level text) text following
description_is_read None level text following white h = quoted_is_read text following h
description_is_read (Some prefix) level text following white h = go (has_byte 10 text && can_be_block_string text) refl
  where
    go : (t : Bool) → (has_byte 10 text && can_be_block_string text) ≡ t → IsReadAs (cond t (block_text prefix level text) (quoted_text text)) text following
    go true e = inr (block_is_token prefix level text following white, block_value_is prefix level text white (and_parts (has_byte 10 text) (can_be_block_string text) e).1)
    go false e = quoted_is_read text following h

break_follows : (prefix : Prefix) (level : ℕ) (text following : List ℕ) → MayFollow text (break_text prefix level ++ following)
unfolding joined
break_follows None level text following = λ e. refl
break_follows (Some prefix) level text following = λ e. refl

-- The same, followed by the end of its line, which begins with no quotation mark.
pub description_in_place : (prefix : Prefix) (level : ℕ) (text following : List ℕ) → IsWhitePrefix prefix → IsReadAs (description_string prefix level text) text (break_text prefix level ++ following)
description_in_place prefix level text following white = description_is_read prefix level text (break_text prefix level ++ following) white (break_follows prefix level text following)
