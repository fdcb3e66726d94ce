use Rattle.std.proofs.Common.{List, ℕ, sym, ap, ◌∙◌, subst, IsCharBoundary}
use Rattle.read_tokens.specs.Blocks.{block_character_at}
use Rattle.read_tokens.proofs.Values.{character_boundary}
use Rattle.read_tokens.proofs.raw.push_character.Goals as goal

pub split_at-requires : goal.split_at-requires
split_at-requires c =
    subst (λ (n : ℕ). IsCharBoundary c.args.text.now n) (sym (c.block_character_at-length.ensures.length ∙ ap (λ (bytes : List ℕ). (block_character_at bytes).1) c.as_bytes.ensures.value))
    (character_boundary c.args.text.now c.requires c.utf8.text)
