use Rattle.std.proofs.Common.{sym, ◌∙◌, arith}
use Rattle.std.specs.String.{string_bytes}
use Rattle.read_tokens.specs.Strings.{part_at}
use Rattle.read_tokens.proofs.Values.{part_keeps, part_ends}
use Rattle.read_tokens.proofs.Pieces.{Begins, plain_utf8, plain_begins, plain_within, plain_so_far, piece_utf8, piece_shorter, piece_so_far, begins_now, so_far_end}
use Rattle.read_tokens.proofs.value.push_parts.Goals as goal

pub parts-init : goal.parts-init
parts-init c = record {
  text = plain_utf8 c.args.text.now c.in_ok-rest.rest.now c.in_ok-rest.ensures.rest c.utf8.text;
  so_far = plain_so_far part_at part_keeps (string_bytes c.args.out.now) (string_bytes c.push_plain.new.out) c.args.text.now c.in_ok-rest.rest.now c.in_ok-rest.ensures.pushed c.in_ok-rest.ensures.rest;
  begins = plain_begins c.args.text.now c.in_ok-rest.rest.now c.in_ok-rest.ensures.rest;
}

pub parts-smaller : goal.parts-smaller
parts-smaller c =
    let begins : Begins c.parts.rest.now = begins_now c.parts.rest.now c.parts.invariant.begins (sym c.is_empty.ensures ∙ c.parts-test.true) in
    let less = piece_shorter part_at part_ends c.parts.rest.now c.in_ok-following.following.now begins c.in_ok-following.ensures.rest in
    let within = plain_within c.in_ok-following.following.now c.in_ok-next.next.now c.in_ok-next.ensures.rest in
    omega arith

pub parts-preserved : goal.parts-preserved
parts-preserved c =
    let begins : Begins c.parts.rest.now = begins_now c.parts.rest.now c.parts.invariant.begins (sym c.is_empty.ensures ∙ c.parts-test.true) in
    let utf8 = piece_utf8 part_at part_ends c.parts.rest.now c.in_ok-following.following.now begins c.in_ok-following.ensures.rest c.parts.invariant.text in
    let one = piece_so_far part_at part_ends (string_bytes c.parts.out) (string_bytes c.push_part.new.out) c.parts.rest.now c.in_ok-following.following.now begins c.in_ok-following.ensures.pushed c.in_ok-following.ensures.rest in
    let two = plain_so_far part_at part_keeps (string_bytes c.push_part.new.out) (string_bytes c.push_plain-in-parts.new.out) c.in_ok-following.following.now c.in_ok-next.next.now c.in_ok-next.ensures.pushed c.in_ok-next.ensures.rest in
    record {
      text = plain_utf8 c.in_ok-following.following.now c.in_ok-next.next.now c.in_ok-next.ensures.rest utf8;
      so_far = two ∙ one ∙ c.parts.invariant.so_far;
      begins = plain_begins c.in_ok-following.following.now c.in_ok-next.next.now c.in_ok-next.ensures.rest;
    }

pub returns : goal.returns
returns c = so_far_end part_at (string_bytes c.parts.out) _ c.parts.rest.now (sym c.is_empty.ensures ∙ c.parts-test.false) c.parts.invariant.so_far
