-- Texts that are written one after another, where they are known.
use Rattle.std.proofs.Common.{◌≡◌, ℕ, List, [], ◌∷◌, ◌++◌, Option, None, Some, IfSome, Result, IsOk, refl, ap, append-nil, append_assoc, subst, sym, ◌∙◌}
use Rattle.std.specs.Fmt.{DisplaysOnOk, HasWritten, IsPlainFormatter, option_append}
use Rattle.std.specs.declared.fmt.Error.{Error}
use Rattle.std.specs.declared.fmt.Formatter.{Formatter}
use Rattle.std.proofs.Output.{has_written_append}
use Rattle.graphql_faults.specs.Words.{further_item, further_items}

append_nothing : (o : Option (List ℕ)) → option_append o (Some []) ≡ option_append (Some []) o
append_nothing None = refl
append_nothing (Some a) = ap (λ x. Some x) (append-nil a)

appends_group : (o p q : Option (List ℕ)) → option_append o (option_append p q) ≡ option_append (option_append o p) q
appends_group None p q = refl
appends_group (Some a) None q = refl
appends_group (Some a) (Some b) None = refl
appends_group (Some a) (Some b) (Some c) = ap (λ x. Some x) (sym (append_assoc a b c))

pub further_items-push : {A : Type 0} (text : A → Option (List ℕ)) (xs : List A) (x : A) → further_items text (xs ++ x ∷ []) ≡ option_append (further_items text xs) (further_item text x)
further_items-push text [] x = append_nothing (further_item text x)
further_items-push text (y ∷ xs) x =
    ap (λ o. option_append (further_item text y) o) (further_items-push text xs x)
    ∙ appends_group (further_item text y) (further_items text xs) (further_item text x)

-- what has been written, if the formatter was plain
abbrev pub HasShown : {W : Type 0} → (W → List ℕ → W → Type 0) → Formatter W → Option (List ℕ) → Formatter W → Type 0
HasShown took f o g = IfSome o (λ text. IsPlainFormatter f → HasWritten took f text g)

pub shown_both : {W : Type 0} (took : W → List ℕ → W → Type 0) (f g h : Formatter W) (o p : Option (List ℕ)) → HasShown took f o g → HasShown took g p h → HasShown took f (option_append o p) h
shown_both took f g h None p first second = tt
shown_both took f g h (Some a) None first second = tt
shown_both took f g h (Some a) (Some b) first second = λ plain.
    let begun = first plain in
    has_written_append took f a g b h begun (second begun.plain)

shown_ok : {W : Type 0} (took : W → List ℕ → W → Type 0) (g h : Formatter W) (r : Result (Unit {0}) Error) (o : Option (List ℕ)) → IsOk r → DisplaysOnOk took g r o h → HasShown took g o h
shown_ok took g h r None ok shown = tt
shown_ok took g h r (Some text) ok shown = λ plain. shown plain ok

-- one item more
pub shown_more : {A W : Type 0} (text : A → Option (List ℕ)) (took : W → List ℕ → W → Type 0) (f g h : Formatter W) (r : Result (Unit {0}) Error) (before after : List A) (x : A) → after ≡ before ++ x ∷ [] → IsOk r → HasShown took f (further_items text before) g → DisplaysOnOk took g r (further_item text x) h → HasShown took f (further_items text after) h
shown_more text took f g h r before after x more ok begun item =
    subst (λ xs. HasShown took f (further_items text xs) h) (sym more)
    (subst (λ o. HasShown took f o h) (sym (further_items-push text before x))
    (shown_both took f g h (further_items text before) (further_item text x) begun (shown_ok took g h r (further_item text x) ok item)))
