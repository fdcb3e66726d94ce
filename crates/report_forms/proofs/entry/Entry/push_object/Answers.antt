use Rattle.std.proofs.Common.{◌≡◌, ◌++◌, List, ℕ, codes, string_bytes, ap, ◌∙◌, rules}
use Rattle.std.specs.Option.{option_map}
use Rattle.report_forms.specs.Forms.{severity_word}
use Rattle.report_forms.specs.Objects.{place_members, text_member, related_member, hint_member, fields_member, object}
use Rattle.report_forms.proofs.Texts.{eight_after, left_as}
use Rattle.report_forms.proofs.entry.Entry.push_object.Goals as goal

-- the members, one after another
joined : (old a b c d e f g h p q r s t u v : List ℕ) → p ≡ old ++ a → q ≡ p ++ b → r ≡ q ++ c → s ≡ r ++ d → t ≡ s ++ e → u ≡ t ++ f → v ≡ u ++ g
    → v ++ h ≡ old ++ (a ++ b ++ c ++ d ++ e ++ f ++ g ++ h)
joined old a b c d e f g h p q r s t u v i j k l m n o =
    ap (λ w. w ++ h) (o ∙ ap (λ w. w ++ g) (n ∙ ap (λ w. w ++ f) (m ∙ ap (λ w. w ++ e) (l ∙ ap (λ w. w ++ d) (k ∙ ap (λ w. w ++ c) (j ∙ ap (λ w. w ++ b) i)))))) ∙ eight_after old a b c d e f g h

pub returns : goal.returns
returns c =
    let e = c.args.self.now in
    let old = string_bytes c.args.out.now in
    let path : c.deref.result.now ≡ string_bytes e.path = search rules in
    let message : c.deref-2.result.now ≡ string_bytes e.message = search rules in
    let related : c.deref-3.result.now ≡ e.related.items = search rules in
    let fields : c.deref-4.result.now ≡ e.fields.items = search rules in
    let before = string_bytes c.push_hint.new.out in
    left_as c.push_fields.result (string_bytes c.push_fields.new.out) (before ++ fields_member c.deref-4.result.now) (old ++ object e)
    (ap (λ fs. before ++ fields_member fs) fields
    ∙ joined old (text_member (codes "{\"path\":") (string_bytes e.path)) (place_members e.place) (text_member (codes ",\"severity\":") (severity_word e.severity))
    (text_member (codes ",\"rule\":") e.rule.now) (text_member (codes ",\"message\":") (string_bytes e.message)) (related_member e.related.items)
    (hint_member (option_map string_bytes e.hint)) (fields_member e.fields.items) (string_bytes c.push_text.new.out) (string_bytes c.push_place.new.out)
    (string_bytes c.push_text-2.new.out) (string_bytes c.push_text-3.new.out) (string_bytes c.push_text-4.new.out) (string_bytes c.push_related.new.out) before
    (c.in_ok-push_text.ensures ∙ ap (λ t. old ++ text_member (codes "{\"path\":") t) path) c.in_ok-push_place.ensures
    (c.in_ok-push_text-2.ensures ∙ ap (λ t. string_bytes c.push_place.new.out ++ text_member (codes ",\"severity\":") t) c.word.ensures) c.in_ok-push_text-3.ensures
    (c.in_ok-push_text-4.ensures ∙ ap (λ t. string_bytes c.push_text-3.new.out ++ text_member (codes ",\"message\":") t) message)
    (c.in_ok-push_related.ensures ∙ ap (λ rs. string_bytes c.push_text-4.new.out ++ related_member rs) related) c.in_ok-push_hint.ensures)
    c.push_fields.ensures
