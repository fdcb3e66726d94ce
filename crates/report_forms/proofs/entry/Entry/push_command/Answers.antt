use Rattle.std.proofs.Common.{◌≡◌, ◌++◌, List, ℕ, [], true, false, codes, string_bytes, sym, ap, ◌∙◌, rules, append-nil}
use Rattle.std.specs.List.{flat_map}
use Rattle.std.specs.Option.{option_map}
use Rattle.std.proofs.lemmas.List.{append_assoc}
use Rattle.report_forms.specs.Escapes.{escaped_text}
use Rattle.report_forms.specs.Forms.{command_head, properties, related_line, hint_line}
use Rattle.report_forms.proofs.Texts.{seven_after, left_as}
use Rattle.report_forms.proofs.entry.Entry.push_command.Goals as goal

-- the parts up to the related places, and what comes after them
joined : (old head path place rule message related more hint a b c d out : List ℕ) → a ≡ old ++ head ++ path → b ≡ a ++ place → c ≡ b ++ codes ",title=" ++ rule
    → d ≡ c ++ codes "::" ++ message → out ≡ d ++ related → more ≡ hint
    → out ++ more ≡ old ++ (head ++ path ++ place ++ codes ",title=" ++ rule ++ codes "::" ++ message ++ related ++ hint)
joined old head path place rule message related more hint a b c d out p q r s t u =
    let front = head ++ path ++ place ++ codes ",title=" ++ rule ++ codes "::" ++ message in
    let told : d ≡ old ++ front =
    s ∙ ap (λ l. l ++ codes "::" ++ message) (r ∙ ap (λ l. l ++ codes ",title=" ++ rule) (q ∙ ap (λ l. l ++ place) p))
    ∙ seven_after old head path place (codes ",title=") rule (codes "::") message in
    ap (λ l. l ++ more) (t ∙ ap (λ l. l ++ related) told ∙ append_assoc old front related) ∙ append_assoc old (front ++ related) more ∙ ap (λ l. old ++ (front ++ related ++ l)) u

pub returns-in-None : goal.returns-in-None
returns-in-None c =
    let e = c.args.self.now in
    let path : c.deref.result.now ≡ string_bytes e.path = search rules in
    let message : c.deref-2.result.now ≡ string_bytes e.message = search rules in
    let related : c.deref-3.result.now ≡ e.related.items = search rules in
    let none : [] ≡ hint_line (option_map string_bytes e.hint) = ap (λ h. hint_line (option_map string_bytes h)) (sym c.in-None.is) in
    sym (append-nil (string_bytes c.push_related.new.out))
    ∙ joined (string_bytes c.args.out.now) (command_head e.severity) (escaped_text true (string_bytes e.path)) (properties e.place) (escaped_text true e.rule.now) (escaped_text false (string_bytes e.message))
    (flat_map related_line e.related.items) [] (hint_line (option_map string_bytes e.hint)) (string_bytes c.push_escaped.new.out) (string_bytes c.push_place.new.out)
    (string_bytes c.push_escaped-2.new.out) (string_bytes c.push_escaped-3.new.out) (string_bytes c.push_related.new.out)
    (c.in_ok-push_escaped.ensures ∙ ap (λ t. string_bytes c.args.out.now ++ c.command_head.result.now ++ escaped_text true t) path
    ∙ ap (λ h. string_bytes c.args.out.now ++ h ++ escaped_text true (string_bytes e.path)) c.command_head.ensures) c.in_ok-push_place.ensures c.in_ok-push_escaped-2.ensures
    (c.in_ok-push_escaped-3.ensures ∙ ap (λ t. string_bytes c.push_escaped-2.new.out ++ codes "::" ++ escaped_text false t) message)
    (c.in_ok-push_related.ensures ∙ ap (λ rs. string_bytes c.push_escaped-3.new.out ++ flat_map related_line rs) related) none

pub returns-in-Some : goal.returns-in-Some
returns-in-Some c =
    let e = c.args.self.now in
    let path : c.deref.result.now ≡ string_bytes e.path = search rules in
    let message : c.deref-2.result.now ≡ string_bytes e.message = search rules in
    let related : c.deref-3.result.now ≡ e.related.items = search rules in
    let text : c.deref-in-Some.result.now ≡ string_bytes c.in-Some.hint = search rules in
    let head = codes "%0A= help: " in
    let last = escaped_text false c.deref-in-Some.result.now in
    let hint : head ++ last ≡ hint_line (option_map string_bytes e.hint) =
    ap (λ t. head ++ escaped_text false t) text ∙ ap (λ h. hint_line (option_map string_bytes h)) (sym c.in-Some.is) in
    let before = string_bytes c.push_related.new.out in
    left_as c.push_escaped-in-Some.result (string_bytes c.push_escaped-in-Some.new.out) (before ++ head ++ last) _
    (append_assoc before head last
    ∙ joined (string_bytes c.args.out.now) (command_head e.severity) (escaped_text true (string_bytes e.path)) (properties e.place) (escaped_text true e.rule.now) (escaped_text false (string_bytes e.message))
    (flat_map related_line e.related.items) (head ++ last) (hint_line (option_map string_bytes e.hint)) (string_bytes c.push_escaped.new.out) (string_bytes c.push_place.new.out)
    (string_bytes c.push_escaped-2.new.out) (string_bytes c.push_escaped-3.new.out) before
    (c.in_ok-push_escaped.ensures ∙ ap (λ t. string_bytes c.args.out.now ++ c.command_head.result.now ++ escaped_text true t) path
    ∙ ap (λ h. string_bytes c.args.out.now ++ h ++ escaped_text true (string_bytes e.path)) c.command_head.ensures) c.in_ok-push_place.ensures c.in_ok-push_escaped-2.ensures
    (c.in_ok-push_escaped-3.ensures ∙ ap (λ t. string_bytes c.push_escaped-2.new.out ++ codes "::" ++ escaped_text false t) message)
    (c.in_ok-push_related.ensures ∙ ap (λ rs. string_bytes c.push_escaped-3.new.out ++ flat_map related_line rs) related) hint)
    c.push_escaped-in-Some.ensures
