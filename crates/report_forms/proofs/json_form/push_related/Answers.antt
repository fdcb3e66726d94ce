use Rattle.std.proofs.Common.{◌≡◌, ◌++◌, codes, string_bytes, rules}
use Rattle.std.specs.List.{join_by}
use Rattle.report_forms.specs.Objects.{related_object, related_member}
use Rattle.report_forms.proofs.Texts.{between, pushed_as}
use Rattle.report_forms.proofs.json_form.push_related.Goals as goal

pub returns : goal.returns
returns c =
    let old = string_bytes c.args.out.now in
    let begun = string_bytes c.push_str.new.self in
    let listed = string_bytes c.push_others.new.out in
    let all = join_by related_object (codes ",") c.args.related.now in
    let first : begun ≡ old ++ codes ",\"related\":[" = c.in_ok-push_str.ensures.bytes in
    let second : listed ≡ begun ++ all = search rules in
    pushed_as c.push_str-2.result listed (codes "]") (string_bytes c.push_str-2.new.self) (old ++ related_member c.args.related.now) c.push_str-2.ensures.bytes
    (between old (codes ",\"related\":[") all (codes "]") begun listed first second)
