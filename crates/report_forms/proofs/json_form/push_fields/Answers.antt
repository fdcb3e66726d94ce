use Rattle.std.proofs.Common.{◌≡◌, ◌++◌, codes, string_bytes, rules}
use Rattle.std.specs.List.{join_by}
use Rattle.report_forms.specs.Objects.{field_member, fields_member}
use Rattle.report_forms.proofs.Texts.{between, pushed_as}
use Rattle.report_forms.proofs.json_form.push_fields.Goals as goal

pub returns : goal.returns
returns c =
    let old = string_bytes c.args.out.now in
    let begun = string_bytes c.push_str.new.self in
    let listed = string_bytes c.push_members.new.out in
    let all = join_by field_member (codes ",") c.args.fields.now in
    let first : begun ≡ old ++ codes ",\"fields\":{" = c.in_ok-push_str.ensures.bytes in
    let second : listed ≡ begun ++ all = search rules in
    pushed_as c.push_str-2.result listed (codes "}}") (string_bytes c.push_str-2.new.self) (old ++ fields_member c.args.fields.now) c.push_str-2.ensures.bytes
    (between old (codes ",\"fields\":{") all (codes "}}") begun listed first second)
