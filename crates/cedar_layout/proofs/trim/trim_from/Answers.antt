use Rattle.std.proofs.Common.{◌≡◌, drop, take, string_bytes, ap, subst, ◌∙◌}
use Rattle.std.specs.Str.{trim_end, trim_start}
use Rattle.cedar_layout.proofs.Cleaning.{trimmed_from}
use Rattle.cedar_layout.proofs.trim.trim_from.Goals as goal

pub returns-clause-ok : goal.returns-clause-ok
returns-clause-ok c =
    let start = c.args.start in
    let old = string_bytes c.args.out.now in
    let mid = string_bytes c.replace_range.new.self in
    let all = c.range_from.ensures.value ∙ ap (drop start) c.as_str.ensures.value in
    let left = c.range_from-2.ensures.value ∙ ap (drop start) c.as_str-2.ensures.value in
    trimmed_from start c.blanks_before-blanks.result c.len_without_blanks-len.result old mid
    (string_bytes c.truncate.new.self) c.requires.0 c.in_ok-replace_range.ensures.bytes
    (subst (λ z. drop c.blanks_before-blanks.result z ≡ trim_start z) all
    c.blanks_before-blanks.ensures.rest)
    (subst (λ z. take c.len_without_blanks-len.result z ≡ trim_end z) left
    c.len_without_blanks-len.ensures.front)
    c.truncate.ensures.bytes
