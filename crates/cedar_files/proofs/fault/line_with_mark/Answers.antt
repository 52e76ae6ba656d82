use Rattle.std.proofs.Common.{◌≡◌, ◌∙◌, ◌∷◌, ◌++◌, ap, codes, false, string_bytes, subst}
use Rattle.std.specs.Prelude.{IfOk, chars}
use Rattle.std.specs.List.{repeat}
use Rattle.unicode_width.specs.Width.{str_width}
use Rattle.cedar_files.specs.Faults.{columns, end_shown, marked}
use Rattle.cedar_files.proofs.fault.line_with_mark.Goals as goal

pub returns : goal.returns
returns c =
    let left = string_bytes c.in_ok-left.left in
    let right = string_bytes c.in_ok-right.right in
    let blanks = string_bytes c.in_ok-blanks.blanks in
    let width : c.width.result ≡ columns (end_shown c.args.left.now) =
    c.width.ensures.value
    ∙ ap (λ text. str_width false (chars text)) (c.as_str.ensures.value ∙ c.in_ok-left.ensures) in
    let spaces : blanks ≡ repeat (columns (end_shown c.args.left.now)) (codes " ") =
    c.in_ok-blanks.ensures.bytes ∙ ap (λ n. repeat n (codes " ")) width in
    let all : left ++ (right ++ (10 ∷ (blanks ++ codes "^")))
    ≡ marked c.args.left.now c.args.right.now =
    cc (spaces, c.in_ok-left.ensures, c.in_ok-right.ensures) in
    subst (λ text. IfOk c.format.result (λ s. string_bytes s ≡ text)) all c.format.ensures.ok
