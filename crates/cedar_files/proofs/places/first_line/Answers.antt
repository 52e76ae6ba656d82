use Rattle.std.proofs.Common.{◌≡◌, Some, None, arith, take, length, ap, sym, ◌∙◌}
use Rattle.std.proofs.lemmas.Bool.{eq-eqb, ne_eqb}
use Rattle.std.proofs.lemmas.List.{take_all}
use Rattle.std.proofs.lemmas.List.Sums.{position_or_len_is}
use Rattle.std.proofs.lemmas.Str.Pattern.{find_char}
use Rattle.cedar_policy_formatter.specs.Places.{is_line_feed}
use Rattle.cedar_files.proofs.places.first_line.Goals as goal

pub returns-in-Some : goal.returns-in-Some
returns-in-Some c =
    let text = c.args.text.now in
    let feed = c.in-Some.feed in
    let found = find_char 10 text (Some feed) c.in-Some.ensures.cases (omega arith) in
    let place = position_or_len_is is_line_feed text feed 0 (omega (arith, found.0))
    (λ k before. ne_eqb _ 10 (found.2 k before)) (λ within. eq-eqb _ 10 found.1) in
    let cut : c.range.result.now ≡ take feed text = grind (arith, c.range.ensures.value) in
    cut ∙ sym (ap (λ n. take n text) place)

pub returns-in-None : goal.returns-in-None
returns-in-None c =
    let text = c.args.text.now in
    let none = find_char 10 text None c.in-None.ensures.cases (omega arith) in
    let place = position_or_len_is is_line_feed text (length text) 0 (omega arith)
    (λ k before. ne_eqb _ 10 (none k before)) (λ within. absurd (omega (arith, within))) in
    sym (ap (λ n. take n text) place ∙ take_all (length text) text (omega arith))
