use Rattle.std.proofs.Common.{◌≡◌, ◌+◌, ◌-◌, length, rules, count_by, take, drop, ap, sym, ◌∙◌, arith, Some, None}
use Rattle.std.proofs.lemmas.Str.{chars_from_encodes}
use Rattle.std.proofs.lemmas.Str.Pattern.{rfind_char}
use Rattle.std.specs.List.{after_last}
use Rattle.std.specs.Str.{chars}
use Rattle.cedar_policy_formatter.specs.Places.{is_line_feed, text_before}
use Rattle.cedar_policy_formatter.proofs.PlaceLaws.{take-floor, drop-last_feed}
use Rattle.cedar_policy_formatter.proofs.lookup.place.Goals as goal
use Rattle.cedar_policy_formatter.proofs.lookup.place.Goals.{in-Some, in-None}
use Rattle.cedar_tokens.specs.Bytes.{line_feed}

-- `before` is the text before the byte, in whole characters
before_is : (c : goal.After-count-2)
    → c.range-before.result.now ≡ text_before c.args.text.now c.args.at
before_is c =
    let kept = c.floor_char_boundary.ensures in
    let cut = take-floor c.args.text.now c.args.at c.floor_char_boundary.result
    (record { bound = kept.bound; boundary = kept.boundary; nearest = kept.nearest }) in
    let range : c.range-before.result.now ≡ take c.floor_char_boundary.result c.args.text.now =
    grind (arith, c.range-before.ensures.value) in
    range ∙ sym cut

-- the text from `line_start` on is the last line
last_line_is : (c : goal.After-count-2) → drop c.match-rfind.line_start c.range-before.result.now
    ≡ after_last is_line_feed c.range-before.result.now
last_line_is c = elim c.match-rfind.branch [
  | in-Some w ↦
      let found = rfind_char line_feed c.range-before.result.now
      (Some w.in-Some.feed) w.in-Some.ensures.cases (omega arith) in
      let at_feed : c.match-rfind.line_start - 1 ≡ w.in-Some.feed = omega arith in
      drop-last_feed c.range-before.result.now c.match-rfind.line_start (omega arith)
      (λ k following within. found.2 k (omega arith) within) (λ _. rw at_feed found.1)
  | in-None w ↦
      let found =
      rfind_char line_feed c.range-before.result.now None w.in-None.ensures.cases (omega arith) in
      drop-last_feed c.range-before.result.now c.match-rfind.line_start (omega arith)
      (λ k _ within. found k within) (λ some. absurd (omega arith))
]

pub returns-clause-line : goal.returns-clause-line
returns-clause-line c =
    let counted : c.count.result ≡ count_by is_line_feed c.range-before.result.now = search rules in
    ap (λ n. 1 + n) (counted ∙ ap (count_by is_line_feed) (before_is c))

pub returns-clause-column : goal.returns-clause-column
returns-clause-column c =
    let counted : c.count-2.result ≡ length (chars c.range_from.result.now) =
    search (rules, chars_from_encodes) in
    let line =
    c.range_from.ensures.value ∙ (last_line_is c ∙ ap (after_last is_line_feed) (before_is c)) in
    ap (λ n. 1 + n) (counted ∙ ap (λ s. length (chars s)) line)
