use Rattle.std.proofs.Common.{◌≡◌, ◌≢◌, ℕ, ◌<◌, ◌≤◌, ◌-◌, List, Some, None, ap, arith, drop, get_or, length, not, ◌∙◌}
use Rattle.std.proofs.lemmas.Bool.{eq-eqb, ne_eqb}
use Rattle.std.proofs.lemmas.List.Sums.{suffix_len_is}
use Rattle.std.specs.List.{after_last, suffix_len}
use Rattle.std.proofs.lemmas.Str.Pattern.{rfind_char}
use Rattle.cedar_policy_formatter.specs.Places.{is_line_feed}
use Rattle.cedar_files.proofs.places.last_line.Goals as goal
use Rattle.cedar_files.proofs.places.last_line.Goals.{in-Some, in-None}

-- what follows the last line feed, given the place after it
drop-last_feed : (bs : List ℕ) (n : ℕ) → n ≤ length bs
    → ((k : ℕ) → n ≤ k → k < length bs → get_or bs k 0 ≢ 10) → (0 < n → get_or bs (n - 1) 0 ≡ 10)
    → drop n bs ≡ after_last is_line_feed bs
drop-last_feed bs n within none_after feed =
    let left : suffix_len (λ b. not (is_line_feed b)) bs ≡ length bs - n =
    suffix_len_is (λ b. not (is_line_feed b)) bs n 0 within
    (λ k from to. ap not (ne_eqb (get_or bs k 0) 10 (none_after k from to)))
    (λ some. ap not (eq-eqb (get_or bs (n - 1) 0) 10 (feed some))) in
    let same : n ≡ length bs - suffix_len (λ b. not (is_line_feed b)) bs = omega arith in
    ap (λ m. drop m bs) same

pub returns : goal.returns
returns c =
    let text = c.args.text.now in
    let start = c.match-rfind.start in
    let rest : drop start text ≡ after_last is_line_feed text = elim c.match-rfind.branch [
      | in-Some w ↦
          let found = rfind_char 10 text (Some w.in-Some.feed) w.in-Some.ensures.cases (omega arith) in
          let at_feed : start - 1 ≡ w.in-Some.feed = omega arith in
          drop-last_feed text start (omega arith)
          (λ k following within. found.2 k (omega arith) within) (λ some. rw at_feed found.1)
      | in-None w ↦
          let none = rfind_char 10 text None w.in-None.ensures.cases (omega arith) in
          drop-last_feed text start (omega arith) (λ k from within. none k within)
          (λ some. absurd (omega arith))
    ] in
    c.range_from.ensures.value ∙ rest
