-- A gap, split at its first line feed.
use Rattle.std.specs.Prelude.{ℕ, List, ◌==◌}
use Rattle.std.specs.List.{before_first, after_first}
use Rattle.cedar_tokens.specs.Bytes.{line_feed}

-- what precedes the first `\n`, or everything; and what follows it, or nothing
abbrev pub before_newline : List ℕ → List ℕ
before_newline gap = before_first (λ b. b == line_feed) gap

abbrev pub after_newline : List ℕ → List ℕ
after_newline gap = after_first (λ b. b == line_feed) gap
