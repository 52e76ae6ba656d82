-- The token at the start of a text.
use Rattle.std.specs.Prelude.{◌≡◌, List, ℕ, length, take, drop}
use Rattle.cedar_tokens.specs.Units.{IsToken, IsFirstUnit}
use Rattle.cedar_tokens.specs.Inside.Gaps.{IsGap}
use Rattle.cedar_tokens.specs.Inside.Newlines.{before_newline, after_newline}
use Rattle.cedar_tokens.specs.declared.readers.FirstToken.{FirstToken}

-- the text begins with this token; the gap of n bytes after it is split at its first line feed, and the rest follows
pub record IsFirstToken (text : List ℕ) (t : FirstToken) : Type 0 where
  pub unit : IsFirstUnit text t.text.now
  pub token : IsToken t.text.now
  pub n : ℕ
  pub gap : IsGap (drop (length t.text.now) text) n
  pub trailing : t.trailing.now ≡ before_newline (take n (drop (length t.text.now) text))
  pub leading : t.leading.now ≡ after_newline (take n (drop (length t.text.now) text))
  pub rest : t.rest.text.now ≡ drop n (drop (length t.text.now) text)
