-- What the decorations of a real text are like.
use Rattle.std.specs.Prelude.{◌≡◌, ℕ, true, false, List}
use Rattle.std.specs.List.{AllByRecursion}
use Rattle.std.specs.Str.{trim, IsUtf8}
use Rattle.cedar_tokens.specs.Units.{is_comment, is_token}
use Rattle.cedar_tokens.specs.Split.{SplitsInto}
use Rattle.cedar_tokens.specs.Listing.{Decorated}
use Rattle.cedar_tokens.specs.Inside.Newlines.{before_newline}

-- a leading line or a closing comment: one comment, trimmed
pub record IsLine (l : List ℕ) : Type 0 where
  pub comment : is_comment l ≡ true
  pub trimmed : trim l ≡ l
  pub utf8 : IsUtf8 l

-- a trailing text: blanks and comments within one line, trimmed (a lone `\r` may separate two comments)
pub record IsTrailing (tr : List ℕ) : Type 0 where
  pub trimmed : trim tr ≡ tr
  pub one_line : before_newline tr ≡ tr
  pub utf8 : IsUtf8 tr
  pub units : List (List ℕ)
  pub split : SplitsInto tr units
  pub no_token : AllByRecursion (λ u. is_token u ≡ false) units

-- a token with such comments
pub record IsGood (d : Decorated) : Type 0 where
  pub token : is_token d.text ≡ true
  pub utf8 : IsUtf8 d.text
  pub leading : AllByRecursion IsLine d.leading
  pub trailing : IsTrailing d.trailing
