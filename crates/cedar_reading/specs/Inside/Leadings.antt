-- The leading lines of a token.
use Rattle.std.specs.Prelude.{ℕ, List, ◌++◌, map}
use Rattle.cedar_tokens.specs.Listing.{comments}
use Rattle.cedar_reading.specs.declared.token.Leading.{Leading}
use Rattle.cedar_reading.specs.declared.token.Leading.TheVariants as variant

-- the comments of three texts, one after the other, or lines as they are
abbrev pub lines_of : Leading → List (List ℕ)
lines_of (variant.Texts comma_leading comma_trailing own) =
    comments comma_leading.now ++ (comments comma_trailing.now ++ comments own.now)
lines_of (variant.Given lines) = map (λ l. l.now) lines.now
