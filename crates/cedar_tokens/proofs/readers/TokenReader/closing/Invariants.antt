use Rattle.std.proofs.Common.{List, ℕ, length}
use denote.Shadow.{shadow}
use denote.Text.{Utf8}
use Rattle.cedar_tokens.specs.Listing.{Listing}
use Rattle.cedar_tokens.specs.TokenReaders.{HasLeft}
use Rattle.cedar_tokens.specs.declared.token.Span.{Span}
use Rattle.cedar_tokens.proofs.Reading.{Closes}
use Rattle.cedar_tokens.proofs.readers.TokenReader.closing.Given as goal

abbrev pub invariant-tokens : goal.invariant-tokens
invariant-tokens l = record {
  leading_text : shadow (Utf8 l.leading);
  closes : (text : List ℕ) (left : Listing) (spans : List Span) → HasLeft text l.fn.self left spans
      → Closes l.leading l.ahead.text.now left.closing;
}

abbrev pub decreases-tokens : goal.decreases-tokens
decreases-tokens l = length l.ahead.text.now
