use Rattle.std.proofs.Common.{drop}
use denote.Shadow.{shadow}
use denote.Text.{Utf8}
use Rattle.cedar_reading.proofs.PlainLeft.{PlainLeft}
use Rattle.cedar_reading.proofs.listing.store_plain_tokens.Given as goal

abbrev pub invariant-loop-at : goal.invariant-loop-at
invariant-loop-at l = record {
  leading_text : shadow (Utf8 l.leading);
  comma_leading_text : shadow (Utf8 l.comma_leading);
  comma_trailing_text : shadow (Utf8 l.comma_trailing);
  left : PlainLeft l.text l.lexemes l.tokens.items l.comma_leading l.comma_trailing l.leading
      (drop l.at l.lexemes);
}
