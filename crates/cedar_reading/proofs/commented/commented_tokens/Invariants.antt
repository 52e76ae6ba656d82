use Rattle.std.proofs.Common.{drop}
use denote.Shadow.{shadow}
use denote.Text.{Utf8}
use Rattle.cedar_reading.proofs.Commenting.{Left}
use Rattle.cedar_reading.proofs.commented.commented_tokens.Given as goal

abbrev pub invariant-loop-at : goal.invariant-loop-at
invariant-loop-at l = record {
  leading_text : shadow (Utf8 l.leading);
  left : Left l.text l.tokens.items l.leading (drop l.at l.lexemes);
}
