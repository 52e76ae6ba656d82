use Rattle.std.proofs.Common.{◌≡◌}
use Rattle.cedar_writer.specs.Rules.{star}
use Rattle.cedar_writer.specs.Writing.{size}
use Rattle.cedar_writer.specs.Parts.{next_word}
use Rattle.cedar_writer.specs.Depths.{alone}
use Rattle.cedar_writer.proofs.writer.Writer.next_words.Given as goal

abbrev pub invariant-words : goal.invariant-words
invariant-words l = alone (star next_word) l.fn.self ≡ alone (star next_word) l.self

abbrev pub decreases-words : goal.decreases-words
decreases-words l = size l.self
