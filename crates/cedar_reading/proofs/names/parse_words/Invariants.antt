use Rattle.std.proofs.Common.{◌<◌, length}
use Rattle.cedar_reading.proofs.Entities.{WordsRead}
use Rattle.cedar_reading.proofs.names.parse_words.Given as goal

abbrev pub invariant-words : goal.invariant-words
invariant-words l =
    (length l.rest < length l.fn.tokens) × WordsRead l.fn.tokens l.path.items l.name l.rest

abbrev pub decreases-words : goal.decreases-words
decreases-words l = length l.rest
