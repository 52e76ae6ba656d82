use Rattle.std.proofs.Common.{◌≡◌}
use Rattle.cedar_writer.specs.Rules.{star}
use Rattle.cedar_writer.specs.Writing.{size}
use Rattle.cedar_writer.specs.NodeRules.{next_token}
use Rattle.cedar_writer.specs.Depths.{alone}
use Rattle.cedar_writer.proofs.writer.Writer.next_tokens.Given as goal

abbrev pub invariant-tokens : goal.invariant-tokens
invariant-tokens l = alone (star next_token) l.fn.self ≡ alone (star next_token) l.self

abbrev pub decreases-tokens : goal.decreases-tokens
decreases-tokens l = size l.self
