use Rattle.std.proofs.Common.{refl, sym, ◌∙◌}
use Rattle.cedar_writer.specs.NodeRules.{next_token}
use Rattle.cedar_writer.proofs.Loops.{alone_less, alone_turn, alone_over}
use Rattle.cedar_writer.proofs.writer.Writer.next_tokens.Goals as goal

pub tokens-smaller : goal.tokens-smaller
tokens-smaller c = alone_less next_token c.tokens.self c.next_token.new.self refl (sym c.begins.ensures ∙ c.tokens-test.true) c.next_token.ensures

pub tokens-preserved : goal.tokens-preserved
tokens-preserved c = alone_turn next_token c.tokens.self c.next_token.new.self refl (sym c.begins.ensures ∙ c.tokens-test.true) c.tokens.invariant c.next_token.ensures

pub returns : goal.returns
returns c = alone_over next_token c.tokens.self (sym c.begins.ensures ∙ c.tokens-test.false) c.tokens.invariant
