use Rattle.std.proofs.Common.{refl, sym, ◌∙◌}
use Rattle.cedar_writer.specs.Lines.{annotation}
use Rattle.cedar_writer.proofs.Loops.{alone_less, alone_turn, alone_over}
use Rattle.cedar_writer.proofs.writer.Writer.annotations.Goals as goal

pub annotations-smaller : goal.annotations-smaller
annotations-smaller c = alone_less annotation c.annotations.self c.annotation.new.self refl (sym c.begins.ensures ∙ c.annotations-test.true) c.annotation.ensures

pub annotations-preserved : goal.annotations-preserved
annotations-preserved c = alone_turn annotation c.annotations.self c.annotation.new.self refl (sym c.begins.ensures ∙ c.annotations-test.true) c.annotations.invariant c.annotation.ensures

pub returns : goal.returns
returns c = alone_over annotation c.annotations.self (sym c.begins.ensures ∙ c.annotations-test.false) c.annotations.invariant
