use Rattle.std.proofs.Common.{refl, sym, ◌∙◌}
use Rattle.cedar_writer.specs.Parts.{next_cond}
use Rattle.cedar_writer.proofs.Loops.{around_less, around_turn, around_over}
use Rattle.cedar_writer.proofs.writer.Writer.next_conds.Goals as goal

pub conds-smaller : goal.conds-smaller
conds-smaller c = around_less c.args.indent.columns c.args.depth (next_cond c.args.indent.columns) c.conds.self c.next_cond.new.self refl (sym c.begins.ensures ∙ c.conds-test.true) c.next_cond.ensures

pub conds-preserved : goal.conds-preserved
conds-preserved c = around_turn c.args.indent.columns c.args.depth (next_cond c.args.indent.columns) c.conds.self c.next_cond.new.self refl (sym c.begins.ensures ∙ c.conds-test.true) c.conds.invariant c.next_cond.ensures

pub returns : goal.returns
returns c = around_over c.args.indent.columns c.args.depth (next_cond c.args.indent.columns) c.conds.self (sym c.begins.ensures ∙ c.conds-test.false) c.conds.invariant
