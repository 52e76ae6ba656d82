use Rattle.std.proofs.Common.{refl, sym, ◌∙◌}
use Rattle.cedar_writer.specs.Parts.{next_field}
use Rattle.cedar_writer.proofs.Loops.{alone_less, alone_turn, alone_over}
use Rattle.cedar_writer.proofs.writer.Writer.next_fields.Goals as goal

pub fields-smaller : goal.fields-smaller
fields-smaller c = alone_less next_field c.fields.self c.next_field.new.self refl (sym c.begins.ensures ∙ c.fields-test.true) c.next_field.ensures

pub fields-preserved : goal.fields-preserved
fields-preserved c = alone_turn next_field c.fields.self c.next_field.new.self refl (sym c.begins.ensures ∙ c.fields-test.true) c.fields.invariant c.next_field.ensures

pub returns : goal.returns
returns c = alone_over next_field c.fields.self (sym c.begins.ensures ∙ c.fields-test.false) c.fields.invariant
