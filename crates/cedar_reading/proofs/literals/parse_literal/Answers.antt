use Rattle.std.proofs.Common.{subst, ◌∙◌}
use Rattle.cedar_reading.specs.ReadingParts.{HasLiteral, is_literal}
use Rattle.cedar_reading.proofs.Steps.{fails_as, first_begins, none_begins}
use Rattle.cedar_reading.proofs.LiteralLaws.{literal_reads, literal_not}
use Rattle.cedar_reading.proofs.literals.parse_literal.Goals as goal

pub returns-in-Some-literal_of-clause-reads : goal.returns-in-Some-literal_of-clause-reads
returns-in-Some-literal_of-clause-reads c =
    literal_reads c.in-Some-literal_of.literal c.literal_primary.result _ c.in-Some.first.now _
    c.in-Some.ensures.cases.0 (subst (HasLiteral c.in-Some.first.now) c.in-Some-literal_of.is
    c.literal_of.ensures) c.literal_primary.ensures

pub returns-in-None-literal_of-clause-reads : goal.returns-in-None-literal_of-clause-reads
returns-in-None-literal_of-clause-reads c =
    fails_as _ _ _ c.refuse.ensures
    (literal_not _ (first_begins is_literal _ _ _ c.in-Some.ensures.cases.0
    ∙ subst (HasLiteral c.in-Some.first.now) c.in-None-literal_of.is c.literal_of.ensures))

pub returns-in-None-clause-reads : goal.returns-in-None-clause-reads
returns-in-None-clause-reads c = fails_as _ _ _ c.refuse-in-None.ensures
    (literal_not _ (none_begins is_literal _ c.in-None.ensures.cases))
