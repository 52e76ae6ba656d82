use Rattle.cedar_server.proofs.Sectioning.{refused}
use Rattle.cedar_server.proofs.sections.section_policies.Goals as goal

pub returns-in_default : goal.returns-in_default
returns-in_default c =
    λ a. c.accepted_is_not_refused.ensures c.args.section.now c.in-Err.error a
    (refused c.args.section.now c.in-Err.error c.in-Err.ensures.refusal c.in_default.not-OutOfMemory)
