use Rattle.std.proofs.Common.{ap, ◌∙◌}
use Rattle.cedar_faults.specs.Brackets.{if_left_open, innermost}
use Rattle.cedar_faults.proofs.brackets.left_open.Goals as goal

pub returns : goal.returns
returns c =
    let b = c.in_ok-brackets.ensures in (
      b.0,
      b.1,
      c.if_left_open.ensures
          ∙ ap (if_left_open c.args.found) (c.innermost.ensures ∙ ap innermost (c.deref.ensures.value ∙ b.2)),
    )
