use Rattle.std.proofs.Common.{inr, arith, length}
use Rattle.std.specs.Prelude.{◌≤◌}
use Rattle.cedar_server.proofs.Reading.{no_token_begins, no_comment_begins, first_character, some_byte}
use Rattle.cedar_server.proofs.parts.first_part.Goals as goal

pub returns-in-None-clause-part : goal.returns-in-None-clause-part
returns-in-None-clause-part c =
    let e = c.ceil_char_boundary.ensures in
    let some : 1 ≤ length c.args.text.now = some_byte c.args.text.now c.requires in
    inr (
      c.in-None.ensures.unit,
      first_character c.args.text.now c.ceil_char_boundary.result
          (e.bound some) e.boundary (λ i a b. e.nearest i (omega (arith, a)) b),
    )

pub returns-in-None-clause-kind : goal.returns-in-None-clause-kind
returns-in-None-clause-kind c =
    let text = c.args.text.now in
    let n = c.ceil_char_boundary.result in
    (no_token_begins text n c.in-None.ensures.unit, no_comment_begins text n c.in-None.ensures.unit)
