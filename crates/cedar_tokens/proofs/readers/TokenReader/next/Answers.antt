use Rattle.std.proofs.Common.{refl}
use Rattle.cedar_tokens.proofs.Reading.{none_has, gives_first}
use Rattle.cedar_tokens.proofs.readers.TokenReader.next.Goals as goal

pub returns-in_default-clause-next : goal.returns-in_default-clause-next
returns-in_default-clause-next c =
    λ text l spans h. none_has text _ l spans c.in_default.ensures.token h

pub returns-clause-next : goal.returns-clause-next
returns-clause-next c = λ text l spans h.
    let made = c.in_ok-token.ensures in
    gives_first text _ _ c.in-Some.first _ l spans c.in-Some.ensures.token h refl refl refl
    made.text made.proper made.leading made.trailing made.span
