use Rattle.std.proofs.Common.{rules, sym, ◌∙◌, ◌≡◌, [], chars}
use Rattle.cedar_faults.specs.Words.{code_point}
use Rattle.cedar_faults.proofs.Points.{two_characters, one_character}
use Rattle.cedar_faults.proofs.words.write_code_point.Goals as goal

pub returns-in-Some-next : goal.returns-in-Some-next
returns-in-Some-next g c = λ plain ok.
    let none : code_point (chars c.args.text.now) ≡ [] =
    two_characters _ _ _ _ _ c.utf8.text
    (sym c.chars-characters.ensures.rest ∙ c.in-Some.ensures.steps.0) c.in-Some-next.ensures.steps.0 in
    rw none (search rules)

pub returns-in-None : goal.returns-in-None
returns-in-None g c = λ plain ok.
    let one = one_character _ _ _ c.utf8.text
    (sym c.chars-characters.ensures.rest ∙ c.in-Some.ensures.steps.0) c.in-None.ensures.steps.0.0
    (sym c.is_ascii.ensures ∙ c.if-is_ascii.false) in
    let written = rw c.in_radix.ensures at c.write.ensures.writes in
    rw one (written plain ok)
