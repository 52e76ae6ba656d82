use Rattle.std.proofs.Common.{◌+◌}
use Rattle.cedar_tokens.proofs.Between.{first_boundary}
use Rattle.cedar_reading.proofs.Commenting.{to_end}
use Rattle.cedar_reading.proofs.Places.{all_places, places_drop, place_at}
use Rattle.cedar_reading.proofs.gaps.split_after.Goals as goal

pub text_before-gap-requires-clause-from : goal.text_before-gap-requires-clause-from
text_before-gap-requires-clause-from c = (place_at _ _ _ _
    (all_places c.args.text.now c.args.lexemes.now c.utf8.text c.requires.lexemes) c.requires.at).end

pub text_before-gap-requires-clause-to : goal.text_before-gap-requires-clause-to
text_before-gap-requires-clause-to c = rw to_end (first_boundary c.args.text.now _
    (places_drop c.args.text.now c.args.lexemes.now (c.args.at + 1)
    (all_places c.args.text.now c.args.lexemes.now c.utf8.text c.requires.lexemes)))

pub text_before-gap-requires-clause-order : goal.text_before-gap-requires-clause-order
text_before-gap-requires-clause-order c = rw to_end (place_at _ _ _ _
    (all_places c.args.text.now c.args.lexemes.now c.utf8.text c.requires.lexemes) c.requires.at).order
