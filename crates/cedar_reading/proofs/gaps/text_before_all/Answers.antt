use Rattle.std.proofs.lemmas.Str.{IsCharBoundary-start}
use Rattle.cedar_tokens.proofs.Between.{first_boundary}
use Rattle.cedar_reading.proofs.Places.{all_places}
use Rattle.cedar_reading.proofs.gaps.text_before_all.Goals as goal

pub text_before-requires-clause-from : goal.text_before-requires-clause-from
text_before-requires-clause-from c = IsCharBoundary-start c.args.text.now c.utf8.text

pub text_before-requires-clause-to : goal.text_before-requires-clause-to
text_before-requires-clause-to c = first_boundary c.args.text.now _
    (all_places c.args.text.now c.args.lexemes.now c.utf8.text c.requires)
