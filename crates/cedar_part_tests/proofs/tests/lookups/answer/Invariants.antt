use Rattle.cedar_part_tests.proofs.tests.lookups.answer.Given as goal

abbrev pub ghosts-answer_from : goal.ghosts-answer_from
ghosts-answer_from g a = record { name = a.blank.name; parts = a.blank.parts }
