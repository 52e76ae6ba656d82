use Rattle.cedar_layout.proofs.utils.lookups.get_leading_comment_at_start.Given as goal

abbrev pub ghosts-leading_comment_at_start_afresh : goal.ghosts-leading_comment_at_start_afresh
ghosts-leading_comment_at_start_afresh a = record { name = a.blank.name; parts = a.blank.parts }
