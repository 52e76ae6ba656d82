use Rattle.cedar_layout.proofs.utils.lookups.get_comment_at_start.Given as goal

abbrev pub ghosts-comment_at_start_afresh : goal.ghosts-comment_at_start_afresh
ghosts-comment_at_start_afresh a = record { name = a.blank.name; parts = a.blank.parts }
