use Rattle.cedar_layout.proofs.utils.lookups.get_comment_after_end.Given as goal

abbrev pub ghosts-comment_after_end_afresh : goal.ghosts-comment_after_end_afresh
ghosts-comment_after_end_afresh a = record { name = a.blank.name; parts = a.blank.parts }
