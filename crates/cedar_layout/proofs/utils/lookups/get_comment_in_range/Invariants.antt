use Rattle.cedar_layout.proofs.utils.lookups.get_comment_in_range.Given as goal

abbrev pub ghosts-comment_in_range_afresh : goal.ghosts-comment_in_range_afresh
ghosts-comment_in_range_afresh a = record { name = a.blank.name; parts = a.blank.parts }
