use Rattle.cedar_print.proofs.render.render.Given as goal

abbrev pub ghosts-render_from : goal.ghosts-render_from
ghosts-render_from a = record { name = a.blank.name; parts = a.blank.parts }
