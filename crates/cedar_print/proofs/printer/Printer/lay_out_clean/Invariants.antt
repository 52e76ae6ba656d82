use Rattle.cedar_print.proofs.printer.Printer.lay_out_clean.Given as goal

abbrev pub ghosts-lay_out_from : goal.ghosts-lay_out_from
ghosts-lay_out_from a = record { name = a.blank.name; parts = a.blank.parts }
