use Rattle.cedar_laws.proofs.CleanedTexts.{clean_takes_blanks, clean_has_no_blank_line}
use Rattle.cedar_laws.proofs.LostBlanks.{every_text_loses_blanks}
use Rattle.cedar_laws.proofs.text_laws.cleaning_takes_blanks.Goals as goal

pub returns-clause-blanks : goal.returns-clause-blanks
returns-clause-blanks c = clean_takes_blanks

pub returns-clause-lines : goal.returns-clause-lines
returns-clause-lines c = clean_has_no_blank_line

pub returns-clause-every : goal.returns-clause-every
returns-clause-every c = every_text_loses_blanks
