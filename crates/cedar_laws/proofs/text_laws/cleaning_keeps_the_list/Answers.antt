use Rattle.cedar_laws.proofs.CleanedTexts.{clean_reads}
use Rattle.cedar_laws.proofs.text_laws.cleaning_keeps_the_list.Goals as goal

pub returns : goal.returns
returns c = clean_reads
