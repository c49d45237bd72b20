use Rattle.repl_reader.proofs.Total.{every_text_reads}
use Rattle.repl_reader.proofs.laws.every_text_reads.Goals as goal

pub returns : goal.returns
returns c = every_text_reads
