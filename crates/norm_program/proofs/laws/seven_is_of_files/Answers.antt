use Rattle.norm_program.proofs.LawLemmas.{seven_is_of_files}
use Rattle.norm_program.proofs.laws.seven_is_of_files.Goals as goal

pub returns : goal.returns
returns c = seven_is_of_files
