use Rattle.std.proofs.Common.{map}
use Rattle.std.specs.Prelude.{string_bytes}
use Rattle.clap.specs.Words.{app_of, rows_of, found_of}
use Rattle.norm_args.proofs.FormLemmas.{found_some, found_none}
use Rattle.norm_args.proofs.forms.found_in.Goals as goal

-- where the words are of the form
pub returns-in-Ok : goal.returns-in-Ok
returns-in-Ok c =
    found_some (app_of c.args.form) (map string_bytes c.args.words.now) (rows_of (found_of c.in-Ok.matches)) c.requires c.in-Ok.ensures.kinds c.in-Ok.ensures.matches

-- where they are not
pub returns-else-is_memory : goal.returns-else-is_memory
returns-else-is_memory c =
    found_none (app_of c.args.form) (map string_bytes c.args.words.now) c.in-Err.error c.is_memory.result c.requires c.in-Err.ensures.kinds c.is_memory.ensures c.if-is_memory.false
