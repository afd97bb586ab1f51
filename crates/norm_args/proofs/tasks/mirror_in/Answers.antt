use Rattle.std.proofs.Common.{◌∙◌, ap}
use Rattle.clap.specs.Words.{is_simple_and_free}
use Rattle.norm_args.proofs.FormLemmas.{simple_mirror}
use Rattle.norm_args.proofs.tasks.mirror_in.Goals as goal

-- the form is simple
pub found_in-requires : goal.found_in-requires
found_in-requires c = ap is_simple_and_free c.mirror_form.ensures ∙ simple_mirror
