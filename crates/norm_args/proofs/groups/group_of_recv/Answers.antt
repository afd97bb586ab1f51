use Rattle.std.proofs.Common.{◌∙◌, ap}
use Rattle.clap.specs.Words.{is_simple_and_free}
use Rattle.norm_args.proofs.FormLemmas.{simple_recv}
use Rattle.norm_args.proofs.groups.group_of_recv.Goals as goal

-- the form is simple
pub group_found-requires : goal.group_found-requires
group_found-requires c = ap is_simple_and_free c.in_ok-form.ensures ∙ simple_recv
