use Rattle.std.proofs.Common.{◌∙◌, ap}
use Rattle.clap.specs.Words.{is_simple_and_free}
use Rattle.norm_args.proofs.FormLemmas.{simple_relay}
use Rattle.norm_args.proofs.node_tasks.relay_in.Goals as goal

-- the form is simple
pub found_in-requires : goal.found_in-requires
found_in-requires c = ap is_simple_and_free c.in_ok-form.ensures ∙ simple_relay
