use Rattle.norm_arrival.proofs.CanRunLemmas.{folder_can_run}
use Rattle.norm_folder.proofs.sending.script_of.Goals as goal

-- a session can run it
pub returns-clause-runs : goal.returns-clause-runs
returns-clause-runs c = rw (c.in_ok-lines.ensures) (folder_can_run c.args.profile.now c.is_in_range.ensures c.args.entries.now c.requires)
