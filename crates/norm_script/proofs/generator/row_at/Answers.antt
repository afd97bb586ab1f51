use Rattle.std.proofs.Common.{◌∙◌}
use Rattle.norm_script.proofs.RowLemmas.{piece-of_setting, piece-of_command}
use Rattle.norm_script.proofs.generator.row_at.Goals as goal

pub returns-then-k-lt-SETTINGS : goal.returns-then-k-lt-SETTINGS
returns-then-k-lt-SETTINGS c = c.setting_row.ensures ∙ piece-of_setting c.args.n c.args.k c.if-k-lt-SETTINGS.true

pub returns : goal.returns
returns c = c.command_row.ensures ∙ piece-of_command c.args.n c.args.k c.if-k-lt-SETTINGS.false c.requires
