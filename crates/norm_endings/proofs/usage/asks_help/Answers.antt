use Rattle.std.proofs.Common.{◌∙◌}
use Rattle.std.specs.Prelude.{string_bytes}
use Rattle.norm_endings.specs.Usage.{is_help}
use Rattle.norm_endings.proofs.UsageLemmas.{any_map}
use Rattle.norm_endings.proofs.usage.asks_help.Goals as goal

pub returns : goal.returns
returns c = c.some_is_help.ensures ∙ any_map is_help string_bytes c.args.words.now
