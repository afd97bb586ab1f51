use Rattle.std.proofs.Common.{◌∙◌}
use Rattle.std.specs.Prelude.{string_bytes}
use Rattle.norm_endings.specs.Usage.{is_version}
use Rattle.norm_endings.proofs.UsageLemmas.{any_map}
use Rattle.norm_endings.proofs.usage.asks_version.Goals as goal

pub returns : goal.returns
returns c = c.some_is_version.ensures ∙ any_map is_version string_bytes c.args.words.now
