use Rattle.std.proofs.Common.{◌∙◌, sym}
use Rattle.norm_script.proofs.NameLemmas.{name-utf8}
use Rattle.norm_script.proofs.words.name_of.Goals as goal

-- a name is text
pub returns-in_default : goal.returns-in_default
returns-in_default c = absurd (c.in_default.ensures.cases.0 (name-utf8 c.args.word.now (sym c.is_name.ensures ∙ c.if-not-is_name.false)))
