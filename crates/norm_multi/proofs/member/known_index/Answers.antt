use Rattle.std.proofs.Common.{sym, ◌∙◌}
use Rattle.norm_multi.proofs.MemberLemmas.{index_missing}
use Rattle.norm_multi.proofs.member.known_index.Goals as goal

pub returns-in-None : goal.returns-in-None
returns-in-None c = absurd (index_missing c.args.sender c.args.members.now c.requires (sym c.index_of.ensures ∙ c.in-None.is))
