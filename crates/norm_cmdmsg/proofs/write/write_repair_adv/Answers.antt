use Rattle.std.proofs.Common.{refl, ◌∙◌}
use Rattle.norm_cmdmsg.proofs.write.write_repair_adv.Goals as goal

pub returns : goal.returns
returns c =
    c.push-3.ensures
    ∙ rw (c.push-2.ensures, c.push.ensures, c.push_head.ensures, c.number.ensures, c.octets-spelled.ensures, c.octets.ensures) refl
