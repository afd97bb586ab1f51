use Rattle.std.proofs.Common.{refl, ◌∙◌}
use Rattle.norm_cmdmsg.proofs.write.write_eot.Goals as goal

pub returns : goal.returns
returns c =
    c.push-2.ensures
    ∙ rw (c.push.ensures, c.push_head.ensures, c.number.ensures, c.octets-spelled.ensures) refl
