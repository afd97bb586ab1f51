use Rattle.std.proofs.Common.{refl, ◌∙◌}
use Rattle.norm_fbmsg.proofs.write.write_nack_parts.Goals as goal

pub returns : goal.returns
returns c =
    c.push-3.ensures
    ∙ rw (c.push-2.ensures, c.push.ensures, c.push_instance.ensures, c.push_node.ensures, c.push_front.ensures, c.number.ensures, c.requires.empty, c.octets-spelled.ensures, c.octets.ensures) refl
