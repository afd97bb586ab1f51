use Rattle.std.proofs.Common.{refl, ◌∙◌}
use Rattle.norm_objmsg.proofs.grammar.write_data_parts.Goals as goal

pub returns : goal.returns
returns c =
    c.push-2.ensures
    ∙ rw (c.push.ensures, c.push_name.ensures, c.push_object_head.ensures, c.push_front.ensures, c.number.ensures, c.requires.empty, c.octets-spelled.ensures) refl
