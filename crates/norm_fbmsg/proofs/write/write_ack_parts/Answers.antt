use Rattle.std.proofs.Common.{◌∙◌}
use Rattle.norm_fbmsg.specs.View.{content_of}
use Rattle.norm_fbmsg.proofs.Written.{ack_written}
use Rattle.norm_fbmsg.proofs.write.write_ack_parts.Goals as goal

pub returns : goal.returns
returns c =
    c.push_body.ensures
    ∙ rw (c.push-3.ensures, c.push-2.ensures, c.push.ensures, c.push_instance.ensures, c.push_node.ensures, c.push_front.ensures, c.number.ensures, c.requires.empty, c.octets-spelled.ensures)
    (ack_written c.args.msg.now.source c.args.msg.now.sequence c.args.msg.now.sender c.args.msg.now.instance c.args.msg.now.ack_type c.args.msg.now.ack_id c.args.exts.now (content_of c.args.msg.now.body))
