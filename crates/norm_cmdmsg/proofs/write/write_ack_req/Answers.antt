use Rattle.std.proofs.Common.{◌∙◌, arith}
use Rattle.norm_cmdmsg.proofs.Written.{ack_req_written}
use Rattle.norm_cmdmsg.proofs.write.write_ack_req.Goals as goal

pub returns : goal.returns
returns c =
    c.push-3.ensures
    ∙ rw (c.push-2.ensures, c.push.ensures, c.push_head.ensures, c.number.ensures, c.octets-spelled.ensures)
    (ack_req_written c.args.head.now c.args.ack_type c.args.ack_id c.args.exts.now c.args.nodes.now (λ i. omega (arith, c.type_inv.nodes i)) c.requires.whole)
