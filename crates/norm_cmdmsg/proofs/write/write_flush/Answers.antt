use Rattle.std.proofs.Common.{◌∙◌, arith}
use Rattle.norm_cmdmsg.proofs.Written.{flush_written}
use Rattle.norm_cmdmsg.proofs.write.write_flush.Goals as goal

pub returns : goal.returns
returns c =
    c.push-2.ensures
    ∙ rw (c.push.ensures, c.push_symbol.ensures, c.push_head.ensures, c.number.ensures, c.octets-spelled.ensures)
    (flush_written c.args.head.now c.args.object c.args.id.now c.args.exts.now c.args.nodes.now (λ i. omega (arith, c.type_inv.nodes i)) c.requires.whole)
