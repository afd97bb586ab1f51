use Rattle.norm_send_rules.specs.Watermarks.{pending}
use Rattle.norm_sender.specs.Inside.{kept_of}
use Rattle.norm_sender.proofs.FlushingLemmas.{flush_whole}
use Rattle.norm_sender.proofs.parts.Parts.write_flush.Goals as goal

pub returns : goal.returns
returns c s h =
    let k = kept_of c.args.self.now in
    flush_whole k.p k.pace c.args.at (pending s c.args.at) c.write_flush_front.new.out c.write_pending.new.out s h.pace
    c.write_flush_front.ensures.exact (c.write_pending.ensures k.p s h.book)
