use Rattle.norm_sender.specs.Inside.{kept_of}
use Rattle.norm_sender.proofs.TickingLemmas.{took, first_valid, repair_sent}
use Rattle.norm_sender.proofs.parts.Parts.send_wanted.Goals as goal

pub send_want-requires : goal.send_want-requires
send_want-requires c =
    let k = kept_of c.args.self.now in
    let r = c.requires in
    let w = c.in-Some.want in
    let t = c.in-Some.ensures.first r.state r.stands.union in
    record {
      state = record (r.state) { wants = t.0 };
      stands = took k c.next.new.self r.state t.0 r.stands c.in-Some.ensures.profile t.2;
      valid = first_valid k.p r.state w t.0 r.wants t.1;
    }

pub returns-clause-stands : goal.returns-clause-stands
returns-clause-stands c s h wants =
    let k = kept_of c.args.self.now in
    let w = c.in-Some.want in
    let t = c.in-Some.ensures.first s h.union in
    let after = took k c.next.new.self s t.0 h c.in-Some.ensures.profile t.2 in
    let valid = first_valid k.p s w t.0 wants t.1 in
    repair_sent (kept_of c.send_want.new.self) c.send_want.new.out c.send_want.result k.p c.args.now w s t.0 c.repair_flags-flags.result t.1
    (c.repair_flags-flags.ensures.exact (record s { wants = t.0 }) after valid)
    (c.send_want.ensures.stands (record s { wants = t.0 }) after valid c.repair_flags-flags.ensures.few)
