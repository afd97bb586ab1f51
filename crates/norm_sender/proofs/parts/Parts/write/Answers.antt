use Rattle.std.proofs.Common.{◌≡◌, [], ◌∷◌, ◌++◌, Err, ap, sym, subst, arith}
use Rattle.std.specs.Prelude.{is_err}
use Rattle.norm_order.specs.Entries.{Write}
use Rattle.norm_send_rules.specs.Streaming.{wrote, parts_now}
use Rattle.tx_window.specs.WindowState.{WindowState}
use Rattle.norm_sender.specs.Inside.{kept_of}
use Rattle.norm_sender.specs.SenderKept.{Agrees}
use Rattle.norm_sender.proofs.SenderLemmas.{anyone}
use Rattle.norm_sender.proofs.StreamingLemmas.{wrote_on, wrote_not, grown_onward, gone_for, followed_goes, went_on}
use Rattle.norm_sender.proofs.parts.Parts.write.Goals as goal

pub retire-requires : goal.retire-requires
retire-requires c =
    let k = kept_of c.args.self.now in
    let s = c.requires.state in
    let h = c.requires.stands in
    let done = wrote_on k c.write.new.self s anyone c.args.bytes.now c.in-Ok.at c.write.result h c.write.ensures.profile c.write.ensures.finished
    (c.write.ensures.written s anyone h.window) c.in-Ok.is in
    grown_onward k c.write.new.self s (Write anyone c.args.bytes.now ∷ []) h done.on

pub grow-requires : goal.grow-requires
grow-requires c =
    let k = kept_of c.args.self.now in
    let s = c.requires.state in
    let h = c.requires.stands in
    let more = Write anyone c.args.bytes.now ∷ [] in
    let done = wrote_on k c.write.new.self s anyone c.args.bytes.now c.in-Ok.at c.write.result h c.write.ensures.profile c.write.ensures.finished
    (c.write.ensures.written s anyone h.window) c.in-Ok.is in
    record {
      state = gone_for k.p s (parts_now s ++ more);
      parts = parts_now s ++ more;
      goes = followed_goes k c.write.new.self c.retire.new.self s more h done.on (omega (arith, c.hold_range.ensures.e.0)) (record {
        profile = c.retire.ensures.rest.0;
        window = c.retire.ensures.rest.1;
        book = c.retire.ensures.rest.2;
        retires = c.retire.ensures.exact;
        drops = c.retire.ensures.union;
        due = c.retire.ensures.pace;
      });
      place = done.place;
    }

pub returns-in-Ok-clause-wrote : goal.returns-in-Ok-clause-wrote
returns-in-Ok-clause-wrote c s by h =
    let k = kept_of c.args.self.now in
    let octets = c.args.bytes.now in
    let more = Write by octets ∷ [] in
    let done = wrote_on k c.write.new.self s by octets c.in-Ok.at c.write.result h c.write.ensures.profile c.write.ensures.finished
    (c.write.ensures.written s by h.window) c.in-Ok.is in
    went_on k c.write.new.self c.retire.new.self c.grow.new.self s more _ _ h done.on (omega (arith, c.hold_range.ensures.e.0))
    (record {
      profile = c.retire.ensures.rest.0;
      window = c.retire.ensures.rest.1;
      book = c.retire.ensures.rest.2;
      retires = c.retire.ensures.exact;
      drops = c.retire.ensures.union;
      due = c.retire.ensures.pace;
    })
    c.grow.ensures.rest c.grow.ensures.profile c.grow.ensures.union done.step

pub returns-in-Err-clause-wrote : goal.returns-in-Err-clause-wrote
returns-in-Err-clause-wrote c s by h =
    let k = kept_of c.args.self.now in
    subst (λ (v : WindowState). Agrees (record k { window = v }) (wrote k.p s by c.args.bytes.now).0 × (Err c.in-Err.fault ≡ (wrote k.p s by c.args.bytes.now).1))
    (sym (c.write.ensures.same (ap is_err c.in-Err.is)))
    (wrote_not k c.write.new.self s by c.args.bytes.now c.in-Err.fault c.write.result h (c.write.ensures.written s by h.window) c.in-Err.is)
