use Rattle.std.proofs.Common.{◌≡◌, [], ◌∷◌, ◌++◌, Err, ap, sym, subst, arith}
use Rattle.std.specs.Prelude.{is_err}
use Rattle.norm_order.specs.Entries.{End}
use Rattle.norm_send_rules.specs.Streaming.{closed, parts_now}
use Rattle.tx_window.specs.WindowState.{WindowState}
use Rattle.norm_sender.specs.Inside.{kept_of}
use Rattle.norm_sender.specs.SenderKept.{Agrees}
use Rattle.norm_sender.proofs.StreamingLemmas.{closed_on, closed_not, grown_onward, gone_for, followed_goes, went_on}
use Rattle.norm_sender.proofs.parts.Parts.close.Goals as goal

pub retire-requires : goal.retire-requires
retire-requires c =
    let k = kept_of c.args.self.now in
    let s = c.requires.state in
    let h = c.requires.stands in
    let done = closed_on k c.close_stream.new.self s c.in-Ok.index c.close_stream.result h c.close_stream.ensures.profile c.close_stream.ensures.finished
    (c.close_stream.ensures.closed s h.window) c.in-Ok.is in
    grown_onward k c.close_stream.new.self s (End ∷ []) h done.on

pub grow-requires : goal.grow-requires
grow-requires c =
    let k = kept_of c.args.self.now in
    let s = c.requires.state in
    let h = c.requires.stands in
    let more = End ∷ [] in
    let done = closed_on k c.close_stream.new.self s c.in-Ok.index c.close_stream.result h c.close_stream.ensures.profile c.close_stream.ensures.finished
    (c.close_stream.ensures.closed s h.window) c.in-Ok.is in
    record {
      state = gone_for k.p s (parts_now s ++ more);
      parts = parts_now s ++ more;
      goes = followed_goes k c.close_stream.new.self c.retire.new.self s more h done.on (omega (arith, c.hold_range.ensures.e.0)) (record {
        profile = c.retire.ensures.rest.0;
        window = c.retire.ensures.rest.1;
        book = c.retire.ensures.rest.2;
        retires = c.retire.ensures.exact;
        drops = c.retire.ensures.union;
        due = c.retire.ensures.pace;
      });
      place = done.place;
    }

pub returns-in-Ok-clause-closed : goal.returns-in-Ok-clause-closed
returns-in-Ok-clause-closed c s h =
    let k = kept_of c.args.self.now in
    let more = End ∷ [] in
    let done = closed_on k c.close_stream.new.self s c.in-Ok.index c.close_stream.result h c.close_stream.ensures.profile c.close_stream.ensures.finished
    (c.close_stream.ensures.closed s h.window) c.in-Ok.is in
    went_on k c.close_stream.new.self c.retire.new.self c.grow.new.self s more _ _ h done.on (omega (arith, c.hold_range.ensures.e.0))
    (record {
      profile = c.retire.ensures.rest.0;
      window = c.retire.ensures.rest.1;
      book = c.retire.ensures.rest.2;
      retires = c.retire.ensures.exact;
      drops = c.retire.ensures.union;
      due = c.retire.ensures.pace;
    })
    c.grow.ensures.rest c.grow.ensures.profile c.grow.ensures.union done.step

pub returns-in-Err-clause-closed : goal.returns-in-Err-clause-closed
returns-in-Err-clause-closed c s h =
    let k = kept_of c.args.self.now in
    subst (λ (v : WindowState). Agrees (record k { window = v }) (closed k.p s).0 × (Err c.in-Err.fault ≡ (closed k.p s).1))
    (sym (c.close_stream.ensures.same (ap is_err c.in-Err.is)))
    (closed_not k c.close_stream.new.self s c.in-Err.fault c.close_stream.result h (c.close_stream.ensures.closed s h.window) c.in-Err.is)
