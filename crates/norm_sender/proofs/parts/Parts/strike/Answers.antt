use Rattle.std.proofs.Common.{◌≡◌, ◌∙◌, Result, Ok, Err, sym, ap, subst}
use Rattle.norm_send_rules.specs.SenderState.{SenderState}
use Rattle.norm_send_rules.specs.Watermarks.{settled}
use Rattle.norm_send_rules.specs.Striking.{strikes, without_node}
use Rattle.norm_send_rules.specs.declared.job.Receipt.{Receipt}
use Rattle.norm_send_rules.specs.declared.job.Receipt.TheVariants.{Struck}
use Rattle.norm_send_rules.specs.declared.fault.StrikeFault.{StrikeFault}
use Rattle.mark_book.specs.Answers.{strike_receipt}
use Rattle.norm_sender.specs.Inside.{kept_of}
use Rattle.norm_sender.specs.SenderKept.{Agrees}
use Rattle.norm_sender.proofs.StrikingLemmas.{refused_stands, done_strikes, struck_read}
use Rattle.norm_sender.proofs.parts.Parts.strike.Goals as goal

pub returns-in-Err-clause-stands : goal.returns-in-Err-clause-stands
returns-in-Err-clause-stands c s h =
    let k = kept_of c.args.self.now in
    let node = c.args.node in
    let listed = c.strike.ensures k.p s h.book in
    let given : Err c.in-Err.fault ≡ (strikes s node).1 = sym (ap (strike_receipt node) c.in-Err.is) ∙ listed.1 in
    (refused_stands k c.strike.new.self node c.in-Err.fault s h listed.0 given, given)

pub returns-in-Ok-clause-stands : goal.returns-in-Ok-clause-stands
returns-in-Ok-clause-stands c s h =
    let k = kept_of c.args.self.now in
    let listed = c.strike.ensures k.p s h.book in
    let node = c.args.node in
    let given : Ok (Struck node) ≡ (strikes s node).1 = sym (ap (strike_receipt node) c.in-Ok.is) ∙ listed.1 in
    let done = done_strikes node s given in
    let t = settled (without_node node s) in (
      subst (λ (step : SenderState × Result Receipt StrikeFault). Agrees (kept_of c.follow.new.self) step.0) (sym done)
          (c.follow.ensures.stands s t (record {
            window_profile = h.window_profile;
            filling = h.filling;
            union_profile = h.union_profile;
            window = h.window;
            union = h.union;
            book = struck_read k.p c.strike.new.self node s done listed.0;
            pace = h.pace;
          }) (c.oldest-before.ensures k.p s h.book)),
      given,
    )
