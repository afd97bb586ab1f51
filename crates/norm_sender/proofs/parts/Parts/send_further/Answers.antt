use Rattle.std.proofs.Common.{◌≡◌, Some, ap, sym, subst, arith}
use Rattle.norm_base.specs.Settings.{Settings}
use Rattle.norm_send_rules.specs.Sending.{next_new, behind}
use Rattle.norm_sender.specs.declared.pace.Pace.{Pace}
use Rattle.norm_sender.specs.Inside.{kept_of}
use Rattle.norm_sender.proofs.NewLemmas.{next_valid, valid_on}
use Rattle.norm_sender.proofs.TickingLemmas.{new_sends, goes_on_stands}
use Rattle.norm_sender.proofs.parts.Parts.send_further.Goals as goal

pub send_want-requires : goal.send_want-requires
send_want-requires c =
    let r = c.requires in
    let k = kept_of c.args.self.now in
    let w = c.in-Some.want in
    let found : next_new k.p r.state ≡ Some w =
    subst (λ (q : Settings). next_new q r.state ≡ Some w) r.stands.window_profile
    (sym (c.in-Some.ensures.exact r.state r.stands.window (sym (ap (λ (q : Pace). q.next) r.stands.pace)))) in
    record {
      state = record (r.state) { next = behind w };
      stands = goes_on_stands k r.state w c.behind.result c.goes_on-self.result r.stands c.behind.ensures c.goes_on-self.ensures;
      valid = valid_on k.p r.state w (behind w) (next_valid k.p c.hold_range.ensures r.state w found);
    }

pub returns-clause-stands : goal.returns-clause-stands
returns-clause-stands c s h wants =
    let k = kept_of c.args.self.now in
    let w = c.in-Some.want in
    let found : next_new k.p s ≡ Some w =
    subst (λ (q : Settings). next_new q s ≡ Some w) h.window_profile
    (sym (c.in-Some.ensures.exact s h.window (sym (ap (λ (q : Pace). q.next) h.pace)))) in
    new_sends (kept_of c.send_want.new.self) c.send_want.new.out c.send_want.result k.p c.args.now w s found
    (c.send_want.ensures.stands (record s { next = behind w })
    (goes_on_stands k s w c.behind.result c.goes_on-self.result h c.behind.ensures c.goes_on-self.ensures)
    (valid_on k.p s w (behind w) (next_valid k.p c.hold_range.ensures s w found)) (omega arith))
