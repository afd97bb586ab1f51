use Rattle.std.proofs.Common.{ℕ, subst, ◌∙◌, Option}
use Rattle.norm_send_rules.specs.Sending.{noted}
use Rattle.norm_send_rules.specs.declared.want.Want.TheVariants.{Symbol}
use Rattle.tx_window.specs.Asked.{AnswersAt}
use Rattle.tx_window.proofs.LawLemmas.{may_note}
use Rattle.tests_sender_parts.proofs.window_steps.Standing.send.Goals as goal

pub note_sent-requires : goal.note_sent-requires
note_sent-requires c =
    let w = c.self.inside.window in
    let s = c.self.invariant.state in
    may_note w s c.args.at c.clear.new.self c.symbol.new.out c.in-Some.octets c.self.invariant.stands
    (subst (λ (r : Option ℕ). AnswersAt w.p s c.args.at c.clear.new.self c.symbol.new.out r) c.in-Some.is (c.symbol.ensures s c.self.invariant.stands))

pub invariant_of-self : goal.invariant_of-self
invariant_of-self c = record {
  state = noted (Symbol c.args.at) c.self.invariant.state;
  stands = c.note_sent.ensures.stands c.self.invariant.state c.self.invariant.stands;
  filling = c.note_sent.ensures.filling ∙ c.self.invariant.filling;
}
