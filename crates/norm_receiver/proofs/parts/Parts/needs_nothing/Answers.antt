use Rattle.std.proofs.Common.{ap, ◌∙◌}
use Rattle.norm_base.specs.Settings.{Settings}
use Rattle.norm_receive_rules.specs.AllNeeds.{needs_by}
use Rattle.norm_receiver.specs.Quiet.{is_nil}
use Rattle.norm_receiver.specs.declared.numbers.Numbers.{Numbers}
use Rattle.norm_receiver.proofs.parts.Parts.needs_nothing.Goals as goal

pub returns : goal.returns
returns c = λ s stands.
    c.is_all_quiet.ensures s.holding stands.hold stands.seen
    ∙ ap (λ (p : Settings). is_nil (needs_by p c.args.self.now.numbers.farthest c.args.self.now.numbers.flush s.holding)) stands.profile
    ∙ ap (λ (n : Numbers). is_nil (needs_by c.args.self.now.profile n.farthest n.flush s.holding)) stands.numbers
