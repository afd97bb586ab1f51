use Rattle.std.proofs.Common.{◌∙◌, ap, length, arith}
use Rattle.norm_send_rules.specs.SenderState.{sender_opening}
use Rattle.norm_sender.specs.SenderKept.{SenderKept}
use Rattle.norm_sender.proofs.SenderLemmas.{receivers_count, sound_standing, begins}
use Rattle.norm_sender.proofs.sender.Sender.new.Goals as goal

pub new-requires-2-clause-some : goal.new-requires-2-clause-some
new-requires-2-clause-some c =
    let p = c.args.profile.now in
    let many = ap length (c.deref.ensures.value ∙ c.in_ok-nodes.ensures) ∙ receivers_count p p.receivers in
    omega (arith, many, c.hold_range.ensures.receivers.0)

pub new-requires-2-clause-few : goal.new-requires-2-clause-few
new-requires-2-clause-few c =
    let p = c.args.profile.now in
    let many = ap length (c.deref.ensures.value ∙ c.in_ok-nodes.ensures) ∙ receivers_count p p.receivers in
    omega (arith, many, c.hold_range.ensures.receivers.1)

pub invariant_of-result : goal.invariant_of-result
invariant_of-result c =
    let p = c.args.profile.now in
    let k : SenderKept = record { p = p; window = c.in_ok-window.window; union = c.new-union.result; book = c.in_ok-book.book; pace = c.begun.result } in
    sound_standing k (sender_opening p c.args.instance)
    (begins k c.args.instance c.hold_range.ensures c.in_ok-window.ensures.profile c.in_ok-window.ensures.finished c.new-union.ensures.empty
    (c.in_ok-window.ensures.begun c.args.instance) (c.new-union.ensures.begun c.args.instance)
    (c.in_ok-book.ensures.stands p c.args.instance (c.deref.ensures.value ∙ c.in_ok-nodes.ensures)) (c.begun.ensures p))

pub returns-clause-stands : goal.returns-clause-stands
returns-clause-stands c =
    let p = c.args.profile.now in
    begins
    (record { p = p; window = c.in_ok-window.window; union = c.new-union.result; book = c.in_ok-book.book; pace = c.begun.result })
    c.args.instance c.hold_range.ensures c.in_ok-window.ensures.profile c.in_ok-window.ensures.finished c.new-union.ensures.empty
    (c.in_ok-window.ensures.begun c.args.instance) (c.new-union.ensures.begun c.args.instance)
    (c.in_ok-book.ensures.stands p c.args.instance (c.deref.ensures.value ∙ c.in_ok-nodes.ensures)) (c.begun.ensures p)
