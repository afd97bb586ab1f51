use Rattle.std.proofs.Common.{◌≡◌, ◌∙◌, ap, true, sym, subst}
use Rattle.norm_base.specs.Members.{is_receiver}
use Rattle.norm_base.specs.Settings.{Settings}
use Rattle.norm_safety.specs.Events.{Ticked}
use Rattle.norm_sender.specs.SenderKept.{SenderKept}
use Rattle.norm_safety.specs.Tail.{takes, receiver_ticks}
use Rattle.norm_tail.proofs.CourseLemmas.{ticked}
use Rattle.norm_tail.proofs.ExtendLemmas.{stopped_later, comes_extends}
use Rattle.norm_world.proofs.WorldLemmas.{on_err}
use Rattle.norm_tail.proofs.handing.tick_receiver.Goals as goal

pub returns-in_err-take_all-clause-ready : goal.returns-in_err-take_all-clause-ready
returns-in_err-take_all-clause-ready c = ap (λ (s : SenderKept). s.window.filling) c.in_err-take_all.ensures.sender ∙ c.requires.ready

pub returns-in_err-take_all-clause-stops : goal.returns-in_err-take_all-clause-stops
returns-in_err-take_all-clause-stops c =
    on_err c.from_residual.result
    (λ g x d here.
    stopped_later x (takes x.p c.args.node d) (receiver_ticks x.p c.args.now d c.args.node) c.take_all.new.world (c.in_err-take_all.ensures.stops g x d here)
    (comes_extends x.p (Ticked c.args.node c.args.now) (takes x.p c.args.node d)))

pub tick_receiver-requires-clause-receiver : goal.tick_receiver-requires-clause-receiver
tick_receiver-requires-clause-receiver c =
    subst (λ (p : Settings). is_receiver p c.args.node ≡ true) (sym c.in_ok-take_all.ensures.profile) c.requires.receiver

pub returns-clause-ready : goal.returns-clause-ready
returns-clause-ready c =
    ap (λ (s : SenderKept). s.window.filling) (c.tick_receiver.ensures.sender ∙ c.in_ok-take_all.ensures.sender) ∙ c.requires.ready

pub returns-clause-goes : goal.returns-clause-goes
returns-clause-goes c g x d here =
    ticked x (takes x.p c.args.node d) c.args.node c.args.now c.take_all.new.world c.tick_receiver.new.self c.take_all.new.steps.items g
    c.tick_receiver.result c.tick_receiver.new.out c.tick_receiver.ensures.profile c.tick_receiver.ensures.event (c.in_ok-take_all.ensures.goes g x d here)
