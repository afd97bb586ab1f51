use Rattle.std.proofs.Common.{◌≡◌, ◌<◌, ◌≤◌, ◌-◌, ◌∙◌, true, refl, sym, subst, arith, rules}
use Rattle.norm_base.specs.Members.{is_receiver}
use Rattle.norm_base.specs.Settings.{Settings}
use Rattle.norm_safety.specs.Events.{UpTaken}
use Rattle.norm_safety.specs.Tail.{comes, untaken, takes}
use Rattle.norm_tail.proofs.CourseLemmas.{toward_start, toward_more, toward_end, toward_stops, untaken_times}
use Rattle.norm_tail.proofs.ExtendLemmas.{stopped_here}
use Rattle.norm_world.proofs.WorldLemmas.{on_err}
use Rattle.norm_tail.proofs.handing.take_all.Goals as goal

pub loop-init : goal.loop-init
loop-init c = record {
  profile = refl;
  sender = refl;
  takes = λ g x d here.
      let all : c.ups-end.result - 0 ≡ c.ups-end.result = omega arith in
      toward_start x (comes x.p (UpTaken c.args.node)) d (c.ups-end.result - 0) (untaken d.world c.args.node) c.args.world.now c.args.steps.now.items g
      (all ∙ untaken_times x d c.args.world.now c.args.steps.now.items g c.args.node c.receiver.result.now c.ups-end.result c.requires c.receiver.ensures
      c.ups-end.ensures.stands here) here;
}

pub take-requires : goal.take-requires
take-requires c = subst (λ (p : Settings). is_receiver p c.args.node ≡ true) (sym c.loop.invariant.profile) c.requires

pub are_taken-requires : goal.are_taken-requires
are_taken-requires c = subst (λ (p : Settings). is_receiver p c.args.node ≡ true) (sym c.loop.invariant.profile) c.requires

pub returns-in_err-take-clause-stops : goal.returns-in_err-take-clause-stops
returns-in_err-take-clause-stops c =
    let lt : c.loop.counter < c.ups-end.result = search rules in
    on_err c.from_residual.result
    (λ g x d here.
    toward_stops x (UpTaken c.args.node) c.ups-end.result c.loop.counter (takes x.p c.args.node d) c.loop.world c.take.new.world c.loop.steps.items g lt
    (λ e at. c.in_err-take.ensures.stops g x e at) (c.loop.invariant.takes g x d here))

pub loop-preserved : goal.loop-preserved
loop-preserved c =
    let lt : c.loop.counter < c.ups-end.result = search rules in
    record {
      profile = c.in_ok-take.ensures.profile ∙ c.loop.invariant.profile;
      sender = c.in_ok-take.ensures.sender ∙ c.loop.invariant.sender;
      takes = λ g x d here.
          toward_more x (comes x.p (UpTaken c.args.node)) c.ups-end.result c.loop.counter (takes x.p c.args.node d) c.loop.world c.take.new.world
          c.loop.steps.items c.take.new.steps.items g lt (λ e at. c.in_ok-take.ensures.goes g x e at) (c.loop.invariant.takes g x d here);
    }

pub returns-then-not-are_taken-clause-stops : goal.returns-then-not-are_taken-clause-stops
returns-then-not-are_taken-clause-stops c g x d here =
    let past : c.ups-end.result ≤ c.loop.counter = search rules in
    stopped_here x (takes x.p c.args.node d) c.loop.world c.loop.steps.items g
    (toward_end x (comes x.p (UpTaken c.args.node)) c.ups-end.result c.loop.counter (takes x.p c.args.node d) c.loop.world c.loop.steps.items g past
    (c.loop.invariant.takes g x d here))

pub returns-clause-goes : goal.returns-clause-goes
returns-clause-goes c g x d here =
    let past : c.ups-end.result ≤ c.loop.counter = search rules in
    toward_end x (comes x.p (UpTaken c.args.node)) c.ups-end.result c.loop.counter (takes x.p c.args.node d) c.loop.world c.loop.steps.items g past
    (c.loop.invariant.takes g x d here)
