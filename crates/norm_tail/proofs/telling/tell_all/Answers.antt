use Rattle.std.proofs.Common.{◌≡◌, ◌<◌, ◌≤◌, ◌-◌, ◌∙◌, refl, arith, rules}
use Rattle.norm_safety.specs.Events.{NewsAsked}
use Rattle.norm_safety.specs.Tail.{comes, untold, tells}
use Rattle.norm_tail.proofs.CourseLemmas.{toward_start, toward_more, toward_end, toward_stops, untold_times}
use Rattle.norm_world.proofs.WorldLemmas.{on_err}
use Rattle.norm_tail.proofs.telling.tell_all.Goals as goal

pub loop-init : goal.loop-init
loop-init c = record {
  ready = c.requires;
  profile = refl;
  tells = λ g x d here.
      let all : c.untold-end.result - 0 ≡ c.untold-end.result = omega arith in
      toward_start x (comes x.p NewsAsked) d (c.untold-end.result - 0) (untold d.world.sender) c.args.world.now c.args.steps.now.items g
      (all ∙ untold_times x d c.args.world.now c.args.steps.now.items g c.sender.result.now c.untold-end.result c.sender.ensures c.untold-end.ensures here) here;
}

pub returns-in_err-tell-clause-stops : goal.returns-in_err-tell-clause-stops
returns-in_err-tell-clause-stops c =
    let lt : c.loop.counter < c.untold-end.result = search rules in
    on_err c.from_residual.result
    (λ g x d here.
    toward_stops x NewsAsked c.untold-end.result c.loop.counter (tells x.p d) c.loop.world c.tell.new.world c.loop.steps.items g lt
    (λ e at. c.in_err-tell.ensures.stops g x e at) (c.loop.invariant.tells g x d here))

pub loop-preserved : goal.loop-preserved
loop-preserved c =
    let lt : c.loop.counter < c.untold-end.result = search rules in
    record {
      ready = c.in_ok-tell.ensures.ready;
      profile = c.in_ok-tell.ensures.profile ∙ c.loop.invariant.profile;
      tells = λ g x d here.
          toward_more x (comes x.p NewsAsked) c.untold-end.result c.loop.counter (tells x.p d) c.loop.world c.tell.new.world c.loop.steps.items
          c.tell.new.steps.items g lt (λ e at. c.in_ok-tell.ensures.goes g x e at) (c.loop.invariant.tells g x d here);
    }

pub returns-clause-goes : goal.returns-clause-goes
returns-clause-goes c g x d here =
    let past : c.untold-end.result ≤ c.loop.counter = search rules in
    toward_end x (comes x.p NewsAsked) c.untold-end.result c.loop.counter (tells x.p d) c.loop.world c.loop.steps.items g past
    (c.loop.invariant.tells g x d here)
