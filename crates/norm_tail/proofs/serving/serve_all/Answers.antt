use Rattle.std.proofs.Common.{◌≡◌, ◌≤◌, ◌∙◌, true, refl, sym, subst, rules}
use Rattle.std.specs.Prelude.{fold}
use Rattle.norm_base.specs.Members.{is_receiver, receivers_of}
use Rattle.norm_base.specs.Settings.{Settings}
use Rattle.norm_tail.specs.Steps.{words_of}
use Rattle.norm_safety.specs.Tail.{serves}
use Rattle.norm_tail.proofs.PassLemmas.{served_on, served_stops, served_all}
use Rattle.norm_world.proofs.WorldLemmas.{on_err}
use Rattle.norm_tail.proofs.serving.serve_all.Goals as goal

pub loop-i-init : goal.loop-i-init
loop-i-init c = record {
  ready = c.requires.ready;
  profile = refl;
  serves = λ x d here. record { course = d; here = here; whole_is = refl };
}

pub serve-requires-clause-profile : goal.serve-requires-clause-profile
serve-requires-clause-profile c = c.loop-i.invariant.profile ∙ c.requires.profile

pub serve-requires-clause-receiver : goal.serve-requires-clause-receiver
serve-requires-clause-receiver c =
    subst (λ (p : Settings). is_receiver p c.receiver.result ≡ true) (sym (c.loop-i.invariant.profile ∙ c.requires.profile)) c.receiver.ensures.receiver

pub returns-in_err-serve-clause-stops : goal.returns-in_err-serve-clause-stops
returns-in_err-serve-clause-stops c =
    on_err c.from_residual.result
    (λ x d here.
    served_stops x c.args.profile.now c.args.now c.loop-i.i c.receiver.result (fold (serves x.p (words_of x.draws) c.args.now) d (receivers_of x.p x.p.receivers))
    c.loop-i.world c.serve.new.world c.loop-i.steps.items c.loop-i.draws (sym (c.loop-i.invariant.profile ∙ c.requires.profile)) c.receiver.ensures.place
    (λ e at. c.in_err-serve.ensures.stops x e at) (c.loop-i.invariant.serves x d here))

pub loop-i-preserved : goal.loop-i-preserved
loop-i-preserved c = record {
  ready = c.in_ok-serve.ensures.ready;
  profile = c.in_ok-serve.ensures.profile ∙ c.loop-i.invariant.profile;
  serves = λ x d here.
      served_on x c.args.profile.now c.args.now c.loop-i.i c.receiver.result (fold (serves x.p (words_of x.draws) c.args.now) d (receivers_of x.p x.p.receivers))
      c.loop-i.world c.serve.new.world c.loop-i.steps.items c.serve.new.steps.items c.loop-i.draws c.serve.new.draws
      (sym (c.loop-i.invariant.profile ∙ c.requires.profile)) c.receiver.ensures.place (λ e at. c.in_ok-serve.ensures.goes x e at)
      (c.loop-i.invariant.serves x d here);
}

pub returns-clause-goes : goal.returns-clause-goes
returns-clause-goes c x d here =
    let past : c.args.profile.now.receivers ≤ c.loop-i.i = search rules in
    served_all x c.args.profile.now c.args.now c.loop-i.i (fold (serves x.p (words_of x.draws) c.args.now) d (receivers_of x.p x.p.receivers)) c.loop-i.world
    c.loop-i.steps.items c.loop-i.draws (sym (c.loop-i.invariant.profile ∙ c.requires.profile)) past (c.loop-i.invariant.serves x d here)
