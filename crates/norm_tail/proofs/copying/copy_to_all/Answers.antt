use Rattle.std.proofs.Common.{◌≡◌, ◌+◌, ◌≤◌, ◌∙◌, true, refl, sym, subst, append-nil, rules}
use Rattle.std.specs.Prelude.{fold}
use Rattle.norm_base.specs.Members.{is_node}
use Rattle.norm_base.specs.Settings.{Settings}
use Rattle.norm_safety.specs.Events.{Offered, Silent}
use Rattle.norm_tail.specs.Steps.{words_of}
use Rattle.norm_safety.specs.Tail.{comes, copy_comes, others_than}
use Rattle.norm_tail.proofs.CourseLemmas.{came}
use Rattle.norm_tail.proofs.PassLemmas.{copied_on, copied_stops, copied_all}
use Rattle.norm_world.proofs.WorldLemmas.{on_err}
use Rattle.norm_tail.proofs.copying.copy_to_all.Goals as goal

pub loop-i-init : goal.loop-i-init
loop-i-init c = record {
  ready = c.requires.ready;
  profile = refl;
  copies = λ x d here. record {
    course = comes x.p (Offered c.args.from c.args.bytes.now) d;
    here = came x d (Offered c.args.from c.args.bytes.now) (λ answer. answer ≡ Silent) c.args.world.now c.args.world.now c.args.steps.now.items
        c.args.steps.now.items c.args.draws.now refl c.offered.ensures (λ a fits. sym (append-nil c.args.steps.now.items)) here;
    whole_is = refl;
  };
}

pub copy_to-requires-clause-member : goal.copy_to-requires-clause-member
copy_to-requires-clause-member c =
    subst (λ (p : Settings). is_node p c.member.result ≡ true) (sym (c.loop-i.invariant.profile ∙ c.requires.profile)) c.member.ensures.member

pub returns-in_err-copy_to-clause-stops : goal.returns-in_err-copy_to-clause-stops
returns-in_err-copy_to-clause-stops c =
    on_err c.from_residual.result
    (λ x d here.
    copied_stops x c.args.profile.now c.args.now c.args.bytes.now c.args.from c.loop-i.i c.member.result
    (fold (copy_comes x.p (words_of x.draws) c.args.now c.args.bytes.now) (comes x.p (Offered c.args.from c.args.bytes.now) d) (others_than x.p c.args.from))
    c.loop-i.world c.copy_to.new.world c.loop-i.steps.items c.loop-i.draws (sym (c.loop-i.invariant.profile ∙ c.requires.profile)) c.member.ensures.place
    (λ e at. c.in_err-copy_to.ensures.stops x e at) (c.loop-i.invariant.copies x d here))

pub loop-i-preserved : goal.loop-i-preserved
loop-i-preserved c = record {
  ready = c.in_ok-copy_to.ensures.ready;
  profile = c.in_ok-copy_to.ensures.profile ∙ c.loop-i.invariant.profile;
  copies = λ x d here.
      copied_on x c.args.profile.now c.args.now c.args.bytes.now c.args.from c.loop-i.i c.member.result
      (fold (copy_comes x.p (words_of x.draws) c.args.now c.args.bytes.now) (comes x.p (Offered c.args.from c.args.bytes.now) d) (others_than x.p c.args.from))
      c.loop-i.world c.copy_to.new.world c.loop-i.steps.items c.copy_to.new.steps.items c.loop-i.draws c.copy_to.new.draws
      (sym (c.loop-i.invariant.profile ∙ c.requires.profile)) c.member.ensures.place (λ e at. c.in_ok-copy_to.ensures.goes x e at)
      (c.loop-i.invariant.copies x d here);
}

pub returns-clause-goes : goal.returns-clause-goes
returns-clause-goes c x d here =
    let past : c.args.profile.now.receivers + 1 ≤ c.loop-i.i = search rules in
    copied_all x c.args.profile.now c.args.now c.args.bytes.now c.args.from c.loop-i.i
    (fold (copy_comes x.p (words_of x.draws) c.args.now c.args.bytes.now) (comes x.p (Offered c.args.from c.args.bytes.now) d) (others_than x.p c.args.from))
    c.loop-i.world c.loop-i.steps.items c.loop-i.draws (sym (c.loop-i.invariant.profile ∙ c.requires.profile)) past (c.loop-i.invariant.copies x d here)
