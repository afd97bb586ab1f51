use Rattle.std.proofs.Common.{◌≡◌, ◌+◌, ◌-◌, ◌*◌, ◌<◌, ◌≤◌, refl, ap, sym, subst, ◌∙◌, arith, rules}
use Rattle.norm_base.specs.Settings.{Settings}
use Rattle.norm_tail.specs.Steps.{words_of}
use Rattle.norm_safety.specs.Tail.{tail_until}
use Rattle.norm_tail.proofs.TurnLemmas.{turned_on, turn_stops, turned_done, turned_all, next_fits, this_fits}
use Rattle.norm_world.proofs.WorldLemmas.{on_err}
use Rattle.norm_tail.proofs.turning.turns_until.Goals as goal

pub loop-turns-init : goal.loop-turns-init
loop-turns-init c =
    let all : c.args.bound ≡ c.args.bound - 0 = omega arith in
    record {
      ready = c.requires.ready;
      profile = refl;
      within = omega arith;
      fits = subst (λ n. c.args.last + n * c.args.profile.now.step < 18446744073709551616) all c.requires.fits;
      counting = λ x t none last here. record {
        turning = record {
          tail = t;
          here = here;
          last = last;
          whole_is = ap (λ n. tail_until n x.p (words_of x.draws) c.args.mark t) (sym all);
        };
        count = none;
      };
    }

pub returns-then-not-is_open-clause-goes : goal.returns-then-not-is_open-clause-goes
returns-then-not-is_open-clause-goes c x t none last here =
    turned_done x c.args.mark (c.args.bound - c.loop-turns.turns) c.loop-turns.turns c.loop-turns.now
    (tail_until c.args.bound x.p (words_of x.draws) c.args.mark t) c.loop-turns.world c.loop-turns.steps.items c.loop-turns.draws
    (λ e at. sym (c.is_open.ensures e.world at.stands) ∙ c.if-not-is_open.true) (c.loop-turns.invariant.counting x t none last here)

pub later-now-requires : goal.later-now-requires
later-now-requires c =
    let lt : c.loop-turns.turns < c.args.bound = search rules in
    this_fits c.loop-turns.now c.args.profile.now.step c.args.bound c.loop-turns.turns 18446744073709551616 lt c.loop-turns.invariant.fits

pub turn-requires-clause-profile : goal.turn-requires-clause-profile
turn-requires-clause-profile c = c.loop-turns.invariant.profile ∙ c.requires.profile

pub returns-in_err-turn-clause-stops : goal.returns-in_err-turn-clause-stops
returns-in_err-turn-clause-stops c =
    let lt : c.loop-turns.turns < c.args.bound = search rules in
    on_err c.from_residual.result
    (λ x t none last here.
    turn_stops x c.args.mark c.args.bound c.loop-turns.turns c.loop-turns.now c.later-now.result
    (tail_until c.args.bound x.p (words_of x.draws) c.args.mark t) c.loop-turns.world c.turn.new.world c.loop-turns.steps.items c.loop-turns.draws lt
    (c.later-now.ensures ∙ ap (λ (p : Settings). c.loop-turns.now + p.step) (sym (c.loop-turns.invariant.profile ∙ c.requires.profile)))
    (λ e at. sym (c.is_open.ensures e.world at.stands) ∙ c.if-not-is_open.false) (λ e at. c.in_err-turn.ensures.stops x e at)
    (c.loop-turns.invariant.counting x t none last here))

pub loop-turns-preserved : goal.loop-turns-preserved
loop-turns-preserved c =
    let lt : c.loop-turns.turns < c.args.bound = search rules in
    record {
      ready = c.in_ok-turn.ensures.ready;
      profile = c.in_ok-turn.ensures.profile ∙ c.loop-turns.invariant.profile;
      within = omega (arith, lt);
      fits = subst (λ n. n + (c.args.bound - (c.loop-turns.turns + 1)) * c.args.profile.now.step < 18446744073709551616) (sym c.later-now.ensures)
          (next_fits c.loop-turns.now c.args.profile.now.step c.args.bound c.loop-turns.turns 18446744073709551616 lt c.loop-turns.invariant.fits);
      counting = λ x t none last here.
          turned_on x c.args.mark c.args.bound c.loop-turns.turns c.loop-turns.now c.later-now.result
          (tail_until c.args.bound x.p (words_of x.draws) c.args.mark t) c.loop-turns.world c.turn.new.world c.loop-turns.steps.items c.turn.new.steps.items c.loop-turns.draws c.turn.new.draws lt
          (c.later-now.ensures ∙ ap (λ (p : Settings). c.loop-turns.now + p.step) (sym (c.loop-turns.invariant.profile ∙ c.requires.profile)))
          (λ e at. sym (c.is_open.ensures e.world at.stands) ∙ c.if-not-is_open.false) (λ e at. c.in_ok-turn.ensures.goes x e at)
          (c.loop-turns.invariant.counting x t none last here);
    }

pub returns-clause-goes : goal.returns-clause-goes
returns-clause-goes c x t none last here =
    let past : c.args.bound ≤ c.loop-turns.turns = search rules in
    turned_all x c.args.mark c.args.bound c.loop-turns.turns c.loop-turns.now
    (tail_until c.args.bound x.p (words_of x.draws) c.args.mark t) c.loop-turns.world c.loop-turns.steps.items c.loop-turns.draws past c.loop-turns.invariant.within
    (c.loop-turns.invariant.counting x t none last here)
