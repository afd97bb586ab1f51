use Rattle.std.proofs.Common.{◌≡◌, ◌∙◌, ◌+◌, ◌<◌, ◌≤◌, sym, ap, drop, rules}
use Rattle.std.proofs.lemmas.Result.{err_from_is_err_and}
use Rattle.norm_journal.specs.Places.{handing}
use Rattle.norm_turns.specs.Causes.{Counted}
use Rattle.norm_session.specs.RunKept.{RunKept}
use Rattle.norm_turns.proofs.FaultLemmas.{at_fault}
use Rattle.norm_session.proofs.ServingLemmas.{none_served, next_served, all_served}
use Rattle.norm_session.proofs.run.Run.serve_all.Goals as goal

pub returns-then-self-clause-goes : goal.returns-then-self-clause-goes
returns-then-self-clause-goes g c x here =
    none_served x c.args.self.now _ _ (sym (ap (λ (r : RunKept). r.alone) c.self.view_is) ∙ c.if-self.true) here

pub returns-in_err-serve-clause-stops : goal.returns-in_err-serve-clause-stops
returns-in_err-serve-clause-stops g c =
    let exit = err_from_is_err_and c.from_residual.result c.from_residual.ensures.1 in
    let under = ap (λ (r : RunKept). r.p) c.self.view_is in
    let present = sym (ap (λ (r : RunKept). r.alone) c.self.view_is) ∙ c.if-self.false in
    let lt : c.loop-i.i < c.self.inside.profile.receivers = search rules in
    let is : c.receiver.result ≡ c.self.inside.profile.sender + 1 + c.loop-i.i = c.receiver.ensures in
    at_fault _ c.from_residual.result exit.0 c.in_err-serve.field-0.0 exit.1 exit.2
    (λ x here.
    c.in_err-serve.ensures.stops x (drop (c.loop-i.i + 1) x.nodes)
    (next_served x c.args.self.now c.loop-i.self c.self.inside.profile c.loop-i.i c.receiver.result (handing x.nodes) _ _ _ _ under present lt is here
    (c.loop-i.invariant.serves x here)).here)

pub loop-i-preserved : goal.loop-i-preserved
loop-i-preserved g c =
    let under = ap (λ (r : RunKept). r.p) c.self.view_is in
    let present = sym (ap (λ (r : RunKept). r.alone) c.self.view_is) ∙ c.if-self.false in
    let lt : c.loop-i.i < c.self.inside.profile.receivers = search rules in
    let is : c.receiver.result ≡ c.self.inside.profile.sender + 1 + c.loop-i.i = c.receiver.ensures in
    record {
      serves = λ x here.
          let next =
          next_served x c.args.self.now c.loop-i.self c.self.inside.profile c.loop-i.i c.receiver.result (handing x.nodes) _ _ _ _ under present lt is here
          (c.loop-i.invariant.serves x here) in
          c.in_ok-serve.ensures.goes x (drop (c.loop-i.i + 1) x.nodes) next.receiver next.here;
      writes = ap (λ (k : Counted). k.output) (c.in_ok-serve.ensures.cause 0) ∙ c.loop-i.invariant.writes;
      calls = ap (λ (k : Counted). k.network) (c.in_ok-serve.ensures.cause 0) ∙ c.loop-i.invariant.calls;
    }

pub returns-clause-goes : goal.returns-clause-goes
returns-clause-goes g c x here =
    let under = ap (λ (r : RunKept). r.p) c.self.view_is in
    let present = sym (ap (λ (r : RunKept). r.alone) c.self.view_is) ∙ c.if-self.false in
    let past : c.self.inside.profile.receivers ≤ c.loop-i.i = search rules in
    all_served x c.args.self.now c.loop-i.self c.self.inside.profile c.loop-i.i (handing x.nodes) _ _ _ _ under present past here
    (c.loop-i.invariant.serves x here)
