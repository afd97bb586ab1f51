use Rattle.std.proofs.Common.{◌∙◌, ap, sym, subst, Option}
use Rattle.std.specs.Prelude.{IfSome}
use Rattle.fec_plan.specs.Points.{IsBlock}
use Rattle.norm_receive_rules.specs.HeardNeeds.{is_heard}
use Rattle.norm_receive_rules.specs.Plans.{plan_of}
use Rattle.norm_receiver.specs.Streams.{missing_of, sources}
use Rattle.norm_receiver.specs.Walking.{Walked, IsAt, walk_on}
use Rattle.norm_receiver.specs.declared.stream_needs.Run.{Run}
use Rattle.norm_receiver.proofs.AskLemmas.{with_some}
use Rattle.norm_receiver.proofs.StreamLemmas.{walk_no_sources}
use Rattle.norm_receiver.proofs.parts.Parts.ask_missing.Goals as goal

pub returns-in-Some-clause-walked : goal.returns-in-Some-clause-walked
returns-in-Some-clause-walked c = λ s front w stands at.
    subst (λ (run : Option Run). IfSome (plan_of s.holding c.args.index) (λ found.
    IsAt c.args.self.now.profile (is_heard s.knows.heard s.holding) c.ask_run.new.asking c.ask_run.new.out front (walk_on c.args.self.now.profile (sources (missing_of s.holding found run)) w)))
    (sym c.in-Some.is) (c.ask_run.ensures.walked s front w stands at)

pub returns-in-None-clause-walked : goal.returns-in-None-clause-walked
returns-in-None-clause-walked c = λ s front w stands at.
    with_some (plan_of s.holding c.args.index) (λ found is.
    subst (λ (v : Walked). IsAt c.args.self.now.profile (is_heard s.knows.heard s.holding) c.args.asking.now c.args.out.now front v)
    (sym (ap (λ (run : Option Run). walk_on c.args.self.now.profile (sources (missing_of s.holding found run)) w) c.in-None.is ∙ walk_no_sources c.args.self.now.profile w)) at)

pub ask_run-requires : goal.ask_run-requires
ask_run-requires c = record {
  stream = c.requires.stream;
  block = subst (λ (run : Option Run). IfSome run (λ some. IsBlock some.block)) c.in-Some.is c.requires.block;
  room = c.requires.room;
}
