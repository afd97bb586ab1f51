use Rattle.std.proofs.Common.{◌≡◌, ◌∙◌, ap, sym, subst, Option}
use Rattle.std.specs.Prelude.{IfSome}
use Rattle.fec_plan.specs.Points.{IsBlock}
use Rattle.norm_receive_rules.specs.Plans.{plan_of}
use Rattle.norm_receiver.specs.Quiet.{is_nil}
use Rattle.norm_receiver.specs.Streams.{missing_of, sources}
use Rattle.norm_receiver.specs.declared.stream_needs.Run.{Run}
use Rattle.norm_receiver.proofs.AskLemmas.{with_some}
use Rattle.norm_receiver.proofs.StreamLemmas.{nil_none}
use Rattle.norm_receiver.proofs.stream_needs.are_there.Goals as goal

pub returns-in-Some : goal.returns-in-Some
returns-in-Some c = λ s stands.
    subst (λ (run : Option Run). IfSome (plan_of s c.args.index) (λ found. c.is_there.result ≡ is_nil (sources (missing_of s found run)))) (sym c.in-Some.is) (c.is_there.ensures s stands)

pub returns-in-None : goal.returns-in-None
returns-in-None c = λ s stands. with_some (plan_of s c.args.index) (λ found is. nil_none ∙ ap (λ (run : Option Run). is_nil (sources (missing_of s found run))) (sym c.in-None.is))

pub is_there-requires : goal.is_there-requires
is_there-requires c = record {
  stream = c.requires.stream;
  block = subst (λ (run : Option Run). IfSome run (λ some. IsBlock some.block)) c.in-Some.is c.requires.block;
}
