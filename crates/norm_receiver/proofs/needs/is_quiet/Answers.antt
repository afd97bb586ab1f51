use Rattle.std.proofs.Common.{sym, ◌∙◌, true, false}
use Rattle.norm_receiver.proofs.NeedLemmas.{quiet_no_flags, quiet_no_info, quiet_rest}
use Rattle.norm_receiver.proofs.StreamLemmas.{stream_in}
use Rattle.norm_receiver.proofs.needs.is_quiet.Goals as goal

pub returns-in_default : goal.returns-in_default
returns-in_default c = λ s stands seen.
    quiet_no_flags c.args.hold.now.p c.args.numbers.now.farthest c.args.numbers.now.flush s c.args.index c.is_covered-covered.result c.is_covered-covered.ensures
    (c.in_default.ensures.state s stands)

pub returns-then-lacks_info : goal.returns-then-lacks_info
returns-then-lacks_info c = λ s stands seen.
    quiet_no_info c.args.hold.now.p c.args.numbers.now.farthest c.args.numbers.now.flush s c.args.index c.in-Some.flags c.is_covered-covered.result c.lacks_info.result c.is_covered-covered.ensures
    (c.in-Some.ensures.state s stands) (c.lacks_info.ensures s stands) c.if-lacks_info.true

pub returns-then-is_stream : goal.returns-then-is_stream
returns-then-is_stream c = λ s stands seen.
    quiet_rest c.args.hold.now.p c.args.numbers.now.farthest c.args.numbers.now.flush s c.args.index c.in-Some.flags c.is_covered-covered.result c.lacks_info.result true
    c.is_stream_quiet.result c.is_covered-covered.ensures (c.in-Some.ensures.state s stands) (sym c.if-is_stream.true ∙ c.is_stream.ensures) (c.lacks_info.ensures s stands) c.if-lacks_info.false
    (c.is_stream_quiet.ensures s stands seen)

pub returns : goal.returns
returns c = λ s stands seen.
    quiet_rest c.args.hold.now.p c.args.numbers.now.farthest c.args.numbers.now.flush s c.args.index c.in-Some.flags c.is_covered-covered.result c.lacks_info.result false
    c.is_object_quiet.result c.is_covered-covered.ensures (c.in-Some.ensures.state s stands) (sym c.if-is_stream.false ∙ c.is_stream.ensures) (c.lacks_info.ensures s stands) c.if-lacks_info.false
    (c.is_object_quiet.ensures s stands)

pub is_stream_quiet-requires : goal.is_stream_quiet-requires
is_stream_quiet-requires c = record {
  known = record { held = sym c.in-Some-plan.ensures.exact; state = c.in-Some-plan.ensures.state };
  stream = stream_in c.args.hold.now c.args.index c.in-Some.flags c.in-Some-plan.plan c.in-Some.ensures.exact c.in-Some-plan.ensures.exact (sym c.if-is_stream.true ∙ c.is_stream.ensures);
  reached = c.requires;
}
