use Rattle.std.proofs.Common.{◌≡◌, ◌∙◌, ap, sym, refl, true}
use Rattle.std.specs.Prelude.{◌&&◌}
use Rattle.norm_receive_rules.specs.Holding.{Plan}
use Rattle.norm_receive_rules.specs.Plans.{plan_of, says_stream}
use Rattle.norm_receiver.specs.Quiet.{is_nil}
use Rattle.norm_receiver.specs.Streams.{flush_run, missing_of, sources}
use Rattle.norm_receiver.proofs.AskLemmas.{of_some, with_some}
use Rattle.norm_receiver.proofs.StreamLemmas.{quiet_front, stream_found}
use Rattle.norm_receiver.proofs.stream_needs.is_quiet_to_flush.Goals as goal

pub returns-then-not-is_done_before : goal.returns-then-not-is_done_before
returns-then-not-is_done_before c = λ s stands seen.
    with_some (plan_of s c.args.index) (λ found is.
    let stream : says_stream found.flags ≡ true = stream_found s c.args.index c.args.plan.now found is (c.requires.known.state s stands) c.requires.stream in
    ap (λ b. b && is_nil (sources (missing_of s found (flush_run c.args.plan.now c.flush_in-within.result)))) (sym c.if-not-is_done_before.true)
    ∙ quiet_front c.args.hold.now.p c.args.numbers.now.farthest c.args.numbers.now.flush s c.args.index c.args.plan.now found c.block_seen.result c.stream_due-due.result
    c.flush_in-within.result c.is_done_before.result (is_nil (sources (missing_of s found (flush_run c.args.plan.now c.flush_in-within.result)))) is (c.requires.known.state s stands) c.requires.stream
    (of_some (λ (x : Plan). says_stream x.flags ≡ true → c.block_seen.result ≡ x.seen) (plan_of s c.args.index) found is (c.block_seen.ensures.seen s stands seen) stream)
    c.flush_in-within.ensures.exact c.stream_due-due.ensures.exact c.stream_due-due.ensures.block (c.is_done_before.ensures s stands) refl)

pub returns : goal.returns
returns c = λ s stands seen.
    with_some (plan_of s c.args.index) (λ found is.
    let stream : says_stream found.flags ≡ true = stream_found s c.args.index c.args.plan.now found is (c.requires.known.state s stands) c.requires.stream in
    ap (λ b. b && c.are_there.result) (sym c.if-not-is_done_before.false)
    ∙ quiet_front c.args.hold.now.p c.args.numbers.now.farthest c.args.numbers.now.flush s c.args.index c.args.plan.now found c.block_seen.result c.stream_due-due.result
    c.flush_in-within.result c.is_done_before.result c.are_there.result is (c.requires.known.state s stands) c.requires.stream
    (of_some (λ (x : Plan). says_stream x.flags ≡ true → c.block_seen.result ≡ x.seen) (plan_of s c.args.index) found is (c.block_seen.ensures.seen s stands seen) stream)
    c.flush_in-within.ensures.exact c.stream_due-due.ensures.exact c.stream_due-due.ensures.block (c.is_done_before.ensures s stands)
    (of_some (λ (x : Plan). c.are_there.result ≡ is_nil (sources (missing_of s x c.flush_run.result))) (plan_of s c.args.index) found is (c.are_there.ensures s stands)
    ∙ ap (λ run. is_nil (sources (missing_of s found run))) c.flush_run.ensures.exact))
