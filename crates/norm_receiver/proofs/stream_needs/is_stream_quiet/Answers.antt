use Rattle.std.proofs.Common.{◌≡◌, ◌∙◌, ap, sym, refl}
use Rattle.std.specs.Prelude.{◌&&◌, is_none}
use Rattle.norm_receive_rules.specs.Holding.{Plan}
use Rattle.norm_receive_rules.specs.Plans.{plan_of}
use Rattle.norm_receiver.specs.Quiet.{is_nil}
use Rattle.norm_receiver.specs.Streams.{is_quiet_to_flush, missing_of, sources, wants_of}
use Rattle.norm_receiver.proofs.AskLemmas.{of_some, with_some}
use Rattle.norm_receiver.proofs.StreamLemmas.{quiet_behind}
use Rattle.norm_receiver.proofs.stream_needs.is_stream_quiet.Goals as goal

pub returns-then-not-is_quiet_to_flush : goal.returns-then-not-is_quiet_to_flush
returns-then-not-is_quiet_to_flush c = λ s stands seen.
    with_some (plan_of s c.args.index) (λ found is.
    let wants = wants_of c.args.hold.now.p c.args.numbers.now.farthest c.args.numbers.now.flush s found in
    ap (λ b. b && (is_nil (sources (missing_of s found wants.ended)) && is_none wants.rest)) (sym c.if-not-is_quiet_to_flush.true)
    ∙ quiet_behind c.args.hold.now c.args.numbers.now.farthest c.args.numbers.now.flush s c.args.index found wants c.is_quiet_to_flush.result (is_nil (sources (missing_of s found wants.ended)))
    stands is refl
    (of_some (λ (x : Plan). c.is_quiet_to_flush.result ≡ is_quiet_to_flush s x (wants_of c.args.hold.now.p c.args.numbers.now.farthest c.args.numbers.now.flush s x)) (plan_of s c.args.index) found is
    (c.is_quiet_to_flush.ensures s stands seen)) refl)

pub returns-then-not-are_there : goal.returns-then-not-are_there
returns-then-not-are_there c = λ s stands seen.
    with_some (plan_of s c.args.index) (λ found is.
    ap (λ b. b && is_none c.stream_wants-wants.result.rest) (sym c.if-not-are_there.true)
    ∙ ap (λ b. b && (c.are_there.result && is_none c.stream_wants-wants.result.rest)) (sym c.if-not-is_quiet_to_flush.false)
    ∙ quiet_behind c.args.hold.now c.args.numbers.now.farthest c.args.numbers.now.flush s c.args.index found c.stream_wants-wants.result c.is_quiet_to_flush.result c.are_there.result
    stands is
    (of_some (λ (x : Plan). c.stream_wants-wants.result ≡ wants_of c.args.hold.now.p c.args.numbers.now.farthest c.args.numbers.now.flush s x) (plan_of s c.args.index) found is (c.stream_wants-wants.ensures.exact s stands seen))
    (of_some (λ (x : Plan). c.is_quiet_to_flush.result ≡ is_quiet_to_flush s x (wants_of c.args.hold.now.p c.args.numbers.now.farthest c.args.numbers.now.flush s x)) (plan_of s c.args.index) found is
    (c.is_quiet_to_flush.ensures s stands seen))
    (of_some (λ (x : Plan). c.are_there.result ≡ is_nil (sources (missing_of s x c.stream_wants-wants.result.ended))) (plan_of s c.args.index) found is (c.are_there.ensures s stands)))

pub returns : goal.returns
returns c = λ s stands seen.
    with_some (plan_of s c.args.index) (λ found is.
    c.is_nowhere.ensures ∙ ap (λ b. b && is_none c.stream_wants-wants.result.rest) (sym c.if-not-are_there.false)
    ∙ ap (λ b. b && (c.are_there.result && is_none c.stream_wants-wants.result.rest)) (sym c.if-not-is_quiet_to_flush.false)
    ∙ quiet_behind c.args.hold.now c.args.numbers.now.farthest c.args.numbers.now.flush s c.args.index found c.stream_wants-wants.result c.is_quiet_to_flush.result c.are_there.result
    stands is
    (of_some (λ (x : Plan). c.stream_wants-wants.result ≡ wants_of c.args.hold.now.p c.args.numbers.now.farthest c.args.numbers.now.flush s x) (plan_of s c.args.index) found is (c.stream_wants-wants.ensures.exact s stands seen))
    (of_some (λ (x : Plan). c.is_quiet_to_flush.result ≡ is_quiet_to_flush s x (wants_of c.args.hold.now.p c.args.numbers.now.farthest c.args.numbers.now.flush s x)) (plan_of s c.args.index) found is
    (c.is_quiet_to_flush.ensures s stands seen))
    (of_some (λ (x : Plan). c.are_there.result ≡ is_nil (sources (missing_of s x c.stream_wants-wants.result.ended))) (plan_of s c.args.index) found is (c.are_there.ensures s stands)))
