use Rattle.std.proofs.Common.{◌≡◌, ◌∙◌, refl, true}
use Rattle.norm_receive_rules.specs.Holding.{Plan}
use Rattle.norm_receive_rules.specs.Plans.{plan_of, says_stream}
use Rattle.norm_receive_rules.specs.StreamNeeds.{end_of, open_block}
use Rattle.norm_receiver.proofs.AskLemmas.{of_some, with_some}
use Rattle.norm_receiver.proofs.NeedLemmas.{cut_same, index_of_found}
use Rattle.norm_receiver.proofs.StreamLemmas.{end_found, stream_found, wants_are, wants_made, wants_without}
use Rattle.norm_receiver.proofs.stream_needs.stream_wants.Goals as goal

pub returns-clause-exact : goal.returns-clause-exact
returns-clause-exact c = λ s stands seen.
    with_some (plan_of s c.args.index) (λ found is.
    let stream : says_stream found.flags ≡ true = stream_found s c.args.index c.args.plan.now found is (c.requires.known.state s stands) c.requires.stream in
    let known : c.block_seen-seen.result ≡ found.seen =
    of_some (λ (x : Plan). says_stream x.flags ≡ true → c.block_seen-seen.result ≡ x.seen) (plan_of s c.args.index) found is (c.block_seen-seen.ensures.seen s stands seen) stream
    in
    wants_made _ _ _ _ _ _ _ _ c.stream_due.ensures.exact c.flush_run.ensures.exact c.end_run.ensures.exact c.rest_from.ensures.exact
    ∙ wants_without c.args.numbers.now.farthest c.args.numbers.now.flush c.args.index c.args.plan.now c.is_covered-covered.result c.is_behind-behind.result c.block_seen-seen.result
    c.flush_in-within.result c.end_of-end.result (end_of c.args.hold.now.p s found) c.open_block-least.result c.is_covered-covered.ensures c.is_behind-behind.ensures
    (λ e. end_found c.args.hold.now.p s c.args.index found c.end_of-end.result is stream (c.end_of-end.ensures.exact e s stands))
    ∙ wants_are c.args.hold.now.p c.args.numbers.now.farthest c.args.numbers.now.flush s c.args.index found c.args.plan.now c.is_covered-covered.result c.is_behind-behind.result c.block_seen-seen.result
    c.flush_in-within.result (end_of c.args.hold.now.p s found) c.open_block-least.result (index_of_found c.args.index s.plans found is) (cut_same c.args.plan.now (plan_of s c.args.index) found is (c.requires.known.state s stands))
    c.is_covered-covered.ensures c.is_behind-behind.ensures known c.flush_in-within.ensures.exact refl
    (of_some (λ (x : Plan). c.block_seen-seen.result ≡ x.seen → c.open_block-least.result ≡ open_block s x) (plan_of s c.args.index) found is (c.open_block-least.ensures s stands) known))
