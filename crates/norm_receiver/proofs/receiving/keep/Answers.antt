use Rattle.std.proofs.Common.{◌∙◌}
use Rattle.norm_receiver.proofs.SeenLemmas.{kept_seen}
use Rattle.norm_receiver.proofs.receiving.keep.Goals as goal

pub returns-clause-state : goal.returns-clause-state
returns-clause-state c = λ s stands.
    kept_seen c.args.hold.now.p c.see_brought.new.hold.p c.args.index c.args.brought.now c.advance.new.self s (c.see_brought.ensures.profile ∙ c.put_brought.ensures.profile)
    (c.advance.ensures.state _ (c.see_brought.ensures.state _ (c.in_ok-put_brought.ensures.state s stands)))
