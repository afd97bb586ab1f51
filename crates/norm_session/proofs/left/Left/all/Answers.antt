use Rattle.std.proofs.Common.{◌∙◌, ap}
use Rattle.norm_session.specs.Left.{lines_at}
use Rattle.norm_session.proofs.LeftLemmas.{all_more}
use Rattle.norm_session.proofs.left.Left.all.Goals as goal

pub loop-place-preserved : goal.loop-place-preserved
loop-place-preserved c =
    ap (lines_at c.args.lines.now) c.in_ok-push.ensures.items
    ∙ all_more c.args.lines.now c.loop-place.places.items c.loop-place.place c.loop-place-test.true c.loop-place.invariant
