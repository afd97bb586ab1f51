use Rattle.std.proofs.Common.{ap, ◌∙◌}
use Rattle.norm_order.specs.Shapes.{shape_of, last_in}
use Rattle.norm_send_rules.specs.Room.{is_released}
use Rattle.tx_window.specs.EntryState.{reads_of}
use Rattle.tx_window.specs.EntryAsked.{is_sent}
use Rattle.tx_window.proofs.EntryObjects.{held_back, lets_go}
use Rattle.tx_window.proofs.entry.HeldEntry.may_go.Goals as goal

pub returns-then-not-is_released : goal.returns-then-not-is_released
returns-then-not-is_released c = λ ring object s is past.
    let p = c.args.profile.now in
    let shape = shape_of p object in
    held_back (is_sent s c.args.index shape) (is_released p s (last_in c.args.index shape)) c.is_released.result
    (c.is_released.ensures s past ∙ ap (is_released p s) (c.last-last.ensures (reads_of ring p c.args.index object s) is)) c.if-not-is_released.true

pub returns : goal.returns
returns c = λ ring object s is past.
    let p = c.args.profile.now in
    let shape = shape_of p object in
    lets_go c.is_sent.result (is_sent s c.args.index shape) (is_released p s (last_in c.args.index shape)) c.is_released.result
    (c.is_sent.ensures ring p c.args.index object s is)
    (c.is_released.ensures s past ∙ ap (is_released p s) (c.last-last.ensures (reads_of ring p c.args.index object s) is)) c.if-not-is_released.false
