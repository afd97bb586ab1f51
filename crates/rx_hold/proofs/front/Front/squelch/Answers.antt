use Rattle.std.proofs.Common.{sym, subst, arith}
use Rattle.norm_base.specs.Settings.{Settings}
use Rattle.fec_plan.specs.Points.{point}
use Rattle.norm_receive_rules.specs.Losing.{squelched}
use Rattle.rx_hold.specs.EntryHold.{EntryHold, StandsFor}
use Rattle.rx_hold.specs.FrontSound.{front_view}
use Rattle.rx_hold.proofs.front.Front.squelch.Goals as goal

pub lose_before-requires-clause-room : goal.lose_before-requires-clause-room
lose_before-requires-clause-room c =
    let held = c.in_ok-reserve.ensures in
    omega (arith, c.saturating_sub-gap.ensures, held.room, held.point)

pub returns-clause-state : goal.returns-clause-state
returns-clause-state c = λ s stands.
    let held = c.in_ok-reserve.ensures in
    subst (λ (p : Settings). StandsFor (front_view c.lose_before.new.self) (squelched p (point c.args.index c.args.block) s)) held.profile
    (c.lose_before.ensures.state s (subst (λ (h : EntryHold). StandsFor h s) (sym held.view) stands))
