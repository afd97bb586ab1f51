-- Taking what was handed up (RFC 5740 section 5.2), one by one in order.
use Rattle.std.specs.Prelude.{[], ◌∷◌, Option, None, Some}
use Rattle.norm_order.specs.declared.up.Up.{Up}
use Rattle.norm_receive_rules.specs.Holding.{Holding}
use Rattle.norm_receive_rules.specs.ReceiverState.{ReceiverState}

-- the next hand-up is taken of what is held, where one is left
abbrev pub up_taken : Holding → Holding × Option Up
up_taken s = elim s.ups [ up ∷ ups ↦ (record s { ups = ups }, Some up) | [] ↦ (s, None) ]

-- the next hand-up is taken
abbrev pub took : ReceiverState → ReceiverState × Option Up
took s = let step = up_taken s.holding in (record s { holding = step.0 }, step.1)
