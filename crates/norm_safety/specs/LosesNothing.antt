-- In hold mode no member reports a loss: only of a node that was struck a hand-up says that an object is lost.
use Rattle.std.specs.Prelude.{ℕ, ◌==◌, ◌||◌, not, List, flat_map, Bool, true, false, IsTrue}
use Rattle.std.specs.List.{list_all, list_any, AllByRecursion}
use Rattle.norm_base.specs.Settings.{Settings}
use Rattle.norm_base.specs.declared.kinds.Mode.TheVariants as mode
use Rattle.norm_order.specs.declared.up.Up.{Up}
use Rattle.norm_order.specs.declared.up.Up.TheVariants as up
use Rattle.norm_receive_rules.specs.ReceiverState.{ReceiverState}
use Rattle.norm_send_rules.specs.SenderState.{SenderState}
use Rattle.norm_safety.specs.DropsConfirmed.{InHold}
use Rattle.norm_safety.specs.Hands.{taken_in}
use Rattle.norm_safety.specs.History.{Happening, History}

-- all that was taken from a node, in whatever instance
abbrev pub taken_from : List Happening → ℕ → List Up
taken_from happened node = flat_map (λ (h : Happening). taken_in node h.event h.answer) happened

-- a hand-up reports a loss
abbrev pub is_loss : Up → Bool
is_loss (up.Lost index) = true
is_loss _ = false

-- a node was struck
abbrev pub was_struck : SenderState → ℕ → Bool
was_struck s node = list_any (λ other. other == node) s.struck

-- a node was struck, or reported no loss
abbrev pub lost_nothing : History → ReceiverState → Bool
lost_nothing h r = was_struck h.now.sender r.node || not (list_any is_loss (taken_from h.happened r.node))

-- in hold mode, each
abbrev pub LosesNothing : Settings → History → Type 0
LosesNothing p h = InHold p (AllByRecursion (λ (r : ReceiverState). IsTrue (lost_nothing h r)) h.now.receivers)

-- The same as a test.
abbrev pub loses_nothing : Settings → History → Bool
loses_nothing p h = elim p.mode [ mode.Hold ↦ list_all (lost_nothing h) h.now.receivers | mode.Drop ↦ true ]
