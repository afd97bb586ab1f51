-- What a round asks for, and what its closing does for members.
use Rattle.std.specs.Prelude.{◌≡◌, ◌<◌, ◌==◌, ◌&&◌, ◌||◌, Contains, List, length, nat_lt, Bool, true, false, not}
use Rattle.std.specs.List.{list_all, list_any}
use Rattle.norm_base.specs.Settings.{Settings, InRange}
use Rattle.fec_plan.specs.Points.{point_of, same_point, same_position}
use Rattle.norm_ext.specs.Asking.{Count}
use Rattle.norm_order.specs.Shapes.{Shape}
use Rattle.norm_receive_rules.specs.ReceiverState.{ReceiverState}
use Rattle.norm_send_rules.specs.Asking.{wants_of, counts_of}
use Rattle.norm_send_rules.specs.Closing.{round_closed}
use Rattle.norm_send_rules.specs.InWindow.{current_shapes}
use Rattle.norm_send_rules.specs.SenderState.{SenderState, Asked, Round}
use Rattle.norm_send_rules.specs.Watermarks.{has_member}
use Rattle.norm_send_rules.specs.declared.want.Want.{Want}
use Rattle.norm_send_rules.specs.declared.want.Want.TheVariants.{Info, Symbol}
use Rattle.norm_safety.specs.Events.{Event}
use Rattle.norm_safety.specs.Jobs.{AreEvents}
use Rattle.norm_safety.specs.Lawful.{Lawful}
use Rattle.norm_safety.specs.World.{World}
use Rattle.norm_safety.specs.WorldStep.{run}
use Rattle.norm_recovery.specs.Left.{has, in_window, left}

-- two are the same info or symbol
abbrev pub same_want : Want → Want → Bool
same_want (Info index) (Info other) = index == other
same_want (Symbol at) (Symbol other) = same_position at other
same_want _ _ = false

-- a request names an info or a symbol
abbrev pub names : List Shape → Want → Asked → Bool
names shapes y a = list_any (same_want y) (wants_of shapes a)

-- it counts the block of a symbol by more than 0
abbrev pub counts : List Shape → Want → Asked → Bool
counts shapes (Info index) a = false
counts shapes (Symbol at) a = list_any (λ (c : Count). same_point c.of (point_of at) && nat_lt 0 c.lacking) (counts_of shapes a)

-- A round asks for an info or a symbol if one of its requests names it, or counts its block by more than 0.
abbrev pub asks : Settings → SenderState → Round → Want → Bool
asks p s round y = list_any (λ (a : Asked). names (current_shapes p s) y a || counts (current_shapes p s) y a) round.asked

-- every member has it
abbrev pub all_have : Settings → World → Want → Bool
all_have p w y = list_all (λ (r : ReceiverState). not (has_member r.node w.sender) || has p w.sender r y) w.receivers

-- every member has everything that is wanted
abbrev pub have_wanted : Settings → World → Bool
have_wanted p w = list_all (all_have p w) w.sender.wants

-- the world as the closing of a round leaves it
abbrev pub with_closed : Settings → Round → World → World
with_closed p round w = record w { sender = round_closed p round w.sender }

-- The closing of a round helps: it leaves less, adds a want, and sets the count of flushes to 0.
pub record Helps (p : Settings) (round : Round) (w : World) : Type 0 where
  pub less : left p (with_closed p round w) < left p w
  pub adds : length w.sender.wants < length (with_closed p round w).sender.wants
  pub anew : (with_closed p round w).sender.flushes ≡ 0

-- Let every member have everything that is wanted.
pub record ClosingsHelp : Type 0 where
  -- After a lawful run: if a round asks for something of the window that a member lacks, its closing helps.
  pub helps : (p : Settings) → InRange p → (events : List Event) → Lawful p events → AreEvents events → have_wanted p (run p events) ≡ true → (round : Round)
      → (y : Want) → Contains (in_window p (run p events).sender) y → all_have p (run p events) y ≡ false → asks p (run p events).sender round y ≡ true
      → Helps p round (run p events)
  -- If a closing leaves no less, every member has also all that it adds.
  pub keeps : (p : Settings) → InRange p → (w : World) → have_wanted p w ≡ true → (round : Round) → left p (with_closed p round w) ≡ left p w
      → have_wanted p (with_closed p round w) ≡ true
