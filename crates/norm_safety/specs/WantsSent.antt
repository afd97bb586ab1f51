-- Tied, part 6: what was said in the current instance counts as sent, and a want is an info or symbol of the window.
use Rattle.std.specs.Prelude.{◌==◌, ◌&&◌, ◌||◌, not, List, Bool, nat_lt, IsTrue}
use Rattle.std.specs.List.{list_all, AllByRecursion}
use Rattle.norm_base.specs.Settings.{Settings}
use Rattle.fec_plan.specs.Points.{position_before}
use Rattle.norm_ext.specs.Message.{InfoMessage, DataMessage}
use Rattle.norm_order.specs.Sets.{is_member}
use Rattle.norm_order.specs.Shapes.{Shape, is_encoded, has_info}
use Rattle.norm_send_rules.specs.InWindow.{stands_behind, current_shapes}
use Rattle.norm_send_rules.specs.SenderState.{SenderState}
use Rattle.norm_send_rules.specs.declared.want.Want.{Want}
use Rattle.norm_send_rules.specs.declared.want.Want.TheVariants.{Info, Symbol}
use Rattle.norm_safety.specs.History.{History}
use Rattle.norm_safety.specs.Said.{About, said_infos, said_data, place_of}

-- a symbol that was said in the current instance counts as sent
abbrev pub symbol_counts : SenderState → About DataMessage → Bool
symbol_counts s x = not (x.message.head.instance == s.current.id) || is_member position_before (place_of x) s.sent

-- an info that was said in the current instance counts as sent
abbrev pub info_counts : SenderState → About InfoMessage → Bool
info_counts s x = not (x.message.head.instance == s.current.id) || is_member nat_lt x.index s.sent_infos

-- a want is of an object that has it
abbrev pub is_there : List Shape → Want → Bool
is_there shapes (Info index) = has_info shapes index
is_there shapes (Symbol at) = is_encoded shapes at

-- a want is an info or symbol of the window
abbrev pub is_wanted_well : Settings → SenderState → Want → Bool
is_wanted_well p s w = stands_behind s.current.drop w && is_there (current_shapes p s) w

-- of each symbol and info that was said, and of each want
pub record WantsSent (p : Settings) (h : History) : Type 0 where
  pub symbols : AllByRecursion (λ m. IsTrue (symbol_counts h.now.sender m)) (said_data h.now)
  pub infos : AllByRecursion (λ m. IsTrue (info_counts h.now.sender m)) (said_infos h.now)
  pub wants : AllByRecursion (λ w. IsTrue (is_wanted_well p h.now.sender w)) h.now.sender.wants

-- The same as a test.
abbrev pub wants_sent : Settings → History → Bool
wants_sent p h =
    list_all (symbol_counts h.now.sender) (said_data h.now) && list_all (info_counts h.now.sender) (said_infos h.now)
    && list_all (is_wanted_well p h.now.sender) h.now.sender.wants
