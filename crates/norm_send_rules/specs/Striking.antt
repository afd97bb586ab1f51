-- Striking a receiver from the members for good (beyond RFC 5740): nothing waits for it any more.
use Rattle.std.specs.Prelude.{ℕ, ◌==◌, [], ◌∷◌, length, filter, not, nat_lt, Option, None, Some, Result, Ok, Err}
use Rattle.norm_order.specs.First.{first_where}
use Rattle.norm_order.specs.Sets.{with_member}
use Rattle.norm_send_rules.specs.SenderState.{SenderState, Listing}
use Rattle.norm_send_rules.specs.Watermarks.{has_member, counted_anew, settled}
use Rattle.norm_send_rules.specs.declared.fault.StrikeFault.{StrikeFault}
use Rattle.norm_send_rules.specs.declared.fault.StrikeFault.TheVariants.{NotMember, LastMember}
use Rattle.norm_send_rules.specs.declared.job.Receipt.{Receipt}
use Rattle.norm_send_rules.specs.declared.job.Receipt.TheVariants.{Struck}

-- why a node is not struck: the first that applies
abbrev pub strike_fault : SenderState → ℕ → Option StrikeFault
strike_fault s node = first_where (
    (not (has_member node s), NotMember node)
    ∷ (length s.listings == 1, LastMember node)
    ∷ []
    )

-- the listings without a node's
abbrev pub without_node : ℕ → SenderState → SenderState
without_node node s = record s {
  listings = filter (λ (l : Listing). not (l.node == node)) s.listings;
  struck = with_member nat_lt node s.struck;
  untold_nodes = filter (λ other. not (other == node)) s.untold_nodes;
}

-- A member's listing goes, with a rise of it that was not told, and watermarks may be satisfied by those that are left.
abbrev pub struck_off : ℕ → SenderState → SenderState
struck_off node s = counted_anew s (settled (without_node node s))

-- A member is struck, or the strike is refused.
abbrev pub strikes : SenderState → ℕ → SenderState × Result Receipt StrikeFault
strikes s node = elim (strike_fault s node) [
  | Some fault ↦ (s, Err fault)
  | None ↦ (struck_off node s, Ok (Struck node))
]
