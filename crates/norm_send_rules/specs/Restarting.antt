-- A restart (RFC 5740 section 4.2.1 on instance_id): a new instance with an order of its own.
use Rattle.std.specs.Prelude.{ℕ, ◌||◌, nat_le, nat_lt, List, [], ◌∷◌, ◌++◌, Bool, true, false, None, Result, Ok, Err}
use Rattle.norm_ext.specs.InstanceIds.{rise, most_rise}
use Rattle.norm_send_rules.specs.SenderState.{SenderState, Instance, begun, unlisted}
use Rattle.norm_send_rules.specs.Watermarks.{members, end_where}
use Rattle.norm_send_rules.specs.declared.want.Want.TheVariants.{Info}
use Rattle.norm_send_rules.specs.declared.news.Outcome.TheVariants.{Cut}
use Rattle.norm_send_rules.specs.declared.fault.SendFault.{SendFault}
use Rattle.norm_send_rules.specs.declared.fault.SendFault.TheVariants.{IdUsed}
use Rattle.norm_send_rules.specs.declared.job.Receipt.{Receipt}
use Rattle.norm_send_rules.specs.declared.job.Receipt.TheVariants.{Restarted}

-- all instances, in the order in which they began
abbrev pub instances : SenderState → List Instance
instances s = s.earlier ++ s.current ∷ []

-- the id of the first instance
abbrev pub first_id : SenderState → ℕ
first_id s = elim s.earlier [ i ∷ earlier ↦ i.id | [] ↦ s.current.id ]

-- Ids rise from the first instance's on: one is used up where it lies no higher above that than the current one, or half
-- of all ids above it.
abbrev pub is_used : SenderState → ℕ → Bool
is_used s id = nat_le (rise (first_id s) id) (rise (first_id s) s.current.id) || nat_lt most_rise (rise (first_id s) id)

-- The new instance begins: window, wants and round are empty, members are listed past nothing, no squelch is due, nothing
-- was flushed, and every open watermark is cut. The next send moment, the sequence number and the numbers of watermarks
-- go on, and who was struck stays so.
abbrev pub begun_anew : ℕ → SenderState → SenderState
begun_anew id s = end_where (λ w. true) (λ w. Cut) (record s {
  earlier = instances s;
  current = begun id;
  next = Info 0;
  wants = [];
  sent = [];
  sent_infos = [];
  round = None;
  squelch_due = false;
  listings = unlisted (members s);
  flushes = 0;
  last_flush = None;
  untold_nodes = [];
})

-- Each id lies above the one before.
abbrev pub restarted : SenderState → ℕ → SenderState × Result Receipt SendFault
restarted s id = elim (is_used s id) [
  | true ↦ (s, Err (IdUsed id))
  | false ↦ (begun_anew id s, Ok (Restarted id))
]
