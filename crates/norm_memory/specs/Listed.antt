use Rattle.std.specs.Prelude.{ℕ, ◌+◌, List, Bool, min}
use Rattle.norm_base.specs.Faults.{one_more}
use Rattle.norm_base.specs.Settings.{Settings}
use Rattle.norm_base.specs.declared.kinds.Local.{Local}
use Rattle.norm_memory.specs.Calls.{Calls, after_call, restarted}
use Rattle.norm_memory.specs.Fates.{plan_by}
use Rattle.norm_memory.specs.Networks.{NetworkState, started, after_offer}
use Rattle.norm_memory.specs.Rules.{fate_by_rules}
use Rattle.norm_memory.specs.declared.rule.Rule.{Rule}

-- a network in memory with rules, whose listed offers and takes fail
pub record ListState : Type 0 where
  pub network : NetworkState
  pub rules : List Rule
  pub offers : Calls
  pub takes : Calls

-- how often a call failed, up to the last number of 64 bits
abbrev pub failed_calls : ListState → ℕ
failed_calls s = min (s.offers.faults + s.takes.faults) 18446744073709551615

-- a start: offers and takes are counted from it; the rules, and the lists of those that fail, stay
abbrev pub list_started : ListState → Settings → Local → ListState
list_started s profile local =
    record { network = started s.network profile local; rules = s.rules; offers = restarted s.offers; takes = restarted s.takes }

-- what an offer leaves of the network: its number is that of the call, counted from the last start
abbrev pub ruled_offer : ListState → ℕ → List ℕ → NetworkState
ruled_offer s from bytes =
    after_offer s.network from bytes (plan_by (fate_by_rules s.rules (one_more s.offers.made) from) from s.network.members)

-- after an offer that left the network so, and failed or did not
abbrev pub list_offered : ListState → NetworkState → Bool → ListState
list_offered s network failed =
    record { network = network; rules = s.rules; offers = after_call s.offers failed; takes = s.takes }

-- after a take that left the network so, and failed or did not
abbrev pub list_taken : ListState → NetworkState → Bool → ListState
list_taken s network failed =
    record { network = network; rules = s.rules; offers = s.offers; takes = after_call s.takes failed }
