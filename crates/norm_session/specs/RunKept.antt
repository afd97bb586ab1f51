-- What a run keeps.
use Rattle.std.specs.Prelude.{ℕ, List, [], Bool, true, false, Option}
use Rattle.rand_pcg.specs.Lcg.{Lcg}
use Rattle.norm_base.specs.Members.{receivers_of}
use Rattle.norm_base.specs.Settings.{Settings}
use Rattle.norm_journal.specs.declared.event.Event.{Event}
use Rattle.norm_journal.specs.declared.totals.Totals.{Totals}
use Rattle.norm_world.specs.WorldKept.{WorldKept}

-- the receivers that a run has, in order: none where its sender is alone, and else all of its profile
abbrev pub nodes_in : Bool → Settings → List ℕ
nodes_in true p = []
nodes_in false p = receivers_of p p.receivers

-- The profile, whether the sender is alone, the nodes, and the journal where it is kept; the counts and the draws; the turn and its moment; the places of the script's lines that
-- were not pulled, and of the one whose command waits.
pub record RunKept : Type 0 where
  pub p : Settings
  pub alone : Bool
  pub world : WorldKept
  pub journal : Option (List Event)
  pub totals : Totals
  pub draws : Lcg
  pub turn : ℕ
  pub now : ℕ
  pub left : List ℕ
  pub waiting : Option ℕ
