-- An invariant of lawful runs in seven parts, each a word of its own. It is evaluated along recorded runs. No proof cites it: each keeps
-- what it needs in its own words. Beside a part stands the law that says it of every lawful run, if there is one.
use Rattle.std.specs.Prelude.{◌&&◌, Bool}
use Rattle.norm_base.specs.Settings.{Settings}
use Rattle.norm_safety.specs.AcknowledgesHanded.{AcknowledgesHanded, acknowledges_handed}
use Rattle.norm_safety.specs.DropsConfirmed.{DropsConfirmed, drops_confirmed}
use Rattle.norm_safety.specs.History.{History}
use Rattle.norm_safety.specs.HoldsSaid.{HoldsSaid, holds_said}
use Rattle.norm_safety.specs.ListsHanded.{ListsHanded, lists_handed}
use Rattle.norm_safety.specs.SaysPositions.{SaysPositions, says_positions}
use Rattle.norm_safety.specs.SaysSymbols.{SaysSymbols, says_symbols}
use Rattle.norm_safety.specs.WantsSent.{WantsSent, wants_sent}

-- all seven
pub record Tied (p : Settings) (h : History) : Type 0 where
  -- `said_run`, of each DATA and INFO; that orders only grow no law says
  pub symbols : SaysSymbols p h
  -- `said_run`
  pub positions : SaysPositions p h
  -- `safe_run`, of what was handed up and taken
  pub holds : HoldsSaid p h
  -- `acknowledge_run`
  pub acknowledges : AcknowledgesHanded p h
  -- `safe_run`; that ids of instances rise, and not only differ, no law says
  pub lists : ListsHanded p h
  -- `wants`, of what is wanted
  pub wants : WantsSent p h
  -- no law; `hold_run` says what follows of it
  pub drops : DropsConfirmed p h

-- The same as a test, but that it does not look whether orders only grow.
abbrev pub is_tied : Settings → History → Bool
is_tied p h =
    says_symbols p h && says_positions p h && holds_said p h && acknowledges_handed p h && lists_handed p h && wants_sent p h
    && drops_confirmed p h
