-- What a run is over: all that it does not keep.
use Rattle.std.specs.Prelude.{ℕ, List, ◌++◌, Bool, slice_get, option_and_then}
use Rattle.norm_base.specs.Network.{Network}
use Rattle.norm_base.specs.Told.{Pieces}
use Rattle.norm_script.specs.Commands.{Commands}
use Rattle.norm_safety.specs.World.{World}
use Rattle.norm_journal.specs.Jobs.{Told}
use Rattle.norm_journal.specs.Judged.{Judged, judged_opening}
use Rattle.norm_journal.specs.Places.{Place}
use Rattle.norm_session.specs.Left.{lines_at}
use Rattle.norm_session.specs.RunKept.{RunKept}
use Rattle.producer_gate.specs.Boards.{BoardState}

-- The script; the files that are there, where they are told; whether the sender is alone, and the receivers that the run has; what the
-- network told once it was started, and the output before; the moments of the turns so far; the board before, and as it is now.
pub record Context : Type 0 where
  pub script : Commands
  pub files : Told
  pub alone : Bool
  pub nodes : List ℕ
  pub network : Network
  pub written : Pieces
  pub moments : List ℕ
  pub board : BoardState
  pub posted : BoardState

-- with the moments of more turns
abbrev pub with_moments : Context → List ℕ → Context
with_moments x moments = record x { moments = x.moments ++ moments }

-- with the board as it is later
abbrev pub with_posted : Context → BoardState → Context
with_posted x board = record x { posted = board }

-- the judge's state before anything happened
abbrev pub opening : Context → Judged
opening x = judged_opening x.script x.files x.nodes

-- The judge's state of a run, at a place of it: what the run keeps says all of it, with the nodes of the rules and with the script.
abbrev pub judged_of : Context → RunKept → World → Place → Judged
judged_of x k w place = record {
  profile = k.p;
  files = x.files;
  nodes = x.nodes;
  world = w;
  turn = k.turn;
  now = k.now;
  place = place;
  left = lines_at x.script.lines k.left;
  waiting = option_and_then (slice_get x.script.lines) k.waiting;
  draws = k.draws;
  totals = k.totals;
}
