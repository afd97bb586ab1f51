-- What the judge knows of a run: all that decides what may come next.
use Rattle.std.specs.Prelude.{ℕ, ◌==◌, ◌&&◌, ◌||◌, List, Bool, nat_le, Option, None, length, is_none}
use Rattle.rand_pcg.specs.Lcg.{Lcg}
use Rattle.norm_base.specs.Settings.{Settings}
use Rattle.norm_script.specs.Commands.{Commands}
use Rattle.norm_script.specs.declared.script.Line.{Line}
use Rattle.norm_send_rules.specs.Ticking.{is_idle}
use Rattle.norm_send_rules.specs.Telling.{told}
use Rattle.norm_send_rules.specs.Watermarks.{open_watermarks}
use Rattle.norm_send_rules.specs.declared.news.News.{News}
use Rattle.norm_safety.specs.World.{World, world_opening}
use Rattle.norm_journal.specs.Draws.{first_draws}
use Rattle.norm_journal.specs.Jobs.{Told}
use Rattle.norm_journal.specs.Places.{Place, Starting}
use Rattle.norm_journal.specs.declared.totals.Totals.{Totals}
use Rattle.norm_journal.specs.Totals.{nothing_counted}

-- The profile, the files that are there, and the receivers that this run has, in order; the nodes, and what they gave to the
-- network; the turn, its moment, and the place in it; the lines that are left to pull, and the one whose command waits; the
-- draws that are to come; the counts.
pub record Judged : Type 0 where
  pub profile : Settings
  pub files : Told
  pub nodes : List ℕ
  pub world : World
  pub turn : ℕ
  pub now : ℕ
  pub place : Place
  pub left : List Line
  pub waiting : Option Line
  pub draws : Lcg
  pub totals : Totals

-- as the run of a script with these receivers begins
abbrev pub judged_opening : Commands → Told → List ℕ → Judged
judged_opening script files nodes = record {
  profile = script.profile;
  files = files;
  nodes = nodes;
  world = world_opening script.profile;
  turn = 0;
  now = 0;
  place = Starting;
  left = script.lines;
  waiting = None;
  draws = first_draws script.profile;
  totals = nothing_counted;
}

-- A run is whole where all commands were pulled, none waits, no watermark is open, and the sender is idle.
abbrev pub is_whole : Judged → Bool
is_whole j =
    length j.left == 0 && is_none j.waiting && length (open_watermarks j.world.sender) == 0 && is_idle j.profile j.world.sender

-- the last turn was done: the first at which the run is whole, or the profile's last
abbrev pub is_done : Judged → Bool
is_done j = nat_le 1 j.turn && (is_whole j || j.turn == j.profile.turns)

-- the change that is to be told
abbrev pub news_due : Judged → Option News
news_due j = (told j.world.sender).1
