-- The places in a run: each has what is due there.
use Rattle.std.specs.Prelude.{ℕ, List, [], ◌∷◌, Option, None, Some}
use Rattle.norm_ext.specs.Written.{Written}
use Rattle.norm_script.specs.declared.script.Line.{Line}

-- The network is to be started; the next turn, or the end; a pull; the first offer of the command that was pulled; another
-- offer of one that had to wait; the sender's tick; the offer of a datagram, and what is due after it; a take,
-- after so many in this turn; the hand-ups and the tick of a node, and then the nodes after it; nothing.
pub data Place : Type 0 where
  Starting : Place
  Between : Place
  Pulling : Place
  Giving : (line : Line) → Place
  Again : (line : Line) → Place
  Sending : Place
  Offering : (node : ℕ) (datagram : List ℕ) (next : Place) → Place
  Taking : (taken : ℕ) → Place
  Handing : (node : ℕ) (nodes : List ℕ) → Place
  Over : Place

-- the receivers' parts of a turn, and then the turn is over
abbrev pub handing : List ℕ → Place
handing [] = Between
handing (node ∷ nodes) = Handing node nodes

-- after a tick what it gave is offered
abbrev pub after_tick : ℕ → Option Written → Place → Place
after_tick node None next = next
after_tick node (Some datagram) next = Offering node datagram.octets next

-- a turn begins with a command: one that waits, or one that is pulled, where there are some left
abbrev pub command_due : Option Line → List Line → Place
command_due (Some line) lines = Again line
command_due None (line ∷ lines) = Pulling
command_due None [] = Sending
