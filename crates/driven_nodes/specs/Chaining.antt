-- What the parts of a relay's run say: what it stands for, and what each call makes of that.
use Rattle.std.specs.Prelude.{◌≡◌, ℕ, List, Bool, true, false, Option, None, Some}
use Rattle.norm_base.specs.Datagrams.{datagram_of}
use Rattle.norm_base.specs.Told.{Pieces, gained}
use Rattle.norm_base.specs.declared.kinds.Sent.{Sent}
use Rattle.norm_journal.specs.Draws.{next_draw, draws_after}
use Rattle.norm_relay.specs.RelayKept.{RelayKept, StandsFor as RelayStands}
use Rattle.norm_relay.specs.RelayState.{Relaying}
use Rattle.norm_relay.specs.declared.relay.RelayFault.{RelayFault}
use Rattle.norm_relay.specs.declared.relay.RelayFault.TheVariants as relay
use Rattle.norm_relay.specs.declared.waiting.Waiting.{Waiting}
use Rattle.norm_relay.specs.declared.waiting.Waiting.TheVariants.{Given, Lost}
use Rattle.norm_send_rules.specs.declared.fault.SendFault.{SendFault}
use Rattle.norm_turns.specs.declared.fault.SessionFault.{SessionFault}
use Rattle.relay_words.specs.declared.ends.Losses.{Losses}
use Rattle.relay_words.specs.declared.ends.RelayEnd.{RelayEnd}
use Rattle.driven_nodes.specs.Relayed.{SoFar, Printed, Act, in_front, after, told_all, answered, delivery, is_taken, taken_up, up_sent, up_ticked, down_sent, down_ticked, with_loss}
use Rattle.driven_nodes.specs.Writing.{Ends, LeavesLines}
use Rattle.driven_nodes.specs.declared.chain.Chain.{Chain}

-- A chain stands for what the lines so far led to. It has the next draw already.
pub record StandsFor (k : Chain) (g : SoFar) : Type 0 where
  pub relay : RelayStands k.relay g.x
  pub draw : k.draw ≡ next_draw g.draws
  pub draws : k.draws ≡ draws_after g.draws
  pub lines : k.lines ≡ g.lines
  pub enqueued : k.enqueued ≡ g.enqueued
  pub acknowledged : k.acknowledged ≡ g.acknowledged
  pub lost : k.lost ≡ g.lost

-- ---- what was done

-- Something was done and printed: what is printed from there makes the whole, whatever that is.
pub record LeadsTo (whole : Printed) (rest : SoFar → Printed) (new : Chain) (unwritten written : Pieces) : Type 0 where
  pub state : SoFar
  pub front : List (List ℕ)
  pub stands : StandsFor new state
  pub is : whole ≡ in_front front (rest state)
  pub output : written ≡ gained unwritten front

-- an act was done, whatever follows it
abbrev pub Does : Act → (old new : Chain) → (unwritten written : Pieces) → Type 0
Does act old new unwritten written = (g : SoFar) (rest : SoFar → Printed) → StandsFor old g → LeadsTo (act g rest) rest new unwritten written

-- an act ended the run, so nothing follows it
abbrev pub Halts : Act → RelayEnd → (old : Chain) → (unwritten written : Pieces) → Type 0
Halts act end old unwritten written = (g : SoFar) (rest : SoFar → Printed) → StandsFor old g → Ends (act g rest) end unwritten written

-- an act was done, unless it ended the run
abbrev pub DoesUnless : Act → Option RelayEnd → (old new : Chain) → (unwritten written : Pieces) → Type 0
DoesUnless act None old new unwritten written = Does act old new unwritten written
DoesUnless act (Some end) old new unwritten written = Halts act end old unwritten written

-- a fault left whole lines of it
abbrev pub Breaks : Act → SessionFault → (old : Chain) → (unwritten written : Pieces) → Type 0
Breaks act fault old unwritten written =
    (g : SoFar) (rest : SoFar → Printed) → StandsFor old g → LeavesLines fault unwritten written (act g rest).lines

-- ---- parts of acts

-- all news were asked for
abbrev pub Tells : (old new : RelayKept) → Type 0
Tells old new = (x : Relaying) → RelayStands old x → RelayStands new (told_all x)

-- what a datagram from above led to, if it was taken, and else
abbrev pub heard : Bool → List ℕ → ℕ → SoFar → SoFar
heard true datagram now g = taken_up datagram now g
heard false datagram now g = after (delivery datagram now g) g

pub record IsHeard (datagram : List ℕ) (now : ℕ) (taken : Bool) (g : SoFar) (new : Chain) : Type 0 where
  pub is : is_taken (answered (delivery datagram now g) g.x) ≡ taken
  pub stands : StandsFor new (heard taken datagram now g)

abbrev pub HearsAbove : List ℕ → ℕ → Bool → (old new : Chain) → Type 0
HearsAbove datagram now taken old new = (g : SoFar) → StandsFor old g → IsHeard datagram now taken g new

-- a tick gave this datagram, or none, and led to this
pub record IsTicked (given : Option (List ℕ)) (state : SoFar) (sent : Sent) (new : Chain) : Type 0 where
  pub gave : datagram_of sent new.datagram ≡ given
  pub stands : StandsFor new state

abbrev pub Gives : (SoFar → Option (List ℕ)) → (SoFar → SoFar) → Sent → (old new : Chain) → Type 0
Gives given state sent old new = (g : SoFar) → StandsFor old g → IsTicked (given g) (state g) sent new

abbrev pub TicksAbove : ℕ → Sent → (old new : Chain) → Type 0
TicksAbove now = Gives (up_sent now) (up_ticked now)

abbrev pub TicksBelow : ℕ → Sent → (old new : Chain) → Type 0
TicksBelow now = Gives (down_sent now) (down_ticked now)

-- a refusal of a pump is this one
abbrev pub IsRefusalOf : RelayFault → Option SendFault → Type 0
IsRefusalOf why (Some fault) = why ≡ relay.Refused fault
IsRefusalOf why None = ⊥

-- losses among what waits
abbrev pub with_waiting : ℕ → Losses → Waiting → Losses
with_waiting instance lost (Given job) = lost
with_waiting instance lost (Lost index) = with_loss instance index lost
