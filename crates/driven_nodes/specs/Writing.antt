-- What is written of the lines of a run: all of them, and it ended so; or what a fault leaves.
use Rattle.std.specs.Prelude.{◌≡◌, ℕ, List, ◌∷◌, ◌++◌, Option}
use Rattle.norm_base.specs.Told.{Pieces, gained, GainsFront}
use Rattle.norm_turns.specs.declared.fault.SessionFault.{SessionFault}
use Rattle.norm_turns.specs.declared.fault.SessionFault.TheVariants as fault
use Rattle.norm_show.specs.declared.fault.NoDatagram.{NoDatagram}
use Rattle.relay_words.specs.declared.ends.RelayEnd.{RelayEnd}
use Rattle.driven_nodes.specs.Gathered as gathering
use Rattle.driven_nodes.specs.Relayed as relaying

-- all that `gather` prints was written, and what stopped it is this
pub record TookLines (printed : gathering.Printed) (unwritten written : Pieces) (stop : Option (ℕ × NoDatagram)) : Type 0 where
  pub stop_is : stop ≡ printed.stop
  pub output : written ≡ gained unwritten printed.lines

-- all that `relay` prints was written, and it ends so
pub record Ends (printed : relaying.Printed) (end : RelayEnd) (unwritten written : Pieces) : Type 0 where
  pub is : printed.end ≡ end
  pub output : written ≡ gained unwritten printed.lines

-- whole lines, from the first on
pub record WholeLines (unwritten written : Pieces) (lines : List (List ℕ)) : Type 0 where
  pub front : List (List ℕ)
  pub rest : List (List ℕ)
  pub all : lines ≡ front ++ rest
  pub output : written ≡ gained unwritten front

-- whole lines, and a front of the next
pub record BrokenLines (unwritten written : Pieces) (lines : List (List ℕ)) : Type 0 where
  pub front : List (List ℕ)
  pub broken : List ℕ
  pub rest : List (List ℕ)
  pub all : lines ≡ front ++ broken ∷ rest
  pub output : GainsFront (gained unwritten front) written broken

abbrev pub LeavesLines : SessionFault → (unwritten written : Pieces) → List (List ℕ) → Type 0
LeavesLines fault.Write unwritten written lines = BrokenLines unwritten written lines
LeavesLines fault.Memory unwritten written lines = WholeLines unwritten written lines
LeavesLines _ unwritten written lines = ⊥
