-- What holds of each sender.
use Rattle.std.specs.Prelude.{ℕ, List, MatchOption}
use Rattle.norm_send_rules.specs.SenderState.{SenderState}
use Rattle.tx_window.specs.WindowState.{Filling}
use Rattle.norm_sender.specs.SenderKept.{SenderKept, Stands}
use Rattle.norm_sender.specs.Filling.{HasBegun}

-- a sender stands for a state, or began a file as it did
abbrev pub IsSound : SenderKept → SenderState → List ℕ → Type 0
IsSound k s name = MatchOption k.window.filling (Stands k s) (λ (f : Filling). HasBegun k s name f.len f.octets)

-- There is some state that it stands for, or as it stood for which it began a file.
pub record SenderSound (k : SenderKept) : Type 0 where
  pub state : SenderState
  pub name : List ℕ
  pub stands : IsSound k state name
