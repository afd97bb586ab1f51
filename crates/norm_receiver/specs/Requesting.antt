-- The repair requests of a NACK as they are written, need by need.
use Rattle.std.specs.Prelude.{ℕ, List, map, ⊤}
use Rattle.norm_base.specs.Settings.{Settings}
use Rattle.fec_plan.specs.Points.{IsBlock}
use Rattle.norm_ext.specs.Asked.{Writing, HasWritten}
use Rattle.norm_receive_rules.specs.Needs.{Need as Meaning, Object, ObjectInfo, Symbols, Source, Rest}
use Rattle.norm_receive_rules.specs.Nack.{asked_of}
use Rattle.norm_receiver.specs.declared.requesting.Need.{Need}
use Rattle.norm_receiver.specs.declared.requesting.Need.TheVariants as need

-- a need, in the words of the rules
abbrev pub need_of : Need → Meaning
need_of (need.Object index) = Object index
need_of (need.ObjectInfo index) = ObjectInfo index
need_of (need.Symbols index block wanted) = Symbols index block wanted
need_of (need.Source at) = Source at
need_of (need.Rest index block) = Rest index block

-- its block has 24 bits
abbrev pub IsNeed : Need → Type 0
IsNeed (need.Object index) = ⊤
IsNeed (need.ObjectInfo index) = ⊤
IsNeed (need.Symbols index block wanted) = IsBlock block
IsNeed (need.Source at) = IsBlock at.block
IsNeed (need.Rest index block) = IsBlock block

-- the writer has written the requests for these needs, behind what the datagram had
abbrev pub HasAsked : Settings → Writing → List ℕ → List ℕ → List Meaning → Type 0
HasAsked p w out front needs = HasWritten w out front (map (asked_of p) needs)
