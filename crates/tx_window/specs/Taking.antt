-- Taking an object in, or a stream that is opened.
use Rattle.std.specs.Prelude.{ℕ, ◌≡◌, ◌⊎◌, List, length, Option, Some, Ok, ◌++◌, ◌==◌, [], ◌∷◌, nat_lt, None}
use Rattle.norm_base.specs.Settings.{Settings}
use Rattle.norm_base.specs.declared.kinds.Kind.{Kind}
use Rattle.norm_base.specs.declared.node.Origin.{Origin}
use Rattle.norm_send_rules.specs.SenderState.{SenderState}
use Rattle.norm_send_rules.specs.Enqueuing.{enqueued, object_fault}
use Rattle.norm_send_rules.specs.Streaming.{open_fault, opened}
use Rattle.norm_send_rules.specs.declared.fault.EnqueueFault.{EnqueueFault}
use Rattle.norm_send_rules.specs.declared.fault.EnqueueFault.TheVariants.{Memory, Empty, TooBig, InfoTooBig}
use Rattle.norm_send_rules.specs.declared.job.Receipt.TheVariants.{Object as EnqueuedObject, Opened}
use Rattle.tx_window.specs.WindowState.{WindowState, Stands, Filling}
use Rattle.norm_order.specs.Entries.{Whole, Entry}
use Rattle.norm_order.specs.First.{first_where}
use Rattle.norm_send_rules.specs.Dropping.{dropped_to}
use Rattle.norm_send_rules.specs.Room.{window, has_to_go, drop_after}

-- as many objects are dropped as have to go for one of so many octets
abbrev pub room_made : Settings → ℕ → SenderState → SenderState
room_made p len s = dropped_to (drop_after s.current.drop (has_to_go p len (window s))) s

-- the entry of an object whose octets are all there
abbrev pub filled_entry : Origin → Filling → Entry
filled_entry by f = record { by = by; object = Whole f.kind f.info f.octets }

-- an object of which one piece more is there
abbrev pub with_piece : List ℕ → Filling → Filling
with_piece piece f = record f { octets = f.octets ++ piece }

-- what is wrong with the sizes of an object and its info: the first of these faults that applies
abbrev pub size_fault : Settings → ℕ → ℕ → Option EnqueueFault
size_fault p info len = first_where ((len == 0, Empty) ∷ (nat_lt p.octets len, TooBig len) ∷ (nat_lt p.e info, InfoTooBig info) ∷ [])

-- what was given comes back exactly where memory was not what lacked
abbrev pub GivesBack : {X : Type 0} → X → Option X × EnqueueFault → Type 0
GivesBack given refusal = ((refusal.1 ≡ Memory) × (refusal.0 ≡ None)) ⊎ ((refusal.1 ≡ Memory → ⊥) × (refusal.0 ≡ Some given))

-- Why an object was refused: memory was lacking, or by the first fault of the rules.
abbrev pub IsRefusal : Settings → SenderState → Option (List ℕ) → List ℕ → EnqueueFault → Type 0
IsRefusal p s info octets fault = (fault ≡ Memory) ⊎ (object_fault p s info octets ≡ Some fault)

-- An object was enqueued under this index, and the window stands for the state after it.
pub record IsEnqueued (p : Settings) (s : SenderState) (by : Origin) (kind : Kind) (info : Option (List ℕ)) (octets : List ℕ) (index : ℕ) (w : WindowState) : Type 0 where
  pub answer : (enqueued p s by kind info octets).1 ≡ Ok (EnqueuedObject index (length octets))
  pub stands : Stands w (enqueued p s by kind info octets).0

-- A stream was opened under this index, and the window stands for the state after it.
pub record IsOpened (p : Settings) (s : SenderState) (by : Origin) (index : ℕ) (w : WindowState) : Type 0 where
  pub answer : (opened p s by).1 ≡ Ok (Opened index)
  pub stands : Stands w (opened p s by).0

-- Why a stream was not opened: memory was lacking, or by the first fault of the rules.
abbrev pub IsUnopened : Settings → SenderState → EnqueueFault → Type 0
IsUnopened p s fault = (fault ≡ Memory) ⊎ (open_fault p s ≡ Some fault)
