-- How a receiver of several senders begins, and why a list of them is refused.
use Rattle.std.specs.Prelude.{ℕ, suc, ⊤, ◌≡◌, ◌==◌, List, [], ◌∷◌, ◌++◌, Bool, Option, None, Some, if◌then◌else◌}
use Rattle.std.specs.List.{list_any}
use Rattle.std.specs.Option.{option_map, option_or}
use Rattle.norm_base.specs.Members.{is_receiver}
use Rattle.norm_base.specs.Settings.{Settings}
use Rattle.norm_receive_rules.specs.ReceiverState.{receiver_opening}
use Rattle.norm_receiver.specs.ReceiverSound.{StandsFor as ReceiverStands}
use Rattle.norm_multi.specs.declared.member.Member.{Member}
use Rattle.norm_multi.specs.declared.multi.MultiFault.{MultiFault}
use Rattle.norm_multi.specs.declared.multi.MultiFault.TheVariants.{NotReceiver, SameId, Memory}

-- the index of the first node that is no receiver of its profile
abbrev pub first_no_receiver : List (Settings × ℕ) → Option ℕ
first_no_receiver [] = None
first_no_receiver (x ∷ list) = if is_receiver x.0 x.1 then option_map suc (first_no_receiver list) else Some 0

-- the ids of a list: of each item its sender and its node
abbrev pub ids_of : List (Settings × ℕ) → List ℕ
ids_of [] = []
ids_of (x ∷ list) = x.0.sender ∷ x.1 ∷ ids_of list

-- an id is one of these
abbrev pub is_among : List ℕ → ℕ → Bool
is_among ids id = list_any (λ other. other == id) ids

-- the first id that stands before, among these or in its own list
abbrev pub first_repeated : List ℕ → List ℕ → Option ℕ
first_repeated before [] = None
first_repeated before (id ∷ ids) = if is_among before id then Some id else first_repeated (before ++ id ∷ []) ids

-- why a list is refused, the first that applies
abbrev pub fault_of : List (Settings × ℕ) → Option MultiFault
fault_of list = option_or (option_map NotReceiver (first_no_receiver list)) (option_map SameId (first_repeated [] (ids_of list)))

abbrev pub IsFault : MultiFault → List (Settings × ℕ) → Type 0
IsFault Memory list = ⊤
IsFault fault list = fault_of list ≡ Some fault

-- a member as it begins, under its profile
pub record IsBegun (x : Settings × ℕ) (m : Member) : Type 0 where
  pub sender : m.sender ≡ x.0.sender
  pub node : m.node ≡ x.1
  pub profile : m.receiver.p ≡ x.0
  pub stands : ReceiverStands m.receiver (receiver_opening x.1)

-- one after the other
abbrev pub AreBegun : List (Settings × ℕ) → List Member → Type 0
AreBegun [] [] = ⊤
AreBegun (x ∷ list) (m ∷ members) = IsBegun x m × AreBegun list members
AreBegun _ _ = ⊥
