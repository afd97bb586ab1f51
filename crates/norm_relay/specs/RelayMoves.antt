-- What a call of a relay leaves and answers.
use Rattle.std.specs.Prelude.{ℕ, ⊤, ◌≡◌, List, Bool, false, Result, Ok, Err}
use Rattle.std.specs.Option.{option_map}
use Rattle.norm_base.specs.Datagrams.{datagram_of}
use Rattle.norm_base.specs.declared.fault.Memory.{Memory as NoMemory}
use Rattle.norm_base.specs.declared.kinds.Sent.{Sent as Said}
use Rattle.norm_ext.specs.Written.{Written}
use Rattle.norm_send_rules.specs.declared.fault.SendFault.{SendFault}
use Rattle.norm_send_rules.specs.declared.fault.SendFault.TheVariants as send_fault
use Rattle.norm_send_rules.specs.declared.job.Receipt.{Receipt}
use Rattle.norm_send_rules.specs.declared.job.Receipt.TheVariants.{Struck}
use Rattle.norm_relay.specs.RelayKept.{RelayKept, StandsFor}
use Rattle.norm_relay.specs.RelayState.{Relaying}
use Rattle.norm_relay.specs.RelayStep.{RelayEvent, RelayAnswer, Sent, relay_step}
use Rattle.norm_relay.specs.declared.relay.RelayFault.{RelayFault}
use Rattle.norm_relay.specs.declared.relay.RelayFault.TheVariants.{Profiles, Refused, Memory}

-- A call is this event, and its answer fits: for each state that the relay stood for, it stands for the step's.
abbrev pub IsCall : RelayKept → RelayKept → RelayEvent → (RelayAnswer → Type 0) → Type 0
IsCall old new event Fits = (x : Relaying) → StandsFor old x → StandsFor new (relay_step x event).0 × Fits (relay_step x event).1

-- a tick's answer fits: a datagram of these octets if one was written, else none
abbrev pub IsSent : Said → List ℕ → RelayAnswer → Type 0
IsSent said out (Sent datagram) = datagram_of said out ≡ option_map (λ (w : Written). w.octets) datagram
IsSent said out _ = ⊥

-- the sessions are refused if they cannot be relayed
abbrev pub IsRefusal : RelayFault → Bool → Type 0
IsRefusal Profiles can = can ≡ false
IsRefusal (Refused fault) can = ⊥
IsRefusal Memory can = ⊤

-- what a pump or a strike led to, as a relay's
abbrev pub outcome : {X : Type 0} → Result (Result X SendFault) NoMemory → Result X RelayFault
outcome (Ok (Ok answer)) = Ok answer
outcome (Ok (Err fault)) = Err (Refused fault)
outcome (Err memory) = Err Memory

-- what a pump is told as
abbrev pub counted : Result ℕ RelayFault → Result ℕ SendFault
counted (Ok count) = Ok count
counted (Err (Refused fault)) = Err fault
counted (Err fault) = Err send_fault.Memory

-- what a strike is told as
abbrev pub struck : {X : Type 0} → ℕ → Result X RelayFault → Result Receipt SendFault
struck node (Ok unit) = Ok (Struck node)
struck node (Err (Refused fault)) = Err fault
struck node (Err fault) = Err send_fault.Memory
