-- How a hub sends what a member offers. What the sender offers goes once to all receivers that listen at this machine's broadcast address, and as a copy
-- to each other one; what a receiver offers goes as copies alone. Receivers that listen answer an empty datagram there, the hub's question.
use Rattle.std.specs.Prelude.{◌≡◌, ℕ, ◌+◌, ◌-◌, ◌==◌, ◌&&◌, ◌||◌, not, nat_lt, nat_le, Bool, true, false, List, map, take, Option, None, Some, slice_index_or, slice_set, if◌then◌else◌}
use Rattle.std.specs.List.{list_any, list_all, range_with_len}
use Rattle.norm_base.specs.Members.{is_receiver}
use Rattle.norm_base.specs.Settings.{Settings}
use Rattle.udp_rules.specs.Addresses.{gets_copy}
use Rattle.udp_rules.specs.declared.listening.Questions.{Questions}

-- what goes to all: what the sender offers. A receiver's would come back to it, and not to the sender, which does not listen there
abbrev pub goes_to_all : Settings → ℕ → Bool
goes_to_all p from = from == p.sender

-- a member listens: it is a receiver, and one of those that do by their indexes
abbrev pub listens : Settings → List Bool → ℕ → Bool
listens p listeners node = is_receiver p node && slice_index_or listeners (node - (p.sender + 1)) false

abbrev pub some_listen : List Bool → Bool
some_listen listeners = list_any (λ one. one) listeners

-- what a member offers is broadcast: it goes to all, and somebody listens
abbrev pub is_broadcast : Settings → List Bool → ℕ → Bool
is_broadcast p listeners from = goes_to_all p from && some_listen listeners

-- a member gets a copy of its own of what another offers, but a receiver that listens none of what goes to all
abbrev pub gets_own_copy : Settings → List Bool → (from to : ℕ) → Bool
gets_own_copy p listeners from to = gets_copy p from to && not (goes_to_all p from && listens p listeners to)

-- a member hears what is broadcast
abbrev pub hears_broadcast : Settings → List Bool → (from to : ℕ) → Bool
hears_broadcast p listeners from to = is_broadcast p listeners from && listens p listeners to

-- an answer of this moment still counts: for three seconds
abbrev pub still_counts : ℕ → Option ℕ → Bool
still_counts now None = false
still_counts now (Some answered) = nat_lt (now - answered) 3000000

-- which of sixteen receivers listen at this moment, by when each answered last
abbrev pub listeners_at : ℕ → List (Option ℕ) → List Bool
listeners_at now answered = map (λ place. still_counts now (slice_index_or answered place None)) (range_with_len 0 16)

abbrev pub all_listen : Settings → List Bool → Bool
all_listen p listeners = list_all (λ one. one) (take p.receivers listeners)

-- How long a hub waits from one question to the next: in the three seconds after its first one 50 milliseconds until all receivers listen, and else a second.
abbrev pub wait_for : Bool → (first now : ℕ) → ℕ
wait_for all first now = if nat_lt (now - first) 3000000 && not all then 50000 else 1000000

-- a question is due
abbrev pub is_due : Bool → Option Questions → ℕ → Bool
is_due all None now = true
is_due all (Some q) now = nat_le (wait_for all q.first now) (now - q.last)

-- the questions so far, with one of this moment
abbrev pub asked_at : Option Questions → ℕ → Option Questions
asked_at None now = Some (record { first = now; last = now })
asked_at (Some q) now = Some (record { first = q.first; last = now })

-- when each receiver answered last, after an answer of this member at this moment: the sender's is none
abbrev pub answered_then : Settings → List (Option ℕ) → (from now : ℕ) → List (Option ℕ)
answered_then p answered from now = if is_receiver p from then slice_set answered (from - (p.sender + 1)) (Some now) else answered

-- a receiver answers a question, whoever asked: not within 50 milliseconds of its last answer
abbrev pub answers : Option ℕ → ℕ → Bool
answers None now = true
answers (Some last) now = nat_le 50000 (now - last)

-- Whoever listens: each other member gets what a member offers, in one of the two ways and not in both, and nobody else gets it.
pub record BroadcastLaws : Type 0 where
  -- what goes to all is for each receiver and nobody else
  pub all : (p : Settings) (from to : ℕ) → goes_to_all p from ≡ true → gets_copy p from to ≡ is_receiver p to
  -- what a receiver offers is for the sender too
  pub back : (p : Settings) (from : ℕ) → is_receiver p from ≡ true → (goes_to_all p from ≡ false) × (gets_copy p from p.sender ≡ true)
  pub reaches : (p : Settings) (listeners : List Bool) (from to : ℕ)
      → (gets_own_copy p listeners from to || hears_broadcast p listeners from to) ≡ gets_copy p from to
  pub once : (p : Settings) (listeners : List Bool) (from to : ℕ)
      → (gets_own_copy p listeners from to && hears_broadcast p listeners from to) ≡ false
  -- who stopped answering gets copies again, however many others listen
  pub silent : (p : Settings) (listeners : List Bool) (from to : ℕ) → listens p listeners to ≡ false → gets_own_copy p listeners from to ≡ gets_copy p from to
