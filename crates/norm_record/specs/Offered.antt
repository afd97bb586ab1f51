-- What was offered in a journal, and takes of it.
use Rattle.std.specs.Prelude.{ℕ, ◌≡◌, List, [], ◌∷◌, ◌++◌, map, Result, MatchResult}
use Rattle.norm_journal.specs.declared.event.Event.{Event}
use Rattle.norm_journal.specs.declared.event.Event.TheVariants as event
use Rattle.norm_journal.specs.Projections.{offers_in}
use Rattle.norm_record.specs.Latest.{IsLatest}

-- the datagrams that were offered, in order
abbrev pub offered : List Event → List (List ℕ)
offered events = map (λ (offer : ℕ × List ℕ). offer.1) (offers_in events)

-- these octets are the latest offer with their source and sequence number
pub record IsOffered (offers : List (List ℕ)) (octets : List ℕ) : Type 0 where
  pub place : ℕ
  pub latest : IsLatest offers octets place

-- each take is of the latest offer before it with its source and sequence number
abbrev pub TakesOffered : List Event → Type 0
TakesOffered events = (before after : List Event) (to : ℕ) (octets : List ℕ)
    → events ≡ before ++ event.Took to octets ∷ after → IsOffered (offered before) octets

-- a push adds its event, and want of memory leaves all as it was
abbrev pub Adds : {X Y : Type 0} → List Event → List Event → Result X Y → Event → Type 0
Adds old new result e = MatchResult result (λ _. new ≡ old ++ e ∷ []) (λ _. new ≡ old)
