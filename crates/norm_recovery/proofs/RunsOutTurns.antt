-- One walk along the turns of a tail: what no event but the sender's tick breaks.
use Rattle.std.proofs.Common.{◌≡◌, ℕ, zero, suc, ◌+◌, refl, List, [], ◌∷◌, Bool, true, false, Option, None, Some}
use Rattle.std.specs.Prelude.{◌==◌, fold, ⊤}
use Rattle.std.specs.Fn.{iterate}
use Rattle.std.specs.List.{AllByRecursion}
use Rattle.norm_base.specs.Members.{receivers_of}
use Rattle.norm_base.specs.Settings.{Settings}
use Rattle.norm_ext.specs.Written.{Written}
use Rattle.norm_safety.specs.Events.{Event, Commanded, Delivered, Ticked, Offered, UpTaken, NewsAsked}
use Rattle.norm_safety.specs.Tail.{Course, comes, untold, tells, untaken, takes, copy_comes, others_than, given_by, passes_on, receiver_ticks, serves, goes_round}
use Rattle.norm_laws.proofs.LaterTailLemmas.{Quiet, not_sender}

-- an event comes at a moment, if it has one
abbrev pub IsAt : ℕ → Event → Type 0
IsAt now (Commanded by job moment) = moment ≡ now
IsAt now (Delivered node datagram moment draw) = moment ≡ now
IsAt now (Ticked node moment) = moment ≡ now
IsAt now _ = ⊤

module _ (p : Settings) (draws : ℕ → ℕ) (now : ℕ) (Kept : Course → Type 0) (each : (e : Event) → Quiet p e → IsAt now e → (c : Course) → Kept c → Kept (comes p e c))
    (drawn : (c : Course) (n : ℕ) → Kept c → Kept (record c { used = n })) where
  times_keep : (n : ℕ) (e : Event) → Quiet p e → IsAt now e → (c : Course) → Kept c → Kept (iterate (comes p e) n c)
  times_keep zero e quiet by c h = h
  times_keep (suc n) e quiet by c h = times_keep n e quiet by (comes p e c) (each e quiet by c h)

  pub tells_keep : (c : Course) → Kept c → Kept (tells p c)
  tells_keep c h = times_keep (untold c.world.sender) NewsAsked tt tt c h

  copy_keeps : (octets : List ℕ) (c : Course) (node : ℕ) → Kept c → Kept (copy_comes p draws now octets c node)
  copy_keeps octets c node h = go (node == p.sender)
    where
      go : (b : Bool) → Kept (elim b as (λ _. Course) [
        | true ↦ tells p (comes p (Delivered node octets now 0) c)
        | false ↦ comes p (Delivered node octets now (draws c.used)) (record c { used = c.used + 1 })
      ])
      go true = tells_keep (comes p (Delivered node octets now 0) c) (each (Delivered node octets now 0) tt refl c h)
      go false = each (Delivered node octets now (draws c.used)) tt refl (record c { used = c.used + 1 }) (drawn c (c.used + 1) h)

  copies_keep : (octets : List ℕ) (nodes : List ℕ) (c : Course) → Kept c → Kept (fold (copy_comes p draws now octets) c nodes)
  copies_keep octets [] c h = h
  copies_keep octets (node ∷ nodes) c h = copies_keep octets nodes (copy_comes p draws now octets c node) (copy_keeps octets c node h)

  passes_keep : (c : Course) (node : ℕ) → Kept c → Kept (passes_on p draws now c node)
  passes_keep c node h = go (given_by c.world node)
    where
      go : (given : Option Written) → Kept (elim given as (λ _. Course) [
        | Some d ↦ fold (copy_comes p draws now d.octets) (comes p (Offered node d.octets) c) (others_than p node)
        | None ↦ c
      ])
      go None = h
      go (Some d) = copies_keep d.octets (others_than p node) (comes p (Offered node d.octets) c) (each (Offered node d.octets) tt tt c h)

  serves_keep : (c : Course) (node : ℕ) → (node == p.sender) ≡ false → Kept c → Kept (serves p draws now c node)
  serves_keep c node other h =
      passes_keep (receiver_ticks p now c node) node
      (each (Ticked node now) other refl (takes p node c) (times_keep (untaken c.world node) (UpTaken node) tt tt c h))

  all_served : (nodes : List ℕ) → AllByRecursion (λ (node : ℕ). (node == p.sender) ≡ false) nodes → (c : Course) → Kept c
      → Kept (fold (serves p draws now) c nodes)
  all_served [] others c h = h
  all_served (node ∷ nodes) others c h = all_served nodes others.1 (serves p draws now c node) (serves_keep c node others.0 h)

  pub round_keeps : (c : Course) → Kept c → Kept (goes_round p draws now c)
  round_keeps c h = all_served (receivers_of p p.receivers) (not_sender p p.receivers) (passes_on p draws now c p.sender) (passes_keep c p.sender h)
