-- A turn that goes on from a course comes to the world that it comes to from that course's world, with the draws that are left.
use Rattle.std.proofs.Common.{◌≡◌, ℕ, zero, suc, ◌+◌, List, [], ◌∷◌, Bool, true, false, Option, None, Some, refl, sym, ap, ◌∙◌, subst, arith}
use Rattle.std.specs.Prelude.{◌==◌, fold}
use Rattle.std.specs.Fn.{iterate}
use Rattle.norm_base.specs.Members.{receivers_of}
use Rattle.norm_base.specs.Settings.{Settings}
use Rattle.norm_ext.specs.Written.{Written}
use Rattle.norm_safety.specs.Events.{Event, Delivered, Ticked, Offered, UpTaken, NewsAsked}
use Rattle.norm_safety.specs.Tail.{Course, course_from, comes, untold, tells, untaken, takes, copy_comes, others_than, given_by, passes_on, sender_ticks, receiver_ticks, serves, tail_turn, tail_turns}
use Rattle.norm_safety.specs.World.{World}
use Rattle.norm_safety.specs.WorldStep.{world_step}

-- the draws after so many
abbrev pub shift : ℕ → (ℕ → ℕ) → ℕ → ℕ
shift u draws i = draws (u + i)

module _ (p : Settings) (draws : ℕ → ℕ) (u : ℕ) where
  -- one course has the other's world, and used so many draws more
  record Like (c d : Course) : Type 0 where
    world : c.world ≡ d.world
    used : c.used ≡ u + d.used

  comes_like : (e : Event) (c d : Course) → Like c d → Like (comes p e c) (comes p e d)
  comes_like e c d h = record { world = ap (λ (w : World). (world_step p w e).0) h.world; used = h.used }

  times_like : (n : ℕ) (e : Event) (c d : Course) → Like c d → Like (iterate (comes p e) n c) (iterate (comes p e) n d)
  times_like zero e c d h = h
  times_like (suc n) e c d h = times_like n e (comes p e c) (comes p e d) (comes_like e c d h)

  tells_like : (c d : Course) → Like c d → Like (tells p c) (tells p d)
  tells_like c d h =
      subst (λ (n : ℕ). Like (iterate (comes p NewsAsked) n c) (tells p d)) (sym (ap (λ (w : World). untold w.sender) h.world))
      (times_like (untold d.world.sender) NewsAsked c d h)

  takes_like : (node : ℕ) (c d : Course) → Like c d → Like (takes p node c) (takes p node d)
  takes_like node c d h =
      subst (λ (n : ℕ). Like (iterate (comes p (UpTaken node)) n c) (takes p node d)) (sym (ap (λ (w : World). untaken w node) h.world))
      (times_like (untaken d.world node) (UpTaken node) c d h)

  copy_like : (now : ℕ) (octets : List ℕ) (node : ℕ) (c d : Course) → Like c d → Like (copy_comes p draws now octets c node) (copy_comes p (shift u draws) now octets d node)
  copy_like now octets node c d h = go (node == p.sender)
    where
      go : (b : Bool) → Like (elim b as (λ _. Course) [
        | true ↦ tells p (comes p (Delivered node octets now 0) c)
        | false ↦ comes p (Delivered node octets now (draws c.used)) (record c { used = c.used + 1 })
      ]) (elim b as (λ _. Course) [
        | true ↦ tells p (comes p (Delivered node octets now 0) d)
        | false ↦ comes p (Delivered node octets now (draws (u + d.used))) (record d { used = d.used + 1 })
      ])
      go true = tells_like (comes p (Delivered node octets now 0) c) (comes p (Delivered node octets now 0) d) (comes_like (Delivered node octets now 0) c d h)
      go false = record {
        world = ap (λ (w : World). (world_step p w (Delivered node octets now (draws c.used))).0) h.world
            ∙ ap (λ (n : ℕ). (world_step p d.world (Delivered node octets now (draws n))).0) h.used;
        used = (let same = h.used in omega (arith, same));
      }

  copies_like : (now : ℕ) (octets : List ℕ) (nodes : List ℕ) (c d : Course) → Like c d
      → Like (fold (copy_comes p draws now octets) c nodes) (fold (copy_comes p (shift u draws) now octets) d nodes)
  copies_like now octets [] c d h = h
  copies_like now octets (node ∷ nodes) c d h =
      copies_like now octets nodes (copy_comes p draws now octets c node) (copy_comes p (shift u draws) now octets d node) (copy_like now octets node c d h)

  passes_like : (now node : ℕ) (c d : Course) → Like c d → Like (passes_on p draws now c node) (passes_on p (shift u draws) now d node)
  passes_like now node c d h =
      subst (λ (g : Option Written). Like (on c draws g) (passes_on p (shift u draws) now d node)) (sym (ap (λ (w : World). given_by w node) h.world)) (go (given_by d.world node))
    where
      on : Course → (ℕ → ℕ) → Option Written → Course
      on x drawn g = elim g [ Some o ↦ fold (copy_comes p drawn now o.octets) (comes p (Offered node o.octets) x) (others_than p node) | None ↦ x ]

      go : (g : Option Written) → Like (on c draws g) (on d (shift u draws) g)
      go None = h
      go (Some o) = copies_like now o.octets (others_than p node) (comes p (Offered node o.octets) c) (comes p (Offered node o.octets) d) (comes_like (Offered node o.octets) c d h)

  serves_like : (now node : ℕ) (c d : Course) → Like c d → Like (serves p draws now c node) (serves p (shift u draws) now d node)
  serves_like now node c d h =
      passes_like now node (receiver_ticks p now c node) (receiver_ticks p now d node)
      (comes_like (Ticked node now) (takes p node c) (takes p node d) (takes_like node c d h))

  served_like : (now : ℕ) (nodes : List ℕ) (c d : Course) → Like c d → Like (fold (serves p draws now) c nodes) (fold (serves p (shift u draws) now) d nodes)
  served_like now [] c d h = h
  served_like now (node ∷ nodes) c d h =
      served_like now nodes (serves p draws now c node) (serves p (shift u draws) now d node) (serves_like now node c d h)

  turn_like : (now : ℕ) (c d : Course) → Like c d → Like (tail_turn p draws now c) (tail_turn p (shift u draws) now d)
  turn_like now c d h =
      let ticked = tells_like (comes p (Ticked p.sender now) c) (comes p (Ticked p.sender now) d) (comes_like (Ticked p.sender now) c d h) in
      served_like now (receivers_of p p.receivers) (passes_on p draws now (sender_ticks p now c) p.sender) (passes_on p (shift u draws) now (sender_ticks p now d) p.sender)
      (passes_like now p.sender (sender_ticks p now c) (sender_ticks p now d) ticked)

  turns_like : (n last : ℕ) (c d : Course) → Like c d → Like (tail_turns n p draws last c) (tail_turns n p (shift u draws) last d)
  unfolding tail_turns
  turns_like zero last c d h = h
  turns_like (suc n) last c d h =
      turns_like n (last + p.step) (tail_turn p draws (last + p.step) c) (tail_turn p (shift u draws) (last + p.step) d) (turn_like (last + p.step) c d h)

-- so many turns after a course
pub turns_from : (p : Settings) (draws : ℕ → ℕ) (n last : ℕ) (c : Course)
    → (tail_turns n p draws last c).world ≡ (tail_turns n p (shift c.used draws) last (course_from c.world)).world
turns_from p draws n last c =
    (turns_like p draws c.used n last c (course_from c.world) (record { world = refl; used = (omega arith) })).world

pub no_turns : (p : Settings) (draws : ℕ → ℕ) (last : ℕ) (c : Course) → tail_turns 0 p draws last c ≡ c
unfolding tail_turns
no_turns p draws last c = refl

pub one_more : (p : Settings) (draws : ℕ → ℕ) (n last : ℕ) (c : Course)
    → tail_turns (suc n) p draws last c ≡ tail_turns n p draws (last + p.step) (tail_turn p draws (last + p.step) c)
unfolding tail_turns
one_more p draws n last c = refl
