-- An instance that a receiver left is never entered again.
use Rattle.std.proofs.Common.{◌≡◌, ℕ, ◌<◌, ◌≤◌, ◌⊎◌, inl, inr, List, [], ◌∷◌, Bool, true, false, Option, None, Some, refl, sym, ap, subst, ◌∙◌, arith}
use Rattle.std.specs.Prelude.{nat_le, ◌&&◌, IfSome}
use Rattle.std.proofs.lemmas.Bool.Decides.{leb_tells}
use Rattle.norm_base.specs.Settings.{Settings}
use Rattle.norm_ext.specs.InstanceIds.{rise, most_rise, is_above}
use Rattle.norm_receive_rules.specs.InstanceLaws.{after, IsNearFirst, StaysNearFirst, height, InstanceLaws}
use Rattle.norm_receive_rules.specs.Laws.{GoesOnTo}
use Rattle.norm_receive_rules.specs.ReceiverState.{ReceiverState}
use Rattle.norm_receive_rules.specs.ReceiverStep.{ReceiverEvent, receiver_step}
use Rattle.norm_receive_rules.proofs.StepLemmas.{step_laws}

clash : false ≡ true → ⊥
clash e = cc

le_of : (a b : ℕ) → nat_le a b ≡ true → a ≤ b
le_of a b e = go (leb_tells a b)
  where
    go : ((nat_le a b ≡ true) × (a ≤ b)) ⊎ ((nat_le a b ≡ false) × (b < a)) → a ≤ b
    go (inl so) = so.1
    go (inr not_so) = absurd (clash (sym not_so.0 ∙ e))

both_true : (a b : Bool) → (a && b) ≡ true → (a ≡ true) × (b ≡ true)
both_true true b e = (refl, e)
both_true false b e = absurd (clash e)

-- less than half of all ids above the first, what lies above another lies higher
above_is_higher : (first current id : ℕ) → first < 65536 → current < 65536 → id < 65536 → rise first current ≤ 32767 → rise first id ≤ 32767
    → 1 ≤ rise current id → rise current id ≤ 32767 → rise first current < rise first id
above_is_higher first current id f c i low high some few = omega arith

Near : ℕ → Option ℕ → Type 0
Near first o = IfSome o (λ id. (id < 65536) × (rise first id ≤ most_rise))

one_higher : (first : ℕ) (from to : Option ℕ) → first < 65536 → Near first from → Near first to → GoesOnTo from to
    → (to ≡ from) ⊎ (height first from < height first to)
unfolding Near
one_higher first from to small near next (inl same) = inl same
one_higher first from to small near next (inr goes) =
    let there : Near first (Some goes.0) = subst (λ (o : Option ℕ). Near first o) goes.1 next in
    inr (go from near goes.2 there)
  where
    go : (from : Option ℕ) → Near first from → IfSome from (λ current. is_above current goes.0 ≡ true) → Near first (Some goes.0)
        → height first from < height first to
    go None here above there = let e = ap (λ (o : Option ℕ). height first o) goes.1 in omega arith
    go (Some current) here above there =
        let tests = both_true (nat_le 1 (rise current goes.0)) (nat_le (rise current goes.0) most_rise) above in
        let higher = above_is_higher first current goes.0 small here.0 there.0 here.1 there.1
        (le_of 1 (rise current goes.0) tests.0) (le_of (rise current goes.0) most_rise tests.1) in
        let e = ap (λ (o : Option ℕ). height first o) goes.1 in
        omega (arith, higher)

near_here : (p : Settings) (first : ℕ) (s : ReceiverState) (events : List ReceiverEvent) → StaysNearFirst p first s events → IsNearFirst first s
near_here p first s [] h = h
near_here p first s (event ∷ events) h = h.0

all_higher : (p : Settings) (first : ℕ) (s : ReceiverState) (events : List ReceiverEvent) → first < 65536 → StaysNearFirst p first s events
    → ((after p s events).instance ≡ s.instance) ⊎ (height first s.instance < height first (after p s events).instance)
unfolding Near
all_higher p first s [] small h = inl refl
all_higher p first s (event ∷ events) small h =
    joined (one_higher first s.instance t.instance small h.0 (near_here p first t events h.1) (step_laws.instance p s event))
    (all_higher p first t events small h.1)
  where
    t : ReceiverState
    t = (receiver_step p s event).0

    u : ReceiverState
    u = after p t events

    joined : (t.instance ≡ s.instance) ⊎ (height first s.instance < height first t.instance)
        → (u.instance ≡ t.instance) ⊎ (height first t.instance < height first u.instance)
        → (u.instance ≡ s.instance) ⊎ (height first s.instance < height first u.instance)
    joined (inl same) (inl also) = inl (also ∙ same)
    joined (inl same) (inr more) = inr (let e = ap (λ (o : Option ℕ). height first o) same in omega (arith, more))
    joined (inr less) (inl also) = inr (let e = ap (λ (o : Option ℕ). height first o) also in omega (arith, less))
    joined (inr less) (inr more) = inr (omega (arith, less, more))

pub instance_laws : InstanceLaws
instance_laws = record { higher = all_higher }
