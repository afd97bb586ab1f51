-- What a journal says that a node handed up, if it handed up nothing but in one instance.
use Rattle.std.proofs.Common.{◌≡◌, ℕ, List, [], ◌∷◌, ◌++◌, Bool, true, false, refl, sym, ap, ◌∙◌}
use Rattle.std.specs.Prelude.{◌==◌, ◌&&◌}
use Rattle.std.proofs.lemmas.Bool.Decides.{Decides-eqb}
use Rattle.norm_order.specs.declared.up.Up.{Up}
use Rattle.norm_safety.proofs.EntryLemmas.{clash}
use Rattle.norm_journal.specs.Handed.{up_in, ups_in}
use Rattle.norm_journal.specs.declared.event.Event.{Event}
use Rattle.norm_journal.specs.declared.event.Event.TheVariants as event
use Rattle.norm_record.specs.HandedUp.{handed_up}
use Rattle.norm_arrival.specs.HandedBy.{up_of, ups_of}

-- a node handed up nothing in any other instance
abbrev pub OnlyIn : List Event → ℕ → ℕ → Type 0
OnlyIn events node id = (other : ℕ) → (id == other) ≡ false → ups_in events node other ≡ []

-- the same of what comes after one event
none_after : (front later : List Up) → front ++ later ≡ [] → later ≡ []
none_after [] later e = e
none_after (x ∷ front) later e = absurd (some x (front ++ later) e)
  where
    some : (y : Up) (ys : List Up) → (y ∷ ys) ≡ [] → ⊥
    some y ys e = cc

none_first : (front later : List Up) → front ++ later ≡ [] → front ≡ []
none_first [] later e = refl
none_first (x ∷ front) later e = absurd (some x (front ++ later) e)
  where
    some : (y : Up) (ys : List Up) → (y ∷ ys) ≡ [] → ⊥
    some y ys e = cc

later_only : (e : Event) (events : List Event) (node id : ℕ) → OnlyIn (e ∷ events) node id → OnlyIn events node id
later_only e events node id only other differs = none_after (up_in node other e) (ups_in events node other) (only other differs)

-- a hand-up of the node is in that instance
up_only : (node id own instance : ℕ) (up : Up) → ((other : ℕ) → (id == other) ≡ false → up_in node other (event.Up own instance up) ≡ [])
    → up_of node (own, up) ≡ up_in node id (event.Up own instance up)
up_only node id own instance up only = go (own == node) refl (instance == id) refl
  where
    some : (x : Up) → ◌≡◌ {A = List Up} (x ∷ []) [] → ⊥
    some x e = cc

    differs : (instance == id) ≡ false → (id == instance) ≡ false
    differs apart = by (id == instance) refl
      where
        by : (c : Bool) → (id == instance) ≡ c → (id == instance) ≡ false
        by true is = absurd (clash (sym apart ∙ (Decides-eqb instance id).1 (sym ((Decides-eqb id instance).0 is))))
        by false is = is

    one_up : Bool → List Up
    one_up b = elim b [ true ↦ up ∷ [] | false ↦ [] ]

    go : (b : Bool) → (own == node) ≡ b → (c : Bool) → (instance == id) ≡ c → one_up (own == node) ≡ one_up (own == node && instance == id)
    go false is c same = ap one_up is ∙ sym (ap (λ (b : Bool). one_up (b && instance == id)) is)
    go true is true same =
        ap one_up is ∙ sym (ap (λ (b : Bool). one_up (b && instance == id)) is ∙ ap (λ (c : Bool). one_up (true && c)) same)
    go true is false same =
        let there : one_up (own == node && instance == instance) ≡ up ∷ [] =
        ap (λ (b : Bool). one_up (b && instance == instance)) is ∙ ap (λ (c : Bool). one_up (true && c)) ((Decides-eqb instance instance).1 refl) in
        absurd (some up (sym there ∙ only instance (differs same)))

pub node_ups : (events : List Event) (node id : ℕ) → OnlyIn events node id → ups_of node (handed_up events) ≡ ups_in events node id
node_ups [] node id only = refl
node_ups (event.Up own instance up ∷ events) node id only =
    ap (λ (us : List Up). us ++ ups_of node (handed_up events))
    (up_only node id own instance up (λ other differs. none_first (up_in node other (event.Up own instance up)) (ups_in events node other) (only other differs)))
    ∙ ap (λ (us : List Up). up_in node id (event.Up own instance up) ++ us)
    (node_ups events node id (later_only (event.Up own instance up) events node id only))
node_ups (event.Start ∷ events) node id only = node_ups events node id only
node_ups (event.Turn turn now ∷ events) node id only = node_ups events node id only
node_ups (event.Pull by ∷ events) node id only = node_ups events node id only
node_ups (event.Job by told gave ∷ events) node id only = node_ups events node id only
node_ups (event.Length by name len fault ∷ events) node id only = node_ups events node id only
node_ups (event.Tick own said ∷ events) node id only = node_ups events node id only
node_ups (event.Offer from octets ∷ events) node id only = node_ups events node id only
node_ups (event.Took to octets ∷ events) node id only = node_ups events node id only
node_ups (event.Empty ∷ events) node id only = node_ups events node id only
node_ups (event.News news ∷ events) node id only = node_ups events node id only
node_ups (event.End ∷ events) node id only = node_ups events node id only
