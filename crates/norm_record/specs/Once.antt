-- The hand-ups of a journal, and each of them kept once.
use Rattle.std.specs.Prelude.{ℕ, ◌≡◌, List, [], ◌∷◌, map, Contains, nat_eq}
use Rattle.std.specs.List.{flat_map, IsDistinct}
use Rattle.std.specs.Set.{is_member}
use Rattle.norm_order.specs.declared.up.Up.{Up}
use Rattle.norm_journal.specs.declared.event.Event.{Event}
use Rattle.norm_journal.specs.declared.event.Event.TheVariants as event
use Rattle.norm_record.specs.declared.ups.HandUp.{HandUp}
use Rattle.norm_record.specs.HandUps.{up_name, kept_names}

-- the hand-up of an event, behind its instance
abbrev pub up_in : Event → List (ℕ × Up)
up_in (event.Up node instance up) = (instance, up) ∷ []
up_in _ = []

-- those of a journal
abbrev pub ups_in : List Event → List (ℕ × Up)
ups_in events = flat_map up_in events

-- their names: instance, part, index and offset
abbrev pub names_in : List Event → List ℕ
names_in events = map (λ (u : ℕ × Up). up_name u.0 u.1) (ups_in events)

-- hand-ups with one name are the same
abbrev pub UpsAgree : List Event → Type 0
UpsAgree events = (a b : ℕ × Up) → Contains (ups_in events) a → Contains (ups_in events) b → up_name a.0 a.1 ≡ up_name b.0 b.1 → a ≡ b

-- Kept is what was handed up, under the same names, and each name once where hand-ups with one name are the same.
pub record UpsKept (ups : List HandUp) (events : List Event) : Type 0 where
  pub of : (h : HandUp) → Contains ups h → Contains (ups_in events) (h.instance, h.up)
  pub named : (name : ℕ) → is_member nat_eq (kept_names ups) name ≡ is_member nat_eq (names_in events) name
  pub once : UpsAgree events → IsDistinct nat_eq (kept_names ups)
