-- Whoever knows low indices takes the requests of a NACK alike, if their own are low.
use Rattle.std.proofs.Common.{◌≡◌, ℕ, ◌≤◌, cond, List, [], ◌∷◌, ◌++◌, map, Bool, true, false, Option, None, Some, refl, sym, ap, ◌∙◌, arith}
use Rattle.std.specs.Prelude.{flat_map}
use Rattle.std.specs.List.{AllByRecursion}
use Rattle.norm_base.specs.Settings.{Settings}
use Rattle.fec_plan.specs.Points.{position}
use Rattle.fec_plan.specs.declared.position.Position.{Position}
use Rattle.norm_ext.specs.Asked.{Asked, asked_items, written_item, request_alone, asked_before, requests_asked}
use Rattle.norm_ext.specs.Asking.{Named, named, named_by, spans_of}
use Rattle.norm_ext.specs.Requests.{Request, RequestItem}
use Rattle.norm_ext.proofs.AskedLemmas.{alike}
use Rattle.norm_ext.proofs.IdLemmas.{named_again_law}
use Rattle.norm_receive_rules.specs.Nack.{item_of, asked_of, indices_of}
use Rattle.norm_receive_rules.specs.Needs.{Need, Object, ObjectInfo, Symbols, Source, Rest}
use Rattle.norm_safety.proofs.LowNeeds.{AreUpTo}

module _ (p : Settings) (k l : ℕ) (low_k : k ≤ 32767) (low_l : l ≤ 32767) where
  -- an item names the same to both
  abbrev Alike : RequestItem → Type 0
  Alike x = named_by p k x ≡ named_by p l x

  item_alike : (at : Position) → at.index ≤ 32767 → Alike (written_item (item_of p at))
  item_alike at low = names k low_k ∙ sym (names l low_l)
    where
      names : (known : ℕ) → known ≤ 32767 → named_by p known (written_item (item_of p at)) ≡ Some (position at.index at.block at.symbol)
      names known le =
          ap (λ (found : Option ℕ). elim found as (λ _. Option Position) [ Some i ↦ Some (position i at.block at.symbol) | None ↦ None ])
          (named_again_law p known at.index (omega (arith, le)) (omega (arith, low)) (omega (arith, low)))

  -- so do those that a need is asked for by
  need_alike : (need : Need) → AreUpTo 32767 (indices_of need) → AllByRecursion Alike (asked_items (asked_of p need))
  need_alike (Object index) low = (item_alike (position index 0 0) low.0, tt)
  need_alike (ObjectInfo index) low = (item_alike (position index 0 0) low.0, tt)
  need_alike (Symbols index block wanted) low = (item_alike (position index block wanted) low.0, tt)
  need_alike (Source at) low = (item_alike at low.0, tt)
  need_alike (Rest index block) low = (item_alike (position index block 0) low.0, (item_alike (position index 16777215 0) low.0, tt))

  abbrev Items : Request → Type 0
  Items r = AllByRecursion Alike r.items

  all_joined : (xs ys : List RequestItem) → AllByRecursion Alike xs → AllByRecursion Alike ys → AllByRecursion Alike (xs ++ ys)
  all_joined [] ys a b = b
  all_joined (x ∷ xs) ys a b = (a.0, all_joined xs ys a.1 b)

  before_alike : (a : Asked) (rs : List Request) → AllByRecursion Alike (asked_items a) → AllByRecursion Items rs → AllByRecursion Items (asked_before a rs)
  before_alike a [] own all = (own, tt)
  before_alike a (r ∷ rs) own all = go (alike a.form a.flags r.form r.flags)
    where
      go : (b : Bool) → AllByRecursion Items (cond b (record r { items = asked_items a ++ r.items } ∷ rs) (request_alone a ∷ r ∷ rs))
      go true = (all_joined (asked_items a) r.items own all.0, all.1)
      go false = (own, all)

  front : (xs ys : List ℕ) → AreUpTo 32767 (xs ++ ys) → AreUpTo 32767 xs × AreUpTo 32767 ys
  front [] ys all = (tt, all)
  front (x ∷ xs) ys all = let more = front xs ys all.1 in ((all.0, more.0), more.1)

  all_alike : (wanted : List Need) → AreUpTo 32767 (flat_map indices_of wanted) → AllByRecursion Items (requests_asked (map (asked_of p) wanted))
  all_alike [] low = tt
  all_alike (need ∷ wanted) low =
      let parts = front (indices_of need) (flat_map indices_of wanted) low in
      before_alike (asked_of p need) (requests_asked (map (asked_of p) wanted)) (need_alike need parts.0) (all_alike wanted parts.1)

  items_same : (items : List RequestItem) → AllByRecursion Alike items → map (named_by p k) items ≡ map (named_by p l) items
  items_same [] all = refl
  items_same (x ∷ items) all =
      ap (λ (o : Option Position). o ∷ map (named_by p k) items) all.0 ∙ ap (λ (os : List (Option Position)). named_by p l x ∷ os) (items_same items all.1)

  requests_same : (rs : List Request) → AllByRecursion Items rs → map (named p k) rs ≡ map (named p l) rs
  requests_same [] all = refl
  requests_same (r ∷ rs) all =
      ap (λ (os : List (Option Position)). record { form = r.form; flags = r.flags; spans = spans_of r.form os } ∷ map (named p k) rs) (items_same r.items all.0)
      ∙ ap (λ (ns : List Named). named p l r ∷ ns) (requests_same rs all.1)

pub same_reading : (p : Settings) (k l : ℕ) → k ≤ 32767 → l ≤ 32767 → (wanted : List Need) → AreUpTo 32767 (flat_map indices_of wanted)
    → map (named p k) (requests_asked (map (asked_of p) wanted)) ≡ map (named p l) (requests_asked (map (asked_of p) wanted))
same_reading p k l low_k low_l wanted low =
    requests_same p k l low_k low_l (requests_asked (map (asked_of p) wanted)) (all_alike p k l low_k low_l wanted low)
