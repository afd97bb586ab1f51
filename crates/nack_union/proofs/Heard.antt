-- A union as requests join the open round, and what may be noted of it.
use Rattle.std.proofs.Common.{◌≡◌, ℕ, zero, suc, ◌+◌, ◌-◌, ◌*◌, ◌<◌, ◌≤◌, ◌⊎◌, inl, inr, Bool, true, false, ◌∙◌, arith, drop, length, get_or, List, [], ◌∷◌, ◌++◌, map, Option, Some, None, refl, sym, ap, subst}
use Rattle.std.specs.Prelude.{slice_get, nat_lt, option_map}
use Rattle.std.proofs.lemmas.Bool.{cases_lt, ltb-true}
use Rattle.std.proofs.lemmas.Option.{slice_get-map, slice_get_within, get_or_from_slice_get}
use Rattle.std.proofs.lemmas.List.{append-nil}
use Rattle.norm_order.specs.Shapes.{Shape, encoded_in}
use Rattle.norm_send_rules.specs.InWindow.{current_shapes}
use Rattle.norm_send_rules.specs.declared.want.Want.TheVariants.{Symbol}
use Rattle.nack_union.specs.Laws.{MayBeNoted}
use Rattle.nack_union.proofs.Dropped.{not_behind}
use Rattle.nack_union.proofs.Fronts.{block_kept}
use Rattle.norm_base.specs.Settings.{Settings}
use Rattle.norm_ext.specs.Requests.{Request}
use Rattle.norm_order.specs.Moments.{moment_after}
use Rattle.norm_send_rules.specs.SenderState.{SenderState, Asked, Round}
use Rattle.norm_send_rules.specs.Hearing.{asked_now, round_at, joined_round}
use Rattle.nack_union.specs.Kept.{Kept, Marked, UnionReads, HoldsFor, Holds, IsEncodedIn, asked_so_far, shape_of_marked}
use Rattle.nack_union.specs.Collected.{CollectsFor, Collects}
use Rattle.nack_union.specs.UnionState.{Stands}

-- what was asked is no part of what is held
holds_asked : (p : Settings) (u : Kept) (r : UnionReads) (asked : List Asked) → HoldsFor p u r → HoldsFor p u (record r { asked = asked })
holds_asked p u r asked h = record { first = h.first; fronts = h.fronts; next = h.next; shapes = h.shapes; wants = h.wants; rise = h.rise; sent = h.sent; rooms = h.rooms }

collects_asked : (p : Settings) (u : Kept) (r : UnionReads) (asked more : List Asked) → CollectsFor p u r asked → CollectsFor p u (record r { asked = more }) asked
collects_asked p u r asked more c = record { known = c.known; named = c.named; counts = c.counts; earliest = c.earliest }

-- the round that requests join has what was asked so far
so_far : (p : Settings) (s : SenderState) (now : ℕ) → asked_so_far s ≡ (round_at p s now).asked
so_far p s now = go s.round
  where
    go : (r : Option Round) → (elim r as (λ v. List Asked) [ Some round ↦ round.asked | None ↦ [] ])
        ≡ (elim r as (λ v. Round) [ Some round ↦ round | None ↦ record { closes = moment_after now ((p.k + 1) * p.grtt); asked = [] } ]).asked
    go (Some r) = refl
    go None = refl

pub stands_heard : (p : Settings) (u : Kept) (s : SenderState) (now : ℕ) (requests : List Request) → Holds p u s → Collects p u s (asked_so_far s ++ map (asked_now p s) requests)
    → Stands (record { p = p; kept = u }) (joined_round p s now requests)
stands_heard p u s now [] h c = record { holds = h; collects = subst (λ (asked : List Asked). Collects p u s asked) (append-nil (asked_so_far s)) c }
stands_heard p u s now (r ∷ requests) h c =
    subst (λ (asked : List Asked). Stands (record { p = p; kept = u }) (record s { round = Some (record (round_at p s now) { asked = asked ++ map (asked_now p s) (r ∷ requests) }) }))
    (so_far p s now) (record {
      holds = holds_asked p u _ (asked_so_far s ++ map (asked_now p s) (r ∷ requests)) h;
      collects = collects_asked p u _ (asked_so_far s ++ map (asked_now p s) (r ∷ requests)) (asked_so_far s ++ map (asked_now p s) (r ∷ requests)) c;
    })

-- what was asked so far is what the open round was asked
pub asked_by_round : (p : Settings) (u : Kept) (s : SenderState) (r : Round) → s.round ≡ Some r → Collects p u s (asked_so_far s) → Collects p u s r.asked
asked_by_round p u s r is c = subst (λ (asked : List Asked). Collects p u s asked) (ap (λ (o : Option Round). elim o as (λ v. List Asked) [ Some round ↦ round.asked | None ↦ [] ]) is) c

pub get_dropped : {X : Type 0} (d : ℕ) (xs : List X) (n : ℕ) → slice_get (drop d xs) n ≡ slice_get xs (d + n)
get_dropped zero xs n = ap (slice_get xs) (let e : n ≡ 0 + n = omega arith in e)
get_dropped (suc d) [] n = refl
get_dropped (suc d) (x ∷ xs) n = get_dropped d xs n ∙ ap (slice_get (x ∷ xs)) (let e : suc (d + n) ≡ suc d + n = omega arith in e)

pub may_be_noted : MayBeNoted
may_be_noted u s at stands encoded behind = go (slice_get u.kept.objects (at.index - u.kept.first)) refl (ap test (sym shape) ∙ encoded)
  where
    test : Option Shape → Bool
    test r = elim r as (λ v. Bool) [ Some x ↦ nat_lt at.symbol (encoded_in x at.block) | None ↦ false ]

    low : u.kept.first ≤ at.index
    low = by (cases_lt at.index s.current.drop.index)
      where
        clash : false ≡ true → ⊥
        clash e = cc

        by : (at.index < s.current.drop.index) ⊎ (s.current.drop.index ≤ at.index) → u.kept.first ≤ at.index
        by (inl lt) = absurd (clash (sym (not_behind s.current.drop (Symbol at) lt) ∙ behind))
        by (inr le) = let first = stands.holds.first in omega (arith, first, le)

    shape : slice_get (current_shapes u.p s) at.index ≡ option_map shape_of_marked (slice_get u.kept.objects (at.index - u.kept.first))
    shape =
        ap (slice_get (current_shapes u.p s)) (let e : at.index ≡ u.kept.first + (at.index - u.kept.first) = omega (arith, low) in e)
        ∙ sym (get_dropped u.kept.first (current_shapes u.p s) (at.index - u.kept.first))
        ∙ ap (λ (xs : List Shape). slice_get xs (at.index - u.kept.first)) (sym stands.holds.shapes)
        ∙ slice_get-map shape_of_marked u.kept.objects (at.index - u.kept.first)

    go : (r : Option Marked) → slice_get u.kept.objects (at.index - u.kept.first) ≡ r → test (option_map shape_of_marked r) ≡ true → IsEncodedIn u.kept at
    go None is e = absurd (cc)
    go (Some m) is e = record {
      first = low;
      object = let within = slice_get_within u.kept.objects (at.index - u.kept.first) m is in omega (arith, within, low);
      symbol = λ n there. ltb-true at.symbol (encoded_in (shape_of_marked n) at.block) (ap (λ (k : Marked). nat_lt at.symbol (encoded_in (shape_of_marked k) at.block)) (same n there) ∙ e);
      kept = λ n there.
          let within = slice_get_within u.kept.objects (at.index - u.kept.first) n there in
          let here = get_or_from_slice_get u.kept.objects (at.index - u.kept.first) n n there in
          subst (λ (k : Marked). k.first ≤ at.block) here
          (block_kept s.current.drop u.kept.first (at.index - u.kept.first) at u.kept.objects n stands.holds.fronts stands.holds.first within (omega (arith, low)) behind);
    }
      where
        same : (n : Marked) → slice_get u.kept.objects (at.index - u.kept.first) ≡ Some n → n ≡ m
        same n there = let e = sym there ∙ is in cc

-- an element that was read stands there
pub there_at : {X : Type 0} (xs : List X) (i : ℕ) (x : X) → i < length xs → x ≡ get_or xs i x → slice_get xs i ≡ Some x
there_at [] i x lt e = absurd (omega arith)
there_at (y ∷ ys) zero x lt e = ap Some (sym e)
there_at (y ∷ ys) (suc i) x lt e = there_at ys i x (omega arith) e
