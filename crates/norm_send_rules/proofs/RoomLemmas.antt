-- There is room after room was made, and nothing went that did not have to.
use Rattle.std.proofs.Common.{◌≡◌, ℕ, zero, suc, ◌+◌, ◌<◌, ◌≤◌, ◌⊎◌, inl, inr, List, [], ◌∷◌, Bool, true, false, refl, sym, ap, ◌∙◌, arith}
use Rattle.std.specs.Prelude.{take, drop, ◌&&◌}
use Rattle.std.specs.Bool.{Decides}
use Rattle.std.proofs.lemmas.Bool.{cases_lt}
use Rattle.norm_base.specs.Settings.{Settings}
use Rattle.norm_order.specs.Entries.{Entry}
use Rattle.norm_order.specs.Shapes.{shape_of}
use Rattle.norm_send_rules.specs.Dropping.{dropped_to}
use Rattle.norm_send_rules.specs.Room.{window, has_room, has_to_go, may_go, may_all_go, can_make_room, drop_after}
use Rattle.norm_send_rules.specs.RoomLaws.{SomeFrontMakesRoom, RoomLaws}
use Rattle.norm_send_rules.specs.SenderState.{SenderState}

clash : false ≡ true → ⊥
clash e = cc

both : (a b : Bool) → a ≡ true → b ≡ true → (a && b) ≡ true
both true b e f = f
both false b e f = absurd (clash e)

both_true : (a b : Bool) → (a && b) ≡ true → (a ≡ true) × (b ≡ true)
both_true true b e = (refl, e)
both_true false b e = absurd (clash e)

enough : (p : Settings) (size : ℕ) (entries : List Entry) → has_room p size [] ≡ true → has_room p size (drop (has_to_go p size entries) entries) ≡ true
unfolding has_to_go
enough p size [] e = e
enough p size (x ∷ xs) e = go (has_room p size (x ∷ xs)) refl (enough p size xs e)
  where
    go : (b : Bool) → has_room p size (x ∷ xs) ≡ b → has_room p size (drop (has_to_go p size xs) xs) ≡ true
        → has_room p size (drop (elim b [ true ↦ 0 | false ↦ suc (has_to_go p size xs) ]) (x ∷ xs)) ≡ true
    go true is more = is
    go false is more = more

fewest : (p : Settings) (size n : ℕ) (entries : List Entry) → n < has_to_go p size entries → has_room p size (drop n entries) ≡ false
unfolding has_to_go
fewest p size n [] lt = absurd (omega arith)
fewest p size n (x ∷ xs) lt = go (has_room p size (x ∷ xs)) refl n lt (λ m less. fewest p size m xs less)
  where
    go : (b : Bool) → has_room p size (x ∷ xs) ≡ b → (n : ℕ) → n < elim b [ true ↦ 0 | false ↦ suc (has_to_go p size xs) ]
        → ((m : ℕ) → m < has_to_go p size xs → has_room p size (drop m xs) ≡ false) → has_room p size (drop n (x ∷ xs)) ≡ false
    go true is n lt more = absurd (omega arith)
    go false is zero lt more = is
    go false is (suc n) lt more = more n (omega arith)

-- of a front that may go each shorter one may
shorter : (p : Settings) (s : SenderState) (m n index : ℕ) (entries : List Entry) → m ≤ n → may_all_go p s index (take n entries) ≡ true
    → may_all_go p s index (take m entries) ≡ true
unfolding may_all_go
shorter p s zero n index entries le e = refl
shorter p s (suc m) zero index entries le e = absurd (omega arith)
shorter p s (suc m) (suc n) index [] le e = e
shorter p s (suc m) (suc n) index (x ∷ xs) le e =
    let parts = both_true (may_go p s index (shape_of p x.object)) (may_all_go p s (suc index) (take n xs)) e in
    both (may_go p s index (shape_of p x.object)) (may_all_go p s (suc index) (take m xs)) parts.0 (shorter p s m n (suc index) xs (omega arith) parts.1)

refused : (p : Settings) (s : SenderState) (size : ℕ) → has_room p size [] ≡ true → Decides (can_make_room p s size) (SomeFrontMakesRoom p s size)
refused p s size e = (
  λ can. (has_to_go p size (window s), can, enough p size (window s) e),
  λ some. go some (cases_lt some.0 (has_to_go p size (window s))),
)
  where
    go : (some : SomeFrontMakesRoom p s size) → (some.0 < has_to_go p size (window s)) ⊎ (has_to_go p size (window s) ≤ some.0)
        → can_make_room p s size ≡ true
    go some (inl less) = absurd (clash (sym (fewest p size some.0 (window s) less) ∙ some.2))
    go some (inr le) = shorter p s (has_to_go p size (window s)) some.0 s.current.drop.index (window s) le some.1

none_left : (n : ℕ) (xs : List Entry) → xs ≡ [] → drop n xs ≡ xs
none_left zero xs e = refl
none_left (suc n) [] e = refl
none_left (suc n) (x ∷ xs) e = absurd (cc)

drop_more : (a b c : ℕ) (xs : List Entry) → c ≡ a + b → drop c xs ≡ drop b (drop a xs)
drop_more zero b c xs e = ap (λ (n : ℕ). drop n xs) (let same : c ≡ b = omega arith in same)
drop_more (suc a) b zero (x ∷ xs) e = absurd (omega arith)
drop_more (suc a) b (suc c) (x ∷ xs) e = drop_more a b c xs (omega arith)
drop_more (suc a) b c [] e = none_left c [] refl ∙ sym (none_left b [] refl)

left : (s : SenderState) (n : ℕ) → window (dropped_to (drop_after s.current.drop n) s) ≡ drop n (window s)
left s zero = refl
left s (suc n) = drop_more s.current.drop.index (suc n) (s.current.drop.index + suc n) s.current.order refl

pub room_laws : RoomLaws
room_laws = record { enough = enough; fewest = fewest; refused = refused; left = left }
