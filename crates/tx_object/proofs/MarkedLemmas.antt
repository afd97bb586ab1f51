-- An object one of whose symbols was sent.
use Rattle.std.proofs.Common.{◌≡◌, ℕ, zero, suc, ◌<◌, ◌≤◌, inl, inr, Option, Bool, true, false, refl, sym, ap, ◌∙◌, subst, arith, Some, List, [], ◌∷◌, map, take}
use Rattle.std.specs.Prelude.{slice_get, nat_lt, slice_set}
use Rattle.std.proofs.Math.ListN.{set}
use Rattle.std.proofs.lemmas.Bool.{cases_lt}
use Rattle.norm_base.specs.Settings.{Settings}
use Rattle.fec_plan.specs.declared.position.Position.{Position}
use Rattle.fec_plan.specs.Partition.{Cut, IsSound, blocks, source_symbols, symbol_number}
use Rattle.norm_order.specs.Shapes.{shape_of, encoded_in}
use Rattle.norm_send_rules.specs.Enqueuing.{info_length}
use Rattle.tx_object.specs.Held.{HeldObject, octets_of, octets_in, begun_at, with_sent}
use Rattle.tx_object.specs.Placed.{IsPlaced, object_in}
use Rattle.tx_object.proofs.HeldLemmas.{encoded_none}

pub map_same : (f g : Position → Bool) (xs : List Position) → ((k : ℕ) (q : Position) → slice_get xs k ≡ Some q → g q ≡ f q) → map g xs ≡ map f xs
map_same f g [] same = refl
map_same f g (x ∷ xs) same = ap (λ b. b ∷ map g xs) (same 0 x refl) ∙ ap (λ bs. f x ∷ bs) (map_same f g xs (λ k q e. same (suc k) q e))

pub map_one : (f g : Position → Bool) (xs : List Position) (m : ℕ) (x : Position) → slice_get xs m ≡ Some x → g x ≡ true
    → ((k : ℕ) (q : Position) → slice_get xs k ≡ Some q → (k ≡ m → ⊥) → g q ≡ f q) → map g xs ≡ set (map f xs) m true
map_one f g [] m x found is same = absurd (cc)
map_one f g (y ∷ ys) zero x found is same =
    ap (λ b. b ∷ map g ys) (ap g (let z : y ≡ x = cc in z) ∙ is) ∙ ap (λ bs. true ∷ bs) (map_same f g ys (λ k q e. same (suc k) q e (λ z. omega arith)))
map_one f g (y ∷ ys) (suc m) x found is same =
    ap (λ b. b ∷ map g ys) (same 0 y refl (λ z. omega arith)) ∙ ap (λ bs. f y ∷ bs) (map_one f g ys m x found is (λ k q e apart. same (suc k) q e (λ z. apart (omega arith))))

-- an encoded symbol is in a block of the object
pub block_there : (p : Settings) (ring : List ℕ) (h : HeldObject) (block symbol : ℕ) → IsPlaced ring p h → symbol < encoded_in (shape_of p (object_in ring h)) block → block < blocks h.cut
block_there p ring h block symbol placed lt = elim (cases_lt block (blocks h.cut)) [
  | inl less ↦ less
  | inr past ↦ absurd (never (encoded_none p h.kind h.info (take (octets_of h.cut) (octets_in ring h)) block (subst IsSound placed.holds.cut placed.sound)
      (subst (λ (k : Cut). blocks k ≤ block) placed.holds.cut past)))
]
  where
    never : encoded_in (shape_of p (object_in ring h)) block ≡ 0 → ⊥
    never e = omega (arith, e, lt)

-- marks of sent symbols change neither how an object is cut nor where it lies
pub same_cut : (h : HeldObject) (block symbol : ℕ) → (with_sent h block symbol).cut ≡ h.cut
same_cut h block symbol = go (nat_lt symbol (source_symbols h.cut block))
  where
    go : (b : Bool) → (elim b as (λ v. HeldObject) [ true ↦ record h { sent = slice_set h.sent (symbol_number h.cut block symbol) true } | false ↦ h ]).cut ≡ h.cut
    go true = refl
    go false = refl

pub same_start : (h : HeldObject) (block symbol : ℕ) → (with_sent h block symbol).start ≡ h.start
same_start h block symbol = go (nat_lt symbol (source_symbols h.cut block))
  where
    go : (b : Bool) → (elim b as (λ v. HeldObject) [ true ↦ record h { sent = slice_set h.sent (symbol_number h.cut block symbol) true } | false ↦ h ]).start ≡ h.start
    go true = refl
    go false = refl

pub same_info : (h : HeldObject) (block symbol : ℕ) → (with_sent h block symbol).info ≡ h.info
same_info h block symbol = go (nat_lt symbol (source_symbols h.cut block))
  where
    go : (b : Bool) → (elim b as (λ v. HeldObject) [ true ↦ record h { sent = slice_set h.sent (symbol_number h.cut block symbol) true } | false ↦ h ]).info ≡ h.info
    go true = refl
    go false = refl

-- nor that it lies in the ring
pub placed_as : (ring : List ℕ) (p : Settings) (h k : HeldObject) → k.cut ≡ h.cut → k.start ≡ h.start → k.info ≡ h.info → IsPlaced ring p h → IsPlaced ring p k
placed_as ring p h k cut start info placed =
    again (subst (λ at. IsPlaced ring p (begun_at k.cut h.kind h.info at)) (sym start)
    (subst (λ c. IsPlaced ring p (begun_at c h.kind h.info h.start)) (sym cut) (record {
      lies = record { object = placed.lies.object; start = placed.lies.start; room = placed.lies.room; ring_whole = placed.lies.ring_whole; start_whole = placed.lies.start_whole };
      sound = placed.sound;
      holds = placed.holds;
      most = placed.most;
      short = placed.short;
    })))
  where
    again : IsPlaced ring p (begun_at k.cut h.kind h.info k.start) → IsPlaced ring p k
    again is = record {
      lies = record { object = is.lies.object; start = is.lies.start; room = is.lies.room; ring_whole = is.lies.ring_whole; start_whole = is.lies.start_whole };
      sound = is.sound;
      holds = is.holds;
      most = is.most;
      short = subst (λ (i : Option (List ℕ)). info_length i ≤ p.e) (sym info) placed.short;
    }
