-- What lies before the next place of a sender was sent.
use Rattle.std.proofs.Common.{◌≡◌, ℕ, zero, suc, ◌+◌, ◌<◌, ◌≤◌, cond, List, [], ◌∷◌, ◌++◌, Bool, true, false, None, Some, refl, sym, ap, ◌∙◌, subst, arith, ◌⊎◌, inl, inr}
use Rattle.std.specs.Prelude.{slice_get, not, nat_lt}
use Rattle.std.specs.List.{AllByRecursion}
use Rattle.std.proofs.lemmas.Bool.{cases_lt}
use Rattle.std.proofs.lemmas.Bool.Decides.{Decides-ltb}
use Rattle.norm_base.specs.Settings.{Settings, InRange}
use Rattle.fec_plan.specs.Points.{Point, point_of, position, position_before}
use Rattle.fec_plan.specs.declared.position.Position.{Position}
use Rattle.fec_plan.proofs.PointLemmas.{not_before}
use Rattle.norm_order.specs.Entries.{Object, Stream, Entry}
use Rattle.norm_order.specs.Sets.{is_member}
use Rattle.norm_order.specs.Shapes.{Shape, shape_of, shapes_of, at_index, closed_in, closed_blocks}
use Rattle.norm_send_rules.specs.InWindow.{current_shapes, stands_behind}
use Rattle.norm_send_rules.specs.SenderState.{SenderState}
use Rattle.norm_send_rules.specs.Sending.{new_of, new_from}
use Rattle.norm_send_rules.specs.Wants.{want_before}
use Rattle.norm_send_rules.specs.declared.want.Want.{Want}
use Rattle.norm_send_rules.specs.declared.want.Want.TheVariants.{Info, Symbol}
use Rattle.norm_safety.specs.WorldStep.{run}
use Rattle.norm_safety.proofs.EntryLemmas.{clash}
use Rattle.norm_laws.specs.SentOnce.{was_sent}
use Rattle.norm_laws.proofs.GoneSent.{once_more, block_there}
use Rattle.norm_laws.proofs.IdleRun.{run_sent}
use Rattle.norm_laws.proofs.SentLemmas.{SentSoFar}
use Rattle.norm_laws.proofs.StreamNew.{all_parts, new_get}
use Rattle.norm_recovery.specs.SteadySent.{SentBeforeNext, IsSentBeforeNext}

-- what holds of all that is new of an order holds of what is new of one of its objects
new_at : (P : Want → Type 0) (p : Settings) (first k : ℕ) (shapes : List Shape) (s : Shape) → slice_get shapes k ≡ Some s
    → AllByRecursion P (new_from p first shapes) → AllByRecursion P (new_of p (first + k) s)
unfolding new_from
new_at P p first k [] s found all = absurd (none_some found)
  where
    none_some : None ≡ Some s → ⊥
    none_some e = cc
new_at P p first zero (x ∷ shapes) s found all =
    let A : Shape → Type 0 = λ y. AllByRecursion P (new_of p (first + 0) y) in
    let N : ℕ → Type 0 = λ n. AllByRecursion P (new_of p n x) in
    subst A (same found) (subst N (let z : first ≡ first + 0 = omega arith in z) (all_parts P (new_of p first x) (new_from p (first + 1) shapes) all).0)
  where
    same : Some x ≡ Some s → x ≡ s
    same e = cc
new_at P p first (suc k) (x ∷ shapes) s found all =
    let N : ℕ → Type 0 = λ n. AllByRecursion P (new_of p n s) in
    subst N (let z : first + 1 + k ≡ first + suc k = omega arith in z)
    (new_at P p (first + 1) k shapes s found (all_parts P (new_of p first x) (new_from p (first + 1) shapes) all).1)

-- a shape of an order is that of its entry
entry_of : (p : Settings) (order : List Entry) (i : ℕ) (test : Shape → Bool) → at_index (shapes_of p order) i false test ≡ true
    → (x : Entry) × (slice_get order i ≡ Some x) × (slice_get (shapes_of p order) i ≡ Some (shape_of p x.object)) × (test (shape_of p x.object) ≡ true)
entry_of p [] i test e = absurd (clash e)
entry_of p (x ∷ order) zero test e = (x, refl, refl, e)
entry_of p (x ∷ order) (suc i) test e = entry_of p order i test e

module _ (p : Settings) (range : InRange p) (s : SenderState) (so : SentSoFar p s) where
  abbrev d : Point
  d = s.current.drop

  abbrev Done : Want → Type 0
  Done w = want_before w s.next ≡ true → stands_behind d w ≡ true → was_sent s w ≡ true

  symbol_sent : (at : Position) (x : Entry) → slice_get s.current.order at.index ≡ Some x → slice_get (current_shapes p s) at.index ≡ Some (shape_of p x.object)
      → nat_lt at.symbol (closed_in (shape_of p x.object) at.block) ≡ true → want_before (Symbol at) s.next ≡ true → is_member position_before at s.sent ≡ true
  symbol_sent at x found there e earlier = by_drop (stands_behind d (Symbol at)) refl
    where
      lt : at.symbol < closed_in (shape_of p x.object) at.block
      lt = (Decides-ltb at.symbol (closed_in (shape_of p x.object) at.block)).0 e

      block : at.block < closed_blocks (shape_of p x.object)
      block = block_there p range x.object at.block (let less = lt in omega (arith, less))

      kept : Done (Symbol at)
      kept =
          let once = once_more p range x.object at.block in
          let N : ℕ → Type 0 = λ n. AllByRecursion Done (new_of p n (shape_of p x.object)) in
          let own = subst N (let z : 0 + at.index ≡ at.index = omega arith in z) (new_at Done p 0 at.index (current_shapes p s) (shape_of p x.object) there so.sent) in
          new_get Done p at.index (shape_of p x.object) at.block at.symbol block (let less = lt in omega (arith, less, once)) own

      dropped : (at.index < d.index) ⊎ ((at.index ≡ d.index) × (at.block < d.block)) → is_member position_before at s.sent ≡ true
      dropped (inl before) = (so.gone.objects at.index x found before).symbols at.block at.symbol block lt
      dropped (inr same) =
          let stream = so.gone.stream (let less = same.1 in omega (arith, less)) in
          let is : x ≡ stream.0 = same_entry (sym found ∙ ap (slice_get s.current.order) same.0 ∙ stream.2) in
          let closed : at.symbol < closed_in (shape_of p (Stream stream.1)) at.block =
          (let O : Object → Type 0 = λ o. at.symbol < closed_in (shape_of p o) at.block in subst O (ap (λ (y : Entry). y.object) is ∙ stream.3) lt) in
          let I : ℕ → Type 0 = λ i. is_member position_before (position i at.block at.symbol) s.sent ≡ true in
          subst I (sym same.0) (so.gone.blocks at.block at.symbol same.1 (omega (arith, closed)))
        where
          same_entry : {y z : Entry} → Some y ≡ Some z → y ≡ z
          same_entry e = cc

      by_drop : (b : Bool) → stands_behind d (Symbol at) ≡ b → is_member position_before at s.sent ≡ true
      by_drop true e = kept earlier e
      by_drop false e = gone_by (cases_lt at.index d.index) (cases_lt at.block d.block)
        where
          before : (d.index < at.index) ⊎ ((d.index ≡ at.index) × (d.block ≤ at.block)) → ⊥
          before h = clash (sym e ∙ ap not (not_before (point_of at) d h))

          behind_it : d.index < at.index → ⊥
          behind_it less = before (inl less)

          gone_by : (at.index < d.index) ⊎ (d.index ≤ at.index) → (at.block < d.block) ⊎ (d.block ≤ at.block) → is_member position_before at s.sent ≡ true
          gone_by (inl less) among = dropped (inl less)
          gone_by (inr ge) (inl less) = dropped (inr (omega (arith, ge, behind_it), less))
          gone_by (inr ge) (inr le) = absurd (before (inr (omega (arith, ge, behind_it), le)))

  info_sent : (index : ℕ) (x : Entry) → slice_get s.current.order index ≡ Some x → slice_get (current_shapes p s) index ≡ Some (shape_of p x.object)
      → (shape_of p x.object).info ≡ true → want_before (Info index) s.next ≡ true → is_member nat_lt index s.sent_infos ≡ true
  info_sent index x found there is earlier = by_drop (nat_lt index d.index) refl
    where
      own : AllByRecursion Done (new_of p (0 + index) (shape_of p x.object))
      own = new_at Done p 0 index (current_shapes p s) (shape_of p x.object) there so.sent

      first : (b : Bool) → b ≡ true → (ws : List Want) → AllByRecursion Done (cond b (Info (0 + index) ∷ []) [] ++ ws) → Done (Info (0 + index))
      first true is ws all = all.0
      first false is ws all = absurd (clash is)

      by_drop : (b : Bool) → nat_lt index d.index ≡ b → is_member nat_lt index s.sent_infos ≡ true
      by_drop true e = (so.gone.objects index x found ((Decides-ltb index d.index).0 e)).info is
      by_drop false e =
          let I : ℕ → Type 0 = λ i. Done (Info i) in
          (subst I (let z : 0 + index ≡ index = omega arith in z) (first (shape_of p x.object).info is _ own)) earlier (ap not e)

  pub before_next : SentBeforeNext p s
  before_next = record {
    symbols = λ at e earlier. (
        let x = entry_of p s.current.order at.index (λ (y : Shape). nat_lt at.symbol (closed_in y at.block)) e in
        symbol_sent at x.0 x.1 x.2 x.3 earlier
        );
    infos = λ index e earlier. (let x = entry_of p s.current.order index (λ (y : Shape). y.info) e in info_sent index x.0 x.1 x.2 x.3 earlier);
  }

pub sent_before_next : IsSentBeforeNext
sent_before_next p range events = before_next p range (run p events).sender (run_sent p range events)
