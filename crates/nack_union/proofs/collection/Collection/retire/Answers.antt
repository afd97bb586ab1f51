use Rattle.std.proofs.Common.{◌≡◌, ◌+◌, ◌-◌, ◌<◌, ◌≤◌, ℕ, List, length, take, Some, Bool, true, refl, subst, sym, ap, ◌∙◌, arith}
use Rattle.std.specs.Prelude.{nat_lt, not, slice_get, false, ◌||◌}
use Rattle.std.specs.List.{list_any}
use Rattle.std.proofs.lemmas.List.{length-drop}
use Rattle.fec_plan.specs.Points.{point}
use Rattle.norm_base.specs.Settings.{Settings}
use Rattle.norm_send_rules.specs.SenderState.{SenderState, Asked}
use Rattle.norm_send_rules.specs.Dropping.{dropped_to}
use Rattle.norm_send_rules.specs.InWindow.{stands_behind}
use Rattle.nack_union.specs.Kept.{Kept, Marked, Holds, MayRetire, MayMoveOn, retired, moved_front, any_gone}
use Rattle.nack_union.specs.Collected.{Collects}
use Rattle.nack_union.proofs.Fronts.{any_front}
use Rattle.nack_union.proofs.Heard.{get_dropped}
use Rattle.nack_union.proofs.Retired.{holds_retired, collected_retired}
use Rattle.nack_union.proofs.collection.Collection.retire.Goals as goal

-- the union without the objects before, where some are left
rest_some : (old mid : Kept) (index block : ℕ) → mid ≡ retired index 0 old → MayRetire index block old → 0 < block → 0 < length mid.objects
rest_some old mid index block is may later =
    let some = may.some later in
    let low = may.not_back in
    let many = ap (λ (u : Kept). length u.objects) is in
    omega (arith, some, low, many, length-drop (index - old.first) old.objects)

rest_first : (old mid : Kept) (index block : ℕ) → mid ≡ retired index 0 old → MayRetire index block old → 0 < block
    → (m : Marked) → slice_get mid.objects 0 ≡ Some m → (m.first ≤ block) × MayMoveOn block m
rest_first old mid index block is may later m there =
    let at : slice_get old.objects (index - old.first) ≡ Some m =
    ap (slice_get old.objects) (let e : index - old.first ≡ index - old.first + 0 = omega arith in e) ∙ sym (get_dropped (index - old.first) old.objects 0)
    ∙ sym (ap (λ (u : Kept). slice_get u.objects 0) is) ∙ there in
    (may.onward m at, may.moves later m at)

-- both steps
both : (old mid new : Kept) (index block : ℕ) → mid ≡ retired index 0 old → new ≡ record mid { objects = moved_front block mid.objects } → new ≡ retired index block old
both old mid new index block one two = two ∙ ap (λ (u : Kept). record u { objects = moved_front block u.objects }) one

said : (p : Settings) (s : SenderState) (old mid : Kept) (index block : ℕ) (dropped gone : Bool) → MayRetire index block old → Holds p old s → mid ≡ retired index 0 old
    → dropped ≡ list_any (λ m. nat_lt 0 (length m.wants)) (take (index - old.first) old.objects) → gone ≡ any_gone block mid.objects
    → (dropped || gone) ≡ list_any (λ want. not (stands_behind (point index block) want)) s.wants
said p s old mid index block dropped gone may st is one two =
    ap (λ b. b || gone) one
    ∙ ap (λ b. list_any (λ m. nat_lt 0 (length m.wants)) (take (index - old.first) old.objects) || b) (two ∙ ap (λ (u : Kept). any_gone block u.objects) is)
    ∙ sym (any_front (point index block) old.first (index - old.first) old.objects (let low = may.not_back in omega (arith, low)))
    ∙ ap (list_any (λ want. not (stands_behind (point index block) want))) st.wants

pub move_to-gone-requires-clause-some : goal.move_to-gone-requires-clause-some
move_to-gone-requires-clause-some c = rest_some c.args.self.now c.drop_objects-dropped.new.self c.args.index c.args.block c.drop_objects-dropped.ensures.exact c.requires

pub move_to-gone-requires-clause-first : goal.move_to-gone-requires-clause-first
move_to-gone-requires-clause-first c = rest_first c.args.self.now c.drop_objects-dropped.new.self c.args.index c.args.block c.drop_objects-dropped.ensures.exact c.requires

or_true : (a b : Bool) → a ≡ true → a ≡ (a || b)
or_true true b e = refl
or_true false b e = absurd (cc)

holds : (p : Settings) (s : SenderState) (old mid new : Kept) (index block : ℕ) → MayRetire index block old → mid ≡ retired index 0 old
    → new ≡ record mid { objects = moved_front block mid.objects } → Holds p old s → Holds p new (dropped_to (point index block) s)
holds p s old mid new index block may one two st =
    subst (λ (u : Kept). Holds p u (dropped_to (point index block) s)) (sym (both old mid new index block one two)) (holds_retired p old s index block may st)

collected : (p : Settings) (s : SenderState) (asked : List Asked) (old mid new : Kept) (index block : ℕ) → MayRetire index block old → mid ≡ retired index 0 old
    → new ≡ record mid { objects = moved_front block mid.objects } → Holds p old s → Collects p old s asked → Collects p new (dropped_to (point index block) s) asked
collected p s asked old mid new index block may one two st col =
    subst (λ (u : Kept). Collects p u (dropped_to (point index block) s) asked) (sym (both old mid new index block one two)) (collected_retired p old s asked index block may st col)

pub returns-then-dropped-clause-exact : goal.returns-then-dropped-clause-exact
returns-then-dropped-clause-exact c =
    both c.args.self.now c.drop_objects-dropped.new.self c.move_to-gone.new.self c.args.index c.args.block c.drop_objects-dropped.ensures.exact c.move_to-gone.ensures.exact

pub returns-then-dropped-clause-stands : goal.returns-then-dropped-clause-stands
returns-then-dropped-clause-stands c = λ p s st. (
  holds p s c.args.self.now c.drop_objects-dropped.new.self c.move_to-gone.new.self c.args.index c.args.block c.requires c.drop_objects-dropped.ensures.exact c.move_to-gone.ensures.exact st,
  or_true c.drop_objects-dropped.result c.move_to-gone.result c.if-dropped.true
      ∙ said p s c.args.self.now c.drop_objects-dropped.new.self c.args.index c.args.block c.drop_objects-dropped.result c.move_to-gone.result c.requires st c.drop_objects-dropped.ensures.exact
      c.drop_objects-dropped.ensures.dropped c.move_to-gone.ensures.gone,
)

pub returns-then-dropped-clause-collects : goal.returns-then-dropped-clause-collects
returns-then-dropped-clause-collects c = λ p s asked st col.
    collected p s asked c.args.self.now c.drop_objects-dropped.new.self c.move_to-gone.new.self c.args.index c.args.block c.requires c.drop_objects-dropped.ensures.exact c.move_to-gone.ensures.exact st col

pub returns-else-dropped-clause-exact : goal.returns-else-dropped-clause-exact
returns-else-dropped-clause-exact c =
    both c.args.self.now c.drop_objects-dropped.new.self c.move_to-gone.new.self c.args.index c.args.block c.drop_objects-dropped.ensures.exact c.move_to-gone.ensures.exact

pub returns-else-dropped-clause-stands : goal.returns-else-dropped-clause-stands
returns-else-dropped-clause-stands c = λ p s st. (
  holds p s c.args.self.now c.drop_objects-dropped.new.self c.move_to-gone.new.self c.args.index c.args.block c.requires c.drop_objects-dropped.ensures.exact c.move_to-gone.ensures.exact st,
  sym (ap (λ b. b || c.move_to-gone.result) c.if-dropped.false)
      ∙ said p s c.args.self.now c.drop_objects-dropped.new.self c.args.index c.args.block c.drop_objects-dropped.result c.move_to-gone.result c.requires st c.drop_objects-dropped.ensures.exact
      c.drop_objects-dropped.ensures.dropped c.move_to-gone.ensures.gone,
)

pub returns-else-dropped-clause-collects : goal.returns-else-dropped-clause-collects
returns-else-dropped-clause-collects c = λ p s asked st col.
    collected p s asked c.args.self.now c.drop_objects-dropped.new.self c.move_to-gone.new.self c.args.index c.args.block c.requires c.drop_objects-dropped.ensures.exact c.move_to-gone.ensures.exact st col
