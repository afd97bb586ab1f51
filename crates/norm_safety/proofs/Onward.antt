-- Instances go on: what an instance has in its order it keeps, where only a last entry that is an open stream gets more parts, and
-- its drop point never falls.
use Rattle.std.proofs.Common.{◌≡◌, ℕ, cond, List, [], ◌∷◌, ◌++◌, Bool, true, false, Option, None, Some, refl, sym, ap, ◌∙◌, subst, append_assoc}
use Rattle.std.specs.Prelude.{find, ◌==◌}
use Rattle.fec_plan.specs.Points.{point_before}
use Rattle.fec_plan.proofs.PointLemmas.{not_before_itself, not_before_both}
use Rattle.norm_order.specs.Entries.{Part, Object, Whole, Stream, Entry}
use Rattle.norm_send_rules.specs.SenderState.{SenderState, Instance}
use Rattle.norm_send_rules.specs.Restarting.{instances}
use Rattle.norm_safety.proofs.EntryLemmas.{clash}
use Rattle.norm_safety.proofs.GoesOn.{ObjectLater, OrderLater, object_itself, order_itself, has_end_more}

-- an instance among others
abbrev pub instance_in : List Instance → ℕ → Option Instance
instance_in all id = find (λ (i : Instance). i.id == id) all

-- An instance later: its order went on, and its drop point is not before the one that was.
pub record LaterThan (now was : Instance) : Type 0 where
  pub order : OrderLater was.order now.order
  pub drop : point_before now.drop was.drop ≡ false

-- each instance goes on
abbrev pub GoOn : List Instance → List Instance → Type 0
GoOn all later = (id : ℕ) (i : Instance) → instance_in all id ≡ Some i → (j : Instance) × (instance_in later id ≡ Some j) × LaterThan j i

-- the instances of a sender go on
abbrev pub Onward : SenderState → SenderState → Type 0
Onward s t = GoOn (instances s) (instances t)

pub not_true : (b : Bool) → (b ≡ true → ⊥) → b ≡ false
not_true true h = absurd (h refl)
not_true false h = refl

-- ---- what goes on twice

pub object_both : (a b c : Object) → ObjectLater a b → ObjectLater b c → ObjectLater a c
object_both (Whole kind info octets) b c h g = let L : Object → Type 0 = λ o. ObjectLater o c in subst L h g
object_both (Stream parts) b c (more, is, none) g =
    let L : Object → Type 0 = λ o. ObjectLater o c in
    let next : ObjectLater (Stream (parts ++ more)) c = subst L is g in (
      more ++ next.0,
      next.1 ∙ ap Stream (append_assoc parts more next.0),
      λ e. (
          let first = none e in
          let second = next.2 (has_end_more parts more e) in
          ap (λ (xs : List Part). xs ++ next.0) first ∙ second
          ),
    )

entry_both : (a b c : Entry) → (b.by ≡ a.by) × ObjectLater a.object b.object → (c.by ≡ b.by) × ObjectLater b.object c.object
    → (c.by ≡ a.by) × ObjectLater a.object c.object
entry_both a b c h g = (g.0 ∙ h.0, object_both a.object b.object c.object h.1 g.1)

no_less : (w : Entry) (order : List Entry) → OrderLater (w ∷ order) [] → ⊥
no_less w [] h = h
no_less w (x ∷ order) h = h

pub order_both : (a b c : List Entry) → OrderLater a b → OrderLater b c → OrderLater a c
order_both [] b c h g = tt
order_both (x ∷ []) [] c h g = absurd h
order_both (x ∷ []) (y ∷ []) [] h g = absurd g
order_both (x ∷ []) (y ∷ []) (z ∷ c) h g = entry_both x y z h g
order_both (x ∷ []) (y ∷ v ∷ b) [] h g = absurd g
order_both (x ∷ []) (y ∷ v ∷ b) (z ∷ c) h g =
    let L : Entry → Type 0 = λ e. (e.by ≡ x.by) × ObjectLater x.object e.object in subst L (sym g.0) h
order_both (x ∷ w ∷ a) [] c h g = absurd h
order_both (x ∷ w ∷ a) (y ∷ []) c h g = absurd (no_less w a h.1)
order_both (x ∷ w ∷ a) (y ∷ v ∷ b) [] h g = absurd g
order_both (x ∷ w ∷ a) (y ∷ v ∷ b) (z ∷ c) h g = (g.0 ∙ h.0, order_both (w ∷ a) (v ∷ b) c h.1 g.1)

-- entries join
pub order_joined : (order more : List Entry) → OrderLater order (order ++ more)
order_joined [] more = tt
order_joined (x ∷ []) more = (refl, object_itself x.object)
order_joined (x ∷ y ∷ order) more = (refl, order_joined (y ∷ order) more)

-- the last entry goes on
pub order_grown : (front : List Entry) (x y : Entry) → y.by ≡ x.by → ObjectLater x.object y.object → OrderLater (front ++ x ∷ []) (front ++ y ∷ [])
order_grown [] x y by h = (by, h)
order_grown (z ∷ []) x y by h = (refl, order_grown [] x y by h)
order_grown (z ∷ w ∷ front) x y by h = (refl, order_grown (w ∷ front) x y by h)

pub later_itself : (i : Instance) → LaterThan i i
later_itself i = record { order = order_itself i.order; drop = not_before_itself i.drop }

later_both : (i j k : Instance) → LaterThan j i → LaterThan k j → LaterThan k i
later_both i j k h g = record {
  order = order_both i.order j.order k.order h.order g.order;
  drop = not_before_both i.drop j.drop k.drop h.drop g.drop;
}

pub goes_on_itself : (all : List Instance) → GoOn all all
goes_on_itself all id i e = (i, e, later_itself i)

pub go_on_both : (a b c : List Instance) → GoOn a b → GoOn b c → GoOn a c
go_on_both a b c h g id i e =
    let first = h id i e in let second = g id first.0 first.1 in (second.0, second.1, later_both i first.0 second.0 first.2 second.2)

same_one : (x y : Instance) → Some x ≡ Some y → x ≡ y
same_one x y e = cc

nothing : (y : Instance) → None ≡ Some y → ⊥
nothing y e = cc

-- the last instance goes on
pub last_goes_on : (earlier : List Instance) (was now : Instance) → now.id ≡ was.id → LaterThan now was
    → GoOn (earlier ++ was ∷ []) (earlier ++ now ∷ [])
last_goes_on [] was now same later id i e = go (was.id == id) (now.id == id) (ap (λ (n : ℕ). n == id) same) e
  where
    go : (b c : Bool) → c ≡ b → cond b (Some was) None ≡ Some i → (j : Instance) × (cond c (Some now) None ≡ Some j) × LaterThan j i
    go true true is e = let L : Instance → Type 0 = λ x. LaterThan now x in (now, refl, subst L (same_one was i e) later)
    go true false is e = absurd (clash is)
    go false c is e = absurd (nothing i e)
last_goes_on (x ∷ earlier) was now same later id i e = go (x.id == id) (last_goes_on earlier was now same later id i) e
  where
    go : (b : Bool) → (instance_in (earlier ++ was ∷ []) id ≡ Some i → (j : Instance) × (instance_in (earlier ++ now ∷ []) id ≡ Some j) × LaterThan j i)
        → cond b (Some x) (instance_in (earlier ++ was ∷ []) id) ≡ Some i
        → (j : Instance) × (cond b (Some x) (instance_in (earlier ++ now ∷ []) id) ≡ Some j) × LaterThan j i
    go true more e = (i, e, later_itself i)
    go false more e = more e

-- instances stay where one more begins
pub more_goes_on : (all : List Instance) (next : Instance) → GoOn all (all ++ next ∷ [])
more_goes_on [] next id i e = absurd (nothing i e)
more_goes_on (x ∷ all) next id i e = go (x.id == id) (more_goes_on all next id i) e
  where
    go : (b : Bool) → (instance_in all id ≡ Some i → (j : Instance) × (instance_in (all ++ next ∷ []) id ≡ Some j) × LaterThan j i)
        → cond b (Some x) (instance_in all id) ≡ Some i → (j : Instance) × (cond b (Some x) (instance_in (all ++ next ∷ []) id) ≡ Some j) × LaterThan j i
    go true more e = (i, e, later_itself i)
    go false more e = more e
