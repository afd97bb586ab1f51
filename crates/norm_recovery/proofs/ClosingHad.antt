-- If every member has everything that is wanted, a member that lacks something will lack it still, and that is not wanted.
use Rattle.std.proofs.Common.{◌≡◌, ℕ, List, [], length, filter, Bool, true, false, Option, None, Some, refl, sym, ap, ◌∙◌, ◌⊎◌, inl, inr}
use Rattle.std.specs.Prelude.{◌||◌, not, is_some, slice_get}
use Rattle.std.specs.List.{range_with_len}
use Rattle.norm_base.specs.Settings.{Settings}
use Rattle.fec_plan.specs.Partition.{source_symbols}
use Rattle.fec_plan.specs.Points.{position}
use Rattle.fec_plan.specs.declared.position.Position.{Position}
use Rattle.norm_order.specs.Sets.{is_member}
use Rattle.norm_order.specs.Shapes.{Shape, symbols_of, encoded_in}
use Rattle.norm_receive_rules.specs.Holding.{Holding}
use Rattle.norm_receive_rules.specs.Plans.{is_over, holds, info_of}
use Rattle.norm_receive_rules.specs.ReceiverState.{ReceiverState}
use Rattle.norm_send_rules.specs.InWindow.{current_shapes}
use Rattle.norm_send_rules.specs.SenderState.{SenderState}
use Rattle.norm_send_rules.specs.Wants.{want_before}
use Rattle.norm_send_rules.specs.Watermarks.{has_member}
use Rattle.norm_send_rules.specs.declared.want.Want.{Want}
use Rattle.norm_send_rules.specs.declared.want.Want.TheVariants.{Info, Symbol}
use Rattle.norm_safety.specs.World.{World}
use Rattle.norm_safety.proofs.EntryLemmas.{clash}
use Rattle.norm_recovery.specs.Asking.{all_have, have_wanted}
use Rattle.norm_recovery.specs.Left.{held_for, is_there, is_complete, is_had, has, will_have, all_will_have}
use Rattle.norm_recovery.proofs.ClosingLists.{In, of_not_all, of_all, more_mapped, member_in}
use Rattle.norm_recovery.proofs.LeftStays.{at_most}

pub none_member : (y : Want) → is_member want_before y [] ≡ false
unfolding is_member
none_member y = refl

pub or_false : (a b : Bool) → (a || b) ≡ false → (a ≡ false) × (b ≡ false)
or_false true b e = absurd (clash (sym e))
or_false false b e = (refl, e)

pub or_true : (a b : Bool) → (a || b) ≡ true → (a ≡ true) ⊎ (b ≡ true)
or_true true b e = inl refl
or_true false b e = inr e

pub both_false : (a b : Bool) → a ≡ false → b ≡ false → (a || b) ≡ false
both_false true b e f = absurd (clash (sym e))
both_false false b e f = f

-- ---- what a holding does not have

-- A symbol is not had: its object is not over, it is not held, and its block is not complete.
pub record Missing (p : Settings) (s : SenderState) (h : Holding) (at : Position) : Type 0 where
  pub over : is_over h at.index ≡ false
  pub held : holds h at ≡ false
  pub complete : is_complete [] h at.index at.block (slice_get (current_shapes p s) at.index) ≡ false

pub missing_of : (p : Settings) (s : SenderState) (h : Holding) (at : Position) → is_had [] p s h (Symbol at) ≡ false → Missing p s h at
missing_of p s h at e =
    let first = or_false (is_over h at.index || is_there [] h at) (is_complete [] h at.index at.block (slice_get (current_shapes p s) at.index)) e in
    let second = or_false (is_over h at.index) (is_there [] h at) first.0 in
    record {
      over = second.0;
      held = (or_false (holds h at) (is_member want_before (Symbol at) []) second.1).0;
      complete = first.1;
    }

pub is_missing : (p : Settings) (s : SenderState) (h : Holding) (at : Position) → Missing p s h at → is_had [] p s h (Symbol at) ≡ false
is_missing p s h at m =
    both_false (is_over h at.index || is_there [] h at) (is_complete [] h at.index at.block (slice_get (current_shapes p s) at.index))
    (both_false (is_over h at.index) (is_there [] h at) m.over (both_false (holds h at) (is_member want_before (Symbol at) []) m.held (none_member (Symbol at)))) m.complete

-- ---- what will be had, if everything wanted is had

-- everything wanted is had
abbrev HasWanted : List Want → Settings → SenderState → Holding → Type 0
HasWanted wants p s h = (q : Want) → is_member want_before q wants ≡ true → is_had [] p s h q ≡ true

info_will : (wants : List Want) (p : Settings) (s : SenderState) (h : Holding) (index : ℕ) → HasWanted wants p s h → is_had wants p s h (Info index) ≡ true
    → is_had [] p s h (Info index) ≡ true
info_will wants p s h index each e = go (or_true own (is_member want_before (Info index) wants) e)
  where
    own : Bool
    own = is_over h index || is_some (info_of h index)

    go : (own ≡ true) ⊎ (is_member want_before (Info index) wants ≡ true) → is_had [] p s h (Info index) ≡ true
    go (inl is) = ap (λ (b : Bool). b || is_member want_before (Info index) []) is
    go (inr wanted) = each (Info index) wanted

-- a symbol of a block that misses one is there only if it is held
symbol_there : (wants : List Want) (p : Settings) (s : SenderState) (h : Holding) (at : Position) → HasWanted wants p s h → Missing p s h at → (symbol : ℕ)
    → is_there wants h (position at.index at.block symbol) ≡ true → is_there [] h (position at.index at.block symbol) ≡ true
symbol_there wants p s h at each m symbol e = go (or_true (holds h here) (is_member want_before (Symbol here) wants) e)
  where
    here : Position
    here = position at.index at.block symbol

    pick : (a b c : Bool) → a ≡ false → c ≡ false → ((a || b) || c) ≡ true → b ≡ true
    pick true b c x y z = absurd (clash (sym x))
    pick false true c x y z = refl
    pick false false c x y z = absurd (clash (sym y ∙ z))

    go : (holds h here ≡ true) ⊎ (is_member want_before (Symbol here) wants ≡ true) → is_there [] h here ≡ true
    go (inl is) = ap (λ (b : Bool). b || is_member want_before (Symbol here) []) is
    go (inr wanted) =
        pick (is_over h at.index) (is_there [] h here) (is_complete [] h at.index at.block (slice_get (current_shapes p s) at.index)) m.over m.complete
        (each (Symbol here) wanted)

block_will : (wants : List Want) (p : Settings) (s : SenderState) (h : Holding) (at : Position) → HasWanted wants p s h → Missing p s h at → (found : Option Shape)
    → is_complete wants h at.index at.block found ≡ true → is_complete [] h at.index at.block found ≡ true
block_will wants p s h at each m None e = e
block_will wants p s h at each m (Some shape) e =
    let all : List Position = symbols_of at.index (encoded_in shape at.block) at.block in
    at_most (source_symbols shape.cut at.block) (length (filter (is_there wants h) all)) (length (filter (is_there [] h) all))
    (more_mapped (λ symbol. position at.index at.block symbol) (is_there wants h) (is_there [] h) (range_with_len 0 (encoded_in shape at.block))
    (λ symbol is. symbol_there wants p s h at each m symbol is)) e

symbol_will : (wants : List Want) (p : Settings) (s : SenderState) (h : Holding) (at : Position) → HasWanted wants p s h → is_had wants p s h (Symbol at) ≡ true
    → is_had [] p s h (Symbol at) ≡ true
symbol_will wants p s h at each e = go (is_had [] p s h (Symbol at)) refl
  where
    found : Option Shape
    found = slice_get (current_shapes p s) at.index

    there : Missing p s h at → is_there wants h at ≡ true → ⊥
    there m is = by (or_true (holds h at) (is_member want_before (Symbol at) wants) is)
      where
        by : (holds h at ≡ true) ⊎ (is_member want_before (Symbol at) wants ≡ true) → ⊥
        by (inl own) = clash (sym m.held ∙ own)
        by (inr wanted) = clash (sym (is_missing p s h at m) ∙ each (Symbol at) wanted)

    never : Missing p s h at → ⊥
    never m = by (or_true (is_over h at.index || is_there wants h at) (is_complete wants h at.index at.block found) e)
      where
        first : (is_over h at.index ≡ true) ⊎ (is_there wants h at ≡ true) → ⊥
        first (inl over) = clash (sym m.over ∙ over)
        first (inr is) = there m is

        by : ((is_over h at.index || is_there wants h at) ≡ true) ⊎ (is_complete wants h at.index at.block found ≡ true) → ⊥
        by (inl own) = first (or_true (is_over h at.index) (is_there wants h at) own)
        by (inr whole) = clash (sym m.complete ∙ block_will wants p s h at each m found whole)

    go : (b : Bool) → is_had [] p s h (Symbol at) ≡ b → b ≡ true
    go true is = refl
    go false is = absurd (never (missing_of p s h at is))

will_is_had : (wants : List Want) (p : Settings) (s : SenderState) (h : Holding) (y : Want) → HasWanted wants p s h → is_had wants p s h y ≡ true
    → is_had [] p s h y ≡ true
will_is_had wants p s h (Info index) each e = info_will wants p s h index each e
will_is_had wants p s h (Symbol at) each e = symbol_will wants p s h at each e

-- ---- a member that lacks something

-- a member lacks it
pub record Lack (p : Settings) (w : World) (y : Want) : Type 0 where
  pub r : ReceiverState
  pub there : In r w.receivers
  pub member : has_member r.node w.sender ≡ true
  pub lacks : has p w.sender r y ≡ false

pub lack_of : (p : Settings) (w : World) (y : Want) → all_have p w y ≡ false → Lack p w y
lack_of p w y e =
    let found = of_not_all (λ (r : ReceiverState). not (has_member r.node w.sender) || has p w.sender r y) w.receivers e in
    let parts = or_false (not (has_member found.0.node w.sender)) (has p w.sender found.0 y) found.2 in
    record { r = found.0; there = found.1; member = turned (has_member found.0.node w.sender) parts.0; lacks = parts.1 }
  where
    turned : (b : Bool) → not b ≡ false → b ≡ true
    turned true e = refl
    turned false e = absurd (clash (sym e))

own : (a b : Bool) → a ≡ true → (not a || b) ≡ true → b ≡ true
own true b is e = e
own false b is e = absurd (clash is)

pub lacked : (p : Settings) (w : World) (y : Want) → Lack p w y → all_have p w y ≡ true → ⊥
lacked p w y l all =
    clash (sym l.lacks ∙ own (has_member l.r.node w.sender) (has p w.sender l.r y) l.member
    (of_all (λ (r : ReceiverState). not (has_member r.node w.sender) || has p w.sender r y) l.r w.receivers all l.there))

-- it is not wanted
pub unwanted : (p : Settings) (w : World) (y : Want) → have_wanted p w ≡ true → Lack p w y → is_member want_before y w.sender.wants ≡ false
unwanted p w y have l = go (is_member want_before y w.sender.wants) refl
  where
    go : (b : Bool) → is_member want_before y w.sender.wants ≡ b → b ≡ false
    go true is = absurd (lacked p w y l (of_all (all_have p w) y w.sender.wants have (member_in y w.sender.wants is)))
    go false is = refl

-- and the member will lack it
pub will_lack : (p : Settings) (w : World) (y : Want) → have_wanted p w ≡ true → Lack p w y → all_will_have p w y ≡ false
will_lack p w y have l = go (all_will_have p w y) refl
  where
    each : HasWanted w.sender.wants p w.sender (held_for w.sender l.r)
    each q is =
        own (has_member l.r.node w.sender) (has p w.sender l.r q) l.member
        (of_all (λ (r : ReceiverState). not (has_member r.node w.sender) || has p w.sender r q) l.r w.receivers
        (of_all (all_have p w) q w.sender.wants have (member_in q w.sender.wants is)) l.there)

    go : (b : Bool) → all_will_have p w y ≡ b → b ≡ false
    go false is = refl
    go true is =
        absurd (clash (sym l.lacks ∙ will_is_had w.sender.wants p w.sender (held_for w.sender l.r) y each
        (own (has_member l.r.node w.sender) (will_have p w.sender l.r y) l.member
        (of_all (λ (r : ReceiverState). not (has_member r.node w.sender) || will_have p w.sender r y) l.r w.receivers is l.there))))
