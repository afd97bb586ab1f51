-- The closing of a round adds only wants, so no more is left after it.
use Rattle.std.proofs.Common.{◌≡◌, ℕ, ◌<◌, ◌≤◌, List, [], ◌∷◌, length, filter, Bool, true, false, Option, None, Some, refl, sym, ap, ◌∙◌, arith, ◌⊎◌, inl, inr}
use Rattle.std.specs.Prelude.{◌&&◌, ◌||◌, not, is_some, nat_lt, nat_le, slice_get}
use Rattle.std.specs.List.{list_all}
use Rattle.std.proofs.lemmas.Bool.Decides.{Decides-ltb, leb_tells}
use Rattle.norm_base.specs.Settings.{Settings}
use Rattle.fec_plan.specs.Partition.{source_symbols}
use Rattle.fec_plan.specs.Points.{position_before}
use Rattle.fec_plan.specs.declared.position.Position.{Position}
use Rattle.fec_plan.proofs.PositionLemmas.{Before, before_decides}
use Rattle.norm_order.specs.Sets.{is_member, with_member, with_members, Sides, Below, Same, Above, Compares}
use Rattle.norm_order.specs.Shapes.{Shape, symbols_of, encoded_in}
use Rattle.norm_order.proofs.SetLemmas.{self_in, others_in, numbers, positions}
use Rattle.norm_receive_rules.specs.Holding.{Holding}
use Rattle.norm_receive_rules.specs.Plans.{is_over, holds, info_of}
use Rattle.norm_receive_rules.specs.ReceiverState.{ReceiverState}
use Rattle.norm_send_rules.specs.Closing.{asked_in, round_closed, wants_after}
use Rattle.norm_send_rules.specs.InWindow.{stands_behind, current_shapes}
use Rattle.norm_send_rules.specs.SenderState.{SenderState, Round}
use Rattle.norm_send_rules.specs.Wants.{want_before}
use Rattle.norm_send_rules.specs.Watermarks.{has_member}
use Rattle.norm_send_rules.specs.declared.want.Want.{Want}
use Rattle.norm_send_rules.specs.declared.want.Want.TheVariants.{Info, Symbol}
use Rattle.norm_safety.specs.World.{World}
use Rattle.norm_safety.proofs.EntryLemmas.{clash}
use Rattle.norm_laws.proofs.HeldLengths.{not_lt}
use Rattle.norm_recovery.specs.Left.{held_for, is_there, is_complete, is_had, will_have, all_will_have, in_window, left}
use Rattle.norm_recovery.proofs.LeftStays.{either, more_pass, at_most}

-- ---- the order of wants compares all

lt_of : (a b : ℕ) → nat_lt a b ≡ true → a < b
lt_of a b e = (Decides-ltb a b).0 e

is_lt : (a b : ℕ) → a < b → nat_lt a b ≡ true
is_lt a b lt = (Decides-ltb a b).1 lt

le_of : (a b : ℕ) → nat_le a b ≡ true → a ≤ b
le_of a b e = go (leb_tells a b)
  where
    go : ((nat_le a b ≡ true) × (a ≤ b)) ⊎ ((nat_le a b ≡ false) × (b < a)) → a ≤ b
    go (inl both) = both.1
    go (inr both) = absurd (clash (sym both.0 ∙ e))

is_le : (a b : ℕ) → a ≤ b → nat_le a b ≡ true
is_le a b le = grind (arith, leb_tells a b)

no_later : (a b : Position) → position_before a b ≡ true → a.index ≤ b.index
no_later a b e = go ((before_decides a b).0 e)
  where
    go : Before a b → a.index ≤ b.index
    go (inl (inl lt)) = omega (arith, lt)
    go (inl (inr (same, lt))) = omega (arith, same)
    go (inr ((same, block), lt)) = omega (arith, same)

want_sides : (x y : Want) → Sides want_before x y
want_sides (Info i) (Info j) = go (numbers.sides i j)
  where
    go : Sides nat_lt i j → Sides want_before (Info i) (Info j)
    go (Below lt gt) = Below lt gt
    go (Same lt gt same) = Same lt gt (ap Info same)
    go (Above lt gt) = Above lt gt
want_sides (Info i) (Symbol at) = go (leb_tells i at.index)
  where
    go : ((nat_le i at.index ≡ true) × (i ≤ at.index)) ⊎ ((nat_le i at.index ≡ false) × (at.index < i)) → Sides want_before (Info i) (Symbol at)
    go (inl both) = Below both.0 (not_lt at.index i both.1)
    go (inr both) = Above both.0 (is_lt at.index i both.1)
want_sides (Symbol at) (Info j) = go (leb_tells j at.index)
  where
    go : ((nat_le j at.index ≡ true) × (j ≤ at.index)) ⊎ ((nat_le j at.index ≡ false) × (at.index < j)) → Sides want_before (Symbol at) (Info j)
    go (inl both) = Above (not_lt at.index j both.1) both.0
    go (inr both) = Below (is_lt at.index j both.1) both.0
want_sides (Symbol at) (Symbol other) = go (positions.sides at other)
  where
    go : Sides position_before at other → Sides want_before (Symbol at) (Symbol other)
    go (Below lt gt) = Below lt gt
    go (Same lt gt same) = Same lt gt (ap Symbol same)
    go (Above lt gt) = Above lt gt

want_through : (x y z : Want) → want_before x y ≡ true → want_before y z ≡ true → want_before x z ≡ true
want_through (Info i) (Info j) (Info k) e f = numbers.through i j k e f
want_through (Info i) (Info j) (Symbol c) e f = is_le i c.index (let a = lt_of i j e in let b = le_of j c.index f in omega (arith, a, b))
want_through (Info i) (Symbol b) (Info k) e f = is_lt i k (let a = le_of i b.index e in let c = lt_of b.index k f in omega (arith, a, c))
want_through (Info i) (Symbol b) (Symbol c) e f = is_le i c.index (let a = le_of i b.index e in let d = no_later b c f in omega (arith, a, d))
want_through (Symbol a) (Info j) (Info k) e f = is_lt a.index k (let b = lt_of a.index j e in let c = lt_of j k f in omega (arith, b, c))
want_through (Symbol a) (Info j) (Symbol c) e f =
    (before_decides a c).1 (inl (inl (let b = lt_of a.index j e in let d = le_of j c.index f in omega (arith, b, d))))
want_through (Symbol a) (Symbol b) (Info k) e f = is_lt a.index k (let c = no_later a b e in let d = lt_of b.index k f in omega (arith, c, d))
want_through (Symbol a) (Symbol b) (Symbol c) e f = positions.through a b c e f

pub wants_compare : Compares want_before
wants_compare = record { sides = want_sides; through = want_through }

-- ---- more is wanted

joined_still : (q x : Want) (set : List Want) → is_member want_before q set ≡ true → is_member want_before q (with_member want_before x set) ≡ true
joined_still q x set e = go (want_sides q x)
  where
    go : Sides want_before q x → is_member want_before q (with_member want_before x set) ≡ true
    go (Below lt gt) =
        others_in want_before q x set wants_compare (λ same. clash (sym gt ∙ ap (want_before x) same ∙ sym (ap (λ (z : Want). want_before z x) same) ∙ lt)) ∙ e
    go (Same lt gt same) = ap (λ (z : Want). is_member want_before z (with_member want_before x set)) same ∙ self_in want_before x set wants_compare
    go (Above lt gt) =
        others_in want_before q x set wants_compare (λ same. clash (sym lt ∙ ap (λ (z : Want). want_before z x) same ∙ sym (ap (want_before x) same) ∙ gt)) ∙ e

-- who is a member stays one
pub still_member : (q : Want) (more set : List Want) → is_member want_before q set ≡ true → is_member want_before q (with_members want_before more set) ≡ true
still_member q [] set e = e
still_member q (x ∷ more) set e = still_member q more (with_member want_before x set) (joined_still q x set e)

-- these wants are among those
abbrev pub Among : List Want → List Want → Type 0
Among wants more = (q : Want) → is_member want_before q wants ≡ true → is_member want_before q more ≡ true

pub there_among : (wants more : List Want) (h : Holding) (at : Position) → Among wants more → is_there wants h at ≡ true → is_there more h at ≡ true
there_among wants more h at among e =
    either (holds h at) (is_member want_before (Symbol at) wants) (holds h at) (is_member want_before (Symbol at) more) (λ f. f) (among (Symbol at)) e

pub complete_among : (wants more : List Want) (h : Holding) (index block : ℕ) (found : Option Shape) → Among wants more → is_complete wants h index block found ≡ true
    → is_complete more h index block found ≡ true
complete_among wants more h index block None among e = e
complete_among wants more h index block (Some shape) among e =
    let all : List Position = symbols_of index (encoded_in shape block) block in
    at_most (source_symbols shape.cut block) (length (filter (is_there wants h) all)) (length (filter (is_there more h) all))
    (more_pass (is_there wants h) (is_there more h) all (λ at f. there_among wants more h at among f)) e

-- what is had with some wants is had with more
pub had_among : (wants more : List Want) (p : Settings) (s : SenderState) (h : Holding) (y : Want) → Among wants more → is_had wants p s h y ≡ true
    → is_had more p s h y ≡ true
had_among wants more p s h (Info index) among e =
    either (is_over h index || is_some (info_of h index)) (is_member want_before (Info index) wants) (is_over h index || is_some (info_of h index))
    (is_member want_before (Info index) more) (λ f. f) (among (Info index)) e
had_among wants more p s h (Symbol at) among e =
    let found : Option Shape = slice_get (current_shapes p s) at.index in
    either (is_over h at.index || is_there wants h at) (is_complete wants h at.index at.block found) (is_over h at.index || is_there more h at)
    (is_complete more h at.index at.block found)
    (either (is_over h at.index) (is_there wants h at) (is_over h at.index) (is_there more h at) (λ f. f) (there_among wants more h at among))
    (complete_among wants more h at.index at.block found among) e

all_more : {X : Type 0} (test other : X → Bool) (xs : List X) → ((x : X) → test x ≡ true → other x ≡ true) → list_all test xs ≡ true → list_all other xs ≡ true
all_more test other [] implies e = refl
all_more test other (x ∷ xs) implies e = go (test x) (other x) (implies x) e (all_more test other xs implies)
  where
    go : (a b : Bool) → (a ≡ true → b ≡ true) → (a && list_all test xs) ≡ true → (list_all test xs ≡ true → list_all other xs ≡ true) → (b && list_all other xs) ≡ true
    go true true f e more = more e
    go true false f e more = absurd (clash (f refl))
    go false b f e more = absurd (clash e)

back : (a b c d : Bool) → (a ≡ true → c ≡ true) → (b ≡ true → d ≡ true) → (not c && not d) ≡ true → (not a && not b) ≡ true
back true b true d f g e = absurd (clash e)
back true b false d f g e = absurd (clash (f refl))
back false true true true f g e = absurd (clash e)
back false true false true f g e = absurd (clash e)
back false true c false f g e = absurd (clash (g refl))
back false false c d f g e = refl

-- an info or a symbol counts as left
abbrev pub is_left : Settings → World → Want → Bool
is_left p w y = not (is_member want_before y w.sender.wants) && not (all_will_have p w y)

-- what is left once a round was closed was left before
pub was_left : (p : Settings) (round : Round) (w : World) (y : Want) → is_left p (record w { sender = round_closed p round w.sender }) y ≡ true → is_left p w y ≡ true
was_left p round w y e =
    back (is_member want_before y w.sender.wants) (all_will_have p w y) (is_member want_before y wants)
    (all_will_have p (record w { sender = round_closed p round w.sender }) y) (among y) (will y) e
  where
    wants : List Want
    wants = wants_after p w.sender round.asked

    among : Among w.sender.wants (wants_after p w.sender round.asked)
    among q e = still_member q (filter (stands_behind w.sender.current.drop) (asked_in p w.sender round.asked)) w.sender.wants e

    will : (y : Want) → all_will_have p w y ≡ true → all_will_have p (record w { sender = round_closed p round w.sender }) y ≡ true
    will y e =
        all_more (λ (r : ReceiverState). not (has_member r.node w.sender) || will_have p w.sender r y)
        (λ (r : ReceiverState). not (has_member r.node w.sender) || will_have p (round_closed p round w.sender) r y) w.receivers
        (λ r f. either (not (has_member r.node w.sender)) (will_have p w.sender r y) (not (has_member r.node w.sender))
        (will_have p (round_closed p round w.sender) r y) (λ g. g)
        (had_among w.sender.wants (wants_after p w.sender round.asked) p w.sender (held_for w.sender r) y among) f) e

-- no more is left once a round was closed
pub closing_lowers : (p : Settings) (round : Round) (w : World) → left p (record w { sender = round_closed p round w.sender }) ≤ left p w
closing_lowers p round w =
    more_pass (is_left p (record w { sender = round_closed p round w.sender })) (is_left p w) (in_window p w.sender) (was_left p round w)
