-- The walk along what is needed, and that it asks for the longest prefix that fits.
use Rattle.std.proofs.Common.{◌≡◌, ℕ, ◌+◌, ◌-◌, ◌<◌, ◌≤◌, ◌⊎◌, inl, inr, List, [], ◌∷◌, ◌++◌, map, length, Bool, true, false, not, Option, Some, None, refl, sym, ap, subst, ◌∙◌, arith, append_assoc, append-nil}
use Rattle.std.specs.Prelude.{◌&&◌, nat_le, MatchBool, ⊤}
use Rattle.std.specs.List.{list_all, last_or, repeat}
use Rattle.std.proofs.lemmas.Bool.Decides.{leb_tells}
use Rattle.std.proofs.lemmas.List.{map-append}
use Rattle.std.proofs.lemmas.List.Folds.{list_all-append}
use Rattle.norm_base.specs.Settings.{Settings}
use Rattle.norm_ext.specs.Asked.{Asked, asked_octets, octets_behind, Writing, writing}
use Rattle.byteorder.specs.Endian.{big_bytes}
use Rattle.norm_ext.specs.Octets.{octets_of, front_octets, words_with, extensions_octets}
use Rattle.norm_ext.specs.Numbers.{type_number}
use Rattle.norm_ext.specs.Places.{feedback_words}
use Rattle.norm_ext.specs.declared.kinds.MessageType.TheVariants as types
use Rattle.norm_ext.proofs.AskedSize.{one_more_takes_law}
use Rattle.norm_receive_rules.specs.AllNeeds.{needs}
use Rattle.norm_receive_rules.specs.HeardNeeds.{is_heard}
use Rattle.norm_receive_rules.specs.Lazy.{Lazy, Nil, Next, followed_by}
use Rattle.norm_receive_rules.specs.Nack.{asked_of, fitting, nack_message, instance_id}
use Rattle.norm_receive_rules.specs.Needs.{Need}
use Rattle.norm_receive_rules.specs.ReceiverState.{ReceiverState}
use Rattle.norm_receive_rules.specs.Ticking.{are_heard}
use Rattle.norm_receiver.specs.Asking.{wanted}
use Rattle.norm_receiver.specs.Requesting.{HasAsked}
use Rattle.norm_receiver.specs.Walking.{Walked, asked_nothing, asking_nothing, octets_asked, walk_by, walk_need, walk_on, HasRoom, IsAt}
use Rattle.norm_receiver.specs.declared.asking.Asking.{Asking}

-- ---- behind a need that does not fit nothing is asked for

full_stays : (p : Settings) (w : Walked) (need : Need) → w.full ≡ true → walk_need p w need ≡ w
full_stays p w need e =
    ap (λ b. walk_by (not b && nat_le (octets_asked p (w.asked ++ need ∷ [])) p.e) w need) e
    ∙ ap (λ b. record w { full = b }) (sym e)

pub walk_full : (p : Settings) (needs : Lazy Need) (w : Walked) → w.full ≡ true → walk_on p needs w ≡ w
unfolding walk_on
walk_full p Nil w e = refl
walk_full p (Next need rest) w e = ap (λ v. walk_on p (rest tt) v) (full_stays p w need e) ∙ walk_full p (rest tt) w e

-- one list of needs, and then another
pub walk_both : (p : Settings) (first : Lazy Need) (more : ⊤ → Lazy Need) (w : Walked)
    → walk_on p (followed_by first more) w ≡ walk_on p (more tt) (walk_on p first w)
unfolding walk_on followed_by
walk_both p Nil more w = refl
walk_both p (Next need rest) more w = walk_both p (rest tt) more (walk_need p w need)

-- ---- what is asked for is what fits

one_more : (p : Settings) (asked : List Need) (need : Need)
    → octets_asked p (asked ++ need ∷ []) ≡ octets_asked p asked + octets_behind (last_or None (map (asked_of p) asked)) (asked_of p need)
one_more p asked need =
    ap (λ (t : List Asked). length (asked_octets t)) (map-append (asked_of p) asked (need ∷ [])) ∙ one_more_takes_law (map (asked_of p) asked) (asked_of p need)

last_is : (p : Settings) (before : Option Asked) (asked : List Need) (need : Need) → last_or before (map (asked_of p) (asked ++ need ∷ [])) ≡ Some (asked_of p need)
last_is p before [] need = refl
last_is p before (x ∷ asked) need = last_is p (Some (asked_of p x)) asked need

-- with so many octets more it fits, where so many are left
fits_still : (used more limit : ℕ) → used ≤ limit → nat_le (used + more) limit ≡ nat_le more (limit - used)
fits_still used more limit le = go (leb_tells (used + more) limit) (leb_tells more (limit - used))
  where
    go : ((nat_le (used + more) limit ≡ true) × (used + more ≤ limit)) ⊎ ((nat_le (used + more) limit ≡ false) × (limit < used + more))
        → ((nat_le more (limit - used) ≡ true) × (more ≤ limit - used)) ⊎ ((nat_le more (limit - used) ≡ false) × (limit - used < more))
        → nat_le (used + more) limit ≡ nat_le more (limit - used)
    go (inl a) (inl b) = a.0 ∙ sym b.0
    go (inr a) (inr b) = a.0 ∙ sym b.0
    go (inl a) (inr b) = absurd (let h = a.1 in let k = b.1 in omega arith)
    go (inr a) (inl b) = absurd (let h = a.1 in let k = b.1 in omega arith)

-- what fits of a need and those behind it, by whether it does
abbrev fitting_by : Settings → Bool → Need → (⊤ → Lazy Need) → ℕ → List Need
fitting_by p test need rest left = elim test [ true ↦ need ∷ fitting p (rest tt) (Some (asked_of p need)) left | false ↦ [] ]

fitting_more : (p : Settings) (need : Need) (rest : ⊤ → Lazy Need) (before : Option Asked) (room : ℕ)
    → fitting p (Next need rest) before room
    ≡ fitting_by p (nat_le (octets_behind before (asked_of p need)) room) need rest (room - octets_behind before (asked_of p need))
unfolding fitting
fitting_more p need rest before room = refl

fitting_none : (p : Settings) (before : Option Asked) (room : ℕ) → fitting p Nil before room ≡ []
unfolding fitting
fitting_none p before room = refl

pub walk_next : (p : Settings) (need : Need) (rest : ⊤ → Lazy Need) (w : Walked) → walk_on p (Next need rest) w ≡ walk_on p (rest tt) (walk_need p w need)
unfolding walk_on
walk_next p need rest w = refl

pub walk_none : (p : Settings) (w : Walked) → walk_on p Nil w ≡ w
unfolding walk_on
walk_none p w = refl

-- the room that is left, and the last that was asked for
abbrev left_after : Settings → List Need → ℕ
left_after p asked = p.e - octets_asked p asked

abbrev last_asked : Settings → List Need → Option Asked
last_asked p asked = last_or None (map (asked_of p) asked)

walk_fits : (p : Settings) (needs : Lazy Need) (w : Walked) → w.full ≡ false → octets_asked p w.asked ≤ p.e
    → (walk_on p needs w).asked ≡ w.asked ++ fitting p needs (last_asked p w.asked) (left_after p w.asked)
walk_fits p Nil w e le =
    ap (λ (v : Walked). v.asked) (walk_none p w)
    ∙ sym (ap (λ (t : List Need). w.asked ++ t) (fitting_none p (last_asked p w.asked) (left_after p w.asked)) ∙ append-nil w.asked)
walk_fits p (Next need rest) w e le =
    ap (λ (v : Walked). v.asked) (walk_next p need rest w)
    ∙ ap (λ b. (walk_on p (rest tt) (walk_by (not b && nat_le (octets_asked p more) p.e) w need)).asked) e
    ∙ go (nat_le (octets_asked p more) p.e) refl (λ v f few. walk_fits p (rest tt) v f few)
    ∙ ap (λ (t : List Need). w.asked ++ t) (
    ap (λ b. fitting_by p b need rest (left_after p w.asked - added)) same
    ∙ sym (fitting_more p need rest (last_asked p w.asked) (left_after p w.asked)))
  where
    more : List Need
    more = w.asked ++ need ∷ []

    added : ℕ
    added = octets_behind (last_asked p w.asked) (asked_of p need)

    size : octets_asked p more ≡ octets_asked p w.asked + added
    size = one_more p w.asked need

    same : nat_le (octets_asked p more) p.e ≡ nat_le added (left_after p w.asked)
    same = ap (λ n. nat_le n p.e) size ∙ fits_still (octets_asked p w.asked) added p.e le

    within : nat_le (octets_asked p more) p.e ≡ true → octets_asked p more ≤ p.e
    within t = elim (leb_tells (octets_asked p more) p.e) [ inl a ↦ a.1 | inr a ↦ absurd (differ (sym a.0 ∙ t)) ]
      where
        differ : false ≡ true → ⊥
        differ t = cc

    left : left_after p more ≡ left_after p w.asked - added
    left = omega (arith, size)

    go : (b : Bool) → nat_le (octets_asked p more) p.e ≡ b
        → ((v : Walked) → v.full ≡ false → octets_asked p v.asked ≤ p.e
        → (walk_on p (rest tt) v).asked ≡ v.asked ++ fitting p (rest tt) (last_asked p v.asked) (left_after p v.asked))
        → (walk_on p (rest tt) (walk_by b w need)).asked ≡ w.asked ++ fitting_by p b need rest (left_after p w.asked - added)
    go true t on =
        on (record { asked = more; full = false }) refl (within t)
        ∙ ap (λ (o : Option Asked). more ++ fitting p (rest tt) o (left_after p more)) (last_is p None w.asked need)
        ∙ ap (λ n. more ++ fitting p (rest tt) (Some (asked_of p need)) n) left
        ∙ append_assoc w.asked (need ∷ []) (fitting p (rest tt) (Some (asked_of p need)) (left_after p w.asked - added))
    go false t on = ap (λ (v : Walked). v.asked) (walk_full p (rest tt) (record w { full = true }) refl) ∙ sym (append-nil w.asked)

-- ---- the datagram

-- a NACK up to its requests
abbrev nack_head : Settings → ReceiverState → List ℕ
nack_head p s =
    front_octets (type_number types.Nack) (words_with feedback_words []) s.sequence s.node ++ big_bytes 4 p.sender ++ big_bytes 2 (instance_id s)
    ++ repeat 10 (0 ∷ []) ++ extensions_octets []

nack_octets : (p : Settings) (s : ReceiverState) (asked : List Need)
    → octets_of (nack_message p s []) ++ asked_octets (map (asked_of p) asked) ≡ octets_of (nack_message p s asked)
nack_octets p s asked = ap (λ (t : List ℕ). t ++ asked_octets (map (asked_of p) asked)) (append-nil (nack_head p s))

-- as it begins
pub at_begin : (p : Settings) (test : Need → Bool) (k : Asking) (front : List ℕ) → k ≡ asking_nothing p → IsAt p test k front front asked_nothing
at_begin p test k front is = record {
  limit = ap (λ (x : Asking). x.writer.limit) is;
  asked = record {
    stands = ap (λ (x : Asking). x.writer) is ∙ ap (λ n. writing n []) (sym (ap (λ (x : Asking). x.writer.limit) is));
    written = sym (append-nil front);
    within = omega (arith, ap (λ (x : Asking). x.writer.used) is);
  };
  heard = ap (λ (x : Asking). x.all_heard) is;
  full = ap (λ (x : Asking). x.full) is;
}

-- the datagram has room for so many octets of requests behind a NACK's front
pub room_begins : (p : Settings) (k : Asking) (out : List ℕ) → k ≡ asking_nothing p → p.e ≤ 1400 → length out ≡ 24 → HasRoom k.writer out
room_begins p k out is few size =
    let used : k.writer.used ≡ 0 = ap (λ (x : Asking). x.writer.used) is in
    let limit : k.writer.limit ≡ p.e = ap (λ (x : Asking). x.writer.limit) is in
    record { used = omega (arith, used); room = omega (arith, used, limit, few, size) }

-- What was written as all that is needed was gone through.
pub record AsksFor (p : Settings) (s : ReceiverState) (k : Asking) (out : List ℕ) : Type 0 where
  pub heard : k.all_heard ≡ are_heard s (wanted p s)
  pub octets : out ≡ octets_of (nack_message p s (wanted p s))

pub asks_for : (p : Settings) (s : ReceiverState) (k : Asking) (out front : List ℕ) → front ≡ octets_of (nack_message p s [])
    → IsAt p (is_heard s.knows.heard s.holding) k out front (walk_on p (needs p s) asked_nothing) → AsksFor p s k out
asks_for p s k out front begun at = record {
  heard = at.heard ∙ ap (λ (t : List Need). are_heard s t) is;
  octets =
      at.asked.written ∙ ap (λ (t : List ℕ). t ++ asked_octets (map (asked_of p) (walk_on p (needs p s) asked_nothing).asked)) begun
      ∙ ap (λ (t : List Need). octets_of (nack_message p s []) ++ asked_octets (map (asked_of p) t)) is ∙ nack_octets p s (wanted p s);
}
  where
    is : (walk_on p (needs p s) asked_nothing).asked ≡ wanted p s
    is = walk_fits p (needs p s) asked_nothing refl (omega arith) ∙ ap (λ n. fitting p (needs p s) None n) whole
      where
        whole : p.e - 0 ≡ p.e
        whole = omega arith

-- ---- a need more

pub when_true : (P Q : Type 0) (b : Bool) → MatchBool b P Q → b ≡ true → P
when_true P Q true h e = h
when_true P Q false h e = absurd (let f : false ≡ true = e in cc)

pub add_full : (p : Settings) (test : Need → Bool) (k : Asking) (out front : List ℕ) (w : Walked) (need : Need) → k.full ≡ true
    → IsAt p test k out front w → IsAt p test k out front (walk_need p w need)
add_full p test k out front w need e at = subst (λ (v : Walked). IsAt p test k out front v) (sym (full_stays p w need (sym at.full ∙ e))) at

-- a need that is walked on to, by whether it fits
walk_is : (p : Settings) (w : Walked) (need : Need) (b : Bool) → w.full ≡ false → nat_le (octets_asked p (w.asked ++ need ∷ [])) p.e ≡ b → walk_need p w need ≡ walk_by b w need
walk_is p w need b e t =
    ap (λ f. walk_by (not f && nat_le (octets_asked p (w.asked ++ need ∷ [])) p.e) w need) e ∙ ap (λ f. walk_by f w need) t

test_le : (a b : ℕ) → a ≤ b → nat_le a b ≡ true
test_le a b le = elim (leb_tells a b) [ inl t ↦ t.0 | inr t ↦ absurd (let h = t.1 in omega arith) ]

test_gt : (a b : ℕ) → b < a → nat_le a b ≡ false
test_gt a b lt = elim (leb_tells a b) [ inl t ↦ absurd (let h = t.1 in omega arith) | inr t ↦ t.0 ]

pub add_short : (p : Settings) (test : Need → Bool) (k now : Asking) (out new front : List ℕ) (w : Walked) (need : Need) → k.full ≡ false
    → now.writer ≡ k.writer → new ≡ out → now.all_heard ≡ k.all_heard → now.full ≡ true → k.writer.limit < octets_asked p (w.asked ++ need ∷ [])
    → IsAt p test k out front w → IsAt p test now new front (walk_need p w need)
add_short p test k now out new front w need e writer same heard full lt at =
    subst (λ (v : Walked). IsAt p test now new front v)
    (sym (walk_is p w need false (sym at.full ∙ e) (test_gt (octets_asked p (w.asked ++ need ∷ [])) p.e (subst (λ n. n < octets_asked p (w.asked ++ need ∷ [])) at.limit lt))))
    (record {
      limit = ap (λ (x : Writing). x.limit) writer ∙ at.limit;
      asked = subst (λ (x : Writing). HasAsked p x new front w.asked) (sym writer) (subst (λ (o : List ℕ). HasAsked p k.writer o front w.asked) (sym same) at.asked);
      heard = heard ∙ at.heard;
      full = full;
    })

and_true : (a : Bool) → (a && true) ≡ a
and_true true = refl
and_true false = refl

pub add_more : (p : Settings) (test : Need → Bool) (k now : Asking) (out new front : List ℕ) (w : Walked) (need : Need) (heard : Bool) → k.full ≡ false
    → now.writer.limit ≡ k.writer.limit → now.all_heard ≡ (k.all_heard && heard) → now.full ≡ k.full → heard ≡ test need → HasAsked p now.writer new front (w.asked ++ need ∷ [])
    → IsAt p test k out front w → IsAt p test now new front (walk_need p w need)
add_more p test k now out new front w need heard e limit all full is has at =
    subst (λ (v : Walked). IsAt p test now new front v) (sym (walk_is p w need true (sym at.full ∙ e) (test_le (octets_asked p (w.asked ++ need ∷ [])) p.e fits)))
    (record {
      limit = limit ∙ at.limit;
      asked = has;
      heard =
          all ∙ ap (λ b. b && heard) at.heard ∙ ap (λ b. list_all test w.asked && b) (is ∙ sym (and_true (test need)))
          ∙ sym (list_all-append test w.asked (need ∷ []));
      full = full ∙ e;
    })
  where
    fits : octets_asked p (w.asked ++ need ∷ []) ≤ p.e
    fits =
        let used : now.writer.used ≡ octets_asked p (w.asked ++ need ∷ []) = ap (λ (x : Writing). x.used) has.stands in
        let within = has.within in
        omega (arith, used, within, limit, at.limit)

-- ---- a loop over needs

-- where the walk is, and that what is left leads from there to where all leads
pub record GoesOn (p : Settings) (test : Need → Bool) (k : Asking) (out front : List ℕ) (all left : Lazy Need) (w : Walked) : Type 0 where
  pub here : Walked
  pub at : IsAt p test k out front here
  pub rest : walk_on p all w ≡ walk_on p left here

pub goes_begun : (p : Settings) (test : Need → Bool) (k : Asking) (out front : List ℕ) (all left : Lazy Need) (w : Walked)
    → walk_on p all w ≡ walk_on p left w → IsAt p test k out front w → GoesOn p test k out front all left w
goes_begun p test k out front all left w is at = record { here = w; at = at; rest = is }

pub goes_more : (p : Settings) (test : Need → Bool) (k now : Asking) (out new front : List ℕ) (all left next : Lazy Need) (w : Walked) (step : Walked → Walked)
    → ((v : Walked) → IsAt p test k out front v → IsAt p test now new front (step v)) → ((v : Walked) → walk_on p left v ≡ walk_on p next (step v))
    → GoesOn p test k out front all left w → GoesOn p test now new front all next w
goes_more p test k now out new front all left next w step leads is g =
    record { here = step g.here; at = leads g.here g.at; rest = g.rest ∙ is g.here }

pub goes_full : (p : Settings) (test : Need → Bool) (k : Asking) (out front : List ℕ) (all left : Lazy Need) (w : Walked)
    → k.full ≡ true → GoesOn p test k out front all left w → IsAt p test k out front (walk_on p all w)
goes_full p test k out front all left w e g =
    subst (λ (v : Walked). IsAt p test k out front v) (sym (g.rest ∙ walk_full p left g.here (sym g.at.full ∙ e))) g.at

pub goes_ended : (p : Settings) (test : Need → Bool) (k : Asking) (out front : List ℕ) (all left : Lazy Need) (w : Walked)
    → left ≡ Nil → GoesOn p test k out front all left w → IsAt p test k out front (walk_on p all w)
goes_ended p test k out front all left w e g =
    subst (λ (v : Walked). IsAt p test k out front v) (sym (g.rest ∙ ap (λ l. walk_on p l g.here) e ∙ walk_none p g.here)) g.at
