-- What was not dropped is in the window, what was answered may be noted as sent, and the answer to a request for a symbol is decided; and a
-- window goes on standing for some state.
use Rattle.std.proofs.Common.{◌≡◌, ℕ, ◌+◌, ◌-◌, ◌<◌, ◌≤◌, ◌⊎◌, inl, inr, Bool, true, false, refl, sym, ap, ◌∙◌, subst, arith, Option, Some, None, List, [], ◌∷◌}
use Rattle.std.specs.Prelude.{nat_lt, nat_le, not, slice_get, ◌&&◌, MatchOption}
use Rattle.std.proofs.lemmas.Bool.{cases_lt, lt-ltb, le-ltb, ltb-true, leb-true}
use Rattle.std.proofs.lemmas.Option.{slice_get-map, slice_get_within}
use Rattle.fec_plan.specs.Points.{point_of, point_before, reached_by}
use Rattle.fec_plan.specs.declared.position.Position.{Position}
use Rattle.fec_plan.proofs.PointLemmas.{behind_point}
use Rattle.norm_base.specs.Settings.{Settings}
use Rattle.norm_order.specs.Entries.{Object, Entry}
use Rattle.norm_order.specs.Shapes.{Shape, shape_of, encoded_in}
use Rattle.norm_send_rules.specs.SenderState.{SenderState}
use Rattle.norm_send_rules.specs.Room.{first_kept}
use Rattle.norm_send_rules.specs.Watermarks.{all_past, is_past}
use Rattle.tx_object.proofs.MarkedLemmas.{block_there}
use Rattle.tx_window.specs.EntryAsked.{IsKept, AnswersKept}
use Rattle.tx_window.specs.EntryState.{EntryReads, first_of, StandsFor as StandsForEntry}
use Rattle.tx_window.specs.declared.entry.HeldEntry.{HeldEntry}
use Rattle.tx_window.specs.declared.entry.HeldEntry.TheVariants as held
use Rattle.tx_window.specs.WindowState.{WindowState, Stands}
use Rattle.tx_window.specs.Asked.{kept_at, AnswersAt, IsEncodedIn}
use Rattle.tx_window.specs.Standing.{IsStanding}
use Rattle.tx_window.specs.Laws.{MayBeNoted, IsThere, SymbolIsDecided}
use Rattle.tx_window.proofs.KeptLemmas.{Found, dropped_is, entry_at_place, shape_is, chosen, passed_over}
use Rattle.tx_window.proofs.StandingLemmas.{stands_past}

pub is_there : IsThere
is_there w s index entry stands is behind =
    let within = slice_get_within s.current.order index entry is in
    record { behind = omega (arith, behind, dropped_is w s stands); before = omega (arith, within, stands.next) }

-- ---- what may be noted

-- a block with an encoded symbol is kept of an entry, from its first one on
is_kept : (r : EntryReads) (e : HeldEntry) (block symbol : ℕ) → StandsForEntry r e → symbol < encoded_in (shape_of r.p r.object) block → first_of e ≤ block → IsKept e block
is_kept r (held.Object h) block symbol is encoded from =
    block_there r.p r.ring h block symbol is.placed (subst (λ (o : Object). symbol < encoded_in (shape_of r.p o) block) is.object encoded)
is_kept r (held.Stream stream) block symbol is encoded from = from

-- an encoded symbol of a kept block of an entry that was not dropped
encoded_here : (w : WindowState) (s : SenderState) (at : Position) (entry : Entry) → Stands w s → slice_get s.current.order at.index ≡ Some entry
    → s.current.drop.index ≤ at.index → first_kept s at.index ≤ at.block → nat_lt at.symbol (encoded_in (shape_of w.p entry.object) at.block) ≡ true → IsEncodedIn w at
encoded_here w s at entry stands is low from encoded = record {
  window = is_there w s at.index entry stands is low;
  kept = λ k here.
      let f = there k here in
      is_kept _ k at.block at.symbol f.stands
      (ltb-true at.symbol _ (ap (λ (x : Entry). nat_lt at.symbol (encoded_in (shape_of w.p x.object) at.block)) (same_entry f.entry entry _ f.there is) ∙ encoded))
      (omega (arith, f.first, from));
  symbol = λ k here.
      let f = there k here in
      ap (λ (x : Shape). nat_lt at.symbol (encoded_in x at.block)) (sym (shape_is _ k f.stands))
      ∙ ap (λ (x : Entry). nat_lt at.symbol (encoded_in (shape_of w.p x.object) at.block)) (same_entry f.entry entry _ f.there is) ∙ encoded;
}
  where
    back : w.dropped + (at.index - w.dropped) ≡ at.index
    back = omega (arith, low, dropped_is w s stands)

    -- the entry at its place
    there : (e : HeldEntry) → slice_get w.entries (at.index - w.dropped) ≡ Some e → Found w s at.index e
    there e here = subst (λ i. Found w s i e) back (entry_at_place w s (at.index - w.dropped) e stands here)

    same_entry : (a b : Entry) (r : Option Entry) → r ≡ Some a → r ≡ Some b → a ≡ b
    same_entry a b r e f = cc

pub may_be_noted : MayBeNoted
may_be_noted w s at stands encoded behind =
    go (slice_get s.current.order at.index) refl
    (ap test (sym (slice_get-map (λ (entry : Entry). shape_of w.p entry.object) s.current.order at.index)) ∙ encoded)
  where
    test : Option Shape → Bool
    test r = elim r as (λ v. Bool) [ Some x ↦ nat_lt at.symbol (encoded_in x at.block) | None ↦ false ]

    flipped : (b : Bool) → not b ≡ true → b ≡ false
    flipped true e = absurd (cc)
    flipped false e = refl

    place : (s.current.drop.index < at.index) ⊎ ((s.current.drop.index ≡ at.index) × (s.current.drop.block ≤ at.block))
    place = behind_point (point_of at) s.current.drop (flipped (point_before (point_of at) s.current.drop) behind)

    low : (s.current.drop.index < at.index) ⊎ ((s.current.drop.index ≡ at.index) × (s.current.drop.block ≤ at.block)) → s.current.drop.index ≤ at.index
    low (inl lt) = omega (arith, lt)
    low (inr same) = omega (arith, same.0)

    from : (s.current.drop.index < at.index) ⊎ ((s.current.drop.index ≡ at.index) × (s.current.drop.block ≤ at.block)) → first_kept s at.index ≤ at.block
    from (inl lt) =
        subst (λ n. n ≤ at.block) (sym (chosen (nat_lt s.current.drop.index at.index) 0 s.current.drop.block (lt-ltb s.current.drop.index at.index lt))) (omega arith)
    from (inr same) =
        subst (λ n. n ≤ at.block) (sym (passed_over (nat_lt s.current.drop.index at.index) 0 s.current.drop.block (le-ltb s.current.drop.index at.index (omega (arith, same.0))))) same.1

    go : (r : Option Entry) → slice_get s.current.order at.index ≡ r
        → test (elim r as (λ v. Option Shape) [ Some entry ↦ Some (shape_of w.p entry.object) | None ↦ None ]) ≡ true → IsEncodedIn w at
    go None is e = absurd (cc)
    go (Some entry) is e = encoded_here w s at entry stands is (low place) (from place) e

-- an object that the state keeps stands in its order
record WasKept (s : SenderState) (index : ℕ) (object : Object) : Type 0 where
  entry : Entry
  there : slice_get s.current.order index ≡ Some entry
  is : entry.object ≡ object
  low : s.current.drop.index ≤ index

was_kept : (s : SenderState) (index : ℕ) (object : Object) → kept_at s index ≡ Some object → WasKept s index object
was_kept s index object e = go (cases_lt index s.current.drop.index)
  where
    of : Option Entry → Option Object
    of r = elim r as (λ v. Option Object) [ Some entry ↦ Some entry.object | None ↦ None ]

    by : Bool → Option Object
    by b = elim (not b) as (λ v. Option Object) [ true ↦ of (slice_get s.current.order index) | false ↦ None ]

    never : ◌≡◌ {A = Option Object} None (Some object) → ⊥
    never f = cc

    found : s.current.drop.index ≤ index → (r : Option Entry) → slice_get s.current.order index ≡ r → of r ≡ Some object → WasKept s index object
    found le None is f = absurd (never f)
    found le (Some entry) is f = record { entry = entry; there = is; is = (let same : entry.object ≡ object = cc in same); low = le }

    go : (index < s.current.drop.index) ⊎ (s.current.drop.index ≤ index) → WasKept s index object
    go (inl before) = absurd (never (sym (ap by (lt-ltb index s.current.drop.index before)) ∙ e))
    go (inr behind) = found behind (slice_get s.current.order index) refl (sym (ap by (le-ltb index s.current.drop.index behind)) ∙ e)

-- a symbol that was answered may be noted
pub may_note : (w : WindowState) (s : SenderState) (at : Position) (old new : List ℕ) (n : ℕ) → Stands w s → AnswersAt w.p s at old new (Some n) → IsEncodedIn w at
may_note w s at old new n stands answers = go (kept_at s at.index) refl answers
  where
    both : (a b : Bool) → (a && b) ≡ true → (a ≡ true) × (b ≡ true)
    both true true e = (refl, refl)
    both true false e = absurd (cc)
    both false b e = absurd (cc)

    go : (r : Option Object) → kept_at s at.index ≡ r
        → MatchOption r ((Some n ≡ None) × (new ≡ old)) (λ object. AnswersKept w.p object (first_kept s at.index) at.block at.symbol old new (Some n)) → IsEncodedIn w at
    go None kept is = absurd (let e = is.0 in cc)
    go (Some object) kept is =
        let k = was_kept s at.index object kept in
        let b = both (nat_le (first_kept s at.index) at.block) (nat_lt at.symbol (encoded_in (shape_of w.p object) at.block)) is.0 in
        encoded_here w s at k.entry stands k.there k.low (leb-true (first_kept s at.index) at.block b.0)
        (ap (λ (o : Object). nat_lt at.symbol (encoded_in (shape_of w.p o) at.block)) k.is ∙ b.1)

-- ---- one answer

-- two answers of an entry for one symbol are the same
kept_decided : (p : Settings) (object : Object) (first block symbol : ℕ) (old new other : List ℕ) (answer told : Option ℕ)
    → AnswersKept p object first block symbol old new answer → AnswersKept p object first block symbol old other told → (answer ≡ told) × (new ≡ other)
kept_decided p object first block symbol old new other None None one two = (refl, one.1 ∙ sym two.1)
kept_decided p object first block symbol old new other None (Some m) one two = absurd (cc (sym one.0 ∙ two.0))
kept_decided p object first block symbol old new other (Some n) None one two = absurd (cc (sym one.0 ∙ two.0))
kept_decided p object first block symbol old new other (Some n) (Some m) one two = (ap Some (one.2 ∙ sym two.2), one.1 ∙ sym two.1)

pub symbol_is_decided : SymbolIsDecided
symbol_is_decided p s at old new other answer told one two = go (kept_at s at.index) one two
  where
    go : (o : Option Object)
        → MatchOption o ((answer ≡ None) × (new ≡ old)) (λ object. AnswersKept p object (first_kept s at.index) at.block at.symbol old new answer)
        → MatchOption o ((told ≡ None) × (other ≡ old)) (λ object. AnswersKept p object (first_kept s at.index) at.block at.symbol old other told)
        → (answer ≡ told) × (new ≡ other)
    go None a b = (a.0 ∙ sym b.0, a.1 ∙ sym b.1)
    go (Some object) a b = kept_decided p object (first_kept s at.index) at.block at.symbol old new other answer told a b

-- ---- some state

-- the state after the receivers are listed past another position
abbrev listed : Option Position → SenderState → SenderState
listed through s = record s { listings = record { node = 0; past = through } ∷ [] }

listed_past : (through : Option Position) (s : SenderState) (at : Position) → all_past (listed through s) at ≡ reached_by through at
listed_past None s at = refl
listed_past (Some past) s at = go (is_past at (record { node = 0; past = Some past }))
  where
    go : (b : Bool) → (b && true) ≡ b
    go true = refl
    go false = refl

pub stays_past : (w : WindowState) (through : Option Position) → IsStanding w → IsStanding (record w { past = through })
stays_past w through is = record {
  state = listed through is.state;
  stands = stands_past w is.state (listed through is.state) through is.stands refl (listed_past through is.state);
  filling = is.filling;
}
