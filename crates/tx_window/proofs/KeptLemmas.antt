-- Which entry of the order stands at a place of the window.
use Rattle.std.proofs.Common.{◌≡◌, ℕ, zero, suc, ◌+◌, ◌-◌, ◌<◌, ◌≤◌, ◌⊎◌, inl, inr, Bool, true, false, refl, sym, ap, ◌∙◌, subst, arith, Option, Some, None, List, [], ◌∷◌, drop, length}
use Rattle.std.specs.Prelude.{nat_lt, not, slice_get, is_some, MatchOption}
use Rattle.std.proofs.lemmas.List.{length-drop}
use Rattle.std.proofs.lemmas.Bool.{cases_lt, lt-ltb, le-ltb}
use Rattle.std.proofs.lemmas.Option.{slice_get_within}
use Rattle.fec_plan.specs.Points.{Point}
use Rattle.norm_base.specs.Settings.{Settings}
use Rattle.fec_plan.specs.declared.position.Position.{Position}
use Rattle.fec_plan.specs.Partition.{Cut, all_symbols}
use Rattle.norm_order.specs.Entries.{Object, Entry}
use Rattle.norm_order.specs.Shapes.{shape_of}
use Rattle.stream_buffer.proofs.KnowsLemmas.{closed_of, counted}
use Rattle.tx_window.specs.EntryAsked.{AnswersKept}
use Rattle.norm_send_rules.specs.SenderState.{SenderState}
use Rattle.norm_send_rules.specs.InWindow.{next_index}
use Rattle.norm_send_rules.specs.Room.{window, first_kept}
use Rattle.tx_window.specs.EntryState.{first_of, StandsFor as StandsForEntry}
use Rattle.tx_window.specs.EntryFront.{AreEntries}
use Rattle.tx_window.specs.declared.entry.HeldEntry.{HeldEntry}
use Rattle.tx_window.specs.declared.entry.HeldEntry.TheVariants as held
use Rattle.tx_window.specs.Asked.{AnswersAt, shape_kept, from_first, kept_at}
use Rattle.tx_window.specs.WindowState.{reads, WindowState, Stands, first_block, entry_reads}
use Rattle.tx_window.proofs.ListLemmas.{slice_get-drop, found_at, found_behind, none_at, get_some}

-- what stands before the first kept index or not
pub chosen : {X : Type 0} (b : Bool) (x y : X) → b ≡ true → (elim b as (λ v. X) [ true ↦ x | false ↦ y ]) ≡ x
chosen true x y e = refl
chosen false x y e = absurd (cc)

pub passed_over : {X : Type 0} (b : Bool) (x y : X) → b ≡ false → (elim b as (λ v. X) [ true ↦ x | false ↦ y ]) ≡ y
passed_over true x y e = absurd (cc)
passed_over false x y e = refl

-- an entry of the window, in its state
pub record Found (w : WindowState) (s : SenderState) (index : ℕ) (e : HeldEntry) : Type 0 where
  pub entry : Entry
  pub there : slice_get s.current.order index ≡ Some entry
  pub kept : kept_at s index ≡ Some entry.object
  pub stands : StandsForEntry (entry_reads w (reads s) index entry.object) e
  pub low : s.current.drop.index ≤ index
  pub first : first_of e ≡ first_kept s index

pub dropped_is : (w : WindowState) (s : SenderState) → Stands w s → s.current.drop.index ≡ w.dropped
dropped_is w s stands = ap (λ (d : Point). d.index) stands.dropped

first_is : (w : WindowState) (s : SenderState) (n : ℕ) (e : HeldEntry) → Stands w s → slice_get w.entries n ≡ Some e → first_of e ≡ first_kept s (w.dropped + n)
first_is w s zero e stands there =
    go w.entries there
    ∙ ap (λ (d : Point). d.block) (sym stands.dropped)
    ∙ sym (passed_over (nat_lt s.current.drop.index (w.dropped + 0)) 0 s.current.drop.block (le-ltb s.current.drop.index (w.dropped + 0) (omega (arith, dropped_is w s stands))))
  where
    go : (es : List HeldEntry) → slice_get es 0 ≡ Some e → first_of e ≡ first_block es
    go [] is = absurd (cc)
    go (x ∷ xs) is = ap first_of (let same : e ≡ x = cc in same)
first_is w s (suc n) e stands there =
    stands.whole n e there
    ∙ sym (chosen (nat_lt s.current.drop.index (w.dropped + suc n)) 0 s.current.drop.block (lt-ltb s.current.drop.index (w.dropped + suc n) (omega (arith, dropped_is w s stands))))

pub entry_at_place : (w : WindowState) (s : SenderState) (n : ℕ) (e : HeldEntry) → Stands w s → slice_get w.entries n ≡ Some e → Found w s (w.dropped + n) e
entry_at_place w s n e stands there =
    let within = slice_get_within w.entries n e there in
    let found = get_some n (drop w.dropped s.current.order) (omega (arith, within, stands.next, length-drop w.dropped s.current.order)) in
    let at : slice_get s.current.order (w.dropped + n) ≡ Some found.0 = sym (slice_get-drop w.dropped s.current.order n) ∙ found.1 in
    let low : s.current.drop.index ≤ w.dropped + n = omega (arith, dropped_is w s stands) in
    record {
      entry = found.0;
      there = at;
      kept =
          ap (λ b. elim (not b) as (λ v. Option Object) [ true ↦ (elim (slice_get s.current.order (w.dropped + n)) as (λ v. Option Object) [ Some entry ↦ Some entry.object | None ↦ None ]) | false ↦ None ])
          (le-ltb (w.dropped + n) s.current.drop.index low)
          ∙ ap (λ (r : Option Entry). elim r as (λ v. Option Object) [ Some entry ↦ Some entry.object | None ↦ None ]) at;
      stands = stands.entries n found.0 e found.1 there;
      low = low;
      first = first_is w s n e stands there;
    }

-- the entry with an index
pub found : (w : WindowState) (s : SenderState) (index : ℕ) (e : HeldEntry) → Stands w s → Some e ≡ from_first w.dropped w.entries index → Found w s index e
found w s index e stands is =
    let behind = found_behind w.dropped index w.entries e is in
    subst (λ i. Found w s i e) (let same : w.dropped + (index - w.dropped) ≡ index = omega (arith, behind) in same)
    (entry_at_place w s (index - w.dropped) e stands (found_at w.dropped index w.entries e is))

-- behind the last entry nothing is enqueued
pub none_behind : (w : WindowState) (s : SenderState) (index : ℕ) → Stands w s → w.dropped ≤ index → None ≡ from_first w.dropped w.entries index → next_index s ≤ index
none_behind w s index stands le none = go (cases_lt (index - w.dropped) (length w.entries))
  where
    never : (e : HeldEntry) → ◌≡◌ {A = Option HeldEntry} None (Some e) → ⊥
    never e is = cc

    go : (index - w.dropped < length w.entries) ⊎ (length w.entries ≤ index - w.dropped) → next_index s ≤ index
    go (inl lt) = let there = get_some (index - w.dropped) w.entries lt in absurd (never there.0 (sym (none_at w.dropped index w.entries le none) ∙ there.1))
    go (inr past) = omega (arith, past, le, stands.next)

pub nothing_there : {X : Type 0} (xs : List X) (n : ℕ) → length xs ≤ n → slice_get xs n ≡ None
nothing_there [] n le = refl
nothing_there (x ∷ xs) zero le = absurd (omega arith)
nothing_there (x ∷ xs) (suc n) le = nothing_there xs n (omega arith)

-- what is not in the window is not kept
pub not_kept : (w : WindowState) (s : SenderState) (index : ℕ) → Stands w s → None ≡ from_first w.dropped w.entries index → kept_at s index ≡ None
not_kept w s index stands none = go (cases_lt index w.dropped)
  where
    of : Option Entry → Option Object
    of r = elim r as (λ v. Option Object) [ Some entry ↦ Some entry.object | None ↦ None ]

    go : (index < w.dropped) ⊎ (w.dropped ≤ index) → kept_at s index ≡ None
    go (inl before) =
        ap (λ b. elim (not b) as (λ v. Option Object) [ true ↦ (elim (slice_get s.current.order index) as (λ v. Option Object) [ Some entry ↦ Some entry.object | None ↦ None ]) | false ↦ None ])
        (lt-ltb index s.current.drop.index (omega (arith, before, dropped_is w s stands)))
    go (inr behind) =
        ap (λ b. elim (not b) as (λ v. Option Object) [ true ↦ (elim (slice_get s.current.order index) as (λ v. Option Object) [ Some entry ↦ Some entry.object | None ↦ None ]) | false ↦ None ])
        (le-ltb index s.current.drop.index (omega (arith, behind, dropped_is w s stands)))
        ∙ ap (λ (r : Option Entry). elim r as (λ v. Option Object) [ Some entry ↦ Some entry.object | None ↦ None ])
        (nothing_there s.current.order index (none_behind w s index stands behind none))

-- the entries of the window are those that were not dropped
pub are_entries : (w : WindowState) (s : SenderState) → Stands w s → AreEntries w.ring w.p w.dropped (window s) s w.entries
are_entries w s stands = subst (λ n. AreEntries w.ring w.p w.dropped (drop n s.current.order) s w.entries) (sym (dropped_is w s stands)) (record {
  long = omega (arith, stands.next, length-drop w.dropped s.current.order);
  each = λ n entry e there here. stands.entries n entry e there here;
})

-- an entry's shape is that of what it stands for
pub shape_is : (r : Rattle.tx_window.specs.EntryState.EntryReads) (e : HeldEntry) → StandsForEntry r e → shape_of r.p r.object ≡ shape_kept e
shape_is r (held.Object h) is =
    ap (shape_of r.p) is.object
    ∙ ap (λ (c : Cut). record { cut = c; closed = all_symbols c; info = is_some h.info }) (sym is.placed.holds.cut)
shape_is r (held.Stream stream) is =
    ap (shape_of r.p) is.object
    ∙ ap (λ (c : Cut). record { cut = c; closed = closed_of r.p is.parts; info = false }) (sym is.knows.buffer.cut)
    ∙ ap (λ n. record { cut = stream.buffer.cut; closed = n; info = false }) (sym (counted r.p is.parts stream.buffer is.knows.buffer))

pub answers_at : (p : Settings) (s : SenderState) (at : Position) (object : Object) (first : ℕ) (old new : List ℕ) (answer : Option ℕ) → kept_at s at.index ≡ Some object
    → first ≡ first_kept s at.index → AnswersKept p object first at.block at.symbol old new answer → AnswersAt p s at old new answer
answers_at p s at object first old new answer kept first-is is =
    subst (λ (r : Option Object). MatchOption r ((answer ≡ None) × (new ≡ old)) (λ o. AnswersKept p o (first_kept s at.index) at.block at.symbol old new answer)) (sym kept)
    (subst (λ n. AnswersKept p object n at.block at.symbol old new answer) first-is is)

pub answers_none : (p : Settings) (s : SenderState) (at : Position) (old : List ℕ) → kept_at s at.index ≡ None → AnswersAt p s at old old None
answers_none p s at old none =
    subst (λ (r : Option Object). MatchOption r ((◌≡◌ {A = Option ℕ} None None) × (old ≡ old)) (λ o. AnswersKept p o (first_kept s at.index) at.block at.symbol old old None)) (sym none) (refl, refl)

-- what is kept, by what is found
pub of_kept : {X : Type 0} (f : Object → X) (s : SenderState) (index : ℕ) (object : Object) → kept_at s index ≡ Some object
    → Rattle.std.specs.Prelude.option_map f (kept_at s index) ≡ Some (f object)
of_kept f s index object is = ap (Rattle.std.specs.Prelude.option_map f) is

pub none_of : {X : Type 0} (f : Object → X) (s : SenderState) (index : ℕ) → kept_at s index ≡ None → Rattle.std.specs.Prelude.option_map f (kept_at s index) ≡ None
none_of f s index is = ap (Rattle.std.specs.Prelude.option_map f) is

pub info_some : (s : SenderState) (index : ℕ) (object : Object) → kept_at s index ≡ Some object → Rattle.tx_window.specs.Asked.info_at s index ≡ Rattle.tx_object.specs.Held.info_of object
info_some s index object is = ap (λ (r : Option Object). elim r as (λ v. Option (List ℕ)) [ Some o ↦ Rattle.tx_object.specs.Held.info_of o | None ↦ None ]) is

pub info_none : (s : SenderState) (index : ℕ) → kept_at s index ≡ None → Rattle.tx_window.specs.Asked.info_at s index ≡ None
info_none s index is = ap (λ (r : Option Object). elim r as (λ v. Option (List ℕ)) [ Some o ↦ Rattle.tx_object.specs.Held.info_of o | None ↦ None ]) is

-- a lent info is no longer than what it is a copy of
pub short_info : (r info : Option (List ℕ)) (e most : ℕ) → r ≡ info → e ≡ most → Rattle.norm_send_rules.specs.Enqueuing.info_length info ≤ e → MatchOption r Rattle.std.specs.Prelude.⊤ (λ i. length i ≤ most)
short_info None info e most is same short = tt
short_info (Some i) info e most is same short = omega (arith, same, short, ap Rattle.norm_send_rules.specs.Enqueuing.info_length is)

-- the info of an entry of the window is short
pub info_short : (ring : List ℕ) (p : Settings) (es : List HeldEntry)
    → ((n : ℕ) (h : Rattle.tx_object.specs.Held.HeldObject) → slice_get es n ≡ Some (held.Object h) → Rattle.tx_object.specs.Placed.IsPlaced ring p h)
    → (n : ℕ) (e : HeldEntry) → slice_get es n ≡ Some e → Rattle.norm_send_rules.specs.Enqueuing.info_length (Rattle.tx_window.specs.EntryPlaces.held_info e) ≤ p.e
info_short ring p es placed n (held.Object h) is = (placed n h is).short
info_short ring p es placed n (held.Stream stream) is = omega arith

pub block_empty : (es : List HeldEntry) → length es ≡ 0 → first_block es ≡ 0
block_empty [] none = refl
block_empty (e ∷ es) none = absurd (omega (arith, none))

pub block_first : (es : List HeldEntry) (e : HeldEntry) → slice_get es 0 ≡ Some e → first_block es ≡ first_of e
block_first [] e is = absurd (cc)
block_first (x ∷ es) e is = ap first_of (let same : x ≡ e = cc in same)
