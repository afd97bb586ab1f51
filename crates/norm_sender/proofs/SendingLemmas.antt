-- What is sent of an object of the window, over what a sender keeps.
use Rattle.std.proofs.Common.{◌≡◌, ◌∙◌, ◌⊎◌, inl, inr, ℕ, ◌<◌, ◌≤◌, List, [], Bool, true, false, Option, Some, None, refl, sym, ap, arith}
use Rattle.std.specs.Prelude.{nat_le, nat_lt, not, slice_get}
use Rattle.std.specs.Option.{option_map}
use Rattle.std.proofs.lemmas.Option.{slice_get-map}
use Rattle.std.proofs.lemmas.Bool.Decides.{nat_tests}
use Rattle.norm_base.specs.Settings.{Settings}
use Rattle.norm_base.specs.declared.kinds.Kind.{Kind}
use Rattle.norm_base.specs.declared.kinds.Kind.TheVariants as kind
use Rattle.norm_base.specs.declared.kinds.Sent.TheVariants.{Datagram}
use Rattle.fec_plan.specs.Points.{Point, point_of, point_before}
use Rattle.fec_plan.specs.declared.position.Position.{Position}
use Rattle.fec_plan.proofs.PointLemmas.{behind_point}
use Rattle.norm_ext.specs.Octets.{octets_of}
use Rattle.norm_order.specs.Entries.{Object, Whole, Stream, Entry}
use Rattle.norm_order.specs.Shapes.{Shape, shape_of, encoded_in}
use Rattle.norm_send_rules.specs.SenderState.{SenderState}
use Rattle.norm_send_rules.specs.InWindow.{stands_behind}
use Rattle.norm_send_rules.specs.Room.{first_kept}
use Rattle.norm_send_rules.specs.Sending.{object_of, message_of, noted, sends_want}
use Rattle.norm_send_rules.specs.declared.want.Want.{Want}
use Rattle.norm_send_rules.specs.declared.want.Want.TheVariants.{Info, Symbol}
use Rattle.tx_window.specs.Asked.{kept_at}
use Rattle.tx_window.specs.WindowState.{WindowState, IsInWindow, Stands as WindowStands}
use Rattle.tx_window.proofs.LawLemmas.{is_there}
use Rattle.nack_union.specs.UnionState.{UnionState, Stands as UnionStands}
use Rattle.mark_book.specs.BookState.{BookState, Stands as BookStands}
use Rattle.norm_sender.specs.Pacing.{pace_of}
use Rattle.norm_sender.specs.SenderKept.{SenderKept, Agrees}
use Rattle.norm_sender.specs.SenderMoves.{IsSent}
use Rattle.norm_sender.specs.Wanted.{IsValid, spent}

-- An encoded symbol of the window is one of its object there.
pub record SymbolThere (p : Settings) (s : SenderState) (at : Position) : Type 0 where
  pub object : Object
  pub kept : kept_at s at.index ≡ Some object
  pub of : object_of s (Symbol at) ≡ object
  pub encoded : nat_lt at.symbol (encoded_in (shape_of p object) at.block) ≡ true
  pub first : nat_le (first_kept s at.index) at.block ≡ true

-- An info of the window is one of its object there.
pub record InfoThere (s : SenderState) (index : ℕ) : Type 0 where
  pub sort : Kind
  pub info : List ℕ
  pub octets : List ℕ
  pub kept : kept_at s index ≡ Some (Whole sort (Some info) octets)
  pub of : object_of s (Info index) ≡ Whole sort (Some info) octets

-- the object that stands in the order, where it is behind the drop point
abbrev kept_if : Bool → Option Entry → Option Object
kept_if behind found = elim behind [
  | true ↦ elim found [ Some entry ↦ Some entry.object | None ↦ None ]
  | false ↦ None
]

abbrev object_if : Option Entry → Object
object_if found = elim found [ Some entry ↦ entry.object | None ↦ Stream [] ]

-- what a test of a shape says of the entry that is found
abbrev tested : Settings → (Shape → Bool) → Option Entry → Bool
tested p test found = elim (option_map (λ (entry : Entry). shape_of p entry.object) found) [ Some x ↦ test x | None ↦ false ]

record Found (p : Settings) (test : Shape → Bool) (found : Option Entry) : Type 0 where
  entry : Entry
  is : found ≡ Some entry
  passes : test (shape_of p entry.object) ≡ true

found_where : (p : Settings) (test : Shape → Bool) (found : Option Entry) → tested p test found ≡ true → Found p test found
found_where p test None e = absurd (cc)
found_where p test (Some entry) e = record { entry = entry; is = refl; passes = e }

not_below : (m n : ℕ) → not (nat_lt m n) ≡ true → n ≤ m
not_below m n e = grind (arith, nat_tests)

-- a symbol behind the drop point is of an object behind it
object_behind : (drop : Point) (at : Position) → stands_behind drop (Symbol at) ≡ true → stands_behind drop (Info at.index) ≡ true
object_behind drop at e = go (nat_lt at.index drop.index) refl
  where
    go : (b : Bool) → nat_lt at.index drop.index ≡ b → not b ≡ true
    go false f = refl
    go true f = absurd (grind (arith, nat_tests))

-- a symbol behind the drop point is of a block that is kept
kept_from : (s : SenderState) (at : Position) → stands_behind s.current.drop (Symbol at) ≡ true → nat_le (first_kept s at.index) at.block ≡ true
kept_from s at e =
    go (nat_lt s.current.drop.index at.index) refl (behind_point (point_of at) s.current.drop (not_so (point_before (point_of at) s.current.drop) e))
  where
    not_so : (b : Bool) → not b ≡ true → b ≡ false
    not_so true e = absurd (cc)
    not_so false e = refl

    go : (b : Bool) → nat_lt s.current.drop.index at.index ≡ b
        → (s.current.drop.index < at.index) ⊎ ((s.current.drop.index ≡ at.index) × (s.current.drop.block ≤ at.block))
        → nat_le (elim b [ true ↦ 0 | false ↦ s.current.drop.block ]) at.block ≡ true
    go true is behind = grind (arith, nat_tests)
    go false is (inl lt) = absurd (grind (arith, nat_tests))
    go false is (inr same) = (let le = same.1 in grind (arith, nat_tests))

pub symbol_there : (p : Settings) (s : SenderState) (at : Position) → IsValid p s (Symbol at) → SymbolThere p s at
symbol_there p s at v =
    let test : Shape → Bool = λ shape. nat_lt at.symbol (encoded_in shape at.block) in
    let f = found_where p test (slice_get s.current.order at.index)
    (ap (λ (o : Option Shape). elim o as (λ _. Bool) [ Some x ↦ test x | None ↦ false ])
    (sym (slice_get-map (λ (entry : Entry). shape_of p entry.object) s.current.order at.index)) ∙ v.of_order) in
    record {
      object = f.entry.object;
      kept =
          ap (λ (b : Bool). kept_if b (slice_get s.current.order at.index)) (object_behind s.current.drop at v.behind)
          ∙ ap (kept_if true) f.is;
      of = ap object_if f.is;
      encoded = f.passes;
      first = kept_from s at v.behind;
    }

info_of_whole : (s : SenderState) (index : ℕ) (p : Settings) (entry : Entry) (object : Object) → entry.object ≡ object
    → (shape_of p object).info ≡ true → kept_at s index ≡ Some object → object_of s (Info index) ≡ object → InfoThere s index
info_of_whole s index p entry (Whole sort (Some info) octets) e i kept of = record { sort = sort; info = info; octets = octets; kept = kept; of = of }
info_of_whole s index p entry (Whole sort None octets) e i kept of = absurd (cc)
info_of_whole s index p entry (Stream parts) e i kept of = absurd (cc)

pub info_there : (p : Settings) (s : SenderState) (index : ℕ) → IsValid p s (Info index) → InfoThere s index
info_there p s index v =
    let f = found_where p (λ shape. shape.info) (slice_get s.current.order index)
    (ap (λ (o : Option Shape). elim o as (λ _. Bool) [ Some x ↦ x.info | None ↦ false ])
    (sym (slice_get-map (λ (entry : Entry). shape_of p entry.object) s.current.order index)) ∙ v.of_order) in
    info_of_whole s index p f.entry f.entry.object refl f.passes
    (ap (λ (b : Bool). kept_if b (slice_get s.current.order index)) v.behind ∙ ap (kept_if true) f.is)
    (ap object_if f.is)

-- What was written, noted and spent is the rule's step.

sent_window : (p : Settings) (now repair : ℕ) (w : Want) (s : SenderState) (window : WindowState) → WindowStands window (noted w s)
    → WindowStands window (sends_want p now (λ object. repair) w s).0
sent_window p now repair (Info index) s window h = h
sent_window p now repair (Symbol at) s window h = h

sent_union : (p : Settings) (now repair : ℕ) (w : Want) (s : SenderState) (union : UnionState) → UnionStands union (noted w s)
    → UnionStands union (sends_want p now (λ object. repair) w s).0
sent_union p now repair (Info index) s union h = h
sent_union p now repair (Symbol at) s union h = h

sent_book : (p : Settings) (now repair : ℕ) (w : Want) (s : SenderState) (q : Settings) (book : BookState) → BookStands q book (noted w s)
    → BookStands q book (sends_want p now (λ object. repair) w s).0
sent_book p now repair (Info index) s q book h = h
sent_book p now repair (Symbol at) s q book h = h

sent_pace : (p : Settings) (now repair : ℕ) (w : Want) (s : SenderState) → spent p now (pace_of (noted w s)) ≡ pace_of (sends_want p now (λ object. repair) w s).0
sent_pace p now repair (Info index) s = refl
sent_pace p now repair (Symbol at) s = refl

pub want_sent : (k : SenderKept) (p : Settings) (now repair : ℕ) (w : Want) (out : List ℕ) (s : SenderState)
    → k.p ≡ p → Agrees k (noted w s) → out ≡ octets_of (message_of p s w (object_of s w) repair)
    → IsSent (record k { pace = spent k.p now k.pace }) out Datagram (sends_want p now (λ object. repair) w s)
want_sent k p now repair w out s same h written = record {
  stands = record {
    window_profile = h.window_profile;
    filling = h.filling;
    union_profile = h.union_profile;
    window = sent_window p now repair w s k.window h.window;
    union = sent_union p now repair w s k.union h.union;
    book = sent_book p now repair w s k.p k.book h.book;
    pace = ap (λ (q : Settings). spent q now k.pace) same ∙ ap (spent p now) h.pace ∙ sent_pace p now repair w s;
  };
  octets = ap Some written;
}

pub symbol_sent : (p : Settings) (s : SenderState) (at : Position) (object : Object) (repair : ℕ) (out : List ℕ) → object_of s (Symbol at) ≡ object
    → out ≡ octets_of (message_of p s (Symbol at) object repair) → out ≡ octets_of (message_of p s (Symbol at) (object_of s (Symbol at)) repair)
symbol_sent p s at object repair out of is = is ∙ ap (λ (o : Object). octets_of (message_of p s (Symbol at) o repair)) (sym of)

pub info_sent : (p : Settings) (s : SenderState) (index : ℕ) (object : Object) (repair : ℕ) (out : List ℕ) → object_of s (Info index) ≡ object
    → out ≡ octets_of (message_of p s (Info index) object repair) → out ≡ octets_of (message_of p s (Info index) (object_of s (Info index)) repair)
info_sent p s index object repair out of is = is ∙ ap (λ (o : Object). octets_of (message_of p s (Info index) o repair)) (sym of)

-- the object of an info is in the window
pub info_in_window : (w : WindowState) (s : SenderState) (index : ℕ) (p : Settings) → WindowStands w s → IsValid p s (Info index) → IsInWindow w index
info_in_window w s index p h v =
    let f = found_where p (λ shape. shape.info) (slice_get s.current.order index)
    (ap (λ (o : Option Shape). elim o as (λ _. Bool) [ Some x ↦ x.info | None ↦ false ])
    (sym (slice_get-map (λ (entry : Entry). shape_of p entry.object) s.current.order index)) ∙ v.of_order) in
    is_there w s index f.entry h f.is (not_below index s.current.drop.index v.behind)
