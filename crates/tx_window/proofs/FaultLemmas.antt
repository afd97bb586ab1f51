-- Why nothing more joins the order, and whether a stream is open.
use Rattle.std.proofs.Common.{◌≡◌, ℕ, zero, suc, ◌+◌, ◌-◌, ◌*◌, ◌<◌, ◌≤◌, inl, inr, arith, Bool, true, false, refl, sym, ap, ◌∙◌, Option, Some, None, List, [], ◌∷◌, ◌++◌, length, ◌==◌}
use Rattle.std.specs.Prelude.{nat_lt, not, reverse, is_some, slice_get, Result, Ok, Err}
use Rattle.std.proofs.lemmas.List.{reverse-append, length-reverse}
use Rattle.norm_base.specs.Settings.{Settings}
use Rattle.norm_base.specs.declared.kinds.Kind.{Kind}
use Rattle.norm_base.specs.declared.node.Origin.{Origin}
use Rattle.norm_order.specs.First.{first_where}
use Rattle.norm_order.specs.Entries.{Part, Whole, Entry}
use Rattle.norm_send_rules.specs.SenderState.{SenderState}
use Rattle.norm_send_rules.specs.InWindow.{last_index, next_index}
use Rattle.norm_send_rules.specs.Room.{can_make_room}
use Rattle.norm_send_rules.specs.Enqueuing.{object_fault, open_stream, open_parts, info_length, ids_spent, enqueued, joined}
use Rattle.norm_send_rules.specs.Streaming.{open_fault}
use Rattle.norm_send_rules.specs.declared.fault.EnqueueFault.{EnqueueFault}
use Rattle.norm_send_rules.specs.declared.fault.EnqueueFault.TheVariants.{Empty, TooBig, InfoTooBig, StreamOpen, IdsSpent, WindowFull}
use Rattle.norm_send_rules.specs.declared.job.Receipt.{Receipt}
use Rattle.norm_send_rules.specs.declared.job.Receipt.TheVariants.{Object as EnqueuedObject}
use Rattle.tx_window.specs.declared.entry.HeldEntry.{HeldEntry}
use Rattle.tx_window.specs.Taking.{size_fault}
use Rattle.tx_window.specs.WindowState.{WindowState, Stands, open_of}
use Rattle.tx_window.specs.Asked.{joining_fault}
use Rattle.tx_window.proofs.KeptLemmas.{Found, entry_at_place}

-- ---- the open stream

-- the first entry of a row that is open
abbrev first_open : List Entry → Option (List Part)
first_open es = elim es as (λ v. Option (List Part)) [ [] ↦ None | entry ∷ entries ↦ open_parts entry.object ]

open_tail : (x y : Entry) (ys : List Entry) → open_of (x ∷ y ∷ ys) ≡ open_of (y ∷ ys)
open_tail x y ys = ap first_open (reverse-append (x ∷ []) (y ∷ ys)) ∙ go (reverse (y ∷ ys)) (omega (arith, length-reverse (y ∷ ys)))
  where
    go : (zs : List Entry) → 0 < length zs → first_open (zs ++ reverse (x ∷ [])) ≡ first_open zs
    go [] none = absurd (omega (arith, none))
    go (z ∷ zs) some = refl

pub open_last : (order : List Entry) (n : ℕ) (entry : Entry) → n + 1 ≡ length order → slice_get order n ≡ Some entry → open_of order ≡ open_parts entry.object
open_last [] n entry long is = absurd (cc)
open_last (x ∷ []) zero entry long is = ap (λ (e : Entry). open_parts e.object) (let same : x ≡ entry = cc in same)
open_last (x ∷ []) (suc n) entry long is = absurd (omega (arith, long))
open_last (x ∷ y ∷ ys) zero entry long is = absurd (omega (arith, long))
open_last (x ∷ y ∷ ys) (suc n) entry long is = open_tail x y ys ∙ open_last (y ∷ ys) n entry (omega (arith, long)) is

-- without an entry in the window none is open
pub none_open : (w : WindowState) (s : SenderState) → Stands w s → length w.entries ≡ 0 → open_stream s ≡ None
none_open w s stands none = go (open_stream s) refl
  where
    go : (r : Option (List Part)) → open_stream s ≡ r → r ≡ None
    go None is = refl
    go (Some parts) is = absurd (omega (arith, stands.opened parts is, none))

-- the last entry is the one that may be open
pub record Last (w : WindowState) (s : SenderState) (e : HeldEntry) : Type 0 where
  pub found : Found w s (w.dropped + (length w.entries - 1)) e
  pub index : w.dropped + (length w.entries - 1) ≡ last_index s
  pub opened : open_stream s ≡ open_parts found.entry.object

pub last_found : (w : WindowState) (s : SenderState) (e : HeldEntry) → Stands w s → 0 < length w.entries → slice_get w.entries (length w.entries - 1) ≡ Some e → Last w s e
last_found w s e stands some there =
    let is = entry_at_place w s (length w.entries - 1) e stands there in
    let index : w.dropped + (length w.entries - 1) ≡ last_index s = omega (arith, stands.next, some) in
    record {
      found = is;
      index = index;
      opened = open_last s.current.order (w.dropped + (length w.entries - 1)) is.entry (omega (arith, stands.next, some)) is.there;
    }

pub not_some : {X : Type 0} (r : Option X) → is_some r ≡ false → r ≡ None
not_some None is = refl
not_some (Some x) is = absurd (cc)

-- ---- the tables

three : (a b c : Bool) (x y z : EnqueueFault) → first_where ((a, x) ∷ (b, y) ∷ (c, z) ∷ []) ≡ (elim a as (λ v. Option EnqueueFault) [
  | true ↦ Some x
  | false ↦ elim b as (λ v. Option EnqueueFault) [ true ↦ Some y | false ↦ elim c as (λ v. Option EnqueueFault) [ true ↦ Some z | false ↦ None ] ]
])
unfolding first_where
three true b c x y z = refl
three false true c x y z = refl
three false false true x y z = refl
three false false false x y z = refl

pub joins_open : (p : Settings) (s : SenderState) (len : ℕ) → is_some (open_stream s) ≡ true → joining_fault p s len ≡ Some (StreamOpen (last_index s))
unfolding first_where
joins_open p s len is = ap (λ b. first_where ((b, StreamOpen (last_index s)) ∷ (ids_spent s, IdsSpent) ∷ (not (can_make_room p s len), WindowFull s.current.drop.index) ∷ [])) is

pub joins_then : (p : Settings) (s : SenderState) (len : ℕ) (spent full : Bool) → open_stream s ≡ None → ids_spent s ≡ spent → can_make_room p s len ≡ not full
    → joining_fault p s len ≡ (elim spent as (λ v. Option EnqueueFault) [ true ↦ Some IdsSpent | false ↦ elim full as (λ v. Option EnqueueFault) [ true ↦ Some (WindowFull s.current.drop.index) | false ↦ None ] ])
joins_then p s len spent full none spent-is full-is =
    ap (λ (r : Option (List Part)). first_where ((is_some r, StreamOpen (last_index s)) ∷ (ids_spent s, IdsSpent) ∷ (not (can_make_room p s len), WindowFull s.current.drop.index) ∷ [])) none
    ∙ three false (ids_spent s) (not (can_make_room p s len)) (StreamOpen (last_index s)) IdsSpent (WindowFull s.current.drop.index)
    ∙ ap (λ (b : Bool). elim b as (λ v. Option EnqueueFault) [ true ↦ Some IdsSpent | false ↦ elim (not (can_make_room p s len)) as (λ v. Option EnqueueFault) [ true ↦ Some (WindowFull s.current.drop.index) | false ↦ None ] ]) spent-is
    ∙ ap (λ (b : Bool). elim spent as (λ v. Option EnqueueFault) [ true ↦ Some IdsSpent | false ↦ elim (not b) as (λ v. Option EnqueueFault) [ true ↦ Some (WindowFull s.current.drop.index) | false ↦ None ] ]) full-is
    ∙ ap (λ (b : Bool). elim spent as (λ v. Option EnqueueFault) [ true ↦ Some IdsSpent | false ↦ elim b as (λ v. Option EnqueueFault) [ true ↦ Some (WindowFull s.current.drop.index) | false ↦ None ] ]) (twice full)
  where
    twice : (b : Bool) → not (not b) ≡ b
    twice true = refl
    twice false = refl

sizes_then : (a b c : Bool) (x y z : EnqueueFault) (rest : List (Bool × EnqueueFault)) → first_where ((a, x) ∷ (b, y) ∷ (c, z) ∷ rest)
    ≡ (elim (first_where ((a, x) ∷ (b, y) ∷ (c, z) ∷ [])) as (λ v. Option EnqueueFault) [ Some fault ↦ Some fault | None ↦ first_where rest ])
unfolding first_where
sizes_then true b c x y z rest = refl
sizes_then false true c x y z rest = refl
sizes_then false false true x y z rest = refl
sizes_then false false false x y z rest = refl

pub object_is : (p : Settings) (s : SenderState) (info : Option (List ℕ)) (octets : List ℕ) (i n : ℕ) → info_length info ≡ i → length octets ≡ n
    → object_fault p s info octets ≡ (elim (size_fault p i n) as (λ v. Option EnqueueFault) [ Some fault ↦ Some fault | None ↦ joining_fault p s n ])
object_is p s info octets i n i-is n-is =
    sizes_then (length octets == 0) (nat_lt p.octets (length octets)) (nat_lt p.e (info_length info)) Empty (TooBig (length octets)) (InfoTooBig (info_length info)) _
    ∙ ap (λ k. elim (size_fault p (info_length info) k) as (λ v. Option EnqueueFault) [ Some fault ↦ Some fault | None ↦ joining_fault p s k ]) n-is
    ∙ ap (λ k. elim (size_fault p k n) as (λ v. Option EnqueueFault) [ Some fault ↦ Some fault | None ↦ joining_fault p s n ]) i-is

pub object_by : (p : Settings) (s : SenderState) (info : Option (List ℕ)) (octets : List ℕ) (i n : ℕ) (sizes : Option EnqueueFault) → info_length info ≡ i → length octets ≡ n → sizes ≡ size_fault p i n
    → object_fault p s info octets ≡ (elim sizes as (λ v. Option EnqueueFault) [ Some fault ↦ Some fault | None ↦ joining_fault p s n ])
object_by p s info octets i n sizes i-is n-is is =
    object_is p s info octets i n i-is n-is ∙ ap (λ (r : Option EnqueueFault). elim r as (λ v. Option EnqueueFault) [ Some fault ↦ Some fault | None ↦ joining_fault p s n ]) (sym is)

-- a stream's buffer that is too big, or what else is wrong
pub open_big : (p : Settings) (s : SenderState) → p.octets < p.blocks * p.b * p.e → open_fault p s ≡ Some (TooBig (p.blocks * p.b * p.e))
unfolding first_where
open_big p s big = ap (λ b. first_where ((b, TooBig (p.blocks * p.b * p.e)) ∷ rest)) (Rattle.std.proofs.lemmas.Bool.lt-ltb p.octets (p.blocks * p.b * p.e) big)
  where
    rest : List (Bool × EnqueueFault)
    rest = (is_some (open_stream s), StreamOpen (last_index s)) ∷ (ids_spent s, IdsSpent) ∷ (not (can_make_room p s (p.blocks * p.b * p.e)), WindowFull s.current.drop.index) ∷ []

pub open_then : (p : Settings) (s : SenderState) → p.blocks * p.b * p.e ≤ p.octets → open_fault p s ≡ joining_fault p s (p.blocks * p.b * p.e)
unfolding first_where
open_then p s fit = ap (λ b. first_where ((b, TooBig (p.blocks * p.b * p.e)) ∷ rest)) (Rattle.std.proofs.lemmas.Bool.le-ltb p.octets (p.blocks * p.b * p.e) fit)
  where
    rest : List (Bool × EnqueueFault)
    rest = (is_some (open_stream s), StreamOpen (last_index s)) ∷ (ids_spent s, IdsSpent) ∷ (not (can_make_room p s (p.blocks * p.b * p.e)), WindowFull s.current.drop.index) ∷ []

-- where nothing is wrong no stream is open
pub joins_none : (p : Settings) (s : SenderState) (len : ℕ) → joining_fault p s len ≡ None → open_stream s ≡ None
joins_none p s len is = go (open_stream s) refl
  where
    never : (x : EnqueueFault) → ◌≡◌ {A = Option EnqueueFault} (Some x) None → ⊥
    never x e = cc

    go : (r : Option (List Part)) → open_stream s ≡ r → r ≡ None
    go None e = refl
    go (Some parts) e = absurd (never (StreamOpen (last_index s)) (sym (joins_open p s len (ap is_some e)) ∙ is))

pub object_none : (p : Settings) (s : SenderState) (info : Option (List ℕ)) (octets : List ℕ) → object_fault p s info octets ≡ None → open_stream s ≡ None
object_none p s info octets is = go (size_fault p (info_length info) (length octets)) (sym (object_is p s info octets (info_length info) (length octets) refl refl) ∙ is)
  where
    go : (r : Option EnqueueFault) → (elim r as (λ v. Option EnqueueFault) [ Some fault ↦ Some fault | None ↦ joining_fault p s (length octets) ]) ≡ None → open_stream s ≡ None
    go (Some fault) e = absurd (cc)
    go None e = joins_none p s (length octets) e

pub opened_none : (p : Settings) (s : SenderState) → open_fault p s ≡ None → open_stream s ≡ None
opened_none p s is = elim (Rattle.std.proofs.lemmas.Bool.cases_lt p.octets (p.blocks * p.b * p.e)) [
  | inl big ↦ absurd (never (sym (open_big p s big) ∙ is))
  | inr fit ↦ joins_none p s (p.blocks * p.b * p.e) (sym (open_then p s fit) ∙ is)
]
  where
    never : ◌≡◌ {A = Option EnqueueFault} (Some (TooBig (p.blocks * p.b * p.e))) None → ⊥
    never e = cc

-- no parts are open
pub no_parts : (s : SenderState) → open_stream s ≡ None → (parts : List Part) → open_of s.current.order ≡ Some parts → ⊥
no_parts s none parts is = never (sym none ∙ is)
  where
    never : ◌≡◌ {A = Option (List Part)} None (Some parts) → ⊥
    never e = cc

pub twice : (b : Bool) → not (not b) ≡ b
twice true = refl
twice false = refl

-- an object without a fault joins
pub enqueued_is : (p : Settings) (s : SenderState) (by : Origin) (kind : Kind) (info : Option (List ℕ)) (octets : List ℕ) → object_fault p s info octets ≡ None
    → enqueued p s by kind info octets ≡ (joined p by (Whole kind info octets) s, Ok (EnqueuedObject (next_index s) (length octets)))
enqueued_is p s by kind info octets free =
    ap (λ (r : Option EnqueueFault). elim r as (λ v. SenderState × Result Receipt EnqueueFault) [
      | Some fault ↦ (s, Err fault)
      | None ↦ (joined p by (Whole kind info octets) s, Ok (EnqueuedObject (next_index s) (length octets)))
    ]) free
