-- Hand-ups that go through an order go through it as it goes on, and its drop point too.
use Rattle.std.proofs.Common.{◌≡◌, ℕ, suc, ◌<◌, List, [], ◌∷◌, ◌++◌, length, true, false, refl, sym, ap, ◌∙◌, subst, append_assoc}
use Rattle.std.proofs.lemmas.List.{append-nil}
use Rattle.norm_base.specs.Settings.{Settings}
use Rattle.fec_plan.specs.Points.{Point, point_before}
use Rattle.norm_order.specs.Entries.{Object, Whole, Stream, Entry}
use Rattle.norm_order.specs.Upto.{parts_of}
use Rattle.norm_order.specs.declared.up.Up.{Up}
use Rattle.norm_order.specs.declared.up.Up.TheVariants as up
use Rattle.norm_safety.specs.InOrder.{GoesThrough, Stops, Hands, Loses, Within, IsHandedOf, is_stream_object}
use Rattle.norm_safety.proofs.GoesOn.{ObjectLater, OrderLater, object_itself}
use Rattle.norm_safety.proofs.Passed.{parts_later, lost_later}
use Rattle.norm_safety.proofs.Through.{within_entry}

-- parts before a loss, or at the end
part_later : (p : Settings) (index : ℕ) (o later : Object) (front : List Up) → 0 < p.e → ObjectLater o later → IsHandedOf p index o front
    → IsHandedOf p index later front
part_later p index (Whole kind info octets) later front some is h = let H : Object → Type 0 = λ o. IsHandedOf p index o front in subst H (sym is) h
part_later p index (Stream parts) later front some (more, is, none) (next, rest, whole) =
    let grows = parts_later p index (Stream parts) later some (more, is, none) in
    let H : Object → Type 0 = λ o. IsHandedOf p index o front in
    let now : parts_of p index (Stream (parts ++ more)) ≡ front ++ next ∷ (rest ++ grows.0) =
    ap (parts_of p index) (sym is) ∙ grows.1 ∙ ap (λ (xs : List Up). xs ++ grows.0) whole ∙ append_assoc front (next ∷ rest) grows.0 in
    subst H (sym is) (next, rest ++ grows.0, now)

stream_later : (o later : Object) → ObjectLater o later → is_stream_object o ≡ true → is_stream_object later ≡ true
stream_later (Whole kind info octets) later is e = ap is_stream_object is ∙ e
stream_later (Stream parts) later (more, is, none) e = ap is_stream_object is

-- nothing is handed up of no entries
pub none_through : (p : Settings) (d : Point) (index : ℕ) (ups : List Up) → GoesThrough p d index [] ups → ups ≡ []
none_through p d index [] Stops = refl
none_through p d index (x ∷ ups) h = elim h [ ]

-- the hand-ups of the last entry, as it goes on
last_hands : (p : Settings) (d : Point) (index : ℕ) (x y : Entry) (later : List Entry) → 0 < p.e → ObjectLater x.object y.object
    → GoesThrough p d index (y ∷ later) (parts_of p index x.object ++ [])
last_hands p d index x y later some on =
    let grows = parts_later p index x.object y.object some on in
    let G : List Up → Type 0 = λ xs. GoesThrough p d index (y ∷ later) xs in
    subst G (sym (append-nil (parts_of p index x.object))) (go grows.0 grows.1)
  where
    go : (more : List Up) → parts_of p index y.object ≡ parts_of p index x.object ++ more → GoesThrough p d index (y ∷ later) (parts_of p index x.object)
    go [] is =
        let G : List Up → Type 0 = λ xs. GoesThrough p d index (y ∷ later) xs in
        let same : parts_of p index y.object ++ [] ≡ parts_of p index x.object =
        append-nil (parts_of p index y.object) ∙ is ∙ append-nil (parts_of p index x.object) in
        subst G same (Hands y Stops)
    go (next ∷ more) is = within_entry p d index later y (parts_of p index x.object) (next, more, is)

-- the first entry of an order that goes on: itself, or one that goes on
pub through_on : (p : Settings) (d e : Point) (index : ℕ) (order later : List Entry) (ups : List Up) → 0 < p.e → point_before e d ≡ false
    → OrderLater order later → GoesThrough p d index order ups → GoesThrough p e index later ups
through_on p d e index order later [] some drop on Stops = Stops
through_on p d e index (_ ∷ []) [] _ some drop on (Hands {rest = rest} x goes) = absurd on
through_on p d e index (_ ∷ []) (y ∷ later) _ some drop on (Hands {rest = rest} x goes) =
    let G : List Up → Type 0 = λ xs. GoesThrough p e index (y ∷ later) (parts_of p index x.object ++ xs) in
    subst G (sym (none_through p d (suc index) rest goes)) (last_hands p e index x y later some on.1)
through_on p d e index (_ ∷ z ∷ order) [] _ some drop on (Hands {rest = rest} x goes) = absurd on
through_on p d e index (_ ∷ z ∷ order) (y ∷ later) _ some drop on (Hands {rest = rest} x goes) =
    let G : Entry → Type 0 = λ w. GoesThrough p e index (w ∷ later) (parts_of p index x.object ++ rest) in
    subst G (sym on.0) (Hands x (through_on p d e (suc index) (z ∷ order) later rest some drop on.1 goes))
through_on p d e index (_ ∷ []) [] _ some drop on (Loses {rest = rest} x front part may goes) = absurd on
through_on p d e index (_ ∷ []) (y ∷ later) _ some drop on (Loses {rest = rest} x front part may goes) =
    let G : List Up → Type 0 = λ xs. GoesThrough p e (suc index) later xs in
    Loses y front (part_later p index x.object y.object front some on.1 part) (lost_later p d e index x.object y.object (length front) drop on.1 may)
    (subst G (sym (none_through p d (suc index) rest goes)) Stops)
through_on p d e index (_ ∷ z ∷ order) [] _ some drop on (Loses {rest = rest} x front part may goes) = absurd on
through_on p d e index (_ ∷ z ∷ order) (y ∷ later) _ some drop on (Loses {rest = rest} x front part may goes) =
    let G : Entry → Type 0 = λ w. GoesThrough p e index (w ∷ later) (front ++ up.Lost index ∷ rest) in
    subst G (sym on.0) (Loses x front part (lost_later p d e index x.object x.object (length front) drop (object_itself x.object) may)
    (through_on p d e (suc index) (z ∷ order) later rest some drop on.1 goes))
through_on p d e index (_ ∷ []) [] ups some drop on (Within x front stream part) = absurd on
through_on p d e index (_ ∷ []) (y ∷ later) ups some drop on (Within x front stream part) =
    Within y ups (stream_later x.object y.object on.1 stream) (part_later p index x.object y.object ups some on.1 part)
through_on p d e index (_ ∷ z ∷ order) [] ups some drop on (Within x front stream part) = absurd on
through_on p d e index (_ ∷ z ∷ order) (y ∷ later) ups some drop on (Within x front stream part) =
    let G : Entry → Type 0 = λ w. GoesThrough p e index (w ∷ later) ups in
    subst G (sym on.0) (Within x ups stream part)
