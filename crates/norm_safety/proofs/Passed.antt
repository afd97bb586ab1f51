-- Hand-ups that passed the entries of an order, each of which was handed up whole, or lost where the sender dropped it; and that
-- stand within a stream behind them.
use Rattle.std.proofs.Common.{◌≡◌, ℕ, zero, suc, ◌+◌, ◌*◌, ◌<◌, ◌≤◌, List, [], ◌∷◌, ◌++◌, length, take, get_or, Bool, true, false, Option, None, Some, refl, sym, ap, ◌∙◌, subst, append_assoc, arith, ◌⊎◌, inl, inr}
use Rattle.std.specs.Prelude.{nat_lt, ◌==◌, ◌&&◌, ◌||◌, IsTrue}
use Rattle.std.specs.List.{AllByRecursion}
use Rattle.std.proofs.lemmas.Bool.Decides.{Decides-ltb, Decides-eqb}
use Rattle.std.proofs.lemmas.List.{append-nil, length-append, length-map}
use Rattle.norm_base.specs.Settings.{Settings}
use Rattle.fec_plan.specs.Points.{Point, point_before}
use Rattle.fec_plan.proofs.PointLemmas.{behind_point}
use Rattle.norm_order.specs.Entries.{Part, Object, Whole, Stream, Entry}
use Rattle.norm_order.specs.Segments.{closed_from, segments}
use Rattle.norm_order.specs.Upto.{segment_up, parts_of}
use Rattle.norm_order.specs.declared.up.Up.{Up}
use Rattle.norm_order.specs.declared.up.Up.TheVariants as up
use Rattle.norm_order.proofs.StreamLemmas.{Begins, placed_begin, length-placed, map_begin, take_of_front}
use Rattle.norm_safety.specs.InOrder.{IsHandedOf, may_be_lost, is_stream_object, whole_blocks}
use Rattle.norm_safety.proofs.EntryLemmas.{clash}
use Rattle.norm_safety.proofs.GoesOn.{ObjectLater, OrderLater, IsFinished, finished_stays, closed_later}

-- The hand-ups are those of these entries, the first of which has this index: all parts of a finished one, or its loss with the parts
-- before it.
abbrev pub Passed : Settings → Point → ℕ → List Entry → List Up → Type 0
Passed p d index [] ups = ups ≡ []
Passed p d index (x ∷ entries) ups =
    ((rest : List Up) × (ups ≡ parts_of p index x.object ++ rest) × IsFinished x.object × Passed p d (suc index) entries rest)
    ⊎ ((front : List Up) × (rest : List Up) × (ups ≡ front ++ up.Lost index ∷ rest) × IsHandedOf p index x.object front
    × IsTrue (may_be_lost p d index x.object (length front)) × Passed p d (suc index) entries rest)

-- each entry is finished
abbrev pub AreFinished : List Entry → Type 0
AreFinished entries = AllByRecursion (λ (x : Entry). IsFinished x.object) entries

-- one more entry is handed up
pub passed_hands : (p : Settings) (d : Point) (index : ℕ) (entries : List Entry) (ups : List Up) (x : Entry) (at : ℕ) → at ≡ index + length entries
    → IsFinished x.object → Passed p d index entries ups → Passed p d index (entries ++ x ∷ []) (ups ++ parts_of p at x.object)
passed_hands p d index [] ups x at e done h =
    let P : ℕ → Type 0 = λ n. Passed p d index (x ∷ []) (ups ++ parts_of p n x.object) in
    let same : index ≡ at = omega arith in
    let is : ups ++ parts_of p index x.object ≡ parts_of p index x.object ++ [] =
    ap (λ (xs : List Up). xs ++ parts_of p index x.object) h ∙ sym (append-nil (parts_of p index x.object)) in
    subst P same (inl ([], is, done, refl))
passed_hands p d index (y ∷ entries) ups x at e done (inl (rest, is, f, more)) = inl (
  rest ++ parts_of p at x.object,
  ap (λ (xs : List Up). xs ++ parts_of p at x.object) is ∙ append_assoc (parts_of p index y.object) rest (parts_of p at x.object),
  f,
  passed_hands p d (suc index) entries rest x at (omega arith) done more,
)
passed_hands p d index (y ∷ entries) ups x at e done (inr (front, rest, is, of, may, more)) = inr (
  front,
  rest ++ parts_of p at x.object,
  ap (λ (xs : List Up). xs ++ parts_of p at x.object) is ∙ append_assoc front (up.Lost index ∷ rest) (parts_of p at x.object),
  of,
  may,
  passed_hands p d (suc index) entries rest x at (omega arith) done more,
)

-- one more entry is lost
pub passed_loses : (p : Settings) (d : Point) (index : ℕ) (entries : List Entry) (ups : List Up) (x : Entry) (at : ℕ) (part : List Up) → at ≡ index + length entries
    → IsHandedOf p at x.object part → IsTrue (may_be_lost p d at x.object (length part))
    → Passed p d index entries ups → Passed p d index (entries ++ x ∷ []) (ups ++ (part ++ up.Lost at ∷ []))
passed_loses p d index [] ups x at part e handed lost h =
    let P : ℕ → Type 0 = λ n. IsHandedOf p n x.object part in
    let Q : ℕ → Type 0 = λ n. IsTrue (may_be_lost p d n x.object (length part)) in
    let same : at ≡ index = omega arith in
    inr (
      part,
      [],
      ap (λ (xs : List Up). xs ++ (part ++ up.Lost at ∷ [])) h ∙ ap (λ (n : ℕ). part ++ up.Lost n ∷ []) same,
      subst P same handed,
      subst Q same lost,
      refl,
    )
passed_loses p d index (y ∷ entries) ups x at part e handed lost (inl (rest, is, f, more)) = inl (
  rest ++ (part ++ up.Lost at ∷ []),
  ap (λ (xs : List Up). xs ++ (part ++ up.Lost at ∷ [])) is ∙ append_assoc (parts_of p index y.object) rest (part ++ up.Lost at ∷ []),
  f,
  passed_loses p d (suc index) entries rest x at part (omega arith) handed lost more,
)
passed_loses p d index (y ∷ entries) ups x at part e handed lost (inr (front, rest, is, of, may, more)) = inr (
  front,
  rest ++ (part ++ up.Lost at ∷ []),
  ap (λ (xs : List Up). xs ++ (part ++ up.Lost at ∷ [])) is ∙ append_assoc front (up.Lost index ∷ rest) (part ++ up.Lost at ∷ []),
  of,
  may,
  passed_loses p d (suc index) entries rest x at part (omega arith) handed lost more,
)

-- ---- what may be lost

-- the sender dropped the object, or of the stream a block that was not handed up whole
abbrev pub Droppable : Settings → Point → ℕ → Object → ℕ → Type 0
Droppable p d index o parts = (index < d.index) ⊎ ((index ≡ d.index) × (is_stream_object o ≡ true) × (whole_blocks p parts < d.block))

both : (a b : Bool) → a ≡ true → b ≡ true → (a && b) ≡ true
both true b e f = f
both false b e f = absurd (clash e)

or_first : (a b : Bool) → a ≡ true → (a || b) ≡ true
or_first true b e = refl
or_first false b e = absurd (clash e)

or_last : (a b : Bool) → b ≡ true → (a || b) ≡ true
or_last true b e = refl
or_last false b e = e

either : (a b : Bool) → (a || b) ≡ true → (a ≡ true) ⊎ (b ≡ true)
either true b e = inl refl
either false b e = inr e

and_parts : (a b : Bool) → (a && b) ≡ true → (a ≡ true) × (b ≡ true)
and_parts true b e = (refl, e)
and_parts false b e = absurd (clash e)

pub may_lose : (p : Settings) (d : Point) (index : ℕ) (o : Object) (parts : ℕ) → Droppable p d index o parts → IsTrue (may_be_lost p d index o parts)
may_lose p d index o parts (inl lt) = or_first (nat_lt index d.index) _ ((Decides-ltb index d.index).1 lt)
may_lose p d index o parts (inr (same, stream, lt)) = or_last (nat_lt index d.index) _
    (both (index == d.index && is_stream_object o) _ (both (index == d.index) _ ((Decides-eqb index d.index).1 same) stream) ((Decides-ltb (whole_blocks p parts) d.block).1 lt))

pub was_droppable : (p : Settings) (d : Point) (index : ℕ) (o : Object) (parts : ℕ) → IsTrue (may_be_lost p d index o parts) → Droppable p d index o parts
was_droppable p d index o parts e = go (either (nat_lt index d.index) (index == d.index && is_stream_object o && nat_lt (whole_blocks p parts) d.block) e)
  where
    go : (nat_lt index d.index ≡ true) ⊎ ((index == d.index && is_stream_object o && nat_lt (whole_blocks p parts) d.block) ≡ true) → Droppable p d index o parts
    go (inl lt) = inl ((Decides-ltb index d.index).0 lt)
    go (inr e) =
        let first = and_parts (index == d.index && is_stream_object o) (nat_lt (whole_blocks p parts) d.block) e in
        let second = and_parts (index == d.index) (is_stream_object o) first.0 in
        inr ((Decides-eqb index d.index).0 second.0, second.1, (Decides-ltb (whole_blocks p parts) d.block).0 first.1)

stream_later : (o later : Object) → ObjectLater o later → is_stream_object o ≡ true → is_stream_object later ≡ true
stream_later (Whole kind info octets) later h e = absurd (clash e)
stream_later (Stream parts) later (more, is, none) e = ap is_stream_object is

-- what may be lost may be so later
pub lost_later : (p : Settings) (d e : Point) (index : ℕ) (o later : Object) (parts : ℕ) → point_before e d ≡ false → ObjectLater o later
    → IsTrue (may_be_lost p d index o parts) → IsTrue (may_be_lost p e index later parts)
lost_later p d e index o later parts on goes may = may_lose p e index later parts (go (behind_point e d on) (was_droppable p d index o parts may))
  where
    go : (d.index < e.index) ⊎ ((d.index ≡ e.index) × (d.block ≤ e.block)) → Droppable p d index o parts → Droppable p e index later parts
    go (inl lt) (inl less) = inl (omega arith)
    go (inr (same, le)) (inl less) = inl (omega arith)
    go (inl lt) (inr (same, stream, less)) = inl (omega arith)
    go (inr (is, le)) (inr (same, stream, less)) = inr (same ∙ is, stream_later o later goes stream, omega (arith, le, less))

-- ---- parts of an object that goes on

pub parts_later : (p : Settings) (index : ℕ) (o later : Object) → 0 < p.e → ObjectLater o later → Begins (parts_of p index o) (parts_of p index later)
parts_later p index (Whole kind info octets) later some is = ([], ap (parts_of p index) is ∙ sym (append-nil (parts_of p index (Whole kind info octets))))
parts_later p index (Stream parts) later some (more, is, none) =
    let front = map_begin (segment_up index) (segments p.e parts) (segments p.e (parts ++ more))
    (placed_begin 0 (closed_from p.e [] parts) (closed_from p.e [] (parts ++ more)) (closed_later p.e parts more some none)) in
    (front.0, ap (parts_of p index) is ∙ ap (λ (ups : List Up). up.StreamOpen index ∷ ups) front.1)

pub length-parts : (p : Settings) (index : ℕ) (parts : List Part) → length (parts_of p index (Stream parts)) ≡ suc (length (closed_from p.e [] parts))
length-parts p index parts = ap suc (length-map (segments p.e parts) (segment_up index) ∙ length-placed 0 (closed_from p.e [] parts))

handed_later : (p : Settings) (index : ℕ) (o later : Object) (front : List Up) → 0 < p.e → ObjectLater o later → IsHandedOf p index o front
    → IsHandedOf p index later front
handed_later p index (Whole kind info octets) later front some is h =
    let H : Object → Type 0 = λ o. IsHandedOf p index o front in subst H (sym is) h
handed_later p index (Stream parts) later front some (more, is, none) (next, rest, whole) =
    let grows = parts_later p index (Stream parts) later some (more, is, none) in
    let H : Object → Type 0 = λ o. IsHandedOf p index o front in
    let now : parts_of p index (Stream (parts ++ more)) ≡ front ++ next ∷ (rest ++ grows.0) =
    ap (parts_of p index) (sym is) ∙ grows.1 ∙ ap (λ (xs : List Up). xs ++ grows.0) whole ∙ append_assoc front (next ∷ rest) grows.0 in
    subst H (sym is) (next, rest ++ grows.0, now)

-- hand-ups that passed entries passed them as the order goes on
pub passed_later : (p : Settings) (d e : Point) (index : ℕ) (entries later : List Entry) (ups : List Up) → 0 < p.e → point_before e d ≡ false
    → OrderLater entries later → length later ≡ length entries → Passed p d index entries ups → Passed p e index later ups
passed_later p d e index [] [] ups some on goes long h = h
passed_later p d e index [] (y ∷ later) ups some on goes long h = absurd (omega arith)
passed_later p d e index (x ∷ []) [] ups some on goes long h = absurd goes
passed_later p d e index (x ∷ z ∷ entries) [] ups some on goes long h = absurd goes
passed_later p d e index (x ∷ []) (y ∷ w ∷ later) ups some on goes long h = absurd (omega arith)
passed_later p d e index (x ∷ []) (y ∷ []) ups some on goes long (inl (rest, is, done, more)) =
    let same = finished_stays x.object y.object done goes.1 in
    let F : Object → Type 0 = λ o. IsFinished o in
    inl (rest, is ∙ ap (λ (o : Object). parts_of p index o ++ rest) (sym same), subst F (sym same) done, more)
passed_later p d e index (x ∷ []) (y ∷ []) ups some on goes long (inr (front, rest, is, of, may, more)) = inr (
  front,
  rest,
  is,
  handed_later p index x.object y.object front some goes.1 of,
  lost_later p d e index x.object y.object (length front) on goes.1 may,
  more,
)
passed_later p d e index (x ∷ z ∷ entries) (y ∷ later) ups some on goes long (inl (rest, is, done, more)) =
    let F : Object → Type 0 = λ o. IsFinished o in
    inl (
      rest,
      is ∙ ap (λ (w : Entry). parts_of p index w.object ++ rest) (sym goes.0),
      subst F (ap (λ (w : Entry). w.object) (sym goes.0)) done,
      passed_later p d e (suc index) (z ∷ entries) later rest some on goes.1 (omega arith) more,
    )
passed_later p d e index (x ∷ z ∷ entries) (y ∷ later) ups some on goes long (inr (front, rest, is, of, may, more)) =
    let H : Object → Type 0 = λ o. IsHandedOf p index o front in
    let L : Object → Type 0 = λ o. IsTrue (may_be_lost p e index o (length front)) in
    let same : x.object ≡ y.object = ap (λ (w : Entry). w.object) (sym goes.0) in
    let itself = lost_itself x.object in
    inr (
      front,
      rest,
      is,
      subst H same of,
      subst L same (lost_later p d e index x.object x.object (length front) on itself may),
      passed_later p d e (suc index) (z ∷ entries) later rest some on goes.1 (omega arith) more,
    )
  where
    lost_itself : (o : Object) → ObjectLater o o
    lost_itself (Whole kind info octets) = refl
    lost_itself (Stream parts) = ([], ap Stream (sym (append-nil parts)), λ e. refl)

-- ---- within a stream

-- Hand-ups stand at a source symbol of a stream, before which all segments have octets; data and files have no such place.
abbrev pub StandsIn : Settings → Object → ℕ → ℕ → Type 0
StandsIn p (Whole kind info octets) block symbol = (block ≡ 0) × (symbol ≡ 0)
StandsIn p (Stream parts) block symbol =
    (symbol < p.b) × (block * p.b + symbol ≤ length (closed_from p.e [] parts))
    × ((i : ℕ) → i < block * p.b + symbol → 0 < length (get_or (closed_from p.e [] parts) i []))

-- of an entry that may be there
abbrev pub StandsAt : Settings → Option Entry → ℕ → ℕ → Type 0
StandsAt p None block symbol = (block ≡ 0) × (symbol ≡ 0)
StandsAt p (Some x) block symbol = StandsIn p x.object block symbol

-- the hand-ups of the first n segments, with the open before them
abbrev pub begun : Settings → ℕ → ℕ → Option Entry → List Up
begun p index zero found = []
begun p index (suc n) None = []
begun p index (suc n) (Some x) = take (suc (suc n)) (parts_of p index x.object)

get_or_begin : (xs ys : List (List ℕ)) (i : ℕ) → i < length xs → get_or (xs ++ ys) i [] ≡ get_or xs i []
get_or_begin [] ys i lt = absurd (omega arith)
get_or_begin (x ∷ xs) ys zero lt = refl
get_or_begin (x ∷ xs) ys (suc i) lt = get_or_begin xs ys i (omega arith)

pub stands_later : (p : Settings) (o later : Object) (block symbol : ℕ) → 0 < p.e → ObjectLater o later → StandsIn p o block symbol → StandsIn p later block symbol
stands_later p (Whole kind info octets) later block symbol some is h =
    let S : Object → Type 0 = λ o. StandsIn p o block symbol in subst S (sym is) h
stands_later p (Stream parts) later block symbol some (more, is, none) (lt, le, each) =
    let S : Object → Type 0 = λ o. StandsIn p o block symbol in
    let grows = closed_later p.e parts more some none in
    let closed : List (List ℕ) = closed_from p.e [] parts in
    subst S (sym is) (
      lt,
      (let long = ap (λ (xs : List (List ℕ)). length xs) grows.1 in let sum = length-append closed grows.0 in omega (arith, long, sum, le)),
      (λ i less.
          let still : get_or (closed_from p.e [] (parts ++ more)) i [] ≡ get_or closed i [] =
          ap (λ (xs : List (List ℕ)). get_or xs i []) grows.1 ∙ get_or_begin closed grows.0 i (omega (arith, less, le)) in
          let P : List ℕ → Type 0 = λ xs. 0 < length xs in
          subst P (sym still) (each i less)),
    )

-- what was handed up of a stream stays as it goes on
pub begun_later : (p : Settings) (index block symbol : ℕ) (x y : Entry) → 0 < p.e → ObjectLater x.object y.object → StandsIn p x.object block symbol
    → begun p index (block * p.b + symbol) (Some y) ≡ begun p index (block * p.b + symbol) (Some x)
begun_later p index block symbol x y some goes stands = go x.object refl goes stands (block * p.b + symbol) refl
  where
    go : (o : Object) → x.object ≡ o → ObjectLater o y.object → StandsIn p o block symbol → (n : ℕ) → block * p.b + symbol ≡ n
        → begun p index n (Some y) ≡ begun p index n (Some x)
    go o is later h zero e = refl
    go (Whole kind info octets) is later h (suc n) e = ap (λ (o : Object). take (suc (suc n)) (parts_of p index o)) (later ∙ sym is)
    go (Stream parts) is later h (suc n) e =
        let P : Object → Type 0 = λ o. take (suc (suc n)) (parts_of p index y.object) ≡ take (suc (suc n)) (parts_of p index o) in
        subst P (sym is) (take_of_front (suc (suc n)) (parts_of p index (Stream parts)) (parts_of p index y.object)
        (parts_later p index (Stream parts) y.object some later)
        (let long = length-parts p index parts in let le = h.1 in omega (arith, long, le, e)))
