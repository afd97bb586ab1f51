-- What becomes of hand-ups that stand at a position: an object or a segment more, a loss, and an order that goes on.
use Rattle.std.proofs.Common.{◌≡◌, ℕ, zero, suc, ◌+◌, ◌-◌, ◌*◌, ◌/◌, ◌<◌, ◌≤◌, List, [], ◌∷◌, ◌++◌, length, take, map, get_or, Bool, true, false, Option, None, Some, refl, sym, ap, ◌∙◌, subst, append_assoc, arith, ◌⊎◌, inl, inr}
use Rattle.std.specs.Prelude.{slice_get, ◌==◌, ◌&&◌, IsTrue, ⊤}
use Rattle.std.proofs.lemmas.Bool.Decides.{Decides-eqb}
use Rattle.std.proofs.lemmas.List.{append-nil, length-take, take_all}
use Rattle.std.proofs.lemmas.Option.{slice_get_within}
use Rattle.std.proofs.lemmas.Nat.{div-mul-add}
use Rattle.std.proofs.Math.Nat.{mul-le-mul_right, add-mul}
use Rattle.norm_base.specs.Settings.{Settings}
use Rattle.fec_plan.specs.Points.{Point, position, point_before}
use Rattle.fec_plan.specs.declared.position.Position.{Position}
use Rattle.norm_order.specs.Entries.{Part, Object, Whole, Stream, Entry}
use Rattle.norm_order.specs.Segments.{Segment, closed_from, segments, has_end}
use Rattle.norm_order.specs.Upto.{segment_up, parts_of, all_parts}
use Rattle.norm_order.specs.declared.up.Up.{Up}
use Rattle.norm_order.specs.declared.up.Up.TheVariants as up
use Rattle.norm_receive_rules.specs.HandingUp.{after_object, open_before}
use Rattle.norm_safety.specs.InOrder.{IsLess, IsHandedOf, may_be_lost, is_stream_object, whole_blocks}
use Rattle.norm_safety.proofs.EntryLemmas.{clash}
use Rattle.norm_safety.proofs.Stood.{all_parts_end}
use Rattle.norm_safety.proofs.GoesOn.{OrderLater, IsFinished, HasBlocks, DropWithin, finished_stays, later_entry, later_take, later_long}
use Rattle.norm_safety.proofs.ClosedLemmas.{EndsEmpty, ended_empty, empty_ends, split_at}
use Rattle.norm_safety.proofs.StreamHeld.{ClosedAt}
use Rattle.norm_safety.proofs.Passed.{AreFinished, Passed, passed_hands, passed_loses, passed_later, may_lose, StandsIn, StandsAt, begun, stands_later, begun_later, length-parts}
use Rattle.norm_safety.proofs.Through.{Handed, take_less, take_next}

-- ---- the first place of an object

pub stands_first : (p : Settings) (found : Option Entry) → 1 ≤ p.b → StandsAt p found 0 0
stands_first p None some = (refl, refl)
stands_first p (Some x) some = of_object x.object
  where
    of_object : (o : Object) → StandsIn p o 0 0
    of_object (Whole kind info octets) = (refl, refl)
    of_object (Stream parts) = (omega (arith, some), omega arith, λ i lt. absurd (omega (arith, lt)))

pub begun_first : (p : Settings) (index : ℕ) (found : Option Entry) → begun p index (0 * p.b + 0) found ≡ []
begun_first p index found = ap (λ (n : ℕ). begun p index n found) (let z : 0 * p.b + 0 ≡ 0 = omega arith in z)

finished_more : (order : List Entry) (x : Entry) → AreFinished order → IsFinished x.object → AreFinished (order ++ x ∷ [])
finished_more [] x all one = (one, tt)
finished_more (y ∷ order) x all one = (all.0, finished_more order x all.1 one)

-- nothing was handed up
pub handed_nothing : (p : Settings) (order : List Entry) (d : Point) (lost : List ℕ) → 1 ≤ p.b → Handed p order d lost [] (position 0 0 0)
unfolding all_parts
handed_nothing p order d lost some = record {
  within = omega arith;
  stands = stands_first p (slice_get order 0) some;
  before = [];
  passed = refl;
  all = sym (begun_first p 0 (slice_get order 0));
  clean = λ none. (tt, nothing);
}
  where
    nothing : [] ≡ all_parts p 0 []
    nothing = refl

-- ---- an entry that is done with

-- The entry at the position is passed: what follows stands at the next.
passes : (p : Settings) (order : List Entry) (d : Point) (lost after : List ℕ) (ups part : List Up) (at : Position) (x : Entry) → 1 ≤ p.b
    → slice_get order at.index ≡ Some x → Handed p order d lost ups at
    → ((before : List Up) → Passed p d 0 (take at.index order) before → Passed p d 0 (take at.index order ++ x ∷ []) (before ++ (begun p at.index (at.block * p.b + at.symbol) (Some x) ++ part)))
    → (after ≡ [] → (lost ≡ []) × IsFinished x.object × (begun p at.index (at.block * p.b + at.symbol) (Some x) ++ part ≡ parts_of p at.index x.object))
    → Handed p order d after (ups ++ part) (after_object at.index)
passes p order d lost after ups part at x some found h passed clean =
    let n : ℕ = at.index in
    let begun_now : List Up = begun p n (at.block * p.b + at.symbol) (Some x) in
    let lt = slice_get_within order n x found in
    let next : take (n + 1) order ≡ take n order ++ x ∷ [] = ap (λ (m : ℕ). take m order) (let z : n + 1 ≡ suc n = omega arith in z) ∙ take_next order n x found in
    let P : List Entry → Type 0 = λ xs. Passed p d 0 xs (h.before ++ (begun_now ++ part)) in
    let F : List Entry → Type 0 = λ xs. AreFinished xs in
    let whole : ups ++ part ≡ h.before ++ (begun_now ++ part) =
    ap (λ (us : List Up). us ++ part) (h.all ∙ ap (λ (o : Option Entry). h.before ++ begun p n (at.block * p.b + at.symbol) o) found)
    ∙ append_assoc h.before begun_now part in
    record {
      within = omega (arith, lt);
      stands = stands_first p (slice_get order (n + 1)) some;
      before = h.before ++ (begun_now ++ part);
      passed = subst P (sym next) (passed h.before h.passed);
      all = whole ∙ sym (append-nil (h.before ++ (begun_now ++ part)))
          ∙ ap (λ (us : List Up). (h.before ++ (begun_now ++ part)) ++ us) (sym (begun_first p (n + 1) (slice_get order (n + 1))));
      clean = λ none. (
          let was = clean none in
          let old = h.clean was.0 in
          let many = length-take n order in (
            subst F (sym next) (finished_more (take n order) x old.0 was.1),
            ap (λ (us : List Up). us ++ (begun_now ++ part)) old.1 ∙ ap (λ (us : List Up). all_parts p 0 (take n order) ++ us) was.2
                ∙ sym (all_parts_end p 0 n (take n order) x (omega (arith, many, lt)))
                ∙ ap (all_parts p 0) (sym next),
          )
          );
    }

place_is : (p : Settings) (order : List Entry) (n : ℕ) (x : Entry) → slice_get order n ≡ Some x → n ≡ 0 + length (take n order)
place_is p order n x found = let lt = slice_get_within order n x found in let many = length-take n order in omega (arith, lt, many)

-- the rest of an entry that is finished is handed up
pub handed_whole : (p : Settings) (order : List Entry) (d : Point) (lost : List ℕ) (ups part : List Up) (at : Position) (x : Entry) → 1 ≤ p.b
    → slice_get order at.index ≡ Some x → IsFinished x.object
    → begun p at.index (at.block * p.b + at.symbol) (Some x) ++ part ≡ parts_of p at.index x.object → Handed p order d lost ups at
    → Handed p order d lost (ups ++ part) (after_object at.index)
handed_whole p order d lost ups part at x some found done whole h =
    passes p order d lost lost ups part at x some found h
    (λ before passed. (
    let P : List Up → Type 0 = λ us. Passed p d 0 (take at.index order ++ x ∷ []) (before ++ us) in
    subst P (sym whole) (passed_hands p d 0 (take at.index order) before x at.index (place_is p order at.index x found) done passed)
    ))
    (λ none. (none, done, whole))

some_lost : (lost : List ℕ) (n : ℕ) → lost ++ n ∷ [] ≡ [] → ⊥
some_lost [] n e = cc
some_lost (x ∷ lost) n e = cc

-- the rest of an entry is lost
pub handed_loss : (p : Settings) (order : List Entry) (d : Point) (lost : List ℕ) (ups : List Up) (at : Position) (x : Entry) → 1 ≤ p.b
    → slice_get order at.index ≡ Some x → IsHandedOf p at.index x.object (begun p at.index (at.block * p.b + at.symbol) (Some x))
    → IsTrue (may_be_lost p d at.index x.object (length (begun p at.index (at.block * p.b + at.symbol) (Some x)))) → Handed p order d lost ups at
    → Handed p order d (lost ++ at.index ∷ []) (ups ++ up.Lost at.index ∷ []) (after_object at.index)
handed_loss p order d lost ups at x some found of may h =
    passes p order d lost (lost ++ at.index ∷ []) ups (up.Lost at.index ∷ []) at x some found h
    (λ before passed. passed_loses p d 0 (take at.index order) before x at.index (begun p at.index (at.block * p.b + at.symbol) (Some x))
    (place_is p order at.index x found) of may passed)
    (λ none. absurd (some_lost lost at.index none))

-- ---- what may be lost of the entry at the position

-- what was handed up of an entry of which something is left stands before a loss
pub begun_handed : (p : Settings) (index block symbol : ℕ) (x : Entry) → StandsIn p x.object block symbol
    → ((parts : List Part) → x.object ≡ Stream parts → block * p.b + symbol < length (closed_from p.e [] parts))
    → IsHandedOf p index x.object (begun p index (block * p.b + symbol) (Some x))
begun_handed p index block symbol x stands left = go x.object refl stands (block * p.b + symbol) refl
  where
    none : (b s : ℕ) → b ≡ 0 → s ≡ 0 → b * p.b + s ≡ 0
    none b s e f = (let z : 0 * p.b + 0 ≡ 0 = omega arith in ap (λ (n : ℕ). n * p.b + s) e ∙ ap (λ (n : ℕ). 0 * p.b + n) f ∙ z)

    zero_suc : (n : ℕ) → 0 ≡ suc n → ⊥
    zero_suc n e = cc

    go : (o : Object) → x.object ≡ o → StandsIn p o block symbol → (n : ℕ) → block * p.b + symbol ≡ n → IsHandedOf p index x.object (begun p index n (Some x))
    go (Whole kind info octets) is h zero e = let H : Object → Type 0 = λ o. IsHandedOf p index o [] in subst H (sym is) refl
    go (Whole kind info octets) is h (suc n) e = absurd (zero_suc n (sym (none block symbol h.0 h.1) ∙ e))
    go (Stream parts) is h zero e = let H : Object → Type 0 = λ o. IsHandedOf p index o [] in subst H (sym is) (up.StreamOpen index, _, refl)
    go (Stream parts) is h (suc n) e =
        let H : Object → Type 0 = λ o. IsHandedOf p index o (take (suc (suc n)) (parts_of p index x.object)) in
        let G : Object → Type 0 = λ o. IsLess (take (suc (suc n)) (parts_of p index o)) (parts_of p index (Stream parts)) in
        let long = length-parts p index parts in
        let lt = left parts is in
        subst H (sym is) (subst G (sym is) (take_less (suc (suc n)) (parts_of p index (Stream parts)) (omega (arith, long, lt, e))))

-- how many blocks of a stream were handed up whole
pub begun_blocks : (p : Settings) (index block symbol : ℕ) (x : Entry) (parts : List Part) → 1 ≤ p.b → x.object ≡ Stream parts
    → StandsIn p (Stream parts) block symbol → whole_blocks p (length (begun p index (block * p.b + symbol) (Some x))) ≡ block
begun_blocks p index block symbol x parts some is h =
    ap (λ (n : ℕ). n / p.b) (go (block * p.b + symbol) refl) ∙ div-mul-add block p.b symbol h.0
  where
    go : (n : ℕ) → block * p.b + symbol ≡ n → length (begun p index n (Some x)) - 1 ≡ n
    go zero e = omega arith
    go (suc n) e =
        let long : length (parts_of p index x.object) ≡ suc (length (closed_from p.e [] parts)) =
        ap (λ (o : Object). length (parts_of p index o)) is ∙ length-parts p index parts in
        let many = length-take (suc (suc n)) (parts_of p index x.object) in
        let le = h.1 in
        omega (arith, long, many, le, e)

-- of a finished stream something is left at each place where hand-ups stand
pub something_left : (p : Settings) (parts : List Part) (block symbol : ℕ) → has_end parts ≡ true → StandsIn p (Stream parts) block symbol
    → block * p.b + symbol < length (closed_from p.e [] parts)
something_left p parts block symbol ended h = go (split_at (length (closed_from p.e [] parts)) (block * p.b + symbol))
  where
    last : EndsEmpty (closed_from p.e [] parts)
    last = ended_empty p.e [] parts ended

    go : (block * p.b + symbol < length (closed_from p.e [] parts)) ⊎ (length (closed_from p.e [] parts) ≤ block * p.b + symbol)
        → block * p.b + symbol < length (closed_from p.e [] parts)
    go (inl lt) = lt
    go (inr le) =
        let long = last.long in
        let octets = h.2 last.last (omega (arith, long, le)) in
        let none : length (get_or (closed_from p.e [] parts) last.last []) ≡ 0 = ap (λ (xs : List ℕ). length xs) last.empty in
        absurd (omega (arith, octets, none))

-- an entry before the drop point is lost
pub loses_dropped : (p : Settings) (order : List Entry) (d : Point) (lost : List ℕ) (ups : List Up) (at : Position) (x : Entry) → 1 ≤ p.b
    → DropWithin p order d → slice_get order at.index ≡ Some x → at.index < d.index → Handed p order d lost ups at
    → Handed p order d (lost ++ at.index ∷ []) (ups ++ up.Lost at.index ∷ []) (after_object at.index)
loses_dropped p order d lost ups at x some within found lt h =
    let S : Option Entry → Type 0 = λ o. StandsAt p o at.block at.symbol in
    let stands : StandsIn p x.object at.block at.symbol = subst S found h.stands in
    handed_loss p order d lost ups at x some found
    (begun_handed p at.index at.block at.symbol x stands (λ parts is. (
    let F : Object → Type 0 = λ o. IsFinished o in
    let I : Object → Type 0 = λ o. StandsIn p o at.block at.symbol in
    something_left p parts at.block at.symbol (subst F is (within.finished at.index x found lt)) (subst I is stands)
    )))
    (may_lose p d at.index x.object _ (inl lt)) h

-- a stream within which the drop point lies is lost from a block on that was dropped
pub loses_blocks : (p : Settings) (order : List Entry) (d : Point) (lost : List ℕ) (ups : List Up) (at : Position) (x : Entry) → 1 ≤ p.b
    → DropWithin p order d → slice_get order at.index ≡ Some x → at.index ≡ d.index → at.block < d.block → Handed p order d lost ups at
    → Handed p order d (lost ++ at.index ∷ []) (ups ++ up.Lost at.index ∷ []) (after_object at.index)
loses_blocks p order d lost ups at x some within found same lt h = go x.object refl has
  where
    entry : (y : Entry) × (slice_get order d.index ≡ Some y) × HasBlocks p d.block y.object
    entry = within.blocks (omega (arith, lt))

    one : (a b : Entry) → Some a ≡ Some b → a ≡ b
    one a b e = cc

    has : HasBlocks p d.block x.object
    has =
        let B : Entry → Type 0 = λ y. HasBlocks p d.block y.object in
        subst B (one entry.0 x (sym entry.1 ∙ ap (slice_get order) (sym same) ∙ found)) entry.2

    stands : StandsIn p x.object at.block at.symbol
    stands = let S : Option Entry → Type 0 = λ o. StandsAt p o at.block at.symbol in subst S found h.stands

    go : (o : Object) → x.object ≡ o → HasBlocks p d.block o
        → Handed p order d (lost ++ at.index ∷ []) (ups ++ up.Lost at.index ∷ []) (after_object at.index)
    go (Whole kind info octets) is blocks = absurd blocks
    go (Stream parts) is blocks =
        let I : Object → Type 0 = λ o. StandsIn p o at.block at.symbol in
        let here : StandsIn p (Stream parts) at.block at.symbol = subst I is stands in
        let up_to : (at.block + 1) * p.b ≤ d.block * p.b = mul-le-mul_right p.b (let z : at.block + 1 ≤ d.block = omega (arith, lt) in z) in
        let next : (at.block + 1) * p.b ≡ at.block * p.b + 1 * p.b = add-mul at.block 1 p.b in
        let less = here.0 in
        let left : at.block * p.b + at.symbol < length (closed_from p.e [] parts) = omega (arith, up_to, next, less, blocks) in
        let count = begun_blocks p at.index at.block at.symbol x parts some is here in
        handed_loss p order d lost ups at x some found
        (begun_handed p at.index at.block at.symbol x stands (λ other e. (
        let L : Object → Type 0 = λ o. LeftOf o in
        subst L (sym is ∙ e) left
        )))
        (may_lose p d at.index x.object _ (inr (same, ap is_stream_object is, (omega (arith, count, lt))))) h
      where
        LeftOf : Object → Type 0
        LeftOf (Whole kind info octets) = ⊤
        LeftOf (Stream others) = at.block * p.b + at.symbol < length (closed_from p.e [] others)

-- ---- a segment

up_at : (xs : List Up) (n : ℕ) (x : Up) → slice_get xs n ≡ Some x → take (suc n) xs ≡ take n xs ++ x ∷ []
up_at [] n x e = absurd (none x e)
  where
    none : (y : Up) → None ≡ Some y → ⊥
    none y e = cc
up_at (y ∷ xs) zero x e = ap (λ (z : Up). z ∷ []) (same y x e)
  where
    same : (a b : Up) → Some a ≡ Some b → a ≡ b
    same a b e = cc
up_at (y ∷ xs) (suc n) x e = ap (λ (ys : List Up). y ∷ ys) (up_at xs n x e)

up_there : (f : Segment → Up) (xs : List Segment) (n : ℕ) (x : Segment) → slice_get xs n ≡ Some x → slice_get (map f xs) n ≡ Some (f x)
up_there f [] n x e = absurd (none x e)
  where
    none : (y : Segment) → None ≡ Some y → ⊥
    none y e = cc
up_there f (y ∷ xs) zero x e = ap (λ (z : Segment). Some (f z)) (same y x e)
  where
    same : (a b : Segment) → Some a ≡ Some b → a ≡ b
    same a b e = cc
up_there f (y ∷ xs) (suc n) x e = up_there f xs n x e

-- the place is the first one of an object, where its number is none
first_place : (p : Settings) (b block symbol : ℕ) → 1 ≤ b → block * b + symbol ≡ 0 → (block ≡ 0) × (symbol ≡ 0)
first_place p b zero symbol some e = (refl, omega (arith, e))
first_place p b (suc block) symbol some e = absurd (let z : suc block * b ≡ b + block * b = omega arith in omega (arith, z, e, some))

-- a segment more
pub begun_more : (p : Settings) (at : Position) (x : Entry) (parts : List Part) → 1 ≤ p.b → x.object ≡ Stream parts
    → (g : Segment) → slice_get (segments p.e parts) (at.block * p.b + at.symbol) ≡ Some g
    → begun p at.index (at.block * p.b + at.symbol) (Some x) ++ (open_before at ++ segment_up at.index g ∷ [])
    ≡ begun p at.index (suc (at.block * p.b + at.symbol)) (Some x)
begun_more p at x parts some is g found = go (at.block * p.b + at.symbol) refl found
  where
    opens : Bool → List Up
    opens b = elim b [ true ↦ up.StreamOpen at.index ∷ [] | false ↦ [] ]

    both : (a b : Bool) → a ≡ true → b ≡ true → (a && b) ≡ true
    both true b e f = f
    both false b e f = absurd (clash e)

    is_first : at.block * p.b + at.symbol ≡ 0 → open_before at ≡ up.StreamOpen at.index ∷ []
    is_first e =
        let place = first_place p p.b at.block at.symbol some e in
        ap opens (both (at.block == 0) (at.symbol == 0) ((Decides-eqb at.block 0).1 place.0) ((Decides-eqb at.symbol 0).1 place.1))

    not_first : (n : ℕ) → at.block * p.b + at.symbol ≡ suc n → open_before at ≡ []
    not_first n e = by_test (at.block == 0 && at.symbol == 0) refl
      where
        parted : (a b : Bool) → (a && b) ≡ true → (a ≡ true) × (b ≡ true)
        parted true b e = (refl, e)
        parted false b e = absurd (clash e)

        by_test : (b : Bool) → (at.block == 0 && at.symbol == 0) ≡ b → opens b ≡ []
        by_test false f = refl
        by_test true f =
            let place = parted (at.block == 0) (at.symbol == 0) f in
            let block = (Decides-eqb at.block 0).0 place.0 in
            let symbol = (Decides-eqb at.symbol 0).0 place.1 in
            let none : at.block * p.b + at.symbol ≡ 0 =
            ap (λ (n : ℕ). n * p.b + at.symbol) block ∙ ap (λ (n : ℕ). 0 * p.b + n) symbol ∙ (let z : 0 * p.b + 0 ≡ 0 = omega arith in z) in
            absurd (omega (arith, none, e))

    P : List Up
    P = parts_of p at.index x.object

    next : (n : ℕ) → slice_get (segments p.e parts) n ≡ Some g → take (suc (suc n)) P ≡ take (suc n) P ++ segment_up at.index g ∷ []
    next n f =
        let U : Object → Type 0 = λ o. slice_get (parts_of p at.index o) (suc n) ≡ Some (segment_up at.index g) in
        up_at P (suc n) (segment_up at.index g) (subst U (sym is) (up_there (segment_up at.index) (segments p.e parts) n g f))

    go : (n : ℕ) → at.block * p.b + at.symbol ≡ n → slice_get (segments p.e parts) n ≡ Some g
        → begun p at.index n (Some x) ++ (open_before at ++ segment_up at.index g ∷ []) ≡ begun p at.index (suc n) (Some x)
    go zero e f =
        ap (λ (us : List Up). us ++ segment_up at.index g ∷ []) (is_first e)
        ∙ ap (λ (us : List Up). us ++ segment_up at.index g ∷ []) (sym (ap (λ (o : Object). take 1 (parts_of p at.index o)) is))
        ∙ sym (next zero f)
    go (suc n) e f =
        ap (λ (us : List Up). begun p at.index (suc n) (Some x) ++ (us ++ segment_up at.index g ∷ [])) (not_first n e)
        ∙ sym (next (suc n) f)

-- Hand-ups stand behind a segment of octets: what follows stands at the next source symbol of the stream.
pub handed_segment : (p : Settings) (order : List Entry) (d : Point) (lost : List ℕ) (ups : List Up) (at : Position) (x : Entry) (parts : List Part)
    → 1 ≤ p.b → slice_get order at.index ≡ Some x → x.object ≡ Stream parts → (c : ClosedAt p parts (at.block * p.b + at.symbol))
    → at.block * p.b + at.symbol < length (closed_from p.e [] parts) → 0 < length c.segment.octets
    → (block symbol : ℕ) → symbol < p.b → block * p.b + symbol ≡ suc (at.block * p.b + at.symbol) → Handed p order d lost ups at
    → Handed p order d lost (ups ++ (open_before at ++ segment_up at.index c.segment ∷ [])) (position at.index block symbol)
handed_segment p order d lost ups at x parts some found is c within octets block symbol lt number h =
    let S : Option Entry → Type 0 = λ o. StandsAt p o at.block at.symbol in
    let I : Object → Type 0 = λ o. StandsIn p o at.block at.symbol in
    let T : Option Entry → Type 0 = λ o. StandsAt p o block symbol in
    let J : Object → Type 0 = λ o. StandsIn p o block symbol in
    let here : StandsIn p (Stream parts) at.block at.symbol = subst I is (subst S found h.stands) in
    let L : List ℕ → Type 0 = λ xs. 0 < length xs in
    let now : StandsIn p (Stream parts) block symbol = (
      lt,
      (omega (arith, within, number)),
      (λ i less. each i (subst L c.is octets) here.2 (split_at (at.block * p.b + at.symbol) i) (omega (arith, less, number))),
    ) in
    record {
      within = h.within;
      stands = subst T (sym found) (subst J (sym is) now);
      before = h.before;
      passed = h.passed;
      all = ap (λ (us : List Up). us ++ (open_before at ++ segment_up at.index c.segment ∷ [])) (h.all ∙ ap (λ (o : Option Entry). h.before ++ begun p at.index (at.block * p.b + at.symbol) o) found)
          ∙ append_assoc h.before (begun p at.index (at.block * p.b + at.symbol) (Some x)) (open_before at ++ segment_up at.index c.segment ∷ [])
          ∙ ap (λ (us : List Up). h.before ++ us) (begun_more p at x parts some is c.segment c.found)
          ∙ ap (λ (n : ℕ). h.before ++ begun p at.index n (Some x)) (sym number)
          ∙ ap (λ (o : Option Entry). h.before ++ begun p at.index (block * p.b + symbol) o) (sym found);
      clean = h.clean;
    }
  where
    each : (i : ℕ) → 0 < length (get_or (closed_from p.e [] parts) (at.block * p.b + at.symbol) [])
        → ((j : ℕ) → j < at.block * p.b + at.symbol → 0 < length (get_or (closed_from p.e [] parts) j []))
        → (i < at.block * p.b + at.symbol) ⊎ (at.block * p.b + at.symbol ≤ i) → i < suc (at.block * p.b + at.symbol)
        → 0 < length (get_or (closed_from p.e [] parts) i [])
    each i last old (inl less) most = old i less
    each i last old (inr le) most =
        let L : ℕ → Type 0 = λ j. 0 < length (get_or (closed_from p.e [] parts) j []) in
        subst L (let z : at.block * p.b + at.symbol ≡ i = omega (arith, le, most) in z) last

-- The segment of no octets ends the stream: what follows stands at the next object.
pub handed_end : (p : Settings) (order : List Entry) (d : Point) (lost : List ℕ) (ups : List Up) (at : Position) (x : Entry) (parts : List Part)
    → 1 ≤ p.b → 0 < p.e → slice_get order at.index ≡ Some x → x.object ≡ Stream parts → (c : ClosedAt p parts (at.block * p.b + at.symbol))
    → at.block * p.b + at.symbol < length (closed_from p.e [] parts) → c.segment.octets ≡ [] → Handed p order d lost ups at
    → Handed p order d lost (ups ++ (open_before at ++ segment_up at.index c.segment ∷ [])) (after_object at.index)
handed_end p order d lost ups at x parts some size found is c within empty h =
    let n : ℕ = at.block * p.b + at.symbol in
    let ends = empty_ends p.e [] parts n size within (sym c.is ∙ empty) in
    let F : Object → Type 0 = λ o. IsFinished o in
    let long : length (parts_of p at.index x.object) ≡ suc (length (closed_from p.e [] parts)) =
    ap (λ (o : Object). length (parts_of p at.index o)) is ∙ length-parts p at.index parts in
    let all = ends.1 in
    handed_whole p order d lost ups (open_before at ++ segment_up at.index c.segment ∷ []) at x some found (subst F (sym is) ends.0)
    (begun_more p at x parts some is c.segment c.found ∙ take_all (suc (suc n)) (parts_of p at.index x.object) (omega (arith, long, all))) h

-- ---- an order that goes on

stays_finished : (order later : List Entry) → OrderLater order later → length later ≡ length order → AreFinished order → later ≡ order
stays_finished [] [] goes long all = refl
stays_finished [] (y ∷ later) goes long all = absurd (omega (arith, long))
stays_finished (x ∷ []) [] goes long all = absurd goes
stays_finished (x ∷ z ∷ order) [] goes long all = absurd goes
stays_finished (x ∷ []) (y ∷ w ∷ later) goes long all = absurd (omega (arith, long))
stays_finished (x ∷ []) (y ∷ []) goes long all =
    ap (λ (e : Entry). e ∷ []) (entry_is y x goes.0 (finished_stays x.object y.object all.0 goes.1))
  where
    entry_is : (a b : Entry) → a.by ≡ b.by → a.object ≡ b.object → a ≡ b
    entry_is a b e f = ap (λ by. record { by = by; object = a.object }) e ∙ ap (λ (o : Object). record { by = b.by; object = o }) f
stays_finished (x ∷ z ∷ order) (y ∷ later) goes long all =
    ap (λ (e : Entry). e ∷ later) goes.0 ∙ ap (λ (es : List Entry). x ∷ es) (stays_finished (z ∷ order) later goes.1 (omega (arith, long)) all.1)

-- hand-ups that stand at a position stand there as the order goes on
pub handed_later : (p : Settings) (order later : List Entry) (d e : Point) (lost : List ℕ) (ups : List Up) (at : Position) → 1 ≤ p.b → 0 < p.e
    → OrderLater order later → point_before e d ≡ false → Handed p order d lost ups at → Handed p later e lost ups at
handed_later p order later d e lost ups at some size goes on h = go (slice_get order at.index) refl
  where
    long : length (take at.index later) ≡ length (take at.index order)
    long =
        let more = later_long order later goes in
        let le = h.within in
        let a = length-take at.index later in
        let b = length-take at.index order in
        omega (arith, more, le, a, b)

    front : OrderLater (take at.index order) (take at.index later)
    front = later_take at.index order later goes

    made : StandsAt p (slice_get later at.index) at.block at.symbol
        → begun p at.index (at.block * p.b + at.symbol) (slice_get later at.index) ≡ begun p at.index (at.block * p.b + at.symbol) (slice_get order at.index)
        → Handed p later e lost ups at
    made stands same = record {
      within = (let more = later_long order later goes in let le = h.within in omega (arith, more, le));
      stands = stands;
      before = h.before;
      passed = passed_later p d e 0 (take at.index order) (take at.index later) h.before size on front long h.passed;
      all = h.all ∙ ap (λ (us : List Up). h.before ++ us) (sym same);
      clean = λ none. (
          let old = h.clean none in
          let stay = stays_finished (take at.index order) (take at.index later) front long old.0 in
          let F : List Entry → Type 0 = λ xs. AreFinished xs in
          (subst F (sym stay) old.0, old.1 ∙ ap (all_parts p 0) (sym stay))
          );
    }

    go : (found : Option Entry) → slice_get order at.index ≡ found → Handed p later e lost ups at
    go (Some x) found =
        let y = later_entry order later at.index x goes found in
        let S : Option Entry → Type 0 = λ o. StandsAt p o at.block at.symbol in
        let here : StandsIn p x.object at.block at.symbol = subst S found h.stands in
        let B : Option Entry → List Up = λ o. begun p at.index (at.block * p.b + at.symbol) o in
        made (subst S (sym y.1) (stands_later p x.object y.0.object at.block at.symbol size y.3 here))
        (ap B y.1 ∙ begun_later p at.index at.block at.symbol x y.0 size y.3 here ∙ ap B (sym found))
    go None found =
        let S : Option Entry → Type 0 = λ o. StandsAt p o at.block at.symbol in
        let none : (at.block ≡ 0) × (at.symbol ≡ 0) = subst S found h.stands in
        let B : ℕ → ℕ → Type 0 = λ b s. StandsAt p (slice_get later at.index) b s in
        let C : ℕ → Type 0 = λ b. B b at.symbol in
        let D : ℕ → Type 0 = λ s. B 0 s in
        let zero_is : at.block * p.b + at.symbol ≡ 0 =
        ap (λ (n : ℕ). n * p.b + at.symbol) none.0 ∙ ap (λ (n : ℕ). 0 * p.b + n) none.1 ∙ (let z : 0 * p.b + 0 ≡ 0 = omega arith in z) in
        made (subst C (sym none.0) (subst D (sym none.1) (stands_first p (slice_get later at.index) some)))
        (ap (λ (n : ℕ). begun p at.index n (slice_get later at.index)) zero_is ∙ sym (ap (λ (n : ℕ). begun p at.index n (slice_get order at.index)) zero_is))
