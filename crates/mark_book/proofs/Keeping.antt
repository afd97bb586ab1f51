-- What holds of the watermarks of a book goes on to hold.
use Rattle.std.proofs.Common.{◌≡◌, ℕ, ◌+◌, ◌<◌, ◌≤◌, List, [], ◌∷◌, ◌++◌, length, map, take, drop, get_or, Bool, true, false, refl, sym, ap, subst, ◌∙◌, ◌-◌, cond, zero, suc, arith}
use Rattle.std.specs.Prelude.{◌&&◌, not, find, is_some, is_none, Result, is_ok, if◌then◌else◌, Option, None, Some, Vec, vec_len}
use Rattle.std.specs.Vec.{with_items}
use borrow.Rule.Slice.PartMut.{mid_of, post_of, Post-is}
use Rattle.std.specs.List.{list_all, prefix_len}
use Rattle.std.proofs.lemmas.Bool.{and_from, and_parts, not-true}
use Rattle.std.proofs.lemmas.List.{length-map, at_drop_more, drop_all, take_rest, append-nil, with_items_is}
use Rattle.fec_plan.specs.declared.position.Position.{Position}
use Rattle.norm_send_rules.specs.declared.news.Outcome.{Outcome}
use Rattle.mark_book.specs.BookState.{Kept}
use Rattle.mark_book.specs.BookMoves.{ended_where, is_finished, open_count, opened, told_first}
use Rattle.mark_book.specs.BookSound.{AreKept, AreNumbered}
use Rattle.mark_book.specs.declared.watermarks.Watermarks.TheInside.{Inside}
use Rattle.mark_book.proofs.Marks.{numbered_after}
use Rattle.mark_book.proofs.Tellings.{told_length}

-- ending changes nothing of what is finished
pub ended_finished : (test : Kept → Bool) (outcome : Kept → Outcome) (k : Kept) → is_finished (ended_where test outcome k) ≡ is_finished k
ended_finished test outcome k = go k.ended (test k)
  where
    go : (o : Option Outcome) (b : Bool)
        → is_finished (elim (is_none o && b) as (λ _. Kept) [ true ↦ record k { ended = Some (outcome k); untold = true } | false ↦ record k { ended = o } ])
        ≡ (is_some o && not k.untold)
    go None true = refl
    go None false = refl
    go (Some x) b = refl

pub front_same : (f : Kept → Kept) → ((k : Kept) → is_finished (f k) ≡ is_finished k) → (ks : List Kept) → prefix_len is_finished (map f ks) ≡ prefix_len is_finished ks
front_same f same [] = refl
front_same f same (k ∷ ks) =
    ap (λ b. cond b (1 + prefix_len is_finished (map f ks)) 0) (same k) ∙ ap (λ n. cond (is_finished k) (1 + n) 0) (front_same f same ks)

-- an open watermark at the end is not of the finished front
pub front_pushed : (ks : List Kept) (mark : ℕ) (at : Position) (quorum : Option ℕ)
    → prefix_len is_finished (ks ++ opened mark at quorum ∷ []) ≡ prefix_len is_finished ks
front_pushed [] mark at quorum = refl
front_pushed (k ∷ ks) mark at quorum = ap (λ n. cond (is_finished k) (1 + n) 0) (front_pushed ks mark at quorum)

pub front_finished : (ks : List Kept) → list_all is_finished (take (prefix_len is_finished ks) ks) ≡ true
front_finished [] = refl
front_finished (k ∷ ks) = go (is_finished k) refl (front_finished ks)
  where
    go : (b : Bool) → is_finished k ≡ b → list_all is_finished (take (prefix_len is_finished ks) ks) ≡ true
        → list_all is_finished (take (cond b (1 + prefix_len is_finished ks) 0) (k ∷ ks)) ≡ true
    go true e rest =
        let one : 1 + prefix_len is_finished ks ≡ suc (prefix_len is_finished ks) = omega arith in
        ap (λ n. list_all is_finished (take n (k ∷ ks))) one
        ∙ and_from (is_finished k) (list_all is_finished (take (prefix_len is_finished ks) ks)) e rest
    go false e rest = refl

pub front_within : (ks : List Kept) → prefix_len is_finished ks ≤ length ks
front_within [] = omega arith
front_within (k ∷ ks) = go (is_finished k) (front_within ks)
  where
    go : (b : Bool) → prefix_len is_finished ks ≤ length ks → cond b (1 + prefix_len is_finished ks) 0 ≤ suc (length ks)
    go true rest = omega (arith, rest)
    go false rest = omega arith

-- the finished front goes on from a part of it
pub front_from : (from : ℕ) (ks : List Kept) → from ≤ length ks → list_all is_finished (take from ks) ≡ true
    → prefix_len is_finished ks ≡ from + prefix_len is_finished (drop from ks)
front_from zero ks le all = omega arith
front_from (suc from) [] le all = absurd (omega arith)
front_from (suc from) (k ∷ ks) le all =
    let parts = and_parts (is_finished k) (list_all is_finished (take from ks)) all in
    let rest = front_from from ks (omega arith) parts.1 in
    ap (λ b. cond b (1 + prefix_len is_finished ks) 0) parts.0 ∙ omega (arith, rest)

-- the finished front ends at a watermark that is not finished, and goes on behind one that is
pub front_ends : (ks : List Kept) (i : ℕ) (k : Kept) → i < length ks → k ≡ get_or ks i k → is_finished k ≡ false
    → prefix_len is_finished ks ≡ i + prefix_len is_finished (drop i ks) → i ≡ prefix_len is_finished ks
front_ends ks i k lt is unfinished so_far =
    let none : prefix_len is_finished (drop i ks) ≡ 0 =
    at_drop_more (prefix_len is_finished) ks i k lt
    ∙ ap (λ (y : Kept). cond (is_finished y) (1 + prefix_len is_finished (drop (i + 1) ks)) 0) (sym is)
    ∙ ap (λ b. cond b (1 + prefix_len is_finished (drop (i + 1) ks)) 0) unfinished in
    omega (arith, none, so_far)

pub front_goes : (ks : List Kept) (i : ℕ) (k : Kept) → i < length ks → k ≡ get_or ks i k → is_finished k ≡ true
    → prefix_len is_finished ks ≡ i + prefix_len is_finished (drop i ks) → prefix_len is_finished ks ≡ i + 1 + prefix_len is_finished (drop (i + 1) ks)
front_goes ks i k lt is done so_far =
    let more : prefix_len is_finished (drop i ks) ≡ 1 + prefix_len is_finished (drop (i + 1) ks) =
    at_drop_more (prefix_len is_finished) ks i k lt
    ∙ ap (λ (y : Kept). cond (is_finished y) (1 + prefix_len is_finished (drop (i + 1) ks)) 0) (sym is)
    ∙ ap (λ b. cond b (1 + prefix_len is_finished (drop (i + 1) ks)) 0) done in
    omega (arith, more, so_far)

pub front_whole : (ks : List Kept) (i : ℕ) → length ks ≤ i → i ≤ length ks → prefix_len is_finished ks ≡ i + prefix_len is_finished (drop i ks) → length ks ≡ prefix_len is_finished ks
front_whole ks i ge le so_far =
    let none : prefix_len is_finished (drop i ks) ≡ 0 = ap (prefix_len is_finished) (drop_all i ks ge) in
    omega (arith, none, so_far, ge, le)

-- what the invariant says of the front
pub front_of : (ks : List Kept) (done : ℕ) → done ≡ prefix_len is_finished ks → list_all is_finished (take done ks) ≡ true
front_of ks done is = ap (λ n. list_all is_finished (take n ks)) is ∙ front_finished ks

pub within_of : (ks : List Kept) (done : ℕ) → done ≡ prefix_len is_finished ks → done ≤ length ks
within_of ks done is = let le = front_within ks in omega (arith, is, le)

-- watermarks of which some end go on to be kept, where it is counted how many are open then
pub kept_ended : (w x : Inside) (test : Kept → Bool) (outcome : Kept → Outcome) → AreKept w → x.all.items ≡ map (ended_where test outcome) w.all.items → x.done ≡ w.done
    → x.still_open ≡ open_count (map (ended_where test outcome) w.all.items) → AreKept x
kept_ended w x test outcome kept e done still_open =
    let many = ap length e ∙ length-map w.all.items (ended_where test outcome) in
    let counted = kept.counted in
    record {
      numbered = subst (AreNumbered 1) (sym e) (numbered_after test outcome 1 w.all.items kept.numbered);
      counted = omega (arith, many, counted);
      within = let le = kept.within in omega (arith, many, done, le);
      done = done ∙ kept.done ∙ sym (ap (prefix_len is_finished) e ∙ front_same (ended_where test outcome) (ended_finished test outcome) w.all.items);
      still_open = still_open ∙ ap open_count (sym e);
    }

told_front_one : (k : Kept) (ks : List Kept) → is_finished k ≡ true → told_first (k ∷ ks) ≡ k ∷ told_first ks
told_front_one k ks e = go k.untold (not-true k.untold (and_parts (is_some k.ended) (not k.untold) e).1)
  where
    go : (b : Bool) → b ≡ false → elim b as (λ _. List Kept) [ true ↦ record k { untold = false } ∷ ks | false ↦ k ∷ told_first ks ] ≡ k ∷ told_first ks
    go true e = absurd (cc)
    go false e = refl

-- telling leaves a finished front as it is
pub told_behind : (from : ℕ) (ks : List Kept) → list_all is_finished (take from ks) ≡ true → take from ks ++ told_first (drop from ks) ≡ told_first ks
told_behind zero ks all = refl
told_behind (suc from) [] all = refl
told_behind (suc from) (k ∷ ks) all =
    let parts = and_parts (is_finished k) (list_all is_finished (take from ks)) all in
    ap (λ (xs : List Kept). k ∷ xs) (told_behind from ks parts.1) ∙ sym (told_front_one k ks parts.0)

pub front_told : (from : ℕ) (ks : List Kept) → list_all is_finished (take from ks) ≡ true → list_all is_finished (take from (told_first ks)) ≡ true
front_told zero ks all = refl
front_told (suc from) [] all = refl
front_told (suc from) (k ∷ ks) all =
    let parts = and_parts (is_finished k) (list_all is_finished (take from ks)) all in
    ap (λ (xs : List Kept). list_all is_finished (take (suc from) xs)) (told_front_one k ks parts.0)
    ∙ and_from (is_finished k) (list_all is_finished (take from (told_first ks))) parts.0 (front_told from ks parts.1)

pub untold_behind : (from : ℕ) (ks : List Kept) → list_all is_finished (take from ks) ≡ true
    → find (λ (k : Kept). k.untold) (drop from ks) ≡ find (λ (k : Kept). k.untold) ks
untold_behind zero ks all = refl
untold_behind (suc from) [] all = refl
untold_behind (suc from) (k ∷ ks) all =
    let parts = and_parts (is_finished k) (list_all is_finished (take from ks)) all in
    go k.untold (not-true k.untold (and_parts (is_some k.ended) (not k.untold) parts.0).1) (untold_behind from ks parts.1)
  where
    go : (b : Bool) → b ≡ false → find (λ (k : Kept). k.untold) (drop from ks) ≡ find (λ (k : Kept). k.untold) ks
        → find (λ (k : Kept). k.untold) (drop from ks) ≡ cond b (Some k) (find (λ (k : Kept). k.untold) ks)
    go true e rest = absurd (cc)
    go false e rest = rest

-- after the telling of the first of the rest of a vector
pub rest_told : {Z : Type 0} (v : Vec Kept Z) (now new : List Kept) (from : ℕ) → now ≡ v.items → length now ≡ vec_len v → from ≤ length v.items
    → list_all is_finished (take from v.items) ≡ true → new ≡ told_first (mid_of from (length now - from) now)
    → (with_items v (take from now ++ (new ++ post_of from (length now - from) now))).items ≡ told_first v.items
rest_told v now new from same len within finished is =
    let behind : post_of from (length now - from) now ≡ [] =
    Post-is from (length now) now (subst (λ (ks : List Kept). from ≤ length ks) (sym same) within) ∙ drop_all (length now) now (omega arith) in
    let e : take from now ++ (new ++ post_of from (length now - from) now) ≡ told_first now =
    ap (λ p. take from now ++ (new ++ p)) behind
    ∙ ap (λ p. take from now ++ p) (append-nil new ∙ is ∙ ap told_first (take_rest now from))
    ∙ told_behind from now (ap (λ (ks : List Kept). list_all is_finished (take from ks)) same ∙ finished) in
    with_items_is v _ (ap length e ∙ told_length now ∙ len) ∙ e ∙ ap told_first same

-- the rest, where nothing is to be told, or its first
pub first_of_rest : (now ks : List Kept) (from : ℕ) (r : Option Kept) → now ≡ ks → list_all is_finished (take from ks) ≡ true
    → r ≡ find (λ (k : Kept). k.untold) (mid_of from (length now - from) now) → r ≡ find (λ (k : Kept). k.untold) ks
first_of_rest now ks from r same finished is =
    is ∙ ap (find (λ (k : Kept). k.untold)) (take_rest now from ∙ ap (drop from) same) ∙ untold_behind from ks finished

-- what a push that went well left
pub pushed : {T E X : Type 0} (r : Result T E) (new longer old : X) → new ≡ (if is_ok r then longer else old) → is_ok r ≡ true → new ≡ longer
pushed r new longer old e ok = e ∙ ap (λ b. if b then longer else old) ok

-- the finished front, after the first outcome was told
pub told_front : (ks now : List Kept) (done n : ℕ) → done ≡ prefix_len is_finished ks → now ≡ told_first ks → n ≡ prefix_len is_finished (mid_of done (length now - done) now)
    → done + n ≡ prefix_len is_finished (told_first ks)
told_front ks now done n is told count =
    let many = told_length ks in
    let le = within_of ks done is in
    let from = front_from done (told_first ks) (omega (arith, many, le)) (front_told done ks (front_of ks done is)) in
    let rest : n ≡ prefix_len is_finished (drop done (told_first ks)) = count ∙ ap (prefix_len is_finished) (take_rest now done ∙ ap (drop done) told) in
    omega (arith, rest, from)
