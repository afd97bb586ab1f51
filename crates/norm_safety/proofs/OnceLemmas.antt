-- Origins and ids that differ go on to differ; an accepted object stands at its place, and stays there.
use Rattle.std.proofs.Common.{◌≡◌, ◌+◌, ◌<◌, ◌≤◌, ℕ, List, [], ◌∷◌, ◌++◌, length, Bool, true, false, refl, sym, ap, ◌∙◌, subst, arith, inl, inr}
use Rattle.std.specs.Prelude.{map, ◌==◌, ◌&&◌, ◌||◌, ◌⊎◌, nat_eq, nat_le, nat_lt, Contains}
use Rattle.std.specs.List.{IsDistinct, AllByRecursion}
use Rattle.std.proofs.lemmas.Bool.Decides.{Decides-eqb, Decides-ltb, leb_tells}
use Rattle.std.proofs.lemmas.List.{map-append, length-append}
use Rattle.std.proofs.lemmas.List.Elements.{Contains-append_left, Contains-append_right}
use Rattle.norm_base.specs.declared.node.Origin.{Origin}
use Rattle.norm_send_rules.specs.SenderState.{SenderState, Instance}
use Rattle.norm_ext.specs.InstanceIds.{rise, most_rise}
use Rattle.norm_send_rules.specs.Restarting.{first_id, is_used}
use Rattle.norm_safety.specs.Lawful.{same_origin}
use Rattle.norm_safety.specs.OnceEach.{origins, instance_ids}
use Rattle.norm_safety.proofs.EntryLemmas.{clash}
use Rattle.norm_safety.proofs.CommandSteps.{Adds, IdsGo}

-- what is not true is false
not_true : (b : Bool) → (b ≡ true → ⊥) → b ≡ false
not_true true h = absurd (h refl)
not_true false h = refl

both : (a b : Bool) → (a && b) ≡ true → (a ≡ true) × (b ≡ true)
both true b e = (refl, e)
both false b e = absurd (clash e)

same_is : (a b : Origin) → same_origin a b ≡ true → a ≡ b
same_is a b e =
    let parts = both (a.producer == b.producer) (a.number == b.number) e in
    let one = (Decides-eqb a.producer b.producer).0 parts.0 in
    let two = (Decides-eqb a.number b.number).0 parts.1 in
    ap (λ (n : ℕ). record { producer = n; number = a.number }) one ∙ ap (λ (n : ℕ). record { producer = b.producer; number = n }) two

pub same_self : (a : Origin) → same_origin a a ≡ true
same_self a = of_both (a.producer == a.producer) (a.number == a.number) ((Decides-eqb a.producer a.producer).1 refl) ((Decides-eqb a.number a.number).1 refl)
  where
    of_both : (a b : Bool) → a ≡ true → b ≡ true → (a && b) ≡ true
    of_both true b e f = f
    of_both false b e f = absurd (clash e)

-- of each element of two lists, and of one between them
all_between : {X : Type 0} (P : X → Type 0) (x : X) (front back : List X) → P x → AllByRecursion P (front ++ back) → AllByRecursion P (front ++ x ∷ back)
all_between P x [] back h all = (h, all)
all_between P x (y ∷ front) back h all = (all.0, all_between P x front back h all.1)

distinct_between : (by : Origin) (front back : List Origin) → AllByRecursion (λ x. same_origin x by ≡ false) (front ++ back)
    → AllByRecursion (λ x. same_origin by x ≡ false) (front ++ back) → IsDistinct same_origin (front ++ back)
    → IsDistinct same_origin (front ++ by ∷ back)
unfolding IsDistinct
distinct_between by [] back before after all = (after, all)
distinct_between by (x ∷ front) back before after all =
    (all_between (λ y. same_origin x y ≡ false) by front back before.0 all.0, distinct_between by front back before.1 after.1 all.1)

all_map : {X : Type 0} {P Q : X → Type 0} (xs : List X) → ((x : X) → P x → Q x) → AllByRecursion P xs → AllByRecursion Q xs
all_map [] f all = tt
all_map (x ∷ xs) f all = (f x all.0, all_map xs f all.1)

-- none of these ids lies higher above the first instance's than the current one
abbrev pub AreLow : ℕ → ℕ → List ℕ → Type 0
AreLow first last ids = AllByRecursion (λ x. rise first x ≤ rise first last) ids

-- What holds of a sender by the commands that it accepted: origins and ids differ, each origin is an accepted command's, no more of
-- them than were accepted, and no id lies higher than the current one.
pub record OnceSoFar (s : SenderState) (accepted : List Origin) : Type 0 where
  pub differ : IsDistinct same_origin (origins s)
  pub ids : IsDistinct nat_eq (instance_ids s)
  pub low : AreLow (first_id s) s.current.id (instance_ids s)
  pub known : AllByRecursion (λ by. Contains accepted by) (origins s)
  pub few : length (origins s) ≤ length accepted

-- no origin that is known is that of a command that was not accepted
fresh : (accepted : List Origin) (by : Origin) (xs : List Origin) → (Contains accepted by → ⊥) → AllByRecursion (λ x. Contains accepted x) xs
    → AllByRecursion (λ x. same_origin by x ≡ false) xs × AllByRecursion (λ x. same_origin x by ≡ false) xs
fresh accepted by xs new known = (
  all_map xs (λ x has. not_true (same_origin by x) (λ e. let C : Origin → Type 0 = λ o. Contains accepted o in new (subst C (sym (same_is by x e)) has))) known,
  all_map xs (λ x has. not_true (same_origin x by) (λ e. let C : Origin → Type 0 = λ o. Contains accepted o in new (subst C (same_is x by e) has))) known,
)

-- the accepted commands, with this one where it is accepted
abbrev pub with_accepted : List Origin → Origin → Bool → List Origin
with_accepted accepted by is = elim is [ true ↦ accepted ++ by ∷ [] | false ↦ accepted ]

still_known : (accepted : List Origin) (by : Origin) (is : Bool) (xs : List Origin) → AllByRecursion (λ x. Contains accepted x) xs
    → AllByRecursion (λ x. Contains (with_accepted accepted by is) x) xs
still_known accepted by true xs all = all_map xs (λ x has. Contains-append_left accepted (by ∷ []) x has) all
still_known accepted by false xs all = all

all_last : (P : ℕ → Type 0) (ids : List ℕ) (id : ℕ) → P id → AllByRecursion P ids → AllByRecursion P (ids ++ id ∷ [])
all_last P [] id h all = (h, tt)
all_last P (x ∷ ids) id h all = (all.0, all_last P ids id h all.1)

-- ids: one that lies higher than all of them is none of them
pub higher_differs : (first id : ℕ) (ids : List ℕ) → AllByRecursion (λ x. rise first x < rise first id) ids → IsDistinct nat_eq ids
    → IsDistinct nat_eq (ids ++ id ∷ [])
unfolding IsDistinct
higher_differs first id [] lower all = (tt, tt)
higher_differs first id (x ∷ ids) lower all =
    (all_last (λ other. (x == other) ≡ false) ids id (not_true (x == id) (λ e. apart ((Decides-eqb x id).0 e))) all.0, higher_differs first id ids lower.1 all.1)
  where
    apart : x ≡ id → ⊥
    apart e = (let lt = lower.0 in let same = ap (rise first) e in omega (arith, lt, same))

-- the first of a list of ids, and the last one
abbrev head_of : List ℕ → ℕ
head_of [] = 0
head_of (x ∷ ids) = x

abbrev last_of : List ℕ → ℕ
last_of [] = 0
last_of (x ∷ []) = x
last_of (x ∷ y ∷ ids) = last_of (y ∷ ids)

last_is : (ids : List ℕ) (id : ℕ) → last_of (ids ++ id ∷ []) ≡ id
last_is [] id = refl
last_is (x ∷ []) id = refl
last_is (x ∷ y ∷ ids) id = last_is (y ∷ ids) id

head_is : (s : SenderState) → head_of (instance_ids s) ≡ first_id s
head_is s = go s.earlier
  where
    go : (earlier : List Instance) → head_of (map (λ (i : Instance). i.id) (earlier ++ s.current ∷ [])) ≡ (elim earlier [ i ∷ more ↦ i.id | [] ↦ s.current.id ])
    go [] = refl
    go (i ∷ earlier) = refl

head_with : (s : SenderState) (more : List ℕ) → head_of (instance_ids s ++ more) ≡ first_id s
head_with s more = go s.earlier
  where
    go : (earlier : List Instance) → head_of (map (λ (i : Instance). i.id) (earlier ++ s.current ∷ []) ++ more) ≡ (elim earlier [ i ∷ more ↦ i.id | [] ↦ s.current.id ])
    go [] = refl
    go (i ∷ earlier) = refl

current_is : (s : SenderState) → last_of (instance_ids s) ≡ s.current.id
current_is s = ap last_of (map-append (λ (i : Instance). i.id) s.earlier (s.current ∷ [])) ∙ last_is (map (λ (i : Instance). i.id) s.earlier) s.current.id

-- one more id leaves the first, and is the last
head_of_more : (s new : SenderState) (id : ℕ) → instance_ids new ≡ instance_ids s ++ id ∷ [] → first_id new ≡ first_id s
head_of_more s new id e = sym (head_is new) ∙ ap head_of e ∙ head_with s (id ∷ [])

last_of_more : (s new : SenderState) (id : ℕ) → instance_ids new ≡ instance_ids s ++ id ∷ [] → new.current.id ≡ id
last_of_more s new id e = sym (current_is new) ∙ ap last_of e ∙ last_is (instance_ids s) id

-- ids that are the same have the same first and last
pub low_by : (s new : SenderState) → instance_ids new ≡ instance_ids s → AreLow (first_id s) s.current.id (instance_ids s)
    → AreLow (first_id new) new.current.id (instance_ids new)
low_by s new e low =
    let A : List ℕ → Type 0 = λ xs. AreLow (first_id s) s.current.id xs in
    let first : first_id new ≡ first_id s = sym (head_is new) ∙ ap head_of e ∙ head_is s in
    let last : new.current.id ≡ s.current.id = sym (current_is new) ∙ ap last_of e ∙ current_is s in
    let L : ℕ → Type 0 = λ id. AreLow (first_id s) id (instance_ids new) in
    let F : ℕ → Type 0 = λ id. AreLow id new.current.id (instance_ids new) in
    subst F (sym first) (subst L (sym last) (subst A (sym e) low))

neither : (a b : Bool) → (a || b) ≡ false → (a ≡ false) × (b ≡ false)
neither true b e = absurd (clash (sym e))
neither false b e = (refl, e)

le_false : (a b : ℕ) → nat_le a b ≡ false → b < a
le_false a b e = go (leb_tells a b)
  where
    go : ((nat_le a b ≡ true) × (a ≤ b)) ⊎ ((nat_le a b ≡ false) × (b < a)) → b < a
    go (inl tells) = absurd (clash (sym e ∙ tells.0))
    go (inr tells) = tells.1

-- an id that is not used up lies higher than the current one
pub unused_above : (s : SenderState) (id : ℕ) → is_used s id ≡ false → rise (first_id s) s.current.id < rise (first_id s) id
unused_above s id e =
    le_false (rise (first_id s) id) (rise (first_id s) s.current.id)
    (neither (nat_le (rise (first_id s) id) (rise (first_id s) s.current.id)) (nat_lt most_rise (rise (first_id s) id)) e).0

-- and at most so much
pub unused_few : (s : SenderState) (id : ℕ) → is_used s id ≡ false → rise (first_id s) id ≤ 32767
unused_few s id e =
    let no = (neither (nat_le (rise (first_id s) id) (rise (first_id s) s.current.id)) (nat_lt most_rise (rise (first_id s) id)) e).1 in
    let not_lt : most_rise < rise (first_id s) id → ⊥ = λ lt. clash (sym no ∙ (Decides-ltb most_rise (rise (first_id s) id)).1 lt) in
    omega arith

pub once_after : (s new : SenderState) (accepted : List Origin) (by : Origin) (is : Bool) → (Contains accepted by → ⊥)
    → Adds by is (origins s) (origins new) → IdsGo s new → OnceSoFar s accepted → OnceSoFar new (with_accepted accepted by is)
once_after s new accepted by is free adds ids h = record {
  differ = differ adds;
  ids = ids_differ ids;
  low = ids_low ids;
  known = known adds;
  few = few adds;
}
  where
    one_more : (is : Bool) → is ≡ true → length (with_accepted accepted by is) ≡ length accepted + 1
    one_more true e = length-append accepted (by ∷ [])
    one_more false e = absurd (clash e)

    no_fewer : (is : Bool) → length accepted ≤ length (with_accepted accepted by is)
    no_fewer true = let more = one_more true refl in omega (arith, more)
    no_fewer false = omega arith

    few : Adds by is (origins s) (origins new) → length (origins new) ≤ length (with_accepted accepted by is)
    few (inl e) = let same = ap length e in let le = h.few in let most = no_fewer is in omega (arith, same, le, most)
    few (inr (true_is, front, back, was, now)) =
        let before = ap length was ∙ length-append front back in
        let after = ap length now ∙ length-append front (by ∷ back) in
        let le = h.few in
        let most = one_more is true_is in
        omega (arith, before, after, le, most)

    all_lower : (id : ℕ) → rise (first_id s) s.current.id < rise (first_id s) id → AllByRecursion (λ x. rise (first_id s) x < rise (first_id s) id) (instance_ids s)
    all_lower id lt = all_map (instance_ids s) (λ x le. (let h : rise (first_id s) x < rise (first_id s) id = omega (arith, le, lt) in h)) h.low

    ids_differ : IdsGo s new → IsDistinct nat_eq (instance_ids new)
    ids_differ (inl e) = let D : List ℕ → Type 0 = λ xs. IsDistinct nat_eq xs in subst D (sym e) h.ids
    ids_differ (inr (id, unused, e)) =
        let D : List ℕ → Type 0 = λ xs. IsDistinct nat_eq xs in
        subst D (sym e) (higher_differs (first_id s) id (instance_ids s) (all_lower id (unused_above s id unused)) h.ids)

    ids_low : IdsGo s new → AreLow (first_id new) new.current.id (instance_ids new)
    ids_low (inl e) = low_by s new e h.low
    ids_low (inr (id, unused, e)) =
        let A : List ℕ → Type 0 = λ xs. AreLow (first_id s) id xs in
        let lt = unused_above s id unused in
        let all = all_last (λ x. rise (first_id s) x ≤ rise (first_id s) id) (instance_ids s) id (omega arith)
        (all_map (instance_ids s) (λ x le. (let h : rise (first_id s) x ≤ rise (first_id s) id = omega (arith, le, lt) in h)) h.low) in
        let L : ℕ → Type 0 = λ last. AreLow (first_id s) last (instance_ids new) in
        let F : ℕ → Type 0 = λ first. AreLow first new.current.id (instance_ids new) in
        subst F (sym (head_of_more s new id e)) (subst L (sym (last_of_more s new id e)) (subst A (sym e) all))

    differ : Adds by is (origins s) (origins new) → IsDistinct same_origin (origins new)
    differ (inl e) = let D : List Origin → Type 0 = λ xs. IsDistinct same_origin xs in subst D (sym e) h.differ
    differ (inr (true_is, front, back, was, now)) =
        let D : List Origin → Type 0 = λ xs. IsDistinct same_origin xs in
        let K : List Origin → Type 0 = λ xs. AllByRecursion (λ x. Contains accepted x) xs in
        let others = fresh accepted by (front ++ back) free (subst K was h.known) in
        subst D (sym now) (distinct_between by front back others.1 others.0 (subst D was h.differ))

    known : Adds by is (origins s) (origins new) → AllByRecursion (λ x. Contains (with_accepted accepted by is) x) (origins new)
    known (inl e) =
        let K : List Origin → Type 0 = λ xs. AllByRecursion (λ x. Contains (with_accepted accepted by is) x) xs in
        subst K (sym e) (still_known accepted by is (origins s) h.known)
    known (inr (true_is, front, back, was, now)) =
        let K : List Origin → Type 0 = λ xs. AllByRecursion (λ x. Contains (with_accepted accepted by is) x) xs in
        let own : Contains (with_accepted accepted by is) by =
        let C : Bool → Type 0 = λ b. Contains (with_accepted accepted by b) by in
        subst C (sym true_is) (Contains-append_right accepted (by ∷ []) by (0, omega arith, refl)) in
        subst K (sym now) (all_between (λ x. Contains (with_accepted accepted by is) x) by front back own
        (subst K was (still_known accepted by is (origins s) h.known)))
