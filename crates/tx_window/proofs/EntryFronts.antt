-- Whether the first entries of a window may all go, and how the last goes on.
use Rattle.std.proofs.Common.{◌≡◌, ℕ, zero, suc, ◌+◌, ◌-◌, ◌<◌, ◌⊎◌, inl, inr, refl, sym, ap, subst, ◌∙◌, arith, Bool, true, false, Option, Some, List, [], ◌∷◌, length, take, drop}
use Rattle.std.specs.Prelude.{slice_get, slice_set, ◌&&◌, MatchOption, Result, Err}
use Rattle.norm_base.specs.Settings.{Settings}
use Rattle.norm_order.specs.Entries.{Part, Entry, Stream}
use Rattle.norm_order.specs.Shapes.{shape_of}
use Rattle.norm_send_rules.specs.SenderState.{SenderState}
use Rattle.norm_send_rules.specs.Room.{may_go, may_all_go}
use Rattle.norm_send_rules.specs.declared.fault.EnqueueFault.{EnqueueFault}
use Rattle.norm_send_rules.specs.declared.fault.EnqueueFault.TheVariants.{NoStream}
use Rattle.tx_window.specs.EntryFront.{LastGoesOn, LastIsCut}
use Rattle.tx_window.specs.EntryGrowing.{EntryGoesOn, KeepsObject}
use Rattle.tx_window.specs.EntryState.{EntryReads, StandsFor, first_of}
use Rattle.stream_buffer.specs.StreamState.{with_cut}
use Rattle.tx_window.specs.declared.entry.HeldEntry.{HeldEntry}
use Rattle.tx_window.specs.declared.entry.HeldEntry.TheVariants as held
use Rattle.tx_window.specs.EntryPlaces.{Stays, AllStay}
use Rattle.std.proofs.lemmas.List.{length-set}

drop_one : {X : Type 0} (n : ℕ) (xs : List X) (x : X) → slice_get xs n ≡ Some x → drop n xs ≡ x ∷ drop (suc n) xs
drop_one n [] x e = absurd (cc)
drop_one zero (y ∷ ys) x e = ap (λ z. z ∷ ys) (let z : y ≡ x = cc in z)
drop_one (suc n) (y ∷ ys) x e = drop_one n ys x e

pub get_some : {X : Type 0} (n : ℕ) (xs : List X) → n < length xs → (x : X) × (slice_get xs n ≡ Some x)
get_some n [] lt = absurd (omega arith)
get_some zero (x ∷ xs) lt = (x, refl)
get_some (suc n) (x ∷ xs) lt = get_some n xs (omega arith)

pub get_taken : {X : Type 0} (m n : ℕ) (xs : List X) (x : X) → n < m → slice_get xs n ≡ Some x → slice_get (take m xs) n ≡ Some x
get_taken m n [] x lt e = absurd (cc)
get_taken zero n (y ∷ ys) x lt e = absurd (omega arith)
get_taken (suc m) zero (y ∷ ys) x lt e = e
get_taken (suc m) (suc n) (y ∷ ys) x lt e = get_taken m n ys x (omega arith) e

pub go_on : (p : Settings) (s : SenderState) (index : ℕ) (entries : List Entry) (n : ℕ) (entry : Entry) → slice_get entries n ≡ Some entry
    → may_go p s (index + n) (shape_of p entry.object) ≡ true
    → may_all_go p s (index + n) (drop n entries) ≡ may_all_go p s (index + (n + 1)) (drop (n + 1) entries)
unfolding may_all_go
go_on p s index entries n entry found may =
    ap (may_all_go p s (index + n)) (drop_one n entries entry found)
    ∙ ap (λ b. b && may_all_go p s (suc (index + n)) (drop (suc n) entries)) may
    ∙ ap (λ i. may_all_go p s i (drop (suc n) entries)) (let e : suc (index + n) ≡ index + (n + 1) = omega arith in e)
    ∙ ap (λ k. may_all_go p s (index + (n + 1)) (drop k entries)) (let e : suc n ≡ n + 1 = omega arith in e)

pub stay : (p : Settings) (s : SenderState) (index : ℕ) (entries : List Entry) (n : ℕ) (entry : Entry) → slice_get entries n ≡ Some entry
    → may_go p s (index + n) (shape_of p entry.object) ≡ false → may_all_go p s (index + n) (drop n entries) ≡ false
unfolding may_all_go
stay p s index entries n entry found may =
    ap (may_all_go p s (index + n)) (drop_one n entries entry found)
    ∙ ap (λ b. b && may_all_go p s (suc (index + n)) (drop (suc n) entries)) may

pub may_none : (p : Settings) (s : SenderState) (index : ℕ) → may_all_go p s index [] ≡ true
unfolding may_all_go
may_none p s index = refl

-- the last entry goes on, where it is at this place
pub last_goes : {X : Type 0} (ring : List ℕ) (p : Settings) (first : ℕ) (entries : List Entry) (s : SenderState) (more : List Part) (value : List Part → X) (old : List HeldEntry)
    (place : ℕ) (e now : HeldEntry) (before : Bool) (answer : Result X EnqueueFault) → place ≡ length old - 1 → slice_get old place ≡ Some e
    → before ≡ may_all_go p s first (take place entries)
    → ((entry : Entry) → slice_get entries place ≡ Some entry → EntryGoesOn ring p (first + place) entry.object s more before value e now answer)
    → LastGoesOn ring p first entries s more value old (slice_set old place now) answer
last_goes ring p first entries s more value old place e now before answer same found before-is goes =
    subst (λ (n : ℕ). MatchOption (slice_get old n) ((answer ≡ Err NoStream) × (slice_set old place now ≡ old))
    (λ x. (entry : Entry) → slice_get entries n ≡ Some entry → (after : HeldEntry) × (slice_set old place now ≡ slice_set old n after)
    × EntryGoesOn ring p (first + n) entry.object s more (may_all_go p s first (take n entries)) value x after answer)) same
    (subst (λ (r : Option HeldEntry). MatchOption r ((answer ≡ Err NoStream) × (slice_set old place now ≡ old))
    (λ x. (entry : Entry) → slice_get entries place ≡ Some entry → (after : HeldEntry) × (slice_set old place now ≡ slice_set old place after)
    × EntryGoesOn ring p (first + place) entry.object s more (may_all_go p s first (take place entries)) value x after answer)) (sym found)
    (λ entry there. (now, refl, subst (λ (b : Bool). EntryGoesOn ring p (first + place) entry.object s more b value e now answer) before-is (goes entry there))))

-- the last entry is cut, where it is at this place
pub last_cut : (old : List HeldEntry) (place : ℕ) (e now : HeldEntry) → place ≡ length old - 1 → slice_get old place ≡ Some e → KeepsObject e now → first_of now ≡ first_of e
    → ((r : EntryReads) (parts : List Part) → StandsFor r e → r.object ≡ Stream parts → StandsFor (record r { object = Stream (with_cut r.p.e parts) }) now)
    → LastIsCut old (slice_set old place now)
last_cut old place e now same found keeps first stands =
    subst (λ (n : ℕ). MatchOption (slice_get old n) (slice_set old place now ≡ old) (λ x. (after : HeldEntry) × (slice_set old place now ≡ slice_set old n after) × KeepsObject x after × (first_of after ≡ first_of x)
    × ((r : EntryReads) (parts : List Part) → StandsFor r x → r.object ≡ Stream parts → StandsFor (record r { object = Stream (with_cut r.p.e parts) }) after))) same
    (subst (λ (o : Option HeldEntry). MatchOption o (slice_set old place now ≡ old) (λ x. (after : HeldEntry) × (slice_set old place now ≡ slice_set old place after) × KeepsObject x after × (first_of after ≡ first_of x)
    × ((r : EntryReads) (parts : List Part) → StandsFor r x → r.object ≡ Stream parts → StandsFor (record r { object = Stream (with_cut r.p.e parts) }) after))) (sym found)
    (now, refl, keeps, first, stands))

-- ---- what stays of all

pub stays_itself : (e : HeldEntry) → Stays e e
stays_itself (held.Object h) = (refl, refl, refl)
stays_itself (held.Stream stream) = tt

same_entry : (e k : HeldEntry) → Some e ≡ Some k → e ≡ k
same_entry e k is = cc

pub all_itself : (old new : List HeldEntry) → new ≡ old → AllStay old new
all_itself old new same = subst (AllStay old) (sym same) (record {
  long = refl;
  each = λ n e k there here. subst (Stays e) (same_entry e k (sym there ∙ here)) (stays_itself e);
})

set_at : (xs : List HeldEntry) (place n : ℕ) (now k : HeldEntry) → slice_get (slice_set xs place now) n ≡ Some k
    → ((n ≡ place) × (now ≡ k)) ⊎ (slice_get xs n ≡ Some k)
set_at [] place n now k is = absurd (cc)
set_at (x ∷ xs) zero zero now k is = inl (refl, cc)
set_at (x ∷ xs) zero (suc n) now k is = inr is
set_at (x ∷ xs) (suc place) zero now k is = inr is
set_at (x ∷ xs) (suc place) (suc n) now k is = go (set_at xs place n now k is)
  where
    go : ((n ≡ place) × (now ≡ k)) ⊎ (slice_get xs n ≡ Some k) → ((suc n ≡ suc place) × (now ≡ k)) ⊎ (slice_get xs n ≡ Some k)
    go (inl here) = inl (ap suc here.0, here.1)
    go (inr there) = inr there

-- one of them stays so, and the others as they are
pub one_stays : (old : List HeldEntry) (place : ℕ) (e now : HeldEntry) → slice_get old place ≡ Some e → Stays e now → AllStay old (slice_set old place now)
one_stays old place e now found stays = record {
  long = length-set old place now;
  each = λ n x k there is. go n x k there (set_at old place n now k is);
}
  where
    go : (n : ℕ) (x k : HeldEntry) → slice_get old n ≡ Some x → ((n ≡ place) × (now ≡ k)) ⊎ (slice_get old n ≡ Some k) → Stays x k
    go n x k there (inr same) = subst (Stays x) (same_entry x k (sym there ∙ same)) (stays_itself x)
    go n x k there (inl here) =
        subst (Stays x) here.1 (subst (λ (y : HeldEntry). Stays y now) (same_entry e x (sym found ∙ ap (slice_get old) (sym here.0) ∙ there)) stays)
