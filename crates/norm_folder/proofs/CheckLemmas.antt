-- The hand-ups of a node, taken one after the other, and the receivers in their order.
use Rattle.std.proofs.Common.{◌≡◌, ◌∙◌, ℕ, zero, suc, ◌+◌, ◌-◌, ◌<◌, ◌≤◌, List, [], ◌∷◌, ◌++◌, length, take, get_or, Option, None, Some, Bool, true, false, cond, refl, sym, ap, subst, arith, append-nil, append_assoc, add-one}
use Rattle.std.specs.Prelude.{◌==◌, map, slice_index_or}
use Rattle.std.proofs.lemmas.List.{map-append, take_more}
use Rattle.std.proofs.lemmas.List.Sums.{fold-append}
use Rattle.std.proofs.lemmas.Grind.{flat_map-append}
use Rattle.norm_base.specs.Members.{receivers_of}
use Rattle.norm_base.specs.Settings.{Settings}
use Rattle.norm_order.specs.declared.up.Up.{Up}
use Rattle.norm_record.specs.HandedUp.{hand_of}
use Rattle.norm_record.specs.declared.entry.Hand.{Hand}
use Rattle.norm_record.specs.declared.ups.HandUp.{HandUp}
use Rattle.norm_mirror.specs.Checking.{Checked, checked, checked_nothing, taken, IsDigestOf}
use Rattle.norm_folder.specs.Checks.{AreDigests, first_unlike, is_like, unlike}
use Rattle.norm_arrival.specs.HandedBy.{up_of, ups_of}
use Rattle.norm_mirror.specs.declared.outcome.Unlike.{Unlike}

-- ---- digests

-- digests that were put in their places at the front of others
digests_front : (ups : List HandUp) (digests rest : List (List ℕ)) → length digests ≡ length ups
    → ((i : ℕ) (h : HandUp) (d : List ℕ) → i < length ups → IsDigestOf (slice_index_or ups i h).up (slice_index_or digests i d))
    → AreDigests ups (take (length ups) (digests ++ rest))
digests_front [] [] rest count each = tt
digests_front [] (d ∷ digests) rest count each = absurd (cc)
digests_front (u ∷ ups) [] rest count each = absurd (cc)
digests_front (u ∷ ups) (d ∷ digests) rest count each = (
  each 0 u d (omega arith),
  digests_front ups digests rest (omega (arith, count)) (λ i h x lt. each (suc i) h x (omega (arith, lt))),
)

pub digests_all : (ups : List HandUp) (digests rest : List (List ℕ)) (n : ℕ) → n ≡ length ups → length digests ≡ length ups
    → ((i : ℕ) (h : HandUp) (d : List ℕ) → i < length ups → IsDigestOf (slice_index_or ups i h).up (slice_index_or digests i d))
    → AreDigests ups (take n (digests ++ rest))
digests_all ups digests rest n is count each = subst (λ k. AreDigests ups (take k (digests ++ rest))) (sym is) (digests_front ups digests rest count each)

pub digests_count : (ups : List HandUp) (digests : List (List ℕ)) → AreDigests ups digests → length digests ≡ length ups
digests_count [] [] are = refl
digests_count [] (d ∷ digests) are = absurd are
digests_count (u ∷ ups) [] are = absurd are
digests_count (u ∷ ups) (d ∷ digests) are = ap suc (digests_count ups digests are.1)

pub digest_at : (ups : List HandUp) (digests : List (List ℕ)) (i : ℕ) (h : HandUp) (d : List ℕ) → AreDigests ups digests → i < length ups
    → IsDigestOf (slice_index_or ups i h).up (slice_index_or digests i d)
digest_at [] digests i h d are lt = absurd (omega (arith, lt))
digest_at (u ∷ ups) [] i h d are lt = absurd are
digest_at (u ∷ ups) (x ∷ digests) zero h d are lt = are.0
digest_at (u ∷ ups) (x ∷ digests) (suc i) h d are lt = digest_at ups digests i h d are.1 (omega (arith, lt))

-- ---- the hand-ups of a node

-- what is kept of the first so many
abbrev pub handed : List HandUp → List Hand → ℕ → List (ℕ × Up)
handed ups hands i = map (hand_of ups) (take i hands)

ups_more : (node : ℕ) (ups : List HandUp) (hands : List Hand) (i : ℕ) (h : Hand) → i < length hands → h ≡ get_or hands i h
    → ups_of node (handed ups hands (i + 1)) ≡ ups_of node (handed ups hands i) ++ up_of node (hand_of ups h)
ups_more node ups hands i h lt is =
    let these : take (i + 1) hands ≡ take i hands ++ h ∷ [] = take_more hands i h lt ∙ ap (λ x. take i hands ++ x ∷ []) (sym is) in
    ap (λ l. ups_of node (map (hand_of ups) l)) these ∙ ap (ups_of node) (map-append (hand_of ups) (take i hands) (h ∷ []))
    ∙ flat_map-append (up_of node) (map (hand_of ups) (take i hands)) (hand_of ups h ∷ [])
    ∙ ap (λ l. ups_of node (handed ups hands i) ++ l) (append-nil (up_of node (hand_of ups h)))

up_is : (node : ℕ) (hand : ℕ × Up) (b : Bool) → hand.0 == node ≡ b → up_of node hand ≡ elim b [ true ↦ hand.1 ∷ [] | false ↦ [] ]
up_is node hand b is = ap (λ (c : Bool). elim c [ true ↦ hand.1 ∷ [] | false ↦ [] ]) is

-- a hand-up of another node
pub others_more : (node : ℕ) (ups : List HandUp) (hands : List Hand) (i : ℕ) (h : Hand) → i < length hands → h ≡ get_or hands i h → h.node == node ≡ false
    → ups_of node (handed ups hands (i + 1)) ≡ ups_of node (handed ups hands i)
others_more node ups hands i h lt is other =
    ups_more node ups hands i h lt is ∙ ap (λ l. ups_of node (handed ups hands i) ++ l) (up_is node (hand_of ups h) false other)
    ∙ append-nil (ups_of node (handed ups hands i))

-- one of this node
pub own_more : (node : ℕ) (ups : List HandUp) (hands : List Hand) (i : ℕ) (h : Hand) → i < length hands → h ≡ get_or hands i h → h.node == node ≡ true
    → ups_of node (handed ups hands (i + 1)) ≡ ups_of node (handed ups hands i) ++ (hand_of ups h).1 ∷ []
own_more node ups hands i h lt is own =
    ups_more node ups hands i h lt is ∙ ap (λ l. ups_of node (handed ups hands i) ++ l) (up_is node (hand_of ups h) true own)

pub checked_more : (ups : List Up) (hand_up : Up) → checked (ups ++ hand_up ∷ []) ≡ taken (checked ups) hand_up
checked_more ups hand_up = fold-append taken checked_nothing ups (hand_up ∷ [])

-- ---- the receivers

-- those so far are alike
abbrev pub AllLike : List (ℕ × Up) → List ℕ → Type 0
AllLike handed nodes = first_unlike handed nodes ≡ None

unlike_more : (handed : List (ℕ × Up)) (nodes : List ℕ) (node : ℕ) → AllLike handed nodes
    → first_unlike handed (nodes ++ node ∷ []) ≡ first_unlike handed (node ∷ [])
unlike_more handed [] node h = refl
unlike_more handed (x ∷ nodes) node h = go (is_like (checked (ups_of x handed))) h (unlike_more handed nodes node)
  where
    go : (b : Bool) → cond b (first_unlike handed nodes) (Some (unlike x (checked (ups_of x handed)))) ≡ None
        → (AllLike handed nodes → first_unlike handed (nodes ++ node ∷ []) ≡ first_unlike handed (node ∷ []))
        → cond b (first_unlike handed (nodes ++ node ∷ [])) (Some (unlike x (checked (ups_of x handed)))) ≡ first_unlike handed (node ∷ [])
    go true h on = on h
    go false h on = absurd (cc)

-- the first that is unlike is the first of all
unlike_stays : (handed : List (ℕ × Up)) (nodes more : List ℕ) (found : Unlike) → first_unlike handed nodes ≡ Some found → first_unlike handed (nodes ++ more) ≡ Some found
unlike_stays handed [] more found h = absurd (cc)
unlike_stays handed (x ∷ nodes) more found h = go (is_like (checked (ups_of x handed))) h (unlike_stays handed nodes more found)
  where
    go : (b : Bool) → cond b (first_unlike handed nodes) (Some (unlike x (checked (ups_of x handed)))) ≡ Some found
        → (first_unlike handed nodes ≡ Some found → first_unlike handed (nodes ++ more) ≡ Some found)
        → cond b (first_unlike handed (nodes ++ more)) (Some (unlike x (checked (ups_of x handed)))) ≡ Some found
    go true h on = on h
    go false h on = h

-- the receivers from one on
receivers_on : (p : Settings) (i n : ℕ) → (rest : List ℕ) × (receivers_of p (i + n) ≡ receivers_of p i ++ rest)
receivers_on p i zero = ([], ap (receivers_of p) {x = i + 0} {y = i} (omega arith) ∙ sym (append-nil (receivers_of p i)))
receivers_on p i (suc n) =
    let h = receivers_on p i n in
    let at : i + suc n ≡ suc (i + n) = omega arith in (
      h.0 ++ (p.sender + 1 + (i + n)) ∷ [],
      ap (receivers_of p) {x = i + suc n} {y = suc (i + n)} at ∙ ap (λ l. l ++ (p.sender + 1 + (i + n)) ∷ []) h.1 ∙ append_assoc (receivers_of p i) h.0 ((p.sender + 1 + (i + n)) ∷ []),
    )

pub receivers_after : (p : Settings) (i n : ℕ) → i ≤ n → (rest : List ℕ) × (receivers_of p n ≡ receivers_of p i ++ rest)
receivers_after p i n le =
    let h = receivers_on p i (n - i) in (h.0, ap (receivers_of p) {x = n} {y = i + (n - i)} (omega (arith, le)) ∙ h.1)

pub one_like : (handed : List (ℕ × Up)) (p : Settings) (i node : ℕ) → node ≡ p.sender + 1 + i → AllLike handed (receivers_of p i)
    → first_unlike handed (node ∷ []) ≡ None → AllLike handed (receivers_of p (i + 1))
one_like handed p i node is h one =
    ap (λ k. first_unlike handed (receivers_of p k)) (add-one i) ∙ unlike_more handed (receivers_of p i) (p.sender + 1 + i) h ∙ ap (λ n. first_unlike handed (n ∷ [])) (sym is) ∙ one

pub one_unlike : (handed : List (ℕ × Up)) (p : Settings) (i n node : ℕ) (found : Unlike) → i < n → node ≡ p.sender + 1 + i → AllLike handed (receivers_of p i)
    → first_unlike handed (node ∷ []) ≡ Some found → first_unlike handed (receivers_of p n) ≡ Some found
one_unlike handed p i n node found lt is h one =
    let rest = receivers_after p (suc i) n (omega (arith, lt)) in
    let here : first_unlike handed (receivers_of p (suc i)) ≡ Some found =
    unlike_more handed (receivers_of p i) (p.sender + 1 + i) h ∙ ap (λ n. first_unlike handed (n ∷ [])) (sym is) ∙ one in
    ap (first_unlike handed) rest.1 ∙ unlike_stays handed (receivers_of p (suc i)) rest.0 found here

-- what the check of one receiver says of it
pub here_is : (handed : List (ℕ × Up)) (node : ℕ) (s : Checked) (o : Option Unlike) → s ≡ checked (ups_of node handed)
    → o ≡ cond (is_like s) None (Some (unlike node s)) → first_unlike handed (node ∷ []) ≡ o
here_is handed node s o same at = sym (at ∙ ap (λ (z : Checked). cond (is_like z) None (Some (unlike node z))) same)
