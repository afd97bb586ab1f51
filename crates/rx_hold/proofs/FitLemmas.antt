-- How transmission information fits what a front holds.
use Rattle.std.proofs.Common.{◌≡◌, ℕ, ◌+◌, ◌-◌, ◌<◌, ◌≤◌, Bool, true, false, refl, sym, ap, ◌∙◌, arith, Option, Some, None, List, [], ◌∷◌, map}
use Rattle.std.specs.Prelude.{◌==◌, ◌&&◌, ◌||◌, not, nat_lt, nat_le, is_some, is_none, if◌then◌else◌, sum, sum_by}
use Rattle.std.proofs.lemmas.Bool.{lt-ltb, le-ltb, ltb-false, lt-leb, leb-false, eqb-true}
use Rattle.std.proofs.lemmas.List.Sums.{sum_by-cons, sum-map}
use Rattle.norm_base.specs.Settings.{Settings}
use Rattle.fec_plan.specs.Partition.{Cut, cut_of, stream_cut, first_fault}
use Rattle.fec_plan.specs.declared.plan.PlanFault.{PlanFault}
use Rattle.fec_plan.specs.declared.position.Position.{Position}
use Rattle.norm_ext.specs.declared.fti.Fti.{Fti}
use Rattle.norm_order.specs.First.{first_where}
use Rattle.norm_receive_rules.specs.Holding.{Holding, Plan}
use Rattle.norm_receive_rules.specs.Plans.{plan_of, is_over, cut_by, says_stream}
use Rattle.norm_receive_rules.specs.Fitting.{most_ahead, room_of, room_taken, same_plan, is_known_plan, is_away, is_unfit, fit_of}
use Rattle.norm_receive_rules.specs.declared.words.Fit.{Fit}
use Rattle.norm_receive_rules.specs.declared.words.Fit.TheVariants as fit
use Rattle.rx_hold.specs.EntryState.{EntryState, entry_of}
use Rattle.rx_hold.specs.EntryHold.{StandsFor, at_place, entries_there, entry_at}
use Rattle.rx_hold.specs.Fits.{are_same}
use Rattle.rx_hold.specs.FrontSound.{IsFront, front_view}
use Rattle.rx_hold.specs.Seats.{octets_at, state_of, states_of}
use Rattle.rx_hold.specs.declared.front.Front.{Front}
use Rattle.rx_hold.specs.declared.ring.Seat.{Seat}
use Rattle.rx_hold.proofs.ReadLemmas.{read_none, read_plan}
use Rattle.rx_hold.proofs.SeatLemmas.{state_at, within, state_seat}

-- ---- the first word that applies

abbrev word : Bool → Bool → Bool → Fit
word known away unfit = elim (first_where ((known, fit.Known) ∷ (away, fit.Away) ∷ (unfit, fit.Unfit) ∷ [])) [ Some w ↦ w | None ↦ fit.Taken ]

word_known : (a b : Bool) → word true a b ≡ fit.Known
unfolding first_where
word_known a b = refl

word_away : (b : Bool) → word false true b ≡ fit.Away
unfolding first_where
word_away b = refl

word_unfit : word false false true ≡ fit.Unfit
unfolding first_where
word_unfit = refl

word_taken : word false false false ≡ fit.Taken
unfolding first_where
word_taken = refl

or_true : (a b : Bool) → (a || true || b) ≡ true
or_true true b = refl
or_true false b = refl

-- ---- the octets that are taken

abbrev long : Settings → Plan → ℕ
long p plan = room_of p plan.fti plan.flags

room_there : (p : Settings) (ring : List (Option Seat)) → sum_by (long p) (map (λ (o : EntryState). o.plan) (entries_there (states_of ring))) ≡ sum_by (octets_at p) ring
room_there p [] = refl
room_there p (None ∷ ring) = omega (arith, room_there p ring, sum_by-cons (octets_at p) None ring)
room_there p (Some seat ∷ ring) =
    omega (
      arith,
      room_there p ring,
      sum_by-cons (octets_at p) (Some seat) ring,
      sum_by-cons (long p) (entry_of seat.entry).plan (map (λ (o : EntryState). o.plan) (entries_there (states_of ring))),
    )

module _ (f : Front) (s : Holding) (index : ℕ) (g : Fti) (flags : ℕ) (front : IsFront f) (stands : StandsFor (front_view f) s) where
  at_point : s.point.index ≡ f.point
  at_point = ap (λ (at : Position). at.index) stands.point

  pub fit_over : index < f.point → fit.Known ≡ fit_of f.profile s index g flags
  fit_over lt =
      sym (ap (λ b. word (b || is_known_plan s index g flags) (is_away f.profile s index g flags) (is_unfit f.profile s index g flags))
      (lt-ltb index s.point.index (let at = at_point in omega (arith, at, lt)))
      ∙ word_known (is_away f.profile s index g flags) (is_unfit f.profile s index g flags))

  room_here : room_taken f.profile s ≡ f.taken
  room_here =
      ap (λ (plans : List Plan). sum (map (long f.profile) plans)) stands.plans
      ∙ sum-map (long f.profile) (map (λ (o : EntryState). o.plan) (entries_there (states_of f.ring.items)))
      ∙ room_there f.profile f.ring.items
      ∙ sym front.taken

  module _ (le : f.point ≤ index) where
    not_over : is_over s index ≡ false
    not_over = le-ltb index s.point.index (let at = at_point in omega (arith, at, le))

    pub fit_there : (o : EntryState) → entry_at (states_of f.ring.items) (index - f.point) ≡ Some o
        → (if are_same g flags o.plan.fti o.plan.flags then fit.Known else fit.Unfit) ≡ fit_of f.profile s index g flags
    fit_there o e =
        go (are_same g flags o.plan.fti o.plan.flags) refl
        ∙ sym (ap (λ b. word (b || is_known_plan s index g flags) (is_away f.profile s index g flags) (is_unfit f.profile s index g flags)) not_over
        ∙ ap (λ (x : Option Plan). word (elim x as (λ _. Bool) [ Some plan ↦ same_plan g flags plan | None ↦ false ]) (is_away f.profile s index g flags) (is_unfit f.profile s index g flags)) found)
      where
        found : plan_of s index ≡ Some o.plan
        found = read_plan f s index front stands le o e

        near : index < s.point.index + most_ahead
        near =
            let there = state_seat (at_place f.ring.items (index - f.point)) o (sym (state_at f.ring.items (index - f.point)) ∙ e) in
            let lt = within f.ring.items (index - f.point) there.0 there.1 in
            let at = at_point in
            omega (arith, lt, front.places, at)

        unfit : Option Plan → Bool
        unfit x = is_some (first_fault (cut_by g flags)) || is_some x || not (g.e == f.profile.e && g.b == f.profile.b && g.max_n == f.profile.max_n)

        go : (b : Bool) → are_same g flags o.plan.fti o.plan.flags ≡ b → (if b then fit.Known else fit.Unfit)
            ≡ word (are_same g flags o.plan.fti o.plan.flags) (is_away f.profile s index g flags) (is_unfit f.profile s index g flags)
        go true same = sym (ap (λ c. word c (is_away f.profile s index g flags) (is_unfit f.profile s index g flags)) same ∙ word_known (is_away f.profile s index g flags) (is_unfit f.profile s index g flags))
        go false same =
            sym (ap (λ c. word c (is_away f.profile s index g flags) (is_unfit f.profile s index g flags)) same
            ∙ ap (λ c. word false (c || (is_none (plan_of s index) && nat_lt f.profile.octets (room_taken f.profile s + room_of f.profile g flags))) (is_unfit f.profile s index g flags))
            (lt-leb (s.point.index + most_ahead) index near)
            ∙ ap (λ (x : Option Plan). word false (is_none x && nat_lt f.profile.octets (room_taken f.profile s + room_of f.profile g flags)) (is_unfit f.profile s index g flags)) found
            ∙ ap (λ (x : Option Plan). word false false (is_some (first_fault (cut_by g flags)) || is_some x || not (g.e == f.profile.e && g.b == f.profile.b && g.max_n == f.profile.max_n))) found
            ∙ ap (word false false) (or_true (is_some (first_fault (cut_by g flags))) (not (g.e == f.profile.e && g.b == f.profile.b && g.max_n == f.profile.max_n)))
            ∙ word_unfit)

    -- where there is none
    fit_new : entry_at (states_of f.ring.items) (index - f.point) ≡ None
        → fit_of f.profile s index g flags ≡ word false (nat_le (f.point + most_ahead) index || nat_lt f.profile.octets (f.taken + room_of f.profile g flags))
        (is_some (first_fault (cut_by g flags)) || false || not (g.e == f.profile.e && g.b == f.profile.b && g.max_n == f.profile.max_n))
    fit_new e =
        let found = read_none f s index front stands le e in
        ap (λ b. word (b || is_known_plan s index g flags) (is_away f.profile s index g flags) (is_unfit f.profile s index g flags)) not_over
        ∙ ap (λ (x : Option Plan). word (elim x as (λ _. Bool) [ Some plan ↦ same_plan g flags plan | None ↦ false ]) (is_away f.profile s index g flags) (is_unfit f.profile s index g flags)) found
        ∙ ap (λ n. word false (nat_le (n + most_ahead) index || (is_none (plan_of s index) && nat_lt f.profile.octets (room_taken f.profile s + room_of f.profile g flags))) (is_unfit f.profile s index g flags)) at_point
        ∙ ap (λ (x : Option Plan). word false (nat_le (f.point + most_ahead) index || (is_none x && nat_lt f.profile.octets (room_taken f.profile s + room_of f.profile g flags))) (is_unfit f.profile s index g flags)) found
        ∙ ap (λ n. word false (nat_le (f.point + most_ahead) index || nat_lt f.profile.octets (n + room_of f.profile g flags)) (is_unfit f.profile s index g flags)) room_here
        ∙ ap (λ (x : Option Plan). word false (nat_le (f.point + most_ahead) index || nat_lt f.profile.octets (f.taken + room_of f.profile g flags))
        (is_some (first_fault (cut_by g flags)) || is_some x || not (g.e == f.profile.e && g.b == f.profile.b && g.max_n == f.profile.max_n))) found

    module _ (none : entry_at (states_of f.ring.items) (index - f.point) ≡ None) where
      pub fit_away : (nat_le (f.point + most_ahead) index || nat_lt f.profile.octets (f.taken + room_of f.profile g flags)) ≡ true → fit.Away ≡ fit_of f.profile s index g flags
      fit_away e =
          sym (fit_new none
          ∙ ap (λ b. word false b (is_some (first_fault (cut_by g flags)) || false || not (g.e == f.profile.e && g.b == f.profile.b && g.max_n == f.profile.max_n))) e
          ∙ word_away (is_some (first_fault (cut_by g flags)) || false || not (g.e == f.profile.e && g.b == f.profile.b && g.max_n == f.profile.max_n)))

      pub fit_unfit : (nat_le (f.point + most_ahead) index || nat_lt f.profile.octets (f.taken + room_of f.profile g flags)) ≡ false
          → (is_some (first_fault (cut_by g flags)) || false || not (g.e == f.profile.e && g.b == f.profile.b && g.max_n == f.profile.max_n)) ≡ true → fit.Unfit ≡ fit_of f.profile s index g flags
      fit_unfit e d =
          sym (fit_new none
          ∙ ap (λ b. word false b (is_some (first_fault (cut_by g flags)) || false || not (g.e == f.profile.e && g.b == f.profile.b && g.max_n == f.profile.max_n))) e
          ∙ ap (word false false) d ∙ word_unfit)

      pub fit_taken : (nat_le (f.point + most_ahead) index || nat_lt f.profile.octets (f.taken + room_of f.profile g flags)) ≡ false
          → (is_some (first_fault (cut_by g flags)) || false || not (g.e == f.profile.e && g.b == f.profile.b && g.max_n == f.profile.max_n)) ≡ false → fit_of f.profile s index g flags ≡ fit.Taken
      fit_taken e d =
          fit_new none
          ∙ ap (λ b. word false b (is_some (first_fault (cut_by g flags)) || false || not (g.e == f.profile.e && g.b == f.profile.b && g.max_n == f.profile.max_n))) e
          ∙ ap (word false false) d ∙ word_taken

-- ---- from the code's tests

pub faulty : (found : Option PlanFault) (fault : PlanFault) (b : Bool) → found ≡ Some fault → (is_some found || false || b) ≡ true
faulty found fault b e = ap (λ (x : Option PlanFault). is_some x || false || b) e

pub of_other : (found : Option PlanFault) (e own g : ℕ) (x y r : Bool) → found ≡ None → e ≡ g → r ≡ (e == own && x && y) → r ≡ false → (is_some found || false || not (g == own && x && y)) ≡ true
of_other found e own g x y r none same test is =
    ap (λ (z : Option PlanFault). is_some z || false || not (g == own && x && y)) none ∙ ap not (ap (λ n. n == own && x && y) (sym same) ∙ sym test ∙ is)

pub of_own : (found : Option PlanFault) (e own g : ℕ) (x y r : Bool) → found ≡ None → e ≡ g → r ≡ (e == own && x && y) → r ≡ true → (is_some found || false || not (g == own && x && y)) ≡ false
of_own found e own g x y r none same test is =
    ap (λ (z : Option PlanFault). is_some z || false || not (g == own && x && y)) none ∙ ap not (ap (λ n. n == own && x && y) (sym same) ∙ sym test ∙ is)

both_true : (a b : Bool) → (a && b) ≡ true → (a ≡ true) × (b ≡ true)
both_true true b e = (refl, e)
both_true false b e = absurd (cc e)

none_true : (a b : Bool) → (a || b) ≡ false → (a ≡ false) × (b ≡ false)
none_true true b e = absurd (cc e)
none_true false b e = (refl, e)

pub of_profile : (e g own b of : ℕ) (y : Bool) → e ≡ g → (e == own && b == of && y) ≡ true → (g ≡ own) × (b ≡ of)
of_profile e g own b of y same is =
    let front = both_true (e == own && b == of) y is in
    let first = both_true (e == own) (b == of) front.0 in
    (sym same ∙ eqb-true e own first.0, eqb-true b of first.1)

pub not_away : (m index octets taken : ℕ) → (nat_le m index || nat_lt octets taken) ≡ false → (index < m) × (taken ≤ octets)
not_away m index octets taken e =
    let apart = none_true (nat_le m index) (nat_lt octets taken) e in
    (leb-false m index apart.0, ltb-false octets taken apart.1)

pub none_at : (f : Front) (i : ℕ) → None ≡ entry_at (states_of f.ring.items) i → at_place f.ring.items i ≡ None
none_at f i e = go (at_place f.ring.items i) (e ∙ state_at f.ring.items i)
  where
    go : (found : Option Seat) → None ≡ state_of found → found ≡ None
    go None h = refl
    go (Some seat) h = absurd (cc h)

pub cut_e : (g : Fti) (flags : ℕ) → (cut_by g flags).e ≡ g.e
cut_e g flags = go (says_stream flags)
  where
    go : (b : Bool) → (elim b as (λ _. Cut) [ true ↦ stream_cut g.e g.b g.max_n | false ↦ cut_of g.l g.e g.b g.max_n ]).e ≡ g.e
    go true = refl
    go false = refl
