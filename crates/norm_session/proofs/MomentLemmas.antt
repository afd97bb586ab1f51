-- Moments of turns: how many there were, and the last.
use Rattle.std.proofs.Common.{◌≡◌, ℕ, ◌+◌, List, [], ◌∷◌, ◌++◌, Bool, true, false, Option, None, Some, refl, sym, ap, ◌∙◌, subst, arith}
use Rattle.std.specs.Prelude.{◌==◌, max, option_and_then}
use Rattle.std.proofs.lemmas.List.Concat.{flat_map-append}
use Rattle.norm_base.specs.Told.{gained}
use Rattle.norm_safety.specs.Events.{Delivered}
use Rattle.norm_journal.specs.Accepting.{accepts, judged_from}
use Rattle.norm_journal.specs.Draws.{next_draw, draws_after}
use Rattle.norm_journal.specs.Follows.{Follows}
use Rattle.norm_journal.specs.InWorld.{world_after}
use Rattle.norm_journal.specs.Judged.{Judged}
use Rattle.norm_journal.specs.Projections.{moment_in, moments_in}
use Rattle.norm_journal.specs.Takes.{delivered, is_receiver}
use Rattle.norm_journal.specs.declared.event.Event.{Event}
use Rattle.norm_journal.specs.declared.event.Event.TheVariants as event
use Rattle.norm_journal.proofs.FollowLemmas.{judges_what_follows}
use Rattle.norm_turns.specs.Moments.{Either, Gave}
use Rattle.norm_session.specs.Moments.{greatest, last_moment, count_of, ByClock, HaveMoments}
use Rattle.norm_session.proofs.SoFarLemmas.{gained-nil, gained-gained}

-- the turn and its moment, after more turns at these moments
pub record Moves (j next : Judged) (moments : List ℕ) : Type 0 where
  pub turn : next.turn ≡ count_of moments + j.turn
  pub now : next.now ≡ last_moment j.now moments

stays : (j next : Judged) → next.turn ≡ j.turn → next.now ≡ j.now → Moves j next []
stays j next turn now = record { turn = turn ∙ zero j.turn; now = now }
  where
    zero : (n : ℕ) → n ≡ 0 + n
    zero n = omega arith

-- the state's turn and moment
abbrev same_moment : Judged → Judged → Type 0
same_moment j next = (next.turn ≡ j.turn) × (next.now ≡ j.now)

at_delivery : (node : ℕ) (octets : List ℕ) (j : Judged) → same_moment j (delivered node octets j)
at_delivery node octets j = go (node == j.profile.sender) (is_receiver j node)
  where
    go : (own other : Bool) → same_moment j (elim own [
      | true ↦ world_after (Delivered node octets j.now 0) j
      | false ↦ elim other [
        | true ↦ record (world_after (Delivered node octets j.now (next_draw j.draws)) j) { draws = draws_after j.draws }
        | false ↦ j
      ]
    ])
    go true other = (refl, refl)
    go false true = (refl, refl)
    go false false = (refl, refl)

by : (j next state : Judged) → next ≡ state → state.turn ≡ j.turn → state.now ≡ j.now → Moves j next []
by j next state is turn now = stays j next (ap (λ (s : Judged). s.turn) is ∙ turn) (ap (λ (s : Judged). s.now) is ∙ now)

swap : (n : ℕ) → n + 1 ≡ 1 + n
swap n = omega arith

moves : (j next : Judged) (e : Event) → Follows j e next → Moves j next (moments_in (e ∷ []))
moves j next event.Start h = by j next _ h.1.then refl refl
moves j next (event.Turn turn now) h =
    record { turn = ap (λ (s : Judged). s.turn) h.1.then ∙ h.1.number ∙ swap j.turn; now = ap (λ (s : Judged). s.now) h.1.then }
moves j next (event.Pull by_) h = by j next _ h.1.then refl refl
moves j next (event.Job by_ job gave) h = by j next _ h.1.then refl refl
moves j next (event.Length by_ name len fault) h = by j next _ h.1.then refl refl
moves j next (event.Tick node sent) h = by j next _ h.1.then refl refl
moves j next (event.Offer from octets) h = by j next _ h.1.then refl refl
moves j next (event.Took to octets) h = let d = at_delivery to octets j in by j next _ h.1.then d.0 d.1
moves j next event.Empty h = by j next _ h.1.then refl refl
moves j next (event.Up node instance up) h = by j next _ h.1.then refl refl
moves j next (event.News news) h = by j next _ h.then refl refl
moves j next event.End h = by j next _ h.1.then refl refl

pub last_moment-append : (so_far : ℕ) (xs ys : List ℕ) → last_moment so_far (xs ++ ys) ≡ last_moment (last_moment so_far xs) ys
last_moment-append so_far [] ys = refl
last_moment-append so_far (x ∷ xs) ys = last_moment-append x xs ys

pub count-both : (xs ys : List ℕ) → count_of (xs ++ ys) ≡ count_of xs + count_of ys
count-both [] ys = let e : count_of ys ≡ 0 + count_of ys = omega arith in e
count-both (x ∷ xs) ys = let e : count_of (xs ++ ys) ≡ count_of xs + count_of ys = count-both xs ys in omega (arith, e)

pub moves_all : (j last : Judged) (events : List Event) → judged_from j events ≡ Some last → Moves j last (moments_in events)
unfolding judged_from
moves_all j last [] is = by j last j (some is) refl refl
  where
    some : Some j ≡ Some last → last ≡ j
    some is = cc
moves_all j last (e ∷ events) is = go (accepts j e) refl is (λ next. moves_all next last events)
  where
    sums : (a b c n m : ℕ) → n ≡ b + m → m ≡ a + c → n ≡ a + b + c
    sums a b c n m one two = omega (arith, one, two)

    go : (found : Option Judged) → accepts j e ≡ found → option_and_then (λ n. judged_from n events) found ≡ Some last
        → ((next : Judged) → judged_from next events ≡ Some last → Moves next last (moments_in events)) → Moves j last (moments_in (e ∷ events))
    go None found is rest = absurd (cc)
    go (Some next) found is rest =
        let one = moves j next e ((judges_what_follows j next e).0 found) in
        let more = rest next is in
        let first = moments_in (e ∷ []) in
        let both : moments_in (e ∷ events) ≡ first ++ moments_in events = flat_map-append moment_in (e ∷ []) events in
        subst (λ ms. Moves j last ms) (sym both)
        (record {
          turn = sums (count_of first) (count_of (moments_in events)) j.turn last.turn next.turn more.turn one.turn
              ∙ ap (λ n. n + j.turn) (sym (count-both first (moments_in events)));
          now = more.now ∙ ap (λ n. last_moment n (moments_in events)) one.now ∙ sym (last_moment-append j.now first (moments_in events));
        })

-- ---- moments in a row

greatest-append : (so_far : ℕ) (xs ys : List ℕ) → greatest so_far (xs ++ ys) ≡ greatest so_far xs ++ greatest (last_moment so_far (greatest so_far xs)) ys
greatest-append so_far [] ys = refl
greatest-append so_far (x ∷ xs) ys = ap (λ l. max so_far x ∷ l) (greatest-append (max so_far x) xs ys)

gave_both : (a b c : Option (List ℕ)) (xs ys : List ℕ) → Gave a b xs → Gave b c ys → Gave a c (xs ++ ys)
gave_both a b None xs ys one two = tt
gave_both a None (Some told) xs ys one two = absurd (cc)
gave_both a (Some middle) (Some told) xs ys one two =
    sym (gained-gained a xs ys) ∙ ap (λ g. gained g ys) one ∙ two

by_clock_both : (so_far : ℕ) (a b c : Option (List ℕ)) (xs ys : List ℕ) → ByClock so_far a b xs → ByClock (last_moment so_far xs) b c ys
    → ByClock so_far a c (xs ++ ys)
by_clock_both so_far a b c xs ys one two = record {
  given = one.given ++ two.given;
  gave = gave_both a b c one.given two.given one.gave two.gave;
  greatest_are = ap (λ l. l ++ ys) one.greatest_are ∙ ap (λ l. greatest so_far one.given ++ l) two.greatest_are
      ∙ ap (λ l. greatest so_far one.given ++ greatest (last_moment so_far l) two.given) one.greatest_are ∙ sym (greatest-append so_far one.given two.given);
}

pub moments_both : (step so_far : ℕ) (a b c : Option (List ℕ)) (xs ys : List ℕ) → HaveMoments step so_far a b xs
    → HaveMoments step (last_moment so_far xs) b c ys → HaveMoments step so_far a c (xs ++ ys)
moments_both step so_far a b c xs ys = go (step == 0)
  where
    go : (clock : Bool) → Either clock (ByClock so_far a b xs) (b ≡ a) → Either clock (ByClock (last_moment so_far xs) b c ys) (c ≡ b)
        → Either clock (ByClock so_far a c (xs ++ ys)) (c ≡ a)
    go true one two = by_clock_both so_far a b c xs ys one two
    go false one two = two ∙ one

gave_none : (a : Option (List ℕ)) → Gave a a []
gave_none None = tt
gave_none (Some xs) = gained-nil (Some xs)

-- no turn began
pub no_moments : (step so_far : ℕ) (a : Option (List ℕ)) → HaveMoments step so_far a a []
no_moments step so_far a = go (step == 0)
  where
    go : (clock : Bool) → Either clock (ByClock so_far a a []) (a ≡ a)
    go true = record { given = []; gave = gave_none a; greatest_are = refl }
    go false = refl
