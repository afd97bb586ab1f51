-- Turns that begin.
use Rattle.std.proofs.Common.{◌≡◌, ℕ, ◌+◌, ◌*◌, List, [], ◌∷◌, ◌++◌, Bool, true, false, Option, None, Some, refl, sym, ap, ◌∙◌, subst, arith}
use Rattle.std.specs.Prelude.{◌==◌, ◌&&◌, not, max, nat_le}
use Rattle.std.proofs.lemmas.Bool.{le-leb}
use Rattle.std.proofs.lemmas.Bool.Decides.{Decides-eqb}
use Rattle.std.proofs.Math.Nat.{le-max_left}
use Rattle.std.proofs.lemmas.List.{append-nil}
use Rattle.norm_base.specs.Network.{Network}
use Rattle.norm_base.specs.Settings.{Settings}
use Rattle.norm_base.specs.Told.{Pieces}
use Rattle.norm_journal.specs.Accepting.{accepts, accepts_news, accepts_next}
use Rattle.norm_journal.specs.Judged.{is_done, news_due}
use Rattle.norm_journal.specs.Places.{Between}
use Rattle.norm_journal.specs.Projections.{moments_in}
use Rattle.norm_journal.specs.Turns.{is_moment, in_turn}
use Rattle.norm_journal.specs.declared.event.Event.{Event}
use Rattle.norm_journal.specs.declared.event.Event.TheVariants as event
use Rattle.norm_safety.specs.World.{World}
use Rattle.norm_session.specs.Context.{Context, with_moments, opening, judged_of}
use Rattle.norm_turns.specs.Moments.{Either, IsGiven, IsStepped, IsNextMoment}
use Rattle.norm_session.specs.Moments.{count_of, ByClock, HaveMoments, last_moment}
use Rattle.norm_session.specs.Noting.{noted}
use Rattle.norm_session.specs.RunKept.{RunKept}
use Rattle.norm_session.specs.SoFar.{At}
use Rattle.norm_session.specs.Stopping.{Stopped}
use Rattle.norm_session.specs.Turning.{command_next, FollowMoments, GoesOn}
use Rattle.norm_turns.specs.declared.fault.SessionFault.TheVariants as fault
use Rattle.norm_session.proofs.MomentLemmas.{moves_all, no_moments}
use Rattle.norm_session.proofs.SoFarLemmas.{gained-nil, kept_more, leads_by, untold, stops_for_memory}

-- ---- moments of a run

-- how many turns there were, and the moment of the last
pub turns_so_far : (x : Context) (k : RunKept) (network : Network) (written : Pieces) (here : At x k Between network written) → k.turn ≡ count_of x.moments
turns_so_far x k network written here =
    let s = here.so_far in
    (moves_all (opening x) (judged_of x k here.world Between) s.journal s.leads.judged).turn ∙ none (count_of (moments_in s.journal))
    ∙ ap count_of s.leads.moments
  where
    none : (n : ℕ) → n + 0 ≡ n
    none n = omega arith

pub moment_so_far : (x : Context) (k : RunKept) (network : Network) (written : Pieces) (here : At x k Between network written) → k.now ≡ last_moment 0 x.moments
moment_so_far x k network written here =
    let s = here.so_far in
    (moves_all (opening x) (judged_of x k here.world Between) s.journal s.leads.judged).now ∙ ap (last_moment 0) s.leads.moments

-- ---- a turn begins

is_next : (turn step so_far now : ℕ) (before after : Option (List ℕ)) → IsNextMoment turn step so_far now before after
    → elim (step == 0) [ true ↦ nat_le so_far now | false ↦ now == turn * step ] ≡ true
is_next turn step so_far now before after = go (step == 0)
  where
    go : (clock : Bool) → Either clock (IsGiven so_far now before after) (IsStepped turn step now before after)
        → elim clock [ true ↦ nat_le so_far now | false ↦ now == turn * step ] ≡ true
    go true h = ap (nat_le so_far) h.now_is ∙ le-leb so_far (max so_far h.given) (le-max_left so_far h.given)
    go false h = (Decides-eqb now (turn * step)).1 h.now_is

one_moment : (turn step so_far now : ℕ) (before after : Option (List ℕ)) → IsNextMoment turn step so_far now before after
    → HaveMoments step so_far before after (now ∷ [])
one_moment turn step so_far now before after = go (step == 0)
  where
    go : (clock : Bool) → Either clock (IsGiven so_far now before after) (IsStepped turn step now before after)
        → Either clock (ByClock so_far before after (now ∷ [])) (after ≡ before)
    go true h = record { given = h.given ∷ []; gave = h.gave; greatest_are = ap (λ n. n ∷ []) h.now_is }
    go false h = h.unasked

turn_accepted : (x : Context) (k : RunKept) (w : World) (turn now : ℕ) (before after : Option (List ℕ)) → news_due (judged_of x k w Between) ≡ None
    → is_done (judged_of x k w Between) ≡ false → turn ≡ k.turn + 1 → IsNextMoment turn k.p.step k.now now before after
    → accepts (judged_of x k w Between) (event.Turn turn now) ≡ Some (in_turn turn now (judged_of x k w Between))
turn_accepted x k w turn now before after quiet more number moment =
    let j = judged_of x k w Between in
    let e : Event = event.Turn turn now in
    ap (λ found. elim found [ Some news ↦ accepts_news j e | None ↦ accepts_next j e ]) quiet
    ∙ three (turn == k.turn + 1) (is_moment j turn now) (is_done j) ((Decides-eqb turn (k.turn + 1)).1 number)
    (is_next turn k.p.step k.now now before after moment) more
  where
    three : (a b c : Bool) → a ≡ true → b ≡ true → c ≡ false
        → elim (a && b && not c) [ true ↦ Some (in_turn turn now (judged_of x k w Between)) | false ↦ None ]
        ≡ Some (in_turn turn now (judged_of x k w Between))
    three true true false a b c = refl
    three false b c a _ _ = absurd (cc)
    three true false c _ b _ = absurd (cc)
    three true true true _ _ c = absurd (cc)

-- the run in its next turn
abbrev pub turned : RunKept → Option (List Event) → ℕ → ℕ → RunKept
turned k journal turn now = record k { journal = journal; turn = turn; now = now }

follow_one : (x : Context) (k : RunKept) (turn now : ℕ) (before after : Option (List ℕ)) (network : Network) (written : Pieces) → At x k Between network written
    → IsNextMoment turn k.p.step k.now now before after → FollowMoments x before after (now ∷ [])
follow_one x k turn now before after network written here moment =
    subst (λ step. HaveMoments step (last_moment 0 x.moments) before after (now ∷ [])) (ap (λ (p : Settings). p.step) here.so_far.all.script)
    (subst (λ so_far. HaveMoments k.p.step so_far before after (now ∷ [])) (moment_so_far x k network written here)
    (one_moment turn k.p.step k.now now before after moment))

begins_turn : (x : Context) (k : RunKept) (journal : Option (List Event)) (turn now : ℕ) (before after : Option (List ℕ)) (network : Network) (written : Pieces)
    → turn ≡ k.turn + 1 → IsNextMoment turn k.p.step k.now now before after → journal ≡ noted k.journal (event.Turn turn now)
    → (here : At x k Between network written) → GoesOn x k network written here
    → At (with_moments x (now ∷ [])) (turned k journal turn now) (command_next x (turned k journal turn now)) network written
begins_turn x k journal turn now before after network written number moment joined here more =
    let s = here.so_far in
    let w = here.world in
    let e : Event = event.Turn turn now in
    let new = turned k journal turn now in
    let y = with_moments x (now ∷ []) in
    record {
      world = w;
      so_far = record {
        all = record { script = s.all.script; world = s.all.world; alone = s.all.alone; receivers = s.all.receivers };
        stands = s.stands;
        journal = s.journal ++ e ∷ [];
        kept = joined ∙ kept_more k.alone k.journal s.journal e s.kept;
        leads = leads_by x s.journal e (judged_of x k w Between) (judged_of y new w (command_next x new)) network network written written s.leads
            (turn_accepted x k w turn now before after here.quiet more number moment) (untold network e refl refl) (sym (gained-nil written)) tt refl tt;
      };
      quiet = here.quiet;
    }

-- by what the run is seen as
pub turn_begins : (x : Context) (k v : RunKept) (journal : Option (List Event)) (turn now : ℕ) (before after : Option (List ℕ)) (network : Network) (written : Pieces)
    → k ≡ v → turn ≡ k.turn + 1 → IsNextMoment turn k.p.step k.now now before after → journal ≡ noted k.journal (event.Turn turn now)
    → (here : At x v Between network written) → GoesOn x v network written here
    → FollowMoments x before after (now ∷ [])
    × At (with_moments x (now ∷ [])) (turned k journal turn now) (command_next x (turned k journal turn now)) network written
turn_begins x k v journal turn now before after network written is number moment joined =
    subst (λ (u : RunKept). (here : At x u Between network written) → GoesOn x u network written here
    → FollowMoments x before after (now ∷ [])
    × At (with_moments x (now ∷ [])) (turned k journal turn now) (command_next x (turned k journal turn now)) network written) is
    (λ here more. (
      follow_one x k turn now before after network written here moment,
      begins_turn x k journal turn now before after network written number moment joined here more,
    ))

-- the moment was told, and there was no memory to note the turn
pub turn_unnoted : (x : Context) (k v : RunKept) (turn now : ℕ) (before after : Option (List ℕ)) (network : Network) (written : Pieces)
    → k ≡ v → turn ≡ k.turn + 1 → IsNextMoment turn k.p.step k.now now before after → (here : At x v Between network written) → GoesOn x v network written here
    → FollowMoments x before after (now ∷ []) × Stopped (with_moments x (now ∷ [])) fault.Memory network written
turn_unnoted x k v turn now before after network written is number moment here more =
    let journal = noted k.journal (event.Turn turn now) in
    let there = turn_begins x k v journal turn now before after network written is number moment refl here more in
    let new = turned k journal turn now in
    let y = with_moments x (now ∷ []) in
    (there.0, stops_for_memory y there.1.so_far.journal (judged_of y new there.1.world (command_next x new)) network written there.1.so_far.leads)

-- no turn began
pub no_turn : (x : Context) (k : RunKept) (asked : Option (List ℕ)) (network : Network) (written : Pieces) → At x k Between network written
    → FollowMoments x asked asked [] × Stopped (with_moments x []) fault.Memory network written
no_turn x k asked network written here =
    let none : with_moments x [] ≡ x = ap (λ ms. record x { moments = ms }) (append-nil x.moments) in (
      no_moments x.script.profile.step (last_moment 0 x.moments) asked,
      subst (λ (y : Context). Stopped y fault.Memory network written) (sym none)
          (stops_for_memory x here.so_far.journal (judged_of x k here.world Between) network written here.so_far.leads),
    )

-- by the step as it was read
pub stepped : (turn step other so_far now : ℕ) (before after : Option (List ℕ)) → step ≡ other → IsNextMoment turn step so_far now before after
    → IsNextMoment turn other so_far now before after
stepped turn step other so_far now before after same h = subst (λ s. IsNextMoment turn s so_far now before after) same h
