-- All turns, one after the other.
use Rattle.std.proofs.Common.{◌≡◌, ℕ, ◌+◌, ◌≤◌, List, [], ◌∷◌, ◌++◌, Bool, true, false, refl, sym, ap, ◌∙◌, subst, append_assoc, arith}
use Rattle.std.specs.Prelude.{◌==◌, ◌&&◌, ◌||◌, min, nat_le, Option}
use Rattle.std.proofs.lemmas.Bool.{le-leb}
use Rattle.std.proofs.lemmas.Bool.Decides.{Decides-eqb}
use Rattle.std.proofs.lemmas.List.{append-nil}
use Rattle.norm_base.specs.Network.{Network}
use Rattle.norm_base.specs.Settings.{Settings}
use Rattle.norm_base.specs.Told.{Pieces}
use Rattle.norm_safety.specs.World.{World}
use Rattle.norm_script.specs.Commands.{Commands}
use Rattle.norm_journal.specs.Jobs.{Told}
use Rattle.norm_journal.specs.Judged.{is_done, is_whole}
use Rattle.norm_journal.specs.Places.{Place, Between}
use Rattle.norm_world.specs.WorldKept.{StandsFor}
use Rattle.norm_session.specs.Context.{Context, with_moments, with_posted, judged_of}
use Rattle.norm_session.specs.Moments.{HaveMoments, last_moment, count_of}
use Rattle.norm_session.specs.RunKept.{RunKept}
use Rattle.norm_session.specs.SoFar.{HasAll, At}
use Rattle.norm_session.specs.Stopping.{Stopped}
use Rattle.norm_session.specs.Turning.{Span, span, IsOver, FollowMoments, TakesTurn, StopsTurn, TakesTurns, StopsTurns}
use Rattle.norm_turns.specs.declared.fault.SessionFault.{SessionFault}
use Rattle.norm_session.proofs.MomentLemmas.{count-both, last_moment-append, moments_both, no_moments}
use Rattle.norm_session.proofs.TurningLemmas.{turns_so_far}

-- So many turns were made.
pub record HasTurned (script : Commands) (files : Told) (start k : RunKept) (o : Span) (many : ℕ) : Type 0 where
  pub moments : List ℕ
  pub count : count_of moments ≡ many
  pub goes : (x : Context) → IsOver x script files → At (with_posted x o.unposted) start Between o.before o.unwritten
      → FollowMoments x o.unasked o.asked moments × At (with_moments (with_posted x o.posted) moments) k Between o.after o.written

-- what the test for the last turn said of a run
abbrev pub Tells : Commands → RunKept → Bool → Type 0
Tells script k done = (x : Context) (w : World) (place : Place) → HasAll x k → x.script ≡ script → StandsFor k.world w
    → done ≡ is_done (judged_of x k w place)

over_more : (x : Context) (script : Commands) (files : Told) (moments : List ℕ) → IsOver x script files → IsOver (with_moments x moments) script files
over_more x script files moments over = record { script = over.script; files = over.files }

-- none was made yet
pub has_not_turned : (script : Commands) (files : Told) (k : RunKept) (o : Span) → o.after ≡ o.before → o.written ≡ o.unwritten → o.asked ≡ o.unasked
    → o.posted ≡ o.unposted → HasTurned script files k k o 0
has_not_turned script files k o network output clock board = record {
  moments = [];
  count = refl;
  goes = λ x over here. (
    subst (λ asked. FollowMoments x o.unasked asked []) (sym clock) (no_moments x.script.profile.step (last_moment 0 x.moments) o.unasked),
    subst (λ b. At (with_moments (with_posted x b) []) k Between o.after o.written) (sym board)
        (subst (λ n. At (with_moments (with_posted x o.unposted) []) k Between n o.written) (sym network)
        (subst (λ ps. At (with_moments (with_posted x o.unposted) []) k Between o.before ps) (sym output)
        (subst (λ ms. At (record (with_posted x o.unposted) { moments = ms }) k Between o.before o.unwritten) (sym (append-nil x.moments)) here))),
  );
}

-- moments after those that a context has
follow_both : (x : Context) (a b c : Option (List ℕ)) (xs ys : List ℕ) → FollowMoments x a b xs → FollowMoments (with_moments x xs) b c ys
    → FollowMoments x a c (xs ++ ys)
follow_both x a b c xs ys one two =
    moments_both x.script.profile.step (last_moment 0 x.moments) a b c xs ys one
    (subst (λ so_far. HaveMoments x.script.profile.step so_far b c ys) (last_moment-append 0 x.moments xs) two)

-- one more
pub has_turned_on : (script : Commands) (files : Told) (start k new : RunKept) (o p : Span) (many : ℕ) (done : Bool) → HasTurned script files start k o many
    → Tells script k done → done ≡ false → p.before ≡ o.after → p.unwritten ≡ o.written → p.unasked ≡ o.asked
    → p.unposted ≡ o.posted → TakesTurn script files k new p
    → HasTurned script files start new (span o.before p.after o.unwritten p.written o.unasked p.asked o.unposted p.posted) (many + 1)
has_turned_on script files start k new o p many done so tells more net out clock board turn = record {
  moments = so.moments ++ turn.0 ∷ [];
  count = count-both so.moments (turn.0 ∷ []) ∙ one (count_of so.moments) many so.count;
  goes = λ x over here.
      let s = so.goes x over here in
      let y = with_moments x so.moments in
      let there : At (with_posted y p.unposted) k Between p.before p.unwritten =
      subst (λ b. At (with_posted y b) k Between p.before p.unwritten) (sym board)
      (subst (λ n. At (with_posted y o.posted) k Between n p.unwritten) (sym net)
      (subst (λ ps. At (with_posted y o.posted) k Between o.after ps) (sym out) s.1)) in
      let goes_on = sym (tells (with_posted y p.unposted) there.world Between there.so_far.all over.script there.so_far.stands) ∙ more in
      let t = turn.1 y (over_more x script files so.moments over) there goes_on in (
        follow_both x o.unasked o.asked p.asked so.moments (turn.0 ∷ []) s.0
            (subst (λ a. FollowMoments y a p.asked (turn.0 ∷ [])) clock t.0),
        subst (λ ms. At (record (with_posted x p.posted) { moments = ms }) new Between p.after p.written) (append_assoc x.moments so.moments (turn.0 ∷ [])) t.1,
      );
}
  where
    one : (n m : ℕ) → n ≡ m → n + (0 + 1) ≡ m + 1
    one n m e = omega (arith, e)

-- a turn was stopped
pub turns_stop : (script : Commands) (files : Told) (start k : RunKept) (o p : Span) (many : ℕ) (done : Bool) (fault : SessionFault)
    → HasTurned script files start k o many → Tells script k done → done ≡ false → p.before ≡ o.after → p.unwritten ≡ o.written → p.unasked ≡ o.asked
    → p.unposted ≡ o.posted → StopsTurn script files k fault p
    → StopsTurns script files start fault (span o.before p.after o.unwritten p.written o.unasked p.asked o.unposted p.posted)
turns_stop script files start k o p many done fault so tells more net out clock board turn = (
  so.moments ++ turn.0,
  λ x over none here.
      let s = so.goes x over here in
      let y = with_moments x so.moments in
      let there : At (with_posted y p.unposted) k Between p.before p.unwritten =
      subst (λ b. At (with_posted y b) k Between p.before p.unwritten) (sym board)
      (subst (λ n. At (with_posted y o.posted) k Between n p.unwritten) (sym net)
      (subst (λ ps. At (with_posted y o.posted) k Between o.after ps) (sym out) s.1)) in
      let goes_on = sym (tells (with_posted y p.unposted) there.world Between there.so_far.all over.script there.so_far.stands) ∙ more in
      let t = turn.1 y (over_more x script files so.moments over) there goes_on in (
        follow_both x o.unasked o.asked p.asked so.moments turn.0 s.0 (subst (λ a. FollowMoments y a p.asked turn.0) clock t.0),
        subst (λ ms. Stopped (record (with_posted x p.posted) { moments = ms }) fault p.after p.written) (append_assoc x.moments so.moments turn.0) t.1,
      ),
)

-- ---- the last turn

-- a run in which none was made before has this number of turns, and its profile's bound
turn_is : (script : Commands) (files : Told) (start k : RunKept) (o : Span) (many : ℕ) (so : HasTurned script files start k o many) (x : Context)
    → IsOver x script files → x.moments ≡ [] → At (with_posted x o.unposted) start Between o.before o.unwritten → k.turn ≡ many
turn_is script files start k o many so x over none here =
    turns_so_far (with_moments (with_posted x o.posted) so.moments) k o.after o.written (so.goes x over here).1
    ∙ ap (λ ms. count_of (ms ++ so.moments)) none ∙ so.count

bound_is : (x y : Context) (script : Commands) (files : Told) (k : RunKept) (network : Network) (written : Pieces) → IsOver x script files → y.script ≡ x.script
    → At y k Between network written → script.profile.turns ≡ k.p.turns
bound_is x y script files k network written over same here =
    ap (λ (c : Commands). c.profile.turns) (sym (same ∙ over.script)) ∙ ap (λ (p : Settings). p.turns) (sym here.so_far.all.script)

-- where a run is whole or at its profile's last turn, and no further than this turn, it is whole or at this one
done_by : (whole : Bool) (turn until most : ℕ) → turn ≤ min until most → (nat_le 1 turn && (whole || turn == most)) ≡ true
    → (nat_le 1 turn && (whole || turn == min until most)) ≡ true
done_by whole turn until most within = both (nat_le 1 turn) whole (turn == most) last
  where
    last : (turn == most) ≡ true → (turn == min until most) ≡ true
    last is =
        let same : turn ≡ most = (Decides-eqb turn most).0 is in
        let least : turn ≡ min until most = omega (arith, same, within) in
        (Decides-eqb turn (min until most)).1 least

    both : (a b c : Bool) → (c ≡ true → (turn == min until most) ≡ true) → (a && (b || c)) ≡ true → (a && (b || turn == min until most)) ≡ true
    both true true c f is = refl
    both true false c f is = f is
    both false b c f is = absurd (cc)

-- the last was done
pub turns_done : (script : Commands) (files : Told) (until : ℕ) (start k : RunKept) (o : Span) (many : ℕ) (done : Bool) → HasTurned script files start k o many
    → many ≤ min until script.profile.turns → Tells script k done → done ≡ true → TakesTurns script files until start k o
turns_done script files until start k o many done so within tells is = (
  so.moments,
  λ x over none here.
      let s = so.goes x over here in
      let y = with_moments (with_posted x o.posted) so.moments in
      let turned = turn_is script files start k o many so x over none here in
      let most = bound_is x y script files k o.after o.written over refl s.1 in (
        s.0,
        record {
          here = s.1;
          done = done_by (is_whole (judged_of y k s.1.world Between)) k.turn until k.p.turns
              (subst (λ n. k.turn ≤ min until n) most (subst (λ n. n ≤ min until script.profile.turns) (sym turned) within))
              (sym (tells y s.1.world Between s.1.so_far.all over.script s.1.so_far.stands) ∙ is);
        },
      ),
)

-- as many were made as there may be
spent : (whole : Bool) (turn most : ℕ) → 1 ≤ turn → turn ≡ most → (nat_le 1 turn && (whole || turn == most)) ≡ true
spent whole turn most least is = both (nat_le 1 turn) whole (turn == most) (le-leb 1 turn least) ((Decides-eqb turn most).1 is)
  where
    both : (a b c : Bool) → a ≡ true → c ≡ true → (a && (b || c)) ≡ true
    both true true c _ _ = refl
    both true false c _ is = is
    both false b c a _ = absurd (cc)

pub turns_spent : (script : Commands) (files : Told) (until : ℕ) (start k : RunKept) (o : Span) (many : ℕ) → HasTurned script files start k o many
    → many ≡ min until script.profile.turns → 1 ≤ min until script.profile.turns → TakesTurns script files until start k o
turns_spent script files until start k o many so all least = (
  so.moments,
  λ x over none here.
      let s = so.goes x over here in
      let y = with_moments (with_posted x o.posted) so.moments in
      let turned = turn_is script files start k o many so x over none here ∙ all in
      let most = bound_is x y script files k o.after o.written over refl s.1 in (
        s.0,
        record {
          here = s.1;
          done = spent (is_whole (judged_of y k s.1.world Between)) k.turn (min until k.p.turns) (subst (λ n. 1 ≤ n) (sym turned) least)
              (turned ∙ ap (min until) most);
        },
      ),
)
