-- Enqueuing: hand-ups are offered one by one.
use Rattle.std.proofs.Common.{◌≡◌, ℕ, suc, ◌+◌, List, [], ◌∷◌, map, Option, None, Some, Result, Ok, Err, refl, sym, ap, ◌∙◌, subst, arith, zero-add}
use Rattle.norm_order.specs.declared.up.Up.{Up}
use Rattle.norm_send_rules.specs.declared.fault.SendFault.{SendFault}
use Rattle.norm_send_rules.specs.declared.job.Job.{Job}
use Rattle.norm_send_rules.specs.declared.job.Receipt.{Receipt}
use Rattle.norm_relay.specs.Offering.{Offered, Goes, Ends, answers, offers_job, offers, IsOffered, stop_of, IsEnqueued}
use Rattle.norm_relay.specs.Pumping.{Emptied, Pumped, job_of, commands, passes, enqueues, stops, stop_by, one_more}
use Rattle.norm_relay.specs.RelayKept.{RelayKept, Agrees, StandsFor, below, having}
use Rattle.norm_relay.specs.RelayState.{Relaying}
use Rattle.norm_relay.specs.Waiting.{waiting_of}
use Rattle.norm_relay.specs.declared.pumping.Enqueued.{Enqueued}
use Rattle.norm_relay.specs.declared.pumping.Lower.{Lower}
use Rattle.norm_relay.specs.declared.pumping.Offer.{Offer}
use Rattle.norm_relay.specs.declared.pumping.Offer.TheVariants as offer
use Rattle.norm_relay.specs.declared.waiting.Waiting.{Waiting}

-- another number was accepted
abbrev with_count : Pumped → ℕ → Pumped
with_count done n = record { state = done.state; count = n; stop = done.stop }

-- this many more were accepted before
abbrev count_on : ℕ → Pumped → Pumped
count_on n done = with_count done (n + done.count)

-- enqueuing goes on after what became of the first
abbrev goes_by : ℕ → Up → List Up → Offered → Pumped
goes_by now u ups (Goes jobs x) = count_on jobs (enqueues now ups x)
goes_by now u ups (Ends fault x) = stops (stop_by fault) (u ∷ ups) x

count_none : (done : Pumped) → done ≡ count_on 0 done
count_none done = ap (with_count done) (sym (zero-add done.count))

count_one : (done : Pumped) → one_more done ≡ count_on 1 done
count_one done = let more : suc done.count ≡ 1 + done.count = omega arith in ap (with_count done) more

enqueues_next : (now : ℕ) (u : Up) (ups : List Up) (x : Relaying) → enqueues now (u ∷ ups) x ≡ goes_by now u ups (offers now u x)
unfolding enqueues
enqueues_next now u ups x = go (job_of x.opened u)
  where
    answered : (y : Relaying) (r : Result Receipt SendFault)
        → (elim r [ Ok receipt ↦ one_more (enqueues now ups (passes u y)) | Err fault ↦ stops (stop_by fault) (u ∷ ups) y ]) ≡ goes_by now u ups (answers u y r)
    answered y (Ok receipt) = count_one (enqueues now ups (passes u y))
    answered y (Err fault) = refl

    go : (o : Option Job) → (elim o [
      | None ↦ enqueues now ups (passes u x)
      | Some job ↦ let step = commands now job x in elim step.1 [
        | Ok receipt ↦ one_more (enqueues now ups (passes u step.0))
        | Err fault ↦ stops (stop_by fault) (u ∷ ups) step.0
      ]
    ]) ≡ goes_by now u ups (offers_job now u x o)
    go None = count_none (enqueues now ups (passes u x))
    go (Some job) = answered (commands now job x).0 (commands now job x).1

-- What waits, enqueued from here on with this many accepted before, makes the whole.
pub record Follows (k : RelayKept) (now : ℕ) (l : Lower) (waiting : List Waiting) (jobs : ℕ) (total : Pumped) : Type 0 where
  pub state : Relaying
  pub ups : List Up
  pub agrees : Agrees (below l k) state
  pub waits : waiting ≡ map waiting_of ups
  pub goes : count_on jobs (enqueues now ups state) ≡ total

-- the same, for whatever the relay stood for as enqueuing began
abbrev pub Follow : ℕ → Lower → List Waiting → Lower → List Waiting → ℕ → Type 0
Follow now old before l waiting jobs = (k : RelayKept) (x : Relaying) (ups : List Up) → Agrees (below old k) x → before ≡ map waiting_of ups
    → Follows k now l waiting jobs (enqueues now ups x)

pub follow_first : (now : ℕ) (l : Lower) (waiting : List Waiting) → Follow now l waiting l waiting 0
follow_first now l waiting k x ups a is =
    record { state = x; ups = ups; agrees = a; waits = is; goes = sym (count_none (enqueues now ups x)) }

-- the first of a list, and the rest
head_is : (x y : Waiting) (xs ys : List Waiting) → x ∷ xs ≡ y ∷ ys → x ≡ y
head_is x y xs ys e = cc

tail_is : (x y : Waiting) (xs ys : List Waiting) → x ∷ xs ≡ y ∷ ys → xs ≡ ys
tail_is x y xs ys e = cc

-- how the code's offer answers, for whatever it stood for
abbrev pub Offers : ℕ → Lower → Lower → Waiting → Offer → Type 0
Offers now old new first said = (k : RelayKept) (x : Relaying) (u : Up) → Agrees (below old k) x → first ≡ waiting_of u
    → IsOffered k new first said (offers now u x)

follows_next : (k : RelayKept) (now : ℕ) (l new : Lower) (first : Waiting) (rest : List Waiting) (jobs more all : ℕ) (total : Pumped)
    → Offers now l new first (offer.Done more) → all ≡ jobs + more → Follows k now l (first ∷ rest) jobs total → Follows k now new rest all total
follows_next k now l new first rest jobs more all total h is f = go f.ups f.waits f.goes
  where
    same : (n : ℕ) → offer.Done more ≡ offer.Done n → more ≡ n
    same n e = cc

    other : (fault : SendFault) → offer.Done more ≡ offer.Refused first fault → ⊥
    other fault e = cc

    led : (u : Up) (ups : List Up) → rest ≡ map waiting_of ups → (o : Offered) → IsOffered k new first (offer.Done more) o
        → count_on jobs (goes_by now u ups o) ≡ total → Follows k now new rest all total
    led u ups waits (Goes n x) fits goes =
        let m = same n fits.0 in
        let c : all + (enqueues now ups x).count ≡ jobs + (n + (enqueues now ups x).count) = omega (arith, is, m) in
        record {
          state = x;
          ups = ups;
          agrees = fits.1;
          waits = waits;
          goes = ap (with_count (enqueues now ups x)) c ∙ goes;
        }
    led u ups waits (Ends fault x) fits goes = absurd (other fault fits.0)

    go : (ups : List Up) → first ∷ rest ≡ map waiting_of ups → count_on jobs (enqueues now ups f.state) ≡ total → Follows k now new rest all total
    go [] waits goes = absurd (cc)
    go (u ∷ ups) waits goes =
        led u ups (tail_is first (waiting_of u) rest (map waiting_of ups) waits) (offers now u f.state)
        (h k f.state u f.agrees (head_is first (waiting_of u) rest (map waiting_of ups) waits))
        (sym (ap (count_on jobs) (enqueues_next now u ups f.state)) ∙ goes)

pub follow_next : (now : ℕ) (old l new : Lower) (before waiting : List Waiting) (first : Waiting) (rest : List Waiting) (jobs more all : ℕ) (said : Offer)
    → Follow now old before l waiting jobs → waiting ≡ first ∷ rest → Offers now l new first said → said ≡ offer.Done more → all ≡ jobs + more
    → Follow now old before new rest all
follow_next now old l new before waiting first rest jobs more all said f popped h done is k x ups a waits =
    follows_next k now l new first rest jobs more all (enqueues now ups x)
    (subst (λ (o : Offer). Offers now l new first o) done h) is
    (subst (λ (w : List Waiting). Follows k now l w jobs (enqueues now ups x)) popped (f k x ups a waits))

-- a relay that agrees, with what waits
stands_with : (k : RelayKept) (l : Lower) (waiting : List Waiting) (ups : List Up) (x : Relaying) → Agrees (below l k) x → waiting ≡ map waiting_of ups
    → StandsFor (having waiting (below l k)) (record x { waiting = ups })
stands_with k l waiting ups x a is = record {
  agrees = record {
    upper = record { profile = a.upper.profile; member = a.upper.member; receiver = a.upper.receiver };
    lower = record { profile = a.lower.profile; sender = a.lower.sender; opened = a.lower.opened; jobs = a.lower.jobs };
    held = a.held;
  };
  waiting = is;
}

-- nothing waits any more
follows_end : (k : RelayKept) (now : ℕ) (l : Lower) (said : Enqueued) (total : Pumped) → stop_of said.stop ≡ Emptied
    → Follows k now l [] said.jobs total → IsEnqueued k l [] said total
unfolding enqueues
follows_end k now l said total stop f = go f.ups f.waits f.goes
  where
    go : (ups : List Up) → [] ≡ map waiting_of ups → count_on said.jobs (enqueues now ups f.state) ≡ total → IsEnqueued k l [] said total
    go [] waits goes = subst (IsEnqueued k l [] said) goes (record { stands = stands_with k l [] [] f.state f.agrees refl; jobs = omega arith; stop = stop })
    go (u ∷ ups) waits goes = absurd (cc)

pub follow_end : (now : ℕ) (old l : Lower) (before waiting left : List Waiting) (said : Enqueued) → Follow now old before l waiting said.jobs → waiting ≡ []
    → left ≡ [] → stop_of said.stop ≡ Emptied → (k : RelayKept) (x : Relaying) (ups : List Up) → Agrees (below old k) x → before ≡ map waiting_of ups
    → IsEnqueued k l left said (enqueues now ups x)
follow_end now old l before waiting left said f none empty stop k x ups a waits =
    subst (λ (w : List Waiting). IsEnqueued k l w said (enqueues now ups x)) (sym empty)
    (follows_end k now l said (enqueues now ups x) stop
    (subst (λ (w : List Waiting). Follows k now l w said.jobs (enqueues now ups x)) none (f k x ups a waits)))

-- the first was refused, and waits again
follows_refused : (k : RelayKept) (now : ℕ) (l new : Lower) (first again : Waiting) (rest : List Waiting) (fault : SendFault) (said : Enqueued) (total : Pumped)
    → Offers now l new first (offer.Refused again fault) → stop_of said.stop ≡ stop_by fault → Follows k now l (first ∷ rest) said.jobs total
    → IsEnqueued k new (again ∷ rest) said total
follows_refused k now l new first again rest fault said total h stop f = go f.ups f.waits f.goes
  where
    other : (n : ℕ) → offer.Refused again fault ≡ offer.Done n → ⊥
    other n e = cc

    same : (w : Waiting) (f : SendFault) → offer.Refused again fault ≡ offer.Refused w f → (again ≡ w) × (fault ≡ f)
    same w f e = (cc, cc)

    led : (u : Up) (ups : List Up) → first ≡ waiting_of u → rest ≡ map waiting_of ups → (o : Offered) → IsOffered k new first (offer.Refused again fault) o
        → count_on said.jobs (goes_by now u ups o) ≡ total → IsEnqueued k new (again ∷ rest) said total
    led u ups is waits (Goes n x) fits goes = absurd (other n fits.0)
    led u ups is waits (Ends f x) fits goes =
        let e = same first f fits.0 in
        subst (IsEnqueued k new (again ∷ rest) said) goes (record {
          stands =
              stands_with k new (again ∷ rest) (u ∷ ups) x fits.1
              (ap (λ (w : Waiting). w ∷ rest) (e.0 ∙ is) ∙ ap (λ (ws : List Waiting). waiting_of u ∷ ws) waits);
          jobs = omega arith;
          stop = stop ∙ ap stop_by e.1;
        })

    go : (ups : List Up) → first ∷ rest ≡ map waiting_of ups → count_on said.jobs (enqueues now ups f.state) ≡ total → IsEnqueued k new (again ∷ rest) said total
    go [] waits goes = absurd (cc)
    go (u ∷ ups) waits goes =
        let is = head_is first (waiting_of u) rest (map waiting_of ups) waits in
        led u ups is (tail_is first (waiting_of u) rest (map waiting_of ups) waits) (offers now u f.state) (h k f.state u f.agrees is)
        (sym (ap (count_on said.jobs) (enqueues_next now u ups f.state)) ∙ goes)

pub follow_refused : (now : ℕ) (old l new : Lower) (before waiting left : List Waiting) (first again : Waiting) (rest : List Waiting) (fault : SendFault)
    (answer : Offer) (said : Enqueued) → Follow now old before l waiting said.jobs → waiting ≡ first ∷ rest → Offers now l new first answer
    → answer ≡ offer.Refused again fault → left ≡ again ∷ rest → stop_of said.stop ≡ stop_by fault
    → (k : RelayKept) (x : Relaying) (ups : List Up) → Agrees (below old k) x → before ≡ map waiting_of ups
    → IsEnqueued k new left said (enqueues now ups x)
follow_refused now old l new before waiting left first again rest fault answer said f popped h refused put stop k x ups a waits =
    subst (λ (w : List Waiting). IsEnqueued k new w said (enqueues now ups x)) (sym put)
    (follows_refused k now l new first again rest fault said (enqueues now ups x)
    (subst (λ (o : Offer). Offers now l new first o) refused h) stop
    (subst (λ (w : List Waiting). Follows k now l w said.jobs (enqueues now ups x)) popped (f k x ups a waits)))
