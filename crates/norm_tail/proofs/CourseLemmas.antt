-- How events lead a tail on.
use Rattle.std.proofs.Common.{◌≡◌, ℕ, zero, suc, ◌+◌, ◌-◌, ◌<◌, ◌≤◌, List, [], ◌∷◌, ◌++◌, length, map, true, Option, None, Some, refl, sym, ap, ◌∙◌, subst, arith, append_assoc, append-nil}
use Rattle.std.specs.Fn.{iterate}
use Rattle.std.specs.Option.{option_map, option_map_or}
use Rattle.rand_pcg.specs.Lcg.{Lcg}
use Rattle.norm_base.specs.Members.{is_receiver}
use Rattle.norm_base.specs.Settings.{Settings}
use Rattle.norm_base.specs.declared.kinds.Sent.{Sent as Said}
use Rattle.norm_ext.specs.Written.{Written}
use Rattle.norm_order.specs.declared.up.Up.{Up}
use Rattle.norm_receive_rules.specs.ReceiverState.{ReceiverState}
use Rattle.norm_receiver.specs.ReceiverKept.{ReceiverKept}
use Rattle.norm_receiver.specs.ReceiverSound.{StandsFor as ReceiverStands}
use Rattle.norm_safety.specs.Events.{Event, Ticked, UpTaken, NewsAsked, Answer, Took, Told}
use Rattle.norm_safety.specs.History.{Happening}
use Rattle.norm_safety.specs.World.{World, receiver_at}
use Rattle.norm_safety.specs.WorldStep.{world_step, run_from}
use Rattle.norm_send_rules.specs.SenderState.{SenderState}
use Rattle.norm_send_rules.specs.declared.news.News.{News}
use Rattle.norm_sender.specs.SenderKept.{SenderKept, Stands}
use Rattle.norm_tail.specs.SoFar.{Context, At, AtSent, Stopped, HasGiven, event_of}
use Rattle.norm_tail.specs.Steps.{step_of, steps_of}
use Rattle.norm_safety.specs.Tail.{Course, comes, untold, untaken, given_by, sender_ticks}
use Rattle.norm_tail.specs.declared.step.TailStep.{TailStep}
use Rattle.norm_tail.specs.declared.step.TailStep.TheVariants as step
use Rattle.norm_tail.proofs.ExtendLemmas.{happening, stopped_later, times_extend}
use Rattle.norm_safety.proofs.TailLemmas.{tail_laws}
use Rattle.norm_world.proofs.ReceiverEvents.{behind_sender}
use Rattle.norm_world.specs.WorldKept.{WorldKept, StandsFor, IsReceiver, node_at, place_of}
use Rattle.norm_world.specs.WorldMoves.{IsEvent, IsSent, receiver_of}

-- ---- one event more

steps_more : (hs : List Happening) (h : Happening) → steps_of hs ++ step_of h.event h.answer ≡ steps_of (hs ++ h ∷ [])
steps_more [] h = sym (append-nil (step_of h.event h.answer))
steps_more (y ∷ hs) h =
    append_assoc (step_of y.event y.answer) (steps_of hs) (step_of h.event h.answer)
    ∙ ap (λ rest. step_of y.event y.answer ++ rest) (steps_more hs h)

led_more : (p : Settings) (w : World) (hs : List Happening) (h : Happening)
    → run_from p w (map event_of (hs ++ h ∷ [])) ≡ (world_step p (run_from p w (map event_of hs)) h.event).0
led_more p w [] h = refl
led_more p w (y ∷ hs) h = led_more p (world_step p w y.event).0 hs h

-- an event comes, and what it hands up or tells is noted
pub came : (x : Context) (c : Course) (e : Event) (Fits : Answer → Type 0) (old new : WorldKept) (before after : List TailStep) (g : Lcg)
    → new.p ≡ old.p → IsEvent old new e Fits → ((a : Answer) → Fits a → after ≡ before ++ step_of e a)
    → At x c old before g → At x (comes x.p e c) new after g
came x c e Fits old new before after g same is noted here =
    let step = is.steps c.world here.stands in
    let answer = (world_step x.p c.world e).1 in
    record {
      profile = same ∙ here.profile;
      led = led_more x.p x.world c.happened (happening x.p e c) ∙ ap (λ (w : World). (world_step x.p w e).0) here.led;
      stands = subst (λ (q : Settings). StandsFor new (world_step q c.world e).0) here.profile step.0;
      answered = noted (world_step old.p c.world e).1 step.1 ∙ ap (λ (q : Settings). before ++ step_of e (world_step q c.world e).1) here.profile
          ∙ ap (λ ss. ss ++ step_of e answer) here.answered ∙ steps_more c.happened (happening x.p e c);
      drawn = here.drawn;
    }

-- an event comes, and a tail stops there
pub came_stops : (x : Context) (c : Course) (e : Event) (Fits : Answer → Type 0) (old new : WorldKept) (before : List TailStep) (g : Lcg)
    → IsEvent old new e Fits → At x c old before g → Stopped x (comes x.p e c) new
came_stops x c e Fits old new before g is here =
    let step = is.steps c.world here.stands in
    record {
      past = c.happened ++ happening x.p e c ∷ [];
      left = [];
      all = append-nil (c.happened ++ happening x.p e c ∷ []);
      stands = subst (λ (w : World). StandsFor new w)
          (sym (led_more x.p x.world c.happened (happening x.p e c) ∙ ap (λ (w : World). (world_step x.p w e).0) here.led))
          (subst (λ (q : Settings). StandsFor new (world_step q c.world e).0) here.profile step.0);
    }

-- ---- what is noted

pub told_none : (before : List TailStep) (a : Answer) → a ≡ Told None → before ≡ before ++ step_of NewsAsked a
told_none before a is = sym (append-nil before) ∙ ap (λ b. before ++ step_of NewsAsked b) (sym is)

pub told_one : (before after : List TailStep) (n : News) → after ≡ before ++ step.News n ∷ [] → (a : Answer) → a ≡ Told (Some n)
    → after ≡ before ++ step_of NewsAsked a
told_one before after n noted a is = noted ∙ ap (λ b. before ++ step_of NewsAsked b) (sym is)

pub took_none : (node : ℕ) (before : List TailStep) (a : Answer) → a ≡ Took None → before ≡ before ++ step_of (UpTaken node) a
took_none node before a is = sym (append-nil before) ∙ ap (λ b. before ++ step_of (UpTaken node) b) (sym is)

pub took_one : (node : ℕ) (before after : List TailStep) (up : Up) → after ≡ before ++ step.Up node up ∷ [] → (a : Answer) → a ≡ Took (Some up)
    → after ≡ before ++ step_of (UpTaken node) a
took_one node before after up noted a is = noted ∙ ap (λ b. before ++ step_of (UpTaken node) b) (sym is)

-- ---- one event several times

-- a tail is on its way to a course, by some event so many times more
pub record Toward (x : Context) (on : Course → Course) (times : ℕ) (whole : Course) (k : WorldKept) (steps : List TailStep) (g : Lcg) : Type 0 where
  pub course : Course
  pub here : At x course k steps g
  pub whole_is : iterate on times course ≡ whole

pub toward_start : (x : Context) (on : Course → Course) (c : Course) (times many : ℕ) (k : WorldKept) (steps : List TailStep) (g : Lcg) → times ≡ many
    → At x c k steps g → Toward x on times (iterate on many c) k steps g
toward_start x on c times many k steps g is here = record { course = c; here = here; whole_is = ap (λ n. iterate on n c) is }

one_less : (end counter : ℕ) → counter < end → end - counter ≡ suc (end - (counter + 1))
one_less end counter lt = omega (arith, lt)

pub toward_more : (x : Context) (on : Course → Course) (end counter : ℕ) (whole : Course) (old new : WorldKept) (before after : List TailStep) (g : Lcg)
    → counter < end → ((c : Course) → At x c old before g → At x (on c) new after g)
    → Toward x on (end - counter) whole old before g → Toward x on (end - (counter + 1)) whole new after g
toward_more x on end counter whole old new before after g lt step t = record {
  course = on t.course;
  here = step t.course t.here;
  whole_is = ap (λ n. iterate on n t.course) (sym (one_less end counter lt)) ∙ t.whole_is;
}

pub toward_end : (x : Context) (on : Course → Course) (end counter : ℕ) (whole : Course) (k : WorldKept) (steps : List TailStep) (g : Lcg)
    → end ≤ counter → Toward x on (end - counter) whole k steps g → At x whole k steps g
toward_end x on end counter whole k steps g past t =
    let none : 0 ≡ end - counter = omega (arith, past) in
    subst (λ (c : Course). At x c k steps g) (ap (λ n. iterate on n t.course) none ∙ t.whole_is) t.here

pub toward_stops : (x : Context) (e : Event) (end counter : ℕ) (whole : Course) (old new : WorldKept) (before : List TailStep) (g : Lcg)
    → counter < end → ((c : Course) → At x c old before g → Stopped x (comes x.p e c) new)
    → Toward x (comes x.p e) (end - counter) whole old before g → Stopped x whole new
toward_stops x e end counter whole old new before g lt stops t =
    let left = end - (counter + 1) in
    let next : Course = comes x.p e t.course in
    subst (λ (c : Course). Stopped x c new) (ap (λ n. iterate (comes x.p e) n t.course) (sym (one_less end counter lt)) ∙ t.whole_is)
    (stopped_later x next (iterate (comes x.p e) left next) new (stops t.course t.here) (times_extend x.p e left next))

-- ---- how often

pub untold_times : (x : Context) (c : Course) (k : WorldKept) (steps : List TailStep) (g : Lcg) (s : SenderKept) (many : ℕ) → s ≡ k.sender
    → ((r : SenderState) → Stands s r → many ≡ untold r) → At x c k steps g → many ≡ untold c.world.sender
untold_times x c k steps g s many is counts here =
    counts c.world.sender (subst (λ (v : SenderKept). Stands v c.world.sender) (sym is) here.stands.sender)

at_its_place : (p : Settings) (node : ℕ) → is_receiver p node ≡ true → node_at p (place_of p node) ≡ node
at_its_place p node e = let lt = behind_sender p node e in omega (arith, lt)

ups_at : (p : Settings) (k : ReceiverKept) (found : Option ReceiverState) (many : ℕ) → IsReceiver p k found
    → ((r : ReceiverState) → ReceiverStands k r → many ≡ length r.holding.ups) → many ≡ option_map_or (λ (r : ReceiverState). length r.holding.ups) found 0
ups_at p k None many is counts = absurd is
ups_at p k (Some r) many is counts = counts r is.1

pub untaken_times : (x : Context) (c : Course) (k : WorldKept) (steps : List TailStep) (g : Lcg) (node : ℕ) (r : ReceiverKept) (many : ℕ)
    → is_receiver k.p node ≡ true → receiver_of k node ≡ Some r → ((s : ReceiverState) → ReceiverStands r s → many ≡ length s.holding.ups)
    → At x c k steps g → many ≡ untaken c.world node
untaken_times x c k steps g node r many receiver there counts here =
    ups_at k.p r (receiver_at c.world node) many
    (subst (λ n. IsReceiver k.p r (receiver_at c.world n)) (at_its_place k.p node receiver) (here.stands.receivers (place_of k.p node) r there)) counts

-- ---- a tick

pub ticked : (x : Context) (c : Course) (node now : ℕ) (old new : WorldKept) (steps : List TailStep) (g : Lcg) (said : Said) (out : List ℕ) → new.p ≡ old.p
    → IsEvent old new (Ticked node now) (IsSent said out) → At x c old steps g → AtSent x (comes x.p (Ticked node now) c) node said out new steps g
ticked x c node now old new steps g said out same is here = record {
  here = came x c (Ticked node now) (IsSent said out) old new steps steps g same is (λ a fits. sym (append-nil steps)) here;
  given = gives (subst (λ (q : Settings). IsSent said out (world_step q c.world (Ticked node now)).1) here.profile (is.steps c.world here.stands).1);
}
  where
    gives : IsSent said out (world_step x.p c.world (Ticked node now)).1 → HasGiven (world_step x.p c.world (Ticked node now)).0 node said out
    gives sent = sent.octets ∙ ap (option_map (λ (d : Written). d.octets)) (sym (tail_laws.given x.p c.world node now sent.datagram sent.answer_is))

-- news leave what was given
given_after : (p : Settings) (n : ℕ) (c : Course) (node : ℕ) → given_by (iterate (comes p NewsAsked) n c).world node ≡ given_by c.world node
given_after p zero c node = refl
given_after p (suc n) c node = given_after p n (comes p NewsAsked c) node

pub sender_ticked : (x : Context) (c : Course) (now : ℕ) (k : WorldKept) (steps : List TailStep) (g : Lcg) (said : Said) (out : List ℕ)
    → HasGiven (comes x.p (Ticked x.p.sender now) c).world x.p.sender said out → At x (sender_ticks x.p now c) k steps g
    → AtSent x (sender_ticks x.p now c) x.p.sender said out k steps g
sender_ticked x c now k steps g said out given here =
    let d : Course = comes x.p (Ticked x.p.sender now) c in
    record { here = here; given = given ∙ ap (option_map (λ (e : Written). e.octets)) (sym (given_after x.p (untold d.world.sender) d x.p.sender)) }
