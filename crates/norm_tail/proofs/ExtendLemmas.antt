-- What comes of a course begins with its events; and a tail that stopped.
use Rattle.std.proofs.Common.{◌≡◌, ℕ, zero, suc, ◌+◌, List, [], ◌∷◌, ◌++◌, Bool, true, false, Option, None, Some, refl, sym, ap, ◌∙◌, subst, append_assoc, append-nil}
use Rattle.std.specs.Prelude.{◌==◌, fold}
use Rattle.std.specs.Fn.{iterate}
use Rattle.rand_pcg.specs.Lcg.{Lcg}
use Rattle.norm_base.specs.Members.{receivers_of}
use Rattle.norm_base.specs.Settings.{Settings}
use Rattle.norm_ext.specs.Written.{Written}
use Rattle.norm_safety.specs.Events.{Event, Delivered, Ticked, Offered, UpTaken, NewsAsked}
use Rattle.norm_safety.specs.Tail.{Course, events_of, comes, untold, tells, untaken, takes, copy_comes, others_than, given_by, passes_on, sender_ticks, receiver_ticks, serves, goes_round, is_open_mark, cut_turn, Tail, turn_more, tail_until}
use Rattle.norm_safety.specs.History.{Happening}
use Rattle.norm_safety.specs.World.{World}
use Rattle.norm_safety.specs.WorldStep.{world_step, run_from}
use Rattle.norm_tail.specs.SoFar.{Context, At, Stopped}
use Rattle.norm_tail.specs.declared.step.TailStep.{TailStep}
use Rattle.norm_world.specs.WorldKept.{WorldKept, StandsFor}
use Rattle.norm_world.specs.WorldMoves.{IsNoEvent}

-- what happened in a course begins with what happened in another
abbrev pub Extends : Course → Course → Type 0
Extends c d = (more : List Happening) × (c.happened ++ more ≡ d.happened)

pub extends_self : (c : Course) → Extends c c
extends_self c = ([], append-nil c.happened)

pub extends_on : (a b c : Course) → Extends a b → Extends b c → Extends a c
extends_on a b c one two =
    (one.0 ++ two.0, sym (append_assoc a.happened one.0 two.0) ∙ ap (λ (hs : List Happening). hs ++ two.0) one.1 ∙ two.1)

-- what happens as an event comes
abbrev pub happening : Settings → Event → Course → Happening
happening p e c = record { before = c.world; event = e; answer = (world_step p c.world e).1; after = (world_step p c.world e).0 }

pub comes_extends : (p : Settings) (e : Event) (c : Course) → Extends c (comes p e c)
comes_extends p e c = (happening p e c ∷ [], refl)

pub times_extend : (p : Settings) (e : Event) (n : ℕ) (c : Course) → Extends c (iterate (comes p e) n c)
times_extend p e zero c = extends_self c
times_extend p e (suc n) c = extends_on c (comes p e c) (iterate (comes p e) n (comes p e c)) (comes_extends p e c) (times_extend p e n (comes p e c))

pub tells_extend : (p : Settings) (c : Course) → Extends c (tells p c)
tells_extend p c = times_extend p NewsAsked (untold c.world.sender) c

module _ (p : Settings) (draws : ℕ → ℕ) where
  pub copy_extends : (now : ℕ) (octets : List ℕ) (c : Course) (node : ℕ) → Extends c (copy_comes p draws now octets c node)
  copy_extends now octets c node = go (node == p.sender)
    where
      go : (b : Bool) → Extends c (elim b as (λ _. Course) [
        | true ↦ tells p (comes p (Delivered node octets now 0) c)
        | false ↦ comes p (Delivered node octets now (draws c.used)) (record c { used = c.used + 1 })
      ])
      go true =
          let d : Course = comes p (Delivered node octets now 0) c in
          extends_on c d (tells p d) (comes_extends p (Delivered node octets now 0) c) (tells_extend p d)
      go false = (happening p (Delivered node octets now (draws c.used)) c ∷ [], refl)

  pub copies_extend : (now : ℕ) (octets : List ℕ) (nodes : List ℕ) (c : Course) → Extends c (fold (copy_comes p draws now octets) c nodes)
  copies_extend now octets [] c = extends_self c
  copies_extend now octets (node ∷ nodes) c =
      let d : Course = copy_comes p draws now octets c node in
      extends_on c d (fold (copy_comes p draws now octets) d nodes) (copy_extends now octets c node) (copies_extend now octets nodes d)

  pub passes_extend : (now : ℕ) (c : Course) (node : ℕ) → Extends c (passes_on p draws now c node)
  passes_extend now c node = go (given_by c.world node)
    where
      go : (given : Option Written) → Extends c (elim given as (λ _. Course) [
        | Some d ↦ fold (copy_comes p draws now d.octets) (comes p (Offered node d.octets) c) (others_than p node)
        | None ↦ c
      ])
      go None = extends_self c
      go (Some d) =
          let e : Course = comes p (Offered node d.octets) c in
          extends_on c e (fold (copy_comes p draws now d.octets) e (others_than p node)) (comes_extends p (Offered node d.octets) c)
          (copies_extend now d.octets (others_than p node) e)

  pub serves_extend : (now : ℕ) (c : Course) (node : ℕ) → Extends c (serves p draws now c node)
  serves_extend now c node =
      let d : Course = takes p node c in
      let e : Course = receiver_ticks p now c node in
      extends_on c e (passes_on p draws now e node)
      (extends_on c d e (times_extend p (UpTaken node) (untaken c.world node) c) (comes_extends p (Ticked node now) d))
      (passes_extend now e node)

  pub all_extend : (now : ℕ) (nodes : List ℕ) (c : Course) → Extends c (fold (serves p draws now) c nodes)
  all_extend now [] c = extends_self c
  all_extend now (node ∷ nodes) c =
      let d : Course = serves p draws now c node in
      extends_on c d (fold (serves p draws now) d nodes) (serves_extend now c node) (all_extend now nodes d)

  pub round_extends : (now : ℕ) (c : Course) → Extends c (goes_round p draws now c)
  round_extends now c =
      let d : Course = passes_on p draws now c p.sender in
      extends_on c d (goes_round p draws now c) (passes_extend now c p.sender) (all_extend now (receivers_of p p.receivers) d)

  -- a turn begins with the sender's tick and its news
  pub cut_extends : (mark now : ℕ) (c : Course) → Extends (sender_ticks p now c) (cut_turn p draws mark now c)
  cut_extends mark now c = go (is_open_mark (sender_ticks p now c).world mark)
    where
      go : (b : Bool) → Extends (sender_ticks p now c)
          (elim b as (λ _. Course) [ true ↦ goes_round p draws now (sender_ticks p now c) | false ↦ sender_ticks p now c ])
      go true = round_extends now (sender_ticks p now c)
      go false = extends_self (sender_ticks p now c)

  pub turn_extends : (mark now : ℕ) (c : Course) → Extends c (cut_turn p draws mark now c)
  turn_extends mark now c =
      let d : Course = comes p (Ticked p.sender now) c in
      extends_on c (sender_ticks p now c) (cut_turn p draws mark now c)
      (extends_on c d (tells p d) (comes_extends p (Ticked p.sender now) c) (tells_extend p d)) (cut_extends mark now c)

  pub until_extends : (n mark : ℕ) (t : Tail) → Extends t.course (tail_until n p draws mark t).course
  unfolding tail_until
  until_extends zero mark t = extends_self t.course
  until_extends (suc n) mark t = go (is_open_mark t.course.world mark) (until_extends n mark (turn_more p draws mark t))
    where
      go : (b : Bool) → Extends (turn_more p draws mark t).course (tail_until n p draws mark (turn_more p draws mark t)).course
          → Extends t.course (elim b as (λ _. Tail) [ true ↦ tail_until n p draws mark (turn_more p draws mark t) | false ↦ t ]).course
      go true more =
          extends_on t.course (turn_more p draws mark t).course (tail_until n p draws mark (turn_more p draws mark t)).course
          (turn_extends mark (t.last + p.step) t.course) more
      go false more = extends_self t.course

-- ---- a tail that stopped

-- on the way to a course it is on the way to each that comes of it
pub stopped_later : (x : Context) (c d : Course) (k : WorldKept) → Stopped x c k → Extends c d → Stopped x d k
stopped_later x c d k s e = record {
  past = s.past;
  left = s.left ++ e.0;
  all = sym (append_assoc s.past s.left e.0) ∙ ap (λ (hs : List Happening). hs ++ e.0) s.all ∙ e.1;
  stands = s.stands;
}

-- at a course
pub stopped_here : (x : Context) (c : Course) (k : WorldKept) (steps : List TailStep) (g : Lcg) → At x c k steps g → Stopped x c k
stopped_here x c k steps g here = record {
  past = c.happened;
  left = [];
  all = append-nil c.happened;
  stands = subst (λ (w : World). StandsFor k w) (sym here.led) here.stands;
}

-- where a copy was as if lost
pub stopped_lost : (x : Context) (c : Course) (old new : WorldKept) (steps : List TailStep) (g : Lcg) → IsNoEvent old new → At x c old steps g → Stopped x c new
stopped_lost x c old new steps g none here = record {
  past = c.happened;
  left = [];
  all = append-nil c.happened;
  stands = none (run_of x c) (subst (λ (w : World). StandsFor old w) (sym here.led) here.stands);
}
  where
    run_of : Context → Course → World
    run_of x c = run_from x.p x.world (events_of c)
