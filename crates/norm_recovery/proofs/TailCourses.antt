-- A tail is an honest run from its world, without commands.
use Rattle.std.proofs.Common.{◌≡◌, ℕ, List, [], ◌∷◌, ◌++◌, refl, sym, ap, ◌∙◌, subst}
use Rattle.std.specs.List.{AllByRecursion}
use Rattle.std.proofs.lemmas.List.{map-append}
use Rattle.norm_base.specs.Members.{receivers_of}
use Rattle.norm_base.specs.Settings.{Settings}
use Rattle.norm_base.specs.declared.node.Origin.{Origin}
use Rattle.norm_safety.specs.Events.{Event, Commanded, Delivered, Ticked, Offered, UpTaken, NewsAsked}
use Rattle.norm_safety.specs.History.{Happening}
use Rattle.norm_safety.specs.InTime.{MayComeLate, HonestFrom, accepted_from}
use Rattle.norm_safety.specs.Jobs.{IsEvent, AreEvents}
use Rattle.norm_safety.specs.Lawful.{accepted_with}
use Rattle.norm_safety.specs.Tail.{Course, course_from, events_of, comes}
use Rattle.norm_safety.specs.World.{World}
use Rattle.norm_safety.specs.WorldLaws.{nodes_of}
use Rattle.norm_safety.specs.WorldStep.{world_step, run_from, run}
use Rattle.norm_safety.proofs.WorldHolds.{all_end}
use Rattle.norm_safety.proofs.WorldLemmas.{world_laws}
use Rattle.norm_recovery.specs.TailOf.{IsTail, Turns, Until, IsQuiet, ComesInTail}
use Rattle.norm_recovery.proofs.TailWalk.{turns_keep, until_keeps}

pub run_joined : (p : Settings) (w : World) (xs ys : List Event) → run_from p w (xs ++ ys) ≡ run_from p (run_from p w xs) ys
run_joined p w [] ys = refl
run_joined p w (x ∷ xs) ys = run_joined p (world_step p w x).0 xs ys

pub honest_joined : (p : Settings) (w : World) (accepted : List Origin) (xs ys : List Event) → HonestFrom p w accepted xs
    → HonestFrom p (run_from p w xs) (accepted_from p w accepted xs) ys → HonestFrom p w accepted (xs ++ ys)
honest_joined p w accepted [] ys h g = g
honest_joined p w accepted (x ∷ xs) ys h g =
    let step = world_step p w x in (h.0, honest_joined p step.0 (accepted_with accepted x step.1) xs ys h.1 g)

-- what comes in a tail may come late, and is no command
late_in_tail : (p : Settings) (w : World) (accepted : List Origin) (e : Event) → ComesInTail w e → MayComeLate p w accepted e
late_in_tail p w accepted (Commanded by job now) may = absurd may
late_in_tail p w accepted (Delivered node datagram now draw) may = may
late_in_tail p w accepted (Ticked node now) may = may
late_in_tail p w accepted (Offered node datagram) may = may
late_in_tail p w accepted (UpTaken node) may = may
late_in_tail p w accepted NewsAsked may = may

quiet_in_tail : (w : World) (e : Event) → ComesInTail w e → IsQuiet e
quiet_in_tail w (Commanded by job now) may = may
quiet_in_tail w (Delivered node datagram now draw) may = tt
quiet_in_tail w (Ticked node now) may = tt
quiet_in_tail w (Offered node datagram) may = tt
quiet_in_tail w (UpTaken node) may = tt
quiet_in_tail w NewsAsked may = tt

-- a program can make each event that is no command
pub quiet_events : (events : List Event) → AllByRecursion IsQuiet events → AreEvents events
quiet_events [] quiet = tt
quiet_events (e ∷ events) quiet = (one e quiet.0, quiet_events events quiet.1)
  where
    one : (e : Event) → IsQuiet e → IsEvent e
    one (Commanded by job now) quiet = absurd quiet
    one (Delivered node datagram now draw) quiet = tt
    one (Ticked node now) quiet = tt
    one (Offered node datagram) quiet = tt
    one (UpTaken node) quiet = tt
    one NewsAsked quiet = tt

-- What holds of a course that is a tail: it is a run from its world, honest whatever was accepted before, without commands; and the nodes
-- are those of that world.
pub record IsCalm (p : Settings) (w : World) (c : Course) : Type 0 where
  pub leads : run_from p w (events_of c) ≡ c.world
  pub honest : (accepted : List Origin) → HonestFrom p w accepted (events_of c)
  pub quiet : AllByRecursion IsQuiet (events_of c)
  pub nodes : nodes_of c.world ≡ nodes_of w

pub comes_calm : (p : Settings) (w : World) (e : Event) (c : Course) → ComesInTail c.world e → IsCalm p w c → IsCalm p w (comes p e c)
comes_calm p w e c may h =
    let more : events_of (comes p e c) ≡ events_of c ++ e ∷ [] = map-append (λ (x : Happening). x.event) c.happened _ in
    let then : ComesInTail (run_from p w (events_of c)) e = subst (λ (v : World). ComesInTail v e) (sym h.leads) may in
    record {
      leads = ap (run_from p w) more ∙ run_joined p w (events_of c) (e ∷ []) ∙ ap (λ (v : World). (world_step p v e).0) h.leads;
      honest = λ accepted. subst (HonestFrom p w accepted) (sym more)
          (honest_joined p w accepted (events_of c) (e ∷ []) (h.honest accepted)
          (late_in_tail p (run_from p w (events_of c)) (accepted_from p w accepted (events_of c)) e then, tt));
      quiet = subst (AllByRecursion IsQuiet) (sym more) (all_end IsQuiet (events_of c) e h.quiet (quiet_in_tail c.world e may));
      nodes = world_laws.stays p c.world e ∙ h.nodes;
    }

pub draw_calm : (p : Settings) (w : World) (c : Course) (n : ℕ) → IsCalm p w c → IsCalm p w (record c { used = n })
draw_calm p w c n h = record { leads = h.leads; honest = h.honest; quiet = h.quiet; nodes = h.nodes }

pub begins_calm : (p : Settings) (w : World) → IsCalm p w (course_from w)
begins_calm p w = record { leads = refl; honest = λ accepted. tt; quiet = tt; nodes = refl }

tail_calm : (p : Settings) (w : World) → nodes_of w ≡ receivers_of p p.receivers → (c : Course) → IsTail p w c → IsCalm p w c
tail_calm p w same _ (Turns n draws last) =
    turns_keep p draws (IsCalm p w) (λ c h. h.nodes ∙ same) (comes_calm p w) (draw_calm p w) n last (course_from w) (begins_calm p w)
tail_calm p w same _ (Until n draws last mark) =
    until_keeps p draws (IsCalm p w) (λ c h. h.nodes ∙ same) (comes_calm p w) (draw_calm p w) n mark
    (record { turns = 0; last = last; course = course_from w }) (begins_calm p w)

-- a tail of a run
pub run_tail_calm : (p : Settings) (events : List Event) (c : Course) → IsTail p (run p events) c → IsCalm p (run p events) c
run_tail_calm p events c tail = tail_calm p (run p events) (world_laws.nodes p events) c tail
