use Rattle.std.proofs.Common.{subst, sym, ap, List, [], ◌∷◌, ◌+◌, length, ◌∙◌, arith}
use Rattle.std.proofs.lemmas.List.{length-append}
use Rattle.nack_union.specs.Kept.{Kept, Marked, Holds}
use Rattle.norm_send_rules.specs.Enqueuing.{with_entry}
use Rattle.nack_union.specs.CollectionSound.{AreIdle, AreQuiet, wanting}
use Rattle.nack_union.proofs.Idle.{idle_pushed}
use Rattle.nack_union.proofs.Quiet.{quiet_pushed}
use Rattle.nack_union.proofs.Wanting.{wanting_pushed}
use Rattle.std.specs.List.{AllByRecursion}
use Rattle.nack_union.specs.Adding.{IsPlanned}
use Rattle.nack_union.proofs.Planned.{planned_pushed}
use Rattle.nack_union.specs.Collected.{Collects}
use Rattle.nack_union.proofs.Windows.{collects_admitted}
use Rattle.nack_union.proofs.Standing.{stands_admitted}
use Rattle.nack_union.proofs.collection.Collection.join.Goals as goal

pub returns-clause-stands : goal.returns-clause-stands
returns-clause-stands c = λ p s entry st shape room.
    subst (λ (ms : List Marked). Holds p (record { first = c.self.inside.first; objects = ms; earliest = c.self.inside.earliest }) (with_entry entry s)) (sym c.in_ok-push.ensures.items)
    (stands_admitted p s _ entry c.args.marks c.requires.fresh.wants c.requires.fresh.sent c.requires.fresh.first (subst (λ (u : Kept). Holds p u s) (sym c.self.view_is) st) shape room)

pub invariant_of-self-2 : goal.invariant_of-self-2
invariant_of-self-2 c = record {
  few = let few = c.requires.few in let first = ap (λ (u : Kept). u.first + length u.objects) c.self.view_is in let items = ap length c.in_ok-push.ensures.items in omega (arith, few, first, items, length-append c.self.inside.objects.items (c.args.marks ∷ []));
  idle = subst (AreIdle c.self.inside.low c.self.inside.high) (sym c.in_ok-push.ensures.items)
      (idle_pushed c.self.inside.low c.self.inside.high c.self.inside.objects.items c.args.marks c.self.invariant.idle (c.requires.fresh.asked, c.requires.fresh.counts));
  quiet = subst (AreQuiet c.self.inside.quiet) (sym c.in_ok-push.ensures.items)
      (quiet_pushed c.self.inside.quiet c.self.inside.objects.items c.args.marks c.self.invariant.quiet c.requires.fresh.wants);
  counted = c.self.invariant.counted ∙ sym (ap wanting c.in_ok-push.ensures.items ∙ wanting_pushed c.self.inside.objects.items c.args.marks c.requires.fresh.wants);
  planned = subst (AllByRecursion IsPlanned) (sym c.in_ok-push.ensures.items) (planned_pushed c.self.inside.objects.items c.args.marks c.self.invariant.planned c.hold.ensures);
}

pub returns-clause-collects : goal.returns-clause-collects
returns-clause-collects c = λ p s asked entry st col.
    subst (λ (ms : List Marked). Collects p (record { first = c.self.inside.first; objects = ms; earliest = c.self.inside.earliest }) (with_entry entry s) asked) (sym c.in_ok-push.ensures.items)
    (collects_admitted p s _ asked entry c.args.marks (length c.args.marks.counts) c.requires.fresh.asked c.requires.fresh.counts
    (subst (λ (u : Kept). Holds p u s) (sym c.self.view_is) st) (subst (λ (u : Kept). Collects p u s asked) (sym c.self.view_is) col))

-- the object did not find room
pub invariant_of-self : goal.invariant_of-self
invariant_of-self c = record {
  few = let few = c.self.invariant.few in let same = ap length c.in_err-push.ensures.items in omega (arith, few, same);
  idle = subst (AreIdle c.self.inside.low c.self.inside.high) (sym c.in_err-push.ensures.items) c.self.invariant.idle;
  quiet = subst (AreQuiet c.self.inside.quiet) (sym c.in_err-push.ensures.items) c.self.invariant.quiet;
  counted = c.self.invariant.counted ∙ ap wanting (sym c.in_err-push.ensures.items);
  planned = subst (AllByRecursion IsPlanned) (sym c.in_err-push.ensures.items) c.self.invariant.planned;
}
