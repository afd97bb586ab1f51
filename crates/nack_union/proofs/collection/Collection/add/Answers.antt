use Rattle.std.proofs.Common.{ℕ, ◌-◌, map, ap, subst, List, ◌++◌}
use Rattle.std.specs.List.{AllByRecursion}
use Rattle.norm_ext.specs.Asking.{named}
use Rattle.norm_send_rules.specs.SenderState.{Asked}
use Rattle.nack_union.specs.Kept.{Kept, known_of}
use Rattle.nack_union.specs.Collected.{Collects}
use Rattle.nack_union.specs.Adding.{IsPlanned, HasAdded}
use Rattle.nack_union.proofs.Added.{stands_added, collects_more, named_then_asked}
use Rattle.nack_union.proofs.Summed.{added_parts}
use Rattle.nack_union.proofs.Planned.{all_rise}
use Rattle.nack_union.proofs.Rising.{listed_rise}
use Rattle.nack_union.proofs.collection.Collection.add.Goals as goal

planned : (c : goal.After-self-2-1) → AllByRecursion IsPlanned c.args.self.now.objects
planned c = subst (λ (u : Kept). AllByRecursion IsPlanned u.objects) c.self.view_is c.self.invariant.planned

now_planned : (c : goal.After-self-2-1) → AllByRecursion IsPlanned c.ask_requests.new.self.objects
now_planned c = subst (λ (u : Kept). AllByRecursion IsPlanned u.objects) c.self-2.view_is c.self-2.invariant.planned

pub returns-clause-added : goal.returns-clause-added
returns-clause-added c =
    subst (λ (known : ℕ). HasAdded (map (named c.args.profile.now known) c.args.requests) c.args.self.now c.ask_requests.new.self) c.known-known.ensures
    (added_parts (map (named c.args.profile.now c.known-known.result) c.args.requests) c.args.self.now c.ask_requests.new.self c.ask_requests.ensures.asked
    (listed_rise c.ask_requests.new.self.first c.ask_requests.new.self.objects (all_rise c.ask_requests.new.self.objects (now_planned c)))
    c.ask_requests.ensures.earliest)

pub returns-clause-stands : goal.returns-clause-stands
returns-clause-stands c = λ s st. stands_added c.args.profile.now s c.args.self.now c.ask_requests.new.self _ st (returns-clause-added c)

pub returns-clause-collects : goal.returns-clause-collects
returns-clause-collects c = λ s asked st col.
    subst (λ (more : List Asked). Collects c.args.profile.now c.ask_requests.new.self s (asked ++ more)) (named_then_asked c.args.profile.now s (known_of c.args.self.now) c.args.requests (ap (λ (n : ℕ). n - 1) st.next))
    (collects_more c.args.profile.now s c.args.self.now c.ask_requests.new.self asked _ st (planned c) (now_planned c) col (returns-clause-added c))
