use Rattle.std.proofs.Common.{◌≡◌, subst, sym, ap, ◌∙◌, arith}
use Rattle.std.specs.Prelude.{IfOk}
use Rattle.norm_base.specs.Settings.{Settings}
use Rattle.norm_order.specs.Entries.{Entry}
use Rattle.norm_order.specs.Shapes.{shape_of}
use Rattle.norm_send_rules.specs.SenderState.{SenderState}
use Rattle.norm_send_rules.specs.Enqueuing.{with_entry}
use Rattle.nack_union.specs.Kept.{Marked, Holds, HasRoom, IsFresh, admitted_stream, with_object, shape_of_marked}
use Rattle.nack_union.proofs.Idle.{fresh_stream}
use Rattle.nack_union.proofs.collection.Collection.admit_stream.Goals as goal

pub join-requires-clause-few : goal.join-requires-clause-few
join-requires-clause-few c = let index = c.requires.index in let fits = c.ranges.index.fits in omega (arith, index, fits)

pub join-requires-clause-fresh : goal.join-requires-clause-fresh
join-requires-clause-fresh c = subst IsFresh (sym c.in_ok-marks.ensures) (fresh_stream c.args.plan.now _)

pub returns-clause-exact : goal.returns-clause-exact
returns-clause-exact c = subst (λ (m : Marked). IfOk c.join.result (λ _. c.join.new.self ≡ with_object m c.args.self.now)) (c.in_ok-marks.ensures ∙ ap (λ (p : Settings). admitted_stream c.args.plan.now p.blocks) c.profile.view_is) c.join.ensures.exact

pub returns-clause-stands : goal.returns-clause-stands
returns-clause-stands c =
    subst (λ (m : Marked). IfOk c.join.result (λ _. (p : Settings) (s : SenderState) (entry : Entry) → Holds p c.args.self.now s
    → shape_of p entry.object ≡ shape_of_marked m → HasRoom p m → Holds p c.join.new.self (with_entry entry s))) (c.in_ok-marks.ensures ∙ ap (λ (p : Settings). admitted_stream c.args.plan.now p.blocks) c.profile.view_is) c.join.ensures.stands
