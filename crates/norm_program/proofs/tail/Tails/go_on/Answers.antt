use Rattle.std.proofs.Common.{◌≡◌, ◌∙◌, sym, subst, refl, Some, true, false}
use Rattle.std.proofs.lemmas.Result.{IfOk-weaker, IfErr-weaker}
use Rattle.driven_nodes.specs.Writing.{LeavesLines}
use Rattle.norm_endings.specs.declared.status.NoTail.TheVariants as refusal
use Rattle.norm_program.specs.TailEnds.{Made, has_open, no_tails}
use Rattle.norm_program.specs.Tailing.{AreMade}
use Rattle.norm_program.proofs.TailLemmas.{going_is}
use Rattle.norm_program.proofs.tail.Tails.go_on.Goals as goal

pub returns-then-turned-clause-leads : goal.returns-then-turned-clause-leads
returns-then-turned-clause-leads g c j u is here =
    subst (λ (m : Made). AreMade c.args.self.now m.0 u (g.K.Sink.pieces c.args.output.now) × (Some (refusal.Waiting c.args.turned.turn) ≡ m.1))
    (going_is c.args.profile.now j c.args.turned true (has_open j.world) is c.if-turned.true refl) (here, refl)

pub returns-then-not-has_open-clause-leads : goal.returns-then-not-has_open-clause-leads
returns-then-not-has_open-clause-leads g c j u is here =
    subst (λ (m : Made). AreMade c.args.self.now m.0 u (g.K.Sink.pieces c.args.output.now) × (Some (refusal.NoRequest c.args.turned.turn) ≡ m.1))
    (going_is c.args.profile.now j c.args.turned false false is c.if-turned.false (sym (c.has_open.ensures j.world here.stands) ∙ c.if-not-has_open.true)) (here, refl)

pub returns-clause-leads : goal.returns-clause-leads
returns-clause-leads g c =
    IfOk-weaker c.make_all.result _ _
    (λ why goes j u is here.
    subst (λ (m : Made). AreMade c.make_all.new.self m.0 u (g.K.Sink.pieces c.make_all.new.output) × (why ≡ m.1))
    (going_is c.args.profile.now j c.args.turned false true is c.if-turned.false (sym (c.has_open.ensures j.world here.stands) ∙ c.if-not-has_open.false))
    (goes (no_tails j) u here))
    c.make_all.ensures.leads

pub returns-clause-stops : goal.returns-clause-stops
returns-clause-stops g c =
    IfErr-weaker c.make_all.result _ _
    (λ failed goes j u is here.
    subst (λ (m : Made). LeavesLines failed u (g.K.Sink.pieces c.make_all.new.output) m.0.lines)
    (going_is c.args.profile.now j c.args.turned false true is c.if-turned.false (sym (c.has_open.ensures j.world here.stands) ∙ c.if-not-has_open.false))
    (goes (no_tails j) u here))
    c.make_all.ensures.stops
