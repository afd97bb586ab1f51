use Rattle.std.proofs.Common.{◌≡◌, ◌∙◌, ◌+◌, ◌*◌, ap, ap₂, sym, subst, refl, fold, None}
use Rattle.std.proofs.lemmas.Result.{err_from_is_err_and}
use Rattle.norm_base.specs.Settings.{Settings}
use Rattle.norm_base.specs.Told.{gained}
use Rattle.norm_sender.specs.SenderKept.{SenderKept, Stands}
use Rattle.norm_turns.proofs.FaultLemmas.{at_fault}
use Rattle.norm_turns.specs.declared.fault.SessionFault.TheVariants as fault
use Rattle.norm_world.specs.WorldKept.{WorldKept}
use Rattle.driven_nodes.specs.Writing.{LeavesLines}
use Rattle.norm_program.specs.TailEnds.{lines_of, refused_after, tail_once, with_step}
use Rattle.norm_program.specs.Tailing.{AreMade, MayGoOn}
use Rattle.norm_program.specs.declared.tail.Tails.{Tails}
use Rattle.norm_program.proofs.TailLemmas.{makes_one, one_wants_memory, one_breaks, is_refused, refuses_one, may_go_on}
use Rattle.norm_program.proofs.tail.Tails.make.Goals as goal

-- so late that its moments might not fit
pub returns-then-not-has_room-clause-stops : goal.returns-then-not-has_room-clause-stops
returns-then-not-has_room-clause-stops g c t u here = one_wants_memory c.args.profile.now c.args.turn c.args.self.now t u _ here

pub run_tail-requires-clause-fits : goal.run_tail-requires-clause-fits
run_tail-requires-clause-fits g c =
    c.tails_fit.ensures c.args.profile.now c.args.self.now.world c.requires.world c.args.self.now.last c.hold_range.ensures c.requires.stands
    (c.has_room.ensures.0 c.if-not-has_room.false)

-- it was refused
pub returns-in_err-refusal-in-Err-clause-stops : goal.returns-in_err-refusal-in-Err-clause-stops
returns-in_err-refusal-in-Err-clause-stops g c =
    let exit = err_from_is_err_and c.from_residual.result c.from_residual.ensures.1 in
    at_fault _ c.from_residual.result exit.0 fault.Memory exit.1 (exit.2 ∙ c.in_err-refusal-in-Err.ensures.cause)
    (λ t u here. one_wants_memory c.args.profile.now c.args.turn c.args.self.now t u _ here)

pub returns-in-Err-clause-leads : goal.returns-in-Err-clause-leads
returns-in-Err-clause-leads g c t u here =
    let word = c.in_ok-refusal-in-Err.ensures.why in
    let same = c.in-Err.ensures.same (is_refused c.args.profile.now c.args.turn c.in-Err.fault c.in_ok-refusal-in-Err.field-0 word) in
    refuses_one c.args.profile.now c.args.turn c.args.self.now _ t u _ _ c.in_ok-refusal-in-Err.field-0 here
    (ap₂ (λ (w : WorldKept) d. record c.args.self.now { world = w; draws = d }) same.0 same.1) (c.in-Err.ensures.refused t.world here.stands) word

pub returns-in-Err-clause-may : goal.returns-in-Err-clause-may
returns-in-Err-clause-may g c =
    let same = c.in-Err.ensures.same (is_refused c.args.profile.now c.args.turn c.in-Err.fault c.in_ok-refusal-in-Err.field-0 c.in_ok-refusal-in-Err.ensures.why) in
    subst (λ (w : WorldKept). MayGoOn c.args.profile.now w) (sym same.0) c.requires

-- it was made, and a fault came behind it
pub returns-in_err-add-clause-stops : goal.returns-in_err-add-clause-stops
returns-in_err-add-clause-stops g c =
    let exit = err_from_is_err_and c.from_residual-in_err-add.result c.from_residual-in_err-add.ensures.1 in
    at_fault _ c.from_residual-in_err-add.result exit.0 fault.Memory exit.1 (exit.2 ∙ c.in_err-add.ensures.cause)
    (λ t u here. one_wants_memory c.args.profile.now c.args.turn c.args.self.now t u _ here)

pub returns-in_err-count_steps-clause-stops : goal.returns-in_err-count_steps-clause-stops
returns-in_err-count_steps-clause-stops g c =
    let exit = err_from_is_err_and c.from_residual-in_err-count_steps.result c.from_residual-in_err-count_steps.ensures.1 in
    at_fault _ c.from_residual-in_err-count_steps.result exit.0 fault.Memory exit.1 (exit.2 ∙ c.in_err-count_steps.ensures.cause)
    (λ t u here. one_wants_memory c.args.profile.now c.args.turn c.args.self.now t u _ here)

pub returns-in_err-write_steps-clause-stops : goal.returns-in_err-write_steps-clause-stops
returns-in_err-write_steps-clause-stops g c =
    let exit = err_from_is_err_and c.from_residual-in_err-write_steps.result c.from_residual-in_err-write_steps.ensures.1 in
    let f = c.in_err-write_steps.field-0.0 in
    at_fault _ c.from_residual-in_err-write_steps.result exit.0 f exit.1 exit.2
    (λ t u here.
    one_breaks f c.args.profile.now c.args.turn c.args.self.now c.run_tail.new.world c.run_tail.new.draws t u (g.K.Sink.pieces c.args.output.now)
    (g.K.Sink.pieces c.write_steps.new.output) c.in-Ok.end.turns c.in-Ok.end.bound c.in-Ok.end.steps.items here c.in-Ok.ensures.course
    (c.in-Ok.ensures.refused t.world here.stands)
    (λ s st. subst (λ ss. LeavesLines f (g.K.Sink.pieces c.args.output.now) (g.K.Sink.pieces c.write_steps.new.output) (lines_of s ss)) c.deref-2.ensures.value
    (c.in_err-write_steps.ensures.stops s (subst (λ (k : SenderKept). Stands k s) (sym (c.sender.ensures ∙ ap (λ (k : Tails). k.world.sender) c.in_ok-add.ensures.added)) st))))

pub returns-clause-may : goal.returns-clause-may
returns-clause-may g c =
    subst (λ (k : Tails). MayGoOn c.args.profile.now k.world) (sym c.in_ok-add.ensures.added)
    (may_go_on c.args.profile.now c.args.self.now.draws c.run_tail.new.draws c.args.self.now.last c.args.self.now.world c.run_tail.new.world c.in-Ok.end.turns
    c.in-Ok.end.bound c.in-Ok.end.steps.items c.requires c.in-Ok.ensures.profile c.in-Ok.ensures.ready c.in-Ok.ensures.course c.in-Ok.ensures.refused)

pub returns-clause-leads : goal.returns-clause-leads
returns-clause-leads g c t u here =
    let old = c.args.self.now in
    let added = c.in_ok-add.ensures.added in
    subst (λ (k : Tails). AreMade (record k { counts = c.count_steps.new.counts }) (refused_after c.args.profile.now c.args.turn (tail_once c.args.profile.now t)).0 u
    (g.K.Sink.pieces c.write_steps.new.output) × (None ≡ (refused_after c.args.profile.now c.args.turn (tail_once c.args.profile.now t)).1)) (sym added)
    (makes_one c.args.profile.now c.args.turn old
    (record old {
      last = old.last + c.in-Ok.end.turns * c.profile.inside.step;
      turns = old.turns + c.in-Ok.end.turns;
      bound = old.bound + c.in-Ok.end.bound;
      draws = c.run_tail.new.draws;
      world = c.run_tail.new.world;
      counts = c.count_steps.new.counts;
    }) t u (g.K.Sink.pieces c.args.output.now) (g.K.Sink.pieces c.write_steps.new.output)
    c.in-Ok.end.turns c.in-Ok.end.bound c.in-Ok.end.steps.items here c.in-Ok.ensures.course (c.in-Ok.ensures.refused t.world here.stands)
    (ap (λ (p : Settings). old.last + c.in-Ok.end.turns * p.step) c.profile.view_is) refl refl
    (c.in_ok-count_steps.ensures.counted ∙ ap (λ ss. fold with_step c.add.new.self.counts ss) c.deref.ensures.value
    ∙ ap (λ (k : Tails). fold with_step k.counts c.in-Ok.end.steps.items) added)
    (λ s st. c.in_ok-write_steps.ensures.written s (subst (λ (k : SenderKept). Stands k s) (sym (c.sender.ensures ∙ ap (λ (k : Tails). k.world.sender) added)) st)
    ∙ ap (λ ss. gained (g.K.Sink.pieces c.args.output.now) (lines_of s ss)) c.deref-2.ensures.value))
