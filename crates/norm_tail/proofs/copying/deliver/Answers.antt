use Rattle.std.proofs.Common.{◌≡◌, ◌+◌, ◌∙◌, ap, true, false, sym, subst, append-nil, rules}
use Rattle.norm_base.specs.Members.{is_receiver}
use Rattle.norm_base.specs.Settings.{Settings}
use Rattle.norm_safety.specs.Events.{Delivered, Silent}
use Rattle.norm_tail.specs.SoFar.{At, Stopped}
use Rattle.norm_tail.specs.Steps.{words_of}
use Rattle.norm_safety.specs.Tail.{Course, comes, copy_comes}
use Rattle.norm_tail.proofs.CourseLemmas.{came}
use Rattle.norm_tail.proofs.ExtendLemmas.{stopped_later, stopped_lost, copy_extends}
use Rattle.norm_tail.proofs.PassLemmas.{copy_to_sender, copy_to_receiver, drew, drawn_word}
use Rattle.norm_world.proofs.ReceiverEvents.{is_sender}
use Rattle.norm_world.proofs.WorldLemmas.{on_err}
use Rattle.norm_tail.proofs.copying.deliver.Goals as goal

pub returns-in_err-deliver-clause-stops : goal.returns-in_err-deliver-clause-stops
returns-in_err-deliver-clause-stops c =
    on_err c.from_residual.result
    (λ x d here.
    stopped_later x d (copy_comes x.p (words_of x.draws) c.args.now c.args.bytes.now d c.args.to) c.deliver.new.self
    (stopped_lost x d c.args.world.now c.deliver.new.self c.args.steps.now.items c.args.draws.now c.in_err-deliver.ensures.refused here)
    (copy_extends x.p (words_of x.draws) c.args.now c.args.bytes.now d c.args.to))

pub returns-in_err-tell_all-clause-stops : goal.returns-in_err-tell_all-clause-stops
returns-in_err-tell_all-clause-stops c =
    let no : is_receiver c.args.world.now.p c.args.to ≡ false = search rules in
    on_err c.from_residual-in_err-tell_all.result
    (λ x d here.
    let own = is_sender c.args.world.now.p c.args.to c.requires.member no ∙ ap (λ (p : Settings). p.sender) here.profile in
    subst (λ (e : Course). Stopped x e c.tell_all.new.world) (copy_to_sender x.p (words_of x.draws) c.args.now c.args.bytes.now d c.args.to own)
    (c.in_err-tell_all.ensures.stops c.args.draws.now x (comes x.p (Delivered c.args.to c.args.bytes.now c.args.now 0) d)
    (came x d (Delivered c.args.to c.args.bytes.now c.args.now 0) (λ answer. answer ≡ Silent) c.args.world.now c.deliver.new.self c.args.steps.now.items
    c.args.steps.now.items c.args.draws.now c.in_ok-deliver.ensures.profile c.in_ok-deliver.ensures.event (λ a fits. sym (append-nil c.args.steps.now.items)) here)))

pub returns-then-not-is_receiver-clause-goes : goal.returns-then-not-is_receiver-clause-goes
returns-then-not-is_receiver-clause-goes c x d here =
    let no : is_receiver c.args.world.now.p c.args.to ≡ false = search rules in
    let own = is_sender c.args.world.now.p c.args.to c.requires.member no ∙ ap (λ (p : Settings). p.sender) here.profile in
    subst (λ (e : Course). At x e c.tell_all.new.world c.tell_all.new.steps.items c.args.draws.now)
    (copy_to_sender x.p (words_of x.draws) c.args.now c.args.bytes.now d c.args.to own)
    (c.in_ok-tell_all.ensures.goes c.args.draws.now x (comes x.p (Delivered c.args.to c.args.bytes.now c.args.now 0) d)
    (came x d (Delivered c.args.to c.args.bytes.now c.args.now 0) (λ answer. answer ≡ Silent) c.args.world.now c.deliver.new.self c.args.steps.now.items
    c.args.steps.now.items c.args.draws.now c.in_ok-deliver.ensures.profile c.in_ok-deliver.ensures.event (λ a fits. sym (append-nil c.args.steps.now.items)) here))

pub returns-in_err-deliver-2-clause-stops : goal.returns-in_err-deliver-2-clause-stops
returns-in_err-deliver-2-clause-stops c =
    on_err c.from_residual-in_err-deliver-2.result
    (λ x d here.
    stopped_later x d (copy_comes x.p (words_of x.draws) c.args.now c.args.bytes.now d c.args.to) c.deliver-2.new.self
    (stopped_lost x d c.args.world.now c.deliver-2.new.self c.args.steps.now.items c.args.draws.now c.in_err-deliver-2.ensures.refused here)
    (copy_extends x.p (words_of x.draws) c.args.now c.args.bytes.now d c.args.to))

pub returns-clause-goes : goal.returns-clause-goes
returns-clause-goes c x d here =
    let yes : is_receiver c.args.world.now.p c.args.to ≡ true = search rules in
    let word = drawn_word x d c.args.world.now c.args.steps.now.items c.args.draws.now c.next_draw-draw.result c.next_draw-draw.ensures.word here in
    let drawn = drew x d c.args.world.now c.args.steps.now.items c.args.draws.now c.next_draw-draw.new.draws c.next_draw-draw.ensures.rest here in
    let e : Course = record d { used = d.used + 1 } in
    subst (λ (f : Course). At x f c.deliver-2.new.self c.args.steps.now.items c.next_draw-draw.new.draws)
    (ap (λ n. comes x.p (Delivered c.args.to c.args.bytes.now c.args.now n) e) word
    ∙ copy_to_receiver x.p (words_of x.draws) c.args.now c.args.bytes.now d c.args.to (subst (λ (p : Settings). is_receiver p c.args.to ≡ true) here.profile yes))
    (came x e (Delivered c.args.to c.args.bytes.now c.args.now c.next_draw-draw.result) (λ answer. answer ≡ Silent) c.args.world.now c.deliver-2.new.self
    c.args.steps.now.items c.args.steps.now.items c.next_draw-draw.new.draws c.in_ok-deliver-2.ensures.profile c.in_ok-deliver-2.ensures.event
    (λ a fits. sym (append-nil c.args.steps.now.items)) drawn)
