use Rattle.std.proofs.Common.{List, ◌∷◌, [], ◌++◌, sym, ap, ◌∙◌, append_assoc}
use Rattle.norm_order.specs.declared.up.Up.{Up}
use Rattle.norm_order.specs.declared.up.Up.TheVariants as up
use Rattle.rx_hold.specs.Handing.{told_ups}
use Rattle.rx_hold.proofs.handing_up.tell.Goals as goal

pub returns-then-opens-clause-items : goal.returns-then-opens-clause-items
returns-then-opens-clause-items c =
    c.push-then-opens.ensures.items
    ∙ ap (λ (us : List Up). us ++ c.args.up ∷ []) c.push.ensures.items
    ∙ append_assoc c.args.ups.now.items (up.StreamOpen c.args.index ∷ []) (c.args.up ∷ [])
    ∙ ap (λ b. c.args.ups.now.items ++ told_ups b c.args.index c.args.up) (sym c.if-opens.true)

pub returns-clause-items : goal.returns-clause-items
returns-clause-items c = c.push-2.ensures.items ∙ ap (λ b. c.args.ups.now.items ++ told_ups b c.args.index c.args.up) (sym c.if-opens.false)
