use Rattle.std.proofs.Common.{◌<◌, length, rules, sym, ◌∙◌}
use Rattle.norm_ext.proofs.RequestLemmas.{cut_is}
use Rattle.norm_ext.proofs.requests.cut_first.Goals as goal

pub returns : goal.returns
returns c =
    let some : 0 < length c.args.list.now = search rules in
    rw (c.split_at-2.ensures.back, c.split_at.ensures.front, c.split_at.ensures.back, c.from.ensures, c.read_16.ensures) (cut_is c.args.list.now c.in_ok-form.form some c.requires (sym c.of.ensures ∙ c.in_ok-form.was))
