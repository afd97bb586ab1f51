use Rattle.std.proofs.Common.{◌<◌, length, rules}
use Rattle.norm_ext.proofs.ExtensionLemmas.{cut_parts}
use Rattle.norm_ext.proofs.extensions.cut_first.Goals as goal

pub returns : goal.returns
returns c =
    let some : 0 < length c.args.words.now = search rules in
    rw (c.split_at-2.ensures.back, c.split_at.ensures.front, c.split_at.ensures.back, c.length_of.ensures, c.content_at.ensures) (cut_parts c.args.words.now some c.requires)
