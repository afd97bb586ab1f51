use Rattle.std.proofs.Common.{◌<◌, [], length, arith}
use Rattle.std.proofs.lemmas.Grind.{common_steps}
use Rattle.norm_folder.proofs.CheckLemmas.{digest_at, digests_count}
use Rattle.norm_folder.proofs.checks.check_of.Goals as goal

pub bounds-digests-at : goal.bounds-digests-at
bounds-digests-at c = grind (arith, common_steps, digests_count c.args.ups.now c.args.digests.now c.requires.digests)

pub take-requires : goal.take-requires
take-requires c =
    let within : c.hand-item.result.at < length c.args.ups.now = grind (arith, common_steps) in
    digest_at c.args.ups.now c.args.digests.now c.hand-item.result.at c.index-ups-at.result [] c.requires.digests within
