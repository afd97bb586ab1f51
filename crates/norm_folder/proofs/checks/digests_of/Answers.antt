use Rattle.norm_folder.proofs.CheckLemmas.{digests_all}
use Rattle.norm_folder.proofs.checks.digests_of.Goals as goal

pub returns : goal.returns
returns g c =
    digests_all c.args.ups.now c.put_digests.new.digests _ c.in_ok-digests.digests.len c.in_ok-digests.ensures.len c.put_digests.ensures.count
    c.put_digests.ensures.each
