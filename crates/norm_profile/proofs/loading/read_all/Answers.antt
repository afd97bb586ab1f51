use Rattle.std.proofs.Common.{◌≤◌, length, arith, sym, subst, refl, rules}
use Rattle.norm_profile.specs.Loading.{IsReading}
use Rattle.norm_profile.proofs.LoadLemmas.{reads_nothing, front_whole}
use Rattle.norm_profile.proofs.loading.read_all.Goals as goal

pub loop-files-init : goal.loop-files-init
loop-files-init g c = record {
  reading = subst (λ o. IsReading (g.D.Files.contents c.args.files.now) c.args.name.now c.args.len o) (sym c.new-octets.ensures.items)
      (reads_nothing (g.D.Files.contents c.args.files.now) c.args.name.now c.args.len);
  same = refl;
  count = refl;
  room = search rules;
}

pub returns-clause-content : goal.returns-clause-content
returns-clause-content g c =
    let no = c.loop-files-test.false in
    let count = c.len.ensures in
    let items = c.loop-files.octets.ok.0 in
    let most : c.args.len ≤ length c.loop-files.octets.items = omega (arith, no, count, items) in
    front_whole (g.D.Files.contents c.args.files.now) c.args.name.now c.loop-files.octets.items c.args.len c.requires most c.loop-files.invariant.reading
