use Rattle.std.proofs.Common.{◌≡◌, ◌≤◌, ◌<◌, length, rules}
use Rattle.norm_memory.specs.Filing.{place_of, named}
use Rattle.norm_memory.proofs.FilingLemmas.{named-set_at, named-append_at}
use Rattle.norm_memory.proofs.mem_files.put_in.Goals as goal

pub returns-then-place-len-clause-ok : goal.returns-then-place-len-clause-ok
returns-then-place-len-clause-ok c =
    let found : c.place_of-place.result ≡ place_of (named c.args.files.now.items) c.args.name.now = search rules in
    let inside : c.place_of-place.result < length c.args.files.now.items = search rules in
    named-set_at c.args.files.now.items c.args.name.now c.args.bytes.now c.index_mut.result.now c.in_ok-octets.octets c.place_of-place.result
    found inside c.index_mut.ensures.value (search rules)

pub returns-clause-ok : goal.returns-clause-ok
returns-clause-ok c =
    let found : c.place_of-place.result ≡ place_of (named c.args.files.now.items) c.args.name.now = search rules in
    let past : length c.args.files.now.items ≤ c.place_of-place.result = search rules in
    rw c.in_ok-push.ensures.items (named-append_at c.args.files.now.items c.args.name.now c.args.bytes.now c.in_ok-name.name c.in_ok-octets.octets c.place_of-place.result
    found past (search rules) (search rules))
