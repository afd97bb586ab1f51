use Rattle.std.proofs.Common.{◌≡◌, ◌-◌, ◌*◌, ℕ, List, [], arith, ap, ◌∙◌, length, replicate}
use Rattle.std.specs.Prelude.{is_some, true}
use Rattle.std.proofs.lemmas.List.{length-replicate}
use Rattle.fec_plan.specs.Partition.{Cut, IsSound, blocks, all_symbols}
use Rattle.rx_object.specs.Rows.{end_of}
use Rattle.rx_object.proofs.Cuts.{last_ends, some_blocks_of, few_octets}
use Rattle.rx_object.proofs.MaskLemmas.{none_came}
use Rattle.rx_object.proofs.rows.Rows.new.Goals as goal

-- the places of all blocks
places_are : (c : Cut) (places n : ℕ) → IsSound c → is_some c.l ≡ true → n ≡ blocks c → places ≡ end_of c (n - 1) → places ≡ all_symbols c
places_are c places n sound object count is = is ∙ ap (λ m. end_of c (m - 1)) count ∙ last_ends c sound object (some_blocks_of c sound)

pub overflow_mul-places : goal.overflow_mul-places
overflow_mul-places c =
    let cut : Cut = c.args.plan.now in
    let all = places_are cut c.end_of-places.result c.blocks-last.result c.e.ensures.sound c.requires.object c.blocks-last.ensures.exact c.end_of-places.ensures in
    let few = few_octets cut c.e.ensures.sound c.requires.object c.requires.most in
    let same : c.end_of-places.result * c.from-size.result ≡ all_symbols cut * cut.e =
    ap (λ n. n * c.from-size.result) all ∙ ap (λ n. all_symbols cut * n) (c.from-size.ensures ∙ c.e.ensures.exact) in
    record { fits = omega (arith, same, few) }

pub returns-clause-free : goal.returns-clause-free
returns-clause-free c =
    let all = places_are c.args.plan.now c.end_of-places.result c.blocks-last.result c.e.ensures.sound c.requires.object c.blocks-last.ensures.exact c.end_of-places.ensures in
    c.in_ok-ids.ensures.items_if_clones_equal (λ y e. e) ∙ ap (λ n. replicate n 255) all

pub returns-clause-rows : goal.returns-clause-rows
returns-clause-rows c =
    let cut : Cut = c.args.plan.now in
    let all = places_are cut c.end_of-places.result c.blocks-last.result c.e.ensures.sound c.requires.object c.blocks-last.ensures.exact c.end_of-places.ensures in
    let wide : c.from-size.result ≡ cut.e = c.from-size.ensures ∙ c.e.ensures.exact in
    let same : c.end_of-places.result * c.from-size.result ≡ all_symbols cut * cut.e =
    ap (λ n. n * c.from-size.result) all ∙ ap (λ n. all_symbols cut * n) wide in
    record {
      sound = c.e.ensures.sound;
      object = c.requires.object;
      most = few_octets cut c.e.ensures.sound c.requires.object c.requires.most;
      octets = ap length (c.in_ok-octets.ensures.items_if_clones_equal (λ y e. e)) ∙ length-replicate {A = ℕ} (c.end_of-places.result * c.from-size.result) 0 ∙ same;
      ids = ap length (c.in_ok-ids.ensures.items_if_clones_equal (λ y e. e)) ∙ length-replicate {A = ℕ} c.end_of-places.result 255 ∙ all;
      masks = ap length c.in_ok-masks.ensures ∙ length-replicate {A = List ℕ} c.blocks-2.result [] ∙ c.blocks-2.ensures.exact;
      came = none_came cut c.in_ok-ids.ids.items c.in_ok-masks.masks.items c.blocks-2.result c.e.ensures.sound c.requires.object
          (c.in_ok-ids.ensures.items_if_clones_equal (λ y e. e) ∙ ap (λ n. replicate n 255) all) c.in_ok-masks.ensures;
    }
