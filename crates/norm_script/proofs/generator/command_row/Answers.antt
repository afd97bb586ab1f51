use Rattle.std.proofs.Common.{◌≡◌, ◌∙◌, ◌+◌, ◌/◌, ◌%◌, ◌∷◌, [], ◌++◌, ap, arith, codes, length, length-append, append_assoc}
use Rattle.hex.specs.Hex.{encode_lower}
use Rattle.norm_script.specs.Generated.{generated_octets}
use Rattle.norm_script.proofs.RowLemmas.{mark_row, data_row, octets_few}
use Rattle.norm_script.proofs.generator.command_row.Goals as goal

pub returns-then-i-eq9 : goal.returns-then-i-eq9
returns-then-i-eq9 c =
    let digit = (48 + (c.args.k / 100 + 1)) ∷ [] in
    c.put-then-i-eq9.ensures ∙ ap (λ r. r ++ codes " mark\n") (c.put.ensures ∙ ap (λ r. r ++ digit) c.new-row.ensures)
    ∙ mark_row c.args.n c.args.k c.requires c.if-i-eq9.true

pub put-requires-3 : goal.put-requires-3
put-requires-3 c =
    let digit = (48 + (c.args.k / 100 + 1)) ∷ [] in
    let octets = encode_lower (generated_octets c.args.n (c.args.k / 100 + 1) (c.args.k % 100)) in
    let begun = c.put-2.ensures ∙ ap (λ r. r ++ codes " data ") (c.put.ensures ∙ ap (λ r. r ++ digit) c.new-row.ensures) in
    let seven : length c.put-2.new.row.items ≡ 7 = ap length begun in
    let all : length c.put_octets.new.row.items ≡ length c.put-2.new.row.items + length octets =
    ap length c.put_octets.ensures ∙ length-append c.put-2.new.row.items octets in
    omega (arith, seven, all, octets_few c.args.n (c.args.k / 100 + 1) (c.args.k % 100))

pub returns : goal.returns
returns c =
    let digit = (48 + (c.args.k / 100 + 1)) ∷ [] in
    let octets = encode_lower (generated_octets c.args.n (c.args.k / 100 + 1) (c.args.k % 100)) in
    let begun = c.put-2.ensures ∙ ap (λ r. r ++ codes " data ") (c.put.ensures ∙ ap (λ r. r ++ digit) c.new-row.ensures) in
    c.put-3.ensures ∙ ap (λ r. r ++ 10 ∷ []) (c.put_octets.ensures ∙ ap (λ r. r ++ octets) begun)
    ∙ append_assoc (digit ++ codes " data ") octets (10 ∷ []) ∙ data_row c.args.n c.args.k c.requires c.if-i-eq9.false
