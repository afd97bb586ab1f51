-- An object with one symbol more.
use Rattle.std.proofs.Common.{◌≡◌, ℕ, zero, suc, ◌+◌, ◌-◌, ◌<◌, ◌≤◌, ◌⊎◌, inl, inr, List, [], ◌∷◌, ◌++◌, length, take, set, get_or, replicate, false, Option, Some, None, refl, sym, ap, ◌∙◌, subst, arith}
use Rattle.std.specs.Prelude.{◌≢◌, flat_map, is_some}
use Rattle.std.specs.List.{range_with_len}
use Rattle.std.proofs.lemmas.Bool.{cases_eq, cases_order}
use Rattle.std.proofs.lemmas.List.{length-append, get_or-set_same, get_or-set_other, take_at}
use Rattle.std.proofs.lemmas.List.Concat.{flat_map-cons}
use Rattle.fec_plan.specs.Partition.{Cut, blocks, sent_octets}
use Rattle.gf_field.specs.Element.{AreElements}
use Rattle.norm_order.specs.Symbols.{padded}
use Rattle.norm_receive_rules.specs.Holding.{Held}
use Rattle.rx_object.specs.BlockState.{held_at}
use Rattle.rx_object.specs.Places.{AreApart, free_places, has_id, with_one}
use Rattle.rx_object.specs.Rows.{block_ids, block_row, coded_symbol, with_coded, held_under, held_in}
use Rattle.rx_object.specs.RowsSound.{IsCoded}
use Rattle.rx_object.specs.ObjectSound.{IsBlock}
use Rattle.rx_object.proofs.FreePlaces.{length-padded}
use Rattle.rx_object.proofs.Listed.{by_ids, same_slots, under_same, coded_here, coded_there, with_one_here, with_one_there, block_same}
use Rattle.rx_object.proofs.Alone.{some_in}

-- ---- what is padded

padded_octets : (n : ℕ) (xs : List ℕ) → AreElements xs → AreElements (xs ++ replicate n 0)
padded_octets zero [] h = tt
padded_octets (suc n) [] h = (omega arith, padded_octets n [] tt)
padded_octets n (x ∷ xs) h = (h.0, padded_octets n xs h.1)

-- what is sent of a padded symbol is the symbol
pub sent_of : (c : Cut) (block q : ℕ) (payload : List ℕ) → length payload ≡ sent_octets c block q → take (sent_octets c block q) (padded c.e payload) ≡ payload
sent_of c block q payload long = take_at payload (replicate (c.e - length payload) 0) (sent_octets c block q) long

is_coded : (c : Cut) (block q : ℕ) (payload : List ℕ) → length payload ≡ sent_octets c block q → length payload ≤ c.e → AreElements payload → IsCoded c block q (padded c.e payload)
is_coded c block q payload long fits octets = record {
  long = length-padded c.e payload fits;
  octets = padded_octets (c.e - length payload) payload octets;
  zeros = ap (padded c.e) (sent_of c block q payload long);
}

-- ---- how many are held

slot_longer : (g h : ℕ → List Held) (s a n : ℕ) → a ≤ s → s < a + n → length (h s) ≡ length (g s) + 1 → ((m : ℕ) → m < a + n → m ≢ s → h m ≡ g m)
    → length (flat_map h (range_with_len a n)) ≡ length (flat_map g (range_with_len a n)) + 1
slot_longer g h s a zero le lt here there = absurd (omega arith)
slot_longer g h s a (suc n) le lt here there =
    ap length (flat_map-cons h a (range_with_len (a + 1) n))
    ∙ length-append (h a) (flat_map h (range_with_len (a + 1) n))
    ∙ go (cases_order a s) (λ below. slot_longer g h s (a + 1) n (omega arith) (omega arith) here (λ m less. there m (omega arith)))
    ∙ ap (λ n. n + 1) (sym (ap length (flat_map-cons g a (range_with_len (a + 1) n)) ∙ length-append (g a) (flat_map g (range_with_len (a + 1) n))))
  where
    go : (a ≡ s) ⊎ ((a < s) ⊎ (s < a)) → (a < s → length (flat_map h (range_with_len (a + 1) n)) ≡ length (flat_map g (range_with_len (a + 1) n)) + 1)
        → length (h a) + length (flat_map h (range_with_len (a + 1) n)) ≡ length (g a) + length (flat_map g (range_with_len (a + 1) n)) + 1
    go (inl e) more =
        let one : length (h a) ≡ length (g a) + 1 = ap (λ m. length (h m)) e ∙ here ∙ ap (λ m. length (g m) + 1) (sym e) in
        let rest : length (flat_map h (range_with_len (a + 1) n)) ≡ length (flat_map g (range_with_len (a + 1) n)) =
        ap length (same_slots g h (a + 1) n (λ m up under. there m (omega arith) (λ f. omega arith))) in
        omega (arith, one, rest)
    go (inr (inl below)) more =
        let one : length (h a) ≡ length (g a) = ap length (there a (omega arith) (λ f. omega arith)) in
        let rest = more below in
        omega (arith, one, rest)
    go (inr (inr above)) more = absurd (omega arith)

block_longer : (index : ℕ) (c : Cut) (block q : ℕ) (x : List ℕ) (f g : ℕ → ℕ → Option (List ℕ)) → q < 255 → f block q ≡ None
    → ((id : ℕ) → id < 255 → g block id ≡ with_one q x (f block) id) → length (held_in index c g block) ≡ length (held_in index c f block) + 1
block_longer index c block q x f g small new is =
    by_ids (λ ids. length (flat_map (held_under index c block (g block)) ids) ≡ length (flat_map (held_under index c block (f block)) ids) + 1)
    (λ n e. slot_longer (held_under index c block (f block)) (held_under index c block (g block)) q 0 n (omega arith) (omega (arith, e))
    (one (f block q) (g block q) new (is q small ∙ with_one_here q x (f block)))
    (λ m lt other. under_same index c block m (f block) (g block) (is m (omega (arith, e)) ∙ with_one_there q m x (f block) other)))
  where
    listed : Option (List ℕ) → List Held
    listed o = elim o as (λ _. List Held) [ Some octets ↦ held_at index block q (take (sent_octets c block q) octets) ∷ [] | None ↦ [] ]

    one : (o p : Option (List ℕ)) → o ≡ None → p ≡ Some x
        → length (elim p as (λ _. List Held) [ Some octets ↦ held_at index block q (take (sent_octets c block q) octets) ∷ [] | None ↦ [] ])
        ≡ length (elim o as (λ _. List Held) [ Some octets ↦ held_at index block q (take (sent_octets c block q) octets) ∷ [] | None ↦ [] ]) + 1
    one o p e f = ap (λ r. length (listed r)) f ∙ sym (ap (λ r. length (listed r) + 1) e)

-- ---- each block

-- a symbol whose id lies at no place is not there
pub none_there : (c : Cut) (ids octets : List ℕ) (block q : ℕ) → has_id q (block_ids c ids block) ≡ false → coded_symbol c ids octets block q ≡ None
none_there c ids octets block q new = go (coded_symbol c ids octets block q) (some_in c.e (block_ids c ids block) (block_row c octets block) q ∙ new)
  where
    go : (o : Option (List ℕ)) → is_some o ≡ false → o ≡ None
    go (Some x) e = absurd (cc e)
    go None e = refl

-- a symbol comes to a block that lacks it
pub record Comes (c : Cut) (block q : ℕ) (payload ids octets after_ids after_octets : List ℕ) : Type 0 where
  pub within : block < blocks c
  pub small : q < 255
  pub long : length payload ≡ sent_octets c block q
  pub fits : length payload ≤ c.e
  pub bytes : AreElements payload
  pub new : has_id q (block_ids c ids block) ≡ false
  pub symbols : (b id : ℕ) → b < blocks c → id < 255 → coded_symbol c after_ids after_octets b id ≡ with_coded block q (padded c.e payload) (coded_symbol c ids octets) b id
  pub others : (b : ℕ) → b ≢ block → block_ids c after_ids b ≡ block_ids c ids b
  pub lacks : free_places (block_ids c ids block) ≡ free_places (block_ids c after_ids block) + 1
  pub apart : AreApart (block_ids c after_ids block)

pub each_then : (index : ℕ) (c : Cut) (block q : ℕ) (payload ids octets counts after_ids after_octets : List ℕ) → length counts ≡ blocks c
    → Comes c block q payload ids octets after_ids after_octets → ((b : ℕ) → b < blocks c → IsBlock index c ids octets counts b)
    → (b : ℕ) → b < blocks c → IsBlock index c after_ids after_octets (set counts block (get_or counts block 0 + 1)) b
each_then index c block q payload ids octets counts after_ids after_octets counted comes each b lt = go (cases_eq b block)
  where
    count : get_or (set counts block (get_or counts block 0 + 1)) block 0 ≡ get_or counts block 0 + 1
    count = get_or-set_same counts block (get_or counts block 0 + 1) 0 (let within = comes.within in omega (arith, within, counted))

    coded_then : (id : ℕ) → id < 255 → (x : List ℕ) → coded_symbol c after_ids after_octets block id ≡ Some x → IsCoded c block id x
    coded_then id small x there = by_id (cases_eq id q)
      where
        is : coded_symbol c after_ids after_octets block id ≡ with_one q (padded c.e payload) (coded_symbol c ids octets block) id
        is = comes.symbols block id comes.within small ∙ coded_here block q id (padded c.e payload) (coded_symbol c ids octets)

        some_same : {u v : List ℕ} → ◌≡◌ {A = Option (List ℕ)} (Some u) (Some v) → u ≡ v
        some_same e = cc e

        by_id : (id ≡ q) ⊎ (id ≢ q) → IsCoded c block id x
        by_id (inl same) =
            subst (λ n. IsCoded c block n x) (sym same)
            (subst (IsCoded c block q)
            (some_same (sym (ap (with_one q (padded c.e payload) (coded_symbol c ids octets block)) same ∙ with_one_here q (padded c.e payload) (coded_symbol c ids octets block)) ∙ sym is ∙ there))
            (is_coded c block q payload comes.long comes.fits comes.bytes))
        by_id (inr other) =
            let old : IsBlock index c ids octets counts block = each block comes.within in
            old.coded id small x (sym (with_one_there q id (padded c.e payload) (coded_symbol c ids octets block) other) ∙ sym is ∙ there)

    here : IsBlock index c after_ids after_octets (set counts block (get_or counts block 0 + 1)) block
    here =
        let old : IsBlock index c ids octets counts block = each block comes.within in
        record {
          apart = comes.apart;
          count = (let lacks = comes.lacks in let sum = old.count in let more = count in omega (arith, lacks, sum, more));
          held =
              block_longer index c block q (padded c.e payload) (coded_symbol c ids octets) (coded_symbol c after_ids after_octets) comes.small (none_there c ids octets block q comes.new)
              (λ id small. comes.symbols block id comes.within small ∙ coded_here block q id (padded c.e payload) (coded_symbol c ids octets))
              ∙ ap (λ n. n + 1) old.held ∙ sym count;
          coded = coded_then;
        }

    go : (b ≡ block) ⊎ (b ≢ block) → IsBlock index c after_ids after_octets (set counts block (get_or counts block 0 + 1)) b
    go (inl same) = subst (IsBlock index c after_ids after_octets (set counts block (get_or counts block 0 + 1))) (sym same) here
    go (inr other) =
        let old : IsBlock index c ids octets counts b = each b lt in
        let still = get_or-set_other counts block b (get_or counts block 0 + 1) 0 other in
        record {
          apart = subst AreApart (sym (comes.others b other)) old.apart;
          count = (let sum = old.count in let places = ap free_places (comes.others b other) in omega (arith, still, sum, places));
          held =
              ap length (block_same index c b (coded_symbol c ids octets) (coded_symbol c after_ids after_octets)
              (λ id small. comes.symbols b id lt small ∙ coded_there block q b id (padded c.e payload) (coded_symbol c ids octets) other))
              ∙ old.held ∙ sym still;
          coded = λ id small x there.
              old.coded id small x (sym (coded_there block q b id (padded c.e payload) (coded_symbol c ids octets) other) ∙ sym (comes.symbols b id lt small) ∙ there);
        }
