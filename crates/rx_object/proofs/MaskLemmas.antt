-- The masks of an object's blocks, as a symbol joins one.
use Rattle.std.proofs.Common.{◌≡◌, ℕ, zero, suc, ◌<◌, ◌⊎◌, inl, inr, List, [], length, set, get_or, replicate, false, true, Option, refl, sym, ap, ◌∙◌}
use Rattle.std.specs.Prelude.{◌≢◌, is_some, nat_lt}
use Rattle.std.proofs.lemmas.Bool.{cases_eq}
use Rattle.std.proofs.lemmas.List.{get_or-set_same, get_or-set_other}
use Rattle.fec_plan.specs.Partition.{Cut, IsSound, blocks, source_symbols, all_symbols}
use Rattle.norm_order.specs.Sets.{is_member, with_member}
use Rattle.norm_order.proofs.SetLemmas.{numbers, others_in, self_in}
use Rattle.rx_object.specs.Places.{IsMaskOf, has_id, with_one}
use Rattle.rx_object.specs.Rows.{block_ids, block_row, coded_symbol, with_coded}
use Rattle.rx_object.proofs.Alone.{some_in}
use Rattle.rx_object.proofs.Listed.{coded_here, coded_there, with_one_here, with_one_there}
use Rattle.rx_object.proofs.NewLemmas.{frees, free_ids, none_has}

-- ---- empty ones

empty_at : (n b id : ℕ) → is_member nat_lt id (get_or (replicate {A = List ℕ} n []) b []) ≡ false
unfolding is_member
empty_at zero b id = refl
empty_at (suc n) zero id = refl
empty_at (suc n) (suc b) id = empty_at n b id

pub none_came : (c : Cut) (ids : List ℕ) (masks : List (List ℕ)) (n : ℕ) → IsSound c → is_some c.l ≡ true → ids ≡ frees (all_symbols c) → masks ≡ replicate n []
    → (b : ℕ) → b < blocks c → IsMaskOf (get_or masks b []) (block_ids c ids b)
none_came c ids masks n sound object free none b lt id small =
    ap (λ ms. is_member nat_lt id (get_or ms b [])) none
    ∙ empty_at n b id
    ∙ sym (ap (λ xs. has_id id (block_ids c xs b)) free ∙ ap (has_id id) (free_ids c b sound object lt) ∙ none_has id (source_symbols c b) small)

-- ---- with one id more

pub masks_then : (c : Cut) (block q : ℕ) (x ids octets after_ids after_octets : List ℕ) (masks : List (List ℕ)) → block < length masks → block < blocks c
    → ((b id : ℕ) → b < blocks c → id < 255 → coded_symbol c after_ids after_octets b id ≡ with_coded block q x (coded_symbol c ids octets) b id)
    → ((b : ℕ) → b < blocks c → IsMaskOf (get_or masks b []) (block_ids c ids b))
    → (b : ℕ) → b < blocks c → IsMaskOf (get_or (set masks block (with_member nat_lt q (get_or masks block []))) b []) (block_ids c after_ids b)
masks_then c block q x ids octets after_ids after_octets masks there within symbols came b lt id small = go (cases_eq b block)
  where
    next : List (List ℕ)
    next = set masks block (with_member nat_lt q (get_or masks block []))

    has : (n : ℕ) → n < blocks c → has_id id (block_ids c after_ids n) ≡ is_some (with_coded block q x (coded_symbol c ids octets) n id)
    has n less = sym (some_in c.e (block_ids c after_ids n) (block_row c after_octets n) id) ∙ ap (λ (o : Option (List ℕ)). is_some o) (symbols n id less small)

    had : (n : ℕ) → n < blocks c → is_member nat_lt id (get_or masks n []) ≡ is_some (coded_symbol c ids octets n id)
    had n less = came n less id small ∙ sym (some_in c.e (block_ids c ids n) (block_row c octets n) id)

    here : (id ≡ q) ⊎ (id ≢ q) → is_member nat_lt id (with_member nat_lt q (get_or masks block [])) ≡ has_id id (block_ids c after_ids block)
    here (inl same) =
        ap (λ n. is_member nat_lt n (with_member nat_lt q (get_or masks block []))) same
        ∙ self_in nat_lt q (get_or masks block []) numbers
        ∙ sym (ap (λ (o : Option (List ℕ)). is_some o) (coded_here block q id x (coded_symbol c ids octets)
        ∙ ap (λ n. with_one q x (coded_symbol c ids octets block) n) same ∙ with_one_here q x (coded_symbol c ids octets block)))
        ∙ sym (has block within)
    here (inr other) =
        others_in nat_lt id q (get_or masks block []) numbers other
        ∙ had block within
        ∙ sym (ap (λ (o : Option (List ℕ)). is_some o) (coded_here block q id x (coded_symbol c ids octets)
        ∙ with_one_there q id x (coded_symbol c ids octets block) other))
        ∙ sym (has block within)

    go : (b ≡ block) ⊎ (b ≢ block) → is_member nat_lt id (get_or next b []) ≡ has_id id (block_ids c after_ids b)
    go (inl same) =
        ap (λ n. is_member nat_lt id (get_or next n [])) same
        ∙ ap (λ m. is_member nat_lt id m) (get_or-set_same masks block (with_member nat_lt q (get_or masks block [])) [] there)
        ∙ here (cases_eq id q)
        ∙ ap (λ n. has_id id (block_ids c after_ids n)) (sym same)
    go (inr other) =
        ap (λ m. is_member nat_lt id m) (get_or-set_other masks block b (with_member nat_lt q (get_or masks block [])) [] other)
        ∙ had b lt
        ∙ sym (ap (λ (o : Option (List ℕ)). is_some o) (coded_there block q b id x (coded_symbol c ids octets) other))
        ∙ sym (has b lt)
