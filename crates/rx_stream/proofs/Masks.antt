-- A block's mask: of a block of which nothing came, and as its ids gain one.
use Rattle.std.proofs.Common.{◌≡◌, ℕ, zero, suc, ◌≤◌, List, [], ◌∷◌, Bool, true, false, refl, sym, ap, ◌∙◌, subst, arith}
use Rattle.std.specs.Prelude.{◌==◌, ◌||◌, insert, nat_lt}
use Rattle.std.specs.List.{list_any}
use Rattle.std.proofs.lemmas.Bool.Decides.{nat_tests}
use Rattle.norm_base.specs.Sizes.{symbol_room}
use Rattle.norm_order.specs.Sets.{with_member, is_member}
use Rattle.symbol_mask.proofs.Ranges.{no_member}
use Rattle.symbol_mask.proofs.Puts.{with_puts}
use Rattle.rx_stream.specs.BlockSound.{BlockKept, IsMaskOf}

turned : (x y : ℕ) → (x == y) ≡ (y == x)
turned x y = grind (arith, nat_tests)

swapped : (a b : Bool) → (a || b) ≡ (b || a)
swapped true true = refl
swapped true false = refl
swapped false true = refl
swapped false false = refl

together : (a b c : Bool) → (a || (b || c)) ≡ ((a || b) || c)
together true b c = refl
together false b c = refl

any_more : (id : ℕ) (ids : List ℕ) (place new : ℕ)
    → list_any (λ (x : ℕ). x == id) (insert ids place new) ≡ (list_any (λ (x : ℕ). x == id) ids || id == new)
any_more id [] zero new = swapped (new == id) false ∙ turned new id
any_more id [] (suc place) new = swapped (new == id) false ∙ turned new id
any_more id (y ∷ ids) zero new = swapped (new == id) _ ∙ ap (λ b. list_any (λ (x : ℕ). x == id) (y ∷ ids) || b) (turned new id)
any_more id (y ∷ ids) (suc place) new = ap (λ b. (y == id) || b) (any_more id ids place new) ∙ together (y == id) (list_any (λ (x : ℕ). x == id) ids) (id == new)

pub kept_empty : (k size : ℕ) (ids members : List ℕ) (rows : List (List ℕ)) → 1 ≤ k → k ≤ 255 → 8 ≤ size → size ≤ symbol_room
    → ids ≡ [] → members ≡ [] → rows ≡ [] → BlockKept k size ids members rows
kept_empty k size ids members rows some most least room no_ids none no_rows =
    subst (λ xs. BlockKept k size xs members rows) (sym no_ids)
    (subst (λ (ys : List (List ℕ)). BlockKept k size [] members ys) (sym no_rows)
    (record {
      sound = record {
        some = some;
        most = most;
        least = least;
        room = room;
        count = refl;
        few = omega arith;
        rising = tt;
        below = tt;
        sizes = tt;
        octets = tt;
        whole = tt;
      };
      mask = λ id. ap (is_member nat_lt id) none ∙ no_member id;
    }))

pub mask_more : (mask after ids now : List ℕ) (place new : ℕ) → IsMaskOf mask ids → after ≡ with_member nat_lt new mask → now ≡ insert ids place new → IsMaskOf after now
mask_more mask after ids now place new is set put id =
    ap (is_member nat_lt id) set ∙ with_puts id new mask ∙ ap (λ b. b || id == new) (is id)
    ∙ sym (any_more id ids place new) ∙ sym (ap (list_any (λ (x : ℕ). x == id)) put)
