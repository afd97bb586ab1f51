use Rattle.std.proofs.Common.{◌≡◌, ◌<◌, ℕ, List, [], ◌∷◌, ◌==◌, length, true, arith, nat_le, slice_index, zero, suc}
use Rattle.std.specs.Prelude.{◌&&◌, not}
use Rattle.std.specs.Str.{IsAscii, IsUtf8}
use Rattle.std.specs.List.{list_all}
use Rattle.std.proofs.lemmas.Str.{IsUtf8-from_ascii}
use Rattle.norm_script.specs.Words.{is_name, is_name_octet}
use Rattle.norm_script.proofs.WordLemmas.{both}

-- A name is ASCII text.

octet_ascii : (c : ℕ) → is_name_octet c ≡ true → c < 128
octet_ascii c e = grind arith

all_ascii : (name : List ℕ) → list_all is_name_octet name ≡ true → IsAscii name
all_ascii [] e i = omega arith
all_ascii (x ∷ xs) e zero = octet_ascii x (both (is_name_octet x) (list_all is_name_octet xs) e).0
all_ascii (x ∷ xs) e (suc i) = all_ascii xs (both (is_name_octet x) (list_all is_name_octet xs) e).1 i

pub name-utf8 : (name : List ℕ) → is_name name ≡ true → IsUtf8 name
name-utf8 name is =
    let a = both (nat_le 1 (length name) && nat_le (length name) 64 && list_all is_name_octet name) (not (slice_index name 0 == 46)) is in
    let b = both (nat_le 1 (length name) && nat_le (length name) 64) (list_all is_name_octet name) a.0 in
    IsUtf8-from_ascii name (all_ascii name b.1)
