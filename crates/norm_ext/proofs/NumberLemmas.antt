-- Numbers and names in octets: what is read is what was spelled, and what is spelled is read again.
use Rattle.std.proofs.Common.{◌≡◌, ℕ, suc, ◌+◌, ◌*◌, ◌/◌, ◌%◌, ◌<◌, List, [], ◌∷◌, ◌++◌, length, refl, ap, ◌∙◌, arith}
use Rattle.std.specs.List.{flat_map, AllByRecursion}
use Rattle.byteorder.specs.Endian.{big_bytes}
use Rattle.fec_plan.specs.Payload.{Name, name_octets, IsName}
use Rattle.norm_ext.specs.Numbers.{number, name_at}
use Rattle.norm_ext.specs.Lists.{nodes_of, objects_of}
use Rattle.norm_base.specs.Octets.{AreOctets}

-- ---- two octets, and four

pub spelled_2 : (a b : ℕ) (rest : List ℕ) → a < 256 → b < 256 → big_bytes 2 (number 2 0 (a ∷ b ∷ rest)) ≡ a ∷ b ∷ []
spelled_2 a b rest ha hb =
    let high : (a * 256 + (b * 1 + 0)) / 256 % 256 ≡ a = omega arith in
    let low : (a * 256 + (b * 1 + 0)) % 256 ≡ b = omega arith in
    rw (high, low) refl

pub spelled_4 : (a b c d : ℕ) (rest : List ℕ) → a < 256 → b < 256 → c < 256 → d < 256 → big_bytes 4 (number 4 0 (a ∷ b ∷ c ∷ d ∷ rest)) ≡ a ∷ b ∷ c ∷ d ∷ []
spelled_4 a b c d rest ha hb hc hd =
    let n : ℕ = a * 16777216 + (b * 65536 + (c * 256 + (d * 1 + 0))) in
    let first : n / 16777216 % 256 ≡ a = omega arith in
    let second : n / 65536 % 256 ≡ b = omega arith in
    let third : n / 256 % 256 ≡ c = omega arith in
    let last : n % 256 ≡ d = omega arith in
    rw (first, second, third, last) refl

pub again_2 : (n : ℕ) (rest : List ℕ) → n < 65536 → number 2 0 (big_bytes 2 n ++ rest) ≡ n
again_2 n rest h = omega arith

pub again_4 : (n : ℕ) (rest : List ℕ) → n < 4294967296 → number 4 0 (big_bytes 4 n ++ rest) ≡ n
again_4 n rest h = omega arith

pub below_2 : (a b : ℕ) (rest : List ℕ) → a < 256 → b < 256 → number 2 0 (a ∷ b ∷ rest) < 65536
below_2 a b rest ha hb = omega arith

pub below_4 : (a b c d : ℕ) (rest : List ℕ) → a < 256 → b < 256 → c < 256 → d < 256 → number 4 0 (a ∷ b ∷ c ∷ d ∷ rest) < 4294967296
below_4 a b c d rest ha hb hc hd = omega arith

-- ---- names of symbols

split_256 : (n : ℕ) → 256 * (n / 256) + n % 256 ≡ n
split_256 n = omega arith

pub spelled_name : (a b c d : ℕ) (rest : List ℕ) → a < 256 → b < 256 → c < 256 → d < 256 → name_octets (name_at 0 (a ∷ b ∷ c ∷ d ∷ rest)) ≡ a ∷ b ∷ c ∷ d ∷ []
spelled_name a b c d rest ha hb hc hd =
    ap (big_bytes 4) (split_256 (number 4 0 (a ∷ b ∷ c ∷ d ∷ rest))) ∙ spelled_4 a b c d rest ha hb hc hd

pub name_fits : (a b c d : ℕ) (rest : List ℕ) → a < 256 → b < 256 → c < 256 → d < 256 → IsName (name_at 0 (a ∷ b ∷ c ∷ d ∷ rest))
name_fits a b c d rest ha hb hc hd =
    let below = below_4 a b c d rest ha hb hc hd in
    (omega arith, omega arith)

pub name_again : (name : Name) (rest : List ℕ) → IsName name → name_at 0 (name_octets name ++ rest) ≡ name
name_again name rest is =
    let number-is : number 4 0 (name_octets name ++ rest) ≡ 256 * name.block + name.symbol = again_4 (256 * name.block + name.symbol) rest (omega (arith, is.0, is.1)) in
    let block : (256 * name.block + name.symbol) / 256 ≡ name.block = omega (arith, is.1) in
    let symbol : (256 * name.block + name.symbol) % 256 ≡ name.symbol = omega (arith, is.1) in
    rw (number-is, block, symbol) refl

-- ---- lists of numbers

pub nodes_together : (xs : List ℕ) → AreOctets xs → length xs % 4 ≡ 0 → flat_map (big_bytes 4) (nodes_of xs) ≡ xs
nodes_together [] fits whole = refl
nodes_together (a ∷ []) fits whole = absurd (omega (arith, whole))
nodes_together (a ∷ b ∷ []) fits whole = absurd (omega (arith, whole))
nodes_together (a ∷ b ∷ c ∷ []) fits whole = absurd (omega (arith, whole))
nodes_together (a ∷ b ∷ c ∷ d ∷ rest) fits whole =
    ap (λ (t : List ℕ). t ++ flat_map (big_bytes 4) (nodes_of rest)) (spelled_4 a b c d [] (fits 0) (fits 1) (fits 2) (fits 3))
    ∙ ap (λ (t : List ℕ). a ∷ b ∷ c ∷ d ∷ t) (nodes_together rest (λ i. fits (suc (suc (suc (suc i))))) (omega (arith, whole)))

pub nodes_fit : (xs : List ℕ) → AreOctets xs → AllByRecursion (λ n. n < 4294967296) (nodes_of xs)
nodes_fit [] fits = tt
nodes_fit (a ∷ []) fits = tt
nodes_fit (a ∷ b ∷ []) fits = tt
nodes_fit (a ∷ b ∷ c ∷ []) fits = tt
nodes_fit (a ∷ b ∷ c ∷ d ∷ rest) fits =
    (below_4 a b c d [] (fits 0) (fits 1) (fits 2) (fits 3), nodes_fit rest (λ i. fits (suc (suc (suc (suc i))))))

pub nodes_again : (nodes : List ℕ) → AllByRecursion (λ n. n < 4294967296) nodes → nodes_of (flat_map (big_bytes 4) nodes) ≡ nodes
nodes_again [] all = refl
nodes_again (n ∷ nodes) all = rw (again_4 n [] all.0, nodes_again nodes all.1) refl

pub nodes_whole : (nodes : List ℕ) → length (flat_map (big_bytes 4) nodes) % 4 ≡ 0
nodes_whole [] = refl
nodes_whole (n ∷ nodes) = let rest = nodes_whole nodes in omega (arith, rest)

pub objects_together : (xs : List ℕ) → AreOctets xs → length xs % 2 ≡ 0 → flat_map (big_bytes 2) (objects_of xs) ≡ xs
objects_together [] fits whole = refl
objects_together (a ∷ []) fits whole = absurd (omega (arith, whole))
objects_together (a ∷ b ∷ rest) fits whole =
    ap (λ (t : List ℕ). t ++ flat_map (big_bytes 2) (objects_of rest)) (spelled_2 a b [] (fits 0) (fits 1))
    ∙ ap (λ (t : List ℕ). a ∷ b ∷ t) (objects_together rest (λ i. fits (suc (suc i))) (omega (arith, whole)))

pub objects_fit : (xs : List ℕ) → AreOctets xs → AllByRecursion (λ n. n < 65536) (objects_of xs)
objects_fit [] fits = tt
objects_fit (a ∷ []) fits = tt
objects_fit (a ∷ b ∷ rest) fits = (below_2 a b [] (fits 0) (fits 1), objects_fit rest (λ i. fits (suc (suc i))))

pub objects_again : (objects : List ℕ) → AllByRecursion (λ n. n < 65536) objects → objects_of (flat_map (big_bytes 2) objects) ≡ objects
objects_again [] all = refl
objects_again (n ∷ objects) all = rw (again_2 n [] all.0, objects_again objects all.1) refl

pub objects_whole : (objects : List ℕ) → length (flat_map (big_bytes 2) objects) % 2 ≡ 0
objects_whole [] = refl
objects_whole (n ∷ objects) = let rest = objects_whole objects in omega (arith, rest)
