-- The tests of hand-ups that are equal, and of lists that begin with others.
use Rattle.std.proofs.Common.{◌≡◌, ℕ, List, [], ◌∷◌, ◌++◌, Bool, true, false, Option, None, Some, refl, sym, ap, ◌∙◌}
use Rattle.std.specs.Prelude.{◌==◌, ◌&&◌, nat_eq}
use Rattle.std.specs.Option.{option_eq}
use Rattle.std.specs.Cmp.Lexicographic.{pointwise}
use Rattle.std.proofs.lemmas.Bool.Decides.{Decides-eqb}
use Rattle.norm_base.specs.declared.kinds.Kind.{Kind}
use Rattle.norm_base.specs.declared.kinds.Kind.TheVariants as kind
use Rattle.norm_order.specs.declared.up.Up.{Up}
use Rattle.norm_order.specs.declared.up.Up.TheVariants as up
use Rattle.std.specs.Bool.{Decides}
use Rattle.norm_safety.specs.Fronts.{IsFront, same_kind, same_up, is_front}

clash : false ≡ true → ⊥
clash e = cc

pub both : (a b : Bool) → (a && b) ≡ true → (a ≡ true) × (b ≡ true)
both true b e = (refl, e)
both false b e = absurd (clash e)

pub of_both : (a b : Bool) → a ≡ true → b ≡ true → (a && b) ≡ true
of_both true b e f = f
of_both false b e f = absurd (clash e)

same_number : (a b : ℕ) → (a == b) ≡ true → a ≡ b
same_number a b e = (Decides-eqb a b).0 e

itself : (a : ℕ) → (a == a) ≡ true
itself a = (Decides-eqb a a).1 refl

pub same_list : (xs ys : List ℕ) → pointwise nat_eq xs ys ≡ true → xs ≡ ys
same_list [] [] e = refl
same_list [] (y ∷ ys) e = absurd (clash e)
same_list (x ∷ xs) [] e = absurd (clash e)
same_list (x ∷ xs) (y ∷ ys) e =
    let two = both (x == y) (pointwise nat_eq xs ys) e in ap (λ a. a ∷ xs) (same_number x y two.0) ∙ ap (λ rest. y ∷ rest) (same_list xs ys two.1)

pub list_itself : (xs : List ℕ) → pointwise nat_eq xs xs ≡ true
list_itself [] = refl
list_itself (x ∷ xs) = of_both (x == x) (pointwise nat_eq xs xs) (itself x) (list_itself xs)

same_info : (a b : Option (List ℕ)) → option_eq (pointwise nat_eq) a b ≡ true → a ≡ b
same_info None None e = refl
same_info None (Some y) e = absurd (clash e)
same_info (Some x) None e = absurd (clash e)
same_info (Some x) (Some y) e = ap Some (same_list x y e)

info_itself : (a : Option (List ℕ)) → option_eq (pointwise nat_eq) a a ≡ true
info_itself None = refl
info_itself (Some x) = list_itself x

kinds_same : (a b : Kind) → same_kind a b ≡ true → a ≡ b
kinds_same kind.Data kind.Data e = refl
kinds_same kind.File kind.File e = refl
kinds_same _ _ e = absurd (clash e)

kind_itself : (a : Kind) → same_kind a a ≡ true
kind_itself kind.Data = refl
kind_itself kind.File = refl

pub ups_same : (x y : Up) → same_up x y ≡ true → x ≡ y
ups_same (up.Object i k info bytes) (up.Object j l other octets) e =
    let three = both (i == j && same_kind k l && option_eq (pointwise nat_eq) info other) (pointwise nat_eq bytes octets) e in
    let two = both (i == j && same_kind k l) (option_eq (pointwise nat_eq) info other) three.0 in
    let one = both (i == j) (same_kind k l) two.0 in
    ap (λ a. up.Object a k info bytes) (same_number i j one.0)
    ∙ ap (λ a. up.Object j a info bytes) (kinds_same k l one.1)
    ∙ ap (λ a. up.Object j l a bytes) (same_info info other two.1)
    ∙ ap (λ a. up.Object j l other a) (same_list bytes octets three.1)
ups_same (up.StreamOpen i) (up.StreamOpen j) e = ap up.StreamOpen (same_number i j e)
ups_same (up.StreamBytes i offset bytes) (up.StreamBytes j other octets) e =
    let two = both (i == j && offset == other) (pointwise nat_eq bytes octets) e in
    let one = both (i == j) (offset == other) two.0 in
    ap (λ a. up.StreamBytes a offset bytes) (same_number i j one.0)
    ∙ ap (λ a. up.StreamBytes j a bytes) (same_number offset other one.1)
    ∙ ap (λ a. up.StreamBytes j other a) (same_list bytes octets two.1)
ups_same (up.StreamEnd i) (up.StreamEnd j) e = ap up.StreamEnd (same_number i j e)
ups_same (up.Lost i) (up.Lost j) e = ap up.Lost (same_number i j e)
ups_same _ _ e = absurd (clash e)

pub up_itself : (x : Up) → same_up x x ≡ true
up_itself (up.Object i k info bytes) =
    of_both (i == i && same_kind k k && option_eq (pointwise nat_eq) info info) (pointwise nat_eq bytes bytes)
    (of_both (i == i && same_kind k k) (option_eq (pointwise nat_eq) info info) (of_both (i == i) (same_kind k k) (itself i) (kind_itself k)) (info_itself info))
    (list_itself bytes)
up_itself (up.StreamOpen i) = itself i
up_itself (up.StreamBytes i offset bytes) =
    of_both (i == i && offset == offset) (pointwise nat_eq bytes bytes) (of_both (i == i) (offset == offset) (itself i) (itself offset)) (list_itself bytes)
up_itself (up.StreamEnd i) = itself i
up_itself (up.Lost i) = itself i

is_front_of : (front whole : List Up) → is_front front whole ≡ true → IsFront front whole
unfolding is_front
is_front_of [] whole e = (whole, refl)
is_front_of (x ∷ front) [] e = absurd (clash e)
is_front_of (x ∷ front) (y ∷ whole) e = go (same_up x y) refl e (λ f. is_front_of front whole f)
  where
    go : (b : Bool) → same_up x y ≡ b → elim b [ true ↦ is_front front whole | false ↦ false ] ≡ true
        → (is_front front whole ≡ true → IsFront front whole) → IsFront (x ∷ front) (y ∷ whole)
    go true same e rest = let more = rest e in (
      more.0,
      ap (λ a. a ∷ whole) (sym (ups_same x y same)) ∙ ap (λ rest. x ∷ rest) more.1,
    )
    go false same e rest = absurd (clash e)

front_is : (front rest : List Up) → is_front front (front ++ rest) ≡ true
unfolding is_front
front_is [] rest = refl
front_is (x ∷ front) rest =
    ap (λ b. elim b [ true ↦ is_front front (front ++ rest) | false ↦ false ]) (up_itself x) ∙ front_is front rest

pub front_decides : (front whole : List Up) → Decides (is_front front whole) (IsFront front whole)
front_decides front whole = (
  λ e. is_front_of front whole e,
  λ h. ap (is_front front) h.1 ∙ front_is front h.0,
)
