-- Repair requests as pieces.
use Rattle.std.proofs.Common.{◌≡◌, ℕ, zero, suc, ◌+◌, ◌*◌, ◌%◌, ◌<◌, ◌≤◌, cond, ltb, eqb, ◌||◌, ◌⊎◌, Bool, true, false, not, List, [], ◌∷◌, ◌++◌, length, get_or, take, drop, Option, Some, None, Ok, refl, sym, ap, ◌∙◌, arith, inl, inr, length-append}
use Rattle.std.specs.Prelude.{slice_get}
use Rattle.std.specs.List.{flat_map, AllByRecursion}
use Rattle.std.proofs.lemmas.Bool.{ltb-false, le-ltb, eqb-true}
use Rattle.std.proofs.lemmas.List.{take_at, drop-take, length-take}
use Rattle.byteorder.specs.Endian.{big_bytes}
use Rattle.fec_plan.specs.Payload.{Name, name_octets}
use Rattle.norm_ext.specs.Numbers.{number, octet, name_at, form_of, form_number}
use Rattle.norm_ext.specs.Requests.{RequestItem, Request, item_octets, request_octets, items_of, items_length, form_at, form_or_any, first_request, request_length, requests_of, item_size, items_checked, request_length_checked, request_checked, request_checked_as, requests_checked, IsRequestItem, IsRequest, IsRequests, items_named}
use Rattle.norm_ext.specs.declared.kinds.Form.{Form}
use Rattle.norm_ext.specs.declared.kinds.Form.TheVariants as forms
use Rattle.norm_ext.specs.declared.head.Item.{Item}
use Rattle.norm_ext.specs.declared.refusal.Refusal.{Refusal}
use Rattle.norm_ext.specs.declared.refusal.Refusal.TheVariants.{RequestLength, ItemFec}
use Rattle.norm_ext.specs.Steps.{refused_if}
use Rattle.norm_ext.specs.Pieces.{checked_then, checked_behind}
use Rattle.norm_ext.proofs.NumberLemmas.{spelled_2, spelled_name, again_2, name_again, name_fits, below_2}
use Rattle.norm_base.specs.Octets.{AreOctets}
use Rattle.norm_ext.proofs.PieceLemmas.{octets-take, IsKind, both_checked, first_checked, unroll, ok_first, ok_rest, ok_anywhere, unroll_checked}

-- ---- items

-- one more item at the front
pub items_more : (at : ℕ) (xs : List ℕ) → 8 ≤ length xs
    → items_checked at xs ≡ checked_then (refused_if (not (eqb (get_or xs 0 0) 5)) (ItemFec at (get_or xs 0 0))) (items_checked (at + 8) (drop 8 xs))
items_more at (a ∷ b ∷ c ∷ d ∷ e ∷ f ∷ g ∷ h ∷ rest) long = refl
items_more at _ long = absurd (omega (arith, long))

pub items_end : (at : ℕ) (xs : List ℕ) → length xs < 8 → items_checked at xs ≡ Ok tt
items_end at (a ∷ b ∷ c ∷ d ∷ e ∷ f ∷ g ∷ h ∷ rest) short = absurd (omega (arith, short))
items_end at _ short = refl

-- the item with a number
pub item_is : (i : ℕ) (xs : List ℕ) → 8 * i + 8 ≤ length xs
    → slice_get (items_named xs) i ≡ Some (record { object = number 2 (8 * i + 2) xs; id = name_at (8 * i + 4) xs })
item_is zero (a ∷ b ∷ c ∷ d ∷ e ∷ f ∷ g ∷ h ∷ rest) long = refl
item_is (suc i) (a ∷ b ∷ c ∷ d ∷ e ∷ f ∷ g ∷ h ∷ rest) long =
    let xs : List ℕ = a ∷ b ∷ c ∷ d ∷ e ∷ f ∷ g ∷ h ∷ rest in
    let two : 8 * suc i + 2 ≡ suc (suc (suc (suc (suc (suc (suc (suc (8 * i + 2)))))))) = omega arith in
    let four : 8 * suc i + 4 ≡ suc (suc (suc (suc (suc (suc (suc (suc (8 * i + 4)))))))) = omega arith in
    let object : number 2 (8 * i + 2) rest ≡ number 2 (8 * suc i + 2) xs = ap (λ (n : ℕ). number 2 n xs) (sym two) in
    let id : name_at (8 * i + 4) rest ≡ name_at (8 * suc i + 4) xs = ap (λ (n : ℕ). name_at n xs) (sym four) in
    item_is i rest (omega (arith, long))
    ∙ ap (λ (n : ℕ). Some (let x : Item = record { object = n; id = name_at (8 * i + 4) rest } in x)) object
    ∙ ap (λ (n : Name). Some (let x : Item = record { object = number 2 (8 * suc i + 2) xs; id = n } in x)) id
item_is i _ long = absurd (omega (arith, long))

-- a test that refused nothing
pub not_refused : (b : Bool) (r : Refusal) → refused_if b r ≡ Ok tt → b ≡ false
not_refused true r e = absurd cc
not_refused false r e = refl

pub so_not : (b : Bool) → not b ≡ false → b ≡ true
so_not true e = refl
so_not false e = absurd cc

pub record ItemsOf (xs : List ℕ) : Type 0 where
  pub together : flat_map item_octets (items_of xs) ≡ xs
  pub many : 8 * length (items_of xs) ≡ length xs
  pub fit : AllByRecursion IsRequestItem (items_of xs)

pub items_spelled : (at : ℕ) (xs : List ℕ) → AreOctets xs → length xs % 8 ≡ 0 → items_checked at xs ≡ Ok tt → ItemsOf xs
items_spelled at [] fits whole ok = record { together = refl; many = refl; fit = tt }
items_spelled at (a ∷ b ∷ c ∷ d ∷ e ∷ f ∷ g ∷ h ∷ rest) fits whole ok =
    let both = both_checked (refused_if (not (eqb a 5)) (ItemFec at a)) (items_checked (at + 8) rest) ok in
    let five : a ≡ 5 = eqb-true a 5 (so_not (eqb a 5) (not_refused (not (eqb a 5)) (ItemFec at a) both.0)) in
    let others = items_spelled (at + 8) rest (λ i. fits (suc (suc (suc (suc (suc (suc (suc (suc i))))))))) (omega (arith, whole)) both.1 in
    record {
      together =
          ap (λ (t : List ℕ). (5 ∷ b ∷ t ++ name_octets (name_at 0 (e ∷ f ∷ g ∷ h ∷ []))) ++ flat_map item_octets (items_of rest)) (spelled_2 c d [] (fits 2) (fits 3))
          ∙ ap (λ (t : List ℕ). (5 ∷ b ∷ c ∷ d ∷ t) ++ flat_map item_octets (items_of rest)) (spelled_name e f g h [] (fits 4) (fits 5) (fits 6) (fits 7))
          ∙ ap (λ (t : List ℕ). 5 ∷ b ∷ c ∷ d ∷ e ∷ f ∷ g ∷ h ∷ t) others.together
          ∙ ap (λ (n : ℕ). n ∷ b ∷ c ∷ d ∷ e ∷ f ∷ g ∷ h ∷ rest) (sym five);
      many = omega (arith, others.many);
      fit = (
        record { reserved = fits 1; item = record { object = below_2 c d [] (fits 2) (fits 3); id = name_fits e f g h [] (fits 4) (fits 5) (fits 6) (fits 7) } },
        others.fit,
      );
    }
items_spelled at _ fits whole ok = absurd (omega (arith, whole))

pub items_again : (items : List RequestItem) → AllByRecursion IsRequestItem items → items_of (flat_map item_octets items) ≡ items
items_again [] all = refl
items_again (x ∷ items) all =
    rw (again_2 x.item.object [] all.0.item.object, name_again x.item.id [] all.0.item.id, items_again items all.1) refl

pub items_pass : (at : ℕ) (items : List RequestItem) → items_checked at (flat_map item_octets items) ≡ Ok tt
items_pass at [] = refl
items_pass at (x ∷ items) = items_pass (at + 8) items

pub items_size : (items : List RequestItem) → length (flat_map item_octets items) ≡ 8 * length items
items_size [] = refl
items_size (x ∷ items) = let rest = items_size items in omega (arith, rest)

pub items_anywhere : (at other : ℕ) (xs : List ℕ) → items_checked at xs ≡ Ok tt → items_checked other xs ≡ Ok tt
items_anywhere at other (a ∷ b ∷ c ∷ d ∷ e ∷ f ∷ g ∷ h ∷ rest) ok =
    let both = both_checked (refused_if (not (eqb a 5)) (ItemFec at a)) (items_checked (at + 8) rest) ok in
    let tested = not_refused (not (eqb a 5)) (ItemFec at a) both.0 in
    rw tested (items_anywhere (at + 8) (other + 8) rest both.1)
items_anywhere at other _ ok = refl

-- ---- a request

-- which of two a test chose
pub chosen : {A : Type 0} (b : Bool) (x y z : A) → cond b x y ≡ z → ((b ≡ true) × (x ≡ z)) ⊎ ((b ≡ false) × (y ≡ z))
chosen true x y z e = inl (refl, e)
chosen false x y z e = inr (refl, e)

pub form_is : (n : ℕ) (form : Form) → form_of n ≡ Some form → form_number form ≡ n
form_is n form e =
    elim (chosen (eqb n 1) (Some forms.Items) _ (Some form) e) [
      | inl w ↦ (let f : forms.Items ≡ form = cc in ap form_number (sym f)) ∙ sym (eqb-true n 1 w.0)
      | inr v ↦ elim (chosen (eqb n 2) (Some forms.Ranges) _ (Some form) v.1) [
        | inl w ↦ (let f : forms.Ranges ≡ form = cc in ap form_number (sym f)) ∙ sym (eqb-true n 2 w.0)
        | inr u ↦ elim (chosen (eqb n 3) (Some forms.Erasures) _ (Some form) u.1) [
          | inl w ↦ (let f : forms.Erasures ≡ form = cc in ap form_number (sym f)) ∙ sym (eqb-true n 3 w.0)
          | inr t ↦ absurd (let no : None ≡ Some form = t.1 in cc)
        ]
      ]
    ]

pub form_again : (form : Form) → form_of (form_number form) ≡ Some form
form_again forms.Items = refl
form_again forms.Ranges = refl
form_again forms.Erasures = refl

-- what is right with the request at the front
pub record Passes (xs : List ℕ) : Type 0 where
  pub form : Form
  pub form_is : form_of (octet 0 xs) ≡ Some form
  pub four : 4 ≤ length xs
  pub within : 4 + items_length xs ≤ length xs
  pub pairs : items_length xs % item_size form ≡ 0
  pub items : (at : ℕ) → items_checked at (take (items_length xs) (drop 4 xs)) ≡ Ok tt

neither : (a b : Bool) → (a || b) ≡ false → (a ≡ false) × (b ≡ false)
neither true b e = absurd cc
neither false b e = (refl, e)

zero_is : (n : ℕ) → eqb n 0 ≡ true → n ≡ 0
zero_is n e = eqb-true n 0 e

passed_as : (o : Option Form) (at : ℕ) (xs : List ℕ) → form_of (octet 0 xs) ≡ o → request_checked_as o at xs ≡ Ok tt → Passes xs
passed_as None at xs is e = absurd cc
passed_as (Some form) at xs is e =
    let both = both_checked (request_length_checked at form xs) (items_checked (at + 4) (take (items_length xs) (drop 4 xs))) e in
    let short : Bool = ltb (length xs) 4 in
    let past : Bool = ltb (length xs) (4 + items_length xs) in
    let whole : Bool = eqb (items_length xs % item_size form) 0 in
    let n = neither (short || past) (not whole) (not_refused (short || past || not whole) (RequestLength at) both.0) in
    let m = neither short past n.0 in
    record {
      form = form;
      form_is = is;
      four = ltb-false _ _ m.0;
      within = ltb-false _ _ m.1;
      pairs = zero_is _ (so_not whole n.1);
      items = λ other. items_anywhere (at + 4) other (take (items_length xs) (drop 4 xs)) both.1;
    }

pub passed : (at : ℕ) (xs : List ℕ) → request_checked at xs ≡ Ok tt → Passes xs
passed at xs e = passed_as (form_of (octet 0 xs)) at xs refl e

pub passes_so : (at : ℕ) (xs : List ℕ) → Passes xs → request_checked at xs ≡ Ok tt
passes_so at xs p =
    let pairs : eqb (items_length xs % item_size p.form) 0 ≡ true = ap (λ (n : ℕ). eqb n 0) p.pairs in
    ap (λ (o : Option Form). request_checked_as o at xs) p.form_is
    ∙ first_checked (request_length_checked at p.form xs) (items_checked (at + 4) (take (items_length xs) (drop 4 xs)))
    (rw (le-ltb (length xs) 4 p.four, le-ltb (length xs) (4 + items_length xs) p.within, pairs) refl)
    ∙ p.items (at + 4)

pub eight : (n : ℕ) (form : Form) → n % item_size form ≡ 0 → n % 8 ≡ 0
eight n forms.Items e = e
eight n forms.Ranges e = omega (arith, e)
eight n forms.Erasures e = e

take_four : (n a b c d : ℕ) (rest : List ℕ) → take (4 + n) (a ∷ b ∷ c ∷ d ∷ rest) ≡ a ∷ b ∷ c ∷ d ∷ take n rest
take_four n a b c d rest = let e : 4 + n ≡ suc (suc (suc (suc n))) = omega arith in rw e refl

record First (xs : List ℕ) : Type 0 where
  pub spelled : request_octets (first_request xs) ≡ take (request_length xs) xs
  pub fits : IsRequest (first_request xs)

first_of : (xs : List ℕ) → AreOctets xs → Passes xs → First xs
first_of [] fits p = absurd (omega (arith, p.four))
first_of (a ∷ []) fits p = absurd (omega (arith, p.four))
first_of (a ∷ b ∷ []) fits p = absurd (omega (arith, p.four))
first_of (a ∷ b ∷ c ∷ []) fits p = absurd (omega (arith, p.four))
first_of (a ∷ b ∷ c ∷ d ∷ rest) fits p =
    let xs : List ℕ = a ∷ b ∷ c ∷ d ∷ rest in
    let n : ℕ = items_length xs in
    let size : length (take n rest) ≡ n = omega (arith, length-take n rest, p.within) in
    let whole : length (take n rest) % 8 ≡ 0 = ap (λ (k : ℕ). k % 8) size ∙ eight n p.form p.pairs in
    let items = items_spelled 0 (take n rest) (λ i. octets-take n rest (λ j. fits (suc (suc (suc (suc j))))) i) whole (p.items 0) in
    let form : form_at xs ≡ p.form = ap form_or_any p.form_is in
    let number-is : form_number (form_at xs) ≡ a = ap form_number form ∙ form_is a p.form p.form_is in
    let many : 8 * length (items_of (take n rest)) ≡ n = items.many ∙ size in
    record {
      spelled =
          ap (λ (k : ℕ). k ∷ b ∷ big_bytes 2 (8 * length (items_of (take n rest))) ++ flat_map item_octets (items_of (take n rest))) number-is
          ∙ ap (λ (k : ℕ). a ∷ b ∷ big_bytes 2 k ++ flat_map item_octets (items_of (take n rest))) many
          ∙ ap (λ (t : List ℕ). a ∷ b ∷ t ++ flat_map item_octets (items_of (take n rest))) (spelled_2 c d rest (fits 2) (fits 3))
          ∙ ap (λ (t : List ℕ). a ∷ b ∷ c ∷ d ∷ t) items.together
          ∙ sym (take_four n a b c d rest);
      fits = record {
        flags = fits 1;
        items = items.fit;
        pairs = rw (many, form) p.pairs;
        most = rw many (below_2 c d rest (fits 2) (fits 3));
      };
    }

-- ---- a request that is spelled is there again

items_of_spelled : (r : Request) (rest : List ℕ) → IsRequest r → items_length (request_octets r ++ rest) ≡ 8 * length r.items
items_of_spelled r rest is = again_2 (8 * length r.items) (flat_map item_octets r.items ++ rest) is.most

items_taken : (r : Request) (rest : List ℕ) → IsRequest r → take (items_length (request_octets r ++ rest)) (drop 4 (request_octets r ++ rest)) ≡ flat_map item_octets r.items
items_taken r rest is =
    ap (λ (n : ℕ). take n (flat_map item_octets r.items ++ rest)) (items_of_spelled r rest is)
    ∙ take_at (flat_map item_octets r.items) rest (8 * length r.items) (items_size r.items)

size_of : (r : Request) → length (request_octets r) ≡ 4 + 8 * length r.items
size_of r = let e = items_size r.items in omega (arith, e)

again_first : (r : Request) (rest : List ℕ) → IsRequest r → first_request (request_octets r ++ rest) ≡ r
again_first r rest is =
    let items : items_of (take (items_length (request_octets r ++ rest)) (drop 4 (request_octets r ++ rest))) ≡ r.items = ap items_of (items_taken r rest is) ∙ items_again r.items is.items in
    let form : form_at (request_octets r ++ rest) ≡ r.form = ap form_or_any (form_again r.form) in
    ap (λ (f : Form). let x : Request = record { form = f; flags = r.flags; items = items_of (take (items_length (request_octets r ++ rest)) (drop 4 (request_octets r ++ rest))) } in x) form
    ∙ ap (λ (t : List RequestItem). let x : Request = record { form = r.form; flags = r.flags; items = t } in x) items

again_passes : (r : Request) (rest : List ℕ) → IsRequest r → Passes (request_octets r ++ rest)
again_passes r rest is =
    let size = size_of r in
    let n = items_of_spelled r rest is in
    record {
      form = r.form;
      form_is = form_again r.form;
      four = omega (arith, size, length-append (request_octets r) rest);
      within = omega (arith, size, n, length-append (request_octets r) rest);
      pairs = rw n is.pairs;
      items = λ at. ap (items_checked at) (items_taken r rest is) ∙ items_pass at r.items;
    }

pub request_kind : IsKind request_octets IsRequest first_request request_length request_checked
request_kind = record {
  some = λ at xs e. omega arith;
  within = λ at xs e. (passed at xs e).within;
  anywhere = λ at other xs e. passes_so other xs (passed at xs e);
  spelled = λ at xs fits e. (first_of xs fits (passed at xs e)).spelled;
  fits = λ at xs fits e. (first_of xs fits (passed at xs e)).fits;
  again_some = λ r is. omega (arith, size_of r);
  again_len = λ r rest is. omega (arith, items_of_spelled r rest is, size_of r);
  again_first = λ r rest is. again_first r rest is;
  again_checked = λ r rest at is. passes_so at (request_octets r ++ rest) (again_passes r rest is);
}

-- ---- what the walks use

-- what is found from here on is what is found in the whole
pub checks_on : (from : ℕ) (list rest : List ℕ) (at : ℕ) → 0 < length rest → request_checked at rest ≡ Ok tt
    → checked_behind request_checked request_length at 0 rest ≡ requests_checked from list
    → checked_behind request_checked request_length (at + request_length rest) 0 (drop (request_length rest) rest) ≡ requests_checked from list
checks_on from list rest at some ok so_far =
    let p = passed at rest ok in
    sym (first_checked (request_checked at rest) (checked_behind request_checked request_length (at + request_length rest) 0 (drop (request_length rest) rest)) ok)
    ∙ sym (unroll_checked request_checked request_length at rest some (omega arith) p.within) ∙ so_far

pub whole_anywhere : (at : ℕ) (list : List ℕ) → requests_checked at list ≡ Ok tt → IsRequests list
whole_anywhere at list ok = record { checked = ok_anywhere request_length request_checked request_kind at 0 0 list ok }

-- the first request of a list, cut out
pub record Cut (list : List ℕ) : Type 0 where
  pub form : Form
  pub form_is : form_of (octet 0 list) ≡ Some form
  pub within : 4 + items_length list ≤ length list
  pub parts : requests_of list ≡ first_request list ∷ requests_of (drop (request_length list) list)
  pub rest : IsRequests (drop (request_length list) list)

pub cut_parts : (list : List ℕ) → 0 < length list → IsRequests list → Cut list
cut_parts list some is =
    let p = passed 0 list (ok_first request_checked request_length 0 list some is.checked) in
    record {
      form = p.form;
      form_is = p.form_is;
      within = p.within;
      parts = unroll first_request request_length list some (omega arith);
      rest = record { checked = ok_rest request_length request_checked request_kind 0 0 list some is.checked };
    }

pub items_on : (at place : ℕ) (items rest : List ℕ) → 8 ≤ length rest → get_or rest 0 0 ≡ 5 → items_checked place rest ≡ items_checked at items
    → items_checked (place + 8) (drop 8 rest) ≡ items_checked at items
items_on at place items rest long five so_far =
    sym (items_more place rest long ∙ ap (λ (n : ℕ). checked_then (refused_if (not (eqb n 5)) (ItemFec place n)) (items_checked (place + 8) (drop 8 rest))) five) ∙ so_far

pub ends : (at place : ℕ) (list rest : List ℕ) → length rest ≡ 0 → checked_behind request_checked request_length place 0 rest ≡ requests_checked at list → IsRequests list
ends at place list [] none so_far = whole_anywhere at list (sym so_far)
ends at place list (x ∷ rest) none so_far = absurd (omega arith)

-- the parts of the first request
pub cut_is : (list : List ℕ) (form : Form) → 0 < length list → IsRequests list → form_of (octet 0 list) ≡ Some form
    → (requests_of list ≡ (let r : Request = record { form = form; flags = octet 1 list; items = items_of (drop 4 (take (request_length list) list)) } in r) ∷ requests_of (drop (request_length list) list))
    × IsRequests (drop (request_length list) list)
cut_is list form some is form-is =
    let c = cut_parts list some is in
    let at : form_at list ≡ form = ap form_or_any form-is in (
      c.parts
          ∙ ap (λ (f : Form). (let r : Request = record { form = f; flags = octet 1 list; items = items_of (take (items_length list) (drop 4 list)) } in r) ∷ requests_of (drop (request_length list) list)) at
          ∙ ap (λ (t : List ℕ). (let r : Request = record { form = form; flags = octet 1 list; items = items_of t } in r) ∷ requests_of (drop (request_length list) list)) (sym (drop-take 4 (items_length list) list)),
      c.rest,
    )
