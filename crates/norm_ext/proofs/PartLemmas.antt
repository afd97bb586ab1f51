-- The steps over a message's extensions, requests, nodes and lists refuse exactly with the refusals of their turn that apply.
use Rattle.std.proofs.Common.{◌≡◌, ◌≢◌, ℕ, zero, suc, ◌+◌, ◌-◌, ◌*◌, ◌%◌, ◌<◌, ◌≤◌, ◌⊎◌, inl, inr, cond, eqb, ltb, ◌&&◌, ◌||◌, not, Bool, true, false, List, [], ◌∷◌, ◌++◌, length, take, drop, Option, Some, None, Result, Ok, Err, refl, sym, ap, subst, ◌∙◌, arith, eq-eqb, lt-ltb, length-append, length-drop}
use Rattle.std.specs.List.{flat_map}
use Rattle.std.proofs.lemmas.Bool.{cases_lt, ltb-true, eqb-true, eqb-false}
use Rattle.std.proofs.lemmas.List.{length-take}
use Rattle.fec_plan.specs.Payload.{name_octets}
use Rattle.norm_ext.specs.Steps.{refused_if}
use Rattle.norm_ext.specs.Pieces.{checked_then}
use Rattle.norm_ext.specs.Numbers.{octet, number, name_at, form_of, form_number}
use Rattle.norm_ext.specs.Extensions.{IsExtension, extension_octets, extension_length, first_extension, extension_checked, extensions_checked}
use Rattle.norm_ext.specs.Requests.{RequestItem, IsRequestItem, item_octets, items_checked, IsRequest, request_octets, request_length, first_request, items_length, item_size, request_length_checked, request_checked_as, request_checked, requests_checked}
use Rattle.norm_ext.specs.Reading.{words_of, source_of, content_of, header_from, extension_refused, header_extensions_checked, member_checked}
use Rattle.norm_ext.specs.Layouts.{Content, Anything, Nothing, Numbers, Requests, OneItem, layout_of}
use Rattle.norm_ext.specs.Applies.{Applies, turn_of, IsOutside, IsNoExtension, BadExtension, Begins, BadForm, BadLength, BadItem, BadMark, BadEncoding, LeavesOver, HasBadLength, NoMember, extensions_at, content_at}
use Rattle.norm_ext.specs.declared.kinds.Form.{Form}
use Rattle.norm_ext.specs.declared.kinds.Form.TheVariants as forms
use Rattle.norm_ext.specs.declared.refusal.ExtFault.{ExtFault}
use Rattle.norm_ext.specs.declared.refusal.ExtFault.TheVariants.{ZeroLength, Overrun}
use Rattle.norm_ext.specs.declared.refusal.Refusal.{Refusal}
use Rattle.norm_ext.specs.declared.refusal.Refusal.TheVariants.{Ext, RequestForm, RequestLength, ItemFec, BadNode, BadList}
use Rattle.norm_base.specs.Octets.{AreOctets}
use Rattle.norm_ext.proofs.PieceLemmas.{octets-take, octets-drop, first_failed, first_checked}
use Rattle.norm_ext.proofs.NumberLemmas.{spelled_2, spelled_name, below_2, name_fits}
use Rattle.norm_ext.proofs.ExtensionLemmas.{extension_kind}
use Rattle.norm_ext.proofs.RequestLemmas.{chosen, form_is, form_again, request_kind, items_more, items_size, eight, not_refused, so_not}
use Rattle.norm_ext.proofs.BehindLemmas.{found, failed}
use Rattle.norm_ext.proofs.TurnLemmas.{Refuses}
use Rattle.norm_ext.proofs.StepLemmas.{refused_is, refuses, where_is, where_there, different, differs}
use Rattle.norm_ext.proofs.ReadingSteps.{where_so, encodings_step, nodes_step, list_step}

-- ---- tests

then_err : (a b : Result (Unit {0}) Refusal) (r : Refusal) → checked_then a b ≡ Err r → (a ≡ Err r) ⊎ ((a ≡ Ok tt) × (b ≡ Err r))
then_err (Ok x) b r e = inr (refl, e)
then_err (Err q) b r e = inl e

either_is : (a b : Bool) → (a || b) ≡ true → (a ≡ true) ⊎ (b ≡ true)
either_is true b e = inl refl
either_is false b e = inr e

left_is : (a b : Bool) → a ≡ true → (a || b) ≡ true
left_is true b e = refl
left_is false b e = absurd cc

right_is : (a b : Bool) → b ≡ true → (a || b) ≡ true
right_is true b e = refl
right_is false b e = e

both_are : (a b : Bool) → (a && b) ≡ true → (a ≡ true) × (b ≡ true)
both_are true b e = (refl, e)
both_are false b e = absurd cc

both_so : (a b : Bool) → a ≡ true → b ≡ true → (a && b) ≡ true
both_so true b e f = f
both_so false b e f = absurd cc

-- a number is 0 or is not
whole_or : (n : ℕ) → (n ≡ 0) ⊎ (n ≢ 0)
whole_or zero = inl refl
whole_or (suc n) = inr (λ e. absurd (omega (arith, e)))

true_false : (b : Bool) → b ≡ true → b ≡ false → ⊥
true_false b e f = cc

-- ---- extensions

abbrev place_in : ExtFault → ℕ
place_in (ZeroLength at) = at
place_in (Overrun at) = at

fault_same : (f g : ExtFault) → let a : Result (Unit {0}) ExtFault = Err f in let b : Result (Unit {0}) ExtFault = Err g in a ≡ b → f ≡ g
fault_same f g e = cc

ok_fault : (f : ExtFault) → let a : Result (Unit {0}) ExtFault = Ok tt in a ≡ Err f → ⊥
ok_fault f e = cc

extension_wrong : (at : ℕ) (xs : List ℕ) (fault : ExtFault) → extension_checked at xs ≡ Err fault → IsNoExtension xs × (place_in fault ≡ at)
extension_wrong at xs fault e =
    elim (chosen (ltb (length xs) 4) (Err (Overrun at)) _ (Err fault) e) [
      | inl w ↦ (inl (ltb-true _ _ w.0), ap place_in (sym (fault_same (Overrun at) fault w.1)))
      | inr v ↦ elim (chosen (eqb (extension_length xs) 0) (Err (ZeroLength at)) _ (Err fault) v.1) [
        | inl w ↦ (inr (inl (eqb-true _ _ w.0)), ap place_in (sym (fault_same (ZeroLength at) fault w.1)))
        | inr u ↦ elim (chosen (ltb (length xs) (extension_length xs)) (Err (Overrun at)) (Ok tt) (Err fault) u.1) [
          | inl w ↦ (inr (inr (ltb-true _ _ w.0)), ap place_in (sym (fault_same (Overrun at) fault w.1)))
          | inr t ↦ absurd (ok_fault fault t.1)
        ]
      ]
    ]

abbrev IsFault : Result (Unit {0}) ExtFault → ℕ → Type 0
IsFault r at = (fault : ExtFault) × (r ≡ Err fault) × (place_in fault ≡ at)

one_wrong : (a b c : Bool) (at : ℕ) → (a ≡ true) ⊎ (b ≡ true) ⊎ (c ≡ true)
    → IsFault (cond a (Err (Overrun at)) (cond b (Err (ZeroLength at)) (cond c (Err (Overrun at)) (Ok tt)))) at
one_wrong true b c at w = (Overrun at, refl, refl)
one_wrong false true c at w = (ZeroLength at, refl, refl)
one_wrong false false true at w = (Overrun at, refl, refl)
one_wrong false false false at w = absurd (elim w [ inl a ↦ (let e : false ≡ true = a in cc) | inr v ↦ elim v [ inl b ↦ (let e : false ≡ true = b in cc) | inr c ↦ (let e : false ≡ true = c in cc) ] ])

wrong_extension : (at : ℕ) (xs : List ℕ) → IsNoExtension xs → IsFault (extension_checked at xs) at
wrong_extension at xs wrong =
    one_wrong (ltb (length xs) 4) (eqb (extension_length xs) 0) (ltb (length xs) (extension_length xs)) at
    (elim wrong [
      | inl short ↦ inl (lt-ltb _ _ short)
      | inr w ↦ elim w [
        | inl none ↦ inr (inl (eq-eqb _ _ none))
        | inr past ↦ inr (inr (lt-ltb _ _ past))
      ]
    ])

told_extension : (r : Result (Unit {0}) ExtFault) (q : Refusal) → extension_refused r ≡ Err q → (fault : ExtFault) × (r ≡ Err fault) × (q ≡ Ext (place_in fault))
told_extension (Ok x) q e = absurd cc
told_extension (Err (ZeroLength at)) q e = (ZeroLength at, refl, cc)
told_extension (Err (Overrun at)) q e = (Overrun at, refl, cc)

extension_told : (fault : ExtFault) → extension_refused (Err fault) ≡ Err (Ext (place_in fault))
extension_told (ZeroLength at) = refl
extension_told (Overrun at) = refl

bad_extension : (from : ℕ) (list : List ℕ) (fault : ExtFault) → AreOctets list → extensions_checked from list ≡ Err fault → BadExtension from list (place_in fault)
bad_extension from list fault fits e =
    let f = found extension_octets IsExtension first_extension extension_length extension_checked extension_kind from 0 list fault fits (omega arith) e in
    let w = extension_wrong f.at f.rest fault f.wrong in
    record {
      rest = f.rest;
      begins = record { before = f.before; whole = f.whole; joined = f.joined; place = omega (arith, w.1, f.place); some = f.some };
      wrong = w.0;
    }

extension_bad : (from : ℕ) (list : List ℕ) (at : ℕ) → BadExtension from list at → extension_refused (extensions_checked from list) ≡ Err (Ext at)
extension_bad from list at b =
    let w = wrong_extension at b.rest b.wrong in
    ap extension_refused
    (ap (extensions_checked from) b.begins.joined
    ∙ failed extension_octets IsExtension first_extension extension_length extension_checked extension_kind from b.begins.before b.rest w.0 at b.begins.whole b.begins.some b.begins.place w.1)
    ∙ extension_told w.0 ∙ ap (λ (n : ℕ). Err (Ext n)) w.2

header_octets : (from : ℕ) (octets : List ℕ) → AreOctets octets → AreOctets (header_from from octets)
header_octets from octets fits = octets-take (4 * words_of octets - from) (drop from octets) (octets-drop from octets fits)

extensions_fail : (octets : List ℕ) (r : Refusal) → turn_of r ≡ 7 → Applies r octets → where_so (layout_of octets).extended (header_extensions_checked (extensions_at octets) octets) ≡ Err r
extensions_fail octets (Ext at) turn a =
    where_there (layout_of octets).extended (header_extensions_checked (extensions_at octets) octets) (Ext at) a.0
    (extension_bad (extensions_at octets) (header_from (extensions_at octets) octets) at a.1)
extensions_fail octets _ turn a = absurd (omega (arith, turn))

pub extensions_refuse : (octets : List ℕ) → AreOctets octets → Refuses octets 7 (where_so (layout_of octets).extended (header_extensions_checked (extensions_at octets) octets))
extensions_refuse octets fits = record {
  found = λ r e.
      let from : ℕ = extensions_at octets in
      let list : List ℕ = header_from from octets in
      let w = where_is (layout_of octets).extended (header_extensions_checked from octets) r e in
      let t = told_extension (extensions_checked from list) r w.1 in
      subst (λ (x : Refusal). (turn_of x ≡ 7) × Applies x octets) (sym t.2) (refl, (w.0, bad_extension from list t.0 (header_octets from octets fits) t.1));
  fails = λ r turn a. extensions_fail octets r turn a;
}

-- ---- items

item_cells : (a b c d e f g h : ℕ) → a ≡ 5 → c < 256 → d < 256 → e < 256 → f < 256 → g < 256 → h < 256
    → item_octets (record { reserved = b; item = record { object = number 2 0 (c ∷ d ∷ []); id = name_at 0 (e ∷ f ∷ g ∷ h ∷ []) } }) ≡ a ∷ b ∷ c ∷ d ∷ e ∷ f ∷ g ∷ h ∷ []
item_cells a b c d e f g h five hc hd he hf hg hh =
    ap (λ (t : List ℕ). 5 ∷ b ∷ t ++ name_octets (name_at 0 (e ∷ f ∷ g ∷ h ∷ []))) (spelled_2 c d [] hc hd)
    ∙ ap (λ (t : List ℕ). 5 ∷ b ∷ c ∷ d ∷ t) (spelled_name e f g h [] he hf hg hh)
    ∙ ap (λ (n : ℕ). n ∷ b ∷ c ∷ d ∷ e ∷ f ∷ g ∷ h ∷ []) (sym five)

is_five : (a : ℕ) (r : Refusal) → refused_if (not (eqb a 5)) r ≡ Ok tt → a ≡ 5
is_five a r e = eqb-true a 5 (so_not (eqb a 5) (not_refused (not (eqb a 5)) r e))

record FoundItem (from : ℕ) (list : List ℕ) (r : Refusal) : Type 0 where
  at : ℕ
  id : ℕ
  item : List ℕ
  begins : Begins item_octets IsRequestItem from list at item
  found : octet 0 item ≡ id
  wrong : id ≢ 5
  same : ItemFec at id ≡ r

items_found : (from : ℕ) (xs : List ℕ) (r : Refusal) → AreOctets xs → items_checked from xs ≡ Err r → FoundItem from xs r
items_found from (a ∷ b ∷ c ∷ d ∷ e ∷ f ∷ g ∷ h ∷ rest) r fits failed =
    elim (then_err (refused_if (not (eqb a 5)) (ItemFec from a)) (items_checked (from + 8) rest) r failed) [
      | inl w ↦
          let t = refused_is (not (eqb a 5)) (ItemFec from a) r w in
          record {
            at = from;
            id = a;
            item = a ∷ b ∷ c ∷ d ∷ e ∷ f ∷ g ∷ h ∷ rest;
            begins = record { before = []; whole = tt; joined = refl; place = omega arith; some = omega arith };
            found = refl;
            wrong = differs a 5 t.0;
            same = t.1;
          }
      | inr v ↦
          let five : a ≡ 5 = is_five a (ItemFec from a) v.0 in
          let x : RequestItem = record { reserved = b; item = record { object = number 2 0 (c ∷ d ∷ []); id = name_at 0 (e ∷ f ∷ g ∷ h ∷ []) } } in
          let i = items_found (from + 8) rest r (λ k. fits (suc (suc (suc (suc (suc (suc (suc (suc k))))))))) v.1 in
          let cells = item_cells a b c d e f g h five (fits 2) (fits 3) (fits 4) (fits 5) (fits 6) (fits 7) in
          record {
            at = i.at;
            id = i.id;
            item = i.item;
            begins = record {
              before = x ∷ i.begins.before;
              whole = (record { reserved = fits 1; item = record { object = below_2 c d [] (fits 2) (fits 3); id = name_fits e f g h [] (fits 4) (fits 5) (fits 6) (fits 7) } }, i.begins.whole);
              joined =
                  ap (λ (t : List ℕ). a ∷ b ∷ c ∷ d ∷ e ∷ f ∷ g ∷ h ∷ t) i.begins.joined
                  ∙ ap (λ (t : List ℕ). t ++ (flat_map item_octets i.begins.before ++ i.item)) (sym cells);
              place = omega (arith, i.begins.place);
              some = i.begins.some;
            };
            found = i.found;
            wrong = i.wrong;
            same = i.same;
          }
    ]
items_found from _ r fits failed = absurd cc

items_fail : (from : ℕ) (before : List RequestItem) (item : List ℕ) (at id : ℕ) → 8 ≤ length item → at ≡ from + length (flat_map item_octets before) → octet 0 item ≡ id → id ≢ 5
    → items_checked from (flat_map item_octets before ++ item) ≡ Err (ItemFec at id)
items_fail from [] item at id long place is wrong =
    let here : at ≡ from = omega (arith, place) in
    items_more from item long
    ∙ first_failed (refused_if (not (eqb (octet 0 item) 5)) (ItemFec from (octet 0 item))) _ (ItemFec at id)
    (refuses (not (eqb (octet 0 item) 5)) (ItemFec from (octet 0 item)) (different (octet 0 item) 5 (λ e. wrong (sym is ∙ e)))
    ∙ ap (λ (n : ℕ). Err (ItemFec n (octet 0 item))) (sym here) ∙ ap (λ (n : ℕ). Err (ItemFec at n)) is)
items_fail from (x ∷ more) item at id long place is wrong = items_fail (from + 8) more item at id long (omega (arith, place)) is wrong

-- ---- requests

outside_form : (n : ℕ) → form_of n ≡ None → IsOutside 1 3 n
outside_form n e =
    elim (chosen (eqb n 1) (Some forms.Items) _ None e) [
      | inl w ↦ absurd (let none : Some forms.Items ≡ None = w.1 in cc)
      | inr v1 ↦ elim (chosen (eqb n 2) (Some forms.Ranges) _ None v1.1) [
        | inl w ↦ absurd (let none : Some forms.Ranges ≡ None = w.1 in cc)
        | inr v2 ↦ elim (chosen (eqb n 3) (Some forms.Erasures) _ None v2.1) [
          | inl w ↦ absurd (let none : Some forms.Erasures ≡ None = w.1 in cc)
          | inr v3 ↦ elim (cases_lt n 1) [
            | inl low ↦ inl low
            | inr high ↦ inr (omega (arith, high, eqb-false n 1 v1.0, eqb-false n 2 v2.0, eqb-false n 3 v3.0))
          ]
        ]
      ]
    ]

within_form : (form : Form) (n : ℕ) → form_number form ≡ n → IsOutside 1 3 n → ⊥
within_form forms.Items n is out = elim out [ inl low ↦ omega arith | inr high ↦ omega arith ]
within_form forms.Ranges n is out = elim out [ inl low ↦ omega arith | inr high ↦ omega arith ]
within_form forms.Erasures n is out = elim out [ inl low ↦ omega arith | inr high ↦ omega arith ]

no_form : (o : Option Form) (n : ℕ) → form_of n ≡ o → IsOutside 1 3 n → form_of n ≡ None
no_form (Some form) n is out = absurd (within_form form n (form_is n form is) out)
no_form None n is out = is

the_form : (form : Form) (n : ℕ) → n ≡ form_number form → form_of n ≡ Some form
the_form form n is = ap form_of is ∙ form_again form

abbrev length_test : Form → List ℕ → Bool
length_test form xs = ltb (length xs) 4 || ltb (length xs) (4 + items_length xs) || not (eqb (items_length xs % item_size form) 0)

bad_length : (form : Form) (xs : List ℕ) → length_test form xs ≡ true → HasBadLength form xs
bad_length form xs e =
    elim (either_is (ltb (length xs) 4 || ltb (length xs) (4 + items_length xs)) (not (eqb (items_length xs % item_size form) 0)) e) [
      | inl w ↦ elim (either_is (ltb (length xs) 4) (ltb (length xs) (4 + items_length xs)) w) [
        | inl short ↦ inl (ltb-true _ _ short)
        | inr past ↦ inr (inl (ltb-true _ _ past))
      ]
      | inr part ↦ inr (inr (differs (items_length xs % item_size form) 0 part))
    ]

length_bad : (form : Form) (xs : List ℕ) → HasBadLength form xs → length_test form xs ≡ true
length_bad form xs bad =
    let a : Bool = ltb (length xs) 4 in
    let b : Bool = ltb (length xs) (4 + items_length xs) in
    let c : Bool = not (eqb (items_length xs % item_size form) 0) in
    elim bad [
      | inl short ↦ left_is (a || b) c (left_is a b (lt-ltb _ _ short))
      | inr w ↦ elim w [
        | inl past ↦ left_is (a || b) c (right_is a b (lt-ltb _ _ past))
        | inr part ↦ right_is (a || b) c (different (items_length xs % item_size form) 0 part)
      ]
    ]

right_length : (form : Form) (xs : List ℕ) (r : Refusal) → refused_if (length_test form xs) r ≡ Ok tt → HasBadLength form xs → ⊥
right_length form xs r e bad = true_false (length_test form xs) (length_bad form xs bad) (not_refused (length_test form xs) r e)

false_length : (form : Form) (xs : List ℕ) (b : Bool) → length_test form xs ≡ b → (HasBadLength form xs → ⊥) → b ≡ false
false_length form xs true is right = absurd (right (bad_length form xs is))
false_length form xs false is right = refl

-- what is told of a list of requests
abbrev Told : ℕ → List ℕ → Refusal → Type 0
Told from list (RequestForm at) = BadForm from list at
Told from list (RequestLength at) = BadLength from list at
Told from list (ItemFec at id) = BadItem from list at id
Told from list _ = ⊥

in_items : (n : ℕ) (xs : List ℕ) → AreOctets xs → AreOctets (take n (drop 4 xs))
in_items n xs fits = octets-take n (drop 4 xs) (octets-drop 4 xs fits)

form_told : (o : Option Form) (from : ℕ) (list : List ℕ) (at : ℕ) (rest : List ℕ) (r : Refusal) → AreOctets rest → Begins request_octets IsRequest from list at rest → form_of (octet 0 rest) ≡ o
    → request_checked_as o at rest ≡ Err r → Told from list r
form_told None from list at rest r fits begins is e =
    let same : RequestForm at ≡ r = cc in
    subst (Told from list) same (record { rest = rest; begins = begins; wrong = outside_form (octet 0 rest) is })
form_told (Some form) from list at rest r fits begins is e =
    let named : octet 0 rest ≡ form_number form = sym (form_is (octet 0 rest) form is) in
    let test : Result (Unit {0}) Refusal = request_length_checked at form rest in
    elim (then_err test (items_checked (at + 4) (take (items_length rest) (drop 4 rest))) r e) [
      | inl w ↦
          let t = refused_is (length_test form rest) (RequestLength at) r w in
          subst (Told from list) t.1 (record { rest = rest; begins = begins; form = form; named = named; wrong = bad_length form rest t.0 })
      | inr v ↦
          let i = items_found (at + 4) (take (items_length rest) (drop 4 rest)) r (in_items (items_length rest) rest fits) v.1 in
          subst (Told from list) i.same (
          record {
            rest = rest;
            start = at;
            begins = begins;
            form = form;
            named = named;
            right = right_length form rest (RequestLength at) v.0;
            item = i.item;
            items = i.begins;
            found = i.found;
            wrong = i.wrong;
          })
    ]

rest_octets : (front rest : List ℕ) → AreOctets (front ++ rest) → AreOctets rest
rest_octets [] rest fits = fits
rest_octets (x ∷ front) rest fits = rest_octets front rest (λ i. fits (suc i))

request_told : (from : ℕ) (list : List ℕ) (r : Refusal) → AreOctets list → requests_checked from list ≡ Err r → Told from list r
request_told from list r fits e =
    let f = found request_octets IsRequest first_request request_length request_checked request_kind from 0 list r fits (omega arith) e in
    let front : List ℕ = flat_map request_octets f.before in
    let whole : AreOctets (front ++ f.rest) = subst AreOctets f.joined fits in
    form_told (form_of (octet 0 f.rest)) from list f.at f.rest r (rest_octets front f.rest whole)
    (record { before = f.before; whole = f.whole; joined = f.joined; place = omega (arith, f.place); some = f.some }) refl f.wrong

-- behind whole requests the one that is wrong is refused
behind : (from : ℕ) (list : List ℕ) (at : ℕ) (rest : List ℕ) (r : Refusal) → Begins request_octets IsRequest from list at rest → request_checked at rest ≡ Err r → requests_checked from list ≡ Err r
behind from list at rest r begins wrong =
    ap (requests_checked from) begins.joined
    ∙ failed request_octets IsRequest first_request request_length request_checked request_kind from begins.before rest r at begins.whole begins.some begins.place wrong

long_item : (form : Form) (rest before item : List ℕ) (n : ℕ) → (HasBadLength form rest → ⊥) → take (items_length rest) (drop 4 rest) ≡ before ++ item → length before ≡ 8 * n → 0 < length item → 8 ≤ length item
long_item form rest before item n right joined size some =
    let enough : 4 + items_length rest ≤ length rest = elim (cases_lt (length rest) (4 + items_length rest)) [ inl past ↦ absurd (right (inr (inl past))) | inr is ↦ is ] in
    let zero-is : items_length rest % item_size form ≡ 0 = elim (whole_or (items_length rest % item_size form)) [ inl is ↦ is | inr part ↦ absurd (right (inr (inr part))) ] in
    let whole : items_length rest % 8 ≡ 0 = eight (items_length rest) form zero-is in
    let many : length (take (items_length rest) (drop 4 rest)) ≡ items_length rest = omega (arith, length-take (items_length rest) (drop 4 rest), length-drop 4 rest, enough) in
    omega (arith, whole, many, ap length joined, length-append before item, size, some)

told_request : (from : ℕ) (list : List ℕ) (r : Refusal) → Told from list r → requests_checked from list ≡ Err r
told_request from list (RequestForm at) b =
    behind from list at b.rest (RequestForm at) b.begins
    (ap (λ (o : Option Form). request_checked_as o at b.rest) (no_form (form_of (octet 0 b.rest)) (octet 0 b.rest) refl b.wrong))
told_request from list (RequestLength at) b =
    behind from list at b.rest (RequestLength at) b.begins
    (ap (λ (o : Option Form). request_checked_as o at b.rest) (the_form b.form (octet 0 b.rest) b.named)
    ∙ first_failed (request_length_checked at b.form b.rest) _ (RequestLength at) (refuses (length_test b.form b.rest) (RequestLength at) (length_bad b.form b.rest b.wrong)))
told_request from list (ItemFec at id) b =
    let items : List ℕ = take (items_length b.rest) (drop 4 b.rest) in
    let front : List ℕ = flat_map item_octets b.items.before in
    let long : 8 ≤ length b.item = long_item b.form b.rest front b.item (length b.items.before) b.right b.items.joined (items_size b.items.before) b.items.some in
    behind from list b.start b.rest (ItemFec at id) b.begins
    (ap (λ (o : Option Form). request_checked_as o b.start b.rest) (the_form b.form (octet 0 b.rest) b.named)
    ∙ first_checked (request_length_checked b.start b.form b.rest) _ (ap (λ (t : Bool). refused_if t (RequestLength b.start)) (false_length b.form b.rest (length_test b.form b.rest) refl b.right))
    ∙ ap (items_checked (b.start + 4)) b.items.joined
    ∙ items_fail (b.start + 4) b.items.before b.item at id long b.items.place b.found b.wrong)
told_request from list _ b = absurd b

-- ---- what stands behind the header

bad_mark : (at : ℕ) (content : List ℕ) (r : Refusal) → encodings_step OneItem at content ≡ Err r → (id : ℕ) × (ItemFec at id ≡ r) × BadMark at content at id
bad_mark at content r e =
    let t = refused_is (eqb (length content) 8 && not (eqb (octet 0 content) 5)) (ItemFec at (octet 0 content)) r e in
    let both = both_are (eqb (length content) 8) (not (eqb (octet 0 content) 5)) t.0 in
    (octet 0 content, t.1, record { place = refl; whole = eqb-true _ _ both.0; found = refl; wrong = differs (octet 0 content) 5 both.1 })

mark_bad : (from : ℕ) (content : List ℕ) (at id : ℕ) → BadMark from content at id → encodings_step OneItem from content ≡ Err (ItemFec at id)
mark_bad from content at id b =
    refuses (eqb (length content) 8 && not (eqb (octet 0 content) 5)) (ItemFec from (octet 0 content))
    (both_so (eqb (length content) 8) (not (eqb (octet 0 content) 5)) (eq-eqb _ _ b.whole) (different (octet 0 content) 5 (λ e. b.wrong (sym b.found ∙ e))))
    ∙ ap (λ (n : ℕ). Err (ItemFec n (octet 0 content))) (sym b.place) ∙ ap (λ (n : ℕ). Err (ItemFec at n)) b.found

told_applies : (octets : List ℕ) (r : Refusal) → (layout_of octets).content ≡ Requests → Told (content_at octets) (content_of octets) r → (turn_of r ≡ 8) × Applies r octets
told_applies octets (RequestForm at) is b = (refl, (is, b))
told_applies octets (RequestLength at) is b = (refl, (is, b))
told_applies octets (ItemFec at id) is b = (refl, subst (λ (k : Content). BadEncoding k (content_at octets) (content_of octets) at id) (sym is) b)
told_applies octets _ is b = absurd b

encodings_found : (k : Content) (octets : List ℕ) (r : Refusal) → AreOctets octets → (layout_of octets).content ≡ k → encodings_step k (content_at octets) (content_of octets) ≡ Err r → (turn_of r ≡ 8) × Applies r octets
encodings_found Requests octets r fits is e =
    told_applies octets r is (request_told (content_at octets) (content_of octets) r (octets-drop (4 * words_of octets) octets fits) e)
encodings_found OneItem octets r fits is e =
    let m = bad_mark (content_at octets) (content_of octets) r e in
    subst (λ (x : Refusal). (turn_of x ≡ 8) × Applies x octets) m.1
    (refl, subst (λ (k : Content). BadEncoding k (content_at octets) (content_of octets) (content_at octets) m.0) (sym is) m.2)
encodings_found Anything octets r fits is e = absurd cc
encodings_found Nothing octets r fits is e = absurd cc
encodings_found (Numbers width) octets r fits is e = absurd cc

item_fails : (k : Content) (from : ℕ) (content : List ℕ) (at id : ℕ) → BadEncoding k from content at id → encodings_step k from content ≡ Err (ItemFec at id)
item_fails Requests from content at id b = told_request from content (ItemFec at id) b
item_fails OneItem from content at id b = mark_bad from content at id b
item_fails Anything from content at id b = absurd b
item_fails Nothing from content at id b = absurd b
item_fails (Numbers width) from content at id b = absurd b

encodings_fail : (octets : List ℕ) (r : Refusal) → turn_of r ≡ 8 → Applies r octets → encodings_step (layout_of octets).content (content_at octets) (content_of octets) ≡ Err r
encodings_fail octets (RequestForm at) turn a =
    ap (λ (k : Content). encodings_step k (content_at octets) (content_of octets)) a.0 ∙ told_request (content_at octets) (content_of octets) (RequestForm at) a.1
encodings_fail octets (RequestLength at) turn a =
    ap (λ (k : Content). encodings_step k (content_at octets) (content_of octets)) a.0 ∙ told_request (content_at octets) (content_of octets) (RequestLength at) a.1
encodings_fail octets (ItemFec at id) turn a = item_fails (layout_of octets).content (content_at octets) (content_of octets) at id a
encodings_fail octets _ turn a = absurd (omega (arith, turn))

pub encodings_refuse : (octets : List ℕ) → AreOctets octets → Refuses octets 8 (encodings_step (layout_of octets).content (content_at octets) (content_of octets))
encodings_refuse octets fits = record {
  found = λ r e. encodings_found (layout_of octets).content octets r fits refl e;
  fails = λ r turn a. encodings_fail octets r turn a;
}

-- ---- nodes

no_member : (n : ℕ) (r : Refusal) → member_checked n ≡ Err r → NoMember n × (BadNode ≡ r)
no_member n r e =
    let t = refused_is (eqb n 0 || eqb n 4294967295) BadNode r e in (
      elim (either_is (eqb n 0) (eqb n 4294967295) t.0) [ inl none ↦ inl (eqb-true n 0 none) | inr all ↦ inr (eqb-true n 4294967295 all) ],
      t.1,
    )

member_fails : (n : ℕ) → NoMember n → member_checked n ≡ Err BadNode
member_fails n out =
    refuses (eqb n 0 || eqb n 4294967295) BadNode
    (elim out [ inl none ↦ left_is (eqb n 0) (eqb n 4294967295) (eq-eqb n 0 none) | inr all ↦ right_is (eqb n 0) (eqb n 4294967295) (eq-eqb n 4294967295 all) ])

-- a test that can only fail so, and then one that fails so
then_fails : (a b : Result (Unit {0}) Refusal) (p : Refusal) → ((q : Refusal) → a ≡ Err q → p ≡ q) → b ≡ Err p → checked_then a b ≡ Err p
then_fails (Ok x) b p only e = e
then_fails (Err q) b p only e = ap (λ (x : Refusal). Err x) (sym (only q refl))

nodes_fail : (octets : List ℕ) (r : Refusal) → turn_of r ≡ 9 → Applies r octets → nodes_step (layout_of octets).sender octets ≡ Err r
nodes_fail octets BadNode turn a =
    elim a [
      | inl source ↦ first_failed (member_checked (source_of octets)) _ BadNode (member_fails (source_of octets) source)
      | inr sender ↦
          then_fails (member_checked (source_of octets)) (where_so (layout_of octets).sender (member_checked (number 4 8 octets))) BadNode
          (λ q e. (no_member (source_of octets) q e).1)
          (where_there (layout_of octets).sender (member_checked (number 4 8 octets)) BadNode sender.0 (member_fails (number 4 8 octets) sender.1))
    ]
nodes_fail octets _ turn a = absurd (omega (arith, turn))

pub nodes_refuse : (octets : List ℕ) → Refuses octets 9 (nodes_step (layout_of octets).sender octets)
nodes_refuse octets = record {
  found = λ r e.
      elim (then_err (member_checked (source_of octets)) (where_so (layout_of octets).sender (member_checked (number 4 8 octets))) r e) [
        | inl w ↦
            let m = no_member (source_of octets) r w in
            subst (λ (x : Refusal). (turn_of x ≡ 9) × Applies x octets) m.1 (refl, inl m.0)
        | inr v ↦
            let w = where_is (layout_of octets).sender (member_checked (number 4 8 octets)) r v.1 in
            let m = no_member (number 4 8 octets) r w.1 in
            subst (λ (x : Refusal). (turn_of x ≡ 9) × Applies x octets) m.1 (refl, inr (w.0, m.0))
      ];
  fails = λ r turn a. nodes_fail octets r turn a;
}

-- ---- lists

left_over : (k : Content) (content : List ℕ) (r : Refusal) → list_step k content ≡ Err r → (rest : ℕ) × (BadList rest ≡ r) × LeavesOver k content rest
left_over Nothing content r e =
    let t = refused_is (not (eqb (length content) 0)) (BadList (length content)) r e in (length content, t.1, (refl, differs (length content) 0 t.0))
left_over (Numbers width) content r e =
    let t = refused_is (not (eqb (length content % width) 0)) (BadList (length content % width)) r e in (length content % width, t.1, (refl, differs (length content % width) 0 t.0))
left_over OneItem content r e =
    let t = refused_is (not (eqb (length content) 8)) (BadList (length content)) r e in (length content, t.1, (refl, differs (length content) 8 t.0))
left_over Anything content r e = absurd cc
left_over Requests content r e = absurd cc

bad_list : (n k : ℕ) (rest : ℕ) → rest ≡ n → rest ≢ k → refused_if (not (eqb n k)) (BadList n) ≡ Err (BadList rest)
bad_list n k rest is apart = refuses (not (eqb n k)) (BadList n) (different n k (λ e. apart (is ∙ e))) ∙ ap (λ (x : ℕ). Err (BadList x)) (sym is)

over_left : (k : Content) (content : List ℕ) (rest : ℕ) → LeavesOver k content rest → list_step k content ≡ Err (BadList rest)
over_left Nothing content rest a = bad_list (length content) 0 rest a.0 a.1
over_left (Numbers width) content rest a = bad_list (length content % width) 0 rest a.0 a.1
over_left OneItem content rest a = bad_list (length content) 8 rest a.0 a.1
over_left Anything content rest a = absurd a
over_left Requests content rest a = absurd a

list_fails : (octets : List ℕ) (r : Refusal) → turn_of r ≡ 10 → Applies r octets → list_step (layout_of octets).content (content_of octets) ≡ Err r
list_fails octets (BadList rest) turn a = over_left (layout_of octets).content (content_of octets) rest a
list_fails octets _ turn a = absurd (omega (arith, turn))

pub list_refuses : (octets : List ℕ) → Refuses octets 10 (list_step (layout_of octets).content (content_of octets))
list_refuses octets = record {
  found = λ r e.
      let l = left_over (layout_of octets).content (content_of octets) r e in
      subst (λ (x : Refusal). (turn_of x ≡ 10) × Applies x octets) l.1 (refl, l.2);
  fails = λ r turn a. list_fails octets r turn a;
}
