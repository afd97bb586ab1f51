-- What messages share: their header, their extensions, and what stands behind these.
use Rattle.std.proofs.Common.{◌≡◌, ℕ, ◌+◌, ◌-◌, ◌*◌, ◌/◌, ◌%◌, ◌<◌, ◌≤◌, cond, ltb, eqb, ◌||◌, not, Bool, true, false, List, [], ◌∷◌, ◌++◌, length, take, drop, Result, Ok, Err, refl, sym, ap, ◌∙◌, arith, append-nil, length-drop}
use Rattle.std.specs.List.{AllByRecursion}
use Rattle.std.proofs.lemmas.Bool.{ltb-false, eqb-true, eqb-false}
use Rattle.std.proofs.lemmas.List.{take-append-drop, drop-drop, length-take}
use Rattle.byteorder.specs.Endian.{big_bytes}
use Rattle.norm_base.specs.Member.{IsMember}
use Rattle.norm_ext.specs.Steps.{◌>>=◌, refused_if}
use Rattle.norm_ext.specs.Numbers.{octet, number, name_at, type_number}
use Rattle.fec_plan.specs.Payload.{name_octets}
use Rattle.norm_ext.specs.Requests.{item_octets, request_octets, requests_of, requests_checked, request_checked, request_length, first_request, IsRequest, IsItem}
use Rattle.norm_ext.specs.declared.head.Item.{Item}
use Rattle.norm_ext.specs.Extensions.{extension_octets, extensions_of, extensions_checked, IsExtension, extension_checked, extension_length, first_extension}
use Rattle.norm_ext.specs.Octets.{front_octets, object_octets, command_octets, sizes_octet, extensions_octets, requests_octets, words_with}
use Rattle.norm_ext.specs.Spells.{AreExtensions}
use Rattle.norm_ext.specs.Reading.{words_of, type_in, content_of, header_from, least_words, version_checked, header_checked, encoding_checked, extension_refused, header_extensions_checked, member_checked}
use Rattle.norm_ext.specs.declared.head.ObjHead.{ObjHead}
use Rattle.norm_ext.specs.declared.head.CmdHead.{CmdHead}
use Rattle.norm_ext.specs.declared.kinds.MessageType.{MessageType}
use Rattle.norm_ext.specs.declared.refusal.ExtFault.{ExtFault}
use Rattle.norm_ext.specs.declared.refusal.ExtFault.TheVariants.{ZeroLength, Overrun}
use Rattle.norm_ext.specs.declared.refusal.Refusal.{Refusal}
use Rattle.norm_ext.specs.declared.refusal.Refusal.TheVariants.{Short, Version, BadType, HeaderLength, FecId, BadNode}
use Rattle.norm_base.specs.Octets.{AreOctets}
use Rattle.norm_ext.proofs.PieceLemmas.{octets-take, octets-drop, together, all_fit}
use Rattle.norm_ext.proofs.NumberLemmas.{spelled_2, spelled_4, below_2, spelled_name, name_fits}
use Rattle.norm_ext.proofs.RequestLemmas.{not_refused, so_not, request_kind}
use Rattle.norm_ext.proofs.ExtensionLemmas.{extension_kind}

-- ---- steps

-- the value of a step that refused nothing
pub bind_ok : {A B : Type 0} (a : Result A Refusal) (next : A → Result B Refusal) (y : B) → (a >>= next) ≡ Ok y → (x : A) × (a ≡ Ok x) × (next x ≡ Ok y)
bind_ok (Ok x) next y e = (x, refl, e)
bind_ok (Err refusal) next y e = absurd cc

pub pass_ok : {B : Type 0} (a : Result (Unit {0}) Refusal) (next : Unit {0} → Result B Refusal) (y : B) → (a >>= next) ≡ Ok y → (a ≡ Ok tt) × (next tt ≡ Ok y)
pass_ok (Ok x) next y e = (refl, e)
pass_ok (Err refusal) next y e = absurd cc

not_short : (b : Bool) (refusal : Refusal) (r : Result (Unit {0}) Refusal) → cond b (Err refusal) r ≡ Ok tt → r ≡ Ok tt
not_short true refusal r e = absurd cc
not_short false refusal r e = e

-- ---- the header

pub record IsHeader (kind : MessageType) (octets : List ℕ) : Type 0 where
  pub first : octet 0 octets ≡ 16 + type_number kind
  pub least : least_words kind octets ≤ words_of octets
  pub most : 4 * words_of octets ≤ length octets

first_is : (n k : ℕ) → n / 16 ≡ 1 → n % 16 ≡ k → n ≡ 16 + k
first_is n k high low = omega arith

-- what is left of the test of the version where there are octets enough
version_one : (octets : List ℕ) → version_checked octets ≡ Ok tt → refused_if (not (eqb (octet 0 octets / 16) 1)) (Version (octet 0 octets / 16)) ≡ Ok tt
version_one octets e = not_short (ltb (length octets) 8) (Short (length octets)) _ e

pub header_is : (kind : MessageType) (octets : List ℕ) → header_checked kind octets ≡ Ok tt → IsHeader kind octets
unfolding header_checked
header_is kind octets e =
    let version = pass_ok (version_checked octets) _ tt e in
    let type = pass_ok (refused_if (not (eqb (type_in octets) (type_number kind))) (BadType (type_in octets))) _ tt version.1 in
    let least = pass_ok (refused_if (ltb (words_of octets) (least_words kind octets)) (HeaderLength (words_of octets) (least_words kind octets))) _ tt type.1 in
    let one : octet 0 octets / 16 ≡ 1 = eqb-true _ _ (so_not _ (not_refused _ _ (version_one octets version.0))) in
    let kind-is : octet 0 octets % 16 ≡ type_number kind = eqb-true _ _ (so_not _ (not_refused _ _ type.0)) in
    record {
      first = first_is (octet 0 octets) (type_number kind) one kind-is;
      least = ltb-false _ _ (not_refused _ _ least.0);
      most = ltb-false _ _ (not_refused _ _ least.1);
    }

-- ---- the encoding and the nodes

pub encoding_is : (id : ℕ) → encoding_checked id ≡ Ok tt → id ≡ 5
encoding_is id e = eqb-true id 5 (so_not (eqb id 5) (not_refused (not (eqb id 5)) (FecId id) e))

neither : (a b : Bool) → (a || b) ≡ false → (a ≡ false) × (b ≡ false)
neither true b e = absurd cc
neither false b e = (refl, e)

pub member_is : (n : ℕ) → n < 4294967296 → member_checked n ≡ Ok tt → IsMember n
member_is n below e =
    let tests = neither (eqb n 0) (eqb n 4294967295) (not_refused (eqb n 0 || eqb n 4294967295) BadNode e) in
    let some : n ≡ 0 → ⊥ = eqb-false n 0 tests.0 in
    let one : n ≡ 4294967295 → ⊥ = eqb-false n 4294967295 tests.1 in
    (omega (arith, some), omega (arith, one, below))

-- ---- the extensions, and what stands behind them

extensions_pass : (r : Result (Unit {0}) ExtFault) → extension_refused r ≡ Ok tt → r ≡ Ok tt
extensions_pass (Ok x) e = refl
extensions_pass (Err (ZeroLength at)) e = absurd cc
extensions_pass (Err (Overrun at)) e = absurd cc

-- where so many words stand before the extensions
pub record IsTail (words : ℕ) (octets : List ℕ) : Type 0 where
  pub spelled : extensions_octets (extensions_of (header_from (4 * words) octets)) ≡ header_from (4 * words) octets
  pub words_is : words_with words (extensions_of (header_from (4 * words) octets)) ≡ words_of octets
  pub joined : header_from (4 * words) octets ++ content_of octets ≡ drop (4 * words) octets
  pub fits : AreExtensions words (extensions_of (header_from (4 * words) octets))

take_drop : (from n : ℕ) (octets : List ℕ) → from ≤ n → take (n - from) (drop from octets) ++ drop n octets ≡ drop from octets
take_drop from n octets h =
    let e : from + (n - from) ≡ n = omega arith in
    ap (λ (t : List ℕ). take (n - from) (drop from octets) ++ t) (ap (λ (k : ℕ). drop k octets) (sym e) ∙ sym (drop-drop (n - from) from octets))
    ∙ take-append-drop (n - from) (drop from octets)

pub tail_is : (words : ℕ) (octets : List ℕ) → AreOctets octets → words ≤ words_of octets → 4 * words_of octets ≤ length octets → words_of octets < 256
    → header_extensions_checked (4 * words) octets ≡ Ok tt → IsTail words octets
tail_is words octets fits least most below e =
    let from : ℕ = 4 * words in
    let list : List ℕ = header_from from octets in
    let checked = extensions_pass (extensions_checked from list) e in
    let list-fits : AreOctets list = octets-take (4 * words_of octets - from) (drop from octets) (octets-drop from octets fits) in
    let spelled : extensions_octets (extensions_of list) ≡ list = together extension_octets first_extension extension_length extension_checked extension_kind from 0 list list-fits (omega arith) checked in
    let size : length list ≡ 4 * words_of octets - from = omega (arith, length-take (4 * words_of octets - from) (drop from octets), length-drop from octets) in
    let words-is : words_with words (extensions_of list) ≡ words_of octets = omega (arith, ap length spelled, size) in
    record {
      spelled = spelled;
      words_is = words-is;
      joined = take_drop from (4 * words_of octets) octets (omega arith);
      fits = record {
        each = all_fit IsExtension first_extension extension_length extension_checked extension_kind from 0 list list-fits checked;
        most = rw words-is below;
      };
    }

-- ---- the fixed fields

split_16 : (n : ℕ) → 16 * (n / 16) + n % 16 ≡ n
split_16 n = omega arith

pub front_spelled : (kind words c0 c1 c2 c3 c4 c5 c6 c7 : ℕ) → c0 ≡ 16 + kind → words ≡ c1 → c2 < 256 → c3 < 256 → c4 < 256 → c5 < 256 → c6 < 256 → c7 < 256
    → front_octets kind words (number 2 0 (c2 ∷ c3 ∷ [])) (number 4 0 (c4 ∷ c5 ∷ c6 ∷ c7 ∷ [])) ≡ c0 ∷ c1 ∷ c2 ∷ c3 ∷ c4 ∷ c5 ∷ c6 ∷ c7 ∷ []
front_spelled kind words c0 c1 c2 c3 c4 c5 c6 c7 first words-is h2 h3 h4 h5 h6 h7 =
    ap (λ (t : List ℕ). ((16 + kind) ∷ words ∷ t) ++ big_bytes 4 (number 4 0 (c4 ∷ c5 ∷ c6 ∷ c7 ∷ []))) (spelled_2 c2 c3 [] h2 h3)
    ∙ ap (λ (t : List ℕ). (16 + kind) ∷ words ∷ c2 ∷ c3 ∷ t) (spelled_4 c4 c5 c6 c7 [] h4 h5 h6 h7)
    ∙ ap (λ (n : ℕ). n ∷ words ∷ c2 ∷ c3 ∷ c4 ∷ c5 ∷ c6 ∷ c7 ∷ []) (sym first)
    ∙ ap (λ (n : ℕ). c0 ∷ n ∷ c2 ∷ c3 ∷ c4 ∷ c5 ∷ c6 ∷ c7 ∷ []) words-is

-- the instance, the round trip time and the sizes
sender_spelled : (c8 c9 c10 c11 : ℕ) → c8 < 256 → c9 < 256 → big_bytes 2 (number 2 0 (c8 ∷ c9 ∷ [])) ++ c10 ∷ sizes_octet (c11 / 16) (c11 % 16) ∷ [] ≡ c8 ∷ c9 ∷ c10 ∷ c11 ∷ []
sender_spelled c8 c9 c10 c11 h8 h9 =
    ap (λ (t : List ℕ). t ++ c10 ∷ sizes_octet (c11 / 16) (c11 % 16) ∷ []) (spelled_2 c8 c9 [] h8 h9)
    ∙ ap (λ (n : ℕ). c8 ∷ c9 ∷ c10 ∷ n ∷ []) (split_16 c11)

pub object_spelled : (h : ObjHead) (c8 c9 c10 c11 c12 c13 c14 c15 : ℕ) → c8 < 256 → c9 < 256 → c14 < 256 → c15 < 256 → c13 ≡ 5
    → h.instance ≡ number 2 0 (c8 ∷ c9 ∷ []) → h.grtt ≡ c10 → h.backoff ≡ c11 / 16 → h.gsize ≡ c11 % 16 → h.flags ≡ c12 → h.object ≡ number 2 0 (c14 ∷ c15 ∷ [])
    → object_octets h ≡ c8 ∷ c9 ∷ c10 ∷ c11 ∷ c12 ∷ c13 ∷ c14 ∷ c15 ∷ []
object_spelled h c8 c9 c10 c11 c12 c13 c14 c15 h8 h9 h14 h15 five instance grtt backoff gsize flags object =
    rw (instance, grtt, backoff, gsize, flags, object)
    (ap (λ (t : List ℕ). t ++ c12 ∷ 5 ∷ big_bytes 2 (number 2 0 (c14 ∷ c15 ∷ []))) (sender_spelled c8 c9 c10 c11 h8 h9)
    ∙ ap (λ (t : List ℕ). c8 ∷ c9 ∷ c10 ∷ c11 ∷ c12 ∷ 5 ∷ t) (spelled_2 c14 c15 [] h14 h15)
    ∙ ap (λ (n : ℕ). c8 ∷ c9 ∷ c10 ∷ c11 ∷ c12 ∷ n ∷ c14 ∷ c15 ∷ []) (sym five))

pub command_spelled : (h : CmdHead) (sub_type c8 c9 c10 c11 c12 : ℕ) → c8 < 256 → c9 < 256 → c12 ≡ sub_type
    → h.instance ≡ number 2 0 (c8 ∷ c9 ∷ []) → h.grtt ≡ c10 → h.backoff ≡ c11 / 16 → h.gsize ≡ c11 % 16
    → command_octets h sub_type ≡ c8 ∷ c9 ∷ c10 ∷ c11 ∷ c12 ∷ []
command_spelled h sub_type c8 c9 c10 c11 c12 h8 h9 sub-is instance grtt backoff gsize =
    rw (instance, grtt, backoff, gsize)
    (ap (λ (t : List ℕ). t ++ sub_type ∷ []) (sender_spelled c8 c9 c10 c11 h8 h9)
    ∙ ap (λ (n : ℕ). c8 ∷ c9 ∷ c10 ∷ c11 ∷ n ∷ []) (sym sub-is))

pub upper : (n : ℕ) → n < 256 → n / 16 < 16
upper n h = omega arith

pub lower : (n : ℕ) → n % 16 < 16
lower n = omega arith

-- ---- what stands behind the header

pub append_none : (xs ys : List ℕ) → length ys ≡ 0 → xs ++ ys ≡ xs
append_none xs [] none = append-nil xs
append_none xs (y ∷ ys) none = absurd (omega arith)

pub requests_together : (at : ℕ) (xs : List ℕ) → AreOctets xs → requests_checked at xs ≡ Ok tt → requests_octets (requests_of xs) ≡ xs
requests_together at xs fits ok = together request_octets first_request request_length request_checked request_kind at 0 xs fits (omega arith) ok

pub requests_fit : (at : ℕ) (xs : List ℕ) → AreOctets xs → requests_checked at xs ≡ Ok tt → AllByRecursion IsRequest (requests_of xs)
requests_fit at xs fits ok = all_fit IsRequest first_request request_length request_checked request_kind at 0 xs fits ok

-- the one item of a flush's acknowledgement
abbrev pub mark_in : List ℕ → Item
mark_in content = record { object = number 2 2 content; id = name_at 4 content }

pub mark_spelled : (xs : List ℕ) → AreOctets xs → length xs ≡ 8 → octet 0 xs ≡ 5
    → (item_octets (record { reserved = octet 1 xs; item = mark_in xs }) ++ [] ≡ xs) × IsItem (mark_in xs)
mark_spelled (a ∷ b ∷ c ∷ d ∷ e ∷ f ∷ g ∷ h ∷ []) fits eight five = (
  ap (λ (t : List ℕ). (5 ∷ b ∷ t ++ name_octets (name_at 0 (e ∷ f ∷ g ∷ h ∷ []))) ++ []) (spelled_2 c d [] (fits 2) (fits 3))
      ∙ ap (λ (t : List ℕ). (5 ∷ b ∷ c ∷ d ∷ t) ++ []) (spelled_name e f g h [] (fits 4) (fits 5) (fits 6) (fits 7))
      ∙ ap (λ (n : ℕ). n ∷ b ∷ c ∷ d ∷ e ∷ f ∷ g ∷ h ∷ []) (sym five),
  record { object = below_2 c d [] (fits 2) (fits 3); id = name_fits e f g h [] (fits 4) (fits 5) (fits 6) (fits 7) },
)
mark_spelled _ fits eight five = absurd (omega (arith, eight))
