-- What is spelled is read again: the header, the extensions and the fields that messages share.
use Rattle.std.proofs.Common.{◌≡◌, ℕ, ◌+◌, ◌-◌, ◌*◌, ◌/◌, ◌%◌, ◌<◌, ◌≤◌, cond, eqb, ltb, ◌||◌, not, Bool, false, List, [], ◌++◌, length, take, drop, Result, Ok, Err, refl, sym, ap, ◌∙◌, arith, length-append, length-drop}
use Rattle.std.specs.List.{AllByRecursion}
use Rattle.std.proofs.lemmas.Bool.{le-ltb, eq-eqb}
use Rattle.std.proofs.Common.{ne_eqb}
use Rattle.std.proofs.lemmas.List.{take_at, drop_at, drop-drop}
use Rattle.norm_base.specs.Member.{IsMember}
use Rattle.norm_ext.specs.Steps.{◌>>=◌, refused_if}
use Rattle.norm_ext.specs.Numbers.{octet, type_number}
use Rattle.norm_ext.specs.Extensions.{Extension, extension_octets, extensions_of, extensions_checked, IsExtension, extension_checked, extension_length, first_extension}
use Rattle.norm_ext.specs.Requests.{Request, request_octets, requests_of, requests_checked, request_checked, request_length, first_request, IsRequest}
use Rattle.norm_ext.specs.Octets.{front_octets, object_octets, command_octets, extensions_octets, requests_octets, words_with}
use Rattle.norm_ext.specs.Spells.{AreExtensions, IsObjectHead, IsCommandHead}
use Rattle.norm_ext.specs.Reading.{words_of, type_in, content_of, header_from, least_words, version_checked, header_checked, extension_refused, header_extensions_checked, member_checked, list_checked, object_head_of, command_head_of}
use Rattle.norm_ext.specs.declared.head.ObjHead.{ObjHead}
use Rattle.norm_ext.specs.declared.head.CmdHead.{CmdHead}
use Rattle.norm_ext.specs.declared.kinds.MessageType.{MessageType}
use Rattle.norm_ext.specs.declared.kinds.MessageType.TheVariants as types
use Rattle.norm_ext.specs.declared.refusal.Refusal.{Refusal}
use Rattle.norm_ext.specs.declared.refusal.Refusal.TheVariants.{Short, Version, BadType, HeaderLength, PastEnd, BadNode, BadList}
use Rattle.norm_ext.proofs.PieceLemmas.{pieces_again, checked_again}
use Rattle.norm_ext.proofs.NumberLemmas.{again_2, again_4}
use Rattle.norm_ext.proofs.RequestLemmas.{request_kind}
use Rattle.norm_ext.proofs.ExtensionLemmas.{extension_kind, extension_size}

-- a step that refuses nothing, and what comes after it
pub go_on : {B : Type 0} (a : Result (Unit {0}) Refusal) (next : Unit {0} → Result B Refusal) (y : Result B Refusal) → a ≡ Ok tt → ((u : Unit {0}) → next u ≡ y) → (a >>= next) ≡ y
go_on (Ok x) next y e f = f x
go_on (Err refusal) next y e f = absurd cc

number_small : (kind : MessageType) → type_number kind < 16
number_small types.Info = omega arith
number_small types.Data = omega arith
number_small types.Command = omega arith
number_small types.Nack = omega arith
number_small types.Ack = omega arith
number_small types.Report = omega arith

pub version_again : (octets : List ℕ) → 8 ≤ length octets → octet 0 octets / 16 ≡ 1 → version_checked octets ≡ Ok tt
version_again octets long one =
    ap (λ (b : Bool). cond b (Err (Short (length octets))) (refused_if (not (eqb (octet 0 octets / 16) 1)) (Version (octet 0 octets / 16)))) (le-ltb (length octets) 8 long)
    ∙ ap (λ (n : ℕ). refused_if (not (eqb n 1)) (Version n)) one

same_again : (n k : ℕ) → n ≡ k → refused_if (not (eqb n k)) (BadType n) ≡ Ok tt
same_again n k e = ap (λ (b : Bool). refused_if (not b) (BadType n)) (eq-eqb n k e)

pub header_again : (kind : MessageType) (octets : List ℕ) → 8 ≤ length octets → octet 0 octets ≡ 16 + type_number kind → least_words kind octets ≤ words_of octets → 4 * words_of octets ≤ length octets
    → header_checked kind octets ≡ Ok tt
unfolding header_checked
header_again kind octets long first least most =
    let small = number_small kind in
    let one : octet 0 octets / 16 ≡ 1 = omega (arith, first, small) in
    let type : type_in octets ≡ type_number kind = omega (arith, first, small) in
    go_on (version_checked octets) _ (Ok tt) (version_again octets long one)
    (λ u. go_on (refused_if (not (eqb (type_in octets) (type_number kind))) (BadType (type_in octets))) _ (Ok tt) (same_again (type_in octets) (type_number kind) type)
    (λ v. go_on (refused_if (ltb (words_of octets) (least_words kind octets)) (HeaderLength (words_of octets) (least_words kind octets))) _ (Ok tt)
    (ap (λ (b : Bool). refused_if b (HeaderLength (words_of octets) (least_words kind octets))) (le-ltb _ _ least))
    (λ w. ap (λ (b : Bool). refused_if b (PastEnd (words_of octets) (length octets))) (le-ltb _ _ most))))

pub member_again : (n : ℕ) → IsMember n → member_checked n ≡ Ok tt
member_again n is =
    let some : eqb n 0 ≡ false = ne_eqb n 0 (λ e. absurd (omega (arith, is.0))) in
    let one : eqb n 4294967295 ≡ false = ne_eqb n 4294967295 (λ e. absurd (omega (arith, is.1))) in
    ap (λ (b : Bool). refused_if (b || eqb n 4294967295) BadNode) some ∙ ap (λ (b : Bool). refused_if b BadNode) one

pub list_again : (width : ℕ) (xs : List ℕ) → length xs % width ≡ 0 → list_checked width xs ≡ Ok tt
list_again width xs whole = ap (λ (n : ℕ). refused_if (not (eqb n 0)) (BadList n)) whole

-- ---- the extensions, and what stands behind them

pub record TailAgain (words : ℕ) (octets : List ℕ) (list : List Extension) (content : List ℕ) : Type 0 where
  pub checked : header_extensions_checked (4 * words) octets ≡ Ok tt
  pub list_is : extensions_of (header_from (4 * words) octets) ≡ list
  pub content_is : content_of octets ≡ content
  pub least : words ≤ words_of octets
  pub most : 4 * words_of octets ≤ length octets

pub tail_again : (words : ℕ) (octets : List ℕ) (list : List Extension) (content : List ℕ) → AreExtensions words list → words_of octets ≡ words_with words list
    → 4 * words ≤ length octets → drop (4 * words) octets ≡ extensions_octets list ++ content → TailAgain words octets list content
tail_again words octets list content is words-is long behind =
    let exts : List ℕ = extensions_octets list in
    let whole : length exts % 4 ≡ 0 = extension_size list is.each in
    let end : 4 * words_of octets ≡ 4 * words + length exts = omega (arith, words-is, whole) in
    let size : 4 * words_of octets - 4 * words ≡ length exts = omega (arith, end) in
    let header-is : header_from (4 * words) octets ≡ exts =
    ap (λ (n : ℕ). take n (drop (4 * words) octets)) size ∙ ap (take (length exts)) behind ∙ take_at exts content (length exts) refl in
    record {
      checked = ap (λ (t : List ℕ). extension_refused (extensions_checked (4 * words) t)) header-is
          ∙ ap extension_refused (checked_again extension_octets IsExtension first_extension extension_length extension_checked extension_kind (4 * words) list is.each);
      list_is = ap extensions_of header-is ∙ pieces_again extension_octets IsExtension first_extension extension_length extension_checked extension_kind list is.each;
      content_is = ap (λ (n : ℕ). drop n octets) end ∙ sym (drop-drop (length exts) (4 * words) octets) ∙ ap (drop (length exts)) behind ∙ drop_at exts content (length exts) refl;
      least = omega (arith, words-is);
      most = omega (arith, end, long, ap length behind, length-drop (4 * words) octets, length-append exts content);
    }

-- ---- the fixed fields

quotient_16 : (b g : ℕ) → g < 16 → (16 * b + g) / 16 ≡ b
quotient_16 b g lt = omega (arith, lt)

remainder_16 : (b g : ℕ) → g < 16 → (16 * b + g) % 16 ≡ g
remainder_16 b g lt = omega (arith, lt)

pub object_head_again : (kind words : ℕ) (h : ObjHead) (rest : List ℕ) → IsObjectHead h → object_head_of ((front_octets kind words h.sequence h.source ++ object_octets h) ++ rest) ≡ h
object_head_again kind words h rest is =
    rw (
      again_4 h.source (object_octets h ++ rest) (omega (arith, is.source.1)),
      again_2 h.sequence [] is.sequence,
      again_2 h.instance [] is.instance,
      again_2 h.object [] is.object,
      quotient_16 h.backoff h.gsize is.gsize,
      remainder_16 h.backoff h.gsize is.gsize,
    ) refl

pub command_head_again : (words sub_type : ℕ) (h : CmdHead) (rest : List ℕ) → IsCommandHead h → command_head_of ((front_octets 3 words h.sequence h.source ++ command_octets h sub_type) ++ rest) ≡ h
command_head_again words sub_type h rest is =
    rw (
      again_4 h.source (command_octets h sub_type ++ rest) (omega (arith, is.source.1)),
      again_2 h.sequence [] is.sequence,
      again_2 h.instance [] is.instance,
      quotient_16 h.backoff h.gsize is.gsize,
      remainder_16 h.backoff h.gsize is.gsize,
    ) refl

-- ---- requests

pub requests_pass : (at : ℕ) (xs : List ℕ) (requests : List Request) → AllByRecursion IsRequest requests → xs ≡ requests_octets requests → requests_checked at xs ≡ Ok tt
requests_pass at xs requests all is = ap (requests_checked at) is ∙ checked_again request_octets IsRequest first_request request_length request_checked request_kind at requests all

pub requests_again : (xs : List ℕ) (requests : List Request) → AllByRecursion IsRequest requests → xs ≡ requests_octets requests → requests_of xs ≡ requests
requests_again xs requests all is = ap requests_of is ∙ pieces_again request_octets IsRequest first_request request_length request_checked request_kind requests all
