-- What is read of octets is spelled by them.
use Rattle.std.proofs.Common.{◌≡◌, ℕ, ◌*◌, ◌%◌, ◌≤◌, ◌⊎◌, inl, inr, cond, eqb, ◌&&◌, ◌||◌, not, Bool, true, false, List, length, Option, Some, None, Result, Ok, refl, sym, ap, subst, ◌∙◌, arith}
use Rattle.std.proofs.lemmas.Bool.{eqb-true, eqb-false}
use Rattle.norm_ext.specs.Steps.{refused_if, some_or}
use Rattle.norm_ext.specs.Numbers.{octet, number, sub_type_of, sub_type_number}
use Rattle.norm_ext.specs.Extensions.{extensions_of}
use Rattle.norm_ext.specs.Requests.{requests_checked}
use Rattle.norm_ext.specs.Message.{Message, Ack, Mark, Unread}
use Rattle.norm_ext.specs.Spells.{Spells}
use Rattle.norm_ext.specs.Reading.{words_of, content_of, header_from, least_words, version_checked, header_checked, encoding_checked, header_extensions_checked, member_checked, list_checked, source_of, sequence_of, info_read, data_read, flush_read, eot_read, squelch_read, repair_adv_read, ack_req_read, opaque_read, sub_type_in, command_by, command_read, nack_read, ack_encoding_checked, ack_length_checked, ack_read, report_read, read_as, known_type, decoded}
use Rattle.norm_ext.specs.declared.kinds.MessageType.{MessageType}
use Rattle.norm_ext.specs.declared.kinds.MessageType.TheVariants as types
use Rattle.norm_ext.specs.declared.kinds.SubType.{SubType}
use Rattle.norm_ext.specs.declared.kinds.SubType.TheVariants as commands
use Rattle.norm_ext.specs.declared.refusal.Refusal.{Refusal}
use Rattle.norm_ext.specs.declared.refusal.Refusal.TheVariants.{BadType, BadList, ItemFec}
use Rattle.norm_ext.specs.declared.refusal.Refusal.TheVariants as refusals
use Rattle.norm_base.specs.Octets.{AreOctets}
use Rattle.norm_ext.proofs.RequestLemmas.{not_refused, so_not, chosen}
use Rattle.norm_ext.proofs.MessageLemmas.{bind_ok, pass_ok, IsHeader, header_is, encoding_is, mark_in}
use Rattle.norm_ext.proofs.Takes.{info_spelled, data_spelled, flush_spelled, squelch_spelled, eot_spelled, repair_adv_spelled, ack_req_spelled, opaque_spelled, nack_spelled, ack_mark_spelled, ack_unread_spelled, report_spelled}

abbrev as_ok : Message → Result Message Refusal
as_ok m = Ok m

ok_same : (x y : Message) → as_ok x ≡ as_ok y → x ≡ y
ok_same x y e = cc

list_is : (width : ℕ) (xs : List ℕ) → list_checked width xs ≡ Ok tt → length xs % width ≡ 0
list_is width xs e = eqb-true (length xs % width) 0 (so_not _ (not_refused (not (eqb (length xs % width) 0)) (BadList (length xs % width)) e))

none_is : (xs : List ℕ) → refused_if (not (eqb (length xs) 0)) (BadList (length xs)) ≡ Ok tt → length xs ≡ 0
none_is xs e = eqb-true (length xs) 0 (so_not _ (not_refused (not (eqb (length xs) 0)) (BadList (length xs)) e))

info_takes : (octets : List ℕ) (m : Message) → AreOctets octets → info_read octets ≡ Ok m → Spells m octets
unfolding info_read
info_takes octets m fits e =
    let header = pass_ok (header_checked types.Info octets) _ m e in
    let encoding = pass_ok (encoding_checked (octet 13 octets)) _ m header.1 in
    let extensions = pass_ok (header_extensions_checked 16 octets) _ m encoding.1 in
    let source = pass_ok (member_checked (source_of octets)) _ m extensions.1 in
    let is = header_is types.Info octets header.0 in
    let same = ok_same _ m source.1 in
    subst (λ (x : Message). Spells x octets) same (info_spelled octets fits is.first is.least is.most (encoding_is (octet 13 octets) encoding.0) extensions.0 source.0)

data_takes : (octets : List ℕ) (m : Message) → AreOctets octets → data_read octets ≡ Ok m → Spells m octets
unfolding data_read
data_takes octets m fits e =
    let header = pass_ok (header_checked types.Data octets) _ m e in
    let encoding = pass_ok (encoding_checked (octet 13 octets)) _ m header.1 in
    let extensions = pass_ok (header_extensions_checked 20 octets) _ m encoding.1 in
    let source = pass_ok (member_checked (source_of octets)) _ m extensions.1 in
    let is = header_is types.Data octets header.0 in
    let same = ok_same _ m source.1 in
    subst (λ (x : Message). Spells x octets) same (data_spelled octets fits is.first is.least is.most (encoding_is (octet 13 octets) encoding.0) extensions.0 source.0)

flush_takes : (octets : List ℕ) (m : Message) → AreOctets octets → octet 0 octets ≡ 19 → 5 ≤ words_of octets → 4 * words_of octets ≤ length octets → octet 12 octets ≡ 1 → flush_read octets ≡ Ok m → Spells m octets
unfolding flush_read
flush_takes octets m fits first least most sub e =
    let encoding = pass_ok (encoding_checked (octet 13 octets)) _ m e in
    let extensions = pass_ok (header_extensions_checked 20 octets) _ m encoding.1 in
    let source = pass_ok (member_checked (source_of octets)) _ m extensions.1 in
    let list = pass_ok (list_checked 4 (content_of octets)) _ m source.1 in
    let same = ok_same _ m list.1 in
    subst (λ (x : Message). Spells x octets) same (flush_spelled octets fits first least most sub (encoding_is (octet 13 octets) encoding.0) extensions.0 source.0 (list_is 4 (content_of octets) list.0))

squelch_takes : (octets : List ℕ) (m : Message) → AreOctets octets → octet 0 octets ≡ 19 → 5 ≤ words_of octets → 4 * words_of octets ≤ length octets → octet 12 octets ≡ 3 → squelch_read octets ≡ Ok m → Spells m octets
unfolding squelch_read
squelch_takes octets m fits first least most sub e =
    let encoding = pass_ok (encoding_checked (octet 13 octets)) _ m e in
    let extensions = pass_ok (header_extensions_checked 20 octets) _ m encoding.1 in
    let source = pass_ok (member_checked (source_of octets)) _ m extensions.1 in
    let list = pass_ok (list_checked 2 (content_of octets)) _ m source.1 in
    let same = ok_same _ m list.1 in
    subst (λ (x : Message). Spells x octets) same (squelch_spelled octets fits first least most sub (encoding_is (octet 13 octets) encoding.0) extensions.0 source.0 (list_is 2 (content_of octets) list.0))

eot_takes : (octets : List ℕ) (m : Message) → AreOctets octets → octet 0 octets ≡ 19 → 4 ≤ words_of octets → 4 * words_of octets ≤ length octets → octet 12 octets ≡ 2 → eot_read octets ≡ Ok m → Spells m octets
unfolding eot_read
eot_takes octets m fits first least most sub e =
    let extensions = pass_ok (header_extensions_checked 16 octets) _ m e in
    let source = pass_ok (member_checked (source_of octets)) _ m extensions.1 in
    let content = pass_ok (refused_if (not (eqb (length (content_of octets)) 0)) (BadList (length (content_of octets)))) _ m source.1 in
    let same = ok_same _ m content.1 in
    subst (λ (x : Message). Spells x octets) same (eot_spelled octets fits first least most sub extensions.0 source.0 (none_is (content_of octets) content.0))

repair_adv_takes : (octets : List ℕ) (m : Message) → AreOctets octets → octet 0 octets ≡ 19 → 4 ≤ words_of octets → 4 * words_of octets ≤ length octets → octet 12 octets ≡ 5 → repair_adv_read octets ≡ Ok m → Spells m octets
unfolding repair_adv_read
repair_adv_takes octets m fits first least most sub e =
    let extensions = pass_ok (header_extensions_checked 16 octets) _ m e in
    let requests = pass_ok (requests_checked (4 * words_of octets) (content_of octets)) _ m extensions.1 in
    let source = pass_ok (member_checked (source_of octets)) _ m requests.1 in
    let same = ok_same _ m source.1 in
    subst (λ (x : Message). Spells x octets) same (repair_adv_spelled octets fits first least most sub extensions.0 source.0 requests.0)

ack_req_takes : (octets : List ℕ) (m : Message) → AreOctets octets → octet 0 octets ≡ 19 → 4 ≤ words_of octets → 4 * words_of octets ≤ length octets → octet 12 octets ≡ 6 → ack_req_read octets ≡ Ok m → Spells m octets
unfolding ack_req_read
ack_req_takes octets m fits first least most sub e =
    let extensions = pass_ok (header_extensions_checked 16 octets) _ m e in
    let source = pass_ok (member_checked (source_of octets)) _ m extensions.1 in
    let list = pass_ok (list_checked 4 (content_of octets)) _ m source.1 in
    let same = ok_same _ m list.1 in
    subst (λ (x : Message). Spells x octets) same (ack_req_spelled octets fits first least most sub extensions.0 source.0 (list_is 4 (content_of octets) list.0))

opaque_takes : (octets : List ℕ) (m : Message) → AreOctets octets → octet 0 octets ≡ 19 → 4 ≤ words_of octets → 4 * words_of octets ≤ length octets → (octet 12 octets ≡ 4) ⊎ (octet 12 octets ≡ 7) → opaque_read octets ≡ Ok m → Spells m octets
unfolding opaque_read
opaque_takes octets m fits first least most sub e =
    let source = pass_ok (member_checked (source_of octets)) _ m e in
    let same = ok_same _ m source.1 in
    subst (λ (x : Message). Spells x octets) same (opaque_spelled octets fits first least most sub source.0)

nack_takes : (octets : List ℕ) (m : Message) → AreOctets octets → nack_read octets ≡ Ok m → Spells m octets
unfolding nack_read
nack_takes octets m fits e =
    let header = pass_ok (header_checked types.Nack octets) _ m e in
    let extensions = pass_ok (header_extensions_checked 24 octets) _ m header.1 in
    let requests = pass_ok (requests_checked (4 * words_of octets) (content_of octets)) _ m extensions.1 in
    let source = pass_ok (member_checked (source_of octets)) _ m requests.1 in
    let sender = pass_ok (member_checked (number 4 8 octets)) _ m source.1 in
    let is = header_is types.Nack octets header.0 in
    let same = ok_same _ m sender.1 in
    subst (λ (x : Message). Spells x octets) same (nack_spelled octets fits is.first is.least is.most extensions.0 source.0 sender.0 requests.0)

report_takes : (octets : List ℕ) (m : Message) → AreOctets octets → report_read octets ≡ Ok m → Spells m octets
unfolding report_read
report_takes octets m fits e =
    let header = pass_ok (header_checked types.Report octets) _ m e in
    let source = pass_ok (member_checked (source_of octets)) _ m header.1 in
    let is = header_is types.Report octets header.0 in
    let same = ok_same _ m source.1 in
    subst (λ (x : Message). Spells x octets) same (report_spelled octets fits is.first is.least is.most source.0)

-- ---- acknowledgements

-- what is known of a flush's acknowledgement, and of another
tests : (two eight : Bool) (id : ℕ) (a b : Refusal) → refused_if (two && eight && not (eqb id 5)) a ≡ Ok tt → refused_if (two && not eight) b ≡ Ok tt
    → two ≡ true → (eight ≡ true) × (id ≡ 5)
tests true true id a b x y is = (refl, eqb-true id 5 (so_not (eqb id 5) (not_refused (not (eqb id 5)) a x)))
tests true false id a b x y is = absurd cc
tests false eight id a b x y is = absurd cc

ack_by : (two : Bool) (octets : List ℕ) → AreOctets octets → octet 0 octets ≡ 21 → 6 ≤ words_of octets → 4 * words_of octets ≤ length octets
    → header_extensions_checked 24 octets ≡ Ok tt → member_checked (source_of octets) ≡ Ok tt → member_checked (number 4 8 octets) ≡ Ok tt
    → eqb (octet 14 octets) 2 ≡ two
    → ack_encoding_checked (octet 14 octets) (4 * words_of octets) (content_of octets) ≡ Ok tt → ack_length_checked (octet 14 octets) (content_of octets) ≡ Ok tt
    → Spells (Ack (
    record {
      source = source_of octets;
      sequence = sequence_of octets;
      sender = number 4 8 octets;
      instance = number 2 12 octets;
      ack_type = octet 14 octets;
      ack_id = octet 15 octets;
      extensions = extensions_of (header_from 24 octets);
      content = cond two (Mark (mark_in (content_of octets))) (Unread (content_of octets));
    })) octets
ack_by true octets fits first least most extensions source sender is encoding size =
    let content : List ℕ = content_of octets in
    let t = tests (eqb (octet 14 octets) 2) (eqb (length content) 8) (octet 0 content) (ItemFec (4 * words_of octets) (octet 0 content)) (BadList (length content)) encoding size is in
    ack_mark_spelled octets fits first least most extensions source sender (eqb-true (octet 14 octets) 2 is) (eqb-true (length content) 8 t.0) t.1
ack_by false octets fits first least most extensions source sender is encoding size =
    ack_unread_spelled octets fits first least most extensions source sender (eqb-false (octet 14 octets) 2 is)

ack_takes : (octets : List ℕ) (m : Message) → AreOctets octets → ack_read octets ≡ Ok m → Spells m octets
unfolding ack_read
ack_takes octets m fits e =
    let content : List ℕ = content_of octets in
    let kind : ℕ = octet 14 octets in
    let header = pass_ok (header_checked types.Ack octets) _ m e in
    let extensions = pass_ok (header_extensions_checked 24 octets) _ m header.1 in
    let encoding = pass_ok (ack_encoding_checked kind (4 * words_of octets) content) _ m extensions.1 in
    let source = pass_ok (member_checked (source_of octets)) _ m encoding.1 in
    let sender = pass_ok (member_checked (number 4 8 octets)) _ m source.1 in
    let size = pass_ok (ack_length_checked kind content) _ m sender.1 in
    let is = header_is types.Ack octets header.0 in
    let same = ok_same _ m size.1 in
    subst (λ (x : Message). Spells x octets) same
    (ack_by (eqb kind 2) octets fits is.first is.least is.most extensions.0 source.0 sender.0 refl encoding.0 size.0)

-- ---- commands

flush_least : (octets : List ℕ) (least : ℕ) → least ≡ least_words types.Command octets → octet 12 octets ≡ 1 → least ≡ 5
flush_least octets least is sub = is ∙ ap (λ (n : ℕ). cond (eqb n 1 || eqb n 3) 5 4) sub

squelch_least : (octets : List ℕ) (least : ℕ) → least ≡ least_words types.Command octets → octet 12 octets ≡ 3 → least ≡ 5
squelch_least octets least is sub = is ∙ ap (λ (n : ℕ). cond (eqb n 1 || eqb n 3) 5 4) sub

other_least : (b : Bool) → 4 ≤ cond b 5 4
other_least true = omega arith
other_least false = omega arith

four : (octets : List ℕ) → IsHeader types.Command octets → 4 ≤ words_of octets
four octets is = omega (arith, is.least, other_least (eqb (octet 12 octets) 1 || eqb (octet 12 octets) 3))

pub sub_type_is : (n : ℕ) (sub_type : SubType) → sub_type_of n ≡ Some sub_type → sub_type_number sub_type ≡ n
sub_type_is n sub_type e =
    elim (chosen (eqb n 1) (Some commands.Flush) _ (Some sub_type) e) [
      | inl w ↦ (let f : commands.Flush ≡ sub_type = cc in ap sub_type_number (sym f)) ∙ sym (eqb-true n 1 w.0)
      | inr v0 ↦
          elim (chosen (eqb n 2) (Some commands.EndOfTransmission) _ (Some sub_type) v0.1) [
            | inl w ↦ (let f : commands.EndOfTransmission ≡ sub_type = cc in ap sub_type_number (sym f)) ∙ sym (eqb-true n 2 w.0)
            | inr v1 ↦
                elim (chosen (eqb n 3) (Some commands.Squelch) _ (Some sub_type) v1.1) [
                  | inl w ↦ (let f : commands.Squelch ≡ sub_type = cc in ap sub_type_number (sym f)) ∙ sym (eqb-true n 3 w.0)
                  | inr v2 ↦
                      elim (chosen (eqb n 4) (Some commands.CongestionControl) _ (Some sub_type) v2.1) [
                        | inl w ↦ (let f : commands.CongestionControl ≡ sub_type = cc in ap sub_type_number (sym f)) ∙ sym (eqb-true n 4 w.0)
                        | inr v3 ↦
                            elim (chosen (eqb n 5) (Some commands.RepairAdvertisement) _ (Some sub_type) v3.1) [
                              | inl w ↦ (let f : commands.RepairAdvertisement ≡ sub_type = cc in ap sub_type_number (sym f)) ∙ sym (eqb-true n 5 w.0)
                              | inr v4 ↦
                                  elim (chosen (eqb n 6) (Some commands.AckRequest) _ (Some sub_type) v4.1) [
                                    | inl w ↦ (let f : commands.AckRequest ≡ sub_type = cc in ap sub_type_number (sym f)) ∙ sym (eqb-true n 6 w.0)
                                    | inr v5 ↦
                                        elim (chosen (eqb n 7) (Some commands.Application) _ (Some sub_type) v5.1) [
                                          | inl w ↦ (let f : commands.Application ≡ sub_type = cc in ap sub_type_number (sym f)) ∙ sym (eqb-true n 7 w.0)
                                          | inr v6 ↦
                                              absurd (let no : None ≡ Some sub_type = v6.1 in cc)
                                        ]
                                  ]
                            ]
                      ]
                ]
          ]
    ]

command_takes_by : (sub_type : SubType) (octets : List ℕ) (m : Message) → AreOctets octets → IsHeader types.Command octets → octet 12 octets ≡ sub_type_number sub_type
    → command_by sub_type octets ≡ Ok m → Spells m octets
command_takes_by commands.Flush octets m fits is sub e =
    flush_takes octets m fits is.first (let five = flush_least octets (least_words types.Command octets) refl sub in omega (arith, is.least, five)) is.most sub e
command_takes_by commands.Squelch octets m fits is sub e =
    squelch_takes octets m fits is.first (let five = squelch_least octets (least_words types.Command octets) refl sub in omega (arith, is.least, five)) is.most sub e
command_takes_by commands.EndOfTransmission octets m fits is sub e = eot_takes octets m fits is.first (four octets is) is.most sub e
command_takes_by commands.RepairAdvertisement octets m fits is sub e = repair_adv_takes octets m fits is.first (four octets is) is.most sub e
command_takes_by commands.AckRequest octets m fits is sub e = ack_req_takes octets m fits is.first (four octets is) is.most sub e
command_takes_by commands.CongestionControl octets m fits is sub e = opaque_takes octets m fits is.first (four octets is) is.most (inl sub) e
command_takes_by commands.Application octets m fits is sub e = opaque_takes octets m fits is.first (four octets is) is.most (inr sub) e

some_is : {A : Type 0} (o : Option A) (refusal : Refusal) (x : A) → some_or o refusal ≡ Ok x → o ≡ Some x
some_is (Some y) refusal x e = cc
some_is None refusal x e = absurd cc

command_takes : (octets : List ℕ) (m : Message) → AreOctets octets → command_read octets ≡ Ok m → Spells m octets
unfolding command_read
command_takes octets m fits e =
    let header = pass_ok (header_checked types.Command octets) _ m e in
    let sub_type = bind_ok (sub_type_in octets) _ m header.1 in
    let named = some_is (sub_type_of (octet 12 octets)) (refusals.SubType (octet 12 octets)) sub_type.0 sub_type.1 in
    command_takes_by sub_type.0 octets m fits (header_is types.Command octets header.0) (sym (sub_type_is (octet 12 octets) sub_type.0 named)) sub_type.2

-- ---- any message

takes_by : (kind : MessageType) (octets : List ℕ) (m : Message) → AreOctets octets → read_as kind octets ≡ Ok m → Spells m octets
takes_by types.Info octets m fits e = info_takes octets m fits e
takes_by types.Data octets m fits e = data_takes octets m fits e
takes_by types.Command octets m fits e = command_takes octets m fits e
takes_by types.Nack octets m fits e = nack_takes octets m fits e
takes_by types.Ack octets m fits e = ack_takes octets m fits e
takes_by types.Report octets m fits e = report_takes octets m fits e

pub read_is_spelled : (m : Message) (octets : List ℕ) → AreOctets octets → decoded octets ≡ Ok m → Spells m octets
unfolding decoded
read_is_spelled m octets fits e =
    let version = pass_ok (version_checked octets) _ m e in
    let kind = bind_ok (known_type octets) _ m version.1 in
    takes_by kind.0 octets m fits kind.2
