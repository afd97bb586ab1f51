-- What octets spell is read of them, whatever stands in the reserved places.
use Rattle.std.proofs.Common.{◌≡◌, ℕ, ◌*◌, ◌⊎◌, inl, inr, cond, eqb, not, ◌&&◌, ◌||◌, Bool, true, false, List, [], ◌∷◌, ◌++◌, length, Result, Ok, refl, sym, ap, ◌∙◌, arith, append-nil, ne_eqb}
use Rattle.std.proofs.lemmas.Bool.{eq-eqb}
use Rattle.fec_plan.specs.Payload.{Name, name_octets}
use Rattle.norm_ext.specs.Steps.{◌>>=◌, refused_if, some_or}
use Rattle.norm_ext.specs.Numbers.{octet, number, name_at, sub_type_of}
use Rattle.norm_ext.specs.Extensions.{Extension, extensions_of}
use Rattle.norm_ext.specs.Requests.{item_octets, IsItem}
use Rattle.norm_ext.specs.Message.{FlushCommand, EotCommand, SquelchCommand, RepairAdvCommand, AckReqCommand, OpaqueCommand, AckMessage, Message, Info, Data, Flush, Eot, Squelch, RepairAdv, AckReq, Opaque, Nack, Ack, Report, AckContent, Mark, Unread}
use Rattle.norm_ext.specs.Octets.{extensions_octets, requests_octets, nodes_octets, objects_octets, octets_with, reserved_octets}
use Rattle.norm_ext.specs.Spells.{IsFlush, IsEot, IsSquelch, IsRepairAdv, IsAckReq, IsOpaque, IsAck, IsMessage, Spells}
use Rattle.norm_ext.specs.Reading.{words_of, content_of, header_from, header_checked, header_extensions_checked, member_checked, source_of, sequence_of, version_checked, sub_type_in, command_by, command_read, ack_encoding_checked, ack_length_checked, ack_content_of, ack_read, decoded}
use Rattle.norm_ext.specs.declared.head.Item.{Item}
use Rattle.norm_ext.specs.declared.kinds.MessageType.TheVariants as types
use Rattle.norm_ext.specs.declared.kinds.SubType.TheVariants as commands
use Rattle.norm_ext.specs.declared.refusal.Refusal.{Refusal}
use Rattle.norm_ext.specs.declared.refusal.Refusal.TheVariants.{ItemFec, BadList}
use Rattle.norm_ext.specs.declared.refusal.Refusal.TheVariants as refusals
use Rattle.norm_ext.proofs.NumberLemmas.{again_2, again_4, name_again}
use Rattle.norm_ext.proofs.MessageLemmas.{mark_in}
use Rattle.norm_ext.proofs.AgainLemmas.{go_on, header_again, member_again, version_again, tail_again}
use Rattle.norm_ext.proofs.Again.{info_again, data_again, flush_again, squelch_again, eot_again, repair_adv_again, ack_req_again, opaque_again, nack_again, report_again}

-- ---- acknowledgements

and_false : (b : Bool) → (b && false) ≡ false
and_false true = refl
and_false false = refl

abbrev ack_as : ℕ → ℕ → ℕ → ℕ → ℕ → ℕ → List Extension → AckContent → AckMessage
ack_as source sequence sender instance ack_type ack_id extensions content =
    record {
      source = source;
      sequence = sequence;
      sender = sender;
      instance = instance;
      ack_type = ack_type;
      ack_id = ack_id;
      extensions = extensions;
      content = content;
    }

abbrev ack_ok : ℕ → ℕ → ℕ → ℕ → ℕ → ℕ → List Extension → AckContent → Result Message Refusal
ack_ok source sequence sender instance ack_type ack_id extensions content = Ok (Ack (ack_as source sequence sender instance ack_type ack_id extensions content))

-- the content of a flush's acknowledgement that is spelled
mark_again : (ack_type reserved : ℕ) (item : Item) → ack_type ≡ 2 → IsItem item
    → ack_content_of ack_type (item_octets (record { reserved = reserved; item = item }) ++ []) ≡ Mark item
mark_again ack_type reserved item two is =
    ap (λ (b : Bool). cond b (Mark (mark_in (item_octets (record { reserved = reserved; item = item }) ++ []))) (Unread (item_octets (record { reserved = reserved; item = item }) ++ []))) (eq-eqb ack_type 2 two)
    ∙ ap (λ (n : ℕ). Mark (let x : Item = record { object = n; id = name_at 0 (name_octets item.id ++ []) } in x)) (again_2 item.object [] is.object)
    ∙ ap (λ (n : Name). Mark (let x : Item = record { object = item.object; id = n } in x)) (name_again item.id [] is.id)

ack_again : (source sequence sender instance ack_type ack_id : ℕ) (extensions : List Extension) (content : AckContent) (reserved : List ℕ)
    → IsAck (ack_as source sequence sender instance ack_type ack_id extensions content)
    → length reserved ≡ reserved_octets (Ack (ack_as source sequence sender instance ack_type ack_id extensions content))
    → ack_read (octets_with (Ack (ack_as source sequence sender instance ack_type ack_id extensions content)) reserved) ≡ ack_ok source sequence sender instance ack_type ack_id extensions content
unfolding ack_read
ack_again source sequence sender instance ack_type ack_id extensions (Mark item) (a ∷ b ∷ c ∷ d ∷ e ∷ f ∷ g ∷ h ∷ i ∷ []) is many =
    let octets : List ℕ = octets_with (Ack (ack_as source sequence sender instance ack_type ack_id extensions (Mark item))) (a ∷ b ∷ c ∷ d ∷ e ∷ f ∷ g ∷ h ∷ i ∷ []) in
    let content : List ℕ = item_octets (record { reserved = i; item = item }) ++ [] in
    let tail = tail_again 6 octets extensions content is.extensions refl (omega arith) refl in
    let source-is : source_of octets ≡ source = again_4 source [] (omega (arith, is.source.1)) in
    let sequence-is : sequence_of octets ≡ sequence = again_2 sequence [] is.sequence in
    let sender-is : number 4 8 octets ≡ sender = again_4 sender [] (omega (arith, is.sender.1)) in
    let instance-is : number 2 12 octets ≡ instance = again_2 instance [] is.instance in
    let content-is : ack_content_of ack_type (content_of octets) ≡ (Mark item) = ap (ack_content_of ack_type) tail.content_is ∙ mark_again ack_type i item is.content.0 is.content.1 in
    go_on (header_checked types.Ack octets) _ _ (header_again types.Ack octets (omega arith) refl tail.least tail.most)
    (λ u0. go_on (header_extensions_checked 24 octets) _ _ tail.checked
    (λ u1. go_on (ack_encoding_checked ack_type (4 * words_of octets) (content_of octets)) _ _ (ap (ack_encoding_checked ack_type (4 * words_of octets)) tail.content_is ∙ ap (λ (t : Bool). refused_if t (ItemFec (4 * words_of octets) 5)) (and_false (eqb ack_type 2 && true)))
    (λ u2. go_on (member_checked (source_of octets)) _ _ (ap member_checked source-is ∙ member_again source is.source)
    (λ u3. go_on (member_checked (number 4 8 octets)) _ _ (ap member_checked sender-is ∙ member_again sender is.sender)
    (λ u4. go_on (ack_length_checked ack_type (content_of octets)) _ _ (ap (ack_length_checked ack_type) tail.content_is ∙ ap (λ (t : Bool). refused_if t (BadList 8)) (and_false (eqb ack_type 2)))
    (λ u5. ap (λ (t : ℕ). ack_ok t (sequence_of octets) (number 4 8 octets) (number 2 12 octets) ack_type ack_id (extensions_of (header_from 24 octets)) (ack_content_of ack_type (content_of octets))) source-is
    ∙ ap (λ (t : ℕ). ack_ok source t (number 4 8 octets) (number 2 12 octets) ack_type ack_id (extensions_of (header_from 24 octets)) (ack_content_of ack_type (content_of octets))) sequence-is
    ∙ ap (λ (t : ℕ). ack_ok source sequence t (number 2 12 octets) ack_type ack_id (extensions_of (header_from 24 octets)) (ack_content_of ack_type (content_of octets))) sender-is
    ∙ ap (λ (t : ℕ). ack_ok source sequence sender t ack_type ack_id (extensions_of (header_from 24 octets)) (ack_content_of ack_type (content_of octets))) instance-is
    ∙ ap (λ (t : List Extension). ack_ok source sequence sender instance ack_type ack_id t (ack_content_of ack_type (content_of octets))) tail.list_is
    ∙ ap (λ (t : AckContent). ack_ok source sequence sender instance ack_type ack_id extensions t) content-is))))))
ack_again source sequence sender instance ack_type ack_id extensions (Unread rest) (a ∷ b ∷ c ∷ d ∷ e ∷ f ∷ g ∷ h ∷ []) is many =
    let octets : List ℕ = octets_with (Ack (ack_as source sequence sender instance ack_type ack_id extensions (Unread rest))) (a ∷ b ∷ c ∷ d ∷ e ∷ f ∷ g ∷ h ∷ []) in
    let content : List ℕ = rest in
    let tail = tail_again 6 octets extensions content is.extensions refl (omega arith) refl in
    let source-is : source_of octets ≡ source = again_4 source [] (omega (arith, is.source.1)) in
    let sequence-is : sequence_of octets ≡ sequence = again_2 sequence [] is.sequence in
    let sender-is : number 4 8 octets ≡ sender = again_4 sender [] (omega (arith, is.sender.1)) in
    let instance-is : number 2 12 octets ≡ instance = again_2 instance [] is.instance in
    let content-is : ack_content_of ack_type (content_of octets) ≡ (Unread rest) = ap (ack_content_of ack_type) tail.content_is ∙ ap (λ (t : Bool). cond t (Mark (mark_in rest)) (Unread rest)) (ne_eqb ack_type 2 is.content) in
    go_on (header_checked types.Ack octets) _ _ (header_again types.Ack octets (omega arith) refl tail.least tail.most)
    (λ u0. go_on (header_extensions_checked 24 octets) _ _ tail.checked
    (λ u1. go_on (ack_encoding_checked ack_type (4 * words_of octets) (content_of octets)) _ _ (ap (ack_encoding_checked ack_type (4 * words_of octets)) tail.content_is ∙ ap (λ (t : Bool). refused_if (t && eqb (length rest) 8 && not (eqb (octet 0 rest) 5)) (ItemFec (4 * words_of octets) (octet 0 rest))) (ne_eqb ack_type 2 is.content))
    (λ u2. go_on (member_checked (source_of octets)) _ _ (ap member_checked source-is ∙ member_again source is.source)
    (λ u3. go_on (member_checked (number 4 8 octets)) _ _ (ap member_checked sender-is ∙ member_again sender is.sender)
    (λ u4. go_on (ack_length_checked ack_type (content_of octets)) _ _ (ap (ack_length_checked ack_type) tail.content_is ∙ ap (λ (t : Bool). refused_if (t && not (eqb (length rest) 8)) (BadList (length rest))) (ne_eqb ack_type 2 is.content))
    (λ u5. ap (λ (t : ℕ). ack_ok t (sequence_of octets) (number 4 8 octets) (number 2 12 octets) ack_type ack_id (extensions_of (header_from 24 octets)) (ack_content_of ack_type (content_of octets))) source-is
    ∙ ap (λ (t : ℕ). ack_ok source t (number 4 8 octets) (number 2 12 octets) ack_type ack_id (extensions_of (header_from 24 octets)) (ack_content_of ack_type (content_of octets))) sequence-is
    ∙ ap (λ (t : ℕ). ack_ok source sequence t (number 2 12 octets) ack_type ack_id (extensions_of (header_from 24 octets)) (ack_content_of ack_type (content_of octets))) sender-is
    ∙ ap (λ (t : ℕ). ack_ok source sequence sender t ack_type ack_id (extensions_of (header_from 24 octets)) (ack_content_of ack_type (content_of octets))) instance-is
    ∙ ap (λ (t : List Extension). ack_ok source sequence sender instance ack_type ack_id t (ack_content_of ack_type (content_of octets))) tail.list_is
    ∙ ap (λ (t : AckContent). ack_ok source sequence sender instance ack_type ack_id extensions t) content-is))))))
ack_again source sequence sender instance ack_type ack_id extensions (Mark item) _ is many = absurd (omega (arith, many))
ack_again source sequence sender instance ack_type ack_id extensions (Unread rest) _ is many = absurd (omega (arith, many))

-- ---- commands

command_flush : (m : FlushCommand) (reserved : List ℕ) → IsFlush m → length reserved ≡ 0 → command_read (octets_with (Flush m) reserved) ≡ Ok (Flush m)
unfolding command_read
command_flush m reserved is many =
    let octets : List ℕ = octets_with (Flush m) reserved in
    let tail = tail_again 5 octets m.extensions (nodes_octets m.nodes) is.extensions refl (omega arith) refl in
    go_on (header_checked types.Command octets) _ _ (header_again types.Command octets (omega arith) refl tail.least tail.most) (λ u. flush_again m reserved is)

command_squelch : (m : SquelchCommand) (reserved : List ℕ) → IsSquelch m → length reserved ≡ 0 → command_read (octets_with (Squelch m) reserved) ≡ Ok (Squelch m)
unfolding command_read
command_squelch m reserved is many =
    let octets : List ℕ = octets_with (Squelch m) reserved in
    let tail = tail_again 5 octets m.extensions (objects_octets m.invalid) is.extensions refl (omega arith) refl in
    go_on (header_checked types.Command octets) _ _ (header_again types.Command octets (omega arith) refl tail.least tail.most) (λ u. squelch_again m reserved is)

command_eot : (m : EotCommand) (reserved : List ℕ) → IsEot m → length reserved ≡ 3 → command_read (octets_with (Eot m) reserved) ≡ Ok (Eot m)
unfolding command_read
command_eot m (a ∷ b ∷ c ∷ []) is many =
    let octets : List ℕ = octets_with (Eot m) (a ∷ b ∷ c ∷ []) in
    let tail = tail_again 4 octets m.extensions ([]) is.extensions refl (omega arith) (sym (append-nil (extensions_octets m.extensions))) in
    go_on (header_checked types.Command octets) _ _ (header_again types.Command octets (omega arith) refl tail.least tail.most) (λ u. eot_again m (a ∷ b ∷ c ∷ []) is many)
command_eot m _ is many = absurd (omega (arith, many))

command_repair_adv : (m : RepairAdvCommand) (reserved : List ℕ) → IsRepairAdv m → length reserved ≡ 2 → command_read (octets_with (RepairAdv m) reserved) ≡ Ok (RepairAdv m)
unfolding command_read
command_repair_adv m (a ∷ b ∷ []) is many =
    let octets : List ℕ = octets_with (RepairAdv m) (a ∷ b ∷ []) in
    let tail = tail_again 4 octets m.extensions (requests_octets m.requests) is.extensions refl (omega arith) refl in
    go_on (header_checked types.Command octets) _ _ (header_again types.Command octets (omega arith) refl tail.least tail.most) (λ u. repair_adv_again m (a ∷ b ∷ []) is many)
command_repair_adv m _ is many = absurd (omega (arith, many))

command_ack_req : (m : AckReqCommand) (reserved : List ℕ) → IsAckReq m → length reserved ≡ 1 → command_read (octets_with (AckReq m) reserved) ≡ Ok (AckReq m)
unfolding command_read
command_ack_req m (a ∷ []) is many =
    let octets : List ℕ = octets_with (AckReq m) (a ∷ []) in
    let tail = tail_again 4 octets m.extensions (nodes_octets m.nodes) is.extensions refl (omega arith) refl in
    go_on (header_checked types.Command octets) _ _ (header_again types.Command octets (omega arith) refl tail.least tail.most) (λ u. ack_req_again m (a ∷ []) is many)
command_ack_req m _ is many = absurd (omega (arith, many))

-- the sub-type of a command that is not read
opaque_by : (octets : List ℕ) (message : Result Message Refusal) → (octet 12 octets ≡ 4) ⊎ (octet 12 octets ≡ 7) → command_by commands.CongestionControl octets ≡ message
    → (sub_type_in octets >>= λ sub_type. command_by sub_type octets) ≡ message
opaque_by octets message (inl four) e = ap (λ (n : ℕ). some_or (sub_type_of n) (refusals.SubType n) >>= λ sub_type. command_by sub_type octets) four ∙ e
opaque_by octets message (inr seven) e = ap (λ (n : ℕ). some_or (sub_type_of n) (refusals.SubType n) >>= λ sub_type. command_by sub_type octets) seven ∙ e

abbrev least_by : ℕ → ℕ
least_by n = cond (eqb n 1 || eqb n 3) 5 4

opaque_least : (n : ℕ) → (n ≡ 4) ⊎ (n ≡ 7) → least_by n ≡ 4
opaque_least n (inl four) = ap least_by four
opaque_least n (inr seven) = ap least_by seven

command_opaque : (m : OpaqueCommand) (reserved : List ℕ) → IsOpaque m → command_read (octets_with (Opaque m) reserved) ≡ Ok (Opaque m)
unfolding command_read
command_opaque m reserved is =
    let octets : List ℕ = octets_with (Opaque m) reserved in
    let four = opaque_least m.sub_type is.sub_type in
    go_on (header_checked types.Command octets) _ _ (header_again types.Command octets (omega arith) refl (omega (arith, four, is.least)) (omega (arith, is.whole)))
    (λ u. opaque_by octets (Ok (Opaque m)) is.sub_type (opaque_again m reserved is))

-- ---- any message

spelled_with : (m : Message) (reserved : List ℕ) → IsMessage m → length reserved ≡ reserved_octets m → decoded (octets_with m reserved) ≡ Ok m
unfolding decoded
spelled_with (Info m) reserved is many =
    let octets : List ℕ = octets_with (Info m) reserved in
    go_on (version_checked octets) _ _ (version_again octets (omega arith) refl) (λ u. info_again m reserved is)
spelled_with (Data m) reserved is many =
    let octets : List ℕ = octets_with (Data m) reserved in
    go_on (version_checked octets) _ _ (version_again octets (omega arith) refl) (λ u. data_again m reserved is)
spelled_with (Flush m) reserved is many =
    let octets : List ℕ = octets_with (Flush m) reserved in
    go_on (version_checked octets) _ _ (version_again octets (omega arith) refl) (λ u. command_flush m reserved is many)
spelled_with (Squelch m) reserved is many =
    let octets : List ℕ = octets_with (Squelch m) reserved in
    go_on (version_checked octets) _ _ (version_again octets (omega arith) refl) (λ u. command_squelch m reserved is many)
spelled_with (Eot m) reserved is many =
    let octets : List ℕ = octets_with (Eot m) reserved in
    go_on (version_checked octets) _ _ (version_again octets (omega arith) refl) (λ u. command_eot m reserved is many)
spelled_with (RepairAdv m) reserved is many =
    let octets : List ℕ = octets_with (RepairAdv m) reserved in
    go_on (version_checked octets) _ _ (version_again octets (omega arith) refl) (λ u. command_repair_adv m reserved is many)
spelled_with (AckReq m) reserved is many =
    let octets : List ℕ = octets_with (AckReq m) reserved in
    go_on (version_checked octets) _ _ (version_again octets (omega arith) refl) (λ u. command_ack_req m reserved is many)
spelled_with (Opaque m) reserved is many =
    let octets : List ℕ = octets_with (Opaque m) reserved in
    go_on (version_checked octets) _ _ (version_again octets (omega arith) refl) (λ u. command_opaque m reserved is)
spelled_with (Nack m) reserved is many =
    let octets : List ℕ = octets_with (Nack m) reserved in
    go_on (version_checked octets) _ _ (version_again octets (omega arith) refl) (λ u. nack_again m reserved is many)
spelled_with (Ack m) reserved is many =
    let octets : List ℕ = octets_with (Ack m) reserved in
    go_on (version_checked octets) _ _ (version_again octets (omega arith) refl) (λ u. ack_again m.source m.sequence m.sender m.instance m.ack_type m.ack_id m.extensions m.content reserved is many)
spelled_with (Report m) reserved is many =
    let octets : List ℕ = octets_with (Report m) reserved in
    go_on (version_checked octets) _ _ (version_again octets (omega arith) refl) (λ u. report_again m reserved is)

pub spelled_is_read : (m : Message) (octets : List ℕ) → Spells m octets → decoded octets ≡ Ok m
spelled_is_read m octets s = ap decoded s.spelled ∙ spelled_with m s.reserved s.fits s.many
