-- Each message that octets spell is read of them.
use Rattle.std.proofs.Common.{◌≡◌, ℕ, ◌*◌, eqb, not, List, [], ◌∷◌, ◌++◌, length, drop, Result, Ok, refl, sym, ap, ◌∙◌, arith, append-nil}
use Rattle.byteorder.specs.Endian.{big_bytes}
use Rattle.fec_plan.specs.Payload.{Name, name_octets}
use Rattle.norm_ext.specs.Steps.{refused_if}
use Rattle.norm_ext.specs.Numbers.{octet, number, name_at}
use Rattle.norm_ext.specs.Extensions.{Extension, extensions_of}
use Rattle.norm_ext.specs.Requests.{Request, requests_of, requests_checked}
use Rattle.norm_ext.specs.Lists.{nodes_of, objects_of}
use Rattle.norm_ext.specs.Message.{InfoMessage, DataMessage, FlushCommand, EotCommand, SquelchCommand, RepairAdvCommand, AckReqCommand, OpaqueCommand, NackMessage, ReportMessage, Message, Info, Data, Flush, Eot, Squelch, RepairAdv, AckReq, Opaque, Nack, Report}
use Rattle.norm_ext.specs.Octets.{extensions_octets, requests_octets, nodes_octets, objects_octets, words_with, octets_with}
use Rattle.norm_ext.specs.Spells.{IsInfo, IsData, IsFlush, IsEot, IsSquelch, IsRepairAdv, IsAckReq, IsOpaque, IsNack, IsReport}
use Rattle.norm_ext.specs.Reading.{words_of, content_of, header_from, header_checked, encoding_checked, header_extensions_checked, member_checked, list_checked, source_of, sequence_of, info_read, data_read, flush_read, eot_read, squelch_read, repair_adv_read, ack_req_read, opaque_read, nack_read, report_read}
use Rattle.norm_ext.specs.declared.head.ObjHead.{ObjHead}
use Rattle.norm_ext.specs.declared.head.CmdHead.{CmdHead}
use Rattle.norm_ext.specs.declared.kinds.MessageType.TheVariants as types
use Rattle.norm_ext.specs.declared.refusal.Refusal.{Refusal}
use Rattle.norm_ext.specs.declared.refusal.Refusal.TheVariants.{BadList}
use Rattle.norm_ext.proofs.NumberLemmas.{again_2, again_4, name_again, nodes_again, nodes_whole, objects_again, objects_whole}
use Rattle.norm_ext.proofs.AgainLemmas.{go_on, header_again, member_again, list_again, tail_again, object_head_again, command_head_again, requests_pass, requests_again}

abbrev read_ok : Message → Result Message Refusal
read_ok m = Ok m

pub info_again : (m : InfoMessage) (reserved : List ℕ) → IsInfo m → info_read (octets_with (Info m) reserved) ≡ Ok (Info m)
unfolding info_read
info_again m reserved is =
    let octets : List ℕ = octets_with (Info m) reserved in
    let tail = tail_again 4 octets m.extensions (m.info) is.extensions refl (omega arith) refl in
    let rest : List ℕ = extensions_octets m.extensions ++ m.info in
    let head = object_head_again 1 (words_with 4 m.extensions) m.head rest is.head in
    let source : source_of octets ≡ m.head.source = ap (λ (h : ObjHead). h.source) head in
    go_on (header_checked types.Info octets) _ _ (header_again types.Info octets (omega arith) refl tail.least tail.most)
    (λ u0. go_on (encoding_checked (octet 13 octets)) _ _ (refl)
    (λ u1. go_on (header_extensions_checked 16 octets) _ _ (tail.checked)
    (λ u2. go_on (member_checked (source_of octets)) _ _ (ap member_checked source ∙ member_again m.head.source is.head.source)
    (λ u3. ap (λ (t : ObjHead). read_ok (Info (record { head = t; extensions = extensions_of (header_from 16 octets); info = content_of octets }))) (head)
    ∙ ap (λ (t : List Extension). read_ok (Info (record { head = m.head; extensions = t; info = content_of octets }))) (tail.list_is)
    ∙ ap (λ (t : List ℕ). read_ok (Info (record { head = m.head; extensions = m.extensions; info = t }))) (tail.content_is)))))

pub data_again : (m : DataMessage) (reserved : List ℕ) → IsData m → data_read (octets_with (Data m) reserved) ≡ Ok (Data m)
unfolding data_read
data_again m reserved is =
    let octets : List ℕ = octets_with (Data m) reserved in
    let tail = tail_again 5 octets m.extensions (m.payload) is.extensions refl (omega arith) refl in
    let rest : List ℕ = name_octets m.id ++ (extensions_octets m.extensions ++ m.payload) in
    let head = object_head_again 2 (words_with 5 m.extensions) m.head rest is.head in
    let source : source_of octets ≡ m.head.source = ap (λ (h : ObjHead). h.source) head in
    go_on (header_checked types.Data octets) _ _ (header_again types.Data octets (omega arith) refl tail.least tail.most)
    (λ u0. go_on (encoding_checked (octet 13 octets)) _ _ (refl)
    (λ u1. go_on (header_extensions_checked 20 octets) _ _ (tail.checked)
    (λ u2. go_on (member_checked (source_of octets)) _ _ (ap member_checked source ∙ member_again m.head.source is.head.source)
    (λ u3. ap (λ (t : ObjHead). read_ok (Data (record { head = t; id = name_at 16 octets; extensions = extensions_of (header_from 20 octets); payload = content_of octets }))) (head)
    ∙ ap (λ (t : Name). read_ok (Data (record { head = m.head; id = t; extensions = extensions_of (header_from 20 octets); payload = content_of octets }))) (name_again m.id (extensions_octets m.extensions ++ m.payload) is.id)
    ∙ ap (λ (t : List Extension). read_ok (Data (record { head = m.head; id = m.id; extensions = t; payload = content_of octets }))) (tail.list_is)
    ∙ ap (λ (t : List ℕ). read_ok (Data (record { head = m.head; id = m.id; extensions = m.extensions; payload = t }))) (tail.content_is)))))

pub flush_again : (m : FlushCommand) (reserved : List ℕ) → IsFlush m → flush_read (octets_with (Flush m) reserved) ≡ Ok (Flush m)
unfolding flush_read
flush_again m reserved is =
    let octets : List ℕ = octets_with (Flush m) reserved in
    let tail = tail_again 5 octets m.extensions (nodes_octets m.nodes) is.extensions refl (omega arith) refl in
    let rest : List ℕ = (5 ∷ big_bytes 2 m.object) ++ (name_octets m.id ++ (extensions_octets m.extensions ++ nodes_octets m.nodes)) in
    let head = command_head_again (words_with 5 m.extensions) 1 m.head rest is.head in
    let source : source_of octets ≡ m.head.source = ap (λ (h : CmdHead). h.source) head in
    go_on (encoding_checked (octet 13 octets)) _ _ (refl)
    (λ u0. go_on (header_extensions_checked 20 octets) _ _ (tail.checked)
    (λ u1. go_on (member_checked (source_of octets)) _ _ (ap member_checked source ∙ member_again m.head.source is.head.source)
    (λ u2. go_on (list_checked 4 (content_of octets)) _ _ (ap (list_checked 4) tail.content_is ∙ list_again 4 (nodes_octets m.nodes) (nodes_whole m.nodes))
    (λ u3. ap (λ (t : CmdHead). read_ok (Flush (record { head = t; object = number 2 14 octets; id = name_at 16 octets; extensions = extensions_of (header_from 20 octets); nodes = nodes_of (content_of octets) }))) (head)
    ∙ ap (λ (t : ℕ). read_ok (Flush (record { head = m.head; object = t; id = name_at 16 octets; extensions = extensions_of (header_from 20 octets); nodes = nodes_of (content_of octets) }))) (again_2 m.object [] is.object)
    ∙ ap (λ (t : Name). read_ok (Flush (record { head = m.head; object = m.object; id = t; extensions = extensions_of (header_from 20 octets); nodes = nodes_of (content_of octets) }))) (name_again m.id (extensions_octets m.extensions ++ nodes_octets m.nodes) is.id)
    ∙ ap (λ (t : List Extension). read_ok (Flush (record { head = m.head; object = m.object; id = m.id; extensions = t; nodes = nodes_of (content_of octets) }))) (tail.list_is)
    ∙ ap (λ (t : List ℕ). read_ok (Flush (record { head = m.head; object = m.object; id = m.id; extensions = m.extensions; nodes = t }))) (ap nodes_of tail.content_is ∙ nodes_again m.nodes is.nodes)))))

pub squelch_again : (m : SquelchCommand) (reserved : List ℕ) → IsSquelch m → squelch_read (octets_with (Squelch m) reserved) ≡ Ok (Squelch m)
unfolding squelch_read
squelch_again m reserved is =
    let octets : List ℕ = octets_with (Squelch m) reserved in
    let tail = tail_again 5 octets m.extensions (objects_octets m.invalid) is.extensions refl (omega arith) refl in
    let rest : List ℕ = (5 ∷ big_bytes 2 m.object) ++ (name_octets m.id ++ (extensions_octets m.extensions ++ objects_octets m.invalid)) in
    let head = command_head_again (words_with 5 m.extensions) 3 m.head rest is.head in
    let source : source_of octets ≡ m.head.source = ap (λ (h : CmdHead). h.source) head in
    go_on (encoding_checked (octet 13 octets)) _ _ (refl)
    (λ u0. go_on (header_extensions_checked 20 octets) _ _ (tail.checked)
    (λ u1. go_on (member_checked (source_of octets)) _ _ (ap member_checked source ∙ member_again m.head.source is.head.source)
    (λ u2. go_on (list_checked 2 (content_of octets)) _ _ (ap (list_checked 2) tail.content_is ∙ list_again 2 (objects_octets m.invalid) (objects_whole m.invalid))
    (λ u3. ap (λ (t : CmdHead). read_ok (Squelch (record { head = t; object = number 2 14 octets; id = name_at 16 octets; extensions = extensions_of (header_from 20 octets); invalid = objects_of (content_of octets) }))) (head)
    ∙ ap (λ (t : ℕ). read_ok (Squelch (record { head = m.head; object = t; id = name_at 16 octets; extensions = extensions_of (header_from 20 octets); invalid = objects_of (content_of octets) }))) (again_2 m.object [] is.object)
    ∙ ap (λ (t : Name). read_ok (Squelch (record { head = m.head; object = m.object; id = t; extensions = extensions_of (header_from 20 octets); invalid = objects_of (content_of octets) }))) (name_again m.id (extensions_octets m.extensions ++ objects_octets m.invalid) is.id)
    ∙ ap (λ (t : List Extension). read_ok (Squelch (record { head = m.head; object = m.object; id = m.id; extensions = t; invalid = objects_of (content_of octets) }))) (tail.list_is)
    ∙ ap (λ (t : List ℕ). read_ok (Squelch (record { head = m.head; object = m.object; id = m.id; extensions = m.extensions; invalid = t }))) (ap objects_of tail.content_is ∙ objects_again m.invalid is.invalid)))))

pub eot_again : (m : EotCommand) (reserved : List ℕ) → IsEot m → length reserved ≡ 3 → eot_read (octets_with (Eot m) reserved) ≡ Ok (Eot m)
unfolding eot_read
eot_again m (a ∷ b ∷ c ∷ []) is many =
    let octets : List ℕ = octets_with (Eot m) (a ∷ b ∷ c ∷ []) in
    let tail = tail_again 4 octets m.extensions ([]) is.extensions refl (omega arith) (sym (append-nil (extensions_octets m.extensions))) in
    let rest : List ℕ = (a ∷ b ∷ c ∷ []) ++ extensions_octets m.extensions in
    let head = command_head_again (words_with 4 m.extensions) 2 m.head rest is.head in
    let source : source_of octets ≡ m.head.source = ap (λ (h : CmdHead). h.source) head in
    go_on (header_extensions_checked 16 octets) _ _ (tail.checked)
    (λ u0. go_on (member_checked (source_of octets)) _ _ (ap member_checked source ∙ member_again m.head.source is.head.source)
    (λ u1. go_on (refused_if (not (eqb (length (content_of octets)) 0)) (BadList (length (content_of octets)))) _ _ (ap (λ (t : List ℕ). refused_if (not (eqb (length t) 0)) (BadList (length t))) tail.content_is)
    (λ u2. ap (λ (t : CmdHead). read_ok (Eot (record { head = t; extensions = extensions_of (header_from 16 octets) }))) (head)
    ∙ ap (λ (t : List Extension). read_ok (Eot (record { head = m.head; extensions = t }))) (tail.list_is))))
eot_again m _ is many = absurd (omega (arith, many))

pub repair_adv_again : (m : RepairAdvCommand) (reserved : List ℕ) → IsRepairAdv m → length reserved ≡ 2 → repair_adv_read (octets_with (RepairAdv m) reserved) ≡ Ok (RepairAdv m)
unfolding repair_adv_read
repair_adv_again m (a ∷ b ∷ []) is many =
    let octets : List ℕ = octets_with (RepairAdv m) (a ∷ b ∷ []) in
    let tail = tail_again 4 octets m.extensions (requests_octets m.requests) is.extensions refl (omega arith) refl in
    let rest : List ℕ = (m.flags ∷ a ∷ b ∷ []) ++ (extensions_octets m.extensions ++ requests_octets m.requests) in
    let head = command_head_again (words_with 4 m.extensions) 5 m.head rest is.head in
    let source : source_of octets ≡ m.head.source = ap (λ (h : CmdHead). h.source) head in
    go_on (header_extensions_checked 16 octets) _ _ (tail.checked)
    (λ u0. go_on (requests_checked (4 * words_of octets) (content_of octets)) _ _ (requests_pass (4 * words_of octets) (content_of octets) m.requests is.requests tail.content_is)
    (λ u1. go_on (member_checked (source_of octets)) _ _ (ap member_checked source ∙ member_again m.head.source is.head.source)
    (λ u2. ap (λ (t : CmdHead). read_ok (RepairAdv (record { head = t; flags = octet 13 octets; extensions = extensions_of (header_from 16 octets); requests = requests_of (content_of octets) }))) (head)
    ∙ ap (λ (t : List Extension). read_ok (RepairAdv (record { head = m.head; flags = m.flags; extensions = t; requests = requests_of (content_of octets) }))) (tail.list_is)
    ∙ ap (λ (t : List Request). read_ok (RepairAdv (record { head = m.head; flags = m.flags; extensions = m.extensions; requests = t }))) (requests_again (content_of octets) m.requests is.requests tail.content_is))))
repair_adv_again m _ is many = absurd (omega (arith, many))

pub ack_req_again : (m : AckReqCommand) (reserved : List ℕ) → IsAckReq m → length reserved ≡ 1 → ack_req_read (octets_with (AckReq m) reserved) ≡ Ok (AckReq m)
unfolding ack_req_read
ack_req_again m (a ∷ []) is many =
    let octets : List ℕ = octets_with (AckReq m) (a ∷ []) in
    let tail = tail_again 4 octets m.extensions (nodes_octets m.nodes) is.extensions refl (omega arith) refl in
    let rest : List ℕ = (a ∷ m.ack_type ∷ m.ack_id ∷ []) ++ (extensions_octets m.extensions ++ nodes_octets m.nodes) in
    let head = command_head_again (words_with 4 m.extensions) 6 m.head rest is.head in
    let source : source_of octets ≡ m.head.source = ap (λ (h : CmdHead). h.source) head in
    go_on (header_extensions_checked 16 octets) _ _ (tail.checked)
    (λ u0. go_on (member_checked (source_of octets)) _ _ (ap member_checked source ∙ member_again m.head.source is.head.source)
    (λ u1. go_on (list_checked 4 (content_of octets)) _ _ (ap (list_checked 4) tail.content_is ∙ list_again 4 (nodes_octets m.nodes) (nodes_whole m.nodes))
    (λ u2. ap (λ (t : CmdHead). read_ok (AckReq (record { head = t; ack_type = octet 14 octets; ack_id = octet 15 octets; extensions = extensions_of (header_from 16 octets); nodes = nodes_of (content_of octets) }))) (head)
    ∙ ap (λ (t : List Extension). read_ok (AckReq (record { head = m.head; ack_type = m.ack_type; ack_id = m.ack_id; extensions = t; nodes = nodes_of (content_of octets) }))) (tail.list_is)
    ∙ ap (λ (t : List ℕ). read_ok (AckReq (record { head = m.head; ack_type = m.ack_type; ack_id = m.ack_id; extensions = m.extensions; nodes = t }))) (ap nodes_of tail.content_is ∙ nodes_again m.nodes is.nodes))))
ack_req_again m _ is many = absurd (omega (arith, many))

pub opaque_again : (m : OpaqueCommand) (reserved : List ℕ) → IsOpaque m → opaque_read (octets_with (Opaque m) reserved) ≡ Ok (Opaque m)
unfolding opaque_read
opaque_again m reserved is =
    let octets : List ℕ = octets_with (Opaque m) reserved in
    let rest : List ℕ = m.rest in
    let head = command_head_again (m.words) m.sub_type m.head rest is.head in
    let source : source_of octets ≡ m.head.source = ap (λ (h : CmdHead). h.source) head in
    go_on (member_checked (source_of octets)) _ _ (ap member_checked source ∙ member_again m.head.source is.head.source)
    (λ u0. ap (λ (t : CmdHead). read_ok (Opaque (record { head = t; sub_type = octet 12 octets; words = words_of octets; rest = drop 13 octets }))) (head))

pub nack_again : (m : NackMessage) (reserved : List ℕ) → IsNack m → length reserved ≡ 10 → nack_read (octets_with (Nack m) reserved) ≡ Ok (Nack m)
unfolding nack_read
nack_again m (a ∷ b ∷ c ∷ d ∷ e ∷ f ∷ g ∷ h ∷ i ∷ j ∷ []) is many =
    let octets : List ℕ = octets_with (Nack m) (a ∷ b ∷ c ∷ d ∷ e ∷ f ∷ g ∷ h ∷ i ∷ j ∷ []) in
    let tail = tail_again 6 octets m.extensions (requests_octets m.requests) is.extensions refl (omega arith) refl in
    let source : source_of octets ≡ m.source = again_4 m.source [] (omega (arith, is.source.1)) in
    let sender : number 4 8 octets ≡ m.sender = again_4 m.sender [] (omega (arith, is.sender.1)) in
    go_on (header_checked types.Nack octets) _ _ (header_again types.Nack octets (omega arith) refl tail.least tail.most)
    (λ u0. go_on (header_extensions_checked 24 octets) _ _ (tail.checked)
    (λ u1. go_on (requests_checked (4 * words_of octets) (content_of octets)) _ _ (requests_pass (4 * words_of octets) (content_of octets) m.requests is.requests tail.content_is)
    (λ u2. go_on (member_checked (source_of octets)) _ _ (ap member_checked source ∙ member_again m.source is.source)
    (λ u3. go_on (member_checked (number 4 8 octets)) _ _ (ap member_checked sender ∙ member_again m.sender is.sender)
    (λ u4. ap (λ (t : ℕ). read_ok (Nack (record { source = t; sequence = sequence_of octets; sender = number 4 8 octets; instance = number 2 12 octets; extensions = extensions_of (header_from 24 octets); requests = requests_of (content_of octets) }))) (source)
    ∙ ap (λ (t : ℕ). read_ok (Nack (record { source = m.source; sequence = t; sender = number 4 8 octets; instance = number 2 12 octets; extensions = extensions_of (header_from 24 octets); requests = requests_of (content_of octets) }))) (again_2 m.sequence [] is.sequence)
    ∙ ap (λ (t : ℕ). read_ok (Nack (record { source = m.source; sequence = m.sequence; sender = t; instance = number 2 12 octets; extensions = extensions_of (header_from 24 octets); requests = requests_of (content_of octets) }))) (sender)
    ∙ ap (λ (t : ℕ). read_ok (Nack (record { source = m.source; sequence = m.sequence; sender = m.sender; instance = t; extensions = extensions_of (header_from 24 octets); requests = requests_of (content_of octets) }))) (again_2 m.instance [] is.instance)
    ∙ ap (λ (t : List Extension). read_ok (Nack (record { source = m.source; sequence = m.sequence; sender = m.sender; instance = m.instance; extensions = t; requests = requests_of (content_of octets) }))) (tail.list_is)
    ∙ ap (λ (t : List Request). read_ok (Nack (record { source = m.source; sequence = m.sequence; sender = m.sender; instance = m.instance; extensions = m.extensions; requests = t }))) (requests_again (content_of octets) m.requests is.requests tail.content_is))))))
nack_again m _ is many = absurd (omega (arith, many))

pub report_again : (m : ReportMessage) (reserved : List ℕ) → IsReport m → report_read (octets_with (Report m) reserved) ≡ Ok (Report m)
unfolding report_read
report_again m reserved is =
    let octets : List ℕ = octets_with (Report m) reserved in
    let source : source_of octets ≡ m.source = again_4 m.source m.rest (omega (arith, is.source.1)) in
    go_on (header_checked types.Report octets) _ _ (header_again types.Report octets (omega arith) refl is.least (omega (arith, is.whole)))
    (λ u0. go_on (member_checked (source_of octets)) _ _ (ap member_checked source ∙ member_again m.source is.source)
    (λ u1. ap (λ (t : ℕ). read_ok (Report (record { source = t; sequence = sequence_of octets; words = words_of octets; rest = drop 8 octets }))) (source)
    ∙ ap (λ (t : ℕ). read_ok (Report (record { source = m.source; sequence = t; words = words_of octets; rest = drop 8 octets }))) (again_2 m.sequence [] is.sequence)))
