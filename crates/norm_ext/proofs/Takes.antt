-- Each message that is read is spelled by its octets: field by field, with the octets of a list for its values.
use Rattle.std.proofs.Common.{◌≡◌, ◌≢◌, ℕ, ◌+◌, ◌*◌, ◌%◌, ◌≤◌, ◌⊎◌, List, [], ◌∷◌, ◌++◌, length, drop, Ok, refl, sym, ap, ◌∙◌, arith}
use Rattle.byteorder.specs.Endian.{big_bytes}
use Rattle.fec_plan.specs.Payload.{name_octets}
use Rattle.norm_ext.specs.Numbers.{octet, number, name_at}
use Rattle.norm_ext.specs.Extensions.{Extension, extensions_of}
use Rattle.norm_ext.specs.Requests.{item_octets, requests_of, requests_checked}
use Rattle.norm_ext.specs.Lists.{nodes_of, objects_of}
use Rattle.norm_ext.specs.Message.{Info, Data, Flush, Eot, Squelch, RepairAdv, AckReq, Opaque, Nack, Ack, Report, Mark, Unread}
use Rattle.norm_ext.specs.Octets.{object_octets, command_octets, extensions_octets, requests_octets, nodes_octets, objects_octets, words_with}
use Rattle.norm_ext.specs.Spells.{Spells}
use Rattle.norm_ext.specs.Reading.{words_of, content_of, header_from, header_extensions_checked, member_checked, source_of, sequence_of, object_head_of, command_head_of}
use Rattle.norm_base.specs.Octets.{AreOctets}
use Rattle.norm_ext.proofs.PieceLemmas.{octets-drop}
use Rattle.norm_ext.proofs.NumberLemmas.{spelled_2, spelled_4, below_2, below_4, spelled_name, name_fits, nodes_together, nodes_fit, objects_together, objects_fit}
use Rattle.norm_ext.proofs.MessageLemmas.{tail_is, front_spelled, object_spelled, command_spelled, member_is, requests_together, requests_fit, mark_in, mark_spelled, append_none, upper, lower}

pub info_spelled : (octets : List ℕ) → AreOctets octets → octet 0 octets ≡ 16 + 1 → 4 ≤ words_of octets → 4 * words_of octets ≤ length octets → octet 13 octets ≡ 5 → header_extensions_checked 16 octets ≡ Ok tt → member_checked (source_of octets) ≡ Ok tt
    → Spells (Info (record { head = object_head_of octets; extensions = extensions_of (header_from 16 octets); info = content_of octets })) octets
info_spelled (c0 ∷ c1 ∷ c2 ∷ c3 ∷ c4 ∷ c5 ∷ c6 ∷ c7 ∷ c8 ∷ c9 ∷ c10 ∷ c11 ∷ c12 ∷ c13 ∷ c14 ∷ c15 ∷ rest) fits first least most five extensions source =
    let octets : List ℕ = c0 ∷ c1 ∷ c2 ∷ c3 ∷ c4 ∷ c5 ∷ c6 ∷ c7 ∷ c8 ∷ c9 ∷ c10 ∷ c11 ∷ c12 ∷ c13 ∷ c14 ∷ c15 ∷ rest in
    let tail = tail_is 4 octets fits least most (fits 1) extensions in
    let list : List Extension = extensions_of (header_from 16 octets) in
    record {
      fits = record { head = record { source = member_is (source_of octets) (below_4 c4 c5 c6 c7 [] (fits 4) (fits 5) (fits 6) (fits 7)) source; sequence = below_2 c2 c3 [] (fits 2) (fits 3); instance = below_2 c8 c9 [] (fits 8) (fits 9); grtt = fits 10; backoff = upper c11 (fits 11); gsize = lower c11; flags = fits 12; object = below_2 c14 c15 [] (fits 14) (fits 15) }; extensions = tail.fits };
      reserved = [];
      many = refl;
      spelled = sym (
          ap (λ (t : List ℕ). (((t) ++ (object_octets (object_head_of octets))) ++ extensions_octets list) ++ content_of octets) (front_spelled 1 (words_with 4 list) c0 c1 c2 c3 c4 c5 c6 c7 first tail.words_is (fits 2) (fits 3) (fits 4) (fits 5) (fits 6) (fits 7))
          ∙ ap (λ (t : List ℕ). ((((c0 ∷ c1 ∷ c2 ∷ c3 ∷ c4 ∷ c5 ∷ c6 ∷ c7 ∷ [])) ++ t) ++ extensions_octets list) ++ content_of octets) (object_spelled (object_head_of octets) c8 c9 c10 c11 c12 c13 c14 c15 (fits 8) (fits 9) (fits 14) (fits 15) five refl refl refl refl refl refl)
          ∙ ap (λ (t : List ℕ). ((((c0 ∷ c1 ∷ c2 ∷ c3 ∷ c4 ∷ c5 ∷ c6 ∷ c7 ∷ [])) ++ (c8 ∷ c9 ∷ c10 ∷ c11 ∷ c12 ∷ c13 ∷ c14 ∷ c15 ∷ [])) ++ t) ++ content_of octets) (tail.spelled)
          ∙ ap (λ (t : List ℕ). c0 ∷ c1 ∷ c2 ∷ c3 ∷ c4 ∷ c5 ∷ c6 ∷ c7 ∷ c8 ∷ c9 ∷ c10 ∷ c11 ∷ c12 ∷ c13 ∷ c14 ∷ c15 ∷ t) (tail.joined));
    }
info_spelled _ fits first least most five extensions source = absurd (omega arith)

pub data_spelled : (octets : List ℕ) → AreOctets octets → octet 0 octets ≡ 16 + 2 → 5 ≤ words_of octets → 4 * words_of octets ≤ length octets → octet 13 octets ≡ 5 → header_extensions_checked 20 octets ≡ Ok tt → member_checked (source_of octets) ≡ Ok tt
    → Spells (Data (record { head = object_head_of octets; id = name_at 16 octets; extensions = extensions_of (header_from 20 octets); payload = content_of octets })) octets
data_spelled (c0 ∷ c1 ∷ c2 ∷ c3 ∷ c4 ∷ c5 ∷ c6 ∷ c7 ∷ c8 ∷ c9 ∷ c10 ∷ c11 ∷ c12 ∷ c13 ∷ c14 ∷ c15 ∷ c16 ∷ c17 ∷ c18 ∷ c19 ∷ rest) fits first least most five extensions source =
    let octets : List ℕ = c0 ∷ c1 ∷ c2 ∷ c3 ∷ c4 ∷ c5 ∷ c6 ∷ c7 ∷ c8 ∷ c9 ∷ c10 ∷ c11 ∷ c12 ∷ c13 ∷ c14 ∷ c15 ∷ c16 ∷ c17 ∷ c18 ∷ c19 ∷ rest in
    let tail = tail_is 5 octets fits least most (fits 1) extensions in
    let list : List Extension = extensions_of (header_from 20 octets) in
    record {
      fits = record { head = record { source = member_is (source_of octets) (below_4 c4 c5 c6 c7 [] (fits 4) (fits 5) (fits 6) (fits 7)) source; sequence = below_2 c2 c3 [] (fits 2) (fits 3); instance = below_2 c8 c9 [] (fits 8) (fits 9); grtt = fits 10; backoff = upper c11 (fits 11); gsize = lower c11; flags = fits 12; object = below_2 c14 c15 [] (fits 14) (fits 15) }; id = name_fits c16 c17 c18 c19 [] (fits 16) (fits 17) (fits 18) (fits 19); extensions = tail.fits };
      reserved = [];
      many = refl;
      spelled = sym (
          ap (λ (t : List ℕ). ((((t) ++ (object_octets (object_head_of octets))) ++ (name_octets (name_at 16 octets))) ++ extensions_octets list) ++ content_of octets) (front_spelled 2 (words_with 5 list) c0 c1 c2 c3 c4 c5 c6 c7 first tail.words_is (fits 2) (fits 3) (fits 4) (fits 5) (fits 6) (fits 7))
          ∙ ap (λ (t : List ℕ). (((((c0 ∷ c1 ∷ c2 ∷ c3 ∷ c4 ∷ c5 ∷ c6 ∷ c7 ∷ [])) ++ t) ++ (name_octets (name_at 16 octets))) ++ extensions_octets list) ++ content_of octets) (object_spelled (object_head_of octets) c8 c9 c10 c11 c12 c13 c14 c15 (fits 8) (fits 9) (fits 14) (fits 15) five refl refl refl refl refl refl)
          ∙ ap (λ (t : List ℕ). (((((c0 ∷ c1 ∷ c2 ∷ c3 ∷ c4 ∷ c5 ∷ c6 ∷ c7 ∷ [])) ++ (c8 ∷ c9 ∷ c10 ∷ c11 ∷ c12 ∷ c13 ∷ c14 ∷ c15 ∷ [])) ++ t) ++ extensions_octets list) ++ content_of octets) (spelled_name c16 c17 c18 c19 [] (fits 16) (fits 17) (fits 18) (fits 19))
          ∙ ap (λ (t : List ℕ). (((((c0 ∷ c1 ∷ c2 ∷ c3 ∷ c4 ∷ c5 ∷ c6 ∷ c7 ∷ [])) ++ (c8 ∷ c9 ∷ c10 ∷ c11 ∷ c12 ∷ c13 ∷ c14 ∷ c15 ∷ [])) ++ (c16 ∷ c17 ∷ c18 ∷ c19 ∷ [])) ++ t) ++ content_of octets) (tail.spelled)
          ∙ ap (λ (t : List ℕ). c0 ∷ c1 ∷ c2 ∷ c3 ∷ c4 ∷ c5 ∷ c6 ∷ c7 ∷ c8 ∷ c9 ∷ c10 ∷ c11 ∷ c12 ∷ c13 ∷ c14 ∷ c15 ∷ c16 ∷ c17 ∷ c18 ∷ c19 ∷ t) (tail.joined));
    }
data_spelled _ fits first least most five extensions source = absurd (omega arith)

pub flush_spelled : (octets : List ℕ) → AreOctets octets → octet 0 octets ≡ 16 + 3 → 5 ≤ words_of octets → 4 * words_of octets ≤ length octets → octet 12 octets ≡ 1 → octet 13 octets ≡ 5 → header_extensions_checked 20 octets ≡ Ok tt → member_checked (source_of octets) ≡ Ok tt → length (content_of octets) % 4 ≡ 0
    → Spells (Flush (record { head = command_head_of octets; object = number 2 14 octets; id = name_at 16 octets; extensions = extensions_of (header_from 20 octets); nodes = nodes_of (content_of octets) })) octets
flush_spelled (c0 ∷ c1 ∷ c2 ∷ c3 ∷ c4 ∷ c5 ∷ c6 ∷ c7 ∷ c8 ∷ c9 ∷ c10 ∷ c11 ∷ c12 ∷ c13 ∷ c14 ∷ c15 ∷ c16 ∷ c17 ∷ c18 ∷ c19 ∷ rest) fits first least most sub five extensions source whole =
    let octets : List ℕ = c0 ∷ c1 ∷ c2 ∷ c3 ∷ c4 ∷ c5 ∷ c6 ∷ c7 ∷ c8 ∷ c9 ∷ c10 ∷ c11 ∷ c12 ∷ c13 ∷ c14 ∷ c15 ∷ c16 ∷ c17 ∷ c18 ∷ c19 ∷ rest in
    let tail = tail_is 5 octets fits least most (fits 1) extensions in
    let list : List Extension = extensions_of (header_from 20 octets) in
    let content-fits = octets-drop (4 * words_of octets) octets fits in
    record {
      fits = record { head = record { source = member_is (source_of octets) (below_4 c4 c5 c6 c7 [] (fits 4) (fits 5) (fits 6) (fits 7)) source; sequence = below_2 c2 c3 [] (fits 2) (fits 3); instance = below_2 c8 c9 [] (fits 8) (fits 9); grtt = fits 10; backoff = upper c11 (fits 11); gsize = lower c11 }; object = below_2 c14 c15 [] (fits 14) (fits 15); id = name_fits c16 c17 c18 c19 [] (fits 16) (fits 17) (fits 18) (fits 19); extensions = tail.fits; nodes = nodes_fit (content_of octets) content-fits };
      reserved = [];
      many = refl;
      spelled = sym (
          ap (λ (t : List ℕ). (((((t) ++ (command_octets (command_head_of octets) 1)) ++ (5 ∷ big_bytes 2 (number 2 14 octets))) ++ (name_octets (name_at 16 octets))) ++ extensions_octets list) ++ nodes_octets (nodes_of (content_of octets))) (front_spelled 3 (words_with 5 list) c0 c1 c2 c3 c4 c5 c6 c7 first tail.words_is (fits 2) (fits 3) (fits 4) (fits 5) (fits 6) (fits 7))
          ∙ ap (λ (t : List ℕ). ((((((c0 ∷ c1 ∷ c2 ∷ c3 ∷ c4 ∷ c5 ∷ c6 ∷ c7 ∷ [])) ++ t) ++ (5 ∷ big_bytes 2 (number 2 14 octets))) ++ (name_octets (name_at 16 octets))) ++ extensions_octets list) ++ nodes_octets (nodes_of (content_of octets))) (command_spelled (command_head_of octets) 1 c8 c9 c10 c11 c12 (fits 8) (fits 9) sub refl refl refl refl)
          ∙ ap (λ (t : List ℕ). ((((((c0 ∷ c1 ∷ c2 ∷ c3 ∷ c4 ∷ c5 ∷ c6 ∷ c7 ∷ [])) ++ (c8 ∷ c9 ∷ c10 ∷ c11 ∷ c12 ∷ [])) ++ t) ++ (name_octets (name_at 16 octets))) ++ extensions_octets list) ++ nodes_octets (nodes_of (content_of octets))) (ap (λ (t : List ℕ). 5 ∷ t) (spelled_2 c14 c15 [] (fits 14) (fits 15)) ∙ ap (λ (n : ℕ). n ∷ c14 ∷ c15 ∷ []) (sym five))
          ∙ ap (λ (t : List ℕ). ((((((c0 ∷ c1 ∷ c2 ∷ c3 ∷ c4 ∷ c5 ∷ c6 ∷ c7 ∷ [])) ++ (c8 ∷ c9 ∷ c10 ∷ c11 ∷ c12 ∷ [])) ++ (c13 ∷ c14 ∷ c15 ∷ [])) ++ t) ++ extensions_octets list) ++ nodes_octets (nodes_of (content_of octets))) (spelled_name c16 c17 c18 c19 [] (fits 16) (fits 17) (fits 18) (fits 19))
          ∙ ap (λ (t : List ℕ). ((((((c0 ∷ c1 ∷ c2 ∷ c3 ∷ c4 ∷ c5 ∷ c6 ∷ c7 ∷ [])) ++ (c8 ∷ c9 ∷ c10 ∷ c11 ∷ c12 ∷ [])) ++ (c13 ∷ c14 ∷ c15 ∷ [])) ++ (c16 ∷ c17 ∷ c18 ∷ c19 ∷ [])) ++ t) ++ nodes_octets (nodes_of (content_of octets))) (tail.spelled)
          ∙ ap (λ (t : List ℕ). ((((((c0 ∷ c1 ∷ c2 ∷ c3 ∷ c4 ∷ c5 ∷ c6 ∷ c7 ∷ [])) ++ (c8 ∷ c9 ∷ c10 ∷ c11 ∷ c12 ∷ [])) ++ (c13 ∷ c14 ∷ c15 ∷ [])) ++ (c16 ∷ c17 ∷ c18 ∷ c19 ∷ [])) ++ header_from 20 octets) ++ t) (nodes_together (content_of octets) content-fits whole)
          ∙ ap (λ (t : List ℕ). c0 ∷ c1 ∷ c2 ∷ c3 ∷ c4 ∷ c5 ∷ c6 ∷ c7 ∷ c8 ∷ c9 ∷ c10 ∷ c11 ∷ c12 ∷ c13 ∷ c14 ∷ c15 ∷ c16 ∷ c17 ∷ c18 ∷ c19 ∷ t) (tail.joined));
    }
flush_spelled _ fits first least most sub five extensions source whole = absurd (omega arith)

pub squelch_spelled : (octets : List ℕ) → AreOctets octets → octet 0 octets ≡ 16 + 3 → 5 ≤ words_of octets → 4 * words_of octets ≤ length octets → octet 12 octets ≡ 3 → octet 13 octets ≡ 5 → header_extensions_checked 20 octets ≡ Ok tt → member_checked (source_of octets) ≡ Ok tt → length (content_of octets) % 2 ≡ 0
    → Spells (Squelch (record { head = command_head_of octets; object = number 2 14 octets; id = name_at 16 octets; extensions = extensions_of (header_from 20 octets); invalid = objects_of (content_of octets) })) octets
squelch_spelled (c0 ∷ c1 ∷ c2 ∷ c3 ∷ c4 ∷ c5 ∷ c6 ∷ c7 ∷ c8 ∷ c9 ∷ c10 ∷ c11 ∷ c12 ∷ c13 ∷ c14 ∷ c15 ∷ c16 ∷ c17 ∷ c18 ∷ c19 ∷ rest) fits first least most sub five extensions source whole =
    let octets : List ℕ = c0 ∷ c1 ∷ c2 ∷ c3 ∷ c4 ∷ c5 ∷ c6 ∷ c7 ∷ c8 ∷ c9 ∷ c10 ∷ c11 ∷ c12 ∷ c13 ∷ c14 ∷ c15 ∷ c16 ∷ c17 ∷ c18 ∷ c19 ∷ rest in
    let tail = tail_is 5 octets fits least most (fits 1) extensions in
    let list : List Extension = extensions_of (header_from 20 octets) in
    let content-fits = octets-drop (4 * words_of octets) octets fits in
    record {
      fits = record { head = record { source = member_is (source_of octets) (below_4 c4 c5 c6 c7 [] (fits 4) (fits 5) (fits 6) (fits 7)) source; sequence = below_2 c2 c3 [] (fits 2) (fits 3); instance = below_2 c8 c9 [] (fits 8) (fits 9); grtt = fits 10; backoff = upper c11 (fits 11); gsize = lower c11 }; object = below_2 c14 c15 [] (fits 14) (fits 15); id = name_fits c16 c17 c18 c19 [] (fits 16) (fits 17) (fits 18) (fits 19); extensions = tail.fits; invalid = objects_fit (content_of octets) content-fits };
      reserved = [];
      many = refl;
      spelled = sym (
          ap (λ (t : List ℕ). (((((t) ++ (command_octets (command_head_of octets) 3)) ++ (5 ∷ big_bytes 2 (number 2 14 octets))) ++ (name_octets (name_at 16 octets))) ++ extensions_octets list) ++ objects_octets (objects_of (content_of octets))) (front_spelled 3 (words_with 5 list) c0 c1 c2 c3 c4 c5 c6 c7 first tail.words_is (fits 2) (fits 3) (fits 4) (fits 5) (fits 6) (fits 7))
          ∙ ap (λ (t : List ℕ). ((((((c0 ∷ c1 ∷ c2 ∷ c3 ∷ c4 ∷ c5 ∷ c6 ∷ c7 ∷ [])) ++ t) ++ (5 ∷ big_bytes 2 (number 2 14 octets))) ++ (name_octets (name_at 16 octets))) ++ extensions_octets list) ++ objects_octets (objects_of (content_of octets))) (command_spelled (command_head_of octets) 3 c8 c9 c10 c11 c12 (fits 8) (fits 9) sub refl refl refl refl)
          ∙ ap (λ (t : List ℕ). ((((((c0 ∷ c1 ∷ c2 ∷ c3 ∷ c4 ∷ c5 ∷ c6 ∷ c7 ∷ [])) ++ (c8 ∷ c9 ∷ c10 ∷ c11 ∷ c12 ∷ [])) ++ t) ++ (name_octets (name_at 16 octets))) ++ extensions_octets list) ++ objects_octets (objects_of (content_of octets))) (ap (λ (t : List ℕ). 5 ∷ t) (spelled_2 c14 c15 [] (fits 14) (fits 15)) ∙ ap (λ (n : ℕ). n ∷ c14 ∷ c15 ∷ []) (sym five))
          ∙ ap (λ (t : List ℕ). ((((((c0 ∷ c1 ∷ c2 ∷ c3 ∷ c4 ∷ c5 ∷ c6 ∷ c7 ∷ [])) ++ (c8 ∷ c9 ∷ c10 ∷ c11 ∷ c12 ∷ [])) ++ (c13 ∷ c14 ∷ c15 ∷ [])) ++ t) ++ extensions_octets list) ++ objects_octets (objects_of (content_of octets))) (spelled_name c16 c17 c18 c19 [] (fits 16) (fits 17) (fits 18) (fits 19))
          ∙ ap (λ (t : List ℕ). ((((((c0 ∷ c1 ∷ c2 ∷ c3 ∷ c4 ∷ c5 ∷ c6 ∷ c7 ∷ [])) ++ (c8 ∷ c9 ∷ c10 ∷ c11 ∷ c12 ∷ [])) ++ (c13 ∷ c14 ∷ c15 ∷ [])) ++ (c16 ∷ c17 ∷ c18 ∷ c19 ∷ [])) ++ t) ++ objects_octets (objects_of (content_of octets))) (tail.spelled)
          ∙ ap (λ (t : List ℕ). ((((((c0 ∷ c1 ∷ c2 ∷ c3 ∷ c4 ∷ c5 ∷ c6 ∷ c7 ∷ [])) ++ (c8 ∷ c9 ∷ c10 ∷ c11 ∷ c12 ∷ [])) ++ (c13 ∷ c14 ∷ c15 ∷ [])) ++ (c16 ∷ c17 ∷ c18 ∷ c19 ∷ [])) ++ header_from 20 octets) ++ t) (objects_together (content_of octets) content-fits whole)
          ∙ ap (λ (t : List ℕ). c0 ∷ c1 ∷ c2 ∷ c3 ∷ c4 ∷ c5 ∷ c6 ∷ c7 ∷ c8 ∷ c9 ∷ c10 ∷ c11 ∷ c12 ∷ c13 ∷ c14 ∷ c15 ∷ c16 ∷ c17 ∷ c18 ∷ c19 ∷ t) (tail.joined));
    }
squelch_spelled _ fits first least most sub five extensions source whole = absurd (omega arith)

pub eot_spelled : (octets : List ℕ) → AreOctets octets → octet 0 octets ≡ 16 + 3 → 4 ≤ words_of octets → 4 * words_of octets ≤ length octets → octet 12 octets ≡ 2 → header_extensions_checked 16 octets ≡ Ok tt → member_checked (source_of octets) ≡ Ok tt → length (content_of octets) ≡ 0
    → Spells (Eot (record { head = command_head_of octets; extensions = extensions_of (header_from 16 octets) })) octets
eot_spelled (c0 ∷ c1 ∷ c2 ∷ c3 ∷ c4 ∷ c5 ∷ c6 ∷ c7 ∷ c8 ∷ c9 ∷ c10 ∷ c11 ∷ c12 ∷ c13 ∷ c14 ∷ c15 ∷ rest) fits first least most sub extensions source none =
    let octets : List ℕ = c0 ∷ c1 ∷ c2 ∷ c3 ∷ c4 ∷ c5 ∷ c6 ∷ c7 ∷ c8 ∷ c9 ∷ c10 ∷ c11 ∷ c12 ∷ c13 ∷ c14 ∷ c15 ∷ rest in
    let tail = tail_is 4 octets fits least most (fits 1) extensions in
    let list : List Extension = extensions_of (header_from 16 octets) in
    record {
      fits = record { head = record { source = member_is (source_of octets) (below_4 c4 c5 c6 c7 [] (fits 4) (fits 5) (fits 6) (fits 7)) source; sequence = below_2 c2 c3 [] (fits 2) (fits 3); instance = below_2 c8 c9 [] (fits 8) (fits 9); grtt = fits 10; backoff = upper c11 (fits 11); gsize = lower c11 }; extensions = tail.fits };
      reserved = c13 ∷ c14 ∷ c15 ∷ [];
      many = refl;
      spelled = sym (
          ap (λ (t : List ℕ). (((t) ++ (command_octets (command_head_of octets) 2)) ++ (c13 ∷ c14 ∷ c15 ∷ [])) ++ extensions_octets list) (front_spelled 3 (words_with 4 list) c0 c1 c2 c3 c4 c5 c6 c7 first tail.words_is (fits 2) (fits 3) (fits 4) (fits 5) (fits 6) (fits 7))
          ∙ ap (λ (t : List ℕ). ((((c0 ∷ c1 ∷ c2 ∷ c3 ∷ c4 ∷ c5 ∷ c6 ∷ c7 ∷ [])) ++ t) ++ (c13 ∷ c14 ∷ c15 ∷ [])) ++ extensions_octets list) (command_spelled (command_head_of octets) 2 c8 c9 c10 c11 c12 (fits 8) (fits 9) sub refl refl refl refl)
          ∙ ap (λ (t : List ℕ). ((((c0 ∷ c1 ∷ c2 ∷ c3 ∷ c4 ∷ c5 ∷ c6 ∷ c7 ∷ [])) ++ (c8 ∷ c9 ∷ c10 ∷ c11 ∷ c12 ∷ [])) ++ (c13 ∷ c14 ∷ c15 ∷ [])) ++ t) (tail.spelled)
          ∙ ap (λ (t : List ℕ). c0 ∷ c1 ∷ c2 ∷ c3 ∷ c4 ∷ c5 ∷ c6 ∷ c7 ∷ c8 ∷ c9 ∷ c10 ∷ c11 ∷ c12 ∷ c13 ∷ c14 ∷ c15 ∷ t) (sym (append_none (header_from 16 octets) (content_of octets) none) ∙ tail.joined));
    }
eot_spelled _ fits first least most sub extensions source none = absurd (omega arith)

pub repair_adv_spelled : (octets : List ℕ) → AreOctets octets → octet 0 octets ≡ 16 + 3 → 4 ≤ words_of octets → 4 * words_of octets ≤ length octets → octet 12 octets ≡ 5 → header_extensions_checked 16 octets ≡ Ok tt → member_checked (source_of octets) ≡ Ok tt → requests_checked (4 * words_of octets) (content_of octets) ≡ Ok tt
    → Spells (RepairAdv (record { head = command_head_of octets; flags = octet 13 octets; extensions = extensions_of (header_from 16 octets); requests = requests_of (content_of octets) })) octets
repair_adv_spelled (c0 ∷ c1 ∷ c2 ∷ c3 ∷ c4 ∷ c5 ∷ c6 ∷ c7 ∷ c8 ∷ c9 ∷ c10 ∷ c11 ∷ c12 ∷ c13 ∷ c14 ∷ c15 ∷ rest) fits first least most sub extensions source requests =
    let octets : List ℕ = c0 ∷ c1 ∷ c2 ∷ c3 ∷ c4 ∷ c5 ∷ c6 ∷ c7 ∷ c8 ∷ c9 ∷ c10 ∷ c11 ∷ c12 ∷ c13 ∷ c14 ∷ c15 ∷ rest in
    let tail = tail_is 4 octets fits least most (fits 1) extensions in
    let list : List Extension = extensions_of (header_from 16 octets) in
    let content-fits = octets-drop (4 * words_of octets) octets fits in
    record {
      fits = record { head = record { source = member_is (source_of octets) (below_4 c4 c5 c6 c7 [] (fits 4) (fits 5) (fits 6) (fits 7)) source; sequence = below_2 c2 c3 [] (fits 2) (fits 3); instance = below_2 c8 c9 [] (fits 8) (fits 9); grtt = fits 10; backoff = upper c11 (fits 11); gsize = lower c11 }; flags = fits 13; extensions = tail.fits; requests = requests_fit (4 * words_of octets) (content_of octets) content-fits requests };
      reserved = c14 ∷ c15 ∷ [];
      many = refl;
      spelled = sym (
          ap (λ (t : List ℕ). ((((t) ++ (command_octets (command_head_of octets) 5)) ++ (c13 ∷ c14 ∷ c15 ∷ [])) ++ extensions_octets list) ++ requests_octets (requests_of (content_of octets))) (front_spelled 3 (words_with 4 list) c0 c1 c2 c3 c4 c5 c6 c7 first tail.words_is (fits 2) (fits 3) (fits 4) (fits 5) (fits 6) (fits 7))
          ∙ ap (λ (t : List ℕ). (((((c0 ∷ c1 ∷ c2 ∷ c3 ∷ c4 ∷ c5 ∷ c6 ∷ c7 ∷ [])) ++ t) ++ (c13 ∷ c14 ∷ c15 ∷ [])) ++ extensions_octets list) ++ requests_octets (requests_of (content_of octets))) (command_spelled (command_head_of octets) 5 c8 c9 c10 c11 c12 (fits 8) (fits 9) sub refl refl refl refl)
          ∙ ap (λ (t : List ℕ). (((((c0 ∷ c1 ∷ c2 ∷ c3 ∷ c4 ∷ c5 ∷ c6 ∷ c7 ∷ [])) ++ (c8 ∷ c9 ∷ c10 ∷ c11 ∷ c12 ∷ [])) ++ (c13 ∷ c14 ∷ c15 ∷ [])) ++ t) ++ requests_octets (requests_of (content_of octets))) (tail.spelled)
          ∙ ap (λ (t : List ℕ). (((((c0 ∷ c1 ∷ c2 ∷ c3 ∷ c4 ∷ c5 ∷ c6 ∷ c7 ∷ [])) ++ (c8 ∷ c9 ∷ c10 ∷ c11 ∷ c12 ∷ [])) ++ (c13 ∷ c14 ∷ c15 ∷ [])) ++ header_from 16 octets) ++ t) (requests_together (4 * words_of octets) (content_of octets) content-fits requests)
          ∙ ap (λ (t : List ℕ). c0 ∷ c1 ∷ c2 ∷ c3 ∷ c4 ∷ c5 ∷ c6 ∷ c7 ∷ c8 ∷ c9 ∷ c10 ∷ c11 ∷ c12 ∷ c13 ∷ c14 ∷ c15 ∷ t) (tail.joined));
    }
repair_adv_spelled _ fits first least most sub extensions source requests = absurd (omega arith)

pub ack_req_spelled : (octets : List ℕ) → AreOctets octets → octet 0 octets ≡ 16 + 3 → 4 ≤ words_of octets → 4 * words_of octets ≤ length octets → octet 12 octets ≡ 6 → header_extensions_checked 16 octets ≡ Ok tt → member_checked (source_of octets) ≡ Ok tt → length (content_of octets) % 4 ≡ 0
    → Spells (AckReq (record { head = command_head_of octets; ack_type = octet 14 octets; ack_id = octet 15 octets; extensions = extensions_of (header_from 16 octets); nodes = nodes_of (content_of octets) })) octets
ack_req_spelled (c0 ∷ c1 ∷ c2 ∷ c3 ∷ c4 ∷ c5 ∷ c6 ∷ c7 ∷ c8 ∷ c9 ∷ c10 ∷ c11 ∷ c12 ∷ c13 ∷ c14 ∷ c15 ∷ rest) fits first least most sub extensions source whole =
    let octets : List ℕ = c0 ∷ c1 ∷ c2 ∷ c3 ∷ c4 ∷ c5 ∷ c6 ∷ c7 ∷ c8 ∷ c9 ∷ c10 ∷ c11 ∷ c12 ∷ c13 ∷ c14 ∷ c15 ∷ rest in
    let tail = tail_is 4 octets fits least most (fits 1) extensions in
    let list : List Extension = extensions_of (header_from 16 octets) in
    let content-fits = octets-drop (4 * words_of octets) octets fits in
    record {
      fits = record { head = record { source = member_is (source_of octets) (below_4 c4 c5 c6 c7 [] (fits 4) (fits 5) (fits 6) (fits 7)) source; sequence = below_2 c2 c3 [] (fits 2) (fits 3); instance = below_2 c8 c9 [] (fits 8) (fits 9); grtt = fits 10; backoff = upper c11 (fits 11); gsize = lower c11 }; ack_type = fits 14; ack_id = fits 15; extensions = tail.fits; nodes = nodes_fit (content_of octets) content-fits };
      reserved = c13 ∷ [];
      many = refl;
      spelled = sym (
          ap (λ (t : List ℕ). ((((t) ++ (command_octets (command_head_of octets) 6)) ++ (c13 ∷ [])) ++ (c14 ∷ c15 ∷ extensions_octets list)) ++ nodes_octets (nodes_of (content_of octets))) (front_spelled 3 (words_with 4 list) c0 c1 c2 c3 c4 c5 c6 c7 first tail.words_is (fits 2) (fits 3) (fits 4) (fits 5) (fits 6) (fits 7))
          ∙ ap (λ (t : List ℕ). (((((c0 ∷ c1 ∷ c2 ∷ c3 ∷ c4 ∷ c5 ∷ c6 ∷ c7 ∷ [])) ++ t) ++ (c13 ∷ [])) ++ (c14 ∷ c15 ∷ extensions_octets list)) ++ nodes_octets (nodes_of (content_of octets))) (command_spelled (command_head_of octets) 6 c8 c9 c10 c11 c12 (fits 8) (fits 9) sub refl refl refl refl)
          ∙ ap (λ (t : List ℕ). (((((c0 ∷ c1 ∷ c2 ∷ c3 ∷ c4 ∷ c5 ∷ c6 ∷ c7 ∷ [])) ++ (c8 ∷ c9 ∷ c10 ∷ c11 ∷ c12 ∷ [])) ++ (c13 ∷ [])) ++ t) ++ nodes_octets (nodes_of (content_of octets))) (ap (λ (u : List ℕ). c14 ∷ c15 ∷ u) tail.spelled)
          ∙ ap (λ (t : List ℕ). (((((c0 ∷ c1 ∷ c2 ∷ c3 ∷ c4 ∷ c5 ∷ c6 ∷ c7 ∷ [])) ++ (c8 ∷ c9 ∷ c10 ∷ c11 ∷ c12 ∷ [])) ++ (c13 ∷ [])) ++ (c14 ∷ c15 ∷ header_from 16 octets)) ++ t) (nodes_together (content_of octets) content-fits whole)
          ∙ ap (λ (t : List ℕ). c0 ∷ c1 ∷ c2 ∷ c3 ∷ c4 ∷ c5 ∷ c6 ∷ c7 ∷ c8 ∷ c9 ∷ c10 ∷ c11 ∷ c12 ∷ c13 ∷ c14 ∷ c15 ∷ t) (tail.joined));
    }
ack_req_spelled _ fits first least most sub extensions source whole = absurd (omega arith)

pub opaque_spelled : (octets : List ℕ) → AreOctets octets → octet 0 octets ≡ 16 + 3 → 4 ≤ words_of octets → 4 * words_of octets ≤ length octets → (octet 12 octets ≡ 4) ⊎ (octet 12 octets ≡ 7) → member_checked (source_of octets) ≡ Ok tt
    → Spells (Opaque (record { head = command_head_of octets; sub_type = octet 12 octets; words = words_of octets; rest = drop 13 octets })) octets
opaque_spelled (c0 ∷ c1 ∷ c2 ∷ c3 ∷ c4 ∷ c5 ∷ c6 ∷ c7 ∷ c8 ∷ c9 ∷ c10 ∷ c11 ∷ c12 ∷ c13 ∷ c14 ∷ c15 ∷ rest) fits first least most sub source =
    let octets : List ℕ = c0 ∷ c1 ∷ c2 ∷ c3 ∷ c4 ∷ c5 ∷ c6 ∷ c7 ∷ c8 ∷ c9 ∷ c10 ∷ c11 ∷ c12 ∷ c13 ∷ c14 ∷ c15 ∷ rest in
    record {
      fits = record { head = record { source = member_is (source_of octets) (below_4 c4 c5 c6 c7 [] (fits 4) (fits 5) (fits 6) (fits 7)) source; sequence = below_2 c2 c3 [] (fits 2) (fits 3); instance = below_2 c8 c9 [] (fits 8) (fits 9); grtt = fits 10; backoff = upper c11 (fits 11); gsize = lower c11 }; sub_type = sub; least = least; most = fits 1; whole = omega (arith, most) };
      reserved = [];
      many = refl;
      spelled = sym (
          ap (λ (t : List ℕ). ((t) ++ (command_octets (command_head_of octets) c12)) ++ (c13 ∷ c14 ∷ c15 ∷ rest)) (front_spelled 3 c1 c0 c1 c2 c3 c4 c5 c6 c7 first refl (fits 2) (fits 3) (fits 4) (fits 5) (fits 6) (fits 7))
          ∙ ap (λ (t : List ℕ). (((c0 ∷ c1 ∷ c2 ∷ c3 ∷ c4 ∷ c5 ∷ c6 ∷ c7 ∷ [])) ++ t) ++ (c13 ∷ c14 ∷ c15 ∷ rest)) (command_spelled (command_head_of octets) c12 c8 c9 c10 c11 c12 (fits 8) (fits 9) refl refl refl refl refl));
    }
opaque_spelled _ fits first least most sub source = absurd (omega arith)

pub nack_spelled : (octets : List ℕ) → AreOctets octets → octet 0 octets ≡ 16 + 4 → 6 ≤ words_of octets → 4 * words_of octets ≤ length octets → header_extensions_checked 24 octets ≡ Ok tt → member_checked (source_of octets) ≡ Ok tt → member_checked (number 4 8 octets) ≡ Ok tt → requests_checked (4 * words_of octets) (content_of octets) ≡ Ok tt
    → Spells (Nack (record { source = source_of octets; sequence = sequence_of octets; sender = number 4 8 octets; instance = number 2 12 octets; extensions = extensions_of (header_from 24 octets); requests = requests_of (content_of octets) })) octets
nack_spelled (c0 ∷ c1 ∷ c2 ∷ c3 ∷ c4 ∷ c5 ∷ c6 ∷ c7 ∷ c8 ∷ c9 ∷ c10 ∷ c11 ∷ c12 ∷ c13 ∷ c14 ∷ c15 ∷ c16 ∷ c17 ∷ c18 ∷ c19 ∷ c20 ∷ c21 ∷ c22 ∷ c23 ∷ rest) fits first least most extensions source sender requests =
    let octets : List ℕ = c0 ∷ c1 ∷ c2 ∷ c3 ∷ c4 ∷ c5 ∷ c6 ∷ c7 ∷ c8 ∷ c9 ∷ c10 ∷ c11 ∷ c12 ∷ c13 ∷ c14 ∷ c15 ∷ c16 ∷ c17 ∷ c18 ∷ c19 ∷ c20 ∷ c21 ∷ c22 ∷ c23 ∷ rest in
    let tail = tail_is 6 octets fits least most (fits 1) extensions in
    let list : List Extension = extensions_of (header_from 24 octets) in
    let content-fits = octets-drop (4 * words_of octets) octets fits in
    record {
      fits = record { source = member_is (source_of octets) (below_4 c4 c5 c6 c7 [] (fits 4) (fits 5) (fits 6) (fits 7)) source; sequence = below_2 c2 c3 [] (fits 2) (fits 3); sender = member_is (number 4 8 octets) (below_4 c8 c9 c10 c11 [] (fits 8) (fits 9) (fits 10) (fits 11)) sender; instance = below_2 c12 c13 [] (fits 12) (fits 13); extensions = tail.fits; requests = requests_fit (4 * words_of octets) (content_of octets) content-fits requests };
      reserved = c14 ∷ c15 ∷ c16 ∷ c17 ∷ c18 ∷ c19 ∷ c20 ∷ c21 ∷ c22 ∷ c23 ∷ [];
      many = refl;
      spelled = sym (
          ap (λ (t : List ℕ). (((((t) ++ (big_bytes 4 (number 4 8 octets))) ++ (big_bytes 2 (number 2 12 octets))) ++ (c14 ∷ c15 ∷ c16 ∷ c17 ∷ c18 ∷ c19 ∷ c20 ∷ c21 ∷ c22 ∷ c23 ∷ [])) ++ extensions_octets list) ++ requests_octets (requests_of (content_of octets))) (front_spelled 4 (words_with 6 list) c0 c1 c2 c3 c4 c5 c6 c7 first tail.words_is (fits 2) (fits 3) (fits 4) (fits 5) (fits 6) (fits 7))
          ∙ ap (λ (t : List ℕ). ((((((c0 ∷ c1 ∷ c2 ∷ c3 ∷ c4 ∷ c5 ∷ c6 ∷ c7 ∷ [])) ++ t) ++ (big_bytes 2 (number 2 12 octets))) ++ (c14 ∷ c15 ∷ c16 ∷ c17 ∷ c18 ∷ c19 ∷ c20 ∷ c21 ∷ c22 ∷ c23 ∷ [])) ++ extensions_octets list) ++ requests_octets (requests_of (content_of octets))) (spelled_4 c8 c9 c10 c11 [] (fits 8) (fits 9) (fits 10) (fits 11))
          ∙ ap (λ (t : List ℕ). ((((((c0 ∷ c1 ∷ c2 ∷ c3 ∷ c4 ∷ c5 ∷ c6 ∷ c7 ∷ [])) ++ (c8 ∷ c9 ∷ c10 ∷ c11 ∷ [])) ++ t) ++ (c14 ∷ c15 ∷ c16 ∷ c17 ∷ c18 ∷ c19 ∷ c20 ∷ c21 ∷ c22 ∷ c23 ∷ [])) ++ extensions_octets list) ++ requests_octets (requests_of (content_of octets))) (spelled_2 c12 c13 [] (fits 12) (fits 13))
          ∙ ap (λ (t : List ℕ). ((((((c0 ∷ c1 ∷ c2 ∷ c3 ∷ c4 ∷ c5 ∷ c6 ∷ c7 ∷ [])) ++ (c8 ∷ c9 ∷ c10 ∷ c11 ∷ [])) ++ (c12 ∷ c13 ∷ [])) ++ (c14 ∷ c15 ∷ c16 ∷ c17 ∷ c18 ∷ c19 ∷ c20 ∷ c21 ∷ c22 ∷ c23 ∷ [])) ++ t) ++ requests_octets (requests_of (content_of octets))) (tail.spelled)
          ∙ ap (λ (t : List ℕ). ((((((c0 ∷ c1 ∷ c2 ∷ c3 ∷ c4 ∷ c5 ∷ c6 ∷ c7 ∷ [])) ++ (c8 ∷ c9 ∷ c10 ∷ c11 ∷ [])) ++ (c12 ∷ c13 ∷ [])) ++ (c14 ∷ c15 ∷ c16 ∷ c17 ∷ c18 ∷ c19 ∷ c20 ∷ c21 ∷ c22 ∷ c23 ∷ [])) ++ header_from 24 octets) ++ t) (requests_together (4 * words_of octets) (content_of octets) content-fits requests)
          ∙ ap (λ (t : List ℕ). c0 ∷ c1 ∷ c2 ∷ c3 ∷ c4 ∷ c5 ∷ c6 ∷ c7 ∷ c8 ∷ c9 ∷ c10 ∷ c11 ∷ c12 ∷ c13 ∷ c14 ∷ c15 ∷ c16 ∷ c17 ∷ c18 ∷ c19 ∷ c20 ∷ c21 ∷ c22 ∷ c23 ∷ t) (tail.joined));
    }
nack_spelled _ fits first least most extensions source sender requests = absurd (omega arith)

pub ack_mark_spelled : (octets : List ℕ) → AreOctets octets → octet 0 octets ≡ 16 + 5 → 6 ≤ words_of octets → 4 * words_of octets ≤ length octets → header_extensions_checked 24 octets ≡ Ok tt → member_checked (source_of octets) ≡ Ok tt → member_checked (number 4 8 octets) ≡ Ok tt → octet 14 octets ≡ 2 → length (content_of octets) ≡ 8 → octet 0 (content_of octets) ≡ 5
    → Spells (Ack (record { source = source_of octets; sequence = sequence_of octets; sender = number 4 8 octets; instance = number 2 12 octets; ack_type = octet 14 octets; ack_id = octet 15 octets; extensions = extensions_of (header_from 24 octets); content = Mark (mark_in (content_of octets)) })) octets
ack_mark_spelled (c0 ∷ c1 ∷ c2 ∷ c3 ∷ c4 ∷ c5 ∷ c6 ∷ c7 ∷ c8 ∷ c9 ∷ c10 ∷ c11 ∷ c12 ∷ c13 ∷ c14 ∷ c15 ∷ c16 ∷ c17 ∷ c18 ∷ c19 ∷ c20 ∷ c21 ∷ c22 ∷ c23 ∷ rest) fits first least most extensions source sender two eight five =
    let octets : List ℕ = c0 ∷ c1 ∷ c2 ∷ c3 ∷ c4 ∷ c5 ∷ c6 ∷ c7 ∷ c8 ∷ c9 ∷ c10 ∷ c11 ∷ c12 ∷ c13 ∷ c14 ∷ c15 ∷ c16 ∷ c17 ∷ c18 ∷ c19 ∷ c20 ∷ c21 ∷ c22 ∷ c23 ∷ rest in
    let tail = tail_is 6 octets fits least most (fits 1) extensions in
    let list : List Extension = extensions_of (header_from 24 octets) in
    let mark = mark_spelled (content_of octets) (octets-drop (4 * words_of octets) octets fits) eight five in
    record {
      fits = record { source = member_is (source_of octets) (below_4 c4 c5 c6 c7 [] (fits 4) (fits 5) (fits 6) (fits 7)) source; sequence = below_2 c2 c3 [] (fits 2) (fits 3); sender = member_is (number 4 8 octets) (below_4 c8 c9 c10 c11 [] (fits 8) (fits 9) (fits 10) (fits 11)) sender; instance = below_2 c12 c13 [] (fits 12) (fits 13); ack_type = fits 14; ack_id = fits 15; extensions = tail.fits; content = (two, mark.1) };
      reserved = c16 ∷ c17 ∷ c18 ∷ c19 ∷ c20 ∷ c21 ∷ c22 ∷ c23 ∷ octet 1 (content_of octets) ∷ [];
      many = refl;
      spelled = sym (
          ap (λ (t : List ℕ). (((((t) ++ (big_bytes 4 (number 4 8 octets))) ++ (big_bytes 2 (number 2 12 octets))) ++ (c14 ∷ c15 ∷ c16 ∷ c17 ∷ c18 ∷ c19 ∷ c20 ∷ c21 ∷ c22 ∷ c23 ∷ [])) ++ extensions_octets list) ++ (item_octets (record { reserved = octet 1 (content_of octets); item = mark_in (content_of octets) }) ++ [])) (front_spelled 5 (words_with 6 list) c0 c1 c2 c3 c4 c5 c6 c7 first tail.words_is (fits 2) (fits 3) (fits 4) (fits 5) (fits 6) (fits 7))
          ∙ ap (λ (t : List ℕ). ((((((c0 ∷ c1 ∷ c2 ∷ c3 ∷ c4 ∷ c5 ∷ c6 ∷ c7 ∷ [])) ++ t) ++ (big_bytes 2 (number 2 12 octets))) ++ (c14 ∷ c15 ∷ c16 ∷ c17 ∷ c18 ∷ c19 ∷ c20 ∷ c21 ∷ c22 ∷ c23 ∷ [])) ++ extensions_octets list) ++ (item_octets (record { reserved = octet 1 (content_of octets); item = mark_in (content_of octets) }) ++ [])) (spelled_4 c8 c9 c10 c11 [] (fits 8) (fits 9) (fits 10) (fits 11))
          ∙ ap (λ (t : List ℕ). ((((((c0 ∷ c1 ∷ c2 ∷ c3 ∷ c4 ∷ c5 ∷ c6 ∷ c7 ∷ [])) ++ (c8 ∷ c9 ∷ c10 ∷ c11 ∷ [])) ++ t) ++ (c14 ∷ c15 ∷ c16 ∷ c17 ∷ c18 ∷ c19 ∷ c20 ∷ c21 ∷ c22 ∷ c23 ∷ [])) ++ extensions_octets list) ++ (item_octets (record { reserved = octet 1 (content_of octets); item = mark_in (content_of octets) }) ++ [])) (spelled_2 c12 c13 [] (fits 12) (fits 13))
          ∙ ap (λ (t : List ℕ). ((((((c0 ∷ c1 ∷ c2 ∷ c3 ∷ c4 ∷ c5 ∷ c6 ∷ c7 ∷ [])) ++ (c8 ∷ c9 ∷ c10 ∷ c11 ∷ [])) ++ (c12 ∷ c13 ∷ [])) ++ (c14 ∷ c15 ∷ c16 ∷ c17 ∷ c18 ∷ c19 ∷ c20 ∷ c21 ∷ c22 ∷ c23 ∷ [])) ++ t) ++ (item_octets (record { reserved = octet 1 (content_of octets); item = mark_in (content_of octets) }) ++ [])) (tail.spelled)
          ∙ ap (λ (t : List ℕ). ((((((c0 ∷ c1 ∷ c2 ∷ c3 ∷ c4 ∷ c5 ∷ c6 ∷ c7 ∷ [])) ++ (c8 ∷ c9 ∷ c10 ∷ c11 ∷ [])) ++ (c12 ∷ c13 ∷ [])) ++ (c14 ∷ c15 ∷ c16 ∷ c17 ∷ c18 ∷ c19 ∷ c20 ∷ c21 ∷ c22 ∷ c23 ∷ [])) ++ header_from 24 octets) ++ t) (mark.0)
          ∙ ap (λ (t : List ℕ). c0 ∷ c1 ∷ c2 ∷ c3 ∷ c4 ∷ c5 ∷ c6 ∷ c7 ∷ c8 ∷ c9 ∷ c10 ∷ c11 ∷ c12 ∷ c13 ∷ c14 ∷ c15 ∷ c16 ∷ c17 ∷ c18 ∷ c19 ∷ c20 ∷ c21 ∷ c22 ∷ c23 ∷ t) (tail.joined));
    }
ack_mark_spelled _ fits first least most extensions source sender two eight five = absurd (omega arith)

pub ack_unread_spelled : (octets : List ℕ) → AreOctets octets → octet 0 octets ≡ 16 + 5 → 6 ≤ words_of octets → 4 * words_of octets ≤ length octets → header_extensions_checked 24 octets ≡ Ok tt → member_checked (source_of octets) ≡ Ok tt → member_checked (number 4 8 octets) ≡ Ok tt → octet 14 octets ≢ 2
    → Spells (Ack (record { source = source_of octets; sequence = sequence_of octets; sender = number 4 8 octets; instance = number 2 12 octets; ack_type = octet 14 octets; ack_id = octet 15 octets; extensions = extensions_of (header_from 24 octets); content = Unread (content_of octets) })) octets
ack_unread_spelled (c0 ∷ c1 ∷ c2 ∷ c3 ∷ c4 ∷ c5 ∷ c6 ∷ c7 ∷ c8 ∷ c9 ∷ c10 ∷ c11 ∷ c12 ∷ c13 ∷ c14 ∷ c15 ∷ c16 ∷ c17 ∷ c18 ∷ c19 ∷ c20 ∷ c21 ∷ c22 ∷ c23 ∷ rest) fits first least most extensions source sender other =
    let octets : List ℕ = c0 ∷ c1 ∷ c2 ∷ c3 ∷ c4 ∷ c5 ∷ c6 ∷ c7 ∷ c8 ∷ c9 ∷ c10 ∷ c11 ∷ c12 ∷ c13 ∷ c14 ∷ c15 ∷ c16 ∷ c17 ∷ c18 ∷ c19 ∷ c20 ∷ c21 ∷ c22 ∷ c23 ∷ rest in
    let tail = tail_is 6 octets fits least most (fits 1) extensions in
    let list : List Extension = extensions_of (header_from 24 octets) in
    record {
      fits = record { source = member_is (source_of octets) (below_4 c4 c5 c6 c7 [] (fits 4) (fits 5) (fits 6) (fits 7)) source; sequence = below_2 c2 c3 [] (fits 2) (fits 3); sender = member_is (number 4 8 octets) (below_4 c8 c9 c10 c11 [] (fits 8) (fits 9) (fits 10) (fits 11)) sender; instance = below_2 c12 c13 [] (fits 12) (fits 13); ack_type = fits 14; ack_id = fits 15; extensions = tail.fits; content = other };
      reserved = c16 ∷ c17 ∷ c18 ∷ c19 ∷ c20 ∷ c21 ∷ c22 ∷ c23 ∷ [];
      many = refl;
      spelled = sym (
          ap (λ (t : List ℕ). (((((t) ++ (big_bytes 4 (number 4 8 octets))) ++ (big_bytes 2 (number 2 12 octets))) ++ (c14 ∷ c15 ∷ c16 ∷ c17 ∷ c18 ∷ c19 ∷ c20 ∷ c21 ∷ c22 ∷ c23 ∷ [])) ++ extensions_octets list) ++ content_of octets) (front_spelled 5 (words_with 6 list) c0 c1 c2 c3 c4 c5 c6 c7 first tail.words_is (fits 2) (fits 3) (fits 4) (fits 5) (fits 6) (fits 7))
          ∙ ap (λ (t : List ℕ). ((((((c0 ∷ c1 ∷ c2 ∷ c3 ∷ c4 ∷ c5 ∷ c6 ∷ c7 ∷ [])) ++ t) ++ (big_bytes 2 (number 2 12 octets))) ++ (c14 ∷ c15 ∷ c16 ∷ c17 ∷ c18 ∷ c19 ∷ c20 ∷ c21 ∷ c22 ∷ c23 ∷ [])) ++ extensions_octets list) ++ content_of octets) (spelled_4 c8 c9 c10 c11 [] (fits 8) (fits 9) (fits 10) (fits 11))
          ∙ ap (λ (t : List ℕ). ((((((c0 ∷ c1 ∷ c2 ∷ c3 ∷ c4 ∷ c5 ∷ c6 ∷ c7 ∷ [])) ++ (c8 ∷ c9 ∷ c10 ∷ c11 ∷ [])) ++ t) ++ (c14 ∷ c15 ∷ c16 ∷ c17 ∷ c18 ∷ c19 ∷ c20 ∷ c21 ∷ c22 ∷ c23 ∷ [])) ++ extensions_octets list) ++ content_of octets) (spelled_2 c12 c13 [] (fits 12) (fits 13))
          ∙ ap (λ (t : List ℕ). ((((((c0 ∷ c1 ∷ c2 ∷ c3 ∷ c4 ∷ c5 ∷ c6 ∷ c7 ∷ [])) ++ (c8 ∷ c9 ∷ c10 ∷ c11 ∷ [])) ++ (c12 ∷ c13 ∷ [])) ++ (c14 ∷ c15 ∷ c16 ∷ c17 ∷ c18 ∷ c19 ∷ c20 ∷ c21 ∷ c22 ∷ c23 ∷ [])) ++ t) ++ content_of octets) (tail.spelled)
          ∙ ap (λ (t : List ℕ). c0 ∷ c1 ∷ c2 ∷ c3 ∷ c4 ∷ c5 ∷ c6 ∷ c7 ∷ c8 ∷ c9 ∷ c10 ∷ c11 ∷ c12 ∷ c13 ∷ c14 ∷ c15 ∷ c16 ∷ c17 ∷ c18 ∷ c19 ∷ c20 ∷ c21 ∷ c22 ∷ c23 ∷ t) (tail.joined));
    }
ack_unread_spelled _ fits first least most extensions source sender other = absurd (omega arith)

pub report_spelled : (octets : List ℕ) → AreOctets octets → octet 0 octets ≡ 16 + 6 → 2 ≤ words_of octets → 4 * words_of octets ≤ length octets → member_checked (source_of octets) ≡ Ok tt
    → Spells (Report (record { source = source_of octets; sequence = sequence_of octets; words = words_of octets; rest = drop 8 octets })) octets
report_spelled (c0 ∷ c1 ∷ c2 ∷ c3 ∷ c4 ∷ c5 ∷ c6 ∷ c7 ∷ rest) fits first least most source =
    let octets : List ℕ = c0 ∷ c1 ∷ c2 ∷ c3 ∷ c4 ∷ c5 ∷ c6 ∷ c7 ∷ rest in
    record {
      fits = record { source = member_is (source_of octets) (below_4 c4 c5 c6 c7 [] (fits 4) (fits 5) (fits 6) (fits 7)) source; sequence = below_2 c2 c3 [] (fits 2) (fits 3); least = least; most = fits 1; whole = omega (arith, most) };
      reserved = [];
      many = refl;
      spelled = sym (
          ap (λ (t : List ℕ). (t) ++ (rest)) (front_spelled 6 c1 c0 c1 c2 c3 c4 c5 c6 c7 first refl (fits 2) (fits 3) (fits 4) (fits 5) (fits 6) (fits 7)));
    }
report_spelled _ fits first least most source = absurd (omega arith)
