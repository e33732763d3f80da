-- The frame of a message by the places of its fields, and that it is the frame by parts.
use Rattle.std.proofs.Common.{◌≡◌, ◌≤◌, ℕ, ◌+◌, List, [], ◌++◌, length, drop, None, refl, sym, ap, ◌∙◌, arith, length-append}
use Rattle.std.specs.Int.{w32, cast_signed}
use Rattle.std.proofs.lemmas.List.{append_assoc, drop_at, drop-drop, length-drop, take-append-drop}
use Rattle.byteorder.specs.Endian.{little_number}
use Rattle.msg_wire.specs.Fields.{number_at, signed_at}
use Rattle.msg_wire.specs.Flags.{refused_bit, checksum_size}
use Rattle.msg_wire.specs.Framing.{AreSections, Framed}
use Rattle.msg_wire.specs.declared.message.Message.{Message}
use Rattle.msg_wire.proofs.Places.{field_at, number_at-field, number-field_at, size-field_at}
use Rattle.msg_wire.proofs.Sizes.{length-AreSections}

-- The bytes frame the message, by places.
pub record FramedByPlaces (bytes : List ℕ) (message : Message) : Type 0 where
  pub least : 26 ≤ length bytes
  pub size : length bytes ≤ 48000000
  pub total : number_at 0 bytes ≡ length bytes
  pub id : signed_at 4 bytes ≡ message.id
  pub to : signed_at 8 bytes ≡ message.to
  pub code : number_at 12 bytes ≡ 2013
  pub flags : number_at 16 bytes ≡ message.flags
  pub known : refused_bit message.flags ≡ None
  pub sections : List ℕ
  pub checksum : List ℕ
  pub behind : drop 20 bytes ≡ sections ++ checksum
  pub are_sections : AreSections sections message.body message.sequences
  pub is_checksum : length checksum ≡ checksum_size message.flags
  pub counted : message.length ≡ length bytes

-- Five parts, the first four of which have four bytes, and the place of each.
parts_at : (bytes t i o c f rest : List ℕ) → bytes ≡ (t ++ (i ++ (o ++ c))) ++ (f ++ rest)
    → length t ≡ 4 → length i ≡ 4 → length o ≡ 4 → length c ≡ 4 → length f ≡ 4
    → (number_at 0 bytes ≡ little_number 4 t) × (number_at 4 bytes ≡ little_number 4 i) × (number_at 8 bytes ≡ little_number 4 o)
    × (number_at 12 bytes ≡ little_number 4 c) × (number_at 16 bytes ≡ little_number 4 f) × (drop 20 bytes ≡ rest)
parts_at bytes t i o c f rest whole lt li lo lc lf =
    let at0 : bytes ≡ [] ++ (t ++ (i ++ (o ++ (c ++ (f ++ rest))))) = whole ∙ simp append_assoc in
    let at4 : bytes ≡ t ++ (i ++ (o ++ (c ++ (f ++ rest)))) = whole ∙ simp append_assoc in
    let at8 : bytes ≡ (t ++ i) ++ (o ++ (c ++ (f ++ rest))) = whole ∙ simp append_assoc in
    let at12 : bytes ≡ (t ++ (i ++ o)) ++ (c ++ (f ++ rest)) = whole ∙ simp append_assoc in
    let at16 : bytes ≡ (t ++ (i ++ (o ++ c))) ++ (f ++ rest) = whole in
    let at20 : bytes ≡ (t ++ (i ++ (o ++ (c ++ f)))) ++ rest = whole ∙ simp append_assoc in
    let n8 : length (t ++ i) ≡ 8 = omega (arith, length-append t i) in
    let n12 : length (t ++ (i ++ o)) ≡ 12 = omega (arith, length-append t (i ++ o), length-append i o) in
    let n16 : length (t ++ (i ++ (o ++ c))) ≡ 16 = omega (arith, length-append t (i ++ (o ++ c)), length-append i (o ++ c), length-append o c) in
    let n20 : length (t ++ (i ++ (o ++ (c ++ f)))) ≡ 20 = omega (arith, length-append t (i ++ (o ++ (c ++ f))), length-append i (o ++ (c ++ f)), length-append o (c ++ f), length-append c f) in (
      ap (number_at 0) at0 ∙ number_at-field [] t _ 0 refl lt,
      ap (number_at 4) at4 ∙ number_at-field t i _ 4 lt li,
      ap (number_at 8) at8 ∙ number_at-field (t ++ i) o _ 8 n8 lo,
      ap (number_at 12) at12 ∙ number_at-field (t ++ (i ++ o)) c _ 12 n12 lc,
      ap (number_at 16) at16 ∙ number_at-field (t ++ (i ++ (o ++ c))) f rest 16 n16 lf,
      ap (drop 20) at20 ∙ drop_at (t ++ (i ++ (o ++ (c ++ f)))) rest 20 n20,
    )

pub FramedByPlaces-from_Framed : (bytes : List ℕ) (message : Message) → Framed bytes message → FramedByPlaces bytes message
FramedByPlaces-from_Framed bytes message m =
    let h = m.is_header in
    let whole : bytes ≡ (h.total_field ++ (h.id_field ++ (h.to_field ++ h.code_field))) ++ (m.flags ++ (m.sections ++ m.checksum)) = m.parts ∙ ap (λ x. x ++ (m.flags ++ (m.sections ++ m.checksum))) h.parts in
    let at = parts_at bytes h.total_field h.id_field h.to_field h.code_field m.flags (m.sections ++ m.checksum) whole h.is_total.size h.is_id.size h.is_to.size h.is_code.size m.is_flags.size in
    let sized = ap length at.5 ∙ length-append m.sections m.checksum in
    record {
      least = omega (arith, length-drop 20 bytes, sized, length-AreSections m.sections message.body message.sequences m.are_sections);
      size = m.size;
      total = at.0 ∙ h.is_total.reads;
      id = ap (cast_signed w32) at.1 ∙ h.is_id.reads;
      to = ap (cast_signed w32) at.2 ∙ h.is_to.reads;
      code = at.3 ∙ h.is_code.reads;
      flags = at.4 ∙ m.is_flags.reads;
      known = m.known;
      sections = m.sections;
      checksum = m.checksum;
      behind = at.5;
      are_sections = m.are_sections;
      is_checksum = m.is_checksum;
      counted = m.counted;
    }

field_behind : (place : ℕ) (bytes : List ℕ) → field_at place bytes ++ drop (place + 4) bytes ≡ drop place bytes
field_behind place bytes = ap (λ x. field_at place bytes ++ x) (sym (drop-drop 4 place bytes)) ∙ take-append-drop 4 (drop place bytes)

pub Framed-from_places : (bytes : List ℕ) (message : Message) → FramedByPlaces bytes message → Framed bytes message
Framed-from_places bytes message p =
    let a = field_behind 0 bytes in
    let b = field_behind 4 bytes in
    let c = field_behind 8 bytes in
    let d = field_behind 12 bytes in
    let e = field_behind 16 bytes in
    let parts : bytes ≡ (field_at 0 bytes ++ (field_at 4 bytes ++ (field_at 8 bytes ++ field_at 12 bytes))) ++ (field_at 16 bytes ++ drop 20 bytes) =
    sym (simp (append_assoc, e, d, c, b, a)) in
    let fields : List ℕ = field_at 0 bytes ++ (field_at 4 bytes ++ (field_at 8 bytes ++ field_at 12 bytes)) in
    let least = p.least in
    record {
      header = field_at 0 bytes ++ (field_at 4 bytes ++ (field_at 8 bytes ++ field_at 12 bytes));
      flags = field_at 16 bytes;
      sections = p.sections;
      checksum = p.checksum;
      parts = parts ∙ ap (λ (xs : List ℕ). fields ++ (field_at 16 bytes ++ xs)) p.behind;
      is_header = record {
        total_field = field_at 0 bytes;
        id_field = field_at 4 bytes;
        to_field = field_at 8 bytes;
        code_field = field_at 12 bytes;
        parts = refl;
        is_total = record { size = size-field_at 0 bytes (omega arith); reads = number-field_at 0 bytes (omega arith) ∙ p.total };
        is_id = record { size = size-field_at 4 bytes (omega arith); reads = ap (cast_signed w32) (number-field_at 4 bytes (omega arith)) ∙ p.id };
        is_to = record { size = size-field_at 8 bytes (omega arith); reads = ap (cast_signed w32) (number-field_at 8 bytes (omega arith)) ∙ p.to };
        is_code = record { size = size-field_at 12 bytes (omega arith); reads = number-field_at 12 bytes (omega arith) ∙ p.code };
      };
      is_flags = record { size = size-field_at 16 bytes (omega arith); reads = number-field_at 16 bytes (omega arith) ∙ p.flags };
      known = p.known;
      are_sections = p.are_sections;
      is_checksum = p.is_checksum;
      counted = p.counted;
      size = p.size;
    }
