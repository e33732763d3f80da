-- The bytes of a message that fits are framed.
use Rattle.std.proofs.Common.{◌≡◌, ◌≤◌, ◌<◌, ◌^◌, ◌-◌, ℕ, ℤ, ◌+◌, min, false, List, [], ◌∷◌, ◌++◌, length, None, FitsSigned, refl, sym, ap, ◌∙◌, subst, arith, length-append}
use Rattle.std.specs.Int.{w32, cast_signed, cast_unsigned}
use Rattle.std.proofs.Math.Facts.{Fits-of_z}
use Rattle.std.proofs.lemmas.Int.{to_z-of_z}
use Rattle.std.proofs.lemmas.List.{append_assoc, append-nil}
use Rattle.byteorder.specs.Endian.{little_number}
use Rattle.byteorder.specs.Numbers.{length-bytes_low_first, little_number-reads_back}
use Rattle.bson_doc.specs.declared.value.Document.{Document}
use Rattle.bson_doc.specs.wire.Spelling.{IsNumber32, Spells}
use Rattle.bson_doc.specs.wire.Spelled.{number32, spelled}
use Rattle.msg_wire.specs.Flags.{refused_bit, checksum_size, is_set}
use Rattle.msg_wire.specs.Framing.{IsSigned, IsHeader, Framed, header, framing, frame, message_of}

size-number32 : (n : ℕ) → length (number32 n) ≡ 4
size-number32 n = length-bytes_low_first 0 4 n

little_number-number32 : (n : ℕ) → n < 2 ^ 32 → little_number 4 (number32 n) ≡ n
little_number-number32 n h = ap (little_number 4) (sym (append-nil (number32 n))) ∙ little_number-reads_back 4 n [] h

IsNumber32-number32 : (n : ℕ) → n < 2 ^ 32 → IsNumber32 (number32 n) n
IsNumber32-number32 n h = record { size = size-number32 n; reads = little_number-number32 n h }

IsSigned-number32 : (z : ℤ) → FitsSigned w32 z → IsSigned (number32 (cast_unsigned w32 z)) z
IsSigned-number32 z h = record {
  size = size-number32 (cast_unsigned w32 z);
  reads = ap (cast_signed w32) (little_number-number32 (cast_unsigned w32 z) (Fits-of_z h).fits) ∙ to_z-of_z w32 z h;
}

IsHeader-header : (total : ℕ) (id to : ℤ) → total < 2 ^ 32 → FitsSigned w32 id → FitsSigned w32 to → IsHeader (header total id to) total id to
unfolding header
IsHeader-header total id to t i o = record {
  total_field = number32 total;
  id_field = number32 (cast_unsigned w32 id);
  to_field = number32 (cast_unsigned w32 to);
  code_field = number32 2013;
  parts = simp append_assoc;
  is_total = IsNumber32-number32 total t;
  is_id = IsSigned-number32 id i;
  is_to = IsSigned-number32 to o;
  is_code = IsNumber32-number32 2013 (omega arith);
}

length-header : (total : ℕ) (id to : ℤ) → length (header total id to) ≡ 16
unfolding header
length-header total id to = refl

pub length-framing : (id to : ℤ) (flags : ℕ) (spelling : List ℕ) → length (framing id to flags spelling) ≡ length spelling + 21
unfolding framing
length-framing id to flags spelling =
    let a = length-header (length spelling + 21) id to in
    let b = length-append (header (length spelling + 21) id to) (number32 flags) in
    let c = length-append (header (length spelling + 21) id to ++ number32 flags) (0 ∷ spelling) in
    omega (arith, a, b, c, size-number32 flags)

checksum_size-none : (flags : ℕ) → is_set flags 0 ≡ false → checksum_size flags ≡ 0
unfolding checksum_size
checksum_size-none flags none = rw none refl

-- The bytes with any spelling of the document are framed.
pub Framed-framing : (id to : ℤ) (flags : ℕ) (spelling : List ℕ) (body : Document) → FitsSigned w32 id → FitsSigned w32 to → flags < 2 ^ 32 → refused_bit flags ≡ None → is_set flags 0 ≡ false
    → Spells spelling body → length (framing id to flags spelling) ≤ 48000000
    → Framed (framing id to flags spelling) (record { id = id; to = to; flags = flags; body = body; sequences = []; length = length (framing id to flags spelling) })
unfolding framing
Framed-framing id to flags spelling body i o f known none spells size =
    let total = length-framing id to flags spelling in
    let front = IsHeader-header (length spelling + 21) id to (omega arith) i o in
    record {
      header = header (length spelling + 21) id to;
      flags = number32 flags;
      sections = 0 ∷ spelling;
      checksum = [];
      parts = append_assoc (header (length spelling + 21) id to) (number32 flags) (0 ∷ spelling) ∙ ap (λ (xs : List ℕ). header (length spelling + 21) id to ++ (number32 flags ++ xs)) (sym (append-nil (0 ∷ spelling)));
      is_header = subst (λ (n : ℕ). IsHeader (header (length spelling + 21) id to) n id to) (sym total) front;
      is_flags = IsNumber32-number32 flags f;
      known = known;
      are_sections = record {
        front = [];
        section = 0 ∷ spelling;
        behind = [];
        earlier = [];
        later = [];
        parts = sym (append-nil (0 ∷ spelling));
        are_earlier = refl;
        is_body = record { spelling = spelling; parts = refl; spells = spells };
        are_later = refl;
        in_order = refl;
      };
      is_checksum = sym (checksum_size-none flags none);
      counted = refl;
      size = size;
    }

pub Framed-frame : (id to : ℤ) (flags : ℕ) (body : Document) → FitsSigned w32 id → FitsSigned w32 to → flags < 2 ^ 32 → refused_bit flags ≡ None → is_set flags 0 ≡ false
    → Spells (spelled body) body → length (frame id to flags body) ≤ 48000000 → Framed (frame id to flags body) (message_of id to flags body)
unfolding frame
Framed-frame id to flags body i o f known none spells size = Framed-framing id to flags (spelled body) body i o f known none spells size

pub length-frame : (id to : ℤ) (flags : ℕ) (body : Document) → length (frame id to flags body) ≡ length (spelled body) + 21
unfolding frame
length-frame id to flags body = length-framing id to flags (spelled body)

-- What stands in front of the document, and the document's one spelling, are the frame.
pub frame-parts : (id to : ℤ) (flags n : ℕ) (body : Document) → n ≡ length (spelled body) → (header (n + 21) id to ++ number32 flags ++ 0 ∷ []) ++ spelled body ≡ frame id to flags body
unfolding frame framing
frame-parts id to flags n body size =
    ap (λ (k : ℕ). (header (k + 21) id to ++ number32 flags ++ 0 ∷ []) ++ spelled body) size
    ∙ append_assoc (header (length (spelled body) + 21) id to ++ number32 flags) (0 ∷ []) (spelled body)

-- Of a document that has at most so many bytes as are left in a message, its size is told.
size-told : (k n : ℕ) → n ≡ min k (2 ^ 64 - 1) → n ≤ 47999979 → n ≡ k
size-told k n told fits = grind (arith, told)

pub size-fits : (n : ℕ) (body : Document) → n ≡ min (length (spelled body)) (2 ^ 64 - 1) → n ≤ 47999979 → n ≡ length (spelled body)
size-fits n body told fits = size-told (length (spelled body)) n told fits

size-more : (k n : ℕ) → n ≡ min k (2 ^ 64 - 1) → 47999979 < n → 47999979 < k
size-more k n told more = grind (arith, told)

-- A document with more makes the message too long.
pub frame-long : (id to : ℤ) (flags n : ℕ) (body : Document) → n ≡ min (length (spelled body)) (2 ^ 64 - 1) → 47999979 < n → 48000000 < length (frame id to flags body)
frame-long id to flags n body told more = let k = size-more (length (spelled body)) n told more in omega (arith, length-frame id to flags body)

-- One with no more does not.
pub frame-fits : (id to : ℤ) (flags n : ℕ) (body : Document) → n ≡ min (length (spelled body)) (2 ^ 64 - 1) → n ≤ 47999979 → length (frame id to flags body) ≤ 48000000
frame-fits id to flags n body told fits = omega (arith, length-frame id to flags body, size-fits n body told fits)
